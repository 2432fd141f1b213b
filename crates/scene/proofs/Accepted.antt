-- What follows from a judgement that accepts: no rule was broken.
use mathlib.Core.Path.{◌≡◌, refl, sym, ◌∙◌}
use mathlib.Core.List.{List}
use mathlib.Core.Bool.{Bool, true, false, cond, not, ◌&&◌}
use Prim.Native.Nat.{ℕ, ◌+◌, ◌*◌, ◌%◌, ◌≤◌, ◌<◌}
use native.Mathlib.Omega.{arith}
use lib.ListN.{length}
use lib.Dec.{eqb, leb, ltb}
use lib.Ieee.{is_nan}
use borrow.Author.Tests.{eqb-true, leb-true, not-true}
use Rattle.std.specs.Prelude.{Result, Ok, Err}
use Rattle.codes.specs.declared.Code.TheVariants.{BadLength, BadChecksum}
use Rattle.codes.specs.First.{first_of, first_among}
use Rattle.codes.proofs.Judged.{both_accept, all_accept}
use Rattle.fixed.specs.Floats.{f32_at, at_most}
use Rattle.rect.proofs.Laws.{both}
use Rattle.blend.specs.PorterDuff.{is_mode}
use Rattle.paint.specs.Radial.{fixed_circle, focal_allowed}
use Rattle.path.specs.Matrices.{linear_limit, translation_limit, matrix_in_limits, fixed_matrix}
use Rattle.path.specs.Segments.{fault_to}
use Rattle.scene.specs.Layout.{block_bytes, payload_bytes, draw_limit, no_draw, flags_limit, segment_limit, scissor_limit}
use Rattle.scene.specs.Layout.{matrix_at, translation_at, color_at, linear_points_at, scissors_at, scissor_bytes, stops_at, stop_bytes, stop_floats}
use Rattle.scene.specs.Layout.{segments_at}
use Rattle.scene.specs.Layout.{radial_at, radial_floats}
use Rattle.scene.specs.Blocks.{block_number, block_right_from, block_of, draw_of}
use Rattle.scene.specs.Header.{width_of, height_of, count_of, edition_of}
use Rattle.scene.specs.Fields.{blend_of, paint_type_of, spread_of, segment_count, scissor_count, stop_count, matrix_of, segments_of, coordinates_of}
use Rattle.scene.specs.Fields.{flags_of, uses_mask, is_radial, radial_of, first_stop_at}
use Rattle.scene.specs.Faults.{demand, must, unused, limited, numbers, fault}
use Rattle.scene.specs.Rules.{linear_point_limit, is_paint, is_spread, flags_allowed, head_rules, stop_limit_of, count_rules, float_rules, flat_rule}
use Rattle.scene.specs.Rules.{path_rules}
use Rattle.scene.specs.Rules.{radial_limit, focal_rule, circle_rules, stop_rules, list_rules, transform_rules, rest_rules}
use Rattle.scene.specs.Rules.{draw_rules, is_side, header_rules, in_path, in_header, in_draw, told_by}
use Rattle.scene.specs.Rules.{check_faults, draw_fault_from, draw_fault, scene_fault_from, scene_fault}
use Rattle.scene.specs.Accepted.{AcceptedDraw, AcceptedScene}
use Rattle.scene.specs.declared.FieldFault.{FieldFault}

-- ---- a rule
pub met : {E : Type 0} (t : Bool) (e : E) → demand t e ≡ Ok tt → t ≡ true
met true e h = refl
met false e h = cc

obeyed : {E : Type 0} (t : Bool) (e : E) (g : Result Unit E) → first_of (demand t e) g ≡ Ok tt → (t ≡ true) × (g ≡ Ok tt)
obeyed true e g h = (refl, h)
obeyed false e g h = cc

-- a fault told in another way is none only where there was none
pub told_none : {E F : Type 0} (tell : E → F) (r : Result Unit E) → told_by tell r ≡ Ok tt → r ≡ Ok tt
told_none tell (Ok tt) h = refl
told_none tell (Err e) h = cc

each : (t : ℕ → Bool) (p : ℕ → ℕ) (n : ℕ) → first_among n (λ i. must (t i) (p i)) ≡ Ok tt → (i : ℕ) → i < n → t i ≡ true
each t p n h i l = met (t i) _ (all_accept (λ k. must (t k) (p k)) n h i l)

pub limits : (d : List ℕ) (b at n : ℕ) → limited d b at n ≡ Ok tt → (i : ℕ) → i < n → at_most b (f32_at d (at + 4 * i)) ≡ true
limits d b at n = each (λ i. at_most b (f32_at d (at + 4 * i))) (λ i. at + 4 * i) n

no_nans : (d : List ℕ) (at n : ℕ) → numbers d at n ≡ Ok tt → (i : ℕ) → i < n → is_nan (f32_at d (at + 4 * i)) ≡ false
no_nans d at n h i l = not-true _ (each (λ i. not (is_nan (f32_at d (at + 4 * i)))) (λ i. at + 4 * i) n h i l)

-- ---- a draw
pub record Counted (d : List ℕ) : Type 0 where
  pub segments : segment_count d ≤ segment_limit
  pub scissors : scissor_count d ≤ scissor_limit
  pub stops : stop_count d ≤ stop_limit_of d

module _ (d : List ℕ) where
  -- the stops end before the segments, and there are never more than 32
  pub stops_fit : stop_count d ≤ stop_limit_of d → first_stop_at d + stop_bytes * stop_count d ≤ segments_at
  unfolding stop_limit_of first_stop_at
  stops_fit = by (is_radial d)
    where
      by : (t : Bool) → stop_count d ≤ cond t 31 32 → cond t 152 132 + 20 * stop_count d ≤ 772
      by true h = omega arith
      by false h = omega arith

  pub few_stops : stop_count d ≤ stop_limit_of d → stop_count d ≤ 32
  unfolding stop_limit_of
  few_stops = by (is_radial d)
    where
      by : (t : Bool) → stop_count d ≤ cond t 31 32 → stop_count d ≤ 32
      by true h = omega arith
      by false h = omega arith

  counted : count_rules d ≡ Ok tt → Counted d
  unfolding count_rules
  counted h =
      let a = obeyed _ _ _ h in
      let b = obeyed _ _ _ a.1 in
      let c = obeyed _ _ _ b.1 in
      record { segments = leb-true _ _ a.0; scissors = leb-true _ _ b.0; stops = leb-true _ _ c.0 }

  record Headed (lent : Bool) (edition : ℕ) : Type 0 where
    pub flags : flags_allowed lent edition d ≡ true
    pub mode : is_mode (blend_of d) ≡ true
    pub paint_type : is_paint (paint_type_of d) ≡ true
    pub spread : is_spread (spread_of d) ≡ true
    pub counts : Counted d

  headed : (lent : Bool) (edition : ℕ) → head_rules lent edition d ≡ Ok tt → Headed lent edition
  unfolding head_rules
  headed lent edition h =
      let a = obeyed (flags_allowed lent edition d) _ _ h in
      let b = obeyed _ _ _ a.1 in
      let c = obeyed _ _ _ b.1 in
      let e = obeyed _ _ (count_rules d) c.1 in
      record { flags = a.0; mode = b.0; paint_type = c.0; spread = e.0; counts = counted e.1 }

  pub head_counted : (lent : Bool) (edition : ℕ) → head_rules lent edition d ≡ Ok tt → Counted d
  head_counted lent edition h = (headed lent edition h).counts

  record Measured : Type 0 where
    pub matrix : matrix_in_limits (matrix_of d) ≡ true
    pub color : (i : ℕ) → i < 4 → is_nan (f32_at d (color_at + 4 * i)) ≡ false
    pub points : (i : ℕ) → i < 4 → at_most linear_point_limit (f32_at d (linear_points_at + 4 * i)) ≡ true

  measured : float_rules d ≡ Ok tt → Measured
  unfolding float_rules
  measured h =
      let linear : Result Unit FieldFault = limited d linear_limit matrix_at 4 in
      let translation : Result Unit FieldFault = limited d translation_limit translation_at 2 in
      let color : Result Unit FieldFault = numbers d color_at 4 in
      let points : Result Unit FieldFault = limited d linear_point_limit linear_points_at 4 in
      let p = both_accept linear (first_of translation (first_of color points)) h in
      let q = both_accept translation (first_of color points) p.1 in
      let r = both_accept color points q.1 in
      let a = limits d linear_limit matrix_at 4 p.0 in
      let t = limits d translation_limit translation_at 2 q.0 in
      record {
        matrix = rw (a 0 (omega arith), a 1 (omega arith), a 2 (omega arith), a 3 (omega arith), t 0 (omega arith), t 1 (omega arith));
        color = no_nans d color_at 4 r.0;
        points = limits d linear_point_limit linear_points_at 4 r.1;
      }

  pub matrix_within : float_rules d ≡ Ok tt → matrix_in_limits (matrix_of d) ≡ true
  matrix_within h = (measured h).matrix

  record Listed : Type 0 where
    pub circle : is_radial d ≡ true → (i : ℕ) → i < radial_floats → at_most radial_limit (f32_at d (radial_at + 4 * i)) ≡ true
    pub focal : is_radial d ≡ true → focal_allowed (fixed_circle (radial_of d)) ≡ true
    pub stops : (i : ℕ) → i < stop_floats * stop_count d → is_nan (f32_at d (first_stop_at d + 4 * i)) ≡ false

  circle_kept : circle_rules d ≡ Ok tt → is_radial d ≡ true → (limited d radial_limit radial_at radial_floats ≡ Ok tt) × (focal_rule d ≡ Ok tt)
  unfolding circle_rules
  circle_kept h e = both_accept (limited d radial_limit radial_at radial_floats) (focal_rule d) (rw e at h)

  focal_kept : focal_rule d ≡ Ok tt → focal_allowed (fixed_circle (radial_of d)) ≡ true
  unfolding focal_rule
  focal_kept h = met (focal_allowed (fixed_circle (radial_of d))) _ h

  stops_kept : stop_rules d ≡ Ok tt → numbers d (first_stop_at d) (stop_floats * stop_count d) ≡ Ok tt
  unfolding stop_rules
  stops_kept h = (both_accept (numbers d (first_stop_at d) (stop_floats * stop_count d)) _ h).0

  listed : list_rules d ≡ Ok tt → Listed
  unfolding list_rules
  listed h =
      let p = both_accept (unused d (scissors_at + scissor_bytes * scissor_count d) stops_at) (first_of (circle_rules d) (stop_rules d)) h in
      let q = both_accept (circle_rules d) (stop_rules d) p.1 in
      record {
        circle = λ e. limits d radial_limit radial_at radial_floats (circle_kept q.0 e).0;
        focal = λ e. focal_kept (circle_kept q.0 e).1;
        stops = no_nans d (first_stop_at d) (stop_floats * stop_count d) (stops_kept q.1);
      }

  path_kept : (edition : ℕ) → path_rules edition d ≡ Ok tt
      → fault_to (fixed_matrix (matrix_of d)) (segments_of d) (coordinates_of edition d) (segment_count d) ≡ Ok tt
  unfolding path_rules
  path_kept edition h = told_none in_path _ h

  -- a draw that asks for the mask is accepted only where one is lent
  mask_lent : (lent : Bool) (edition : ℕ) → flags_allowed lent edition d ≡ true → uses_mask d ≡ true → lent ≡ true
  unfolding flags_allowed
  mask_lent true edition h e = refl
  mask_lent false edition h e = sym (not-true _ (both (ltb (flags_of d) (flags_limit edition)) (not (uses_mask d)) h).1) ∙ e

  pub asks_lent : (lent : Bool) (edition : ℕ) → draw_rules lent edition d ≡ Ok tt → uses_mask d ≡ true → lent ≡ true
  unfolding draw_rules
  asks_lent lent edition h = mask_lent lent edition (headed lent edition (both_accept (head_rules lent edition d) _ h).0).flags

  pub accepted_draw : (lent : Bool) (edition : ℕ) → draw_rules lent edition d ≡ Ok tt → AcceptedDraw edition d
  unfolding draw_rules
  accepted_draw lent edition h =
      let from-path : Result Unit FieldFault = first_of (path_rules edition d) (rest_rules edition d) in
      let from-flat : Result Unit FieldFault = first_of (flat_rule d) from-path in
      let from-transform : Result Unit FieldFault = first_of (transform_rules edition d) from-flat in
      let from-lists : Result Unit FieldFault = first_of (list_rules d) from-transform in
      let p = both_accept (head_rules lent edition d) (first_of (float_rules d) from-lists) h in
      let q = both_accept (float_rules d) from-lists p.1 in
      let r = both_accept (list_rules d) from-transform q.1 in
      let u = both_accept (transform_rules edition d) from-flat r.1 in
      let t = both_accept (flat_rule d) from-path u.1 in
      let s = both_accept (path_rules edition d) (rest_rules edition d) t.1 in
      let head = headed lent edition p.0 in
      let floats = measured q.0 in
      let lists = listed r.0 in
      record {
        fields = record {
          mode = head.mode;
          paint_type = head.paint_type;
          spread = head.spread;
          segments = head.counts.segments;
          scissors = head.counts.scissors;
          stops = head.counts.stops;
          matrix = floats.matrix;
          color = floats.color;
          points = floats.points;
          circle = lists.circle;
          focal = lists.focal;
          stop_floats = lists.stops;
        };
        path = path_kept edition s.0;
      }

-- ---- a scene
-- wherever the sums of the checks begin
module _ (start : ℕ → ℕ) (lent : Bool) (s : List ℕ) where
  pub record Passed : Type 0 where
    pub whole : (eqb (length s % block_bytes) 0 && leb block_bytes (length s)) ≡ true
    pub first : block_right_from start s 0 ≡ true
    pub header : header_rules s ≡ Ok tt
    pub bytes : length s ≡ block_bytes * block_of (count_of s)
    pub draws : (i : ℕ) → i < count_of s → draw_fault_from start lent s i ≡ Ok tt

  pub passed : scene_fault_from start lent s ≡ Ok tt → Passed
  unfolding scene_fault_from
  passed h =
      let p = obeyed (eqb (length s % block_bytes) 0 && leb block_bytes (length s)) (fault BadLength no_draw 0) _ h in
      let q = obeyed (block_right_from start s 0) (fault BadChecksum no_draw payload_bytes) _ p.1 in
      let r = both_accept (told_by in_header (header_rules s)) _ q.1 in
      let t = obeyed (eqb (length s) (block_bytes * block_of (count_of s))) (fault BadLength no_draw 0) _ r.1 in
      record {
        whole = p.0;
        first = q.0;
        header = told_none in_header (header_rules s) r.0;
        bytes = eqb-true _ _ t.0;
        draws = all_accept (draw_fault_from start lent s) (count_of s) t.1;
      }

module _ (s : List ℕ) where
  pub draw_none : (lent : Bool) (i : ℕ) → draw_fault lent s i ≡ Ok tt → draw_rules lent (edition_of s) (draw_of s i) ≡ Ok tt
  unfolding draw_fault_from
  draw_none lent i h = told_none (in_draw i) _ (both_accept (check_faults s i) (told_by (in_draw i) (draw_rules lent (edition_of s) (draw_of s i))) h).1

  record Bordered : Type 0 where
    pub width : is_side (width_of s) ≡ true
    pub height : is_side (height_of s) ≡ true
    pub count : count_of s ≤ draw_limit

  bordered : header_rules s ≡ Ok tt → Bordered
  unfolding header_rules
  bordered h =
      let a = obeyed _ _ _ h in
      let b = obeyed _ _ _ a.1 in
      let c = obeyed _ _ _ b.1 in
      record { width = a.0; height = b.0; count = leb-true _ _ c.0 }

  pub header_count : header_rules s ≡ Ok tt → count_of s ≤ draw_limit
  header_count h = (bordered h).count

  -- the rules of each draw are kept
  pub draws_passed : (lent : Bool) → scene_fault lent s ≡ Ok tt → (i : ℕ) → i < count_of s → draw_rules lent (edition_of s) (draw_of s i) ≡ Ok tt
  draws_passed lent h i l = draw_none lent i ((passed block_number lent s h).draws i l)

  pub accepted_scene : (lent : Bool) → scene_fault lent s ≡ Ok tt → AcceptedScene s
  accepted_scene lent h =
      let p = passed block_number lent s h in
      let b = bordered p.header in
      let width = both _ _ b.width in
      let height = both _ _ b.height in
      record {
        width_least = leb-true _ _ width.0;
        width_most = leb-true _ _ width.1;
        height_least = leb-true _ _ height.0;
        height_most = leb-true _ _ height.1;
        count = b.count;
        bytes = p.bytes;
        draws = λ i l. accepted_draw (draw_of s i) lent (edition_of s) (draws_passed lent h i l);
      }
