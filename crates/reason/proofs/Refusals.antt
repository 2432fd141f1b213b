-- What holds where no fault is found, and the answers by what is found.
use mathlib.Core.Path.{◌≡◌, refl, sym, ◌∙◌}
use mathlib.Core.List.{List}
use mathlib.Core.Bool.{Bool, true, false, cond, not, ◌&&◌}
use Prim.Native.Nat.{ℕ, ◌+◌, ◌*◌, ◌≤◌, ◌<◌}
use native.Mathlib.Omega.{arith}
use lib.Dec.{ltb, eqb}
use lib.ListN.{get_or, length}
use borrow.Author.Tests.{le-ltb, lt-ltb, ltb-true, eqb-true, not-true, not-false}
use Rattle.std.specs.Prelude.{Result, Ok, Err, is_err}
use Rattle.codes.specs.declared.Code.TheVariants.{IllegalArgument, UnsupportedImageFormat}
use Rattle.codes.proofs.Judged.{both_accept}
use Rattle.rect.proofs.Laws.{both}
use Rattle.color.specs.declared.Pixel.{Pixel}
use Rattle.scene.specs.declared.Fault.{Fault}
use Rattle.scene.specs.Blocks.{draw_of}
use Rattle.scene.specs.Header.{width_of, height_of, count_of, edition_of}
use Rattle.scene.specs.Fields.{uses_mask}
use Rattle.scene.specs.Faults.{fault, demand}
use Rattle.scene.specs.Rules.{scene_fault}
use Rattle.scene.proofs.Accepted.{met, draws_passed, asks_lent}
use Rattle.engine.specs.Picture.{draw_mask, mask_at}
use Rattle.engine.specs.Rows.{MaskForScene}
use Rattle.render.specs.Answers.{Mask, mask_wrong, mask_bytes}
use Rattle.render.proofs.Faulty.{Faulty, demanded, then, fault_has}
use Rattle.render.proofs.Draws.{fault_draw}
use Rattle.reason.specs.Explanations.{no_line, bare_line, lent_fault, pixel_fault, scene_line, refused_start, accepted_start, start_of, line_answer}
use Rattle.reason.specs.Lines.{byte_for}

mask_fits : (t : Bool) (n k : ℕ) → not (t && not (eqb n k)) ≡ true → t ≡ true → n ≡ k
mask_fits true n k h e = eqb-true n k (not-false _ (not-true _ h))
mask_fits false n k h e = cc

-- ---- no fault
pub record Ready (s : List ℕ) (m : Mask) (x y : ℕ) : Type 0 where
  pub scene : scene_fault m.lent s ≡ Ok tt
  pub mask : m.lent ≡ true → length m.bytes ≡ width_of s * height_of s
  pub across : x < width_of s
  pub up : y < height_of s

module _ (s : List ℕ) (m : Mask) (x y : ℕ) where
  pub pixel_ready : pixel_fault s m x y ≡ Ok tt → Ready s m x y
  unfolding pixel_fault lent_fault
  pixel_ready e =
      let w = width_of s in
      let h = height_of s in
      let masked : Result Unit Fault = demand (not (mask_wrong m (w * h))) (fault UnsupportedImageFormat 64 0) in
      let there : Result Unit Fault = demand (ltb x w && ltb y h) (fault IllegalArgument 64 0) in
      let p = both_accept (scene_fault m.lent s) (lent_fault w h m x y) e in
      let q = both_accept masked there p.1 in
      let inside = both (ltb x w) (ltb y h) (met (ltb x w && ltb y h) _ q.1) in
      record {
        scene = p.0;
        mask = mask_fits m.lent (length m.bytes) (w * h) (met (not (mask_wrong m (w * h))) _ q.0);
        across = ltb-true x w inside.0;
        up = ltb-true y h inside.1;
      }

  -- its draw number
  fault_number : Faulty (λ f. f.draw ≤ 64) (pixel_fault s m x y)
  unfolding pixel_fault lent_fault
  fault_number =
      then (fault_draw m.lent s)
      (then (demanded _ (fault UnsupportedImageFormat 64 0) (omega arith)) (demanded _ (fault IllegalArgument 64 0) (omega arith)))

  module _ (r : Ready s m x y) where
    lent_asked : (i : ℕ) → i < count_of s → uses_mask (draw_of s i) ≡ true → m.lent ≡ true
    lent_asked i l = asks_lent (draw_of s i) m.lent (edition_of s) (draws_passed s m.lent r.scene i l)

    pub mask_asked : MaskForScene s (height_of s * width_of s) m.bytes
    mask_asked i l asks = r.mask (lent_asked i l asks) ∙ omega arith

    -- where no mask is lent, no draw asks for it
    pub byte_read_lem : (i : ℕ) → i < count_of s
        → byte_for (draw_of s i) m.bytes (y * width_of s + x) ≡ draw_mask (draw_of s i) (mask_at (width_of s) (mask_bytes m)) x y
    unfolding draw_mask
    byte_read_lem i l = by (uses_mask (draw_of s i)) refl
      where
        by : (t : Bool) → uses_mask (draw_of s i) ≡ t
            → cond t (get_or m.bytes (y * width_of s + x) 0) 255 ≡ cond t (get_or (mask_bytes m) (y * width_of s + x) 0) 255
        by true e = let lent = lent_asked i l e in rw lent
        by false e = refl

  -- ---- answers: a fault f, or none
  module _ (f : Fault) (e : Err f ≡ pixel_fault s m x y) where
    pub told_number : f.draw ≤ 64
    told_number = fault_has (pixel_fault s m x y) f fault_number (sym e)

    pub start_refused : refused_start f ≡ start_of s m x y
    unfolding start_of
    start_refused = rw (← e)

  pub no_line_refused : (i : ℕ) (p : Pixel) (r : Result Unit Fault) → r ≡ pixel_fault s m x y → is_err r ≡ true
      → bare_line no_line p p ≡ line_answer s m x y i p
  unfolding line_answer
  no_line_refused i p (Ok u) e h = cc
  no_line_refused i p (Err f) e h = rw (← e)

  -- what is no fault accepts
  pub no_fault : (r : Result Unit Fault) → r ≡ pixel_fault s m x y → is_err r ≡ false → Ok tt ≡ pixel_fault s m x y
  no_fault (Ok tt) e h = e
  no_fault (Err f) e h = cc

  module _ (e : Ok tt ≡ pixel_fault s m x y) where
    pub passed_ready : Ready s m x y
    passed_ready = pixel_ready (sym e)

    pub start_accepted : accepted_start s ≡ start_of s m x y
    unfolding start_of
    start_accepted = rw (← e)

    module _ (i : ℕ) (p : Pixel) where
      pub no_line_past : count_of s ≤ i → bare_line no_line p p ≡ line_answer s m x y i p
      unfolding line_answer
      no_line_past l = rw (← e, le-ltb i (count_of s) l)

      pub line_there : i < count_of s → scene_line s m x y i p ≡ line_answer s m x y i p
      unfolding line_answer
      line_there l = rw (← e, lt-ltb i (count_of s) l)
