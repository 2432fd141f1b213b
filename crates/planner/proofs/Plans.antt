-- What the planner proposes keeps to what the paper asks of it.
use mathlib.Core.Path.{◌≡◌, refl, sym, ap, subst, ◌∙◌}
use mathlib.Core.Bool.{Bool, true, false, true≢false, false≢true}
use mathlib.Core.List.{List, []}
use Prim.Native.Nat.{ℕ, ◌-◌, ◌/◌, ◌≤◌, ◌<◌}
use native.Mathlib.Omega.{arith}
use lib.ListN.{length}
use lib.IntN.{ℤ}
use borrow.Author.Tests.{lt-leb}
use Rattle.lists.specs.Lists.{tab, over}
use Rattle.rect.specs.declared.Rect.{Rect}
use Rattle.rect.specs.Rects.{Inside, Holds, none, empty_of, smallest}
use Rattle.rect.proofs.Laws.{either, empty_out, not_empty}
use Rattle.scene.specs.Header.{width_of, height_of}
use Rattle.scene.specs.Accepted.{AcceptedScene}
use Rattle.damage.specs.Damage.{changed_boxes, same_background, damage}
use Rattle.damage.proofs.Changes.{damage_boxes, damage_whole}
use Rattle.damage.proofs.Smallest.{damage_holds, damage_none, damage_on}
use Rattle.regions.specs.Pixels.{in_any}
use Rattle.regions.specs.Proposals.{proposed, to_cover, Acceptable}
use Rattle.regions.specs.Answers.{changes}
use Rattle.regions.proofs.Accepted.{has_accepted}
use Rattle.regions.specs.Planned.{past, FreeLine, LeftLine, Planned}
use Rattle.planner.specs.Runs.{numbers_of, Sized}
use Rattle.planner.specs.Written.{Written}
use Rattle.planner.specs.Cuts.{opens}
use Rattle.planner.specs.Tilings.{Tiling, Divided}
use Rattle.planner.proofs.Lines.{line_opens, opens_true, untouched}
use Rattle.planner.proofs.Numbers.{any_yes, any_at, any_no, numbers_length, numbers_count, rect_back, rect_lies, proposed_back}

module _ (old new : List ℕ) where
  -- the area is the smallest rectangle round what a proposal has to cover
  pub area_round : AcceptedScene new → damage old new ≡ smallest (changes old new)
  unfolding to_cover
  area_round s =
      either (same_background old new)
      (λ e. damage_boxes (width_of new) (height_of new) old new e ∙ rw e)
      (λ e.
      damage_whole (width_of new) (height_of new) old new e
      ∙ rw (e, lt-leb (width_of new) 0 (omega (arith, s.width_least)), lt-leb (height_of new) 0 (omega (arith, s.height_least))))

  -- ---- nothing for an empty area
  module _ (e : empty_of (damage old new) ≡ true) where
    box_empty : (b : Rect) → Holds (damage old new) b → empty_of b ≡ true
    box_empty b h =
        either (empty_of b) (λ q. q)
        (λ q.
        let w = not_empty b q in
        absurd (empty_out (damage old new) b.x0 b.y0 e
        (h b.x0 b.y0 (record { left = omega arith; right = w.wide; below = omega arith; above = w.high }))))

    area_none : same_background old new ≡ true → damage old new ≡ none
    area_none b =
        damage_none (width_of new) (height_of new) old new b
        (λ i l c. (let h = damage_holds (width_of new) (height_of new) old new b i l c in (box_empty _ h.0, box_empty _ h.1)))

    no_line_lem : (upright : Bool) (c : ℕ) → c < past upright none → ⊥
    no_line_lem true c l = omega arith
    no_line_lem false c l = omega arith

    pub planned_nothing : Planned old new []
    planned_nothing =
        record {
          accepted = λ q. absurd (true≢false (sym e ∙ q));
          nothing = λ q. refl;
          within = λ x y q. absurd (false≢true q);
          parted = λ b upright c f. absurd (no_line_lem upright c (rw (area_none b) at f.to));
        }

  -- ---- up to four rectangles for another
  module _
      (m : ℕ) (boxes : ℕ → Rect) (n : ℕ) (rs : ℕ → Rect) (is : tab m boxes ≡ changes old new) (d : Divided m boxes (damage old new) n rs)
    where
      t : Tiling m boxes (damage old new) n rs
      t = d.tiling

      back : proposed (numbers_of n rs) ≡ tab n rs
      back = proposed_back n rs t.wide t.tall

      corner : (k : ℕ) → k < n → Inside (damage old new) ((rs k).x1 - 1) ((rs k).y1 - 1)
      corner k l =
          t.lying k l ((rs k).x1 - 1) ((rs k).y1 - 1)
          (record {
            left = omega (arith, t.wide k l);
            right = omega (arith, t.wide k l);
            below = omega (arith, t.tall k l);
            above = omega (arith, t.tall k l);
          })

      pub in_surface : (k : ℕ) → k < n → ((rs k).x1 ≤ width_of new) × ((rs k).y1 ≤ height_of new)
      in_surface k l =
          let o = damage_on (width_of new) (height_of new) old new in
          let i = corner k l in
          (omega (arith, o.wide, i.right), omega (arith, o.high, i.above))

      counted : (k : ℕ) → k < length (numbers_of n rs) / 4 → k < n
      counted k l = rw (numbers_count n rs) at l

      pub accepted_facts : Acceptable (width_of new) (height_of new) (changes old new) (numbers_of n rs)
      accepted_facts =
          record {
            whole = rw (numbers_length n rs) (omega arith);
            some = rw (numbers_length n rs) (omega (arith, t.some));
            few = rw (numbers_length n rs) (omega (arith, t.few));
            lying = λ k l.
                (let o = counted k l in
                let s = in_surface k o in
                rect_lies n rs k o (width_of new) (height_of new) (t.wide k o) (t.tall k o) s.0 s.1);
            disjoint = λ i j x y a b h q.
                (let o = counted i a in
                let p = counted j (omega (arith, a, b)) in
                let e = t.alone i j x y o p (rw (rect_back n rs i o (t.wide i o) (t.tall i o)) at h)
                (rw (rect_back n rs j p (t.wide j p) (t.tall j p)) at q) in
                omega (arith, e, b));
            covering = λ x y h.
                any_at m boxes x y (rw (← is) at h)
                (λ k l i. (let f = t.covering k x y l i in rw back (any_yes n rs x y f.0 f.1.0 f.1.1)));
          }

      in_area : (x y : ℕ) → in_any (proposed (numbers_of n rs)) x y ≡ true → Inside (damage old new) x y
      in_area x y h = any_at n rs x y (rw back at h) (λ k l i. t.lying k l x y i)

      -- a line is free in the paper's words and in the planner's
      module _ (b : same_background old new ≡ true) where
        boxes_are : tab m boxes ≡ changed_boxes (width_of new) (height_of new) old new
        unfolding to_cover
        boxes_are = is ∙ rw b

        to_opens : (upright : Bool) (c : ℕ) → FreeLine old new upright c → opens m boxes (damage old new) upright c ≡ true
        to_opens upright c f =
            line_opens m boxes (damage old new) upright c f.from f.to
            (λ k x y l e i. true≢false (sym (any_yes m boxes x y k l i) ∙ rw boxes_are (f.free x y e)))

        from_opens : (upright : Bool) (c : ℕ) → opens m boxes (damage old new) upright c ≡ true → FreeLine old new upright c
        from_opens upright c o =
            let l = opens_true m boxes (damage old new) upright c o in
            record {
              from = l.0;
              to = l.1.0;
              free = λ x y e. rw (← boxes_are) (any_no m boxes x y (λ k j i. untouched upright boxes c m l.1.1 k x y j e i));
            }

        in_parts_lem : (upright : Bool) (c : ℕ) → FreeLine old new upright c → (2 ≤ length (numbers_of n rs) / 4) × LeftLine old new (numbers_of n rs)
        in_parts_lem upright c f =
            let s = d.sparing upright c (to_opens upright c f) in (
              rw (numbers_count n rs) s.0,
              record {
                upright = s.1.0;
                at = s.1.1.0;
                line = from_opens s.1.0 s.1.1.0 s.1.1.1.0;
                left = λ x y e. rw back (any_no n rs x y (λ k l i. s.1.1.1.1 k x y l e i));
              },
            )

      pub planned_parts : empty_of (damage old new) ≡ false → Planned old new (numbers_of n rs)
      planned_parts e =
          record {
            accepted = λ q. has_accepted (width_of new) (height_of new) (changes old new) (numbers_of n rs) accepted_facts;
            nothing = λ q. absurd (true≢false (sym q ∙ e));
            within = in_area;
            parted = in_parts_lem;
          }

  -- ---- the plan by what is found of both scenes
  module _
      (s : AcceptedScene new) (w h m : ℕ) (boxes : ℕ → Rect) (area : Rect) (we : w ≡ width_of new) (he : h ≡ height_of new)
      (is : tab m boxes ≡ to_cover w h old new) (ar : area ≡ smallest (tab m boxes))
    where
      all_to_cover : tab m boxes ≡ changes old new
      all_to_cover = is ∙ rw (we, he)

      area_is : area ≡ damage old new
      area_is = ar ∙ ap smallest all_to_cover ∙ sym (area_round s)

      pub written_nothing : (out : List ℤ) → empty_of area ≡ true → Written old new 0 out out
      written_nothing out e =
          record {
            plan = [];
            planned = planned_nothing (sym (ap empty_of area_is) ∙ e);
            few = omega arith;
            long = refl;
            stored = refl;
          }

      module _ (n : ℕ) (rs : ℕ → Rect) (d : Divided m boxes area n rs) where
        in_damage : Divided m boxes (damage old new) n rs
        in_damage = subst (λ (a : Rect). Divided m boxes a n rs) area_is d

        pub parts_sized : Sized n rs
        parts_sized k l =
            let o = in_surface m boxes n rs all_to_cover in_damage k l in
            record {
              across = omega (arith, d.tiling.wide k l);
              wide = omega (arith, o.0, s.width_most);
              up = omega (arith, d.tiling.tall k l);
              high = omega (arith, o.1, s.height_most);
            }

        pub written_parts : (out t : List ℤ) → empty_of area ≡ false → t ≡ over (numbers_of n rs) out → Written old new n out t
        written_parts out t e q =
            record {
              plan = numbers_of n rs;
              planned = planned_parts m boxes n rs all_to_cover in_damage (sym (ap empty_of area_is) ∙ e);
              few = d.tiling.few;
              long = numbers_length n rs;
              stored = q;
            }
