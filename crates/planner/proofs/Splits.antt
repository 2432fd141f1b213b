-- The rectangles of a run after a cut, and what they keep to from the first to the last.
use mathlib.Core.Path.{◌≡◌, refl, sym, ◌∙◌}
use mathlib.Core.List.{List}
use mathlib.Core.Bool.{Bool, true, false}
use Prim.Native.Nat.{ℕ, ◌+◌, ◌<◌}
use native.Mathlib.Omega.{arith}
use lib.ListN.{length, set, length-set}
use lib.Seq.{get_or-set_same, get_or-set_other}
use Rattle.std.specs.Prelude.{None, Some}
use Rattle.lists.specs.Lists.{tab}
use Rattle.rect.specs.declared.Rect.{Rect}
use Rattle.rect.specs.Rects.{none, empty_of, smallest}
use Rattle.rect.proofs.Laws.{either, neither, not_empty, Wide}
use Rattle.planner.specs.Runs.{rect_at}
use Rattle.planner.specs.declared.cuts.Cut.{Cut}
use Rattle.planner.specs.Cuts.{before, beyond, shrunk, opens, one_empty, split_run, split_count}
use Rattle.planner.specs.Tilings.{Tiling, Spared, Divided, Refined, Opening}
use Rattle.planner.proofs.Parts.{round_each}
use Rattle.planner.proofs.Tiling.{last_or, cut_tiling, cut_spares}
use Rattle.planner.proofs.Lines.{first_there, second_there, first_spared, second_spared}

-- ---- one cut more
module _ (m : ℕ) (boxes : ℕ → Rect) where
  pub refined_same : (n : ℕ) (rs : ℕ → Rect) → Refined m boxes n rs n rs
  refined_same n rs = record { grown = omega arith; tiling = λ area t. t; spared = λ upright c s. s }

  pub refined_on : (n k l : ℕ) (rs ss ts : ℕ → Rect) → Refined m boxes n rs k ss → Refined m boxes k ss l ts → Refined m boxes n rs l ts
  refined_on n k l rs ss ts p q =
      record {
        grown = omega (arith, p.grown, q.grown);
        tiling = λ area t. q.tiling area (p.tiling area t);
        spared = λ upright c s. q.spared upright c (p.spared upright c s);
      }

module _ (m : ℕ) (boxes : ℕ → Rect) (rs : List Rect) (n i : ℕ) (upright : Bool) (c : ℕ) where
  abbrev first : Rect
  first = shrunk m boxes (before upright (rect_at rs i) c)

  abbrev second : Rect
  second = shrunk m boxes (beyond upright (rect_at rs i) c)

  module _ (is : i < n) (fits : n < length rs) where
    first_put : rect_at (set (set rs i first) n second) i ≡ first
    first_put = get_or-set_other (set rs i first) n i second none (λ q. omega (arith, q, is)) ∙ get_or-set_same rs i first none (omega arith)

    second_put : rect_at (set (set rs i first) n second) n ≡ second
    second_put = get_or-set_same (set rs i first) n second none (simp length-set fits)

    others_kept : (k : ℕ) → k < n → (k ≡ i → ⊥) → rect_at (set (set rs i first) n second) k ≡ rect_at rs k
    others_kept k l e = get_or-set_other (set rs i first) n k second none (λ q. omega (arith, q, l)) ∙ get_or-set_other rs i k first none e

    split_parts : empty_of first ≡ false → empty_of second ≡ false → n < 4
        → Refined m boxes n (rect_at rs) (n + 1) (rect_at (set (set rs i first) n second))
    split_parts e f few =
        let ts = rect_at (set (set rs i first) n second) in
        let w : Wide (ts i) = rw first_put (not_empty first e) in
        let v : Wide (ts n) = rw second_put (not_empty second f) in
        record {
          grown = omega arith;
          tiling = λ area t. cut_tiling m boxes n (rect_at rs) ts i upright c is first_put second_put others_kept area t few w v;
          spared = λ other d s. cut_spares m boxes n (rect_at rs) ts i upright c is first_put second_put others_kept other d s;
        }

    -- what `split` leaves
    pub split_refined : (k : ℕ) (ts : List Rect) → n < 4 → k ≡ split_count m boxes rs n i upright c → ts ≡ split_run m boxes rs n i upright c
        → Refined m boxes n (rect_at rs) k (rect_at ts)
    unfolding split_run split_count
    split_refined k ts few e f =
        either (one_empty m boxes (rect_at rs i) upright c)
        (λ h. rw (e, f, h) (refined_same m boxes n (rect_at rs)))
        (λ h.
        let p = neither (empty_of first) (empty_of second) h in
        rw (e, f, h) (split_parts p.0 p.1 few))

-- ---- the first cut
module _ (m : ℕ) (boxes : ℕ → Rect) (area : Rect) (is : area ≡ smallest (tab m boxes)) (wide : Wide area) where
  -- the area alone
  one_tiling : (rs : ℕ → Rect) → rs 0 ≡ area → Tiling m boxes area 1 rs
  one_tiling rs e =
      record {
        some = omega arith;
        few = omega arith;
        lying = λ k l x y h. rw e at (rw (only k l) at h);
        wide = λ k l. rw (only k l, e) wide.wide;
        tall = λ k l. rw (only k l, e) wide.high;
        alone = λ i j x y k l h q. only i k ∙ sym (only j l);
        covering = λ k x y l h. (0, (omega arith, rw (e, is) (round_each m boxes k l x y h)));
      }
    where
      only : (k : ℕ) → k < 1 → k ≡ 0
      only k l = omega arith

  pub area_put : (rs ts : List Rect) → length rs ≡ 4 → ts ≡ set rs 0 area → (rect_at ts 0 ≡ area) × (1 < length ts)
  area_put rs ts e f = (rw f (get_or-set_same rs 0 area none (omega arith)), rw (f, length-set, e) (omega arith))

  module _ (rs : List Rect) (e : rect_at rs 0 ≡ area) where
    -- where no line is free
    pub start_one : Opening m boxes area None → Divided m boxes area 1 (rect_at rs)
    start_one o =
        record { tiling = one_tiling (rect_at rs) e; sparing = λ upright c h. absurd (o.no refl upright c h) }

    -- where one is
    module _ (cut : Cut) (o : Opening m boxes area (Some cut)) (fits : 1 < length rs) where
      open_line : opens m boxes area cut.upright cut.at ≡ true
      open_line = o.yes

      both_there : one_empty m boxes (rect_at rs 0) cut.upright cut.at ≡ false
      both_there =
          rw (
            e,
            first_there m boxes area is wide cut.upright cut.at open_line,
            second_there m boxes area is wide cut.upright cut.at open_line,
          )

      spared_both :
          Spared 2 (rect_at (set (set rs 0 (first m boxes rs 1 0 cut.upright cut.at)) 1 (second m boxes rs 1 0 cut.upright cut.at)))
          cut.upright cut.at
      spared_both k x y l q h =
          last_or k 1 l
          (λ s.
          second_spared m boxes area is wide cut.upright cut.at open_line x y q
          (rw (second_put m boxes rs 1 0 cut.upright cut.at (omega arith) fits, e) at (rw s at h)))
          (λ s.
          let z : k ≡ 0 = omega (arith, s) in
          first_spared m boxes area is wide cut.upright cut.at open_line x y q
          (rw (first_put m boxes rs 1 0 cut.upright cut.at (omega arith) fits, e) at (rw z at h)))

      pub start_two : (k : ℕ) (ts : List Rect) → k ≡ split_count m boxes rs 1 0 cut.upright cut.at
          → ts ≡ split_run m boxes rs 1 0 cut.upright cut.at → Divided m boxes area k (rect_at ts)
      unfolding split_run split_count
      start_two k ts g h =
          let r = split_refined m boxes rs 1 0 cut.upright cut.at (omega arith) fits k ts (omega arith) g h in
          record {
            tiling = r.tiling area (one_tiling (rect_at rs) e);
            sparing = λ upright c q. (rw (g, both_there) (omega arith), (cut.upright, (cut.at, (open_line, rw (g, h, both_there) spared_both))));
          }

  -- ---- the cuts after it
  pub divided_on : (n k : ℕ) (rs ts : ℕ → Rect) → Divided m boxes area n rs → Refined m boxes n rs k ts → Divided m boxes area k ts
  divided_on n k rs ts d r =
      record {
        tiling = r.tiling area d.tiling;
        sparing = λ upright c h.
            (let s = d.sparing upright c h in
            (omega (arith, s.0, r.grown), (s.1.0, (s.1.1.0, (s.1.1.1.0, r.spared s.1.0 s.1.1.0 s.1.1.1.1)))));
      }
