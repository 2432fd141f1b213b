-- The runs of a row, cut off behind those that are used.
use mathlib.Core.Path.{◌≡◌, refl, sym, ap, subst, ◌∙◌}
use mathlib.Core.List.{List}
use Prim.Native.Nat.{ℕ, zero, suc, ◌-◌, ◌/◌, ◌≤◌}
use native.Mathlib.Omega.{arith}
use lib.ListN.{length, take, drop, replicate, length-take}
use lib.Seq.{get_or-take}
use Rattle.lists.proofs.Laws.{upto_same}
use Rattle.runs.specs.Runs.{end_of, start_of, level_of, expand, Runs}
use Rattle.color.specs.declared.Pixel.{Pixel}
use Rattle.blend.specs.Rows.{Coverage, composite_row}
use Rattle.engine.specs.Rows.{levels, RowCoverage}
use Rattle.engine.proofs.RowLaws.{first_of}

module _ (runs : List ℕ) (n : ℕ) (h : n ≤ length runs) where
  taken_length : length (take n runs) ≡ n
  taken_length = simp length-take (omega arith)

  starts_taken : (j : ℕ) → j ≤ n → start_of (take n runs) j ≡ start_of runs j
  starts_taken zero l = refl
  starts_taken (suc j) l = ap (λ (x : ℕ). x / 32) (get_or-take n runs j 0 (omega arith))

  expand_taken : expand (take n runs) n ≡ expand runs n
  expand_taken =
      upto_same n (λ j. replicate (end_of (take n runs) j - start_of (take n runs) j) (level_of (take n runs) j))
      (λ j. replicate (end_of runs j - start_of runs j) (level_of runs j))
      (λ j l. rw (get_or-take n runs j 0 l, starts_taken j (omega arith)))

  levels_taken : levels (take (n - 0) (drop 0 runs)) ≡ expand runs n
  levels_taken = ap levels (first_of runs n) ∙ ap (expand (take n runs)) taken_length ∙ expand_taken

  pub taken_covered : (w : ℕ) → Runs runs n w → Coverage (expand runs n) → RowCoverage w (take (n - 0) (drop 0 runs))
  taken_covered w r k = (
    subst (λ (z : List ℕ). Runs z (length z) w) (sym (first_of runs n))
        (subst (λ (z : ℕ). Runs (take n runs) z w) (sym taken_length)
        (record {
          rises = λ j l. rw (starts_taken j (omega arith), starts_taken (suc j) (omega arith)) (r.rises j l);
          last = starts_taken n (omega arith) ∙ r.last;
        })),
    subst Coverage (sym levels_taken) k,
  )

  -- blended by them
  pub taken_row : (mode : ℕ) (mask : ℕ → ℕ) (paint : ℕ → Pixel) (d r : List ℕ)
      → r ≡ composite_row mode (levels (take (n - 0) (drop 0 runs))) mask paint d → r ≡ composite_row mode (expand runs n) mask paint d
  taken_row mode mask paint d r o = o ∙ ap (λ (z : List ℕ). composite_row mode z mask paint d) levels_taken
