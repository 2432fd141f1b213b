-- The scratch around a draw: zeros, then its edges with zeros behind them, then zeros again.
use mathlib.Core.Path.{◌≡◌, refl, sym, ap, subst, ◌∙◌}
use mathlib.Core.List.{List, [], ◌∷◌, ◌++◌}
use Prim.Native.Nat.{ℕ, zero, suc, ◌*◌, ◌≤◌}
use native.Mathlib.Omega.{arith}
use native.Mathlib.Numerals.{add-one}
use lib.IntN.{ℤ, pos}
use lib.ListN.{length, replicate, drop, length-take, length-drop, replicate-append-replicate}
use Rattle.std.specs.Prelude.{Ok}
use Rattle.lists.specs.Lists.{tab}
use Rattle.path.specs.declared.FixedMatrix.{FixedMatrix}
use Rattle.path.specs.Limits.{Limited}
use Rattle.path.specs.Matrices.{fixed_matrix}
use Rattle.path.specs.Segments.{fault_to}
use Rattle.path.specs.Curves.{path_edges}
use Rattle.path.specs.Stored.{put_edges}
use Rattle.path.proofs.Entries.{matrix_limited}
use Rattle.outline.proofs.Flattened.{Flattened, flattened, clear_behind}
use Rattle.scene.specs.Fields.{matrix_of, segments_of, coordinates_of, segment_count}
use Rattle.scene.specs.Accepted.{AcceptedDraw}
use Rattle.engine.specs.Picture.{draw_edges}
use Rattle.engine.specs.Rows.{Laid}

pub zeros_table : (n : ℕ) → replicate n (pos 0) ≡ tab n (λ j. pos 0)
zeros_table zero = refl
zeros_table (suc n) =
    sym (ap (λ (k : ℕ). replicate k (pos 0)) (add-one n))
    ∙ sym (replicate-append-replicate n 1 (pos 0))
    ∙ ap (λ (l : List ℤ). l ++ (pos 0 ∷ [])) (zeros_table n)

zeros_dropped : (k n : ℕ) → k ≤ n → replicate k (pos 0) ++ drop k (replicate n (pos 0)) ≡ replicate n (pos 0)
zeros_dropped zero n l = refl
zeros_dropped (suc k) zero l = absurd (omega arith)
zeros_dropped (suc k) (suc n) l = ap (λ (z : List ℤ). pos 0 ∷ z) (zeros_dropped k n (omega arith))

-- what `flatten` gets of draw d
module _ (edition : ℕ) (d : List ℕ) (m : FixedMatrix) (ss cs : List ℕ) (n : ℕ) (matrix : m ≡ fixed_matrix (matrix_of d)) (segments : ss ≡ segments_of d)
    (coordinates : cs ≡ coordinates_of edition d) (count : n ≡ segment_count d) (accepted : AcceptedDraw edition d) where
  limited : Limited m
  limited = subst Limited (sym matrix) (matrix_limited (matrix_of d) accepted.fields.matrix)

  faultless : fault_to m ss cs n ≡ Ok tt
  faultless = rw (matrix, segments, coordinates, count) accepted.path

  few : n ≤ 128
  few = omega (arith, count, accepted.fields.segments)

  pub flatten_asked : length d ≡ 2032 → ((n ≤ 128) × (n ≤ length ss)) × (Limited m × (fault_to m ss cs n ≡ Ok tt))
  flatten_asked e =
      let long : length ss ≡ 128 = ap length segments ∙ length-take 128 (drop 772 d) ∙ rw (length-drop 772 d) (omega arith) in
      ((few, omega (arith, few, long)), (limited, faultless))

  module _ (l q : List ℤ) (r : ℕ) (long : 12300 ≤ length l) (zeros : l ≡ replicate (length l) (pos 0)) (put : q ≡ put_edges l 0 (path_edges m ss cs n))
      (all : r ≡ length (path_edges m ss cs n)) where
    flat : Flattened m ss cs n l q r
    flat = flattened m ss cs n l q r few limited faultless (omega arith) put all

    pub edges_laid : Laid edition d q r
    unfolding draw_edges
    edges_laid = record {
      ready = record {
        few = flat.few;
        room = omega (arith, flat.room, long);
        small = flat.small;
        clear = clear_behind flat (zeros
            ∙ zeros_table (length l));
      };
      edges = flat.edges ∙ rw (matrix, segments, coordinates, count);
    }

    pub edges_cleared : replicate (r * 4) (pos 0) ++ drop (r * 4) q ≡ l
    edges_cleared =
        ap (λ (z : List ℤ). replicate (r * 4) (pos 0) ++ z) (flat.rest ∙ ap (drop (r * 4)) zeros)
        ∙ zeros_dropped (r * 4) (length l) (omega (arith, flat.few, long)) ∙ sym zeros
