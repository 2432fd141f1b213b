-- The rules of a draw's path, from what the walk over it answers.
use mathlib.Core.Path.{◌≡◌, refl, sym, ◌∙◌}
use mathlib.Core.List.{List}
use mathlib.Core.Bool.{Bool, true, false, cond}
use Prim.Native.Nat.{ℕ, zero, suc, ◌+◌, ◌*◌, ◌≤◌}
use native.Mathlib.Omega.{arith}
use lib.ListN.{get_or, length}
use Rattle.std.specs.Prelude.{Result, Ok, Err}
use Rattle.std.specs.Result.{result_and, IsErrAnd, MatchResult}
use Rattle.lists.proofs.Laws.{part_length}
use Rattle.codes.specs.declared.Code.{Code}
use Rattle.codes.specs.First.{first_of}
use Rattle.path.specs.declared.PathFault.{PathFault}
use Rattle.path.specs.declared.FixedMatrix.{FixedMatrix}
use Rattle.path.specs.Matrices.{fixed_matrix}
use Rattle.path.specs.Segments.{fault_to, fault_at, segment_code, walk_to}
use Rattle.path.specs.Answers.{checked_to}
use Rattle.path.proofs.Faults.{accepted_ready}
use Rattle.scene.specs.Layout.{is_new, coordinates_at, draw_bytes}
use Rattle.scene.specs.Fields.{matrix_of, segments_of, coordinates_of, segment_count}
use Rattle.scene.specs.Rules.{in_path, told_by, path_rules}
use Rattle.scene.specs.declared.FieldFault.{FieldFault}
use Rattle.scene.proofs.First.{returned}
use Rattle.scene.proofs.Accepted.{told_none}

-- the coordinates begin before the draw's bytes end
coordinates_begin : (edition : ℕ) → coordinates_at edition ≤ 932
unfolding coordinates_at
coordinates_begin edition = by (is_new edition)
  where
    by : (t : Bool) → cond t 932 900 ≤ 932
    by true = omega arith
    by false = omega arith

-- a fault's segment is among the first n
fault_segment : (m : FixedMatrix) (ss cs : List ℕ) (n : ℕ) (f : PathFault) → fault_to m ss cs n ≡ Err f → f.segment ≤ n
fault_segment m ss cs zero f e = cc
fault_segment m ss cs (suc n) f e =
    by (fault_to m ss cs n) (fault_segment m ss cs n f) (segment_code m cs (walk_to ss cs n) (get_or ss n 0)) e
  where
    by : (r : Result Unit PathFault) → (r ≡ Err f → f.segment ≤ n) → (c : Result Unit Code) → first_of r (fault_at c n) ≡ Err f → f.segment ≤ suc n
    by (Ok u) q (Ok v) h = cc
    by (Ok u) q (Err c) h = let k : n ≡ f.segment = cc in omega arith
    by (Err g) q c h = omega (arith, q h)

-- what is told of a walk: the judgement, and the number of coordinates that it used
told_walk : {A : Type 0} (f : Result Unit PathFault) (x : A) (r : Result A PathFault) (t : Result A FieldFault) → r ≡ result_and f (Ok x)
    → MatchResult r (λ y. t ≡ Ok y) (λ e. IsErrAnd t (λ y. y ≡ in_path e)) → t ≡ result_and (told_by in_path f) (Ok x)
told_walk (Ok u) x (Ok y) t e h = cc
told_walk (Ok u) x (Err k) t e h = cc
told_walk (Err g) x (Ok y) t e h = cc
told_walk (Err g) x (Err k) t e h = let q : k ≡ g = cc in returned t (in_path g) (rw (← q) h)

met : {A E : Type 0} (r : Result Unit E) (x : A) (e : E) → result_and r (Ok x) ≡ Err e → Err e ≡ r
met (Ok u) x e h = cc
met (Err f) x e h = cc

kept : {A E : Type 0} (r : Result Unit E) (x y : A) → result_and r (Ok x) ≡ Ok y → (Ok tt ≡ r) × (y ≡ x)
kept (Ok u) x y h = (refl, cc)
kept (Err e) x y h = cc

-- the walk was over the draw's own path
pub checked_of : (edition : ℕ) (d : List ℕ) (m : FixedMatrix) (ss cs : List ℕ) (n : ℕ) (r : Result ℕ PathFault)
    → m ≡ fixed_matrix (matrix_of d) → ss ≡ segments_of d → cs ≡ coordinates_of edition d → n ≡ segment_count d → r ≡ checked_to m ss cs n
    → r ≡ checked_to (fixed_matrix (matrix_of d)) (segments_of d) (coordinates_of edition d) (segment_count d)
checked_of edition d m ss cs n r a b c e f = cc

module _ (edition : ℕ) (d : List ℕ) (r : Result ℕ PathFault) (e : r ≡ checked_to (fixed_matrix (matrix_of d)) (segments_of d) (coordinates_of edition d)
    (segment_count d)) where
  abbrev walked : ℕ
  walked = (walk_to (segments_of d) (coordinates_of edition d) (segment_count d)).used

  here : r ≡ result_and (fault_to (fixed_matrix (matrix_of d)) (segments_of d) (coordinates_of edition d) (segment_count d)) (Ok walked)
  unfolding checked_to
  here = e

  pub path_segment : (f : PathFault) → r ≡ Err f → f.segment ≤ segment_count d
  path_segment f h =
      fault_segment (fixed_matrix (matrix_of d)) (segments_of d) (coordinates_of edition d) (segment_count d) f (sym (met _ walked f (sym here ∙ h)))

  module _ (t : Result ℕ FieldFault) (h : MatchResult r (λ y. t ≡ Ok y) (λ e. IsErrAnd t (λ y. y ≡ in_path e))) where
    path_told : t ≡ result_and (path_rules edition d) (Ok walked)
    unfolding path_rules
    path_told = told_walk _ walked r t here h

    pub path_met : (f : FieldFault) → t ≡ Err f → Err f ≡ path_rules edition d
    path_met f q = met (path_rules edition d) walked f (sym path_told ∙ q)

    module _ (used : ℕ) (q : t ≡ Ok used) where
      pub path_kept : Ok tt ≡ path_rules edition d
      path_kept = (kept (path_rules edition d) walked used (sym path_told ∙ q)).0

      pub path_used : used ≡ walked
      path_used = (kept (path_rules edition d) walked used (sym path_told ∙ q)).1

      calm : fault_to (fixed_matrix (matrix_of d)) (segments_of d) (coordinates_of edition d) (segment_count d) ≡ Ok tt
      unfolding path_rules
      calm = told_none in_path _ (sym path_kept)

      pub path_fits : length d ≡ draw_bytes → coordinates_at edition + 2 * used ≤ draw_bytes
      path_fits l =
          let ready = (accepted_ready (fixed_matrix (matrix_of d)) (segments_of d) (coordinates_of edition d) (segment_count d) calm).there in
          let first = coordinates_begin edition in
          omega (arith, ready, path_used, first, part_length d (coordinates_at edition) draw_bytes (omega (arith, first)) (omega (arith, l)))
