-- The first fault of a path, segment by segment, and what a path without one has.
use mathlib.Core.Path.{◌≡◌, refl}
use mathlib.Core.List.{List}
use Prim.Native.Nat.{ℕ, zero, suc, ◌+◌, ◌<◌}
use native.Mathlib.Nat.{add-suc, add-zero}
use native.Mathlib.Omega.{arith}
use lib.Dec.{lit≤}
use lib.ListN.{get_or}
use Rattle.std.specs.Prelude.{Result, Ok, Err}
use Rattle.codes.specs.declared.Code.{Code}
use Rattle.codes.proofs.Judged.{both_accept, refuse_turn}
use Rattle.path.specs.declared.FixedMatrix.{FixedMatrix}
use Rattle.path.specs.declared.PathFault.{PathFault}
use Rattle.path.specs.Segments.{walk_to, fault_at, fault_to, segment_code}
use Rattle.path.specs.Answers.{checked_to}
use Rattle.path.specs.Limits.{Ready}
use Rattle.path.proofs.Codes.{ready_next}

module _ (m : FixedMatrix) (ss cs : List ℕ) where
  -- what the rules say of segment n, if the segments before it are accepted
  abbrev pub code_at : ℕ → Result Unit Code
  code_at n = segment_code m cs (walk_to ss cs n) (get_or ss n 0)

  abbrev fault : ℕ → Result Unit PathFault
  fault n = fault_at (code_at n) n

  none_at : (r : Result Unit Code) (n : ℕ) → fault_at r n ≡ Ok tt → r ≡ Ok tt
  none_at (Ok u) n e = refl
  none_at (Err c) n e = cc

  -- ---- accepted so far
  pub accepted_before : (n : ℕ) → fault_to m ss cs (suc n) ≡ Ok tt → (fault_to m ss cs n ≡ Ok tt) × (code_at n ≡ Ok tt)
  accepted_before n e =
      let b = both_accept (fault_to m ss cs n) (fault n) e in
      (b.0, none_at (code_at n) n b.1)

  pub accepted_next : (n : ℕ) → fault_to m ss cs n ≡ Ok tt → code_at n ≡ Ok tt → fault_to m ss cs (suc n) ≡ Ok tt
  accepted_next n a b = rw (a, b)

  pub accepted_ready : (n : ℕ) → fault_to m ss cs n ≡ Ok tt → Ready cs (walk_to ss cs n)
  accepted_ready zero e = record {
    held = record { start = record { x = lit≤ tt; y = lit≤ tt }; current = record { x = lit≤ tt; y = lit≤ tt }; control = record { x = lit≤ tt; y = lit≤ tt } };
    there = omega arith;
  }
  accepted_ready (suc n) e =
      let b = accepted_before n e in
      ready_next m cs (walk_to ss cs n) (get_or ss n 0) (accepted_ready n b.0) b.1

  -- and so are the segments before any
  pub accepted_below : (i d : ℕ) → fault_to m ss cs (i + d) ≡ Ok tt → fault_to m ss cs i ≡ Ok tt
  accepted_below i zero e = rw add-zero at e
  accepted_below i (suc d) e = accepted_below i d (accepted_before (i + d) (rw add-suc at e)).0

  -- ---- as an answer
  pub checked_refused : (i : ℕ) (k : Code) (n : ℕ) → i < n → fault_to m ss cs i ≡ Ok tt → code_at i ≡ Err k
      → Err (record { code = k; segment = i }) ≡ checked_to m ss cs n
  unfolding checked_to
  checked_refused i k n l a b =
      let e : fault i ≡ Err (record { code = k; segment = i }) = rw b in
      let f = refuse_turn fault i n (record { code = k; segment = i }) l a e in
      rw f

  pub checked_accepted : (n u : ℕ) → fault_to m ss cs n ≡ Ok tt → u ≡ (walk_to ss cs n).used → Ok u ≡ checked_to m ss cs n
  unfolding checked_to
  checked_accepted n u e q = rw (e, q)
