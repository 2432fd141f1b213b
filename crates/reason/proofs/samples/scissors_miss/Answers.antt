-- `samples::scissors_miss` meets its contract.
use mathlib.Core.Path.{sym, ap₂, subst, ◌∙◌}
use mathlib.Core.Bool.{not}
use mathlib.Core.List.{List}
use Prim.Native.Nat.{ℕ, ◌*◌, ◌≤◌}
use native.Mathlib.Omega.{arith}
use lib.ListN.{length}
use Rattle.coverage.specs.Scissors.{in_scissors}
use Rattle.engine.proofs.Paints.{scissors_length}
use Rattle.reason.proofs.Single.{missed}
use Rattle.reason.proofs.samples.scissors_miss.Goals as goal

pub scissor_row-requires-clause-n_bound : goal.scissor_row-requires-clause-n_bound
scissor_row-requires-clause-n_bound c =
    let p = c.requires in
    let n = c.scissor_count in
    let few : n.result ≤ 4 = omega (arith, n.ensures.0, p.d_len.1) in
    let long = scissors_length c.args.d.now p.d_len.0 in
    (few, subst (λ (z : List ℕ). 16 * n.result ≤ length z) (sym c.scissors.ensures) (omega (arith, n.ensures.0, p.d_len.1, long)))

pub returns : goal.returns
returns c =
    let a = c.args in
    let n = c.scissor_count in
    missed c.scissors.result.now n.result a.x a.y _ c.scissor_row.ensures
    ∙ ap₂ (λ (z : List ℕ) (k : ℕ). not (in_scissors z k a.x a.y)) c.scissors.ensures n.ensures.0
