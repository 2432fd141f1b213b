use mathlib.Core.Path.{◌≡◌, ap, ◌∙◌}
use mathlib.Core.List.{List, ◌++◌}
use Prim.Native.Nat.{ℕ, ◌-◌, ◌*◌}
use native.Mathlib.Omega.{arith}
use lib.IntN.{ℤ, pos}
use lib.ListN.{length, take, drop, replicate}
use Rattle.lists.proofs.Laws.{part_length}
use Rattle.engine.proofs.edges.clear_edges.Goals as goal

pub returns : goal.returns
returns c =
    let a = c.args in
    let k : a.n * 4 - 0 ≡ a.n * 4 = omega arith in
    let part : length (take (a.n * 4 - 0) (drop 0 a.scratch.now)) ≡ a.n * 4 - 0 = part_length a.scratch.now 0 (a.n * 4) (omega arith) c.requires in
    ap (λ (z : List ℤ). z ++ drop (a.n * 4 - 0) a.scratch.now) (c.clear.ensures ∙ ap (λ (n : ℕ). replicate n (pos 0)) part)
    ∙ ap (λ (n : ℕ). replicate n (pos 0) ++ drop n a.scratch.now) k
