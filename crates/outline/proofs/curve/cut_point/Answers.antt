-- `outline::curve::cut_point` meets its contract.
use mathlib.Core.Path.{◌≡◌, ◌∙◌}
use Prim.Native.Nat.{ℕ, ◌^◌, ◌≤◌, ◌<◌}
use lib.IntN.{ℤ, nat_abs}
use lib.Signed.{mag}
use mir.Syntax.{w32}
use mir.Val.{to_z, of_z}
use Rattle.fixed.proofs.Signed.{back, clean}
use Rattle.path.specs.Curves.{cut}
use Rattle.outline.specs.declared.Weights.{Weights}
use Rattle.outline.specs.Asked.{blended}
use Rattle.outline.proofs.curve.cut_point.Goals as goal

kept : (z : ℤ) → nat_abs z ≤ 8388608 → nat_abs (to_z w32 (of_z w32 z)) ≤ 8388608
kept z h = rw (clean w32 8388608 z tt h) h

-- one axis: its four numbers, as the locals hold them, and what is blended from them
asked : (a b c d : ℤ) → (i : nat_abs a ≤ 8388608) → (j : nat_abs b ≤ 8388608) → (k : nat_abs c ≤ 8388608) → (l : nat_abs d ≤ 8388608)
    → (nat_abs (to_z w32 (of_z w32 a)) ≤ 8388608) × (nat_abs (to_z w32 (of_z w32 b)) ≤ 8388608)
    × (nat_abs (to_z w32 (of_z w32 c)) ≤ 8388608) × (nat_abs (to_z w32 (of_z w32 d)) ≤ 8388608)
asked a b c d i j k l = (kept a i, kept b j, kept c k, kept d l)

told : (a b c d : ℤ) → (i : nat_abs a ≤ 8388608) → (j : nat_abs b ≤ 8388608) → (k : nat_abs c ≤ 8388608) → (l : nat_abs d ≤ 8388608)
    → (degree : ℕ) (w v : Weights) (r : ℤ) → mag r < 2 ^ 31 → w ≡ v
    → r ≡ blended degree w (to_z w32 (of_z w32 a)) (to_z w32 (of_z w32 b)) (to_z w32 (of_z w32 c)) (to_z w32 (of_z w32 d))
    → to_z w32 (of_z w32 r) ≡ blended degree v a b c d
told a b c d i j k l degree w v r h f e =
    back w32 r h ∙ e ∙ rw (clean w32 8388608 a tt i, clean w32 8388608 b tt j, clean w32 8388608 c tt k, clean w32 8388608 d tt l, f)

pub returns : goal.returns
unfolding cut
returns c =
    let across = c.blend in
    let up = c.blend-2 in
    let w = c.weights-w in
    let o = c.args.o in
    let curve = c.args.c in
    let d = c.requires.0.1 in
    let x = told o.x curve.p1.x curve.p2.x curve.p3.x c.requires.0.0.x d.p1.x d.p2.x d.p3.x
    curve.degree w.result _ across.result across.type_inv w.ensures.0 across.ensures.0 in
    let y = told o.y curve.p1.y curve.p2.y curve.p3.y c.requires.0.0.y d.p1.y d.p2.y d.p3.y
    curve.degree w.result _ up.result up.type_inv w.ensures.0 up.ensures.0 in
    (λ i. record { x = x i; y = y i }, record { x = kept across.result across.ensures.1; y = kept up.result up.ensures.1 })
