-- `radial_row::place_from` meets its contract.
use Rattle.std.proofs.Common.{◌≡◌, ℤ, pos, ◌+ℤ◌, ◌-ℤ◌, ◌*ℤ◌, ◌∙◌, ap₂, arith, w64, to_z, of_z}
use Rattle.fixed.proofs.Signed.{back}
use Rattle.fixed.proofs.Means.{Num, need, keep, lit, add, mul}
use Rattle.paint.specs.Radial.{along, under_root}
use Rattle.paint.specs.Circles.{place_from}
use Rattle.paint.proofs.Sizes.{sized}
use Rattle.paint.proofs.Focal.{q_small}
use Rattle.paint.proofs.radial_row.place_from.Goals as goal

abbrev r : goal.Start → Num
r s = sized 16384 s.args.r tt s.requires.r_bound.0

abbrev dx : goal.Start → Num
dx s = sized 32776 s.args.dx tt s.requires.r_bound.1

abbrev dy : goal.Start → Num
dy s = sized 32776 s.args.dy tt s.requires.r_bound.2

abbrev f : goal.Start → Num
f s = sized 32768 s.args.f tt s.requires.r_bound.3

abbrev g : goal.Start → Num
g s = sized 32768 s.args.g tt s.requires.r_bound.4

-- the next pixel's dx
abbrev next : goal.Start → Num
next s = add (dx s) (lit 16)

-- 16 f
abbrev product : goal.Start → Num
product s = mul (lit 16) (f s)

-- Q at a dx
abbrev q-at : goal.Start → ℤ → ℤ
q-at s u = under_root s.args.r u s.args.dy s.args.f s.args.g

here-is : (c : goal.After-under_root-q)
    → to_z w64 (of_z w64 c.under_root-q.result) ≡ q-at c.before c.args.dx
here-is c =
    let q = c.under_root-q in
    back w64 q.result q.type_inv ∙ q.ensures ∙ rw ((r c.before).same, (dx c.before).same, (dy c.before).same, (f c.before).same, (g c.before).same)

next-is : (c : goal.After-under_root)
    → to_z w64 (of_z w64 c.under_root.result)
    ≡ q-at c.before.before.before (c.args.dx +ℤ pos 16)
next-is c =
    let q = c.under_root in
    back w64 q.result q.type_inv ∙ q.ensures ∙ rw (
      (r c.before.before.before).same,
      (keep w64 (next c.before.before.before) tt).same,
      (dy c.before.before.before).same,
      (f c.before.before.before).same,
      (g c.before.before.before).same,
    )

along-is : (c : goal.After-along) → let a = c.args in to_z w64 (of_z w64 c.along.result) ≡ along a.dx a.dy a.f a.g
along-is c =
    let a = c.along in
    back w64 a.result a.type_inv ∙ a.ensures ∙ rw ((dx c.before.before).same, (dy c.before.before).same, (f c.before.before).same, (g c.before.before).same)

bend-is : (c : goal.After-bend)
    → let a = c.args in to_z w64 (of_z w64 c.bend.result) ≡ pos 512 *ℤ (a.r *ℤ a.r -ℤ a.g *ℤ a.g)
bend-is c =
    let b = c.bend in
    back w64 b.result b.type_inv ∙ b.ensures ∙ rw ((r c.before.before.before.before.before).same, (g c.before.before.before.before.before).same)

pub under_root-q-requires : goal.under_root-q-requires
under_root-q-requires c =
    let p = c.requires.r_bound in
    rw ((r c).same, (dx c).same, (dy c).same, (f c).same, (g c).same) (p.0, omega arith, omega arith, p.3, p.4)

pub along-requires : goal.along-requires
along-requires c =
    let p = c.requires.r_bound in
    rw ((dx c.before).same, (dy c.before).same, (f c.before).same, (g c.before).same) (omega arith, omega arith, p.3, p.4)

pub overflow_add-dx : goal.overflow_add-dx
overflow_add-dx c =
    need (next c.before.before) tt

pub under_root-requires : goal.under_root-requires
under_root-requires c =
    let p = c.requires.r_bound in
    rw ((r c.before.before).same, (keep w64 (next c.before.before) tt).same, (dy c.before.before).same, (f c.before.before).same, (g c.before.before).same)
    (p.0, (next c.before.before).size.size, omega arith, p.3, p.4)

pub less-requires : goal.less-requires
less-requires c =
    let a = c.args in
    let small = q_small a.r a.dx a.dy a.f a.g c.requires.pos_bound c.requires.r_bound.0 (omega arith) (omega arith) in
    let larger = q_small a.r (a.dx +ℤ pos 16) a.dy a.f a.g c.requires.pos_bound c.requires.r_bound.0 (next c.before.before.before).size.size (omega arith) in
    rw (next-is c, here-is c.before.before) (omega arith, omega arith)

pub overflow_mul-result : goal.overflow_mul-result
overflow_mul-result c =
    need (product c.before.before.before.before) tt

pub returns : goal.returns
unfolding place_from
returns c =
    let dq = c.less in
    λ i. record {
      a = along-is c.before.before.before i;
      q = here-is c.before.before.before.before i;
      dq = (back w64 dq.result dq.type_inv ∙ dq.ensures ∙ ap₂ ◌-ℤ◌ (next-is c.before.before) (here-is c.before.before.before.before)) i;
      da = (keep w64 (product c.before.before.before.before.before) tt).same i;
      ddq = bend-is c i;
    }
