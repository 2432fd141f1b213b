use mathlib.Core.Path.{◌≡◌, sym, ap, ◌∙◌}
use mathlib.Core.List.{List}
use Prim.Native.Nat.{ℕ, ◌-◌, ◌≤◌}
use native.Mathlib.Omega.{arith}
use lib.ListN.{length, take, drop}
use Rattle.lists.specs.Lists.{over}
use Rattle.lists.proofs.Laws.{part_length}
use Rattle.scene.specs.Header.{count_of}
use Rattle.rescue.specs.Salvaged.{salvaged_scene, listed_to, replaced_to, fitting}
use Rattle.rescue.proofs.Parts.{call_allowed, refused_answer_lem, salvaged_answer, nothing_written, all_written, front_part}
use Rattle.rescue.proofs.write.salvage.Goals as goal

-- the part that is lent has the bytes of the scene
part : (n : ℕ) (place : List ℕ) → n ≤ length place → length (take (n - 0) (drop 0 place)) ≡ n
part n place l = part_length place 0 n (omega arith) l ∙ omega arith

pub returns-in-Err-clause-answer : goal.returns-in-Err-clause-answer
returns-in-Err-clause-answer c =
    let a = c.args in rw c.number.ensures (refused_answer_lem a.s.now (length a.place.now) c.in-Err.code (sym c.salvage_verdict.ensures ∙ c.in-Err.is))

pub returns-in-Err-clause-scene : goal.returns-in-Err-clause-scene
returns-in-Err-clause-scene c =
    rw c.number.ensures (nothing_written c.in-Err.code _ _)

pub returns-in-Err-clause-listed : goal.returns-in-Err-clause-listed
returns-in-Err-clause-listed c =
    rw c.number.ensures (nothing_written c.in-Err.code _ _)

pub count-n-requires : goal.count-n-requires
count-n-requires c =
    (call_allowed c.args.s.now (length c.args.place.now) (sym c.salvage_verdict.ensures ∙ c.in_default.is)).long

pub slice_bounds-write_scene-end : goal.slice_bounds-write_scene-end
slice_bounds-write_scene-end c =
    (call_allowed c.args.s.now (length c.args.place.now) (sym c.salvage_verdict.ensures ∙ c.in_default.is)).room

pub write_scene-requires : goal.write_scene-requires
write_scene-requires c =
    let a = c.args in
    let ok = call_allowed a.s.now (length a.place.now) (sym c.salvage_verdict.ensures ∙ c.in_default.is) in
    let e = c.count-n.ensures.0 in
    (e, rw e ok.count, ok.front.bytes ∙ rw e, part (length a.s.now) a.place.now ok.room)

pub write_list-replaced-requires : goal.write_list-replaced-requires
write_list-replaced-requires c =
    let a = c.args in
    let ok = call_allowed a.s.now (length a.place.now) (sym c.salvage_verdict.ensures ∙ c.in_default.is) in
    let e = c.count-n.ensures.0 in
    (rw e ok.count, ok.front.bytes ∙ rw e)

pub returns-clause-answer : goal.returns-clause-answer
returns-clause-answer c =
    let a = c.args in
    salvaged_answer a.s.now (length a.place.now) c.write_list-replaced.result (sym c.salvage_verdict.ensures ∙ c.in_default.is)
    (c.write_list-replaced.ensures.0 ∙ ap (replaced_to a.s.now) c.count-n.ensures.0)

pub returns-clause-scene : goal.returns-clause-scene
returns-clause-scene c =
    let a = c.args in
    let s = a.s.now in
    let place = a.place.now in
    let ok = call_allowed s (length place) (sym c.salvage_verdict.ensures ∙ c.in_default.is) in
    let scene = c.write_scene in
    let q = scene.new.out in
    let wide : length q ≡ length s = scene.auto.out ∙ part (length s) place ok.room in
    front_part place q (length s - 0) (omega (arith, wide)) ∙ ap (λ (x : List ℕ). over x place) scene.ensures ∙ all_written (salvaged_scene s) place

pub returns-clause-listed : goal.returns-clause-listed
returns-clause-listed c =
    let a = c.args in
    let s = a.s.now in
    let list = a.list.now in
    c.write_list-replaced.ensures.1 ∙ ap (λ (n : ℕ). over (fitting (length list) (listed_to s n)) list) c.count-n.ensures.0
    ∙ all_written (fitting (length list) (listed_to s (count_of s))) list
