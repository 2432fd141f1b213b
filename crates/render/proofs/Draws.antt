-- The draw number of a fault is at most 64.
use mathlib.Core.List.{List}
use mathlib.Core.Bool.{Bool}
use Prim.Native.Nat.{ℕ, ◌+◌, ◌*◌, ◌≤◌}
use native.Mathlib.Omega.{arith}
use Rattle.scene.specs.declared.Fault.{Fault}
use Rattle.scene.specs.declared.FieldFault.{FieldFault}
use Rattle.codes.specs.declared.Code.TheVariants.{BadLength, BadChecksum}
use Rattle.scene.specs.Layout.{block_bytes, payload_bytes, no_draw}
use Rattle.scene.specs.Blocks.{block_right, block_of, draw_of}
use Rattle.scene.specs.Faults.{demand, fault}
use Rattle.scene.specs.Header.{count_of, edition_of}
use Rattle.scene.specs.Rules.{header_rules, draw_rules, in_header, in_draw, check_faults_from, draw_fault_from, draw_fault, scene_fault_from, scene_fault}
use Rattle.scene.specs.Rules.{told_by}
use Rattle.scene.proofs.Accepted.{header_count}
use Rattle.std.specs.Prelude.{Result, Ok, Err}
use Rattle.render.proofs.Faulty.{Faulty, demanded, then, then_if, among, told, told_accepts}

abbrev Numbered : Fault → Type 0
Numbered f = f.draw ≤ 64

fields : (r : Result Unit FieldFault) → Faulty (λ _. Unit) r
fields (Ok u) = record { holds = tt }
fields (Err e) = record { holds = tt }

draw_number : (masked : Bool) (s : List ℕ) (i : ℕ) → i ≤ 64 → Faulty Numbered (draw_fault masked s i)
unfolding draw_fault_from check_faults_from
draw_number masked s i a =
    then (among 4 (λ j. demand (block_right s (block_of i + j)) (fault BadChecksum i (block_bytes * (block_of i + j) + payload_bytes)))
    (λ j l. demanded (block_right s (block_of i + j)) (fault BadChecksum i (block_bytes * (block_of i + j) + payload_bytes)) a))
    (told (in_draw i) (draw_rules masked (edition_of s) (draw_of s i)) (λ e _. a) (fields _))

pub fault_draw : (masked : Bool) (s : List ℕ) → Faulty Numbered (scene_fault masked s)
unfolding scene_fault_from
fault_draw masked s =
    let none : no_draw ≤ 64 = omega arith in
    then (demanded _ (fault BadLength no_draw 0) none)
    (then (demanded _ (fault BadChecksum no_draw payload_bytes) none)
    (then_if (told_by in_header (header_rules s)) _ (told in_header (header_rules s) (λ e _. none) (fields _)) (λ g.
    then (demanded _ (fault BadLength no_draw 0) none)
    (among (count_of s) (draw_fault masked s) (λ i l.
    draw_number masked s i (omega (arith, header_count s (told_accepts in_header (header_rules s) g))))))))
