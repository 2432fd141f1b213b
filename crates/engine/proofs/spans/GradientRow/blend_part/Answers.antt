-- `spans::GradientRow::blend_part` meets its contract: the paint of the part's pixels, blended by the part's runs.
use mathlib.Core.Path.{◌≡◌, ap, ◌∙◌}
use Prim.Native.Nat.{ℕ, ◌-◌, ◌*◌, ◌≤◌}
use native.Mathlib.Omega.{arith}
use lib.ListN.{length, drop}
use Rattle.lists.proofs.Laws.{part_length}
use Rattle.runs.specs.Runs.{start_of}
use Rattle.engine.specs.Rows.{gradient_tinted, levels}
use Rattle.engine.proofs.RowLaws.{first_of, first_part}
use Rattle.engine.proofs.Parts.{part_within, part_row}
use Rattle.engine.proofs.spans.GradientRow.blend_part.Goals as goal

pub start-a-requires : goal.start-a-requires
start-a-requires c =
    omega (arith, c.requires.part)

pub invariant_of-covered : goal.invariant_of-covered
invariant_of-covered c =
    let s = c.args.self.now in
    let p = c.args.part in
    let h = part_within s.runs.now s.strip.length p.from p.to s.covered c.requires.part.0 c.requires.part.1 in
    record { on_surface = (s.strip.on_surface.0, omega (arith, h.0, h.1, c.start-a.ensures, c.start-e.ensures, s.strip.on_surface.1)) }

pub overflow_add-covered : goal.overflow_add-covered
overflow_add-covered c =
    let s = c.args.self.now in
    let p = c.args.part in
    let h = part_within s.runs.now s.strip.length p.from p.to s.covered c.requires.part.0 c.requires.part.1 in
    omega (arith, h.0, h.1, c.start-a.ensures, s.strip.on_surface.1)

pub overflow_sub-covered : goal.overflow_sub-covered
overflow_sub-covered c =
    let s = c.args.self.now in
    let p = c.args.part in
    let h = part_within s.runs.now s.strip.length p.from p.to s.covered c.requires.part.0 c.requires.part.1 in
    omega (arith, h.0, c.start-a.ensures, c.start-e.ensures)

pub slice_bounds-row-end : goal.slice_bounds-row-end
slice_bounds-row-end c =
    let s = c.args.self.now in
    let p = c.args.part in
    let h = part_within s.runs.now s.strip.length p.from p.to s.covered c.requires.part.0 c.requires.part.1 in
    omega (arith, h.0, h.1, c.start-a.ensures, c.start-e.ensures, c.requires.row_len.1)

pub composite_painted_runs-requires : goal.composite_painted_runs-requires
composite_painted_runs-requires c =
    let s = c.args.self.now in
    let p = c.args.part in
    let h = part_within s.runs.now s.strip.length p.from p.to s.covered c.requires.part.0 c.requires.part.1 in
    let m : ℕ = (c.start-e.result - c.start-a.result) * 4 in
    let within : m ≤ length c.args.buffer.now = omega (arith, h.0, h.1, c.start-a.ensures, c.start-e.ensures, c.requires.row_len.1) in
    let painted : length c.row.new.paints ≡ m = c.row.auto.paints ∙ part_length c.args.buffer.now 0 m (omega arith) within ∙ omega arith in
    let size : m ≡ (start_of s.runs.now p.to - start_of s.runs.now p.from) * 4 = omega (arith, c.start-a.ensures, c.start-e.ensures) in
    record {
      runs = (s.covered.0, c.requires.part.0, c.requires.part.1, omega arith);
      src_len = (
        ap length (first_of _ m ∙ first_part c.row.new.paints (drop (m - 0) c.args.buffer.now) m painted) ∙ painted ∙ size,
        c.requires.row_len.0,
      );
      coverage = s.covered.1;
    }

pub returns : goal.returns
returns c =
    let a = c.args in
    let s = a.self.now in
    let p = a.part in
    let h = part_within s.runs.now s.strip.length p.from p.to s.covered c.requires.part.0 c.requires.part.1 in
    let m : ℕ = (c.start-e.result - c.start-a.result) * 4 in
    let within : m ≤ length a.buffer.now = omega (arith, h.0, h.1, c.start-a.ensures, c.start-e.ensures, c.requires.row_len.1) in
    let painted : length c.row.new.paints ≡ m = c.row.auto.paints ∙ part_length a.buffer.now 0 m (omega arith) within ∙ omega arith in
    part_row s.mode s.strip.x c.start-a.result c.start-e.result (start_of s.runs.now p.from) (start_of s.runs.now p.to) (levels s.runs.now) c.row.new.paints
    (drop (m - 0) a.buffer.now) a.row.now c.composite_painted_runs.new.row (λ z. gradient_tinted s.paint s.ramp.now z s.strip.y)
    c.start-a.ensures c.start-e.ensures painted c.row.ensures c.composite_painted_runs.ensures
