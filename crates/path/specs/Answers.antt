-- What the functions of this crate answer, by the definitions of Matrices and Segments. A reviewer of the paper need not read it.
use Rattle.std.specs.Prelude.{ℕ, ◌/◌, List, Option, None, Some, Result, Ok, if◌then◌else◌}
use Rattle.std.specs.Result.{result_and}
use Rattle.codes.specs.declared.Code.{Code}
use Rattle.path.specs.declared.Matrix.{Matrix}
use Rattle.path.specs.declared.FixedMatrix.{FixedMatrix}
use Rattle.path.specs.declared.Pen.{Pen}
use Rattle.path.specs.declared.Curve.{Curve}
use Rattle.path.specs.declared.Segment.{Segment}
use Rattle.path.specs.declared.Walk.{Walk}
use Rattle.path.specs.declared.Traced.{Traced}
use Rattle.path.specs.declared.PathFault.{PathFault}
use Rattle.path.specs.Matrices.{matrix_in_limits, fixed_matrix}
use Rattle.path.specs.Segments.{relative, walk_on, curve_at, segment_code, walk_to, fault_to}

-- a matrix in whole numbers, if it is within its limits
unfoldable pub converted : Matrix → Option FixedMatrix
converted m = if matrix_in_limits m then Some (fixed_matrix m) else None

-- a segment byte, split
abbrev pub split_as : ℕ → Segment
split_as byte = record { command = byte / 2; relative = relative byte }

-- the walk after a segment, and the segment's points
abbrev pub traced_as : ℕ → Pen → Curve → Traced
traced_as used pen curve = record { walk = record { pen = pen; used = used }; curve = curve }

unfoldable pub traced_by : List ℕ → Walk → ℕ → Traced
traced_by coordinates walk byte = record { walk = walk_on coordinates walk byte; curve = curve_at coordinates walk byte }

-- the same, or the code of the segment's refusal
unfoldable pub step_of : FixedMatrix → List ℕ → Walk → ℕ → Result Traced Code
step_of m coordinates walk byte = result_and (segment_code m coordinates walk byte) (Ok (traced_by coordinates walk byte))

-- the number of coordinates that a path uses, or its first fault
unfoldable pub checked_to : FixedMatrix → List ℕ → List ℕ → ℕ → Result ℕ PathFault
checked_to m segments coordinates n = result_and (fault_to m segments coordinates n) (Ok (walk_to segments coordinates n).used)
