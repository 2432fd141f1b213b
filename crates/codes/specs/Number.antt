-- The number of each code in the table, and 0 where nothing is refused.
use Rattle.std.specs.Prelude.{ℕ, Result, Ok, Err}
use Rattle.codes.specs.declared.Code.{Code}
use Rattle.codes.specs.declared.Code.TheVariants.{IllegalArgument, OutOfMemory, UnsupportedImageFormat, UnsupportedPathFormat, BadChecksum, BadLength}
use Rattle.codes.specs.Codes.{accepted_code, illegal_argument, out_of_memory, unsupported_image_format, unsupported_path_format, bad_checksum, bad_length}

abbrev pub number_of : Code → ℕ
number_of IllegalArgument = illegal_argument
number_of OutOfMemory = out_of_memory
number_of UnsupportedImageFormat = unsupported_image_format
number_of UnsupportedPathFormat = unsupported_path_format
number_of BadChecksum = bad_checksum
number_of BadLength = bad_length

-- of what a judgement with faults of any kind says, where e ↦ code e is a fault's code
abbrev pub number_told : {A E : Type 0} → (E → Code) → Result A E → ℕ
number_told code (Ok _) = accepted_code
number_told code (Err e) = number_of (code e)
