-- A refusal's code is not 0, and the number of each code is a refusal's.
use mathlib.Core.Path.{◌≡◌, refl}
use mathlib.Core.Bool.{true, false≢true}
use Prim.Native.Nat.{ℕ}
use Rattle.codes.specs.Codes.{accepted_code, is_refusal}
use Rattle.codes.specs.declared.Code.{Code}
use Rattle.codes.specs.declared.Code.TheVariants.{IllegalArgument, OutOfMemory, UnsupportedImageFormat, UnsupportedPathFormat, BadChecksum, BadLength}
use Rattle.codes.specs.Number.{number_of}

pub refuses : (code : ℕ) → is_refusal code ≡ true → code ≡ accepted_code → ⊥
refuses code h e = false≢true (rw e at h)

pub number_refuses : (code : Code) → is_refusal (number_of code) ≡ true
number_refuses IllegalArgument = refl
number_refuses OutOfMemory = refl
number_refuses UnsupportedImageFormat = refl
number_refuses UnsupportedPathFormat = refl
number_refuses BadChecksum = refl
number_refuses BadLength = refl
