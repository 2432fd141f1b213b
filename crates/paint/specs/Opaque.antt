-- Gradients that let nothing through. Only the proofs need it: a reviewer of the paper need not read it.
use Rattle.std.specs.Prelude.{◌≡◌, ℕ, ◌<◌, List}
use Rattle.paint.specs.Buffers.{stop_at}
use Rattle.paint.specs.Circles.{gradient_at}
use Rattle.paint.specs.declared.AnyGradient.{AnyGradient}

-- of the first n stops
abbrev pub OpaqueStops : List ℕ → ℕ → Type 0
OpaqueStops ramp n = (i : ℕ) → i < n → (stop_at ramp i).color.a ≡ 255

-- at every pixel
abbrev pub OpaqueGradient : AnyGradient → List ℕ → Type 0
OpaqueGradient g ramp = (x y : ℕ) → (gradient_at g ramp x y).a ≡ 255
