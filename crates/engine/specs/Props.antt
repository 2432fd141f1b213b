-- What is asked of a ramp has at most one proof, as a fact that a type keeps must. A reviewer of the paper need not read it.
use Rattle.std.proofs.Props.{props}
use Rattle.std.specs.Prelude.{ℕ, List, Option, None, Some}
use Rattle.std.specs.Coded.{×_prop, le_prop}
use Rattle.paint.specs.declared.AnyGradient.{AnyGradient}
use Rattle.paint.specs.declared.AnyGradient.TheVariants.{Linear, Radial}
use Rattle.paint.specs.Circles.{HeldGradient}
use Rattle.engine.specs.declared.Shade.{Shade}
use Rattle.engine.specs.declared.Shade.TheVariants.{Solid, Gradient}
use Rattle.engine.specs.declared.Style.{Style}
use Rattle.engine.specs.Rows.{Few, Shaded, Scissors}

pub held_prop : (g : AnyGradient) (ramp : List ℕ) → IsProp (HeldGradient g ramp)
held_prop (Linear g) ramp = Prim.hlevel props
held_prop (Radial g) ramp = Prim.hlevel props

pub shaded_prop : (s : Shade) (ramp : List ℕ) → IsProp (Shaded s ramp)
shaded_prop (Solid p) ramp = Prim.hlevel props
shaded_prop (Gradient g) ramp = held_prop g.gradient ramp

pub few_prop : (s : Option ℕ) → IsProp (Few s)
few_prop None = Prim.hlevel props
few_prop (Some n) = Prim.hlevel props

pub scissors_prop : (s : Style) (scissors : List ℕ) → IsProp (Scissors s scissors)
scissors_prop s scissors = ×_prop (few_prop s.scissors) le_prop
