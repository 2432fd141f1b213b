-- A program's arguments, and the answers to questions about buffers. A reviewer of the paper need not read it.
use Rattle.std.specs.Prelude.{◌≡◌, ℕ, ◌<◌, ◌⊎◌, Bool, true, false, List, [], ◌∷◌, Option, None, Some, slice_get}
use Rattle.console.specs.declared.arguments.Word.{Word}
use Rattle.console.specs.declared.arguments.Word.TheVariants.{Whole, Start}

-- r says whether P holds
abbrev pub Tells : Bool → Type 0 → Type 0
Tells true P = P
Tells false P = P → ⊥

-- an argument's bytes, where it is there whole
abbrev pub whole_of : Option Word → Option (List ℕ)
whole_of (Some (Whole bytes)) = Some bytes.items
whole_of (Some (Start bytes)) = None
whole_of None = None

-- argument i, where there is one and it is whole
abbrev pub word_at : List Word → ℕ → Option (List ℕ)
word_at ws i = whole_of (slice_get ws i)

-- an argument besides i, and not the program's name, is that word
abbrev pub OtherIs : List Word → ℕ → List ℕ → Type 0
OtherIs ws i s = (k : ℕ) × (0 < k) × (k ≡ i → ⊥) × (word_at ws k ≡ Some s)

-- the first argument is `--help` or `-h`
abbrev pub AsksHelp : List Word → Type 0
AsksHelp ws = (word_at ws 1 ≡ Some (45 ∷ 45 ∷ 104 ∷ 101 ∷ 108 ∷ 112 ∷ [])) ⊎ (word_at ws 1 ≡ Some (45 ∷ 104 ∷ []))
