-- What the machine reads, and the integer that is meant. A signed local holds bits, so a goal about an expression of signed numbers is
-- full of `to_z w (of_z w ..)`. A `Num` has what the goal has, `read`, what the contract has, `int`, that they are the same, and a bound on
-- the size, a numeral that antt computes. It is put together along the expression: `param` at a parameter, an operation's function at each
-- operation, and `keep w` where the result goes into a local of w bits. `need` answers what an operation asks, and `.same` what the
-- function returns.
use mathlib.Core.Path.{◌≡◌, refl, sym, ap, ap₂, ◌∙◌, subst}
use Prim.Native.Nat.{ℕ, suc, ◌+◌, ◌*◌, ◌^◌, ◌≤◌}
use lib.Dec.{T, ltb, ltb→lt}
use lib.IntN.{ℤ, pos, negsuc, ◌+ℤ◌, ◌-ℤ◌, ◌*ℤ◌}
use native.Mathlib.Nat.{le_refl, lt_of_le_of_lt}
use lib.Signed.{shr_z, quot_z, rem_z}
use mir.Syntax.{Width}
use mir.Val.{SFits, hbits, to_z, of_z}
use mir.Facts.{to_z-of_z, to_z_pos}
use Rattle.fixed.proofs.Within.{Within, within_pos, within_add, within_sub, within_mul, within_shr, within_quot, within_rem, of_fits, fits}

pub record Num : Type 0 where
  pub bound : ℕ
  pub read : ℤ
  pub int : ℤ
  pub same : read ≡ int
  pub size : Within bound int

pub need : {w : Width} (r : Num) → T (ltb r.bound (2 ^ hbits w)) → SFits w r.read
need {w} r s = subst (λ (x : ℤ). SFits w x) (sym r.same) (fits s r.size)

-- in a local of w bits
abbrev pub keep : (w : Width) (r : Num) → T (ltb r.bound (2 ^ hbits w)) → Num
keep w r s = record { bound = r.bound; read = to_z w (of_z w r.read); int = r.int; same = to_z-of_z (need r s) ∙ r.same; size = r.size }

-- a parameter, with its type's range, or with a bound that is known
abbrev pub param : (w : Width) (z : ℤ) → SFits w z → Num
param w z f = record { bound = 2 ^ hbits w; read = to_z w (of_z w z); int = z; same = to_z-of_z f; size = of_fits f }

abbrev pub small : (w : Width) (n : ℕ) (z : ℤ) → SFits w z → Within n z → Num
small w n z f h = record { bound = n; read = to_z w (of_z w z); int = z; same = to_z-of_z f; size = h }

abbrev pub lit : ℕ → Num
lit n = record { bound = n; read = pos n; int = pos n; same = refl; size = within_pos n }

abbrev pub add : Num → Num → Num
add r s = record {
  bound = r.bound + s.bound;
  read = r.read +ℤ s.read;
  int = r.int +ℤ s.int;
  same = ap₂ ◌+ℤ◌ r.same s.same;
  size = within_add r.size s.size;
}

abbrev pub sub : Num → Num → Num
sub r s = record {
  bound = r.bound + s.bound;
  read = r.read -ℤ s.read;
  int = r.int -ℤ s.int;
  same = ap₂ ◌-ℤ◌ r.same s.same;
  size = within_sub r.size s.size;
}

abbrev pub mul : Num → Num → Num
mul r s = record {
  bound = r.bound * s.bound;
  read = r.read *ℤ s.read;
  int = r.int *ℤ s.int;
  same = ap₂ ◌*ℤ◌ r.same s.same;
  size = within_mul r.size s.size;
}

abbrev pub shr : Num → ℕ → Num
shr r d = record { bound = r.bound; read = shr_z r.read d; int = shr_z r.int d; same = ap (λ (x : ℤ). shr_z x d) r.same; size = within_shr d r.size }

-- ---- where the size alone does not tell: by what the number is
-- the same number, said in another way; with a bound of its own
abbrev pub said : (r : Num) (z : ℤ) → r.int ≡ z → Num
said r z e = record { bound = r.bound; read = r.read; int = z; same = r.same ∙ e; size = subst (λ (x : ℤ). Within r.bound x) e r.size }

abbrev pub tight : (n : ℕ) (r : Num) → Within n r.int → Num
tight n r h = record { bound = n; read = r.read; int = r.int; same = r.same; size = h }

abbrev pub quot : Num → Num → Num
quot r s = record {
  bound = r.bound;
  read = quot_z r.read s.read;
  int = quot_z r.int s.int;
  same = ap₂ quot_z r.same s.same;
  size = within_quot s.int r.size;
}

abbrev pub rem : Num → Num → Num
rem r s = record {
  bound = r.bound;
  read = rem_z r.read s.read;
  int = rem_z r.int s.int;
  same = ap₂ rem_z r.same s.same;
  size = within_rem s.int r.size;
}

-- an unsigned number that was cast to a signed type of w bits, as it stands in a local
abbrev pub of_nat : (w : Width) (n b : ℕ) → n ≤ b → T (ltb b (2 ^ hbits w)) → Num
of_nat w n b h t = record {
  bound = b;
  read = to_z w n;
  int = pos n;
  same = to_z_pos w (lt_of_le_of_lt h (ltb→lt b (2 ^ hbits w) t));
  size = record { size = h };
}
