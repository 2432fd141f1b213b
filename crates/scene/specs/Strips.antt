-- How the check of a block is summed: seven strips of 36 words side by side, and two words behind them. A reviewer of the paper need not
-- read it.
use Rattle.std.specs.Prelude.{ℕ, ◌+◌, ◌*◌, List}
use Rattle.lists.specs.Lists.{total}
use Rattle.fixed.specs.Little.{u16_at}
use Rattle.scene.specs.declared.Column.{Column}

-- the words of the strips at one place, the first strip's at `at`: their sum, and the sum of each times its strip's number
unfoldable pub column_of : List ℕ → ℕ → Column
column_of s at = record {
  all = total 7 (λ h. u16_at s (at + 72 * h));
  late = total 7 (λ h. h * u16_at s (at + 72 * h));
}
