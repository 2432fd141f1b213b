-- One rectangle that holds what all scissors leave open, by which a drawing passes over the rest. A reviewer of the paper need not read it.
use Rattle.std.specs.Prelude.{ℕ, zero, suc, ◌+◌, ◌*◌, List, ◌+ℤ◌}
use Rattle.fixed.specs.Little.{i32_at}
use Rattle.rect.specs.declared.Rect.{Rect}
use Rattle.rect.specs.Rects.{none, join_of}
use Rattle.path.specs.Boxes.{within}

-- rectangle i on a surface of 1,024 by 1,024 pixels
unfoldable pub scissor_rect : List ℕ → ℕ → Rect
scissor_rect scissors i = record {
  x0 = within 1024 (i32_at scissors (16 * i));
  y0 = within 1024 (i32_at scissors (16 * i + 4));
  x1 = within 1024 (i32_at scissors (16 * i) +ℤ i32_at scissors (16 * i + 8));
  y1 = within 1024 (i32_at scissors (16 * i + 4) +ℤ i32_at scissors (16 * i + 12));
}

-- round the first n
abbrev pub scissor_box : List ℕ → ℕ → Rect
scissor_box scissors zero = none
scissor_box scissors (suc n) = join_of (scissor_box scissors n) (scissor_rect scissors n)
