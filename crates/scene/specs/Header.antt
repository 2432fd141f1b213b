-- Block 0's fields, of a scene's bytes.
use Rattle.std.specs.Prelude.{ℕ, ◌+◌, List, get_or}
use Rattle.fixed.specs.Little.{u16_at}
use Rattle.color.specs.declared.Pixel.{Pixel}
use Rattle.scene.specs.Layout.{width_at, height_at, count_at, edition_at, background_at}

abbrev pub width_of : List ℕ → ℕ
width_of s = u16_at s width_at

abbrev pub height_of : List ℕ → ℕ
height_of s = u16_at s height_at

abbrev pub count_of : List ℕ → ℕ
count_of s = u16_at s count_at

abbrev pub edition_of : List ℕ → ℕ
edition_of s = u16_at s edition_at

-- the background as given, not premultiplied
abbrev pub background_of : List ℕ → Pixel
background_of s = record {
  r = get_or s background_at 0;
  g = get_or s (background_at + 1) 0;
  b = get_or s (background_at + 2) 0;
  a = get_or s (background_at + 3) 0;
}
