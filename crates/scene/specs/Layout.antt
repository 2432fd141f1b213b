-- The scene file's sizes, limits and places ("The scene file"): each number of the paper stands here once, under its name.
use Rattle.std.specs.Prelude.{ℕ, Bool, cond, eqb}

-- blocks of 512 bytes: 508 of payload, then the check of two 16-bit numbers
abbrev pub block_bytes : ℕ
block_bytes = 512

abbrev pub payload_bytes : ℕ
payload_bytes = 508

abbrev pub payload_words : ℕ
payload_words = 254

abbrev pub check_modulus : ℕ
check_modulus = 65521

-- a draw has four blocks, whose payloads joined are 2,032 bytes
abbrev pub draw_blocks : ℕ
draw_blocks = 4

abbrev pub draw_bytes : ℕ
draw_bytes = 2032

-- block 0
abbrev pub width_at : ℕ
width_at = 0

abbrev pub height_at : ℕ
height_at = 2

abbrev pub count_at : ℕ
count_at = 4

abbrev pub edition_at : ℕ
edition_at = 6

abbrev pub background_at : ℕ
background_at = 8

abbrev pub header_end : ℕ
header_end = 12

abbrev pub side_limit : ℕ
side_limit = 1024

abbrev pub draw_limit : ℕ
draw_limit = 64

-- a scene's edition: 0, or 1, whose draws have a colour transformation. Whatever is not 1 is read like 0; the rules let nothing else pass
abbrev pub new_edition : ℕ
new_edition = 1

abbrev pub is_new : ℕ → Bool
is_new edition = eqb edition new_edition

-- the draw number of what is not in a draw
abbrev pub no_draw : ℕ
no_draw = 64

-- a draw
abbrev pub flags_at : ℕ
flags_at = 0

abbrev pub blend_at : ℕ
blend_at = 2

abbrev pub paint_type_at : ℕ
paint_type_at = 4

abbrev pub spread_at : ℕ
spread_at = 6

abbrev pub segment_count_at : ℕ
segment_count_at = 8

abbrev pub scissor_count_at : ℕ
scissor_count_at = 9

abbrev pub stop_count_at : ℕ
stop_count_at = 10

abbrev pub padding_at : ℕ
padding_at = 11

abbrev pub matrix_at : ℕ
matrix_at = 12

abbrev pub translation_at : ℕ
translation_at = 28

abbrev pub color_at : ℕ
color_at = 36

abbrev pub linear_points_at : ℕ
linear_points_at = 52

abbrev pub scissors_at : ℕ
scissors_at = 68

abbrev pub stops_at : ℕ
stops_at = 132

-- a radial draw has its circle's five floats in place of the first stop
abbrev pub radial_at : ℕ
radial_at = stops_at

abbrev pub segments_at : ℕ
segments_at = 772

abbrev pub segments_end : ℕ
segments_end = 900

-- the colour transformation's eight floats, in edition 1
abbrev pub transform_at : ℕ
transform_at = segments_end

-- 566 coordinates, in edition 1 550 behind the colour transformation
unfoldable pub coordinates_at : ℕ → ℕ
coordinates_at edition = cond (is_new edition) 932 900

-- bits 0 to 3, in edition 1 bit 4 too; the others are 0
unfoldable pub flags_limit : ℕ → ℕ
flags_limit edition = cond (is_new edition) 32 16

abbrev pub segment_limit : ℕ
segment_limit = 128

abbrev pub scissor_limit : ℕ
scissor_limit = 4

abbrev pub stop_limit : ℕ
stop_limit = 32

abbrev pub radial_stop_limit : ℕ
radial_stop_limit = 31

abbrev pub scissor_bytes : ℕ
scissor_bytes = 16

abbrev pub stop_bytes : ℕ
stop_bytes = 20

abbrev pub stop_floats : ℕ
stop_floats = 5

abbrev pub radial_floats : ℕ
radial_floats = 5

abbrev pub transform_floats : ℕ
transform_floats = 8
