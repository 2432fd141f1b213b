-- Corners that no bench case reaches: where in the file a fault is, the step alone on stray bytes and under a mask, what an edition moves, a last stop
-- just below the end. What the definitions give, beside what is asked; nearly all faults and offsets are those of edge vectors with these names
-- (tests/vectors/edges.txt).
use Rattle.std.specs.Prelude.{ℕ, ◌+◌, List, [], ◌∷◌, ◌++◌, map, true, false, set, length, replicate, pos, Result, Ok, Err}
use Rattle.codes.specs.Codes.{accepted_code}
use Rattle.codes.specs.Number.{number_of, number_told}
use Rattle.color.specs.declared.Pixel.{Pixel}
use Rattle.blend.specs.PorterDuff.{composite_answer, mode_dst_over, mode_src_in, mode_src_over}
use Rattle.paint.specs.Ramps.{ramp_of, ramp_at}
use Rattle.scene.specs.declared.Fault.{Fault}
use Rattle.scene.specs.declared.FieldFault.{FieldFault}
use Rattle.scene.specs.Layout.{no_draw, coordinates_at}
use Rattle.scene.specs.Rules.{told_by, in_header, in_draw, header_rules, head_rules, transform_rules, draw_rules, flat_rule, path_rules, rest_rules}
use Rattle.scene.specs.Rules.{check_faults}
use Rattle.cases.specs.Bench.{Row}
use Rattle.cases.specs.Scenes.{red, red_draw}

abbrev row : List ℕ → List ℕ → Row
row given asked = record { given = map pos given; paper = map pos asked }

-- ---- a judgement as C has it: code, draw number, offset; where nothing is refused 0, 64 and 0
abbrev numbers : Result Unit Fault → List ℕ
numbers (Ok _) = accepted_code ∷ no_draw ∷ 0 ∷ []
numbers (Err f) = number_of f.code ∷ f.draw ∷ f.offset ∷ []

-- the code alone, of a judgement among fields
abbrev code : Result Unit FieldFault → ℕ
code = number_told (λ f. f.code)

-- the draw of the red square, as draw 1, with another byte, or two, at a place
abbrev draw : ℕ → ℕ → List ℕ
draw place byte = numbers (told_by (in_draw 1) (draw_rules false 0 (set red_draw place byte)))

abbrev draw2 : ℕ → ℕ → ℕ → List ℕ
draw2 place low high = numbers (told_by (in_draw 1) (draw_rules false 0 (set (set red_draw place low) (place + 1) high)))

-- its matrix alone, with two bytes of zero; then its path alone; its unused segments and coordinates alone
abbrev flat : ℕ → List ℕ
flat place = numbers (told_by (in_draw 1) (flat_rule (set (set red_draw place 0) (place + 1) 0)))

-- its colour transformation alone, as a draw of edition 1, with two bytes at a place
abbrev transform : ℕ → ℕ → ℕ → List ℕ
transform place low high = numbers (told_by (in_draw 1) (transform_rules 1 (set (set red_draw place low) (place + 1) high)))

abbrev path : ℕ → ℕ → List ℕ
path place byte = numbers (told_by (in_draw 1) (path_rules 0 (set red_draw place byte)))

abbrev rest : ℕ → ℕ → List ℕ
rest place byte = numbers (told_by (in_draw 1) (rest_rules 0 (set red_draw place byte)))

-- block 0 of the red square with another byte; the checks of draw 0 in a file that begins with these bytes and is zero behind them
abbrev header : ℕ → ℕ → List ℕ
header place byte = numbers (told_by in_header (header_rules (set red place byte)))

abbrev checks : List ℕ → List ℕ
checks bytes = numbers (check_faults bytes 0)

abbrev illegal : ℕ → ℕ → List ℕ
illegal draw offset = 0x1001 ∷ draw ∷ offset ∷ []

-- ---- the step alone: code and pixel
abbrev pixel : ℕ → ℕ → ℕ → ℕ → Pixel
pixel r g b a = record { r = r; g = g; b = b; a = a }

abbrev bytes : Pixel → List ℕ
bytes p = p.r ∷ p.g ∷ p.b ∷ p.a ∷ []

abbrev step : ℕ → ℕ → ℕ → Pixel → Pixel → List ℕ
step mode k m s d = (composite_answer mode k m s d).code ∷ bytes (composite_answer mode k m s d).pixel

-- ---- two stops of five f32: opaque red at 0, and opaque blue at the offset with these bytes
abbrev nought : List ℕ
nought = 0 ∷ 0 ∷ 0 ∷ 0 ∷ []

abbrev one : List ℕ
one = 0 ∷ 0 ∷ 128 ∷ 63 ∷ []

abbrev stops : List ℕ → List ℕ
stops last = nought ++ one ++ nought ++ nought ++ one ++ last ++ nought ++ nought ++ one ++ one

-- 65,535 / 65,536
abbrev almost_one : List ℕ
almost_one = 0 ∷ 255 ∷ 127 ∷ 63 ∷ []

abbrev color_at : List ℕ → ℕ → List ℕ
color_at last t = bytes (ramp_at (ramp_of false (stops last) 2) (pos t))

-- ---- the table
unfoldable pub corners : List Row
corners =
    -- block 0: width 0, height 1,028, count 65, the fourth number, its zeros; a wrong check in block 1, which asks for 1 and 1 if all is zero, and in block 2
    row (header 0 0) (illegal 64 0)
    ∷ row (header 3 4) (illegal 64 2)
    ∷ row (header 4 65) (illegal 64 4)
    ∷ row (header 6 2) (illegal 64 6)
    ∷ row (header 12 1) (illegal 64 12)
    ∷ row (checks []) (0xB001 ∷ 0 ∷ 1020 ∷ [])
    ∷ row (checks (replicate 1020 0 ++ (1 ∷ 0 ∷ 1 ∷ 0 ∷ []))) (0xB001 ∷ 0 ∷ 1532 ∷ [])
    -- a draw's fields where no mask is lent: flag bit 3, blend 2005, paint 0, spread 0, 129 segments, 5 scissors, 33 stops, the zero byte
    ∷ row (draw 0 8) (illegal 1 2560)
    ∷ row (draw 2 5) (illegal 1 2562)
    ∷ row (draw 5 0) (illegal 1 2564)
    ∷ row (draw 7 0) (illegal 1 2566)
    ∷ row (draw 8 129) (illegal 1 2568)
    ∷ row (draw 9 5) (illegal 1 2569)
    ∷ row (draw 10 33) (illegal 1 2570)
    ∷ row (draw 11 1) (illegal 1 2571)
    -- where one is lent, bit 3 passes the head's rules, and bit 4 does not
    ∷ row (code (head_rules true 0 (set red_draw 0 8)) ∷ code (head_rules true 0 (set red_draw 0 16)) ∷ []) (0 ∷ 0x1001 ∷ [])
    -- in edition 1 the coordinates begin later, bit 4 passes too, and bit 5 does not; a NaN among its eight values is met at its place, an infinite
    -- value is allowed
    ∷ row (coordinates_at 0 ∷ coordinates_at 1 ∷ []) (900 ∷ 932 ∷ [])
    ∷ row (code (head_rules false 1 (set red_draw 0 16)) ∷ code (head_rules false 1 (set red_draw 0 32)) ∷ []) (0 ∷ 0x1001 ∷ [])
    ∷ row (transform 902 192 127) (illegal 1 3464)
    ∷ row (transform 930 192 127) (illegal 1 3492)
    ∷ row (transform 930 128 127) (0 ∷ 64 ∷ 0 ∷ [])
    -- an infinite matrix entry 0, 3, 4 and 5, a NaN in colour 0 and 3, an infinite linear point 0 and 3
    ∷ row (draw2 14 128 127) (illegal 1 2572)
    ∷ row (draw2 26 128 127) (illegal 1 2584)
    ∷ row (draw2 30 128 127) (illegal 1 2588)
    ∷ row (draw2 34 128 127) (illegal 1 2592)
    ∷ row (draw2 38 192 127) (illegal 1 2596)
    ∷ row (draw2 50 192 127) (illegal 1 2608)
    ∷ row (draw2 54 128 127) (illegal 1 2612)
    ∷ row (draw2 66 128 127) (illegal 1 2624)
    -- an unused scissor's first byte, an unused stop of -0.0, a flat matrix with sx 0, an arc, a reserved segment, an unused segment
    ∷ row (draw 68 1) (illegal 1 2628)
    ∷ row (draw 135 128) (illegal 1 2695)
    ∷ row (flat 14) (illegal 1 2572)
    ∷ row (path 772 18) (0x1005 ∷ 1 ∷ 3336 ∷ [])
    ∷ row (path 773 26) (illegal 1 3337)
    ∷ row (rest 777 1) (illegal 1 3341)
    -- the step alone (P2): two numbers that are no mode and a k above 16 are refused; with k = 0 a stray pixel stays
    ∷ row (step 0x2005 16 255 (pixel 1 2 3 4) (pixel 255 6 7 0)) (0x1001 ∷ 255 ∷ 6 ∷ 7 ∷ 0 ∷ [])
    ∷ row (step 0x12001 16 255 (pixel 1 2 3 4) (pixel 255 6 7 0)) (0x1001 ∷ 255 ∷ 6 ∷ 7 ∷ 0 ∷ [])
    ∷ row (step mode_src_over 17 255 (pixel 1 2 3 4) (pixel 255 6 7 0)) (0x1001 ∷ 255 ∷ 6 ∷ 7 ∷ 0 ∷ [])
    ∷ row (step mode_src_over 0 255 (pixel 1 2 3 4) (pixel 255 6 7 0)) (0 ∷ 255 ∷ 6 ∷ 7 ∷ 0 ∷ [])
    -- a stray destination is clamped in B, and in the coverage formula where B is 0; B is cut at 255 where the source is stray
    ∷ row (step mode_dst_over 16 255 (pixel 200 0 0 200) (pixel 255 0 9 100)) (0 ∷ 222 ∷ 0 ∷ 9 ∷ 222 ∷ [])
    ∷ row (step mode_dst_over 15 255 (pixel 200 0 0 200) (pixel 250 0 9 100)) (0 ∷ 214 ∷ 0 ∷ 9 ∷ 214 ∷ [])
    ∷ row (step mode_src_in 8 255 (pixel 0 0 0 0) (pixel 255 101 99 100)) (0 ∷ 50 ∷ 50 ∷ 50 ∷ 50 ∷ [])
    ∷ row (step mode_src_over 16 255 (pixel 255 0 0 100) (pixel 255 0 9 255)) (0 ∷ 255 ∷ 0 ∷ 5 ∷ 255 ∷ [])
    -- under a mask (P6): 0 leaves the clamped destination, 128 is halfway; with k = 0 a stray pixel stays; 256 is no byte
    ∷ row (step mode_src_over 16 0 (pixel 1 2 3 4) (pixel 255 6 7 5)) (0 ∷ 5 ∷ 5 ∷ 5 ∷ 5 ∷ [])
    ∷ row (step mode_src_over 16 128 (pixel 200 0 0 200) (pixel 0 0 9 100)) (0 ∷ 100 ∷ 0 ∷ 5 ∷ 161 ∷ [])
    ∷ row (step mode_src_over 0 128 (pixel 1 2 3 4) (pixel 255 6 7 0)) (0 ∷ 255 ∷ 6 ∷ 7 ∷ 0 ∷ [])
    ∷ row (step mode_src_over 16 256 (pixel 1 2 3 4) (pixel 255 6 7 0)) (0x1001 ∷ 255 ∷ 6 ∷ 7 ∷ 0 ∷ [])
    -- a last stop at 65,535 is copied to 65,536, one at 65,536 is not; colours on both sides of it
    ∷ row (length (ramp_of false (stops almost_one) 2) ∷ length (ramp_of false (stops one) 2) ∷ []) (3 ∷ 2 ∷ [])
    ∷ row (color_at almost_one 32768) (127 ∷ 0 ∷ 128 ∷ 255 ∷ [])
    ∷ row (color_at almost_one 65535) (0 ∷ 0 ∷ 255 ∷ 255 ∷ [])
    ∷ row (color_at one 32768) (128 ∷ 0 ∷ 128 ∷ 255 ∷ [])
    ∷ []
