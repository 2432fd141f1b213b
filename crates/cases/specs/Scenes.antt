-- Three scenes of 4 by 4 pixels with one draw each, byte by byte, and their pictures as the paper asks: the bench case's square in red and in blue, and
-- a curve filled with a gradient.
use Rattle.std.specs.Prelude.{ℕ, ◌-◌, ◌/◌, ◌%◌, List, [], ◌∷◌, ◌++◌, replicate, length, take, drop}
use Rattle.render.specs.declared.Answer.{Answer}

-- ---- bytes
-- a 16-bit number; n bytes of which the first are given; the f32 0.0, 0.5, 1.0 and 4.0
abbrev word : ℕ → List ℕ
word n = n % 256 ∷ n / 256 ∷ []

abbrev padded : ℕ → List ℕ → List ℕ
padded n bytes = bytes ++ replicate (n - length bytes) 0

abbrev nought : List ℕ
nought = 0 ∷ 0 ∷ 0 ∷ 0 ∷ []

abbrev half : List ℕ
half = 0 ∷ 0 ∷ 0 ∷ 63 ∷ []

abbrev one : List ℕ
one = 0 ∷ 0 ∷ 128 ∷ 63 ∷ []

abbrev four : List ℕ
four = 0 ∷ 0 ∷ 128 ∷ 64 ∷ []

-- ---- a draw under the matrix 1, 0, 0, 1, 0, 0: its head, then colour, points, stops, segments and coordinates
abbrev draw : List ℕ → List ℕ → List ℕ → List ℕ → List ℕ → List ℕ → List ℕ
draw head color points stops segments coordinates =
    head ++ (one ++ nought ++ nought ++ one ++ nought ++ nought) ++ color ++ points ++ replicate 64 0
    ++ padded 640 stops ++ padded 128 segments ++ padded 1132 coordinates

-- the check of a block; that of block 3 and of block 4, which are all zero, is the number twice
abbrev check : ℕ → ℕ → List ℕ
check plain weighted = word plain ++ word weighted

-- the file: 4 by 4 pixels, one draw, background 0, 0, 0, 255
abbrev file : List ℕ → List ℕ → List ℕ → List ℕ
file d first second =
    padded 508 (word 4 ++ word 4 ++ word 1 ++ word 0 ++ (0 ∷ 0 ∷ 0 ∷ 255 ∷ [])) ++ check 0xFF09 0xFA5A
    ++ (take 508 d ++ first) ++ (take 508 (drop 508 d) ++ second)
    ++ (take 508 (drop 1016 d) ++ check 3 3) ++ (take 508 (drop 1524 d) ++ check 4 4)

-- ---- the square from 0 to 2: move to 0, 0, across to 2, up to 2, back to 0, close
unfoldable pub square_draw : List ℕ → List ℕ
square_draw color =
    draw (word 0 ++ word 0x2001 ++ word 0x1B00 ++ word 0x1C00 ++ (5 ∷ 0 ∷ 0 ∷ 0 ∷ [])) color (replicate 16 0) []
    (2 ∷ 6 ∷ 8 ∷ 6 ∷ 0 ∷ []) (word 0 ++ word 0 ++ word 2 ++ word 2 ++ word 0)

abbrev pub red_draw : List ℕ
red_draw = square_draw (one ++ nought ++ nought ++ one)

abbrev pub blue_draw : List ℕ
blue_draw = square_draw (nought ++ nought ++ one ++ one)

unfoldable pub red : List ℕ
red = file red_draw (check 0x5516 0xE01B) (check 0x0C10 0x4AB4)

unfoldable pub blue : List ℕ
blue = file blue_draw (check 0x5516 0xDE2A) (check 0x0C10 0x4AB4)

-- ---- a curve from 0, 0 by 2, 8 to 4, 0, closed, under the non-zero rule; its paint goes from opaque red at x = 0 to half green at x = 4
unfoldable pub curve_draw : List ℕ
curve_draw =
    draw (word 1 ++ word 0x2001 ++ word 0x1B01 ++ word 0x1C00 ++ (3 ∷ 0 ∷ 2 ∷ 0 ∷ [])) (replicate 16 0) (nought ++ nought ++ four ++ nought)
    ((nought ++ one ++ nought ++ nought ++ one) ++ (one ++ nought ++ one ++ nought ++ half))
    (2 ∷ 10 ∷ 0 ∷ []) (word 0 ++ word 0 ++ word 2 ++ word 8 ++ word 4 ++ word 0)

unfoldable pub curve : List ℕ
curve = file curve_draw (check 0x53A7 0x9DA3) (check 0x0A12 0x3E49)

-- ---- pictures, the lowest row first
abbrev pixel : ℕ → ℕ → ℕ → List ℕ
pixel r g b = r ∷ g ∷ b ∷ 255 ∷ []

abbrev row : List ℕ → List ℕ → List ℕ → List ℕ → List ℕ
row a b c d = a ++ b ++ c ++ d

abbrev ground : List ℕ
ground = pixel 0 0 0

unfoldable pub square_picture : List ℕ → List ℕ
square_picture p = row p p ground ground ++ row p p ground ground ++ row ground ground ground ground ++ row ground ground ground ground

abbrev pub red_picture : List ℕ
red_picture = square_picture (pixel 255 0 0)

abbrev pub blue_picture : List ℕ
blue_picture = square_picture (pixel 0 0 255)

unfoldable pub curve_picture : List ℕ
curve_picture =
    row (pixel 0xb7 0x1a 0) (pixel 0x81 0x4e 0) (pixel 0x42 0x6e 0) (pixel 0x10 0x6e 0)
    ++ row (pixel 0x76 0x11 0) (pixel 0x81 0x4e 0) (pixel 0x42 0x6e 0) (pixel 0x0a 0x47 0)
    ++ row (pixel 0x27 0x06 0) (pixel 0x81 0x4e 0) (pixel 0x42 0x6e 0) (pixel 0x03 0x18 0)
    ++ row ground (pixel 0x51 0x31 0) (pixel 0x29 0x45 0) ground

-- ---- an accepted call's answer: code 0, draw 64, scene 0, and its area
abbrev pub answer : ℕ → ℕ → ℕ → ℕ → Answer
answer x y width height = record { code = 0; draw = 64; scene = 0; x = x; y = y; width = width; height = height }
