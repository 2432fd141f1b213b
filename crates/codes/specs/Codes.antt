-- The table of codes ("Codes, and which comes first"): each number of it stands here once, under its name.
use Rattle.std.specs.Prelude.{ℕ, List, [], ◌∷◌, ◌++◌, Bool, false, not, ◌&&◌, ◌||◌, eqb}

abbrev pub accepted_code : ℕ
accepted_code = 0

abbrev pub bad_length : ℕ
bad_length = 0xB002

abbrev pub bad_checksum : ℕ
bad_checksum = 0xB001

abbrev pub illegal_argument : ℕ
illegal_argument = 0x1001

abbrev pub unsupported_path_format : ℕ
unsupported_path_format = 0x1005

abbrev pub unsupported_image_format : ℕ
unsupported_image_format = 0x1004

abbrev pub out_of_memory : ℕ
out_of_memory = 0x1002

-- in the paper's order: those of a scene, 0 for accepted among them, then those of what is lent
abbrev pub scene_codes : List ℕ
scene_codes = accepted_code ∷ bad_length ∷ bad_checksum ∷ illegal_argument ∷ unsupported_path_format ∷ []

abbrev pub codes : List ℕ
codes = scene_codes ++ (unsupported_image_format ∷ out_of_memory ∷ [])

abbrev pub is_one_of : ℕ → List ℕ → Bool
is_one_of code [] = false
is_one_of code (c ∷ cs) = eqb code c || is_one_of code cs

abbrev pub in_table : ℕ → Bool
in_table code = is_one_of code codes

-- every code of the table but that of what is accepted
abbrev pub is_refusal : ℕ → Bool
is_refusal code = in_table code && not (eqb code accepted_code)
