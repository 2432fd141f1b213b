-- Version and source hash of the library: written by tests/identity, which says of what the hash is.
use Rattle.std.specs.Prelude.{[], ◌∷◌}
use Rattle.identity.specs.declared.Identity.{Identity}

abbrev pub identity_of : Identity
identity_of = record {
  major = 0;
  minor = 1;
  patch = 0;
  source =
      157 ∷ 66 ∷ 15 ∷ 124 ∷ 248 ∷ 34 ∷ 150 ∷ 5 ∷ 79 ∷ 122 ∷ 97 ∷ 37 ∷ 56 ∷ 6 ∷ 225 ∷ 61
      ∷ 221 ∷ 136 ∷ 220 ∷ 31 ∷ 219 ∷ 22 ∷ 253 ∷ 160 ∷ 242 ∷ 245 ∷ 171 ∷ 120 ∷ 22 ∷ 229 ∷ 182 ∷ 23 ∷ [];
}
