-- Bytes and rows of bytes, as the RFCs write them: `%x30-39` is `within 0x30 0x39`. Stated. Assumes nothing.
use Rattle.std.specs.Prelude.{Bool, ◌&&◌, ◌||◌, List, [], ◌∷◌, ℕ, leb, eqb}

-- a byte from lo to hi, both included
unfoldable pub within : ℕ → ℕ → ℕ → Bool
within lo hi b = leb lo b && leb b hi

-- RFC 8259, section 2: ws
unfoldable pub is_blank : ℕ → Bool
is_blank b = eqb b 0x20 || eqb b 0x09 || eqb b 0x0A || eqb b 0x0D

-- the second list is the first, followed by the third
pub data Follow : List ℕ → List ℕ → List ℕ → Type 0 where
  follow_none : {r : List ℕ} → Follow [] r r
  follow : {b : ℕ} {p s r : List ℕ} → Follow p s r → Follow (b ∷ p) (b ∷ s) r
