-- Byte strings of a book: the parts between separators, and numbers in digits. REQUIREMENT.md, section 3. Stated. Assumes nothing.
use Rattle.std.specs.Prelude.{Bool, true, false, not, cond, ◌&&◌, ◌||◌, List, [], ◌∷◌, ℕ, ◌+◌, ◌*◌, ◌-◌, leb, eqb}
use Rattle.laws.specs.Lists.{all}

-- a byte string is empty
unfoldable pub is_empty : List ℕ → Bool
is_empty [] = true
is_empty (b ∷ s) = false

-- byte b before the first of the parts
unfoldable pub onto : ℕ → List (List ℕ) → List (List ℕ)
onto b [] = (b ∷ []) ∷ []
onto b (p ∷ ps) = (b ∷ p) ∷ ps

-- the parts of a byte string between the bytes c: one part more than it has such bytes
unfoldable pub split : ℕ → List ℕ → List (List ℕ)
split c [] = [] ∷ []
split c (b ∷ s) = cond (eqb b c) ([] ∷ split c s) (onto b (split c s))

-- a byte from a to z
unfoldable pub between : ℕ → ℕ → ℕ → Bool
between a z b = leb a b && leb b z

-- `0` to `9`
abbrev pub is_digit : ℕ → Bool
is_digit = between 48 57

-- digits without a leading zero: `0` itself, or digits of which the first is another
unfoldable pub is_number : List ℕ → Bool
is_number [] = false
is_number (d ∷ s) = is_digit d && (all is_digit s && (not (eqb d 48) || is_empty s))

-- what digits mean after digits that mean a
unfoldable pub number_from : ℕ → List ℕ → ℕ
number_from a [] = a
number_from a (d ∷ s) = number_from (a * 10 + (d - 48)) s

-- what digits mean, in base ten
unfoldable pub number : List ℕ → ℕ
number s = number_from 0 s
