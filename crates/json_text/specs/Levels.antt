-- Open levels of the bytes so far, for refusal 12 of REQUIREMENT.md, section 6: a level is opened by `[` or `{` and closed by `]` or `}`, outside
-- strings. Stated for bytes that some text begins with; of other bytes nothing is asked. Assumes nothing.
use Rattle.std.specs.Prelude.{Bool, cond, ◌||◌, List, [], ◌∷◌, ℕ, ◌+◌, ◌-◌, eqb}

-- `[` or `{`
unfoldable pub is_opening : ℕ → Bool
is_opening b = eqb b 0x5B || eqb b 0x7B

-- `]` or `}`
unfoldable pub is_closing : ℕ → Bool
is_closing b = eqb b 0x5D || eqb b 0x7D

-- outside strings, in a string, after a backslash in a string; with the levels open
pub data Scan : Type 0 where
  outside in_string in_escape : ℕ → Scan

unfoldable pub scan_byte : Scan → ℕ → Scan
scan_byte (outside n) b =
    cond (eqb b 0x22) (in_string n) (cond (is_opening b) (outside (n + 1)) (cond (is_closing b) (outside (n - 1)) (outside n)))
scan_byte (in_string n) b = cond (eqb b 0x22) (outside n) (cond (eqb b 0x5C) (in_escape n) (in_string n))
scan_byte (in_escape n) b = in_string n

abbrev pub scan : Scan → List ℕ → Scan
scan x [] = x
scan x (b ∷ s) = scan (scan_byte x b) s

abbrev pub levels_of : Scan → ℕ
levels_of (outside n) = n
levels_of (in_string n) = n
levels_of (in_escape n) = n

-- how many levels the bytes leave open
abbrev pub open_levels : List ℕ → ℕ
open_levels p = levels_of (scan (outside 0) p)
