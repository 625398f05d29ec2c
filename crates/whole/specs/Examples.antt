-- Numbers, and whether the value of each is whole, by REQUIREMENT.md, section 4; then bytes that are no number. Stated. Assumes nothing.
use Rattle.std.specs.Prelude.{List, [], ◌∷◌, ℕ}
use Rattle.laws.specs.Ascii.{ascii}

-- what a row says of its bytes: they are a number whose value is whole; they are no such number
pub data Row : Type 0 where
  row_whole : List ℕ → Row
  row_not_whole : List ℕ → Row

-- whole by a fraction of zeros, by the exponent, by zeros at the end, or as 0; not whole; no number
abbrev pub rows : List Row
rows =
    row_whole (ascii "1.0")
    ∷ row_whole (ascii "1e2")
    ∷ row_whole (ascii "1.50e1")
    ∷ row_whole (ascii "0e-5")
    ∷ row_whole (ascii "100e-2")
    ∷ row_whole (ascii "10e-1")
    ∷ row_whole (ascii "0.0e-1")
    ∷ row_whole (ascii "-0.0")
    ∷ row_whole (ascii "1e-0")
    ∷ row_whole (ascii "1E+2")
    ∷ row_whole (ascii "0.00100e003")
    ∷ row_whole (ascii "-12000.0e-3")
    ∷ row_whole (ascii "1e-00")
    ∷ row_whole (ascii "1e99999999999999999999")
    ∷ row_not_whole (ascii "15e-1")
    ∷ row_not_whole (ascii "1.5")
    ∷ row_not_whole (ascii "1.05e1")
    ∷ row_not_whole (ascii "120e-2")
    ∷ row_not_whole (ascii "-0.01e1")
    ∷ row_not_whole (ascii "1e-99999999999999999999")
    ∷ row_not_whole (ascii "")
    ∷ row_not_whole (ascii "-")
    ∷ row_not_whole (ascii "1.")
    ∷ row_not_whole (ascii "1e")
    ∷ row_not_whole (ascii "01")
    ∷ row_not_whole (ascii "+1")
    ∷ []
