-- The lines of the example day and of the other verdicts, tried. Assumes nothing.
use mathlib.Core.List.{[], ◌∷◌, ◌++◌}
use mathlib.Core.Path.{◌≡◌, refl}
use Rattle.laws.specs.Ascii.{ascii}
use Rattle.verdict.specs.declared.Verdict.TheVariants as Is
use Rattle.std.specs.Fmt.{decimal, digits}
use Rattle.text.specs.Text.{LF, line_of, lines_of, book_lines}

-- numbers have no leading zero
pub decimals : (decimal 0 ≡ ascii "0") × (decimal 9 ≡ ascii "9") × (decimal 10 ≡ ascii "10") × (decimal 105 ≡ ascii "105")
    × (decimal 65536 ≡ ascii "65536") × (decimal 18446744073709551615 ≡ ascii "18446744073709551615")
unfolding digits
decimals = (refl, refl, refl, refl, refl, refl)

-- the four records of the example day
pub day : lines_of (Is.Valid ∷ Is.Invalid ∷ Is.Unfinished 8 ∷ Is.Malformed 3 ∷ [])
    ≡ (ascii "valid 0 0" ++ LF) ++ ((ascii "invalid 0 0" ++ LF) ++ ((ascii "refused 14 8" ++ LF) ++ (ascii "refused 11 3" ++ LF)))
unfolding lines_of line_of digits
day = refl

pub others : (line_of (Is.TooDeep 12) ≡ ascii "refused 12 12" ++ LF) × (line_of Is.TooLong ≡ ascii "refused 13 16777216" ++ LF)
    × (line_of Is.Head ≡ ascii "refused 15 0" ++ LF)
unfolding line_of digits
others = (refl, refl, refl)

pub book : book_lines 9 2 ≡ (ascii "number line" ++ LF) ++ (ascii "9 2" ++ LF)
unfolding book_lines digits
book = refl
