-- Lines and the points that they are, and a line of an answer, tried. Assumes nothing.
use Rattle.std.proofs.Common.{◌≡◌, refl, ◌++◌, Some, None, Ok, Err}
use lib.IntN.{ℤ, pos, negsuc}
use Rattle.std.specs.Prelude.{Option}
use Rattle.laws.specs.Ascii.{ascii}
use Rattle.laws.specs.Lists.{all}
use Rattle.json_text.specs.Bytes.{within}
use Rattle.json_text.specs.Numbers.{is_digit}
use Rattle.std.specs.Fmt.{digits}
use Rattle.text.specs.Text.{LF}
use Rattle.geometry.specs.declared.Point.{Point}
use Rattle.geometry.specs.declared.Place.TheVariants.{Inside}
use Rattle.boundary.specs.declared.Refusal.TheVariants.{Range}
use Rattle.points.specs.Points.{is_blank, blanks, word_len, after_blanks, word, after_word, without_cr, has_some_digits, bounded, unsigned, number_of, both, ended, point_from, point_of}
use Rattle.points.specs.Answers.{word_line, refused_line, said_line}

pub at : ℤ → ℤ → Option Point
at x y = Some (record { x = x; y = y })

-- two whole numbers, and such as are beyond the range
pub points : (point_of (ascii " 5  -12 ") ≡ at (pos 5) (negsuc 11)) × (point_of (ascii "1000001 -4294967301") ≡ at (pos 2000000) (negsuc 1999999))
unfolding at is_blank blanks word_len after_blanks word after_word without_cr has_some_digits bounded unsigned number_of both ended point_from point_of all is_digit within
points = (refl, refl)

pub others : (point_of (ascii "") ≡ None) × (point_of (ascii "5") ≡ None) × (point_of (ascii "5 0 0") ≡ None) × (point_of (ascii "1.0 5") ≡ None)
    × (point_of (ascii "- 5 0") ≡ None)
unfolding is_blank blanks word_len after_blanks word after_word without_cr has_some_digits bounded unsigned number_of both ended point_from point_of all is_digit within
others = (refl, refl, refl, refl, refl)

pub answers : (said_line (Ok (record { place = Inside; nearest = 10 })) ≡ ascii "inside 10" ++ LF) × (said_line (Err Range) ≡ ascii "refused 33" ++ LF)
unfolding said_line refused_line word_line digits
answers = (refl, refl)
