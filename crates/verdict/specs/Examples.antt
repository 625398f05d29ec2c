-- Parts after an RS under book B, each with the length of the work buffer given at start and its verdict: REQUIREMENT.md, section 8, then the four
-- records of the example day, then numbers of section 4; the last row is ours: at one byte, 11 comes before 12. Stated. Assumes nothing.
use Rattle.std.specs.Prelude.{List, [], ◌∷◌, ℕ}
use Rattle.laws.specs.Ascii.{ascii}
use Rattle.book.specs.Load.{loads}
use Rattle.book.specs.Examples.{book_b}
use Rattle.frame.specs.Frame.{frame_count}
use Rattle.verdict.specs.declared.Verdict.{Verdict}
use Rattle.verdict.specs.declared.Verdict.TheVariants as Is
use Rattle.verdict.specs.Verdict.{Judged}

pub record Row : Type 0 where
  pub part : List ℕ
  pub work : ℕ
  pub verdict : Verdict

-- what a row says: the part has the verdict, by the entries that load gives for book B, with the frames that start counts in the work buffer
abbrev pub Says : Row → Type 0
Says x = Judged (loads book_b).entries (frame_count x.work) x.part x.verdict

abbrev row : List ℕ → ℕ → Verdict → Row
row p n v = record { part = p; work = n; verdict = v }

abbrev pub rows : List Row
rows =
    row (ascii "{}") 6144 Is.Invalid
    ∷ row (ascii "{\"corners\":[],\"name\":\"\"}") 6144 Is.Valid
    -- name twice, then corners
    ∷ row (ascii "{\"name\":\"\",\"name\":\"\",\"corners\":[]}") 6144 Is.Invalid
    ∷ row (ascii "{\"n\\u0061me\":\"a\",\"corners\":[]}") 6144 Is.Valid
    ∷ row (ascii "{\"corners\":[[1.0,2]],\"name\":\"\"}") 6144 Is.Valid
    ∷ row (ascii "{\"corners\":[[1,2]],\"name\":\"\"}") 288 Is.Valid
    ∷ row (ascii "{\"corners\":[[1,2]],\"name\":\"\"}") 287 (Is.TooDeep 12)
    ∷ row (ascii "12") 6144 Is.Invalid
    ∷ row (ascii "01") 6144 (Is.Malformed 1)
    ∷ row (ascii "-") 6144 (Is.Unfinished 1)
    ∷ row (ascii "\"\\uDC00\"") 6144 (Is.Malformed 4)
    -- quote, 0xE0, 0x80
    ∷ row (0x22 ∷ 0xE0 ∷ 0x80 ∷ []) 6144 (Is.Malformed 2)
    -- LF alone
    ∷ row (ascii "\n") 6144 (Is.Unfinished 1)
    ∷ row (ascii "nulx") 6144 (Is.Malformed 3)
    ∷ row (ascii "{}x") 6144 (Is.Malformed 2)
    -- the example day
    ∷ row (ascii "{\"name\":\"N\",\"corners\":[[1,2]]}\n") 6144 Is.Valid
    ∷ row (ascii "{\"name\":\"N\"}\n") 6144 Is.Invalid
    ∷ row (ascii "{\"name\":") 6144 (Is.Unfinished 8)
    ∷ row (ascii "[1,]\n") 6144 (Is.Malformed 3)
    -- whole numbers and others
    ∷ row (ascii "{\"corners\":[[1e2,2]],\"name\":\"\"}") 6144 Is.Valid
    ∷ row (ascii "{\"corners\":[[1.50e1,2]],\"name\":\"\"}") 6144 Is.Valid
    ∷ row (ascii "{\"corners\":[[0e-5,2]],\"name\":\"\"}") 6144 Is.Valid
    ∷ row (ascii "{\"corners\":[[15e-1,2]],\"name\":\"\"}") 6144 Is.Invalid
    ∷ row (ascii "{\"corners\":[[100e-2,2]],\"name\":\"\"}") 6144 Is.Valid
    ∷ row (ascii "{\"corners\":[[10e-1,2]],\"name\":\"\"}") 6144 Is.Valid
    ∷ row (ascii "{\"corners\":[[0.0e-1,2]],\"name\":\"\"}") 6144 Is.Valid
    ∷ row (ascii "{\"corners\":[[-0.0,2]],\"name\":\"\"}") 6144 Is.Valid
    ∷ row (ascii "{\"corners\":[[1e-0,2]],\"name\":\"\"}") 6144 Is.Valid
    ∷ row (ascii "{\"corners\":[[1E+2,2]],\"name\":\"\"}") 6144 Is.Valid
    ∷ row (ascii "{\"corners\":[[1.5,2]],\"name\":\"\"}") 6144 Is.Invalid
    ∷ row (ascii "{\"corners\":[[1.05e1,2]],\"name\":\"\"}") 6144 Is.Invalid
    ∷ row (ascii "{\"corners\":[[120e-2,2]],\"name\":\"\"}") 6144 Is.Invalid
    -- malformed and too deep at one byte
    ∷ row (ascii "{[") 96 (Is.Malformed 1)
    ∷ []
