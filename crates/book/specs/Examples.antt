-- Book B, of which the worked examples speak, byte by byte: REQUIREMENT.md, section 8. Stated. Assumes nothing.
use Rattle.std.specs.Prelude.{List, ◌++◌, ℕ}
use Rattle.laws.specs.Ascii.{ascii}

abbrev pub book_b : List ℕ
book_b =
    ascii "rule form state key value next\n"
    ++ ascii "0 obj 0 corners r1 1\n"
    ++ ascii "0 obj 1 name str 2\n"
    ++ ascii "0 obj 2 - end -\n"
    ++ ascii "1 arr 0 - r2 0\n"
    ++ ascii "1 arr 0 - end -\n"
    ++ ascii "2 arr 0 - int 1\n"
    ++ ascii "2 arr 1 - int 2\n"
    ++ ascii "2 arr 2 - end -\n"
