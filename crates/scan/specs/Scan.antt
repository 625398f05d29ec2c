-- What the scans of a field give. Derived: `FieldLaws` and `ScanLaws` join each to the tests and numbers of a book. Assumes nothing.
use Rattle.std.specs.Prelude.{◌∷◌, cond, Option, Some, None, List, ◌≡◌, ℕ, ◌<◌, ltb, length}
use Rattle.laws.specs.Lists.{same}
use Rattle.table.specs.declared.kind.Scalar.{Scalar}
use Rattle.table.specs.declared.kind.Scalar.TheVariants.{Null, True, False, Str, Num, Int}
use Rattle.table.specs.declared.kind.ValueKind.{ValueKind}
use Rattle.book.specs.Text.{split}
use Rattle.book.specs.Line.{small_kind, word_null, word_true, word_false, word_str, word_num, word_int}

-- a number below m, and none for all others
unfoldable pub below : ℕ → ℕ → Option ℕ
below m v = cond (ltb v m) (Some v) None

-- a kind that refers to a rule below 32 or to none, and none for all others
unfoldable pub kind_below : ValueKind → Option ValueKind
kind_below k = cond (small_kind k) (Some k) None

-- the plain kind that a field names
unfoldable pub word_of : List ℕ → Option Scalar
word_of s =
    cond (same s word_null) (Some Null)
    (cond (same s word_true) (Some True)
    (cond (same s word_false) (Some False)
    (cond (same s word_str) (Some Str)
    (cond (same s word_num) (Some Num)
    (cond (same s word_int) (Some Int) None)))))

-- the parts of s between bytes c are first, and those of rest
pub record FirstPart (c : ℕ) (s first rest : List ℕ) : Type 0 where
  pub parts : split c s ≡ first ∷ split c rest
  pub shorter : length rest < length s
