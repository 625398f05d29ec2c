-- With its own class handed over, a byte does in a string what the definitions of `json_text` say. Assumes nothing.
use mathlib.Core.Path.{◌≡◌, refl, ap, ◌∙◌}
use Prim.Native.Nat.{ℕ, ◌<◌}
use Rattle.json_text.specs.Classes.{class_of}
use Rattle.json_text.specs.Lexer.{string_move}
use Rattle.json_text.specs.declared.class.Class.{Class}
use Rattle.json_text.specs.declared.string.StringMode.{StringMode}
use Rattle.json_text.specs.declared.string.StringMode.TheVariants as S
use Rattle.chars.specs.Table.{class_table, class_at}
use Rattle.chars.specs.Given.{move_by}
use Rattle.chars.proofs.TableLaws.{class_at-class_table}

pub move_by-class_of : (s : StringMode) (b : ℕ) → move_by (class_of b) s b ≡ string_move s b
move_by-class_of S.Char b = refl
move_by-class_of S.Escape b = refl
move_by-class_of S.Unit1 b = refl
move_by-class_of S.Unit2 b = refl
move_by-class_of S.UnitD b = refl
move_by-class_of S.Unit3 b = refl
move_by-class_of S.Unit4 b = refl
move_by-class_of S.High3 b = refl
move_by-class_of S.High4 b = refl
move_by-class_of S.LowBackslash b = refl
move_by-class_of S.LowU b = refl
move_by-class_of S.Low1 b = refl
move_by-class_of S.Low2 b = refl
move_by-class_of S.Low3 b = refl
move_by-class_of S.Low4 b = refl
move_by-class_of S.SecondC2 b = refl
move_by-class_of S.SecondE0 b = refl
move_by-class_of S.SecondE1 b = refl
move_by-class_of S.SecondED b = refl
move_by-class_of S.SecondEE b = refl
move_by-class_of S.SecondF0 b = refl
move_by-class_of S.SecondF1 b = refl
move_by-class_of S.SecondF4 b = refl
move_by-class_of S.Tail2 b = refl
move_by-class_of S.Tail1 b = refl

-- with the class that the table gives the byte, `move_by` is `string_move`
pub move_by-class_table : (s : StringMode) (b : ℕ) → b < 256 → move_by (class_at class_table b) s b ≡ string_move s b
move_by-class_table s b h = ap (λ (k : Class). move_by k s b) (class_at-class_table b h) ∙ move_by-class_of s b
