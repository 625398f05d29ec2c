-- With its own class handed over, a byte does what the definitions of `json_text` say. Assumes nothing.
use mathlib.Core.Path.{◌≡◌, refl, ap, ◌∙◌}
use Prim.Native.Nat.{ℕ, ◌<◌}
use Rattle.json_text.specs.Classes.{class_of}
use Rattle.json_text.specs.Lexer.{key_step, text_step, step_of}
use Rattle.json_text.specs.declared.class.Class.{Class}
use Rattle.json_text.specs.declared.lexer.Mode.{Mode}
use Rattle.json_text.specs.declared.lexer.Mode.TheVariants as M
use Rattle.json_text.specs.declared.lexer.Top.{Top}
use Rattle.chars.specs.Table.{class_table, class_at}
use Rattle.chars.proofs.TableLaws.{class_at-class_table}
use Rattle.chars.proofs.GivenLaws.{move_by-class_of}
use Rattle.lexer.specs.Given.{step_by}

-- anywhere in a text
pub step_by-class_of : (m : Mode) (top : Top) (b : ℕ) → step_by (class_of b) m top b ≡ step_of m top b
step_by-class_of (M.At p) top b = refl
step_by-class_of (M.Key s) top b = ap key_step (move_by-class_of s b)
step_by-class_of (M.Text s) top b = ap text_step (move_by-class_of s b)
step_by-class_of (M.Number n) top b = refl
step_by-class_of (M.Word w i) top b = refl

-- with the class that the table gives the byte, `step_by` is `step_of`
pub step_by-class_table : (m : Mode) (top : Top) (b : ℕ) → b < 256 → step_by (class_at class_table b) m top b ≡ step_of m top b
step_by-class_table m top b h = ap (λ (k : Class). step_by k m top b) (class_at-class_table b h) ∙ step_by-class_of m top b
