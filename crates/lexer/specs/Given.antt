-- What a byte does where its class is handed over with it. Derived: `step_by-class_of` in proofs/ says that with the byte's own class this is
-- `step_of`. Assumes nothing.
use Rattle.std.specs.Prelude.{ℕ}
use Rattle.json_text.specs.Lexer.{place_step, key_step, text_step, number_step, word_step, number_move, word_move}
use Rattle.json_text.specs.declared.class.Class.{Class}
use Rattle.json_text.specs.declared.lexer.Mode.{Mode}
use Rattle.json_text.specs.declared.lexer.Mode.TheVariants as M
use Rattle.json_text.specs.declared.lexer.Top.{Top}
use Rattle.json_text.specs.declared.lexer.Step.{Step}
use Rattle.chars.specs.Given.{move_by}

-- `step_of`, but that the class of byte b is k
abbrev pub step_by : Class → Mode → Top → ℕ → Step
step_by k (M.At p) top b = place_step p top b
step_by k (M.Key s) top b = key_step (move_by k s b)
step_by k (M.Text s) top b = text_step (move_by k s b)
step_by k (M.Number n) top b = number_step (number_move n b) top b
step_by k (M.Word w i) top b = word_step (word_move w i b) w i
