-- What a byte does in a string where its class is handed over with it. Derived: `move_by-class_of` in proofs/ says that with the byte's own class this
-- is `string_move`. Assumes nothing.
use Rattle.std.specs.Prelude.{ℕ}
use Rattle.json_text.specs.Lexer.{char_start, string_move}
use Rattle.json_text.specs.declared.class.Class.{Class}
use Rattle.json_text.specs.declared.string.StringMode.{StringMode}
use Rattle.json_text.specs.declared.string.StringMode.TheVariants as S
use Rattle.json_text.specs.declared.string.StringMove.{StringMove}

-- `string_move`, but that the class of byte b is k: it counts where a character is awaited
abbrev pub move_by : Class → StringMode → ℕ → StringMove
move_by k S.Char b = char_start k
move_by k s b = string_move s b
