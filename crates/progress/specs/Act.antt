-- What an act of the lexer does to the open record, part by part: the first fault, the levels, the characters kept of the key, the number, the task. Derived:
-- `acted` of `Progress` puts the parts together, and `tracks-step` of crate follows joins that to the track of crate verdict. Assumes nothing.
use Rattle.std.specs.Prelude.{Bool, true, false, cond, List, ℕ, ◌+◌, ◌-◌, ltb, set, Option, Some, None}
use Rattle.json_text.specs.declared.word.Word.{Word}
use Rattle.json_text.specs.declared.word.Word.TheVariants as W
use Rattle.json_text.specs.declared.lexer.Mode.{Mode}
use Rattle.json_text.specs.declared.lexer.Mode.TheVariants as M
use Rattle.json_text.specs.declared.lexer.Act.{Act}
use Rattle.json_text.specs.declared.lexer.Act.TheVariants as A
use Rattle.whole.specs.declared.Decimal.{Decimal}
use Rattle.whole.specs.Fresh.{fresh}
use Rattle.whole.specs.Count.{bounded, counted, is_whole}
use Rattle.table.specs.declared.kind.Form.TheVariants.{Object, Array}
use Rattle.table.specs.declared.kind.Scalar.{Scalar}
use Rattle.table.specs.declared.kind.Scalar.TheVariants as K
use Rattle.progress.specs.declared.Fault.{Fault}
use Rattle.progress.specs.declared.Fault.TheVariants as F
use Rattle.progress.specs.declared.Task.{Task}
use Rattle.progress.specs.declared.Task.TheVariants as To

-- a value that the byte at pos opens where n frames are: too deep, or one level more
unfoldable pub open_fault : ℕ → ℕ → ℕ → Option Fault
open_fault level n pos = cond (ltb level n) None (Some (F.TooDeep pos))

unfoldable pub open_level : ℕ → ℕ → ℕ
open_level level n = cond (ltb level n) (level + 1) level

-- a character c of a key of which len are kept, at most 32, each below 128: how many are kept after it, what is to be done, and the key after that
unfoldable pub kept_key_len : ℕ → ℕ → ℕ
kept_key_len len c = cond (ltb len 32) (cond (ltb c 128) (len + 1) 33) 33

unfoldable pub key_task : ℕ → ℕ → Task
key_task len c = cond (ltb len 32) (cond (ltb c 128) (To.Put c) To.Idle) To.Idle

unfoldable pub kept_in : List ℕ → ℕ → ℕ → List ℕ
kept_in key len c = cond (ltb len 32) (set key len c) key

-- the fault of an act at pos, if it is one
abbrev pub first_fault : Act → ℕ → ℕ → ℕ → Option Fault
first_fault A.Fault level n pos = Some (F.Malformed pos)
first_fault A.OpenArray level n pos = open_fault level n pos
first_fault A.OpenObject level n pos = open_fault level n pos
first_fault _ level n pos = None

-- how many values are open after an act
abbrev pub level_after : Act → ℕ → ℕ → ℕ
level_after A.OpenArray level n = open_level level n
level_after A.OpenObject level n = open_level level n
level_after A.Close level n = level - 1
level_after _ level n = level

-- how many characters of the key are kept after an act; c is the one that it finishes
abbrev pub len_after : Act → ℕ → ℕ → ℕ
len_after A.KeyStart len c = 0
len_after A.KeyChar len c = kept_key_len len c
len_after _ len c = len

-- the kind of a number that ends
unfoldable pub number_kind : Decimal → Scalar
number_kind d = cond (is_whole d) K.Int K.Num

-- the number that a byte of a number goes on with: in another mode one begins, and is fresh
abbrev pub number_in : Mode → Decimal → Decimal
number_in (M.Number n) d = d
number_in _ d = fresh

-- the number before a byte that leads from one mode to another
abbrev pub number_before : Mode → Mode → Decimal → Decimal
number_before from (M.Number n) d = number_in from d
number_before from _ d = d

-- the number after byte b, which leads to mode m
abbrev pub number_to : Mode → Decimal → ℕ → Decimal
number_to (M.Number n) d b = counted bounded n d b
number_to _ d b = d

abbrev pub scalar_of : Word → Scalar
scalar_of W.Null = K.Null
scalar_of W.True = K.True
scalar_of W.False = K.False

-- what is to be done where the byte ends a number, or not
abbrev pub number_task : Bool → Decimal → Task
number_task true d = To.Finish (number_kind d)
number_task false d = To.Idle

abbrev pub closing : Bool → Decimal → Task
closing true d = To.FinishClose (number_kind d)
closing false d = To.Close

-- what is to be done at a byte with an act; e tells whether the byte ends the number d
abbrev pub task_of : Act → Bool → Decimal → ℕ → ℕ → Task
task_of A.Pass e d len c = number_task e d
task_of A.OpenArray e d len c = To.Open Array
task_of A.OpenObject e d len c = To.Open Object
task_of A.Close e d len c = closing e d
task_of A.KeyChar e d len c = key_task len c
task_of A.KeyEnd e d len c = To.Named
task_of A.TextEnd e d len c = To.Finish K.Str
task_of (A.WordEnd w) e d len c = To.Finish (scalar_of w)
task_of _ e d len c = To.Idle
