-- A machine that reads one byte at a time, with a stack of open values, over any meaning of values. Derived: `text-of-accepted`,
-- `accepted-of-text`, `fault_at-of-place` and `depth-of-run` in proofs/ join it to the grammar. Assumes nothing.
use Rattle.std.specs.Prelude.{Bool, true, false, cond, List, [], ◌∷◌, ◌≡◌, ℕ, suc, zero}
use Rattle.std.proofs.Math.Option.{Option, none, some}
use Rattle.json_text.specs.Meaning.{Meaning}
use Rattle.json_text.specs.Lexer.{step_of, bits_after, high_after, char_of, may_end, word_of}
use Rattle.json_text.specs.declared.lexer.Awaited.{Awaited}
use Rattle.json_text.specs.declared.lexer.Awaited.TheVariants as P
use Rattle.json_text.specs.declared.lexer.Mode.{Mode}
use Rattle.json_text.specs.declared.lexer.Mode.TheVariants as M
use Rattle.json_text.specs.declared.lexer.Top.{Top}
use Rattle.json_text.specs.declared.lexer.Top.TheVariants as T
use Rattle.json_text.specs.declared.lexer.Act.{Act}
use Rattle.json_text.specs.declared.lexer.Act.TheVariants as A
use Rattle.json_text.specs.declared.lexer.Step.{Step}

abbrev pub later : Option ℕ → Option ℕ
later none = none
later (some i) = some (suc i)

module _ (𝕄 : Meaning) where
  open 𝕄 use {Result, InString, InNumber, InArray, InObject, of_word, string_start, string_char, of_string, number_start, number_byte, of_number, array_start, array_element, of_array, object_start, object_key, object_value, of_object}

  -- the open values, the innermost first; below them nothing yet, or the whole value of the text
  pub data Stack : Type 0 where
    bare : Stack
    whole : Result → Stack
    in_array : InArray → Stack → Stack
    in_object : InObject → Stack → Stack

  -- the kind of the innermost open value
  abbrev pub top_of : Stack → Top
  top_of bare = T.Bare
  top_of (whole w) = T.Bare
  top_of (in_array a k) = T.Array
  top_of (in_object o k) = T.Object

  -- how many values are open
  abbrev pub depth : Stack → ℕ
  depth bare = zero
  depth (whole w) = zero
  depth (in_array a k) = suc (depth k)
  depth (in_object o k) = suc (depth k)

  -- a finished value joins what it stands in
  abbrev pub finish : Result → Stack → Stack
  finish v bare = whole v
  finish v (whole w) = whole v
  finish v (in_array a k) = in_array (array_element a v) k
  finish v (in_object o k) = in_object (object_value o v) k

  -- the innermost open value is finished
  abbrev pub close : Stack → Stack
  close bare = bare
  close (whole w) = whole w
  close (in_array a k) = finish (of_array a) k
  close (in_object o k) = finish (of_object o) k

  -- a finished key belongs to the innermost open object
  abbrev pub name : InString → Stack → Stack
  name n bare = bare
  name n (whole w) = whole w
  name n (in_array a k) = in_array a k
  name n (in_object o k) = in_object (object_key o n) k

  -- what is known of the open token: the bits of a character, the high surrogate before it, the string, the number
  pub record Token : Type 0 where
    pub bits : ℕ
    pub high : ℕ
    pub string : InString
    pub number : InNumber

  pub data State : Type 0 where
    fault : State
    at : Mode → Token → Stack → State

  abbrev pub start : State
  start = at (M.At P.Value) (record { bits = 0; high = 0; string = string_start; number = number_start }) bare

  -- the bits after byte b in a mode, and the character that it finishes
  abbrev pub gather : Mode → Token → ℕ → Token
  gather (M.At p) g b = g
  gather (M.Key s) g b = record { bits = bits_after s g.bits b; high = high_after s g.bits g.high b; string = g.string; number = g.number }
  gather (M.Text s) g b = record { bits = bits_after s g.bits b; high = high_after s g.bits g.high b; string = g.string; number = g.number }
  gather (M.Number n) g b = g
  gather (M.Word w i) g b = g

  abbrev pub char_in : Mode → Token → ℕ → ℕ
  char_in (M.At p) g b = 0
  char_in (M.Key s) g b = char_of s g.bits g.high b
  char_in (M.Text s) g b = char_of s g.bits g.high b
  char_in (M.Number n) g b = 0
  char_in (M.Word w i) g b = 0

  abbrev pub with_string : Token → InString → Token
  with_string g n = record { bits = g.bits; high = g.high; string = n; number = g.number }

  abbrev pub with_number : Token → InNumber → Token
  with_number g d = record { bits = g.bits; high = g.high; string = g.string; number = d }

  -- a number that ends joins what it stands in
  abbrev pub number_ended : Bool → Token → Stack → Stack
  number_ended true g k = finish (of_number g.number) k
  number_ended false g k = k

  -- an act at byte b, which finishes the character c; the next byte stands in mode m
  abbrev pub act : Act → Mode → ℕ → ℕ → Token → Stack → State
  act A.Fault m c b g k = fault
  act A.Pass m c b g k = at m g k
  act A.OpenArray m c b g k = at m g (in_array array_start k)
  act A.OpenObject m c b g k = at m g (in_object object_start k)
  act A.Close m c b g k = at m g (close k)
  act A.KeyStart m c b g k = at m (with_string g string_start) k
  act A.KeyChar m c b g k = at m (with_string g (string_char g.string c)) k
  act A.KeyEnd m c b g k = at m g (name g.string k)
  act A.TextStart m c b g k = at m (with_string g string_start) k
  act A.TextChar m c b g k = at m (with_string g (string_char g.string c)) k
  act A.TextEnd m c b g k = at m g (finish (of_string g.string) k)
  act A.NumberStart m c b g k = at m (with_number g (number_byte number_start b)) k
  act A.NumberByte m c b g k = at m (with_number g (number_byte g.number b)) k
  act (A.WordEnd w) m c b g k = at m g (finish (of_word (word_of w)) k)

  -- what a step does, where byte b finishes the character c: first the number that it ends, then its act
  abbrev pub take : Step → ℕ → ℕ → Token → Token → Stack → State
  take st c b old new k = act st.act st.mode c b new (number_ended st.ends old k)

  unfoldable pub step : State → ℕ → State
  step fault b = fault
  step (at m g k) b = take (step_of m (top_of k) b) (char_in m g b) b g (gather m g b) k

  abbrev pub run : State → List ℕ → State
  run q [] = q
  run q (b ∷ s) = run (step q b) s

  -- the state is a fault: no text goes on
  abbrev pub is_fault : State → Bool
  is_fault fault = true
  is_fault (at m g k) = false

  -- the whole value, where the text may end
  abbrev pub whole_of : Stack → Option Result
  whole_of bare = none
  whole_of (whole w) = some w
  whole_of (in_array a k) = none
  whole_of (in_object o k) = none

  abbrev pub at_end : Awaited → Stack → Option Result
  at_end P.Value k = none
  at_end P.First k = none
  at_end P.Key k = none
  at_end P.Colon k = none
  at_end P.After k = whole_of k

  abbrev pub result : State → Option Result
  result fault = none
  result (at (M.At p) g k) = at_end p k
  result (at (M.Key s) g k) = none
  result (at (M.Text s) g k) = none
  result (at (M.Number n) g k) = cond (may_end n) (whole_of (finish (of_number g.number) k)) none
  result (at (M.Word w i) g k) = none

  -- from the state on the bytes are a text with the result
  abbrev pub Accepts : State → List ℕ → Result → Type 0
  Accepts q s w = result (run q s) ≡ some w

  -- the place of the first byte that leads to a fault
  unfoldable pub place_from : State → List ℕ → Option ℕ
  place_from q [] = none
  place_from q (b ∷ s) = cond (is_fault (step q b)) (some 0) (later (place_from (step q b) s))

  abbrev pub depth_of : State → ℕ
  depth_of fault = 0
  depth_of (at m g k) = depth k
