-- What the steps of the lexer tell of their bytes: which byte opens what, that a byte that leaves a token open leaves the buffer, that only a digit leads
-- to the digits of an exponent, and which step ends a token. Assumes nothing.
use Rattle.std.specs.Prelude.{None}
use mathlib.Core.Bool.{Bool, true, false}
use mathlib.Core.Path.{◌≡◌, refl}
use Prim.Native.Nat.{ℕ}
use native.Mathlib.Omega.{arith}
use lib.Dec.{T, eqb, ltb}
use borrow.Author.Tests.{eqb-true}
use Rattle.laws.proofs.TestLaws.{cond-elim, true-of-T, true-neq-false}
use Rattle.json_text.specs.Bytes.{is_blank}
use Rattle.json_text.specs.Numbers.{is_digit_1_9}
use Rattle.json_text.specs.Lexer.{string_move, number_move, word_move, value_start, at_value, at_first_element, at_first_key, at_key, at_colon, after_root, after_element, after_pair, after_value, place_step, key_step, text_step, number_step, word_step, step_of, step_to, fault_step, ended_before, stay}
use Rattle.json_text.specs.declared.string.StringMode.TheVariants as S
use Rattle.json_text.specs.declared.string.StringMove.{StringMove}
use Rattle.json_text.specs.declared.string.StringMove.TheVariants as SM
use Rattle.json_text.specs.declared.number.NumberMode.{NumberMode}
use Rattle.json_text.specs.declared.number.NumberMode.TheVariants as N
use Rattle.json_text.specs.declared.number.NumberMove.{NumberMove}
use Rattle.json_text.specs.declared.number.NumberMove.TheVariants as NM
use Rattle.json_text.specs.declared.word.Word.{Word}
use Rattle.json_text.specs.declared.word.Word.TheVariants as W
use Rattle.json_text.specs.declared.word.WordMove.{WordMove}
use Rattle.json_text.specs.declared.word.WordMove.TheVariants as WM
use Rattle.json_text.specs.declared.lexer.Awaited.{Awaited}
use Rattle.json_text.specs.declared.lexer.Awaited.TheVariants as P
use Rattle.json_text.specs.declared.lexer.Mode.{Mode}
use Rattle.json_text.specs.declared.lexer.Mode.TheVariants as M
use Rattle.json_text.specs.declared.lexer.Top.{Top}
use Rattle.json_text.specs.declared.lexer.Act.{Act}
use Rattle.json_text.specs.declared.lexer.Act.TheVariants as A
use Rattle.json_text.specs.declared.lexer.Step.{Step}
use Rattle.whole.specs.declared.Decimal.{Decimal}
use Rattle.whole.proofs.LimitLaws.{DigitIn, DigitBy, digit-of-move}
use Rattle.table.specs.Table.{Table}
use Rattle.progress.specs.declared.Progress.{Progress}
use Rattle.progress.specs.declared.Task.{Task}
use Rattle.progress.specs.Act.{first_fault, key_task, task_of}
use Rattle.progress.specs.Memory.{Mem, perform}
use Rattle.stream.specs.Lent.{is_in_token}

-- ---- what a step tells

-- an act that opens an object is that of `{`, and one that opens an array is not
abbrev pub OpensBy : Act → ℕ → Type 0
OpensBy A.Fault b = Unit {0}
OpensBy A.Pass b = Unit {0}
OpensBy A.OpenArray b = eqb b 0x7B ≡ false
OpensBy A.OpenObject b = eqb b 0x7B ≡ true
OpensBy A.Close b = Unit {0}
OpensBy A.KeyStart b = Unit {0}
OpensBy A.KeyChar b = Unit {0}
OpensBy A.KeyEnd b = Unit {0}
OpensBy A.TextStart b = Unit {0}
OpensBy A.TextChar b = Unit {0}
OpensBy A.TextEnd b = Unit {0}
OpensBy A.NumberStart b = Unit {0}
OpensBy A.NumberByte b = Unit {0}
OpensBy (A.WordEnd w) b = Unit {0}

-- a step that leaves a token open leaves the buffer
abbrev pub LeavesIn : Bool → Step → Type 0
LeavesIn true st = (d : Decimal) (len c : ℕ) (t : Table) (x : Mem) (y : Progress) → (perform (task_of st.act st.ends d len c) t x y).work ≡ x.work
LeavesIn false st = Unit {0}

-- an act that finishes no key, string or word
abbrev pub Between : Act → Type 0
Between A.Fault = Unit {0}
Between A.Pass = Unit {0}
Between A.OpenArray = Unit {0}
Between A.OpenObject = Unit {0}
Between A.Close = Unit {0}
Between A.KeyStart = Unit {0}
Between A.KeyChar = Unit {0}
Between A.KeyEnd = ⊥
Between A.TextStart = Unit {0}
Between A.TextChar = Unit {0}
Between A.TextEnd = ⊥
Between A.NumberStart = Unit {0}
Between A.NumberByte = Unit {0}
Between (A.WordEnd v) = ⊥

-- a byte that leads to the digits of an exponent is a digit
abbrev pub DigitTo : Mode → ℕ → Type 0
DigitTo (M.At p) b = Unit {0}
DigitTo (M.Key s) b = Unit {0}
DigitTo (M.Text s) b = Unit {0}
DigitTo (M.Number n) b = DigitIn n b
DigitTo (M.Word v i) b = Unit {0}

pub record Tells (b : ℕ) (st : Step) : Type 0 where
  pub opens : OpensBy st.act b
  pub leaves : LeavesIn (is_in_token st.mode) st
  pub digit : DigitTo st.mode b

-- a step between tokens ends no number and finishes no key, string or word
pub record Placed (b : ℕ) (st : Step) : Type 0 where
  pub tells : Tells b st
  pub ends : st.ends ≡ false
  pub between : Between st.act

-- ---- each step

-- a character of a key leaves the buffer
put-leaves : (len c : ℕ) (t : Table) (x : Mem) (y : Progress) → (perform (key_task len c) t x y).work ≡ x.work
unfolding key_task
put-leaves len c t x y =
    let P : Task → Type 0 = λ k. (perform k t x y).work ≡ x.work in
    cond-elim P (ltb len 32) (λ _. cond-elim P (ltb c 128) (λ _. refl) (λ _. refl)) (λ _. refl)

module _ (b : ℕ) where
  placed-fault : Placed b fault_step
  placed-fault = record { tells = record { opens = tt; leaves = tt; digit = tt }; ends = refl; between = tt }

  placed-stay : (p : Awaited) → Placed b (stay p)
  placed-stay p = record { tells = record { opens = tt; leaves = tt; digit = tt }; ends = refl; between = tt }

  placed-close : Placed b (step_to (M.At P.After) A.Close)
  placed-close = record { tells = record { opens = tt; leaves = tt; digit = tt }; ends = refl; between = tt }

  placed-key : Placed b (step_to (M.Key S.Char) A.KeyStart)
  placed-key = record { tells = record { opens = tt; leaves = λ m len c t x y. refl; digit = tt }; ends = refl; between = tt }

  placed-text : Placed b (step_to (M.Text S.Char) A.TextStart)
  placed-text = record { tells = record { opens = tt; leaves = λ m len c t x y. refl; digit = tt }; ends = refl; between = tt }

  placed-number : (n : NumberMode) → DigitIn n b → Placed b (step_to (M.Number n) A.NumberStart)
  placed-number n d = record { tells = record { opens = tt; leaves = λ m len c t x y. refl; digit = d }; ends = refl; between = tt }

  placed-word : (v : Word) → Placed b (step_to (M.Word v 1) A.Pass)
  placed-word v = record { tells = record { opens = tt; leaves = λ m len c t x y. refl; digit = tt }; ends = refl; between = tt }

  not-brace : T (eqb b 0x5B) → eqb b 0x7B ≡ false
  not-brace h = rw (eqb-true b 0x5B (true-of-T (eqb b 0x5B) h))

  placed-array : T (eqb b 0x5B) → Placed b (step_to (M.At P.First) A.OpenArray)
  placed-array h = record { tells = record { opens = not-brace h; leaves = tt; digit = tt }; ends = refl; between = tt }

  placed-object : T (eqb b 0x7B) → Placed b (step_to (M.At P.First) A.OpenObject)
  placed-object h = record { tells = record { opens = true-of-T (eqb b 0x7B) h; leaves = tt; digit = tt }; ends = refl; between = tt }

  placed-value_start : Placed b (value_start b)
  unfolding value_start
  placed-value_start =
      let Q : Step → Type 0 = Placed b in
      cond-elim Q (eqb b 0x22) (λ _. placed-text) (λ _.
      cond-elim Q (eqb b 0x5B) placed-array (λ _.
      cond-elim Q (eqb b 0x7B) placed-object (λ _.
      cond-elim Q (is_digit_1_9 b) (λ _. placed-number N.Int tt) (λ _.
      cond-elim Q (eqb b 0x30) (λ _. placed-number N.Zero tt) (λ _.
      cond-elim Q (eqb b 0x2D) (λ _. placed-number N.Minus tt) (λ _.
      cond-elim Q (eqb b 0x6E) (λ _. placed-word W.Null) (λ _.
      cond-elim Q (eqb b 0x74) (λ _. placed-word W.True) (λ _.
      cond-elim Q (eqb b 0x66) (λ _. placed-word W.False) (λ _. placed-fault)))))))))

  -- a byte after a value is faulty, goes on, or closes: a claim about each such step is one about the step that comes
  pub after_value-elim : (Q : Step → Type 0) (top : Top) → Q fault_step → ((p : Awaited) → Q (stay p)) → Q (step_to (M.At P.After) A.Close)
      → Q (after_value top b)
  unfolding after_root after_element after_pair
  after_value-elim Q Top.Bare fault on close = cond-elim Q (is_blank b) (λ _. on P.After) (λ _. fault)
  after_value-elim Q Top.Array fault on close =
      cond-elim Q (is_blank b) (λ _. on P.After) (λ _.
      cond-elim Q (eqb b 0x2C) (λ _. on P.Value) (λ _. cond-elim Q (eqb b 0x5D) (λ _. close) (λ _. fault)))
  after_value-elim Q Top.Object fault on close =
      cond-elim Q (is_blank b) (λ _. on P.After) (λ _.
      cond-elim Q (eqb b 0x2C) (λ _. on P.Key) (λ _. cond-elim Q (eqb b 0x7D) (λ _. close) (λ _. fault)))

  placed-after_value : (top : Top) → Placed b (after_value top b)
  placed-after_value top = after_value-elim (Placed b) top placed-fault placed-stay placed-close

  placed-first_element : Placed b (at_first_element b)
  unfolding at_first_element
  placed-first_element =
      cond-elim (Placed b) (is_blank b) (λ _. placed-stay P.First) (λ _. cond-elim (Placed b) (eqb b 0x5D) (λ _. placed-close) (λ _. placed-value_start))

  placed-first_key : Placed b (at_first_key b)
  unfolding at_first_key
  placed-first_key =
      cond-elim (Placed b) (is_blank b) (λ _. placed-stay P.First) (λ _.
      cond-elim (Placed b) (eqb b 0x7D) (λ _. placed-close) (λ _. cond-elim (Placed b) (eqb b 0x22) (λ _. placed-key) (λ _. placed-fault)))

  placed-place_step : (p : Awaited) (top : Top) → Placed b (place_step p top b)
  unfolding at_value at_key at_colon
  placed-place_step P.Value top = cond-elim (Placed b) (is_blank b) (λ _. placed-stay P.Value) (λ _. placed-value_start)
  placed-place_step P.First Top.Bare = placed-first_element
  placed-place_step P.First Top.Array = placed-first_element
  placed-place_step P.First Top.Object = placed-first_key
  placed-place_step P.Key top =
      cond-elim (Placed b) (is_blank b) (λ _. placed-stay P.Key) (λ _. cond-elim (Placed b) (eqb b 0x22) (λ _. placed-key) (λ _. placed-fault))
  placed-place_step P.Colon top =
      cond-elim (Placed b) (is_blank b) (λ _. placed-stay P.Colon) (λ _. cond-elim (Placed b) (eqb b 0x3A) (λ _. placed-stay P.Value) (λ _. placed-fault))
  placed-place_step P.After top = placed-after_value top

  -- a step inside a token
  tells-key_step : (k : StringMove) → Tells b (key_step k)
  unfolding key_task
  tells-key_step SM.Fault = placed-fault.tells
  tells-key_step (SM.Go s) = record { opens = tt; leaves = λ m len c t x y. refl; digit = tt }
  tells-key_step SM.Char = record { opens = tt; leaves = λ m len c t x y. put-leaves len c t x y; digit = tt }
  tells-key_step SM.Close = record { opens = tt; leaves = tt; digit = tt }

  tells-text_step : (k : StringMove) → Tells b (text_step k)
  tells-text_step SM.Fault = placed-fault.tells
  tells-text_step (SM.Go s) = record { opens = tt; leaves = λ m len c t x y. refl; digit = tt }
  tells-text_step SM.Char = record { opens = tt; leaves = λ m len c t x y. refl; digit = tt }
  tells-text_step SM.Close = record { opens = tt; leaves = tt; digit = tt }

  tells-word_step : (k : WordMove) (v : Word) (i : ℕ) → Tells b (word_step k v i)
  tells-word_step WM.Fault v i = placed-fault.tells
  tells-word_step WM.Go v i = record { opens = tt; leaves = λ m len c t x y. refl; digit = tt }
  tells-word_step WM.End v i = record { opens = tt; leaves = tt; digit = tt }

  -- a byte that ends a number leaves no token open
  tells-ended : (top : Top) → Tells b (ended_before (after_value top b))
  tells-ended top =
      after_value-elim (λ (st : Step). Tells b (ended_before st)) top (record { opens = tt; leaves = tt; digit = tt })
      (λ p. record { opens = tt; leaves = tt; digit = tt }) (record { opens = tt; leaves = tt; digit = tt })

  tells-number_step : (k : NumberMove) (top : Top) → DigitBy k b → Tells b (number_step k top b)
  tells-number_step NM.Fault top d = placed-fault.tells
  tells-number_step (NM.Go n) top d = record { opens = tt; leaves = λ m len c t x y. refl; digit = d }
  tells-number_step NM.End top d = tells-ended top

  -- a byte in any mode
  pub tells-step_of : (m : Mode) (top : Top) → Tells b (step_of m top b)
  tells-step_of (M.At p) top = (placed-place_step p top).tells
  tells-step_of (M.Key s) top = tells-key_step (string_move s b)
  tells-step_of (M.Text s) top = tells-text_step (string_move s b)
  tells-step_of (M.Number n) top = tells-number_step (number_move n b) top (digit-of-move b n)
  tells-step_of (M.Word v i) top = tells-word_step (word_move v i b) v i

  -- a byte between tokens
  pub placed-step_of : (m : Mode) (top : Top) → is_in_token m ≡ false → Placed b (step_of m top b)
  placed-step_of (M.At p) top e = placed-place_step p top
  placed-step_of (M.Key s) top e = true-neq-false e
  placed-step_of (M.Text s) top e = true-neq-false e
  placed-step_of (M.Number n) top e = true-neq-false e
  placed-step_of (M.Word v i) top e = true-neq-false e

-- ---- a step without a fault that leaves no token open has ended the one that was

pub key_ended : (k : StringMove) (l n p : ℕ) → first_fault (key_step k).act l n p ≡ None → is_in_token (key_step k).mode ≡ false
    → key_step k ≡ step_to (M.At P.Colon) A.KeyEnd
key_ended SM.Fault l n p f e = let z : ◌≡◌ {A = ℕ} 0 1 = cc in absurd (omega arith)
key_ended (SM.Go s) l n p f e = true-neq-false e
key_ended SM.Char l n p f e = true-neq-false e
key_ended SM.Close l n p f e = refl

pub text-ended : (k : StringMove) (l n p : ℕ) → first_fault (text_step k).act l n p ≡ None → is_in_token (text_step k).mode ≡ false
    → text_step k ≡ step_to (M.At P.After) A.TextEnd
text-ended SM.Fault l n p f e = let z : ◌≡◌ {A = ℕ} 0 1 = cc in absurd (omega arith)
text-ended (SM.Go s) l n p f e = true-neq-false e
text-ended SM.Char l n p f e = true-neq-false e
text-ended SM.Close l n p f e = refl

pub word-ended : (k : WordMove) (v : Word) (i l n p : ℕ) → first_fault (word_step k v i).act l n p ≡ None → is_in_token (word_step k v i).mode ≡ false
    → word_step k v i ≡ step_to (M.At P.After) (A.WordEnd v)
word-ended WM.Fault v i l n p f e = let z : ◌≡◌ {A = ℕ} 0 1 = cc in absurd (omega arith)
word-ended WM.Go v i l n p f e = true-neq-false e
word-ended WM.End v i l n p f e = refl

pub number-ended : (k : NumberMove) (top : Top) (b l n p : ℕ) → first_fault (number_step k top b).act l n p ≡ None
    → is_in_token (number_step k top b).mode ≡ false → k ≡ NM.End
number-ended NM.Fault top b l n p f e = let z : ◌≡◌ {A = ℕ} 0 1 = cc in absurd (omega arith)
number-ended (NM.Go m) top b l n p f e = true-neq-false e
number-ended NM.End top b l n p f e = refl
