-- Every step of the machine keeps what `Proper` says of its states. Assumes nothing.
use mathlib.Core.List.{List}
use Prim.Native.Nat.{ℕ, ◌+◌}
use lib.Dec.{eqb, ltb}
use lib.ListN.{length, get_or}
use Rattle.laws.proofs.TestLaws.{cond-elim}
use Rattle.json_text.specs.Bytes.{is_blank}
use Rattle.json_text.specs.Numbers.{is_digit_1_9}
use Rattle.json_text.specs.Meaning.{Meaning}
use Rattle.json_text.specs.Grammar.{spelling}
use Rattle.json_text.specs.Lexer.{string_move, number_move, letter_move, value_start, at_value, at_first_element, at_first_key, at_key, at_colon, after_root, after_element, after_pair, after_value, key_step, text_step, number_step, word_step, word_of}
use Rattle.json_text.specs.Machine.{Stack, bare, whole, in_array, in_object, top_of, finish, Token, State, fault, at, gather, char_in, take, step}
use Rattle.json_text.specs.declared.string.StringMove.{StringMove}
use Rattle.json_text.specs.declared.string.StringMove.TheVariants as SM
use Rattle.json_text.specs.declared.number.NumberMove.{NumberMove}
use Rattle.json_text.specs.declared.number.NumberMove.TheVariants as NM
use Rattle.json_text.specs.declared.word.Word.{Word}
use Rattle.json_text.specs.declared.word.WordMove.{WordMove}
use Rattle.json_text.specs.declared.lexer.Awaited.{Awaited}
use Rattle.json_text.specs.declared.lexer.Awaited.TheVariants as P
use Rattle.json_text.specs.declared.lexer.Mode.TheVariants as M
use Rattle.json_text.specs.declared.lexer.Step.{Step}
use Rattle.json_text.specs.Proper.{InObject, Begun, ProperAt, Proper}
use Rattle.json_text.proofs.Accepted.{ends-none, top_of-finish}

module _ (𝕄 : Meaning) where
  open 𝕄 use {Result, of_number}

  begun-finish : (v : Result) (k : Stack 𝕄) → Begun 𝕄 (finish 𝕄 v k)
  begun-finish v bare = tt
  begun-finish v (whole w) = tt
  begun-finish v (in_array a k) = tt
  begun-finish v (in_object o k) = tt

  module _ (b : ℕ) (g : Token 𝕄) where
    proper-start : (k : Stack 𝕄) → Proper 𝕄 (take 𝕄 (value_start b) 0 b g g k)
    unfolding value_start spelling
    proper-start k =
        let Q : Step → Type 0 = λ st. Proper 𝕄 (take 𝕄 st 0 b g g k) in
        cond-elim Q (eqb b 0x22) (λ _. tt) (λ _. cond-elim Q (eqb b 0x5B) (λ _. tt) (λ _. cond-elim Q (eqb b 0x7B) (λ _. tt) (λ _.
        cond-elim Q (is_digit_1_9 b) (λ _. tt) (λ _. cond-elim Q (eqb b 0x30) (λ _. tt) (λ _. cond-elim Q (eqb b 0x2D) (λ _. tt) (λ _.
        cond-elim Q (eqb b 0x6E) (λ _. tt) (λ _. cond-elim Q (eqb b 0x74) (λ _. tt) (λ _. cond-elim Q (eqb b 0x66) (λ _. tt) (λ _. tt)))))))))

    proper-after : (k : Stack 𝕄) → Begun 𝕄 k → Proper 𝕄 (take 𝕄 (after_value (top_of 𝕄 k) b) 0 b g g k)
    unfolding after_root after_element after_pair
    proper-after bare h = absurd h
    proper-after (whole w) h = cond-elim (λ st. Proper 𝕄 (take 𝕄 st 0 b g g (whole w))) (is_blank b) (λ _. tt) (λ _. tt)
    proper-after (in_array a k) h =
        let Q : Step → Type 0 = λ st. Proper 𝕄 (take 𝕄 st 0 b g g (in_array a k)) in
        cond-elim Q (is_blank b) (λ _. tt) (λ _. cond-elim Q (eqb b 0x2C) (λ _. tt) (λ _. cond-elim Q (eqb b 0x5D) (λ _. begun-finish _ k) (λ _. tt)))
    proper-after (in_object o k) h =
        let Q : Step → Type 0 = λ st. Proper 𝕄 (take 𝕄 st 0 b g g (in_object o k)) in
        cond-elim Q (is_blank b) (λ _. tt) (λ _. cond-elim Q (eqb b 0x2C) (λ _. tt) (λ _. cond-elim Q (eqb b 0x7D) (λ _. begun-finish _ k) (λ _. tt)))

    proper-place : (p : Awaited) (k : Stack 𝕄) → ProperAt 𝕄 (M.At p) k → Proper 𝕄 (step 𝕄 (at (M.At p) g k) b)
    unfolding step at_value at_first_element at_first_key at_key at_colon
    proper-place P.Value k h = cond-elim (λ st. Proper 𝕄 (take 𝕄 st 0 b g g k)) (is_blank b) (λ _. tt) (λ _. proper-start k)
    proper-place P.First bare h = absurd h
    proper-place P.First (whole w) h = absurd h
    proper-place P.First (in_array a k) h =
        let Q : Step → Type 0 = λ st. Proper 𝕄 (take 𝕄 st 0 b g g (in_array a k)) in
        cond-elim Q (is_blank b) (λ _. tt) (λ _. cond-elim Q (eqb b 0x5D) (λ _. begun-finish _ k) (λ _. proper-start (in_array a k)))
    proper-place P.First (in_object o k) h =
        let Q : Step → Type 0 = λ st. Proper 𝕄 (take 𝕄 st 0 b g g (in_object o k)) in
        cond-elim Q (is_blank b) (λ _. tt) (λ _. cond-elim Q (eqb b 0x7D) (λ _. begun-finish _ k) (λ _. cond-elim Q (eqb b 0x22) (λ _. tt) (λ _. tt)))
    proper-place P.Key k h =
        let Q : Step → Type 0 = λ st. Proper 𝕄 (take 𝕄 st 0 b g g k) in
        cond-elim Q (is_blank b) (λ _. h) (λ _. cond-elim Q (eqb b 0x22) (λ _. h) (λ _. tt))
    proper-place P.Colon k h =
        let Q : Step → Type 0 = λ st. Proper 𝕄 (take 𝕄 st 0 b g g k) in
        cond-elim Q (is_blank b) (λ _. h) (λ _. cond-elim Q (eqb b 0x3A) (λ _. tt) (λ _. tt))
    proper-place P.After k h = proper-after k h

    proper-key : (x : StringMove) (c : ℕ) (e : Token 𝕄) (k : Stack 𝕄) → InObject 𝕄 k → Proper 𝕄 (take 𝕄 (key_step x) c b g e k)
    proper-key SM.Fault c e k h = tt
    proper-key (SM.Go s) c e k h = h
    proper-key SM.Char c e k h = h
    proper-key SM.Close c e bare h = absurd h
    proper-key SM.Close c e (whole w) h = absurd h
    proper-key SM.Close c e (in_array a k) h = absurd h
    proper-key SM.Close c e (in_object o k) h = tt

    proper-text : (x : StringMove) (c : ℕ) (e : Token 𝕄) (k : Stack 𝕄) → Proper 𝕄 (take 𝕄 (text_step x) c b g e k)
    proper-text SM.Fault c e k = tt
    proper-text (SM.Go s) c e k = tt
    proper-text SM.Char c e k = tt
    proper-text SM.Close c e k = begun-finish _ k

    proper-number : (x : NumberMove) (k : Stack 𝕄) → Proper 𝕄 (take 𝕄 (number_step x (top_of 𝕄 k) b) 0 b g g k)
    proper-number NM.Fault k = tt
    proper-number (NM.Go n) k = tt
    proper-number NM.End k =
        let v : Result = of_number g.number in
        let p = proper-after (finish 𝕄 v k) (begun-finish v k) in
        rw (top_of-finish 𝕄 v k, ends-none (top_of 𝕄 k) b) at p

    proper-word : (w : Word) (i : ℕ) (k : Stack 𝕄) → Proper 𝕄 (take 𝕄 (word_step (letter_move (spelling (word_of w)) i b) w i) 0 b g g k)
    unfolding letter_move
    proper-word w i k =
        let l : List ℕ = spelling (word_of w) in
        let Q : WordMove → Type 0 = λ x. Proper 𝕄 (take 𝕄 (word_step x w i) 0 b g g k) in
        cond-elim Q (ltb i (length l)) (λ _. cond-elim Q (eqb b (get_or l i 0))
        (λ _. cond-elim Q (ltb (i + 1) (length l)) (λ h. h) (λ _. begun-finish _ k)) (λ _. tt)) (λ _. tt)

  -- every step of a proper state leads to a proper state
  pub proper-step : (q : State 𝕄) (b : ℕ) → Proper 𝕄 q → Proper 𝕄 (step 𝕄 q b)
  unfolding step
  proper-step fault b h = tt
  proper-step (at (M.At p) g k) b h = proper-place b g p k h
  proper-step (at (M.Key s) g k) b h = proper-key b g (string_move s b) (char_in 𝕄 (M.Key s) g b) (gather 𝕄 (M.Key s) g b) k h
  proper-step (at (M.Text s) g k) b h = proper-text b g (string_move s b) (char_in 𝕄 (M.Text s) g b) (gather 𝕄 (M.Text s) g b) k
  proper-step (at (M.Number n) g k) b h = proper-number b g (number_move n b) k
  proper-step (at (M.Word w i) g k) b h = proper-word b g w i k
