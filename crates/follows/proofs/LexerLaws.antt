-- What the lexer does with the first byte of a value and with a byte after one: a claim about every step that may come is one about the step
-- that comes. Assumes nothing.
use mathlib.Core.Bool.{Bool, true, false, not}
use mathlib.Core.Path.{◌≡◌, refl}
use Prim.Native.Nat.{ℕ}
use lib.Dec.{T, eqb}
use Rattle.laws.proofs.TestLaws.{cond-elim, true-of-T}
use Rattle.json_text.specs.Bytes.{is_blank}
use Rattle.json_text.specs.Numbers.{is_digit_1_9}
use Rattle.json_text.specs.Meaning.{Meaning}
use Rattle.json_text.specs.Lexer.{value_start, after_root, after_element, after_pair, after_value, step_to, fault_step, stay}
use Rattle.json_text.specs.Machine.{Stack, bare, whole, in_array, in_object, top_of}
use Rattle.json_text.specs.declared.string.StringMode.TheVariants as S
use Rattle.json_text.specs.declared.number.NumberMode.{NumberMode}
use Rattle.json_text.specs.declared.number.NumberMode.TheVariants as N
use Rattle.json_text.specs.declared.word.Word.{Word}
use Rattle.json_text.specs.declared.word.Word.TheVariants as W
use Rattle.json_text.specs.declared.lexer.Awaited.TheVariants as P
use Rattle.json_text.specs.declared.lexer.Mode.TheVariants as M
use Rattle.json_text.specs.declared.lexer.Act.TheVariants as A
use Rattle.json_text.specs.declared.lexer.Step.{Step}
use Rattle.json_text.specs.Proper.{Opened}
use Rattle.whole.specs.Fresh.{fresh}
use Rattle.whole.specs.Count.{unbounded}
use Rattle.whole.specs.Read.{gone_to, begins}

false_of_not : (v : Bool) → T (not v) → v ≡ false
false_of_not true h = absurd h
false_of_not false h = refl

module _ (Q : Step → Type 0) (b : ℕ) where
  -- the first byte of a value
  pub value_start-elim : Q fault_step → Q (step_to (M.Text S.Char) A.TextStart) → Q (step_to (M.At P.First) A.OpenArray) → Q (step_to (M.At P.First) A.OpenObject)
      → ((n : NumberMode) → begins unbounded b ≡ gone_to unbounded n fresh b → Q (step_to (M.Number n) A.NumberStart))
      → ((w : Word) → Q (step_to (M.Word w 1) A.Pass)) → Q (value_start b)
  unfolding value_start begins
  value_start-elim fault text array object number word =
      cond-elim Q (eqb b 0x22) (λ _. text) (λ _. cond-elim Q (eqb b 0x5B) (λ _. array) (λ _. cond-elim Q (eqb b 0x7B) (λ _. object) (λ _.
      cond-elim Q (is_digit_1_9 b) (λ h. number N.Int (rw (true-of-T (is_digit_1_9 b) h))) (λ c.
      cond-elim Q (eqb b 0x30) (λ h. number N.Zero (rw (false_of_not (is_digit_1_9 b) c, true-of-T (eqb b 0x30) h))) (λ d.
      cond-elim Q (eqb b 0x2D) (λ h. number N.Minus (rw (false_of_not (is_digit_1_9 b) c, false_of_not (eqb b 0x30) d, true-of-T (eqb b 0x2D) h))) (λ _.
      cond-elim Q (eqb b 0x6E) (λ _. word W.Null) (λ _. cond-elim Q (eqb b 0x74) (λ _. word W.True) (λ _.
      cond-elim Q (eqb b 0x66) (λ _. word W.False) (λ _. fault)))))))))

  -- a byte after a value: only where something is open, it goes on or closes
  pub after_value-elim : (𝕄 : Meaning) (k : Stack 𝕄) → Q fault_step → Q (stay P.After) → (Opened 𝕄 k → Q (stay P.Value)) → (Opened 𝕄 k → Q (stay P.Key))
      → (Opened 𝕄 k → Q (step_to (M.At P.After) A.Close)) → Q (after_value (top_of 𝕄 k) b)
  unfolding after_root after_element after_pair
  after_value-elim 𝕄 bare fault blank value key close = cond-elim Q (is_blank b) (λ _. blank) (λ _. fault)
  after_value-elim 𝕄 (whole w) fault blank value key close = cond-elim Q (is_blank b) (λ _. blank) (λ _. fault)
  after_value-elim 𝕄 (in_array a k) fault blank value key close =
      cond-elim Q (is_blank b) (λ _. blank) (λ _. cond-elim Q (eqb b 0x2C) (λ _. value tt) (λ _. cond-elim Q (eqb b 0x5D) (λ _. close tt) (λ _. fault)))
  after_value-elim 𝕄 (in_object o k) fault blank value key close =
      cond-elim Q (is_blank b) (λ _. blank) (λ _. cond-elim Q (eqb b 0x2C) (λ _. key tt) (λ _. cond-elim Q (eqb b 0x7D) (λ _. close tt) (λ _. fault)))
