-- The states that the machine comes to: a key is read in an object, after an opening byte something is open, after a value something was
-- finished, and a word has letters left. Derived, nothing to believe: `proper-step` of `ProperLaws` shows that every step keeps this. Assumes nothing.
use Rattle.std.specs.Prelude.{true, T, ltb, length}
use Rattle.json_text.specs.Meaning.{Meaning}
use Rattle.json_text.specs.Grammar.{spelling}
use Rattle.json_text.specs.Lexer.{word_of}
use Rattle.json_text.specs.Machine.{Stack, bare, whole, in_array, in_object, State, fault, at}
use Rattle.json_text.specs.declared.lexer.Awaited.TheVariants as P
use Rattle.json_text.specs.declared.lexer.Mode.{Mode}
use Rattle.json_text.specs.declared.lexer.Mode.TheVariants as M

module _ (𝕄 : Meaning) where
  -- the innermost open value is an object
  abbrev pub InObject : Stack 𝕄 → Type 0
  InObject bare = ⊥
  InObject (whole w) = ⊥
  InObject (in_array a k) = ⊥
  InObject (in_object o k) = T true

  -- something is open
  abbrev pub Opened : Stack 𝕄 → Type 0
  Opened bare = ⊥
  Opened (whole w) = ⊥
  Opened (in_array a k) = T true
  Opened (in_object o k) = T true

  -- something was finished, or is open
  abbrev pub Begun : Stack 𝕄 → Type 0
  Begun bare = ⊥
  Begun (whole w) = T true
  Begun (in_array a k) = T true
  Begun (in_object o k) = T true

  abbrev pub ProperAt : Mode → Stack 𝕄 → Type 0
  ProperAt (M.At P.Value) k = T true
  ProperAt (M.At P.First) k = Opened k
  ProperAt (M.At P.Key) k = InObject k
  ProperAt (M.At P.Colon) k = InObject k
  ProperAt (M.At P.After) k = Begun k
  ProperAt (M.Key s) k = InObject k
  ProperAt (M.Text s) k = T true
  ProperAt (M.Number n) k = T true
  ProperAt (M.Word w i) k = T (ltb i (length (spelling (word_of w))))

  abbrev pub Proper : State 𝕄 → Type 0
  Proper fault = T true
  Proper (at m g k) = ProperAt m k
