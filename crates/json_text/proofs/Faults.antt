-- The machine faults exactly at the fault place: `begins-of-alive`, `alive-of-begins`, `fault_at-of-place`, `place-of-fault_at`. From every state
-- that is no fault some bytes lead to a whole text. Assumes nothing.
use mathlib.Core.Bool.{Bool, true, false}
use mathlib.Core.List.{List, [], ◌∷◌, ◌++◌, append_assoc}
use mathlib.Core.Option.{Option, none, some}
use mathlib.Core.Path.{◌≡◌, refl, sym, ◌∙◌}
use Prim.Native.Nat.{ℕ, zero, suc, ◌≤◌, ◌<◌}
use native.Mathlib.Omega.{arith}
use lib.Dec.{T, ltb, ltb→lt}
use borrow.Author.Tests.{ltb-true, ltb-false}
use lib.ListN.{length, take, drop, take-append-drop}
use lib.Seq.{take-take}
use Rattle.laws.proofs.TestLaws.{true-neq-false, none-neq-some}
use Rattle.json_text.specs.Bytes.{within, is_blank}
use Rattle.json_text.specs.Numbers.{is_digit_1_9}
use Rattle.json_text.specs.Strings.{Hex, hex_digit, hex_upper, line_feed}
use Rattle.json_text.specs.Tree.{null_word}
use Rattle.json_text.specs.Meaning.{Meaning, fold}
use Rattle.json_text.specs.Grammar.{spelling, Begins, FaultAt}
use Rattle.json_text.specs.Lexer.{bits_after, high_after, word_of, letter_move, value_start, at_value, at_first_element, at_first_key, at_key, at_colon, after_element, after_pair}
use Rattle.json_text.specs.Machine.{later, Stack, bare, whole, in_array, in_object, finish, Token, State, fault, at, start, step, run, is_fault, Accepts, place_from}
use Rattle.json_text.specs.declared.string.StringMode.{StringMode}
use Rattle.json_text.specs.declared.string.StringMode.TheVariants as S
use Rattle.json_text.specs.declared.number.NumberMode.{NumberMode}
use Rattle.json_text.specs.declared.word.Word.{Word}
use Rattle.json_text.specs.declared.word.Word.TheVariants as W
use Rattle.json_text.specs.declared.lexer.Awaited.TheVariants as P
use Rattle.json_text.specs.declared.lexer.Mode.TheVariants as M
use Rattle.json_text.proofs.ByteLaws.{follow-append}
use Rattle.json_text.proofs.NumberLaws.{NumberFrom, Completed, completed, complete-number}
use Rattle.json_text.proofs.StringLaws.{Goes, Ends, second-E0, second-E1, second-ED, second-EE, second-F0, second-F1, second-F4, tail-2, digit-1}
use Rattle.json_text.proofs.StringLaws.{digit-2, digit-2-below, digit-3, high-3, high-4, low-backslash, low-u, low-1, low-2, low-3}
use Rattle.json_text.proofs.StringLaws.{after-backslash, digit-4, low-4, second-C2, tail-1}
use Rattle.json_text.proofs.CharLaws.{Continues, closes, goes, ends}
use Rattle.json_text.proofs.Accepted.{fault-accepts-none, Behind, text-run, key-run, number-run, accepted-of-text}
use Rattle.json_text.specs.Proper.{Opened, Begun, Proper}
use Rattle.json_text.proofs.ProperLaws.{proper-step}
use Rattle.json_text.proofs.Sound.{Reads, reads, text-of-accepted}

-- ---- a string can be completed from each mode

data CompletedString (m : StringMode) (x h : ℕ) (r : List ℕ) : Type 0 where
  completed-string : (s cs : List ℕ) → Continues m x h s cs r → CompletedString m x h r

-- the digits 0 and D
zero-hex : Hex 0x30 0
zero-hex = unfold within in hex_digit tt

D-hex : Hex 0x44 13
D-hex = unfold within in hex_upper tt

module _ (r : List ℕ) where
  -- from the mode m on some bytes complete the string, whatever the registers hold
  FromMode : StringMode → Type 0
  FromMode m = (x h : ℕ) → CompletedString m x h r

  last : {m : StringMode} {b : ℕ} → Ends m b → FromMode m
  unfolding FromMode
  last {b} e x h = completed-string (b ∷ 0x22 ∷ r) _ (ends e closes)

  more : {m n : StringMode} {b : ℕ} → Goes m b n → FromMode n → FromMode m
  unfolding FromMode
  more {m} {n} {b} z f x h = go (f (bits_after m x b) (high_after m x h b))
    where
      go : CompletedString n (bits_after m x b) (high_after m x h b) r → CompletedString m x h r
      go (completed-string s cs c) = completed-string (b ∷ s) cs (goes z c)

  from-tail1 : FromMode S.Tail1
  unfolding within
  from-tail1 = last {b = 0x80} (tail-1 tt)

  from-tail2 : FromMode S.Tail2
  unfolding within
  from-tail2 = more {b = 0x80} (tail-2 tt) from-tail1

  from-unit3 : FromMode S.Unit3
  from-unit3 = more {b = 0x30} (digit-3 zero-hex) (last {b = 0x30} (digit-4 zero-hex))

  from-unit2 : FromMode S.Unit2
  from-unit2 = more {b = 0x30} (digit-2 zero-hex) from-unit3

  from-low3 : FromMode S.Low3
  from-low3 = more {b = 0x30} (low-3 zero-hex) (last {b = 0x30} (low-4 zero-hex))

  from-low2 : FromMode S.Low2
  unfolding within
  from-low2 = more {b = 0x43} (low-2 {h = 12} (hex_upper tt) (omega arith)) from-low3

  from-low1 : FromMode S.Low1
  from-low1 = more {b = 0x44} (low-1 D-hex) from-low2

  from-low_u : FromMode S.LowU
  from-low_u = more low-u from-low1

  from-low-backslash : FromMode S.LowBackslash
  from-low-backslash = more low-backslash from-low_u

  from-high4 : FromMode S.High4
  from-high4 = more {b = 0x30} (high-4 zero-hex) from-low-backslash

  complete-string : (m : StringMode) → FromMode m
  unfolding FromMode within
  complete-string S.Char = λ x h. completed-string (0x22 ∷ r) _ closes
  complete-string S.Escape = last {b = 0x6E} (after-backslash line_feed)
  complete-string S.Unit1 = more {b = 0x30} (digit-1 zero-hex (λ e. omega arith)) from-unit2
  complete-string S.Unit2 = from-unit2
  complete-string S.UnitD = more {b = 0x30} (digit-2-below zero-hex (omega arith)) from-unit3
  complete-string S.Unit3 = from-unit3
  complete-string S.Unit4 = last {b = 0x30} (digit-4 zero-hex)
  complete-string S.High3 = more {b = 0x30} (high-3 zero-hex) from-high4
  complete-string S.High4 = from-high4
  complete-string S.LowBackslash = from-low-backslash
  complete-string S.LowU = from-low_u
  complete-string S.Low1 = from-low1
  complete-string S.Low2 = from-low2
  complete-string S.Low3 = from-low3
  complete-string S.Low4 = last {b = 0x30} (low-4 zero-hex)
  complete-string S.SecondC2 = last {b = 0x80} (second-C2 tt)
  complete-string S.SecondE0 = more {b = 0xA0} (second-E0 tt) from-tail1
  complete-string S.SecondE1 = more {b = 0x80} (second-E1 tt) from-tail1
  complete-string S.SecondED = more {b = 0x80} (second-ED tt) from-tail1
  complete-string S.SecondEE = more {b = 0x80} (second-EE tt) from-tail1
  complete-string S.SecondF0 = more {b = 0x90} (second-F0 tt) from-tail2
  complete-string S.SecondF1 = more {b = 0x80} (second-F1 tt) from-tail2
  complete-string S.SecondF4 = more {b = 0x80} (second-F4 tt) from-tail2
  complete-string S.Tail2 = from-tail2
  complete-string S.Tail1 = from-tail1

module _ (𝕄 : Meaning) where
  open 𝕄 use {Result, InObject, of_word, string_char, of_string, number_byte, of_number, array_element, of_array, object_key, object_value, of_object}

  -- ---- every open value can be closed

  closing : Stack 𝕄 → List ℕ
  closing bare = []
  closing (whole w) = []
  closing (in_array a k) = 0x5D ∷ closing k
  closing (in_object o k) = 0x7D ∷ closing k

  data Closes (k : Stack 𝕄) (s : List ℕ) : Type 0 where
    closes-with : (w : Result) → Behind 𝕄 k s w → Closes k s

  -- after a finished value
  close-all : (k : Stack 𝕄) (v : Result) → Closes (finish 𝕄 v k) (closing k)
  unfolding closing step after_element after_pair is_blank
  close-all bare v = closes-with v (λ g. refl)
  close-all (whole w) v = closes-with v (λ g. refl)
  close-all (in_array a k) v = go (close-all k (of_array (array_element a v)))
    where
      go : Closes (finish 𝕄 (of_array (array_element a v)) k) (closing k) → Closes (in_array (array_element a v) k) (0x5D ∷ closing k)
      go (closes-with w x) = closes-with w x
  close-all (in_object o k) v = go (close-all k (of_object (object_value o v)))
    where
      go : Closes (finish 𝕄 (of_object (object_value o v)) k) (closing k) → Closes (in_object (object_value o v) k) (0x7D ∷ closing k)
      go (closes-with w x) = closes-with w x

  -- the letters of a word that are left
  letters-run : (g : Token 𝕄) (k : Stack 𝕄) (r : List ℕ) (y : Word) (i : ℕ) {w : Result} → T (ltb i (length (spelling (word_of y))))
      → Behind 𝕄 (finish 𝕄 (of_word (word_of y)) k) r w → Accepts 𝕄 (at (M.Word y i) g k) (drop i (spelling (word_of y)) ++ r) w
  unfolding spelling step letter_move
  letters-run g k r W.Null zero h x = x g
  letters-run g k r W.Null (suc zero) h x = x g
  letters-run g k r W.Null (suc (suc zero)) h x = x g
  letters-run g k r W.Null (suc (suc (suc zero))) h x = x g
  letters-run g k r W.Null (suc (suc (suc (suc i)))) h x = let l = ltb→lt (suc (suc (suc (suc i)))) 4 h in absurd (omega arith)
  letters-run g k r W.True zero h x = x g
  letters-run g k r W.True (suc zero) h x = x g
  letters-run g k r W.True (suc (suc zero)) h x = x g
  letters-run g k r W.True (suc (suc (suc zero))) h x = x g
  letters-run g k r W.True (suc (suc (suc (suc i)))) h x = let l = ltb→lt (suc (suc (suc (suc i)))) 4 h in absurd (omega arith)
  letters-run g k r W.False zero h x = x g
  letters-run g k r W.False (suc zero) h x = x g
  letters-run g k r W.False (suc (suc zero)) h x = x g
  letters-run g k r W.False (suc (suc (suc zero))) h x = x g
  letters-run g k r W.False (suc (suc (suc (suc zero)))) h x = x g
  letters-run g k r W.False (suc (suc (suc (suc (suc i))))) h x = let l = ltb→lt (suc (suc (suc (suc (suc i))))) 5 h in absurd (omega arith)

  -- ---- from each state some bytes lead to a whole text

  data Hope (q : State 𝕄) : Type 0 where
    hope : (s : List ℕ) (w : Result) → Accepts 𝕄 q s w → Hope q

  module _ (g : Token 𝕄) where
    hope-value : (k : Stack 𝕄) → Hope (at (M.At P.Value) g k)
    unfolding spelling step at_value is_blank value_start is_digit_1_9 within letter_move
    hope-value k = go (close-all k (of_word null_word))
      where
        go : Closes (finish 𝕄 (of_word null_word) k) (closing k) → Hope (at (M.At P.Value) g k)
        go (closes-with w x) = hope (0x6E ∷ 0x75 ∷ 0x6C ∷ 0x6C ∷ closing k) w (x g)

    -- a state that goes to another by a byte
    hope-by : (q : State 𝕄) (b : ℕ) → Hope (step 𝕄 q b) → Hope q
    hope-by q b (hope s w x) = hope (b ∷ s) w x

    -- after a finished value
    hope-behind : (k : Stack 𝕄) (v : Result) → Hope (at (M.At P.After) g (finish 𝕄 v k))
    hope-behind k v = go (close-all k v)
      where
        go : Closes (finish 𝕄 v k) (closing k) → Hope (at (M.At P.After) g (finish 𝕄 v k))
        go (closes-with w x) = hope (closing k) w (x g)

    hope-first : (k : Stack 𝕄) → Opened 𝕄 k → Hope (at (M.At P.First) g k)
    unfolding step at_first_element at_first_key is_blank
    hope-first bare h = absurd h
    hope-first (whole w) h = absurd h
    hope-first (in_array a k) h = hope-by (at (M.At P.First) g (in_array a k)) 0x5D (hope-behind k (of_array a))
    hope-first (in_object o k) h = hope-by (at (M.At P.First) g (in_object o k)) 0x7D (hope-behind k (of_object o))

    hope-after : (k : Stack 𝕄) → Begun 𝕄 k → Hope (at (M.At P.After) g k)
    unfolding step after_element after_pair is_blank
    hope-after bare h = absurd h
    hope-after (whole w) h = hope [] w refl
    hope-after (in_array a k) h = hope-by (at (M.At P.After) g (in_array a k)) 0x5D (hope-behind k (of_array a))
    hope-after (in_object o k) h = hope-by (at (M.At P.After) g (in_object o k)) 0x7D (hope-behind k (of_object o))

    hope-text : (m : StringMode) (k : Stack 𝕄) → Hope (at (M.Text m) g k)
    unfolding FromMode
    hope-text m k = go (complete-string (closing k) m g.bits g.high)
      where
        ended : {s cs : List ℕ} → Continues m g.bits g.high s cs (closing k)
            → Closes (finish 𝕄 (of_string (fold string_char g.string cs)) k) (closing k) → Hope (at (M.Text m) g k)
        ended {s} c (closes-with w x) = hope s w (text-run 𝕄 k g c x)

        go : CompletedString m g.bits g.high (closing k) → Hope (at (M.Text m) g k)
        go (completed-string s cs c) = ended c (close-all k (of_string (fold string_char g.string cs)))

    hope-number : (n : NumberMode) (k : Stack 𝕄) → Hope (at (M.Number n) g k)
    hope-number n k = go (complete-number n)
      where
        ended : {ds : List ℕ} → NumberFrom n ds → Closes (finish 𝕄 (of_number (fold number_byte g.number ds)) k) (closing k)
            → Hope (at (M.Number n) g k)
        ended {ds} d (closes-with w x) = hope (ds ++ closing k) w (number-run 𝕄 k g d (follow-append ds (closing k)) x)

        go : Completed n → Hope (at (M.Number n) g k)
        go (completed ds d) = ended d (close-all k (of_number (fold number_byte g.number ds)))

    hope-word : (y : Word) (i : ℕ) (k : Stack 𝕄) → T (ltb i (length (spelling (word_of y)))) → Hope (at (M.Word y i) g k)
    hope-word y i k h = go (close-all k (of_word (word_of y)))
      where
        go : Closes (finish 𝕄 (of_word (word_of y)) k) (closing k) → Hope (at (M.Word y i) g k)
        go (closes-with w x) = hope (drop i (spelling (word_of y)) ++ closing k) w (letters-run g k (closing k) y i h x)

  -- a key can be completed, and then has a value
  hope-colon : (g : Token 𝕄) (o : InObject) (k : Stack 𝕄) → Hope (at (M.At P.Colon) g (in_object o k))
  unfolding step at_colon is_blank
  hope-colon g o k = hope-by g (at (M.At P.Colon) g (in_object o k)) 0x3A (hope-value g (in_object o k))

  hope-in-key : (g : Token 𝕄) (m : StringMode) (o : InObject) (k : Stack 𝕄) → Hope (at (M.Key m) g (in_object o k))
  unfolding FromMode closing step at_colon at_value is_blank value_start is_digit_1_9 within spelling letter_move
  hope-in-key g m o k = go (complete-string (0x3A ∷ 0x6E ∷ 0x75 ∷ 0x6C ∷ 0x6C ∷ 0x7D ∷ closing k) m g.bits g.high)
    where
      J : List ℕ → Stack 𝕄
      J cs = in_object (object_key o (fold string_char g.string cs)) k

      ended : {s cs : List ℕ} → Continues m g.bits g.high s cs (0x3A ∷ 0x6E ∷ 0x75 ∷ 0x6C ∷ 0x6C ∷ 0x7D ∷ closing k)
          → Closes (finish 𝕄 (of_word null_word) (J cs)) (closing (J cs)) → Hope (at (M.Key m) g (in_object o k))
      ended {s} c (closes-with w x) = hope s w (key-run 𝕄 (in_object o k) g c x)

      go : CompletedString m g.bits g.high (0x3A ∷ 0x6E ∷ 0x75 ∷ 0x6C ∷ 0x6C ∷ 0x7D ∷ closing k) → Hope (at (M.Key m) g (in_object o k))
      go (completed-string s cs c) = ended c (close-all (J cs) (of_word null_word))

  hope-key : (g : Token 𝕄) (o : InObject) (k : Stack 𝕄) → Hope (at (M.At P.Key) g (in_object o k))
  unfolding step at_key is_blank
  hope-key g o k = hope-by g (at (M.At P.Key) g (in_object o k)) 0x22 (hope-in-key _ S.Char o k)

  hope-of-proper : (q : State 𝕄) → is_fault 𝕄 q ≡ false → Proper 𝕄 q → Hope q
  hope-of-proper fault e h = true-neq-false e
  hope-of-proper (at (M.At P.Value) g k) e h = hope-value g k
  hope-of-proper (at (M.At P.First) g k) e h = hope-first g k h
  hope-of-proper (at (M.At P.Key) g bare) e h = absurd h
  hope-of-proper (at (M.At P.Key) g (whole w)) e h = absurd h
  hope-of-proper (at (M.At P.Key) g (in_array a k)) e h = absurd h
  hope-of-proper (at (M.At P.Key) g (in_object o k)) e h = hope-key g o k
  hope-of-proper (at (M.At P.Colon) g bare) e h = absurd h
  hope-of-proper (at (M.At P.Colon) g (whole w)) e h = absurd h
  hope-of-proper (at (M.At P.Colon) g (in_array a k)) e h = absurd h
  hope-of-proper (at (M.At P.Colon) g (in_object o k)) e h = hope-colon g o k
  hope-of-proper (at (M.At P.After) g k) e h = hope-after g k h
  hope-of-proper (at (M.Key m) g bare) e h = absurd h
  hope-of-proper (at (M.Key m) g (whole w)) e h = absurd h
  hope-of-proper (at (M.Key m) g (in_array a k)) e h = absurd h
  hope-of-proper (at (M.Key m) g (in_object o k)) e h = hope-in-key g m o k
  hope-of-proper (at (M.Text m) g k) e h = hope-text g m k
  hope-of-proper (at (M.Number n) g k) e h = hope-number g n k
  hope-of-proper (at (M.Word y i) g k) e h = hope-word g y i k h

  -- ---- the bytes so far begin some text exactly when the machine is not at fault

  run-append : (p s : List ℕ) (q : State 𝕄) → run 𝕄 q (p ++ s) ≡ run 𝕄 (run 𝕄 q p) s
  run-append [] s q = refl
  run-append (b ∷ p) s q = run-append p s (step 𝕄 q b)

  pub proper-run : (p : List ℕ) (q : State 𝕄) → Proper 𝕄 q → Proper 𝕄 (run 𝕄 q p)
  proper-run [] q h = h
  proper-run (b ∷ p) q h = proper-run p (step 𝕄 q b) (proper-step 𝕄 q b h)

  pub begins-of-alive : (p : List ℕ) → is_fault 𝕄 (run 𝕄 (start 𝕄) p) ≡ false → Begins p
  begins-of-alive p e = go (hope-of-proper (run 𝕄 (start 𝕄) p) e (proper-run p (start 𝕄) tt))
    where
      text : (s : List ℕ) {w : Result} → Reads 𝕄 (p ++ s) w → Begins p
      text s (reads v t f) = (s, v, t)

      go : Hope (run 𝕄 (start 𝕄) p) → Begins p
      go (hope s w x) = text s (text-of-accepted 𝕄 (p ++ s) w (rw (run-append p s (start 𝕄)) x))

  pub alive-of-begins : (p : List ℕ) → Begins p → is_fault 𝕄 (run 𝕄 (start 𝕄) p) ≡ false
  alive-of-begins p b = go (run 𝕄 (start 𝕄) p) refl
    where
      go : (q : State 𝕄) → run 𝕄 (start 𝕄) p ≡ q → is_fault 𝕄 q ≡ false
      go fault e = fault-accepts-none 𝕄 b.0 (rw (run-append p b.0 (start 𝕄), e) at (accepted-of-text 𝕄 b.2))
      go (at m g k) e = refl

  -- ---- the fault place

  module _ (q : State 𝕄) (b : ℕ) (s : List ℕ) where
    place_here : is_fault 𝕄 (step 𝕄 q b) ≡ true → place_from 𝕄 q (b ∷ s) ≡ some 0
    unfolding place_from
    place_here e = rw e

    place-later : is_fault 𝕄 (step 𝕄 q b) ≡ false → place_from 𝕄 q (b ∷ s) ≡ later (place_from 𝕄 (step 𝕄 q b) s)
    unfolding place_from
    place-later e = rw e

  some-of-later : (o : Option ℕ) (i : ℕ) → later o ≡ some i → (j : ℕ) × (i ≡ suc j) × (o ≡ some j)
  some-of-later none i e = none-neq-some e
  some-of-later (some j) i e = (j, cc, refl)

  none-of-later : (o : Option ℕ) → later o ≡ none → o ≡ none
  none-of-later none e = refl
  none-of-later (some j) e = none-neq-some (sym e)

  -- the machine comes to a fault with byte i
  record Stops (q : State 𝕄) (s : List ℕ) (i : ℕ) : Type 0 where
    inside : i < length s
    before : is_fault 𝕄 (run 𝕄 q (take i s)) ≡ false
    behind : is_fault 𝕄 (run 𝕄 q (take (suc i) s)) ≡ true

  stops-of-place : (s : List ℕ) (q : State 𝕄) (i : ℕ) → is_fault 𝕄 q ≡ false → place_from 𝕄 q s ≡ some i → Stops q s i
  unfolding place_from
  stops-of-place [] q i d e = none-neq-some e
  stops-of-place (b ∷ s) q i d e = go (λ j. stops-of-place s (step 𝕄 q b) j) (is_fault 𝕄 (step 𝕄 q b)) refl
    where
      go : ((j : ℕ) → is_fault 𝕄 (step 𝕄 q b) ≡ false → place_from 𝕄 (step 𝕄 q b) s ≡ some j → Stops (step 𝕄 q b) s j)
          → (v : Bool) → is_fault 𝕄 (step 𝕄 q b) ≡ v → Stops q (b ∷ s) i
      go ih true f = let h : 0 ≡ i = cc (place_here q b s f) in rw (← h) (record { inside = omega arith; before = d; behind = f })
      go ih false f =
          let l = some-of-later (place_from 𝕄 (step 𝕄 q b) s) i (sym (place-later q b s f) ∙ e) in
          let r = ih l.0 f l.2 in
          rw l.1 (record { inside = omega (arith, r.inside); before = r.before; behind = r.behind })

  alive-of-no-place : (s : List ℕ) (q : State 𝕄) → is_fault 𝕄 q ≡ false → place_from 𝕄 q s ≡ none → is_fault 𝕄 (run 𝕄 q s) ≡ false
  alive-of-no-place [] q d e = d
  alive-of-no-place (b ∷ s) q d e = go (alive-of-no-place s (step 𝕄 q b)) (is_fault 𝕄 (step 𝕄 q b)) refl
    where
      go : (is_fault 𝕄 (step 𝕄 q b) ≡ false → place_from 𝕄 (step 𝕄 q b) s ≡ none → is_fault 𝕄 (run 𝕄 (step 𝕄 q b) s) ≡ false)
          → (v : Bool) → is_fault 𝕄 (step 𝕄 q b) ≡ v → is_fault 𝕄 (run 𝕄 (step 𝕄 q b) s) ≡ false
      go ih true f = none-neq-some {A = ℕ} (sym e ∙ place_here q b s f)
      go ih false f = ih f (none-of-later _ (sym (place-later q b s f) ∙ e))

  -- where the machine finds a fault is the fault place
  pub fault_at-of-place : (p : List ℕ) (i : ℕ) → place_from 𝕄 (start 𝕄) p ≡ some i → FaultAt p i
  fault_at-of-place p i e =
      let r = stops-of-place p (start 𝕄) i refl e in
      record {
        inside = r.inside;
        before = begins-of-alive (take i p) r.before;
        behind = λ b. true-neq-false (sym r.behind ∙ alive-of-begins (take (suc i) p) b);
      }

  -- where the machine finds no fault, some text begins with the bytes
  pub begins-of-no-place : (p : List ℕ) → place_from 𝕄 (start 𝕄) p ≡ none → Begins p
  begins-of-no-place p e = begins-of-alive p (alive-of-no-place p (start 𝕄) refl e)

-- what a text begins with, a text begins with
pub begins-of-longer : (p q : List ℕ) → Begins (p ++ q) → Begins p
begins-of-longer p q b = (q ++ b.0, b.1, rw append_assoc at b.2)

pub begins-of-take : (i j : ℕ) (p : List ℕ) → i ≤ j → Begins (take j p) → Begins (take i p)
begins-of-take i j p h b =
    let e : take i p ++ drop i (take j p) ≡ take j p = rw (← take-take i j p h) (take-append-drop i (take j p)) in
    begins-of-longer (take i p) (drop i (take j p)) (rw e b)

-- there is one fault place
pub fault_at-unique : (p : List ℕ) (i j : ℕ) → FaultAt p i → FaultAt p j → i ≡ j
fault_at-unique p i j x y = go (ltb i j) refl (ltb j i) refl
  where
    before : (i j : ℕ) → FaultAt p i → FaultAt p j → i < j → ⊥
    before i j x y h = x.behind (begins-of-take (suc i) j p h y.before)

    go : (a : Bool) → ltb i j ≡ a → (b : Bool) → ltb j i ≡ b → i ≡ j
    go true e b f = absurd (before i j x y (ltb-true i j e))
    go false e true f = absurd (before j i y x (ltb-true j i f))
    go false e false f = omega (arith, ltb-false i j e, ltb-false j i f)

-- the machine finds the fault place
pub place-of-fault_at : (𝕄 : Meaning) (p : List ℕ) (i : ℕ) → FaultAt p i → place_from 𝕄 (start 𝕄) p ≡ some i
place-of-fault_at 𝕄 p i x = go (place_from 𝕄 (start 𝕄) p) refl
  where
    go : (o : Option ℕ) → place_from 𝕄 (start 𝕄) p ≡ o → place_from 𝕄 (start 𝕄) p ≡ some i
    go none e = absurd (x.behind (begins-of-longer (take (suc i) p) (drop (suc i) p) (rw (take-append-drop (suc i) p) (begins-of-no-place 𝕄 p e))))
    go (some j) e = rw (fault_at-unique p i j x (fault_at-of-place 𝕄 p j e)) e
