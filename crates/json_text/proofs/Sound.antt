-- What the machine accepts is a text of the grammar with that meaning: `text-of-accepted`. What may follow a state is said by the phrases of
-- its mode and stack; what may follow a step's state may, after its byte, follow the state before it. Assumes nothing.
use mathlib.Core.Bool.{not}
use mathlib.Core.List.{List, [], ◌∷◌}
use mathlib.Core.Option.{some}
use mathlib.Core.Path.{◌≡◌, refl, sym, ◌∙◌, ap, subst}
use Prim.Native.Nat.{ℕ, zero, suc, ◌+◌, ◌≤◌}
use native.Mathlib.Numerals.{add-one}
use native.Mathlib.Omega.{arith}
use lib.Dec.{T, eqb, ltb, eqb→eq, ltb→lt, nltb→le}
use lib.ListN.{length, get_or, drop}
use lib.Seq.{drop-cons, drop-nil}
use Rattle.laws.proofs.TestLaws.{cond-elim, cond_byte, none-neq-some}
use Rattle.json_text.specs.Bytes.{is_blank, Follow, follow_none, follow}
use Rattle.json_text.specs.Numbers.{is_digit_1_9}
use Rattle.json_text.specs.Strings.{Chars}
use Rattle.json_text.specs.Tree.{Json, Values, Pairs, pairs}
use Rattle.json_text.specs.Meaning.{Meaning, fold, meaning, elements, members}
use Rattle.json_text.specs.Grammar.{spelling, Text}
use Rattle.json_text.specs.Lexer.{may_end, letter_move, value_start, at_value, at_first_element, at_first_key, at_key, at_colon, after_root, after_element, after_pair, after_value, key_step, text_step, number_step, word_step, word_of}
use Rattle.json_text.specs.Machine.{Stack, bare, whole, in_array, in_object, top_of, finish, Token, State, fault, at, start, with_string, with_number, gather, char_in, take, step, result, whole_of, Accepts}
use Rattle.json_text.specs.declared.string.StringMode.{StringMode}
use Rattle.json_text.specs.declared.string.StringMode.TheVariants as S
use Rattle.json_text.specs.declared.string.StringMove.{StringMove}
use Rattle.json_text.specs.declared.number.NumberMode.{NumberMode}
use Rattle.json_text.specs.declared.number.NumberMode.TheVariants as N
use Rattle.json_text.specs.declared.number.NumberMove.{NumberMove}
use Rattle.json_text.specs.declared.word.Word.{Word as LexWord}
use Rattle.json_text.specs.declared.word.Word.TheVariants as W
use Rattle.json_text.specs.declared.word.WordMove.{WordMove}
use Rattle.json_text.specs.declared.lexer.Awaited.{Awaited}
use Rattle.json_text.specs.declared.lexer.Awaited.TheVariants as P
use Rattle.json_text.specs.declared.lexer.Mode.TheVariants as M
use Rattle.json_text.specs.declared.lexer.Step.{Step}
use Rattle.json_text.proofs.NumberLaws.{NumberFrom, ends-here, goes_on, Starts, starts-minus, starts-zero, starts-int, begun, Moved, moved-fault, moved-end, moved-go, moved, number-of-from}
use Rattle.json_text.proofs.StringLaws.{Moved as StringMoved, moved-fault as string-fault, moved-close, moved-go as string-go, moved-char, moved as string-moved}
use Rattle.json_text.proofs.CharLaws.{Continues, closes, goes, ends, chars-of-continues}
use Rattle.json_text.proofs.Phrases.{Ending, ending, blank-ending, FromValue, from-word, from-string, from-number, from-array, from-object, AtValue}
use Rattle.json_text.proofs.Phrases.{blank-value, here-value, AtFirstElement, blank-first, close-first, value-first, AfterElement, blank-element}
use Rattle.json_text.proofs.Phrases.{close-array, comma-element, AtFirstKey, blank-first-key, close-first-key, quote-first-key, AtKey, blank-key}
use Rattle.json_text.proofs.Phrases.{quote-key, AtColon, blank-colon, here-colon, AfterPair, blank-pair, close-object, comma-pair, text-of-phrase}
use Rattle.json_text.proofs.Accepted.{ends-none, top_of-finish}
use Rattle.json_text.specs.Proper.{Opened, ProperAt, Proper}
use Rattle.json_text.proofs.ProperLaws.{proper-step}

drop_all : (n : ℕ) (l : List ℕ) → length l ≤ n → drop n l ≡ []
drop_all n [] h = drop-nil n
drop_all zero (b ∷ l) h = absurd (omega arith)
drop_all (suc n) (b ∷ l) h = drop_all n l (omega arith)

module _ (𝕄 : Meaning) where
  open 𝕄 use {Result, InArray, InObject, of_word, string_start, string_char, of_string, number_start, number_byte, of_number, array_start, array_element, of_array, object_start, object_key, object_value, of_object}

  -- after a value that has joined the stack: the bytes finish the open values, and the whole value is the last
  data After : Stack 𝕄 → List ℕ → Result → Type 0 where
    after-whole : {s : List ℕ} {w : Result} → Ending s → After (whole w) s w
    after-element : {a : InArray} {k : Stack 𝕄} {s r : List ℕ} {vs : Values} {w : Result} → AfterElement s vs r
        → After (finish 𝕄 (of_array (elements 𝕄 vs a)) k) r w → After (in_array a k) s w
    after-pair : {o : InObject} {k : Stack 𝕄} {s r : List ℕ} {ps : Pairs} {w : Result} → AfterPair s ps r
        → After (finish 𝕄 (of_object (members 𝕄 ps o)) k) r w → After (in_object o k) s w

  -- the bytes may follow the state, and give the whole value
  data Rest : State 𝕄 → List ℕ → Result → Type 0 where
    rest-value : {g : Token 𝕄} {k : Stack 𝕄} {s r : List ℕ} {v : Json} {w : Result} → AtValue s v r
        → After (finish 𝕄 (meaning 𝕄 v) k) r w → Rest (at (M.At P.Value) g k) s w
    rest-first-element : {g : Token 𝕄} {a : InArray} {k : Stack 𝕄} {s r : List ℕ} {vs : Values} {w : Result} → AtFirstElement s vs r
        → After (finish 𝕄 (of_array (elements 𝕄 vs a)) k) r w → Rest (at (M.At P.First) g (in_array a k)) s w
    rest-first-key : {g : Token 𝕄} {o : InObject} {k : Stack 𝕄} {s r : List ℕ} {ps : Pairs} {w : Result} → AtFirstKey s ps r
        → After (finish 𝕄 (of_object (members 𝕄 ps o)) k) r w → Rest (at (M.At P.First) g (in_object o k)) s w
    rest-key : {g : Token 𝕄} {o : InObject} {k : Stack 𝕄} {s r : List ℕ} {ps : Pairs} {w : Result} → AtKey s ps r
        → After (finish 𝕄 (of_object (members 𝕄 ps o)) k) r w → Rest (at (M.At P.Key) g (in_object o k)) s w
    rest-colon : {g : Token 𝕄} {o : InObject} {k : Stack 𝕄} {s r : List ℕ} {v : Json} {ps : Pairs} {w : Result} → AtColon s v ps r
        → After (finish 𝕄 (of_object (members 𝕄 ps (object_value o (meaning 𝕄 v)))) k) r w → Rest (at (M.At P.Colon) g (in_object o k)) s w
    rest-after : {g : Token 𝕄} {k : Stack 𝕄} {s : List ℕ} {w : Result} → After k s w → Rest (at (M.At P.After) g k) s w
    rest-text : {m : StringMode} {g : Token 𝕄} {k : Stack 𝕄} {s cs r : List ℕ} {w : Result} → Continues m g.bits g.high s cs r
        → After (finish 𝕄 (of_string (fold string_char g.string cs)) k) r w → Rest (at (M.Text m) g k) s w
    rest-in-key : {m : StringMode} {g : Token 𝕄} {o : InObject} {k : Stack 𝕄} {s cs t r : List ℕ} {v : Json} {ps : Pairs} {w : Result}
        → Continues m g.bits g.high s cs t → AtColon t v ps r
        → After (finish 𝕄 (of_object (members 𝕄 ps (object_value (object_key o (fold string_char g.string cs)) (meaning 𝕄 v)))) k) r w
        → Rest (at (M.Key m) g (in_object o k)) s w
    rest-number : {n : NumberMode} {g : Token 𝕄} {k : Stack 𝕄} {ds s r : List ℕ} {w : Result} → NumberFrom n ds → Follow ds s r
        → After (finish 𝕄 (of_number (fold number_byte g.number ds)) k) r w → Rest (at (M.Number n) g k) s w
    rest-word : {x : LexWord} {i : ℕ} {g : Token 𝕄} {k : Stack 𝕄} {s r : List ℕ} {w : Result} → Follow (drop i (spelling (word_of x))) s r
        → After (finish 𝕄 (of_word (word_of x)) k) r w → Rest (at (M.Word x i) g k) s w

  no-rest : {X : Type 0} {s : List ℕ} {w : Result} → Rest fault s w → X
  no-rest x = elim x [ ]

  no-after : {X : Type 0} {s : List ℕ} {w : Result} → After bare s w → X
  no-after x = elim x [ ]

  -- ---- phrases one byte longer

  whole-blank : {g : Token 𝕄} {v : Result} {b : ℕ} {s : List ℕ} {w : Result} → T (is_blank b) → Rest (at (M.At P.After) g (whole v)) s w
      → After (whole v) (b ∷ s) w
  whole-blank h (rest-after (after-whole e)) = after-whole (blank-ending h e)

  element-blank : {g : Token 𝕄} {a : InArray} {k : Stack 𝕄} {b : ℕ} {s : List ℕ} {w : Result} → T (is_blank b)
      → Rest (at (M.At P.After) g (in_array a k)) s w → After (in_array a k) (b ∷ s) w
  element-blank h (rest-after (after-element e x)) = after-element (blank-element h e) x

  comma-after : {a : InArray} {k : Stack 𝕄} {s r : List ℕ} {v : Json} {w : Result} → AtValue s v r
      → After (in_array (array_element a (meaning 𝕄 v)) k) r w → After (in_array a k) (0x2C ∷ s) w
  comma-after e (after-element f x) = after-element (comma-element e f) x

  element-comma : {g : Token 𝕄} {a : InArray} {k : Stack 𝕄} {s : List ℕ} {w : Result} → Rest (at (M.At P.Value) g (in_array a k)) s w
      → After (in_array a k) (0x2C ∷ s) w
  element-comma (rest-value e x) = comma-after e x

  element-close : {g : Token 𝕄} (a : InArray) (k : Stack 𝕄) {s : List ℕ} {w : Result}
      → Rest (at (M.At P.After) g (finish 𝕄 (of_array a) k)) s w → After (in_array a k) (0x5D ∷ s) w
  element-close a k (rest-after x) = after-element close-array x

  pair-blank : {g : Token 𝕄} {o : InObject} {k : Stack 𝕄} {b : ℕ} {s : List ℕ} {w : Result} → T (is_blank b)
      → Rest (at (M.At P.After) g (in_object o k)) s w → After (in_object o k) (b ∷ s) w
  pair-blank h (rest-after (after-pair e x)) = after-pair (blank-pair h e) x

  pair-comma : {g : Token 𝕄} {o : InObject} {k : Stack 𝕄} {s : List ℕ} {w : Result} → Rest (at (M.At P.Key) g (in_object o k)) s w
      → After (in_object o k) (0x2C ∷ s) w
  pair-comma (rest-key e x) = after-pair (comma-pair e) x

  pair-close : {g : Token 𝕄} (o : InObject) (k : Stack 𝕄) {s : List ℕ} {w : Result}
      → Rest (at (M.At P.After) g (finish 𝕄 (of_object o) k)) s w → After (in_object o k) (0x7D ∷ s) w
  pair-close o k (rest-after x) = after-pair close-object x

  colon-blank : {g : Token 𝕄} {o : InObject} {k : Stack 𝕄} {b : ℕ} {s : List ℕ} {w : Result} → T (is_blank b)
      → Rest (at (M.At P.Colon) g (in_object o k)) s w → Rest (at (M.At P.Colon) g (in_object o k)) (b ∷ s) w
  colon-blank h (rest-colon e x) = rest-colon (blank-colon h e) x

  colon-after : {g : Token 𝕄} {o : InObject} {k : Stack 𝕄} {s r : List ℕ} {v : Json} {w : Result} → AtValue s v r
      → After (in_object (object_value o (meaning 𝕄 v)) k) r w → Rest (at (M.At P.Colon) g (in_object o k)) (0x3A ∷ s) w
  colon-after e (after-pair f x) = rest-colon (here-colon e f) x

  colon-value : {g : Token 𝕄} {o : InObject} {k : Stack 𝕄} {s : List ℕ} {w : Result} → Rest (at (M.At P.Value) g (in_object o k)) s w
      → Rest (at (M.At P.Colon) g (in_object o k)) (0x3A ∷ s) w
  colon-value (rest-value e x) = colon-after e x

  -- ---- a step back, place by place

  -- a value begins at these bytes
  data Held (k : Stack 𝕄) (s : List ℕ) (w : Result) : Type 0 where
    held : {v : Json} {r : List ℕ} → FromValue s v r → After (finish 𝕄 (meaning 𝕄 v) k) r w → Held k s w

  -- a key goes on with these bytes, after its opening quotation mark
  data Quoted (o : InObject) (k : Stack 𝕄) (s : List ℕ) (w : Result) : Type 0 where
    quoted : {n t r : List ℕ} {v : Json} {ps : Pairs} → Chars s n t → AtColon t v ps r
        → After (finish 𝕄 (of_object (members 𝕄 (pairs n v ps) o)) k) r w → Quoted o k s w

  module _ (g : Token 𝕄) (s : List ℕ) (w : Result) where
    text-held : (k : Stack 𝕄) → Rest (at (M.Text S.Char) (with_string 𝕄 g string_start) k) s w → Held k (0x22 ∷ s) w
    text-held k (rest-text c a) = held (from-string (chars-of-continues c)) a

    array-held : (k : Stack 𝕄) → Rest (at (M.At P.First) g (in_array array_start k)) s w → Held k (0x5B ∷ s) w
    array-held k (rest-first-element e a) = held (from-array e) a

    object-held : (k : Stack 𝕄) → Rest (at (M.At P.First) g (in_object object_start k)) s w → Held k (0x7B ∷ s) w
    object-held k (rest-first-key e a) = held (from-object e) a

    number-held : (b : ℕ) (n : NumberMode) (k : Stack 𝕄) → Starts b n
        → Rest (at (M.Number n) (with_number 𝕄 g (number_byte number_start b)) k) s w → Held k (b ∷ s) w
    number-held b n k z (rest-number d e a) = held (from-number (number-of-from (begun z d)) (follow e)) a

    word_held : (b : ℕ) (x : LexWord) (k : Stack 𝕄) → spelling (word_of x) ≡ b ∷ drop 1 (spelling (word_of x))
        → Rest (at (M.Word x 1) g k) s w → Held k (b ∷ s) w
    word_held b x k e (rest-word {r} f a) = held (from-word {x = word_of x} (subst (λ (l : List ℕ). Follow l (b ∷ s) r) (sym e) (follow f))) a

    start-held : (b : ℕ) (k : Stack 𝕄) → Rest (take 𝕄 (value_start b) 0 b g g k) s w → Held k (b ∷ s) w
    unfolding value_start spelling
    start-held b k =
        let P : ℕ → Step → Type 0 = λ b st. Rest (take 𝕄 st 0 b g g k) s w → Held k (b ∷ s) w in
        cond_byte P b 0x22 (text-held k)
        (cond_byte P b 0x5B (array-held k)
        (cond_byte P b 0x7B (object-held k)
        (cond-elim (P b) (is_digit_1_9 b) (λ h. number-held b N.Int k (starts-int h)) (λ _.
        cond_byte P b 0x30 (number-held 0x30 N.Zero k starts-zero)
        (cond_byte P b 0x2D (number-held 0x2D N.Minus k starts-minus)
        (cond_byte P b 0x6E (word_held 0x6E W.Null k refl)
        (cond_byte P b 0x74 (word_held 0x74 W.True k refl)
        (cond_byte P b 0x66 (word_held 0x66 W.False k refl) no-rest))))))))

    value-back : (b : ℕ) (k : Stack 𝕄) → Rest (take 𝕄 (at_value b) 0 b g g k) s w → Rest (at (M.At P.Value) g k) (b ∷ s) w
    unfolding at_value
    value-back b k =
        cond-elim (λ st. Rest (take 𝕄 st 0 b g g k) s w → Rest (at (M.At P.Value) g k) (b ∷ s) w) (is_blank b) on-blank
        (λ _ x. begins (start-held b k x))
      where
        on-blank : T (is_blank b) → Rest (at (M.At P.Value) g k) s w → Rest (at (M.At P.Value) g k) (b ∷ s) w
        on-blank h (rest-value e a) = rest-value (blank-value h e) a

        begins : Held k (b ∷ s) w → Rest (at (M.At P.Value) g k) (b ∷ s) w
        begins (held e a) = rest-value (here-value e) a

    first-element-back : (b : ℕ) (a : InArray) (k : Stack 𝕄) → Rest (take 𝕄 (at_first_element b) 0 b g g (in_array a k)) s w
        → Rest (at (M.At P.First) g (in_array a k)) (b ∷ s) w
    unfolding at_first_element
    first-element-back b a k =
        let P : ℕ → Step → Type 0 = λ b st. Rest (take 𝕄 st 0 b g g (in_array a k)) s w → Rest (at (M.At P.First) g (in_array a k)) (b ∷ s) w in
        cond-elim (P b) (is_blank b) on-blank (λ _. cond_byte P b 0x5D on-close (λ x. begins b (start-held b (in_array a k) x)))
      where
        on-blank : {b : ℕ} → T (is_blank b) → Rest (at (M.At P.First) g (in_array a k)) s w → Rest (at (M.At P.First) g (in_array a k)) (b ∷ s) w
        on-blank h (rest-first-element e x) = rest-first-element (blank-first h e) x

        on-close : Rest (at (M.At P.After) g (finish 𝕄 (of_array a) k)) s w → Rest (at (M.At P.First) g (in_array a k)) (0x5D ∷ s) w
        on-close (rest-after x) = rest-first-element close-first x

        begins : (b : ℕ) → Held (in_array a k) (b ∷ s) w → Rest (at (M.At P.First) g (in_array a k)) (b ∷ s) w
        begins b (held e (after-element f x)) = rest-first-element (value-first e f) x

    quoted-back : (o : InObject) (k : Stack 𝕄)
        → Rest (at (M.Key S.Char) (with_string 𝕄 g string_start) (in_object o k)) s w → Quoted o k s w
    quoted-back o k (rest-in-key c e x) = quoted (chars-of-continues c) e x

    first-key-back : (b : ℕ) (o : InObject) (k : Stack 𝕄) → Rest (take 𝕄 (at_first_key b) 0 b g g (in_object o k)) s w
        → Rest (at (M.At P.First) g (in_object o k)) (b ∷ s) w
    unfolding at_first_key
    first-key-back b o k =
        let P : ℕ → Step → Type 0 = λ b st. Rest (take 𝕄 st 0 b g g (in_object o k)) s w → Rest (at (M.At P.First) g (in_object o k)) (b ∷ s) w in
        cond-elim (P b) (is_blank b) on-blank (λ _. cond_byte P b 0x7D on-close (cond_byte P b 0x22 (λ x. on-quote (quoted-back o k x)) no-rest))
      where
        on-blank : {b : ℕ} → T (is_blank b) → Rest (at (M.At P.First) g (in_object o k)) s w → Rest (at (M.At P.First) g (in_object o k)) (b ∷ s) w
        on-blank h (rest-first-key e x) = rest-first-key (blank-first-key h e) x

        on-close : Rest (at (M.At P.After) g (finish 𝕄 (of_object o) k)) s w → Rest (at (M.At P.First) g (in_object o k)) (0x7D ∷ s) w
        on-close (rest-after x) = rest-first-key close-first-key x

        on-quote : Quoted o k s w → Rest (at (M.At P.First) g (in_object o k)) (0x22 ∷ s) w
        on-quote (quoted c e x) = rest-first-key (quote-first-key c e) x

    first_back : (b : ℕ) (k : Stack 𝕄) → Opened 𝕄 k → Rest (step 𝕄 (at (M.At P.First) g k) b) s w → Rest (at (M.At P.First) g k) (b ∷ s) w
    unfolding step
    first_back b bare h x = absurd h
    first_back b (whole v) h x = absurd h
    first_back b (in_array a k) h x = first-element-back b a k x
    first_back b (in_object o k) h x = first-key-back b o k x

    on-key-back : (b : ℕ) (k : Stack 𝕄) → Rest (take 𝕄 (at_key b) 0 b g g k) s w → Rest (at (M.At P.Key) g k) (b ∷ s) w
    unfolding at_key
    on-key-back b k =
        let P : ℕ → Step → Type 0 = λ b st. Rest (take 𝕄 st 0 b g g k) s w → Rest (at (M.At P.Key) g k) (b ∷ s) w in
        cond-elim (P b) (is_blank b) on-blank (λ _. cond_byte P b 0x22 on-quote no-rest)
      where
        on-blank : {b : ℕ} {k : Stack 𝕄} → T (is_blank b) → Rest (at (M.At P.Key) g k) s w → Rest (at (M.At P.Key) g k) (b ∷ s) w
        on-blank h (rest-key e x) = rest-key (blank-key h e) x

        on-quote : {k : Stack 𝕄} → Rest (at (M.Key S.Char) (with_string 𝕄 g string_start) k) s w → Rest (at (M.At P.Key) g k) (0x22 ∷ s) w
        on-quote (rest-in-key c e x) = rest-key (quote-key (chars-of-continues c) e) x

    colon-back : (b : ℕ) (o : InObject) (k : Stack 𝕄) → Rest (take 𝕄 (at_colon b) 0 b g g (in_object o k)) s w
        → Rest (at (M.At P.Colon) g (in_object o k)) (b ∷ s) w
    unfolding at_colon
    colon-back b o k =
        let P : ℕ → Step → Type 0 = λ b st. Rest (take 𝕄 st 0 b g g (in_object o k)) s w → Rest (at (M.At P.Colon) g (in_object o k)) (b ∷ s) w in
        cond-elim (P b) (is_blank b) colon-blank (λ _. cond_byte P b 0x3A colon-value no-rest)

    after-back : (b : ℕ) (k : Stack 𝕄) → Rest (take 𝕄 (after_value (top_of 𝕄 k) b) 0 b g g k) s w → After k (b ∷ s) w
    unfolding after_root after_element after_pair
    after-back b bare = cond-elim (λ st. Rest (take 𝕄 st 0 b g g bare) s w → After bare (b ∷ s) w) (is_blank b) (λ _. on-blank) (λ _. no-rest)
      where
        on-blank : Rest (at (M.At P.After) g bare) s w → After bare (b ∷ s) w
        on-blank (rest-after x) = no-after x
    after-back b (whole v) =
        cond-elim (λ st. Rest (take 𝕄 st 0 b g g (whole v)) s w → After (whole v) (b ∷ s) w) (is_blank b) whole-blank (λ _. no-rest)
    after-back b (in_array a k) =
        let P : ℕ → Step → Type 0 = λ b st. Rest (take 𝕄 st 0 b g g (in_array a k)) s w → After (in_array a k) (b ∷ s) w in
        cond-elim (P b) (is_blank b) element-blank (λ _. cond_byte P b 0x2C element-comma (cond_byte P b 0x5D (element-close a k) no-rest))
    after-back b (in_object o k) =
        let P : ℕ → Step → Type 0 = λ b st. Rest (take 𝕄 st 0 b g g (in_object o k)) s w → After (in_object o k) (b ∷ s) w in
        cond-elim (P b) (is_blank b) pair-blank (λ _. cond_byte P b 0x2C pair-comma (cond_byte P b 0x7D (pair-close o k) no-rest))

    place-back : (p : Awaited) (b : ℕ) (k : Stack 𝕄) → ProperAt 𝕄 (M.At p) k → Rest (step 𝕄 (at (M.At p) g k) b) s w → Rest (at (M.At p) g k) (b ∷ s) w
    unfolding step
    place-back P.Value b k h x = value-back b k x
    place-back P.First b k h x = first_back b k h x
    place-back P.Key b k h x = on-key-back b k x
    place-back P.Colon b bare h x = absurd h
    place-back P.Colon b (whole v) h x = absurd h
    place-back P.Colon b (in_array a k) h x = absurd h
    place-back P.Colon b (in_object o k) h x = colon-back b o k x
    place-back P.After b k h x = rest-after (after-back b k x)

    -- ---- inside a token

    text-back : {m : StringMode} {b : ℕ} {y : StringMove} (k : Stack 𝕄) → StringMoved m b y
        → Rest (take 𝕄 (text_step y) (char_in 𝕄 (M.Text m) g b) b g (gather 𝕄 (M.Text m) g b) k) s w → Rest (at (M.Text m) g k) (b ∷ s) w
    text-back k string-fault x = no-rest x
    text-back k moved-close (rest-after x) = rest-text closes x
    text-back k (string-go z) (rest-text c x) = rest-text (goes z c) x
    text-back k (moved-char z) (rest-text c x) = rest-text (ends z c) x

    in-key-back : {m : StringMode} {b : ℕ} {y : StringMove} (o : InObject) (k : Stack 𝕄) → StringMoved m b y
        → Rest (take 𝕄 (key_step y) (char_in 𝕄 (M.Key m) g b) b g (gather 𝕄 (M.Key m) g b) (in_object o k)) s w
        → Rest (at (M.Key m) g (in_object o k)) (b ∷ s) w
    in-key-back o k string-fault x = no-rest x
    in-key-back o k moved-close (rest-colon e x) = rest-in-key closes e x
    in-key-back o k (string-go z) (rest-in-key c e x) = rest-in-key (goes z c) e x
    in-key-back o k (moved-char z) (rest-in-key c e x) = rest-in-key (ends z c) e x

    number-back : {n : NumberMode} {b : ℕ} {y : NumberMove} (k : Stack 𝕄) → Moved n b y
        → Rest (take 𝕄 (number_step y (top_of 𝕄 k) b) 0 b g g k) s w → Rest (at (M.Number n) g k) (b ∷ s) w
    number-back k moved-fault x = no-rest x
    number-back k (moved-go z) (rest-number d f x) = rest-number (goes_on z d) (follow f) x
    number-back {b} k (moved-end h) x =
        rest-number (ends-here h) follow_none
        (after-back b (finish 𝕄 (of_number g.number) k) (rw (top_of-finish 𝕄 (of_number g.number) k, ends-none (top_of 𝕄 k) b) x))

    word_back : (b : ℕ) (y : LexWord) (i : ℕ) (k : Stack 𝕄)
        → Rest (take 𝕄 (word_step (letter_move (spelling (word_of y)) i b) y i) 0 b g g k) s w → Rest (at (M.Word y i) g k) (b ∷ s) w
    unfolding letter_move
    word_back b y i k =
        let Q : WordMove → Type 0 = λ m. Rest (take 𝕄 (word_step m y i) 0 b g g k) s w → Rest (at (M.Word y i) g k) (b ∷ s) w in
        cond-elim Q (ltb i (length l)) (λ h. cond-elim Q (eqb b (get_or l i 0))
        (λ e. cond-elim Q (ltb (i + 1) (length l)) (λ _. on-letter (letters h e))
        (λ n. on-last (letters h e ∙ ap (λ (t : List ℕ). b ∷ t) (none_left n)))) (λ _. no-rest)) (λ _. no-rest)
      where
        l : List ℕ
        l = spelling (word_of y)

        letters : T (ltb i (length l)) → T (eqb b (get_or l i 0)) → drop i l ≡ b ∷ drop (suc i) l
        letters h e = drop-cons l i 0 (ltb→lt i (length l) h) ∙ ap (λ (c : ℕ). c ∷ drop (suc i) l) (sym (eqb→eq b (get_or l i 0) e))

        none_left : T (not (ltb (i + 1) (length l))) → drop (suc i) l ≡ []
        none_left n = drop_all (suc i) l (omega (arith, nltb→le (i + 1) (length l) n))

        on-letter : drop i l ≡ b ∷ drop (suc i) l → Rest (at (M.Word y (i + 1)) g k) s w → Rest (at (M.Word y i) g k) (b ∷ s) w
        on-letter e (rest-word {r} f x) = rest-word {x = y} {i = i} {s = b ∷ s} {r = r} (rw e (follow (rw add-one at f))) x

        on-last : drop i l ≡ b ∷ [] → Rest (at (M.At P.After) g (finish 𝕄 (of_word (word_of y)) k)) s w → Rest (at (M.Word y i) g k) (b ∷ s) w
        on-last e (rest-after x) = rest-word {x = y} {i = i} {s = b ∷ s} {r = s} (rw e (follow follow_none)) x

  -- what may follow a step's state may, after its byte, follow the state before it
  sound-step : (q : State 𝕄) (b : ℕ) (s : List ℕ) (w : Result) → Proper 𝕄 q → Rest (step 𝕄 q b) s w → Rest q (b ∷ s) w
  unfolding step
  sound-step fault b s w h x = no-rest x
  sound-step (at (M.At p) g k) b s w h x = place-back g s w p b k h x
  sound-step (at (M.Key m) g bare) b s w h x = absurd h
  sound-step (at (M.Key m) g (whole v)) b s w h x = absurd h
  sound-step (at (M.Key m) g (in_array a k)) b s w h x = absurd h
  sound-step (at (M.Key m) g (in_object o k)) b s w h x = in-key-back g s w o k (string-moved m b) x
  sound-step (at (M.Text m) g k) b s w h x = text-back g s w k (string-moved m b) x
  sound-step (at (M.Number n) g k) b s w h x = number-back g s w k (moved n b) x
  sound-step (at (M.Word y i) g k) b s w h x = word_back g s w b y i k x

  -- ---- the end of the bytes

  as_some : (v w : Result) → some v ≡ some w → After (whole v) [] w
  as_some v w e = let h : v ≡ w = cc in rw h (after-whole ending)

  after-of-whole : (k : Stack 𝕄) (w : Result) → whole_of 𝕄 k ≡ some w → After k [] w
  after-of-whole bare w e = none-neq-some e
  after-of-whole (whole v) w e = as_some v w e
  after-of-whole (in_array a k) w e = none-neq-some e
  after-of-whole (in_object o k) w e = none-neq-some e

  rest-of-result : (q : State 𝕄) (w : Result) → result 𝕄 q ≡ some w → Rest q [] w
  rest-of-result fault w e = none-neq-some e
  rest-of-result (at (M.At P.Value) g k) w e = none-neq-some e
  rest-of-result (at (M.At P.First) g k) w e = none-neq-some e
  rest-of-result (at (M.At P.Key) g k) w e = none-neq-some e
  rest-of-result (at (M.At P.Colon) g k) w e = none-neq-some e
  rest-of-result (at (M.At P.After) g k) w e = rest-after (after-of-whole k w e)
  rest-of-result (at (M.Key s) g k) w e = none-neq-some e
  rest-of-result (at (M.Text s) g k) w e = none-neq-some e
  rest-of-result (at (M.Number n) g k) w e =
      cond-elim (λ o. o ≡ some w → Rest (at (M.Number n) g k) [] w) (may_end n)
      (λ h x. rest-number (ends-here h) follow_none (after-of-whole (finish 𝕄 (of_number g.number) k) w x)) (λ _ x. none-neq-some x) e
  rest-of-result (at (M.Word x i) g k) w e = none-neq-some e

  rest-of-accepted : (s : List ℕ) (q : State 𝕄) (w : Result) → Proper 𝕄 q → Accepts 𝕄 q s w → Rest q s w
  rest-of-accepted [] q w h x = rest-of-result q w x
  rest-of-accepted (b ∷ s) q w h x = sound-step q b s w h (rest-of-accepted s (step 𝕄 q b) w (proper-step 𝕄 q b h) x)

  -- the bytes s are a text with the result w
  pub data Reads (s : List ℕ) (w : Result) : Type 0 where
    reads : (v : Json) → Text s v → meaning 𝕄 v ≡ w → Reads s w

  reads-of-rest : {s : List ℕ} {w : Result} → Rest (start 𝕄) s w → Reads s w
  reads-of-rest (rest-value {v} e x) = whole-reads v e x
    where
      whole-reads : {s r : List ℕ} (v : Json) {w : Result} → AtValue s v r → After (whole (meaning 𝕄 v)) r w → Reads s w
      whole-reads v e (after-whole z) = reads v (text-of-phrase e z) refl

  -- what the machine accepts is a text, and the result is its meaning
  pub text-of-accepted : (s : List ℕ) (w : Result) → Accepts 𝕄 (start 𝕄) s w → Reads s w
  text-of-accepted s w x = reads-of-rest (rest-of-accepted s (start 𝕄) w tt x)
