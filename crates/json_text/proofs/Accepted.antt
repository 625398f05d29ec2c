-- The machine accepts every text of the grammar, with its meaning: `accepted-of-text`. By induction on the grammar: from the place where a
-- phrase begins, the machine comes to the place after it, the phrase's meaning joined to the innermost open value. Assumes nothing.
use mathlib.Core.Bool.{Bool, true, false, not}
use mathlib.Core.List.{List, [], ◌∷◌}
use mathlib.Core.Path.{◌≡◌, refl}
use Prim.Native.Nat.{ℕ, ◌≤◌}
use native.Mathlib.Omega.{arith}
use lib.Dec.{T, eqb, not_T}
use borrow.Author.Tests.{ne_eqb, eqb-true}
use Rattle.laws.proofs.TestLaws.{cond_no, cond-elim, cond_byte, true-of-T, none-neq-some}
use Rattle.json_text.specs.Bytes.{within, is_blank, Follow, follow_none, follow}
use Rattle.json_text.specs.Numbers.{is_digit, is_digit_1_9, is_e}
use Rattle.json_text.specs.Tree.{Word, null_word, true_word, false_word, Json, Values, Pairs}
use Rattle.json_text.specs.Meaning.{Meaning, fold, meaning, elements, members}
use Rattle.json_text.specs.Grammar.{spelling, Blanks, no_blanks, blanks, Value, is_word, value_string, is_number, value_empty_array, value_array, value_empty_object, value_object, Element, element, Elements, last_element, more_elements, Member, member, Members, last_member, more_members, Text}
use Rattle.json_text.specs.Classes.{class_of, is_break, is_structure}
use Rattle.json_text.specs.Lexer.{may_end, letter_move, value_start, at_value, at_first_element, at_first_key, at_key, at_colon, after_root, after_element, after_pair, after_value, step_to}
use Rattle.json_text.specs.Machine.{Stack, bare, whole, in_array, in_object, top_of, finish, name, Token, fault, at, start, step, run, Accepts}
use Rattle.json_text.specs.declared.string.StringMode.{StringMode}
use Rattle.json_text.specs.declared.number.NumberMode.{NumberMode}
use Rattle.json_text.specs.declared.number.NumberMode.TheVariants as N
use Rattle.json_text.specs.declared.lexer.Awaited.{Awaited}
use Rattle.json_text.specs.declared.lexer.Awaited.TheVariants as P
use Rattle.json_text.specs.declared.lexer.Mode.TheVariants as M
use Rattle.json_text.specs.declared.lexer.Top.{Top}
use Rattle.json_text.specs.declared.lexer.Top.TheVariants as T
use Rattle.json_text.specs.declared.lexer.Act.TheVariants as A
use Rattle.json_text.specs.declared.lexer.Step.{Step}
use Rattle.json_text.proofs.ByteLaws.{low-of-within, high-of-within, blank-elim}
use Rattle.json_text.proofs.NumberLaws.{NumberFrom, ends-here, goes_on, Starts, starts-minus, starts-zero, starts-int, Begun, begun, move-of-goes, Separates, end-of-separates, from-of-number}
use Rattle.json_text.proofs.StringLaws.{move-of-goes as string-move-of-goes, move-of-ends as string-move-of-ends}
use Rattle.json_text.proofs.CharLaws.{Continues, closes, goes, ends, continues-of-chars}

-- ---- what stands after a value

-- no number goes on with a byte that may stand after a value
data Behaved (b : ℕ) (st : Step) : Type 0 where
  is-fault : st.act ≡ A.Fault → Behaved b st
  separates : Separates b → Behaved b st

separates-of : {b : ℕ} → T (not (is_digit b)) → T (not (eqb b 0x2E)) → T (not (is_e b)) → Separates b
separates-of h g e = record { no_digit = h; no-dot = g; no-e = e }

separates-blank : (b : ℕ) → T (is_blank b) → Separates b
unfolding is_digit within is_e
separates-blank b h =
    blank-elim Separates (separates-of tt tt tt) (separates-of tt tt tt) (separates-of tt tt tt) (separates-of tt tt tt) b h

behaved : (top : Top) (b : ℕ) → Behaved b (after_value top b)
unfolding after_root after_element after_pair is_digit within is_e
behaved T.Bare b = cond-elim (Behaved b) (is_blank b) (λ h. separates (separates-blank b h)) (λ _. is-fault refl)
behaved T.Array b =
    cond-elim (Behaved b) (is_blank b) (λ h. separates (separates-blank b h)) (λ _.
    cond_byte Behaved b 0x2C (separates (separates-of tt tt tt))
    (cond_byte Behaved b 0x5D (separates (separates-of tt tt tt)) (is-fault refl)))
behaved T.Object b =
    cond-elim (Behaved b) (is_blank b) (λ h. separates (separates-blank b h)) (λ _.
    cond_byte Behaved b 0x2C (separates (separates-of tt tt tt))
    (cond_byte Behaved b 0x7D (separates (separates-of tt tt tt)) (is-fault refl)))

-- a step that ends no number
abbrev EndsNone : Step → Type 0
EndsNone st = st.ends ≡ false

-- what stands after a value ends no number of its own
pub ends-none : (top : Top) (b : ℕ) → (after_value top b).ends ≡ false
unfolding after_root after_element after_pair
ends-none T.Bare b = cond-elim EndsNone (is_blank b) (λ _. refl) (λ _. refl)
ends-none T.Array b =
    cond-elim EndsNone (is_blank b) (λ _. refl) (λ _.
    cond-elim EndsNone (eqb b 0x2C) (λ _. refl) (λ _. cond-elim EndsNone (eqb b 0x5D) (λ _. refl) (λ _. refl)))
ends-none T.Object b =
    cond-elim EndsNone (is_blank b) (λ _. refl) (λ _.
    cond-elim EndsNone (eqb b 0x2C) (λ _. refl) (λ _. cond-elim EndsNone (eqb b 0x7D) (λ _. refl) (λ _. refl)))

-- ---- the first byte of a number is no blank, and begins a number

no-blank : (b : ℕ) → 0x2D ≤ b → T (not (is_blank b))
no-blank b h =
    not_T (is_blank b) (λ g. blank-elim (λ (x : ℕ). 0x2D ≤ x → ⊥) (λ l. omega arith) (λ l. omega arith) (λ l. omega arith) (λ l. omega arith) b g h)

int-start : (b : ℕ) → T (is_digit_1_9 b) → at_value b ≡ step_to (M.Number N.Int) A.NumberStart
unfolding at_value value_start is_digit_1_9
int-start b h =
    let lo = low-of-within 0x31 0x39 b h in
    let hi = high-of-within 0x31 0x39 b h in
    cond_no (λ st. st ≡ step_to (M.Number N.Int) A.NumberStart) (is_blank b) _ (no-blank b (omega arith))
    (simp (ne_eqb b 0x22 (λ e. omega arith), ne_eqb b 0x5B (λ e. omega arith), ne_eqb b 0x7B (λ e. omega arith), true-of-T (within 0x31 0x39 b) h))

-- the first byte of a number, where a value is awaited
pub number-start-step : {b : ℕ} {n : NumberMode} → Starts b n → at_value b ≡ step_to (M.Number n) A.NumberStart
unfolding at_value is_blank value_start is_digit_1_9 within
number-start-step starts-minus = refl
number-start-step starts-zero = refl
number-start-step (starts-int {b} h) = int-start b h

module _ (𝕄 : Meaning) where
  open 𝕄 use {Result, InArray, InObject, of_word, string_start, string_char, of_string, number_start, number_byte, of_number, array_start, array_element, object_start, object_key, object_value}

  -- a fault is the end
  fault-runs : (s : List ℕ) → run 𝕄 fault s ≡ fault
  unfolding step
  fault-runs [] = refl
  fault-runs (b ∷ s) = fault-runs s

  pub fault-accepts-none : (s : List ℕ) {w : Result} {X : Type 0} → Accepts 𝕄 fault s w → X
  fault-accepts-none s e = none-neq-some (rw (fault-runs s) at e)

  -- after a value, whatever the token before it left
  abbrev pub Behind : Stack 𝕄 → List ℕ → Result → Type 0
  Behind k s w = (g : Token 𝕄) → Accepts 𝕄 (at (M.At P.After) g k) s w

  -- ---- blanks

  blank-stays : (p : Awaited) (g : Token 𝕄) (k : Stack 𝕄) (b : ℕ) → T (is_blank b) → step 𝕄 (at (M.At p) g k) b ≡ at (M.At p) g k
  unfolding step at_value at_first_element at_first_key at_key at_colon after_root after_element after_pair
  blank-stays P.Value g k b h = rw (true-of-T (is_blank b) h)
  blank-stays P.First g bare b h = rw (true-of-T (is_blank b) h)
  blank-stays P.First g (whole w) b h = rw (true-of-T (is_blank b) h)
  blank-stays P.First g (in_array a k) b h = rw (true-of-T (is_blank b) h)
  blank-stays P.First g (in_object o k) b h = rw (true-of-T (is_blank b) h)
  blank-stays P.Key g k b h = rw (true-of-T (is_blank b) h)
  blank-stays P.Colon g k b h = rw (true-of-T (is_blank b) h)
  blank-stays P.After g bare b h = rw (true-of-T (is_blank b) h)
  blank-stays P.After g (whole w) b h = rw (true-of-T (is_blank b) h)
  blank-stays P.After g (in_array a k) b h = rw (true-of-T (is_blank b) h)
  blank-stays P.After g (in_object o k) b h = rw (true-of-T (is_blank b) h)

  over-blanks : (p : Awaited) (g : Token 𝕄) (k : Stack 𝕄) {s r : List ℕ} {w : Result} → Blanks s r → Accepts 𝕄 (at (M.At p) g k) r w
      → Accepts 𝕄 (at (M.At p) g k) s w
  over-blanks p g k no_blanks x = x
  over-blanks p g k (blanks {b} h c) x = rw (blank-stays p g k b h) (over-blanks p g k c x)

  -- ---- strings

  pub text-run : (k : Stack 𝕄) {m : StringMode} {s cs r : List ℕ} {w : Result} (g : Token 𝕄) → Continues m g.bits g.high s cs r
      → Behind (finish 𝕄 (of_string (fold string_char g.string cs)) k) r w → Accepts 𝕄 (at (M.Text m) g k) s w
  unfolding step class_of is_break is_structure
  text-run k g closes x = x _
  text-run k g (goes y c) x = rw (string-move-of-goes y) (text-run k _ c x)
  text-run k g (ends y c) x = rw (string-move-of-ends y) (text-run k _ c x)

  pub key-run : (k : Stack 𝕄) {m : StringMode} {s cs r : List ℕ} {w : Result} (g : Token 𝕄) → Continues m g.bits g.high s cs r
      → ((e : Token 𝕄) → Accepts 𝕄 (at (M.At P.Colon) e (name 𝕄 (fold string_char g.string cs) k)) r w) → Accepts 𝕄 (at (M.Key m) g k) s w
  unfolding step class_of is_break is_structure
  key-run k g closes x = x _
  key-run k g (goes y c) x = rw (string-move-of-goes y) (key-run k _ c x)
  key-run k g (ends y c) x = rw (string-move-of-ends y) (key-run k _ c x)

  -- ---- numbers

  -- a finished value leaves the kind of the innermost open value
  pub top_of-finish : (v : Result) (k : Stack 𝕄) → top_of 𝕄 (finish 𝕄 v k) ≡ top_of 𝕄 k
  top_of-finish v bare = refl
  top_of-finish v (whole w) = refl
  top_of-finish v (in_array a k) = refl
  top_of-finish v (in_object o k) = refl

  -- a number that may end is a value after which the bytes go on
  number-ends : (n : NumberMode) (g : Token 𝕄) (k : Stack 𝕄) (r : List ℕ) {w : Result} → T (may_end n)
      → Behind (finish 𝕄 (of_number g.number) k) r w → Accepts 𝕄 (at (M.Number n) g k) r w
  number-ends n g k [] h x = rw (true-of-T (may_end n) h) (x g)
  number-ends n g k (b ∷ r) {w} h x = go (behaved (top_of 𝕄 k) b) (x g)
    where
      go : Behaved b (after_value (top_of 𝕄 k) b) → Accepts 𝕄 (at (M.At P.After) g (finish 𝕄 (of_number g.number) k)) (b ∷ r) w
          → Accepts 𝕄 (at (M.Number n) g k) (b ∷ r) w
      go (is-fault e) y =
          let z : Accepts 𝕄 fault r w = unfold step in rw (top_of-finish (of_number g.number) k, e) at y in
          fault-accepts-none r z
      go (separates e) y = unfold step in rw (end-of-separates n b h e) (rw (top_of-finish (of_number g.number) k, ends-none (top_of 𝕄 k) b) at y)

  pub number-run : (k : Stack 𝕄) {n : NumberMode} {ds s r : List ℕ} {w : Result} (g : Token 𝕄) → NumberFrom n ds → Follow ds s r
      → Behind (finish 𝕄 (of_number (fold number_byte g.number ds)) k) r w → Accepts 𝕄 (at (M.Number n) g k) s w
  unfolding step
  number-run k {n} {r} g (ends-here h) follow_none x = number-ends n g k r h x
  number-run k g (goes_on y d) (follow f) x = rw (move-of-goes y) (number-run k _ d f x)

  begun-run : {ds s r : List ℕ} {w : Result} → Begun ds → Follow ds s r → (g : Token 𝕄) (k : Stack 𝕄)
      → Behind (finish 𝕄 (of_number (fold number_byte number_start ds)) k) r w → Accepts 𝕄 (at (M.At P.Value) g k) s w
  unfolding step
  begun-run (begun z d) (follow f) g k y = rw (number-start-step z) (number-run k _ d f y)

  -- ---- words

  word-run : (x : Word) (g : Token 𝕄) (k : Stack 𝕄) {s r : List ℕ} {w : Result} → Follow (spelling x) s r
      → Behind (finish 𝕄 (of_word x) k) r w → Accepts 𝕄 (at (M.At P.Value) g k) s w
  unfolding spelling step at_value is_blank value_start is_digit_1_9 within letter_move
  word-run null_word g k (follow (follow (follow (follow follow_none)))) x = x g
  word-run true_word g k (follow (follow (follow (follow follow_none)))) x = x g
  word-run false_word g k (follow (follow (follow (follow (follow follow_none))))) x = x g

  -- ---- arrays and objects

  -- what may stand where a value is awaited may stand first in an array
  first-element : (g : Token 𝕄) (a : InArray) (k : Stack 𝕄) (s : List ℕ) {w : Result} → Accepts 𝕄 (at (M.At P.Value) g (in_array a k)) s w
      → Accepts 𝕄 (at (M.At P.First) g (in_array a k)) s w
  unfolding step at_value at_first_element value_start is_blank is_digit_1_9 within
  first-element g a k [] x = none-neq-some x
  first-element g a k (b ∷ s) {w} x = go (λ y. first-element g a k s y) (is_blank b) refl (eqb b 0x5D) refl
    where
      go : (Accepts 𝕄 (at (M.At P.Value) g (in_array a k)) s w → Accepts 𝕄 (at (M.At P.First) g (in_array a k)) s w)
          → (v : Bool) → is_blank b ≡ v → (u : Bool) → eqb b 0x5D ≡ u → Accepts 𝕄 (at (M.At P.First) g (in_array a k)) (b ∷ s) w
      go more true e u f = rw e (more (rw e at x))
      go more false e true f =
          let z : Accepts 𝕄 fault s w = rw (eqb-true b 0x5D f) at x in
          fault-accepts-none s z
      go more false e false f = rw (e, f) (rw e at x)

  -- what may stand where a key is awaited may stand first in an object
  first_key : (g : Token 𝕄) (o : InObject) (k : Stack 𝕄) (s : List ℕ) {w : Result} → Accepts 𝕄 (at (M.At P.Key) g (in_object o k)) s w
      → Accepts 𝕄 (at (M.At P.First) g (in_object o k)) s w
  unfolding step at_key at_first_key is_blank
  first_key g o k [] x = none-neq-some x
  first_key g o k (b ∷ s) {w} x = go (λ y. first_key g o k s y) (is_blank b) refl (eqb b 0x7D) refl
    where
      go : (Accepts 𝕄 (at (M.At P.Key) g (in_object o k)) s w → Accepts 𝕄 (at (M.At P.First) g (in_object o k)) s w)
          → (v : Bool) → is_blank b ≡ v → (u : Bool) → eqb b 0x7D ≡ u → Accepts 𝕄 (at (M.At P.First) g (in_object o k)) (b ∷ s) w
      go more true e u f = rw e (more (rw e at x))
      go more false e true f =
          let z : Accepts 𝕄 fault s w = rw (eqb-true b 0x7D f) at x in
          fault-accepts-none s z
      go more false e false f = rw (e, f) (rw e at x)

  mutual
    unfolding step at_value is_blank value_start is_digit_1_9 within at_first_element at_first_key at_key at_colon after_element after_pair

    value-run : {s r : List ℕ} {v : Json} {w : Result} → Value s v r → (g : Token 𝕄) (k : Stack 𝕄) → Behind (finish 𝕄 (meaning 𝕄 v) k) r w
        → Accepts 𝕄 (at (M.At P.Value) g k) s w
    value-run (is_word {x} f) g k y = word-run x g k f y
    value-run (value_string c) g k y = text-run k _ (continues-of-chars c _ _) y
    value-run (is_number n f) g k y = begun-run (from-of-number n) f g k y
    value-run (value_empty_array c) g k y = over-blanks P.First g (in_array array_start k) c (y g)
    value-run (value_array {s} e) g k y = first-element g array_start k s (elements-run e g array_start k y)
    value-run (value_empty_object c) g k y = over-blanks P.First g (in_object object_start k) c (y g)
    value-run (value_object {s} e) g k y = first_key g object_start k s (members_run e g object_start k y)

    element-run : {s r : List ℕ} {v : Json} {w : Result} → Element s v r → (g : Token 𝕄) (k : Stack 𝕄)
        → Behind (finish 𝕄 (meaning 𝕄 v) k) r w → Accepts 𝕄 (at (M.At P.Value) g k) s w
    element-run {v} (element b e c) g k y =
        over-blanks P.Value g k b (value-run e g k (λ h. over-blanks P.After h (finish 𝕄 (meaning 𝕄 v) k) c (y h)))

    elements-run : {s r : List ℕ} {vs : Values} {w : Result} → Elements s vs r → (g : Token 𝕄) (a : InArray) (k : Stack 𝕄)
        → Behind (in_array (elements 𝕄 vs a) k) r w → Accepts 𝕄 (at (M.At P.Value) g (in_array a k)) s w
    elements-run (last_element e) g a k y = element-run e g (in_array a k) y
    elements-run (more_elements {v} e f) g a k y = element-run e g (in_array a k) (λ h. elements-run f h (array_element a (meaning 𝕄 v)) k y)

    member-run : {s r n : List ℕ} {v : Json} {w : Result} → Member s n v r → (g : Token 𝕄) (o : InObject) (k : Stack 𝕄)
        → Behind (in_object (object_value (object_key o (fold string_char string_start n)) (meaning 𝕄 v)) k) r w
        → Accepts 𝕄 (at (M.At P.Key) g (in_object o k)) s w
    member-run (member {k = n} b c d e) g o k y =
        over-blanks P.Key g (in_object o k) b (key-run (in_object o k) _ (continues-of-chars c _ _)
        (λ h. over-blanks P.Colon h (in_object (object_key o (fold string_char string_start n)) k) d
        (element-run e h (in_object (object_key o (fold string_char string_start n)) k) y)))

    members_run : {s r : List ℕ} {ps : Pairs} {w : Result} → Members s ps r → (g : Token 𝕄) (o : InObject) (k : Stack 𝕄)
        → Behind (in_object (members 𝕄 ps o) k) r w → Accepts 𝕄 (at (M.At P.Key) g (in_object o k)) s w
    members_run (last_member e) g o k y = member-run e g o k y
    members_run (more_members {k = n} {v} e f) g o k y =
        member-run e g o k (λ h. members_run f h (object_value (object_key o (fold string_char string_start n)) (meaning 𝕄 v)) k y)

  -- the machine accepts each text, with its meaning
  pub accepted-of-text : {s : List ℕ} {v : Json} → Text s v → Accepts 𝕄 (start 𝕄) s (meaning 𝕄 v)
  accepted-of-text t = element-run t _ bare (λ g. refl)
