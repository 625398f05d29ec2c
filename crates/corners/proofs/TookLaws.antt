-- What a byte does to the open values, over any meaning, told so that a law of a step goes by its cases: `took`. Assumes nothing.
use mathlib.Core.Bool.{Bool, true, false}
use mathlib.Core.List.{List, [], ◌∷◌, ◌++◌}
use mathlib.Core.Path.{◌≡◌, refl}
use Prim.Native.Nat.{ℕ, ◌+◌}
use lib.Dec.{T, eqb, ltb}
use lib.ListN.{length, get_or}
use Rattle.laws.proofs.TestLaws.{cond-elim}
use Rattle.json_text.specs.Bytes.{within, is_blank}
use Rattle.json_text.specs.Numbers.{is_digit, is_digit_1_9, is_e}
use Rattle.json_text.specs.Meaning.{Meaning}
use Rattle.json_text.specs.Grammar.{spelling}
use Rattle.json_text.specs.Tree.{Word}
use Rattle.json_text.specs.Lexer.{string_move, number_move, letter_move, value_start, at_value, at_first_element, at_first_key, at_key, at_colon, after_root, after_element, after_pair, after_value, key_step, text_step, number_step, word_step, word_of, ended_before}
use Rattle.json_text.specs.Machine.{Stack, bare, whole, in_array, in_object, top_of, finish, close, name, Token, State, fault, at, take, step, run}
use Rattle.json_text.specs.declared.string.StringMove.{StringMove}
use Rattle.json_text.specs.declared.string.StringMove.TheVariants as SM
use Rattle.json_text.specs.declared.number.NumberMode.{NumberMode}
use Rattle.json_text.specs.declared.number.NumberMove.{NumberMove}
use Rattle.json_text.specs.declared.number.NumberMove.TheVariants as NM
use Rattle.json_text.specs.declared.word.Word as W
use Rattle.json_text.specs.declared.word.WordMove.{WordMove}
use Rattle.json_text.specs.declared.lexer.Awaited.{Awaited}
use Rattle.json_text.specs.declared.lexer.Awaited.TheVariants as P
use Rattle.json_text.specs.declared.lexer.Mode.{Mode}
use Rattle.json_text.specs.declared.lexer.Mode.TheVariants as M
use Rattle.json_text.specs.declared.lexer.Step.{Step}
use Rattle.corners.specs.Numbers.{is_number_byte, in_number}
use Rattle.corners.proofs.ByteLaws.{Plain, plain_at, plain-blank, number-of-digit1-9, number_at, Goes, goes_number}

-- a value, and so a number, may begin with the next byte
abbrev pub awaits : Mode → Bool
awaits (M.At P.Value) = true
awaits (M.At P.First) = true
awaits (M.At P.Key) = false
awaits (M.At P.Colon) = false
awaits (M.At P.After) = false
awaits (M.Key s) = false
awaits (M.Text s) = false
awaits (M.Number n) = false
awaits (M.Word w i) = false

module _ (𝕄 : Meaning) where
  open 𝕄 use {Result, InString, of_word, of_string, number_start, number_byte, of_number, array_start, object_start}

  -- below the open values nothing is finished
  abbrev pub Unfinished : Stack 𝕄 → Type 0
  Unfinished bare = T true
  Unfinished (whole w) = ⊥
  Unfinished (in_array a k) = Unfinished k
  Unfinished (in_object o k) = Unfinished k

  -- or the whole value of the text is finished
  abbrev pub Settled : Stack 𝕄 → Type 0
  Settled bare = T true
  Settled (whole w) = T true
  Settled (in_array a k) = Unfinished k
  Settled (in_object o k) = Unfinished k

  -- the whole value is finished only after a value
  abbrev pub Rooted : Mode → Stack 𝕄 → Type 0
  Rooted (M.At P.Value) k = Unfinished k
  Rooted (M.At P.First) k = Unfinished k
  Rooted (M.At P.Key) k = Unfinished k
  Rooted (M.At P.Colon) k = Unfinished k
  Rooted (M.At P.After) k = Settled k
  Rooted (M.Key s) k = Unfinished k
  Rooted (M.Text s) k = Unfinished k
  Rooted (M.Number n) k = Unfinished k
  Rooted (M.Word w i) k = Unfinished k

  pub settled-of-unfinished : (k : Stack 𝕄) → Unfinished k → Settled k
  settled-of-unfinished bare h = tt
  settled-of-unfinished (whole w) h = tt
  settled-of-unfinished (in_array a k) h = h
  settled-of-unfinished (in_object o k) h = h

  pub settled-finish : (v : Result) (k : Stack 𝕄) → Unfinished k → Settled (finish 𝕄 v k)
  settled-finish v bare h = tt
  settled-finish v (whole w) h = tt
  settled-finish v (in_array a k) h = h
  settled-finish v (in_object o k) h = h

  settled-close : (k : Stack 𝕄) → Settled k → Settled (close 𝕄 k)
  settled-close bare h = tt
  settled-close (whole w) h = tt
  settled-close (in_array a k) h = settled-finish _ k h
  settled-close (in_object o k) h = settled-finish _ k h

  unfinished-name : (n : InString) (k : Stack 𝕄) → Unfinished k → Unfinished (name 𝕄 n k)
  unfinished-name n bare h = h
  unfinished-name n (whole w) h = h
  unfinished-name n (in_array a k) h = h
  unfinished-name n (in_object o k) h = h

  -- a word or a string
  pub data Scalar : Result → Type 0 where
    is_word : (x : Word) → Scalar (of_word x)
    value_string : (s : InString) → Scalar (of_string s)

  -- the state after byte b in mode m, with the token g and the open values k
  pub data Took (m : Mode) (g : Token 𝕄) (k : Stack 𝕄) (b : ℕ) : State 𝕄 → Type 0 where
    wrong : Took m g k b fault
    kept : {n : Mode} {h : Token 𝕄} → in_number m ≡ false → in_number n ≡ false → (T (is_number_byte b) → awaits n ≡ false) → Rooted n k → Took m g k b (at n h k)
    array-opened : {h : Token 𝕄} → in_number m ≡ false → Plain b → Unfinished k → Took m g k b (at (M.At P.First) h (in_array array_start k))
    object-opened : {h : Token 𝕄} → in_number m ≡ false → Plain b → Unfinished k → Took m g k b (at (M.At P.First) h (in_object object_start k))
    named : {h : Token 𝕄} (n : InString) → in_number m ≡ false → Unfinished k → Took m g k b (at (M.At P.Colon) h (name 𝕄 n k))
    finished : {h : Token 𝕄} {v : Result} → Scalar v → in_number m ≡ false → Unfinished k → Took m g k b (at (M.At P.After) h (finish 𝕄 v k))
    closed : {h : Token 𝕄} → in_number m ≡ false → Plain b → Settled k → Took m g k b (at (M.At P.After) h (close 𝕄 k))
    number-begun : {n : NumberMode} {h : Token 𝕄} → in_number m ≡ false → awaits m ≡ true → T (is_number_byte b) → Unfinished k → h.number ≡ number_byte number_start b
        → Took m g k b (at (M.Number n) h k)
    number_read : {n : NumberMode} {h : Token 𝕄} → in_number m ≡ true → T (is_number_byte b) → Unfinished k → h.number ≡ number_byte g.number b
        → Took m g k b (at (M.Number n) h k)
    number-ended : {n : Mode} {h : Token 𝕄} → in_number m ≡ true → Plain b → Unfinished k → in_number n ≡ false → Rooted n (finish 𝕄 (of_number g.number) k)
        → Took m g k b (at n h (finish 𝕄 (of_number g.number) k))
    number-closed : {h : Token 𝕄} → in_number m ≡ true → Plain b → Unfinished k → Took m g k b (at (M.At P.After) h (close 𝕄 (finish 𝕄 (of_number g.number) k)))

  -- ---- by the mode

  module _ (b : ℕ) (g : Token 𝕄) where
    took-start : (m : Mode) → in_number m ≡ false → awaits m ≡ true → (k : Stack 𝕄) → Unfinished k → Took m g k b (take 𝕄 (value_start b) 0 b g g k)
    unfolding value_start is_number_byte is_digit is_e within
    took-start m o w k h =
        let Q : Step → Type 0 = λ st. Took m g k b (take 𝕄 st 0 b g g k) in
        cond-elim Q (eqb b 0x22) (λ _. kept o refl (λ _. refl) h)
        (λ _. cond-elim Q (eqb b 0x5B) (λ e. array-opened o (plain_at b 0x5B (λ x. x) e) h)
        (λ _. cond-elim Q (eqb b 0x7B) (λ e. object-opened o (plain_at b 0x7B (λ x. x) e) h)
        (λ _. cond-elim Q (is_digit_1_9 b) (λ e. number-begun o w (number-of-digit1-9 b e) h refl)
        (λ _. cond-elim Q (eqb b 0x30) (λ e. number-begun o w (number_at b 0x30 tt e) h refl)
        (λ _. cond-elim Q (eqb b 0x2D) (λ e. number-begun o w (number_at b 0x2D tt e) h refl)
        (λ _. cond-elim Q (eqb b 0x6E) (λ _. kept o refl (λ _. refl) h)
        (λ _. cond-elim Q (eqb b 0x74) (λ _. kept o refl (λ _. refl) h)
        (λ _. cond-elim Q (eqb b 0x66) (λ _. kept o refl (λ _. refl) h) (λ _. wrong)))))))))

    took-after : (k : Stack 𝕄) → Settled k → Took (M.At P.After) g k b (take 𝕄 (after_value (top_of 𝕄 k) b) 0 b g g k)
    unfolding after_root after_element after_pair is_number_byte is_digit is_e within
    took-after bare h = cond-elim (λ st. Took (M.At P.After) g bare b (take 𝕄 st 0 b g g bare)) (is_blank b) (λ _. kept refl refl (λ _. refl) tt) (λ _. wrong)
    took-after (whole w) h =
        cond-elim (λ st. Took (M.At P.After) g (whole w) b (take 𝕄 st 0 b g g (whole w))) (is_blank b) (λ _. kept refl refl (λ _. refl) tt) (λ _. wrong)
    took-after (in_array a k) h =
        let Q : Step → Type 0 = λ st. Took (M.At P.After) g (in_array a k) b (take 𝕄 st 0 b g g (in_array a k)) in
        cond-elim Q (is_blank b) (λ _. kept refl refl (λ _. refl) h)
        (λ _. cond-elim Q (eqb b 0x2C) (λ e. kept refl refl (λ x. absurd (plain_at b 0x2C (λ y. y) e x)) h)
        (λ _. cond-elim Q (eqb b 0x5D) (λ e. closed refl (plain_at b 0x5D (λ x. x) e) h) (λ _. wrong)))
    took-after (in_object o k) h =
        let Q : Step → Type 0 = λ st. Took (M.At P.After) g (in_object o k) b (take 𝕄 st 0 b g g (in_object o k)) in
        cond-elim Q (is_blank b) (λ _. kept refl refl (λ _. refl) h)
        (λ _. cond-elim Q (eqb b 0x2C) (λ e. kept refl refl (λ _. refl) h)
        (λ _. cond-elim Q (eqb b 0x7D) (λ e. closed refl (plain_at b 0x7D (λ x. x) e) h) (λ _. wrong)))

    took-first-element : (k : Stack 𝕄) → Unfinished k → Took (M.At P.First) g k b (take 𝕄 (at_first_element b) 0 b g g k)
    unfolding at_first_element is_number_byte is_digit is_e within
    took-first-element k h =
        let Q : Step → Type 0 = λ st. Took (M.At P.First) g k b (take 𝕄 st 0 b g g k) in
        cond-elim Q (is_blank b) (λ e. kept refl refl (λ x. absurd (plain-blank b e x)) h)
        (λ _. cond-elim Q (eqb b 0x5D) (λ e. closed refl (plain_at b 0x5D (λ x. x) e) (settled-of-unfinished k h)) (λ _. took-start (M.At P.First) refl refl k h))

    took-first-key : (k : Stack 𝕄) → Unfinished k → Took (M.At P.First) g k b (take 𝕄 (at_first_key b) 0 b g g k)
    unfolding at_first_key is_number_byte is_digit is_e within
    took-first-key k h =
        let Q : Step → Type 0 = λ st. Took (M.At P.First) g k b (take 𝕄 st 0 b g g k) in
        cond-elim Q (is_blank b) (λ e. kept refl refl (λ x. absurd (plain-blank b e x)) h)
        (λ _. cond-elim Q (eqb b 0x7D) (λ e. closed refl (plain_at b 0x7D (λ x. x) e) (settled-of-unfinished k h))
        (λ _. cond-elim Q (eqb b 0x22) (λ _. kept refl refl (λ _. refl) h) (λ _. wrong)))

    took-place : (p : Awaited) (k : Stack 𝕄) → Rooted (M.At p) k → Took (M.At p) g k b (step 𝕄 (at (M.At p) g k) b)
    unfolding step at_value at_key at_colon is_number_byte is_digit is_e within
    took-place P.Value k h =
        cond-elim (λ st. Took (M.At P.Value) g k b (take 𝕄 st 0 b g g k)) (is_blank b) (λ e. kept refl refl (λ x. absurd (plain-blank b e x)) h)
        (λ _. took-start (M.At P.Value) refl refl k h)
    took-place P.First bare h = took-first-element bare h
    took-place P.First (whole w) h = absurd h
    took-place P.First (in_array a k) h = took-first-element (in_array a k) h
    took-place P.First (in_object o k) h = took-first-key (in_object o k) h
    took-place P.Key k h =
        let Q : Step → Type 0 = λ st. Took (M.At P.Key) g k b (take 𝕄 st 0 b g g k) in
        cond-elim Q (is_blank b) (λ _. kept refl refl (λ _. refl) h) (λ _. cond-elim Q (eqb b 0x22) (λ _. kept refl refl (λ _. refl) h) (λ _. wrong))
    took-place P.Colon k h =
        let Q : Step → Type 0 = λ st. Took (M.At P.Colon) g k b (take 𝕄 st 0 b g g k) in
        cond-elim Q (is_blank b) (λ _. kept refl refl (λ _. refl) h)
        (λ _. cond-elim Q (eqb b 0x3A) (λ e. kept refl refl (λ x. absurd (plain_at b 0x3A (λ y. y) e x)) h) (λ _. wrong))
    took-place P.After k h = took-after k h

    took-key : (m : Mode) → in_number m ≡ false → (x : StringMove) (c : ℕ) (e : Token 𝕄) (k : Stack 𝕄) → Unfinished k → Took m g k b (take 𝕄 (key_step x) c b g e k)
    took-key m o SM.Fault c e k h = wrong
    took-key m o (SM.Go s) c e k h = kept o refl (λ _. refl) h
    took-key m o SM.Char c e k h = kept o refl (λ _. refl) h
    took-key m o SM.Close c e k h = named _ o h

    took-text : (m : Mode) → in_number m ≡ false → (x : StringMove) (c : ℕ) (e : Token 𝕄) (k : Stack 𝕄) → Unfinished k → Took m g k b (take 𝕄 (text_step x) c b g e k)
    took-text m o SM.Fault c e k h = wrong
    took-text m o (SM.Go s) c e k h = kept o refl (λ _. refl) h
    took-text m o SM.Char c e k h = kept o refl (λ _. refl) h
    took-text m o SM.Close c e k h = finished (value_string _) o h

    took-ended : (n : NumberMode) (k : Stack 𝕄) → Unfinished k → Took (M.Number n) g k b (take 𝕄 (ended_before (after_value (top_of 𝕄 k) b)) 0 b g g k)
    unfolding after_root after_element after_pair is_number_byte is_digit is_e within
    took-ended n bare h =
        cond-elim (λ st. Took (M.Number n) g bare b (take 𝕄 (ended_before st) 0 b g g bare)) (is_blank b) (λ e. number-ended refl (plain-blank b e) h refl tt) (λ _. wrong)
    took-ended n (whole w) h = absurd h
    took-ended n (in_array a k) h =
        let Q : Step → Type 0 = λ st. Took (M.Number n) g (in_array a k) b (take 𝕄 (ended_before st) 0 b g g (in_array a k)) in
        cond-elim Q (is_blank b) (λ e. number-ended refl (plain-blank b e) h refl h)
        (λ _. cond-elim Q (eqb b 0x2C) (λ e. number-ended refl (plain_at b 0x2C (λ x. x) e) h refl h)
        (λ _. cond-elim Q (eqb b 0x5D) (λ e. number-closed refl (plain_at b 0x5D (λ x. x) e) h) (λ _. wrong)))
    took-ended n (in_object o k) h =
        let Q : Step → Type 0 = λ st. Took (M.Number n) g (in_object o k) b (take 𝕄 (ended_before st) 0 b g g (in_object o k)) in
        cond-elim Q (is_blank b) (λ e. number-ended refl (plain-blank b e) h refl h)
        (λ _. cond-elim Q (eqb b 0x2C) (λ e. number-ended refl (plain_at b 0x2C (λ x. x) e) h refl h)
        (λ _. cond-elim Q (eqb b 0x7D) (λ e. number-closed refl (plain_at b 0x7D (λ x. x) e) h) (λ _. wrong)))

    took_number : (n : NumberMode) (x : NumberMove) → Goes b x → (k : Stack 𝕄) → Unfinished k → Took (M.Number n) g k b (take 𝕄 (number_step x (top_of 𝕄 k) b) 0 b g g k)
    took_number n NM.Fault y k h = wrong
    took_number n (NM.Go m) y k h = number_read refl y h refl
    took_number n NM.End y k h = took-ended n k h

    took-word : (w : W.Word) (i : ℕ) (k : Stack 𝕄) → Unfinished k → Took (M.Word w i) g k b (take 𝕄 (word_step (letter_move (spelling (word_of w)) i b) w i) 0 b g g k)
    unfolding letter_move
    took-word w i k h =
        let l : List ℕ = spelling (word_of w) in
        let Q : WordMove → Type 0 = λ x. Took (M.Word w i) g k b (take 𝕄 (word_step x w i) 0 b g g k) in
        cond-elim Q (ltb i (length l)) (λ _. cond-elim Q (eqb b (get_or l i 0))
        (λ _. cond-elim Q (ltb (i + 1) (length l)) (λ _. kept refl refl (λ _. refl) h) (λ _. finished (is_word (word_of w)) refl h)) (λ _. wrong)) (λ _. wrong)

  -- what a byte does in any mode
  pub took : (m : Mode) (g : Token 𝕄) (k : Stack 𝕄) (b : ℕ) → Rooted m k → Took m g k b (step 𝕄 (at m g k) b)
  unfolding step
  took (M.At p) g k b h = took-place b g p k h
  took (M.Key s) g k b h = took-key b g (M.Key s) refl (string_move s b) _ _ k h
  took (M.Text s) g k b h = took-text b g (M.Text s) refl (string_move s b) _ _ k h
  took (M.Number n) g k b h = took_number b g n (number_move n b) (goes_number b n) k h
  took (M.Word w i) g k b h = took-word b g w i k h

  -- ---- every byte keeps what `Rooted` says

  abbrev pub RootedState : State 𝕄 → Type 0
  RootedState fault = T true
  RootedState (at m g k) = Rooted m k

  rooted-of-took : {m : Mode} {g : Token 𝕄} {k : Stack 𝕄} {b : ℕ} {q : State 𝕄} → Took m g k b q → RootedState q
  rooted-of-took wrong = tt
  rooted-of-took (kept o p a h) = h
  rooted-of-took (array-opened o p h) = h
  rooted-of-took (object-opened o p h) = h
  rooted-of-took {k} (named n o h) = unfinished-name n k h
  rooted-of-took {k} (finished {v} s o h) = settled-finish v k h
  rooted-of-took {k} (closed o p h) = settled-close k h
  rooted-of-took (number-begun o a p h e) = h
  rooted-of-took (number_read o p h e) = h
  rooted-of-took (number-ended o p h e r) = r
  rooted-of-took {g} {k} (number-closed o p h) = settled-close (finish 𝕄 (of_number g.number) k) (settled-finish (of_number g.number) k h)

  pub rooted-step : (q : State 𝕄) (b : ℕ) → RootedState q → RootedState (step 𝕄 q b)
  unfolding step
  rooted-step fault b h = tt
  rooted-step (at m g k) b h = rooted-of-took (took m g k b h)

  pub rooted-run : (s : List ℕ) (q : State 𝕄) → RootedState q → RootedState (run 𝕄 q s)
  rooted-run [] q r = r
  rooted-run (b ∷ s) q r = rooted-run s (step 𝕄 q b) (rooted-step q b r)

  -- bytes are read one after the other
  pub run-append : (a b : List ℕ) (q : State 𝕄) → run 𝕄 q (a ++ b) ≡ run 𝕄 (run 𝕄 q a) b
  run-append [] b q = refl
  run-append (x ∷ a) b q = run-append a b (step 𝕄 q x)
