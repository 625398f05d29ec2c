-- The numbers gathered while bytes pass: bytes that no number has leave them as they are, and the bytes of a number are the one that is being read
-- after them. `with-of-piece` says both of bytes that no number has, followed by bytes of numbers. Assumes nothing.
use mathlib.Core.Bool.{Bool, true, false, not, cond, ◌&&◌}
use mathlib.Core.List.{List, [], ◌∷◌, ◌++◌, append_assoc, append-nil}
use mathlib.Core.Path.{◌≡◌, refl, sym, ap, subst, ◌∙◌}
use Prim.Native.Nat.{ℕ, suc, ◌-◌, ◌≤◌, ◌<◌}
use native.Mathlib.Decide.{dec_lt, dec_le}
use native.Mathlib.Omega.{arith}
use lib.Dec.{T, eqb, leb, T_not}
use borrow.Author.Tests.{le-leb, lt-leb, eq-eqb, ne_eqb}
use Rattle.laws.specs.Lists.{all}
use Rattle.laws.proofs.TestLaws.{T-and-left, T-and-right, true-neq-false}
use Rattle.json_text.specs.Machine.{Stack, bare, whole, in_array, in_object, depth, finish, close, name, Token, State, fault, at, step, run}
use Rattle.json_text.specs.declared.lexer.Mode.{Mode}
use Rattle.json_text.specs.declared.lexer.Mode.TheVariants as M
use Rattle.corners.specs.Numbers.{is_number_byte, in_number, ByLevel, no_numbers, alone, both, deeper, numbering, share, gathered, reading, so_far}
use Rattle.corners.proofs.ByteLaws.{Plain}
use Rattle.corners.proofs.TookLaws.{awaits, Unfinished, Settled, Scalar, is_word, value_string, Took, wrong, kept, array-opened, object-opened, named, finished, closed, number-begun, number_read, number-ended, number-closed, took, RootedState, rooted-step, run-append, settled-finish}

-- ---- what a finished value adds

module _ (n : ℕ) where
  share-both : (j : ℕ) (a v : ByLevel) → share n j (both a v) ≡ share n j a ++ share n j v
  unfolding share both
  share-both j a v = go (leb j n)
    where
      go : (t : Bool) → cond t (a (n - j) ++ v (n - j)) [] ≡ cond t (a (n - j)) [] ++ cond t (v (n - j)) []
      go true = refl
      go false = refl

  share-none : (j : ℕ) → share n j no_numbers ≡ []
  unfolding share no_numbers
  share-none j = go (leb j n)
    where
      none : List (List ℕ)
      none = []

      go : (t : Bool) → cond t none none ≡ none
      go true = refl
      go false = refl

  -- the numbers of an array or object are those of its values, one level on
  share-deeper : (j : ℕ) (a : ByLevel) → share n j (deeper a) ≡ share n (suc j) a
  unfolding share
  share-deeper j a = by_less (dec_lt j n)
    where
      by_equal : Dec (j ≤ n) → (j < n → ⊥) → cond (leb j n) (deeper a (n - j)) [] ≡ cond (leb (suc j) n) (a (n - suc j)) []
      by_equal (yes h) f =
          let e : n - j ≡ 0 = omega arith in
          rw (le-leb j n h, lt-leb (suc j) n (omega arith), e) refl
      by_equal (no h) f = rw (lt-leb j n (omega arith), lt-leb (suc j) n (omega arith)) refl

      by_less : Dec (j < n) → cond (leb j n) (deeper a (n - j)) [] ≡ cond (leb (suc j) n) (a (n - suc j)) []
      by_less (yes h) =
          let e : n - j ≡ suc (n - suc j) = omega arith in
          rw (le-leb j n (omega arith), le-leb (suc j) n h, e) refl
      by_less (no h) = by_equal (dec_le j n) h

  -- a number stands where it stands
  share-alone : (j : ℕ) (ds : List ℕ) → share n j (alone ds) ≡ cond (eqb j n) (ds ∷ []) []
  unfolding share
  share-alone j ds = by_less (dec_lt j n)
    where
      by_equal : Dec (j ≤ n) → (j < n → ⊥) → cond (leb j n) (alone ds (n - j)) [] ≡ cond (eqb j n) (ds ∷ []) []
      by_equal (yes h) f =
          let e : n - j ≡ 0 = omega arith in
          rw (le-leb j n h, eq-eqb j n (omega arith), e) refl
      by_equal (no h) f = rw (lt-leb j n (omega arith), ne_eqb j n (λ e. omega arith)) refl

      by_less : Dec (j < n) → cond (leb j n) (alone ds (n - j)) [] ≡ cond (eqb j n) (ds ∷ []) []
      by_less (yes h) =
          let e : n - j ≡ suc (n - suc j) = omega arith in
          rw (le-leb j n (omega arith), ne_eqb j n (λ x. omega arith), e) refl
      by_less (no h) = by_equal (dec_le j n) h

  -- ---- gathered numbers

  gathered-finish : (v : ByLevel) (k : Stack numbering) → Unfinished numbering k → gathered n (finish numbering v k) ≡ gathered n k ++ share n (depth numbering k) v
  unfolding share
  gathered-finish v bare h = let e : n - 0 ≡ n = omega arith in rw (le-leb 0 n (omega arith), e) refl
  gathered-finish v (whole w) h = absurd h
  gathered-finish v (in_array a k) h =
      ap (λ (x : List (List ℕ)). gathered n k ++ x) (share-both (suc (depth numbering k)) a v)
      ∙ sym (append_assoc (gathered n k) (share n (suc (depth numbering k)) a) (share n (suc (depth numbering k)) v))
  gathered-finish v (in_object a k) h =
      ap (λ (x : List (List ℕ)). gathered n k ++ x) (share-both (suc (depth numbering k)) a v)
      ∙ sym (append_assoc (gathered n k) (share n (suc (depth numbering k)) a) (share n (suc (depth numbering k)) v))

  gathered-close : (k : Stack numbering) → Settled numbering k → gathered n (close numbering k) ≡ gathered n k
  gathered-close bare h = refl
  gathered-close (whole w) h = refl
  gathered-close (in_array a k) h = gathered-finish (deeper a) k h ∙ ap (λ (x : List (List ℕ)). gathered n k ++ x) (share-deeper (depth numbering k) a)
  gathered-close (in_object a k) h = gathered-finish (deeper a) k h ∙ ap (λ (x : List (List ℕ)). gathered n k ++ x) (share-deeper (depth numbering k) a)

  -- a word or a string adds none
  gathered-scalar : {v : ByLevel} → Scalar numbering v → (k : Stack numbering) → Unfinished numbering k → gathered n (finish numbering v k) ≡ gathered n k
  gathered-scalar (is_word x) k h = gathered-finish no_numbers k h ∙ rw (share-none (depth numbering k)) (append-nil (gathered n k))
  gathered-scalar (value_string s) k h = gathered-finish no_numbers k h ∙ rw (share-none (depth numbering k)) (append-nil (gathered n k))

  gathered-array : (k : Stack numbering) → gathered n (in_array no_numbers k) ≡ gathered n k
  gathered-array k = rw (share-none (suc (depth numbering k))) (append-nil (gathered n k))

  gathered-object : (k : Stack numbering) → gathered n (in_object no_numbers k) ≡ gathered n k
  gathered-object k = rw (share-none (suc (depth numbering k))) (append-nil (gathered n k))

  gathered-name : (s : Unit {0}) (k : Stack numbering) → gathered n (name numbering s k) ≡ gathered n k
  gathered-name s bare = refl
  gathered-name s (whole w) = refl
  gathered-name s (in_array a k) = refl
  gathered-name s (in_object o k) = refl

  -- ---- the number that is being read

  reading-none : (m : Mode) (g : Token numbering) (k : Stack numbering) → in_number m ≡ false → reading n m g k ≡ []
  reading-none (M.At p) g k e = refl
  reading-none (M.Key s) g k e = refl
  reading-none (M.Text s) g k e = refl
  reading-none (M.Number x) g k e = true-neq-false e
  reading-none (M.Word w i) g k e = refl

  reading-number : (m : Mode) (g : Token numbering) (k : Stack numbering) → in_number m ≡ true → reading n m g k ≡ cond (eqb (depth numbering k) n) (g.number ∷ []) []
  reading-number (M.At p) g k e = true-neq-false (sym e)
  reading-number (M.Key s) g k e = true-neq-false (sym e)
  reading-number (M.Text s) g k e = true-neq-false (sym e)
  reading-number (M.Number x) g k e = refl
  reading-number (M.Word w i) g k e = true-neq-false (sym e)

  -- outside numbers all that is found so far is gathered
  so_far-gathered : (m : Mode) (g : Token numbering) (k : Stack numbering) → in_number m ≡ false → so_far n (at m g k) ≡ gathered n k
  so_far-gathered m g k e = rw (reading-none m g k e) (append-nil (gathered n k))

  -- a number that ends is gathered
  so_far-ended : (m : Mode) (g : Token numbering) (k : Stack numbering) → in_number m ≡ true → Unfinished numbering k
      → gathered n (finish numbering (alone g.number) k) ≡ so_far n (at m g k)
  so_far-ended m g k e h =
      gathered-finish (alone g.number) k h
      ∙ ap (λ (x : List (List ℕ)). gathered n k ++ x) (share-alone (depth numbering k) g.number ∙ sym (reading-number m g k e))

  -- ---- a byte that no number has

  -- the state after it: no number is read, and the numbers so far are as before
  abbrev pub Same : List (List ℕ) → State numbering → Type 0
  Same l fault = T true
  Same l (at m g k) = (in_number m ≡ false) × (so_far n (at m g k) ≡ l)

  same-of-took : {m : Mode} {g : Token numbering} {k : Stack numbering} {b : ℕ} {q : State numbering} → Took numbering m g k b q → Plain b → Same (so_far n (at m g k)) q
  same-of-took wrong p = tt
  same-of-took {m} {g} {k} (kept {n = x} {h} o e a r) p = (e, so_far-gathered x h k e ∙ sym (so_far-gathered m g k o))
  same-of-took {m} {g} {k} (array-opened o y h) p = (refl, append-nil (gathered n (in_array no_numbers k)) ∙ gathered-array k ∙ sym (so_far-gathered m g k o))
  same-of-took {m} {g} {k} (object-opened o y h) p = (refl, append-nil (gathered n (in_object no_numbers k)) ∙ gathered-object k ∙ sym (so_far-gathered m g k o))
  same-of-took {m} {g} {k} (named s o h) p = (refl, append-nil (gathered n (name numbering s k)) ∙ gathered-name s k ∙ sym (so_far-gathered m g k o))
  same-of-took {m} {g} {k} (finished {v} s o h) p = (refl, append-nil (gathered n (finish numbering v k)) ∙ gathered-scalar s k h ∙ sym (so_far-gathered m g k o))
  same-of-took {m} {g} {k} (closed o y h) p = (refl, append-nil (gathered n (close numbering k)) ∙ gathered-close k h ∙ sym (so_far-gathered m g k o))
  same-of-took (number-begun o a y h e) p = absurd (p y)
  same-of-took (number_read o y h e) p = absurd (p y)
  same-of-took {m} {g} {k} (number-ended {n = x} {h} o y f e r) p = (e, so_far-gathered x h (finish numbering (alone g.number) k) e ∙ so_far-ended m g k o f)
  same-of-took {m} {g} {k} (number-closed o y h) p =
      (refl, append-nil (gathered n (close numbering (finish numbering (alone g.number) k))) ∙ gathered-close (finish numbering (alone g.number) k) (settled-finish numbering (alone g.number) k h) ∙ so_far-ended m g k o h)

  -- ---- a byte of a number

  -- the state after bytes of numbers, ds of them, which were begun outside a number: either they are the number that is being read, or no number is
  -- read, and none begins with the next byte unless none was read
  abbrev pub After : List (List ℕ) → List ℕ → State numbering → Type 0
  After l ds fault = T true
  After l ds (at m g k) = (gathered n k ≡ l) × ((in_number m ≡ true → g.number ≡ ds) × (in_number m ≡ false → awaits m ≡ true → ds ≡ []))

  after-of-took : {m : Mode} {g : Token numbering} {k : Stack numbering} {b : ℕ} {q : State numbering} {l : List (List ℕ)} {ds : List ℕ}
      → After l ds (at m g k) → T (is_number_byte b) → Took numbering m g k b q → After l (ds ++ (b ∷ [])) q
  after-of-took h p wrong = tt
  after-of-took h p (kept o e a r) = (h.0, ((λ x. true-neq-false (sym x ∙ e)), λ _ x. true-neq-false (sym x ∙ a p)))
  after-of-took h p (array-opened o y u) = absurd (y p)
  after-of-took h p (object-opened o y u) = absurd (y p)
  after-of-took {k} h p (named s o u) = (gathered-name s k ∙ h.0, ((λ x. true-neq-false (sym x)), λ _ x. true-neq-false (sym x)))
  after-of-took {k} h p (finished s o u) = (gathered-scalar s k u ∙ h.0, ((λ x. true-neq-false (sym x)), λ _ x. true-neq-false (sym x)))
  after-of-took h p (closed o y u) = absurd (y p)
  after-of-took {b} h p (number-begun o a y u e) = (h.0, ((λ _. e ∙ ap (λ (x : List ℕ). x ++ (b ∷ [])) (sym (h.1.1 o a))), λ x. true-neq-false x))
  after-of-took {b} h p (number_read o y u e) = (h.0, ((λ _. e ∙ ap (λ (x : List ℕ). x ++ (b ∷ [])) (h.1.0 o)), λ x. true-neq-false x))
  after-of-took h p (number-ended o y u e r) = absurd (y p)
  after-of-took h p (number-closed o y u) = absurd (y p)

  -- ---- bytes that no number has, then bytes of numbers

  same-run : (s : List ℕ) → T (all (λ (b : ℕ). not (is_number_byte b)) s) → (q : State numbering) → RootedState numbering q → (l : List (List ℕ))
      → Same l q → Same l (run numbering q s) × RootedState numbering (run numbering q s)
  unfolding all step
  same-run [] p q r l h = (h, r)
  same-run (b ∷ s) p fault r l h = same-run s (T-and-right (not (is_number_byte b)) _ p) fault tt l tt
  same-run (b ∷ s) p (at m g k) r l h = same-run s (T-and-right (not (is_number_byte b)) _ p) (step numbering (at m g k) b) (rooted-step numbering (at m g k) b r) l (on h)
    where
      on : Same l (at m g k) → Same l (step numbering (at m g k) b)
      on x = subst (λ (y : List (List ℕ)). Same y (step numbering (at m g k) b)) x.1 (same-of-took (took numbering m g k b r) (T_not (is_number_byte b) (T-and-left (not (is_number_byte b)) _ p)))

  after_run : (s : List ℕ) → T (all is_number_byte s) → (q : State numbering) → RootedState numbering q → (l : List (List ℕ)) (ds : List ℕ)
      → After l ds q → After l (ds ++ s) (run numbering q s) × RootedState numbering (run numbering q s)
  unfolding all step
  after_run [] p q r l ds h = (subst (λ (x : List ℕ). After l x q) (sym (append-nil ds)) h, r)
  after_run (b ∷ s) p fault r l ds h =
      subst (λ (x : List ℕ). After l x (run numbering fault s) × RootedState numbering (run numbering fault s)) (append_assoc ds (b ∷ []) s)
      (after_run s (T-and-right (is_number_byte b) _ p) fault tt l (ds ++ (b ∷ [])) tt)
  after_run (b ∷ s) p (at m g k) r l ds h =
      subst (λ (x : List ℕ). After l x (run numbering (step numbering (at m g k) b) s) × RootedState numbering (run numbering (step numbering (at m g k) b) s)) (append_assoc ds (b ∷ []) s)
      (after_run s (T-and-right (is_number_byte b) _ p) (step numbering (at m g k) b) (rooted-step numbering (at m g k) b r) l (ds ++ (b ∷ []))
      (after-of-took h (T-and-left (is_number_byte b) _ p) (took numbering m g k b r)))

  -- the numbers so far after a run of number bytes, from those before it
  abbrev pub With : List (List ℕ) → List ℕ → State numbering → Type 0
  With l ds fault = T true
  With l ds (at m g k) = so_far n (at m g k) ≡ l ++ cond (in_number m && eqb (depth numbering k) n) (ds ∷ []) []

  with-of-after : (l : List (List ℕ)) (ds : List ℕ) (q : State numbering) → After l ds q → With l ds q
  with-of-after l ds fault h = tt
  with-of-after l ds (at m g k) h = go (in_number m) refl
    where
      go : (v : Bool) → in_number m ≡ v → so_far n (at m g k) ≡ l ++ cond (v && eqb (depth numbering k) n) (ds ∷ []) []
      go true e = rw (reading-number m g k e, h.1.0 e, h.0) refl
      go false e = so_far-gathered m g k e ∙ h.0 ∙ sym (append-nil l)

  after-of-same : (l : List (List ℕ)) (q : State numbering) → Same l q → After l [] q
  after-of-same l fault h = tt
  after-of-same l (at m g k) h = (sym (so_far-gathered m g k h.0) ∙ h.1, ((λ x. true-neq-false (sym x ∙ h.0)), λ _ _. refl))

  -- a piece: bytes that no number has, then the bytes ds of numbers. Before it no number is read, or its first byte ends one
  pub with-of-piece : (gap ds : List ℕ) → T (all (λ (b : ℕ). not (is_number_byte b)) gap) → T (all is_number_byte ds) → (q : State numbering) → RootedState numbering q
      → (gap ≡ [] → Same (so_far n q) q) → With (so_far n q) ds (run numbering q (gap ++ ds)) × RootedState numbering (run numbering q (gap ++ ds))
  unfolding all step
  with-of-piece gap ds p r q h first =
      let x : Same (so_far n q) (run numbering q gap) × RootedState numbering (run numbering q gap) = begun gap p first in
      let y = after_run ds r (run numbering q gap) x.1 (so_far n q) [] (after-of-same (so_far n q) (run numbering q gap) x.0) in
      rw (run-append numbering gap ds q) (with-of-after (so_far n q) ds (run numbering (run numbering q gap) ds) y.0, y.1)
    where
      begun : (s : List ℕ) → T (all (λ (b : ℕ). not (is_number_byte b)) s) → (s ≡ [] → Same (so_far n q) q)
          → Same (so_far n q) (run numbering q s) × RootedState numbering (run numbering q s)
      begun [] t f = (f refl, h)
      begun (b ∷ s) t f = same-run s (T-and-right (not (is_number_byte b)) _ t) (step numbering q b) (rooted-step numbering q b h) (so_far n q) (first_byte q h)
        where
          first_byte : (x : State numbering) → RootedState numbering x → Same (so_far n x) (step numbering x b)
          first_byte fault u = tt
          first_byte (at m g k) u = same-of-took (took numbering m g k b u) (T_not (is_number_byte b) (T-and-left (not (is_number_byte b)) _ t))
