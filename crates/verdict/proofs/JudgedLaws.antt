-- What each verdict says of a part, both ways: `valid-iff`, `invalid-iff` (demand 2), `too_deep-iff` (demand 3) and the other refusals. A part has one
-- verdict: `judged-unique`. So it is the one that the machine finds: `judged-iff-track`. Assumes nothing.
use mathlib.Core.List.{List}
use mathlib.Core.Logic.{◌↔◌}
use mathlib.Core.Path.{◌≡◌, refl, ap}
use Prim.Native.Nat.{ℕ, ◌<◌}
use native.Mathlib.Omega.{arith}
use lib.ListN.{length}
use Rattle.json_text.specs.Tree.{Json}
use Rattle.json_text.specs.Grammar.{Text, FaultAt}
use Rattle.json_text.proofs.TreeLaws.{text-unique}
use Rattle.book.specs.Entry.{Entry}
use Rattle.runs.specs.Runs.{Valid}
use Rattle.runs.specs.Sound.{Sound}
use Rattle.verdict.specs.declared.Verdict.{Verdict}
use Rattle.verdict.specs.declared.Verdict.TheVariants as Is
use Rattle.verdict.specs.Verdict.{longest, DeepAt, Fault, too_long, malformed, too_deep, rank, NotLater, earlier, at_one_byte, Earliest, Faultless, Judged, by_fault, by_end, by_book, not_by_book}
use Rattle.verdict.specs.Track.{track, track_start, track_end}
use Rattle.verdict.proofs.FoundLaws.{judged-of-track}

-- ---- one verdict

-- of two faults, each no later than the other, the bytes and the ranks are the same
same_byte : {v w : Verdict} {i j : ℕ} → NotLater v i w j → NotLater w j v i → i ≡ j
same_byte (earlier h) (earlier g) = omega arith
same_byte (earlier h) (at_one_byte e g) = omega arith
same_byte (at_one_byte e h) y = e

same_rank : {v w : Verdict} {i j : ℕ} → NotLater v i w j → NotLater w j v i → rank v ≡ rank w
same_rank (earlier h) (earlier g) = absurd (omega arith)
same_rank (earlier h) (at_one_byte e g) = absurd (omega arith)
same_rank (at_one_byte e h) (earlier g) = absurd (omega arith)
same_rank (at_one_byte e h) (at_one_byte f g) = omega arith

module _ {n : ℕ} {p : List ℕ} where
  -- at one byte there is one fault of each rank
  same-fault : {v w : Verdict} {i j : ℕ} → Fault n p v i → Fault n p w j → i ≡ j → rank v ≡ rank w → v ≡ w
  same-fault (too_long h) (too_long g) e f = refl
  same-fault (too_long h) (malformed y) e f = absurd (omega arith)
  same-fault (too_long h) (too_deep y) e f = absurd (omega arith)
  same-fault (malformed x) (too_long g) e f = absurd (omega arith)
  same-fault (malformed x) (malformed y) e f = ap Is.Malformed e
  same-fault (malformed x) (too_deep y) e f = absurd (omega arith)
  same-fault (too_deep x) (too_long g) e f = absurd (omega arith)
  same-fault (too_deep x) (malformed y) e f = absurd (omega arith)
  same-fault (too_deep x) (too_deep y) e f = ap Is.TooDeep e

  same-first-fault : {v w : Verdict} {i j : ℕ} → Fault n p v i → Fault n p w j → NotLater v i w j → NotLater w j v i → v ≡ w
  same-first-fault x y a b = same-fault x y (same_byte a b) (same_rank a b)

-- ---- what each verdict says of the part, both ways

module _ {es : List Entry} {n : ℕ} {p : List ℕ} where
  -- a part is valid exactly when it is a text within the limits that is valid by the book
  pub valid-iff : Judged es n p Is.Valid ↔ (Faultless n p × ((t : Json) × Text p t × Valid es t))
  valid-iff = (into, λ (f, (t, x, v)). by_book f x v)
    where
      into : Judged es n p Is.Valid → Faultless n p × ((t : Json) × Text p t × Valid es t)
      into (by_fault x3 _) = elim x3 [ ]
      into (by_book {t} f x v) = (f, (t, x, v))

  -- a part is invalid exactly when it is a text within the limits that is not valid by the book
  pub invalid-iff : Judged es n p Is.Invalid ↔ (Faultless n p × ((t : Json) × Text p t × (Valid es t → ⊥)))
  invalid-iff = (into, λ (f, (t, x, v)). not_by_book f x v)
    where
      into : Judged es n p Is.Invalid → Faultless n p × ((t : Json) × Text p t × (Valid es t → ⊥))
      into (by_fault x3 _) = elim x3 [ ]
      into (not_by_book {t} f x v) = (f, (t, x, v))

  -- a part is too long exactly when its first fault is a byte too many
  pub too_long-iff : Judged es n p Is.TooLong ↔ ((longest < length p) × Earliest n p Is.TooLong longest)
  too_long-iff = (into, λ (h, e). by_fault (too_long h) e)
    where
      into-fault : {k : ℕ} → Fault n p Is.TooLong k → Earliest n p Is.TooLong k → (longest < length p) × Earliest n p Is.TooLong longest
      into-fault (too_long h) e = (h, e)

      into : Judged es n p Is.TooLong → (longest < length p) × Earliest n p Is.TooLong longest
      into (by_fault x e) = into-fault x e

  -- a part is malformed at byte i exactly when its first fault is that no text begins with the bytes up to byte i
  pub malformed-iff : (i : ℕ) → Judged es n p (Is.Malformed i) ↔ (FaultAt p i × Earliest n p (Is.Malformed i) i)
  malformed-iff i = (into, λ (x, e). by_fault (malformed x) e)
    where
      into-fault : {k : ℕ} → Fault n p (Is.Malformed i) k → Earliest n p (Is.Malformed i) k → FaultAt p i × Earliest n p (Is.Malformed i) i
      into-fault (malformed x) e = (x, e)

      into : Judged es n p (Is.Malformed i) → FaultAt p i × Earliest n p (Is.Malformed i) i
      into (by_fault x e) = into-fault x e

  -- a part is too deep at byte i exactly when its first fault is that byte i opens more levels than n
  pub too_deep-iff : (i : ℕ) → Judged es n p (Is.TooDeep i) ↔ (DeepAt n p i × Earliest n p (Is.TooDeep i) i)
  too_deep-iff i = (into, λ (x, e). by_fault (too_deep x) e)
    where
      into-fault : {k : ℕ} → Fault n p (Is.TooDeep i) k → Earliest n p (Is.TooDeep i) k → DeepAt n p i × Earliest n p (Is.TooDeep i) i
      into-fault (too_deep x) e = (x, e)

      into : Judged es n p (Is.TooDeep i) → DeepAt n p i × Earliest n p (Is.TooDeep i) i
      into (by_fault x e) = into-fault x e

  -- a part is unfinished exactly when it has none of the three faults and is no whole text; its place is the length
  pub unfinished-iff : (i : ℕ) → Judged es n p (Is.Unfinished i) ↔ ((i ≡ length p) × Faultless n p × ((t : Json) → Text p t → ⊥))
  unfinished-iff i = (into, λ (e, f, m). rw e (by_end f m))
    where
      into : {k : ℕ} → Judged es n p (Is.Unfinished k) → (k ≡ length p) × Faultless n p × ((t : Json) → Text p t → ⊥)
      into (by_fault x3 _) = elim x3 [ ]
      into (by_end f m) = (refl, f, m)

  -- 15 is for the head alone
  pub not-judged-head : Judged es n p Is.Head → ⊥
  not-judged-head (by_fault x e) = elim x [ ]

  -- a part has one verdict
  pub judged-unique : {v w : Verdict} → Judged es n p v → Judged es n p w → v ≡ w
  judged-unique (by_fault {v} {i} x f) (by_fault {v = w} {i = j} y g) = same-first-fault x y (f w j y) (g v i x)
  judged-unique (by_fault x f) (by_end g m) = absurd (g _ _ x)
  judged-unique (by_fault x f) (by_book g y z) = absurd (g _ _ x)
  judged-unique (by_fault x f) (not_by_book g y z) = absurd (g _ _ x)
  judged-unique (by_end f m) (by_fault y g) = absurd (f _ _ y)
  judged-unique (by_end f m) (by_end g l) = refl
  judged-unique (by_end f m) (by_book g y z) = absurd (m _ y)
  judged-unique (by_end f m) (not_by_book g y z) = absurd (m _ y)
  judged-unique (by_book f x a) (by_fault y g) = absurd (f _ _ y)
  judged-unique (by_book f x a) (by_end g m) = absurd (m _ x)
  judged-unique (by_book f x a) (by_book g y b) = refl
  judged-unique (by_book f x a) (not_by_book g y b) = absurd (b (rw (text-unique x y) at a))
  judged-unique (not_by_book f x a) (by_fault y g) = absurd (f _ _ y)
  judged-unique (not_by_book f x a) (by_end g m) = absurd (m _ x)
  judged-unique (not_by_book f x a) (by_book g y b) = absurd (a (rw (text-unique y x) at b))
  judged-unique (not_by_book f x a) (not_by_book g y b) = refl

-- ---- the verdict that the machine finds

module _ {es : List Entry} (sound-book : Sound es) (n : ℕ) (p : List ℕ) where
  -- a verdict is the part's exactly when the machine finds it
  pub judged-iff-track : (v : Verdict) → Judged es n p v ↔ (v ≡ track_end es (track es n (track_start es) p))
  judged-iff-track v = (λ j. judged-unique j found, λ e. rw e found)
    where
      found : Judged es n p (track_end es (track es n (track_start es) p))
      found = judged-of-track sound-book n p
