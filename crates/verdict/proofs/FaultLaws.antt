-- The faults of a part, byte by byte: while the first i bytes have none, every fault stands at byte i or after it, and the test that stops there
-- names the one of least rank. Assumes nothing.
use mathlib.Core.List.{List}
use mathlib.Core.Logic.{⊎_elim}
use mathlib.Core.Path.{◌≡◌}
use Prim.Native.Nat.{ℕ, suc, ◌≤◌, ◌<◌}
use native.Mathlib.Nat.{eq-or-lt_of_le, lt_of_not-le}
use native.Mathlib.Omega.{arith}
use lib.ListN.{length, take}
use Rattle.json_text.specs.Grammar.{Begins}
use Rattle.json_text.specs.Levels.{open_levels}
use Rattle.json_text.proofs.Faults.{begins-of-take}
use Rattle.book.specs.Entry.{Entry}
use Rattle.verdict.specs.declared.Verdict.{Verdict}
use Rattle.verdict.specs.declared.Verdict.TheVariants as Is
use Rattle.verdict.specs.Verdict.{longest, Fault, too_long, malformed, too_deep, rank, earlier, at_one_byte, Judged, by_fault}

-- the first i bytes of p have no fault, where more than n levels are too deep
pub record Clean (n : ℕ) (p : List ℕ) (i : ℕ) : Type 0 where
  pub inside : i ≤ length p
  pub short : i ≤ longest
  pub begins : Begins (take i p)
  pub shallow : (j : ℕ) → j ≤ i → open_levels (take j p) ≤ n

le_of_not_lt : {i j : ℕ} → (j < i → ⊥) → i ≤ j
le_of_not_lt {i} {j} f = omega (arith, lt_of_not-le f)

module _ {n : ℕ} {p : List ℕ} where
  -- every fault stands after the bytes that have none, and is a byte of the part
  pub le-of-fault : {i j : ℕ} {w : Verdict} → Clean n p i → Fault n p w j → i ≤ j
  le-of-fault c (too_long h) = c.short
  le-of-fault {i} {j} c (malformed x) = le_of_not_lt (λ h. x.behind (begins-of-take (suc j) i p h c.begins))
  le-of-fault {i} {j} c (too_deep x) = le_of_not_lt (λ h. omega (arith, x.behind, c.shallow (suc j) h))

  pub lt-length-of-fault : {j : ℕ} {w : Verdict} → Fault n p w j → j < length p
  lt-length-of-fault (too_long h) = h
  lt-length-of-fault (malformed x) = x.inside
  lt-length-of-fault (too_deep x) = x.inside

  -- before the byte that is too far no fault has rank 0, and where some text begins with the bytes, none has rank 1
  one-le-rank-of-short : {j : ℕ} {w : Verdict} → j < longest → Fault n p w j → 1 ≤ rank w
  one-le-rank-of-short h (too_long l) = absurd (omega arith)
  one-le-rank-of-short h (malformed x) = omega arith
  one-le-rank-of-short h (too_deep x) = omega arith

  two-le-rank-of-begins : {j : ℕ} {w : Verdict} → j < longest → Begins (take (suc j) p) → Fault n p w j → 2 ≤ rank w
  two-le-rank-of-begins h b (too_long l) = absurd (omega arith)
  two-le-rank-of-begins h b (malformed x) = absurd (x.behind b)
  two-le-rank-of-begins h b (too_deep x) = omega arith

  -- a fault at byte i is the first, where the bytes before it have none and no other at byte i has a lesser rank
  judged-of-fault : {es : List Entry} {i : ℕ} {v : Verdict} → Clean n p i → Fault n p v i → ((w : Verdict) → Fault n p w i → rank v ≤ rank w) → Judged es n p v
  judged-of-fault {i} {v} c x r = by_fault x (λ w j y. ⊎_elim (λ e. at_one_byte e (r w (rw e y))) earlier (eq-or-lt_of_le (le-of-fault c y)))

  -- ---- the tests at byte i, where the bytes before it have no fault

  module _ {i : ℕ} (c : Clean n p i) (inside : i < length p) where
    -- byte i is one too many
    pub judged-too-long : {es : List Entry} → longest ≤ i → Judged es n p Is.TooLong
    judged-too-long h =
        let e : i ≡ longest = omega (arith, c.short) in
        judged-of-fault (rw e at c) (too_long (rw e at inside)) (λ w x. omega arith)

    -- no text begins with the bytes up to byte i
    pub judged-malformed : {es : List Entry} → i < longest → (Begins (take (suc i) p) → ⊥) → Judged es n p (Is.Malformed i)
    judged-malformed h f = judged-of-fault c (malformed (record { inside = inside; before = c.begins; behind = f })) (λ w y. one-le-rank-of-short h y)

    -- some text begins with the bytes up to byte i, and the levels are too many
    pub judged-too-deep : {es : List Entry} → i < longest → Begins (take (suc i) p) → n < open_levels (take (suc i) p) → Judged es n p (Is.TooDeep i)
    judged-too-deep h b f =
        judged-of-fault c (too_deep (record { inside = inside; before = c.shallow; behind = f })) (λ w y. two-le-rank-of-begins h b y)

    -- some text begins with the bytes up to byte i, and the levels are not too many
    pub clean-suc : i < longest → Begins (take (suc i) p) → open_levels (take (suc i) p) ≤ n → Clean n p (suc i)
    clean-suc h b f = record { inside = inside; short = h; begins = b; shallow = λ j g. ⊎_elim (λ e. rw e f) (λ l. c.shallow j (omega arith)) (eq-or-lt_of_le g) }
