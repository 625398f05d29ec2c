-- The counts that are kept of an open number: what a number begins with, each byte more, and the kind of a number that ends. Assumes nothing.
use mathlib.Core.Bool.{true, cond}
use mathlib.Core.Path.{◌≡◌, refl, ap, ◌∙◌}
use Prim.Native.Nat.{ℕ, suc, ◌<◌, ◌≤◌}
use native.Mathlib.Numerals.{add-one}
use Rattle.laws.proofs.TestLaws.{true-of-T}
use Rattle.json_text.specs.Lexer.{number_move, may_end}
use Rattle.json_text.specs.declared.number.NumberMode.{NumberMode}
use Rattle.json_text.specs.declared.number.NumberMove.{NumberMove}
use Rattle.json_text.specs.declared.number.NumberMove.TheVariants as NM
use Rattle.json_text.proofs.NumberLaws.{Moved, moved-fault, moved-end, moved-go, moved}
use Rattle.whole.specs.declared.Decimal.{Decimal}
use Rattle.whole.specs.Fresh.{fresh}
use Rattle.whole.specs.Count.{unbounded, bounded, counted}
use Rattle.whole.specs.Read.{Read, gone_to, begins, reading_on, read_byte, reads_whole}
use Rattle.whole.proofs.KeptLaws.{kept_fresh, kept-counted, test-of-kept}
use Rattle.table.specs.declared.kind.Scalar.TheVariants as K
use Rattle.verdict.specs.Verdict.{longest}
use Rattle.progress.specs.Act.{number_kind}
use Rattle.follows.specs.Follows.{NumberKept, number_kept}

-- the first byte
pub kept-begun : (n : NumberMode) (b i : ℕ) → begins unbounded b ≡ gone_to unbounded n fresh b → i < longest
    → NumberKept n (counted bounded n fresh b) (begins unbounded b) (suc i)
kept-begun n b i e h = number_kept e (rw (← add-one i) (kept-counted n b (kept_fresh i) h))

-- one byte more
pub kept-gone : (n m : NumberMode) (b : ℕ) {y : Decimal} {r : Read} {i : ℕ} → number_move n b ≡ NM.Go m → NumberKept n y r i → i < longest
    → NumberKept m (counted bounded m y b) (read_byte unbounded r b) (suc i)
kept-gone n m b {i = i} e (number_kept {x} q k) h =
    number_kept (ap (λ (z : Read). read_byte unbounded z b) q ∙ ap (λ (v : NumberMove). reading_on unbounded v x b) e) (rw (← add-one i) (kept-counted m b k h))

-- the kind of a number that may end is that of its value
pub kind-of-kept : (n : NumberMode) {y : Decimal} {r : Read} {i : ℕ} → NumberKept n y r i → may_end n ≡ true → i ≤ longest
    → number_kind y ≡ cond (reads_whole r) K.Int K.Num
unfolding number_kind
kind-of-kept n (number_kept q k) e h = rw (q, test-of-kept k h, e)

-- a byte in a number stops it, ends it where it may end, or goes on
pub number_move-elim : (P : NumberMove → Type 0) (n : NumberMode) (b : ℕ) → P NM.Fault → (may_end n ≡ true → P NM.End)
    → ((m : NumberMode) → number_move n b ≡ NM.Go m → P (NM.Go m)) → P (number_move n b)
number_move-elim P n b stop end go = by (number_move n b) (moved n b) refl
  where
    by : (v : NumberMove) → Moved n b v → number_move n b ≡ v → P v
    by NM.Fault moved-fault e = stop
    by NM.End (moved-end h) e = end (true-of-T (may_end n) h)
    by (NM.Go m) (moved-go g) e = go m e
