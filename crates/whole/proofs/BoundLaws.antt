-- The bounded counts find the whole numbers of at most 16,777,216 bytes: `whole-iff-bounded`. Assumes nothing.
use mathlib.Core.Bool.{Bool, ◌&&◌}
use mathlib.Core.List.{List, [], ◌∷◌}
use mathlib.Core.Logic.{◌↔◌}
use mathlib.Core.Path.{◌≡◌, refl, ap}
use Prim.Native.Nat.{ℕ, suc, ◌+◌, ◌<◌, ◌≤◌}
use native.Mathlib.Omega.{arith}
use lib.Dec.{T, eqb}
use lib.ListN.{length}
use Rattle.json_text.specs.Meaning.{fold}
use Rattle.json_text.specs.Numbers.{is_digit_1_9}
use Rattle.json_text.specs.Lexer.{number_move, may_end}
use Rattle.json_text.specs.declared.number.NumberMode.{NumberMode}
use Rattle.json_text.specs.declared.number.NumberMode.TheVariants as N
use Rattle.json_text.specs.declared.number.NumberMove.{NumberMove}
use Rattle.json_text.specs.declared.number.NumberMove.TheVariants as NM
use Rattle.whole.specs.declared.Decimal.{Decimal}
use Rattle.whole.specs.Count.{unbounded, bounded}
use Rattle.whole.specs.Read.{Read, unread, reads, broken, gone_to, begins, reading_on, read_byte, reads_whole}
use Rattle.whole.specs.Kept.{Kept}
use Rattle.whole.specs.Whole.{Whole}
use Rattle.whole.proofs.KeptLaws.{kept_fresh, cond_both, kept-counted, test-of-kept}
use Rattle.whole.proofs.ReadLaws.{whole-iff-read}

-- with bounds, of i bytes, as much is read as without
data Alike (i : ℕ) : Read → Read → Type 0 where
  alike-unread : Alike i unread unread
  alike-reads : {n : NumberMode} {x y : Decimal} → Kept x y i → Alike i (reads n x) (reads n y)
  alike-broken : Alike i broken broken

-- ---- one byte

module _ (i b : ℕ) (h : i < 16777216) where
  alike-gone : (n : NumberMode) {x y : Decimal} → Kept x y i → Alike (i + 1) (gone_to unbounded n x b) (gone_to bounded n y b)
  alike-gone n k = alike-reads (kept-counted n b k h)

  alike-move : (v : NumberMove) {x y : Decimal} → Kept x y i → Alike (i + 1) (reading_on unbounded v x b) (reading_on bounded v y b)
  alike-move NM.Fault k = alike-broken
  alike-move NM.End k = alike-broken
  alike-move (NM.Go n) k = alike-gone n k

  alike-begins : Alike (i + 1) (begins unbounded b) (begins bounded b)
  unfolding begins
  alike-begins =
      let k = kept_fresh i in
      cond_both (Alike (i + 1)) (is_digit_1_9 b) (alike-gone N.Int k)
      (cond_both (Alike (i + 1)) (eqb b 0x30) (alike-gone N.Zero k) (cond_both (Alike (i + 1)) (eqb b 0x2D) (alike-gone N.Minus k) alike-broken))

  alike-byte : {r q : Read} → Alike i r q → Alike (i + 1) (read_byte unbounded r b) (read_byte bounded q b)
  alike-byte alike-unread = alike-begins
  alike-byte (alike-reads {n} k) = alike-move (number_move n b) k
  alike-byte alike-broken = alike-broken

-- ---- all bytes

alike-fold : (i : ℕ) (ds : List ℕ) {r q : Read} → i + length ds ≤ 16777216 → Alike i r q
    → Alike (i + length ds) (fold (read_byte unbounded) r ds) (fold (read_byte bounded) q ds)
alike-fold i [] h a = let e : i + 0 ≡ i = omega arith in rw e a
alike-fold i (b ∷ ds) h a =
    let e : i + suc (length ds) ≡ i + 1 + length ds = omega arith in
    rw e (alike-fold (i + 1) ds (omega arith) (alike-byte i b (omega arith) a))

alike-whole : {i : ℕ} {r q : Read} → i ≤ 16777216 → Alike i r q → reads_whole q ≡ reads_whole r
alike-whole h alike-unread = refl
alike-whole h (alike-reads {n} k) = ap (λ (v : Bool). may_end n && v) (test-of-kept k h)
alike-whole h alike-broken = refl

-- the bounded counts find the whole numbers among the numbers of at most 16,777,216 bytes, which is the length of the longest record
pub whole-iff-bounded : (ds : List ℕ) → length ds ≤ 16777216 → Whole ds ↔ T (reads_whole (fold (read_byte bounded) unread ds))
whole-iff-bounded ds h =
    let l : 0 + length ds ≤ 16777216 = omega arith in
    rw (alike-whole l (alike-fold 0 ds l alike-unread)) (whole-iff-read ds)
