-- Bytes counted at once are counted as one by one. Assumes nothing.
use mathlib.Core.Bool.{Bool, true, false}
use mathlib.Core.List.{List, [], ◌∷◌}
use mathlib.Core.Path.{◌≡◌, refl, sym, ap, ◌∙◌}
use Prim.Native.Nat.{ℕ, zero, suc, ◌+◌, ◌-◌, ◌<◌, ◌≤◌, min}
use native.Mathlib.Nat.{zero-add, suc-add}
use native.Mathlib.Numerals.{add-one}
use native.Mathlib.Omega.{arith}
use lib.Dec.{eqb, ltb}
use lib.ListN.{get_or, length, take, drop}
use lib.Seq.{drop-cons}
use borrow.Author.Tests.{ne_eqb, ltb-true, ltb-false}
use Rattle.std.specs.List.{fold}
use Rattle.json_text.specs.declared.number.NumberMode.{NumberMode}
use Rattle.json_text.specs.declared.number.NumberMode.TheVariants as N
use Rattle.whole.specs.declared.Decimal.{Decimal}
use Rattle.laws.specs.Count.{bump}
use Rattle.whole.specs.Count.{longer_up_to, bounded, with_digit, with_place, counted, counted_from, counted_all}
use Rattle.whole.specs.Run.{more_by, ZerosFrom}

-- ---- counts

-- k times one more is k more, up to the largest number
pub more_by-min : (n k : ℕ) → n ≤ 4294967295 → more_by n k ≡ min (n + k) 4294967295
unfolding more_by bump
more_by-min n zero h = omega arith
more_by-min n (suc k) h = go (ltb n 4294967295) refl (λ m g. more_by-min m k g)
  where
    go : (v : Bool) → ltb n 4294967295 ≡ v → ((m : ℕ) → m ≤ 4294967295 → more_by m k ≡ min (m + k) 4294967295)
        → more_by (bump n) k ≡ min (n + suc k) 4294967295
    go true e more = let less : n < 4294967295 = ltb-true n 4294967295 e in rw e (omega (arith, more (n + 1) (omega arith)))
    go false e more = let full : 4294967295 ≤ n = ltb-false n 4294967295 e in rw e (omega (arith, more n h))

-- ---- bytes of a list, and those from a place on

-- counted in two parts
pub counted-split : (n : NumberMode) (k l : ℕ) (d : Decimal) (s : List ℕ) (i : ℕ)
    → counted_from bounded n d s i (k + l) ≡ counted_from bounded n (counted_from bounded n d s i k) s (i + k) l
unfolding counted_from
counted-split n zero l d s i = let z : i + zero ≡ i = omega arith in rw (zero-add, z)
counted-split n (suc k) l d s i =
    let z : i + suc k ≡ i + 1 + k = omega arith in rw (suc-add, z) (counted-split n k l (counted bounded n d (get_or s i 0)) s (i + 1))

-- k bytes from place i on are those of a part of the list
pub counted-part : (n : NumberMode) (k : ℕ) (d : Decimal) (s : List ℕ) (i : ℕ) → i + k ≤ length s
    → counted_all bounded n d (take k (drop i s)) ≡ counted_from bounded n d s i k
unfolding counted_from
counted-part n zero d s i h = refl
counted-part n (suc k) d s i h =
    let less : i < length s = omega arith in
    rw (drop-cons s i 0, ← add-one i) (counted-part n k (counted bounded n d (get_or s i 0)) s (i + 1) (omega arith))

-- a mode that counts nothing
pub uncounted : (n : NumberMode) → ((d : Decimal) (b : ℕ) → counted bounded n d b ≡ d) → (d : Decimal) (s : List ℕ) → d ≡ counted_all bounded n d s
uncounted n same d [] = refl
uncounted n same d (b ∷ s) = rw (same d b) (uncounted n same d s)

-- a zero that begins a number is a digit
pub zero-counted : (d : Decimal) (s : List ℕ) → counted_all bounded N.Int d s ≡ counted_all bounded N.Zero d s
zero-counted d [] = refl
zero-counted d (b ∷ s) = zero-counted (with_digit bounded d b) s

-- a sign after others is the one that counts
pub sign-counted : (d : Decimal) (s : List ℕ) → 0 < length s → counted bounded N.Sign d (get_or s (length s - 1) 0) ≡ counted_all bounded N.Sign d s
sign-counted d [] h = absurd (omega arith)
sign-counted d (b ∷ []) h = refl
sign-counted d (b ∷ c ∷ s) h =
    let z : length (b ∷ c ∷ s) - 1 ≡ suc (length (c ∷ s) - 1) = omega arith in rw z (sign-counted (counted bounded N.Sign d b) (c ∷ s) (omega arith))

-- ---- digits

-- a list of zeros
pub zeros-counted : (d : Decimal) (s : List ℕ) → ZerosFrom s 0
    → record { zeros = more_by d.zeros (length s); places = d.places; exponent = d.exponent; negative = d.negative; nonzero = d.nonzero }
    ≡ counted_all bounded N.Int d s
unfolding more_by with_digit
zeros-counted d [] g = refl
zeros-counted d (b ∷ s) g =
    let z : b ≡ 0x30 = g 0 (omega arith) (omega arith) in
    rw z
    (zeros-counted (record { zeros = bump d.zeros; places = d.places; exponent = d.exponent; negative = d.negative; nonzero = d.nonzero }) s
    (λ k a l. g (suc k) (omega arith) (omega arith)))

-- the counts after a digit that is not 0, and some zeros
abbrev ending : Decimal → ℕ → Decimal
ending d m = record { zeros = m; places = d.places; exponent = d.exponent; negative = d.negative; nonzero = true }

ending-digit : (d : Decimal) (b m : ℕ) → ending d m ≡ ending (with_digit bounded d b) m
unfolding with_digit
ending-digit d b m = go (eqb b 0x30) refl
  where
    go : (v : Bool) → eqb b 0x30 ≡ v → ending d m ≡ ending (with_digit bounded d b) m
    go true e = rw e
    go false e = rw e

ending-counted : (d : Decimal) (s : List ℕ) (i : ℕ) → i < length s → (get_or s i 0 ≡ 0x30 → ⊥) → ZerosFrom s (i + 1)
    → ending d (more_by 0 (length s - 1 - i)) ≡ counted_all bounded N.Int d s
ending-counted d [] i h n g = absurd (omega arith)
ending-counted d (b ∷ s) zero h n g =
    let z : length (b ∷ s) - 1 - 0 ≡ length s = omega arith in
    rw (z, first) (zeros-counted (ending d 0) s (λ k a l. g (suc k) (omega arith) (omega arith)))
  where
    first : with_digit bounded d b ≡ ending d 0
    first = unfold with_digit in rw (ne_eqb b 0x30 n)
ending-counted d (b ∷ s) (suc i) h n g =
    let z : length (b ∷ s) - 1 - suc i ≡ length s - 1 - i = omega arith in
    rw z (ending-digit d b _ ∙ ending-counted (with_digit bounded d b) s i (omega arith) n (λ k a l. g (suc k) (omega arith) (omega arith)))

-- a list whose last byte that is no zero stands at place i
pub other-counted : (d : Decimal) (s : List ℕ) (i : ℕ) → i < length s → (get_or s i 0 ≡ 0x30 → ⊥) → ZerosFrom s (i + 1)
    → record { zeros = more_by 0 (length s - 1 - i); places = d.places; exponent = d.exponent; negative = d.negative; nonzero = true }
    ≡ counted_all bounded N.Int d s
other-counted d s i h n g = ending-counted d s i h n g

-- ---- digits after the point

place-digit : (d : Decimal) (b : ℕ) → with_digit bounded (with_place bounded d) b ≡ with_place bounded (with_digit bounded d b)
unfolding with_digit
place-digit d b = go (eqb b 0x30) refl
  where
    go : (v : Bool) → eqb b 0x30 ≡ v → with_digit bounded (with_place bounded d) b ≡ with_place bounded (with_digit bounded d b)
    go true e = rw e
    go false e = rw e

place-counted : (d : Decimal) (s : List ℕ) → counted_all bounded N.Int (with_place bounded d) s ≡ with_place bounded (counted_all bounded N.Int d s)
place-counted d [] = refl
place-counted d (b ∷ s) = ap (λ (x : Decimal). counted_all bounded N.Int x s) (place-digit d b) ∙ place-counted (with_digit bounded d b) s

-- k digits stand after the point
abbrev with_places : Decimal → ℕ → Decimal
with_places d k = record { zeros = d.zeros; places = more_by d.places k; exponent = d.exponent; negative = d.negative; nonzero = d.nonzero }

all-places : (d : Decimal) (s : List ℕ) → counted_all bounded N.Frac d s ≡ with_places (counted_all bounded N.Int d s) (length s)
unfolding more_by
all-places d [] = refl
all-places d (b ∷ s) =
    all-places (with_place bounded (with_digit bounded d b)) s ∙ ap (λ (x : Decimal). with_places x (length s)) (place-counted (with_digit bounded d b) s)

-- their places count besides
pub places-counted : (d x : Decimal) (s : List ℕ) → x ≡ counted_all bounded N.Int d s
    → record { zeros = x.zeros; places = more_by x.places (length s); exponent = x.exponent; negative = x.negative; nonzero = x.nonzero }
    ≡ counted_all bounded N.Frac d s
places-counted d x s e = rw e (sym (all-places d s))

-- ---- digits of the exponent

all-exponent : (d : Decimal) (s : List ℕ)
    → counted_all bounded N.Exp d s
    ≡ record {
      zeros = d.zeros;
      places = d.places;
      exponent = fold (λ (e b : ℕ). longer_up_to e (b - 0x30)) d.exponent s;
      negative = d.negative;
      nonzero = d.nonzero;
    }
all-exponent d [] = refl
all-exponent d (b ∷ s) = all-exponent (counted bounded N.Exp d b) s

pub exponent-counted : (d : Decimal) (e : ℕ) (s : List ℕ) → e ≡ fold (λ (e b : ℕ). longer_up_to e (b - 0x30)) d.exponent s
    → record { zeros = d.zeros; places = d.places; exponent = e; negative = d.negative; nonzero = d.nonzero } ≡ counted_all bounded N.Exp d s
exponent-counted d e s q = rw q (sym (all-exponent d s))
