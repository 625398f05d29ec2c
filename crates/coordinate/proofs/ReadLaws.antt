-- What the tests and sums of a number's digits say of the definitions. Assumes nothing.
use Rattle.std.proofs.Common.{◌≡◌, ℕ, ◌+◌, ◌-◌, ◌*◌, ◌<◌, ◌≤◌, Bool, true, false, ◌&&◌, List, [], ◌∷◌, length, get_or, drop, Some, None, refl, sym, ◌∙◌, leb, leb-true, leb-false, le-leb, add-one, arith}
use Rattle.std.specs.Prelude.{Option, cond, eqb, take, zero, suc, pos, ◌-ℤ◌}
use Rattle.std.specs.Bool.{then_some}
use Rattle.std.specs.Option.{option_map}
use lib.Pointwise.{pointwise}
use Rattle.std.proofs.Math.Facts.{to_z_pos, to_z-of_z}
use Rattle.std.proofs.Math.IntN.{+ℤ_idl}
use mir.Syntax.{w32}
use mir.Val.{SFits, to_z, of_z}
use Rattle.std.proofs.lemmas.Bool.{lt-leb}
use Rattle.std.proofs.Math.Seq.{drop-cons}
use Rattle.std.proofs.Math.ListN.{drop_of_length-le}
use Rattle.laws.specs.Lists.{all}
use Rattle.json_text.specs.Numbers.{is_digit}
use Rattle.coordinate.specs.Coordinate.{value_from}
use Rattle.coordinate.specs.Exact.{longer, whole_from, whole_of, negated, coordinate_of}

-- ---- one digit more

-- a byte that is no digit is no part of a number
pub longer-none : (v b : ℕ) → is_digit b ≡ false → longer v b ≡ None
unfolding longer
longer-none v b e = rw e refl

-- a digit after a value makes a value, where that is in range
pub longer-digit : (v b : ℕ) → is_digit b ≡ true → longer v b ≡ then_some (leb (v * 10 + (b - 0x30)) 1000000) (v * 10 + (b - 0x30))
unfolding longer
longer-digit v b e = rw e refl

-- ---- digits after a value

-- more digits only make a value larger
pub value_from-ge : (v : ℕ) (ds : List ℕ) → v ≤ value_from v ds
value_from-ge v [] = omega arith
value_from-ge v (d ∷ ds) = omega (arith, value_from-ge (v * 10 + (d - 0x30)) ds)

-- a value out of range stays out of range
whole_from-of-large : (v : ℕ) (ds : List ℕ) → 1000000 < v → whole_from v ds ≡ None
unfolding whole_from
whole_from-of-large v ds h = go (all is_digit ds)
  where
    go : (t : Bool) → then_some (t && leb (value_from v ds) 1000000) (value_from v ds) ≡ None
    go true = rw (lt-leb (value_from v ds) 1000000 (omega (arith, value_from-ge v ds)))
    go false = refl

-- what is read of a byte and the bytes after it follows from what is read of the byte
module _ (v b : ℕ) (ds : List ℕ) where
  -- the byte is no digit, or leads out of range
  pub whole_from-of-none : longer v b ≡ None → whole_from v (b ∷ ds) ≡ None
  unfolding longer whole_from all
  whole_from-of-none e = go (is_digit b) refl (leb (v * 10 + (b - 0x30)) 1000000) refl e
    where
      go : (t : Bool) → is_digit b ≡ t → (l : Bool) → leb (v * 10 + (b - 0x30)) 1000000 ≡ l → then_some (t && l) (v * 10 + (b - 0x30)) ≡ None → whole_from v (b ∷ ds) ≡ None
      go false p l q u = rw p refl
      go true p false q u = rw p (whole_from-of-large (v * 10 + (b - 0x30)) ds (leb-false _ 1000000 q))
      go true p true q u = cc

  -- it leads to the value w
  pub whole_from-of-some : {w : ℕ} → longer v b ≡ Some w → (w ≤ 1000000) × (whole_from v (b ∷ ds) ≡ whole_from w ds)
  unfolding longer whole_from all
  whole_from-of-some {w} e = go (is_digit b) refl (leb (v * 10 + (b - 0x30)) 1000000) refl e
    where
      go : (t : Bool) → is_digit b ≡ t → (l : Bool) → leb (v * 10 + (b - 0x30)) 1000000 ≡ l → then_some (t && l) (v * 10 + (b - 0x30)) ≡ Some w → (w ≤ 1000000) × (whole_from v (b ∷ ds) ≡ whole_from w ds)
      go false p l q u = cc
      go true p false q u = cc
      go true p true q u = let same : w ≡ v * 10 + (b - 0x30) = cc in rw same (leb-true _ 1000000 q, rw p refl)

-- no digit more
pub whole_from-end : (v : ℕ) → v ≤ 1000000 → whole_from v [] ≡ Some v
unfolding whole_from all
whole_from-end v h = rw (le-leb v 1000000 h) refl

-- ---- the digits of a slice, of which the first i have the value v

pub record Reading (s : List ℕ) (v i : ℕ) : Type 0 where
  pub small : v ≤ 1000000
  pub rest : whole_from v (drop i s) ≡ whole_of s

-- no digits are no number
pub whole_of-none : (s : List ℕ) → length s ≡ 0 → whole_of s ≡ None
unfolding whole_of
whole_of-none [] h = refl
whole_of-none (b ∷ s) h = absurd (omega (arith, h))

-- nothing is read yet
pub reading-start : (s : List ℕ) → (length s ≡ 0 → ⊥) → Reading s 0 0
unfolding whole_of
reading-start [] h = absurd (h refl)
reading-start (b ∷ s) h = record { small = omega arith; rest = refl }

module _ (s : List ℕ) (v i : ℕ) (inv : Reading s v i) where
  -- a byte that ends it
  pub reading-none : i < length s → longer v (get_or s i 0) ≡ None → whole_of s ≡ None
  reading-none h e = sym inv.rest ∙ rw (drop-cons s i 0 h) (whole_from-of-none _ _ _ e)

  -- a digit more
  pub reading-more : {w : ℕ} → i < length s → longer v (get_or s i 0) ≡ Some w → Reading s w (i + 1)
  reading-more h e =
      let k = whole_from-of-some v (get_or s i 0) (drop (i + 1) s) e in
      record { small = k.0; rest = sym k.1 ∙ rw add-one (rw (drop-cons s i 0 h) at inv.rest) }

  -- no byte is left
  pub reading-end : length s ≤ i → Some v ≡ whole_of s
  reading-end h = sym (whole_from-end v inv.small) ∙ rw (drop_of_length-le s h) at inv.rest

-- what is read of digits is in range
pub whole_of-small : (ds : List ℕ) {n : ℕ} → whole_of ds ≡ Some n → n ≤ 1000000
unfolding whole_of whole_from
whole_of-small [] e = cc
whole_of-small (d ∷ ds) {n} e = go (all is_digit (d ∷ ds)) (leb (value_from 0 (d ∷ ds)) 1000000) refl e
  where
    go : (t l : Bool) → leb (value_from 0 (d ∷ ds)) 1000000 ≡ l → then_some (t && l) (value_from 0 (d ∷ ds)) ≡ Some n → n ≤ 1000000
    go false l q u = cc
    go true false q u = cc
    go true true q u = let same : n ≡ value_from 0 (d ∷ ds) = cc in rw same (leb-true _ 1000000 q)

-- ---- a number

-- the bytes are a minus sign and others
pub coordinate_of-minus : (s ds : List ℕ) (o : Option ℕ) → pointwise eqb (take 1 s) (0x2D ∷ []) ≡ true → ds ≡ drop 1 s → o ≡ whole_of ds
    → option_map negated o ≡ coordinate_of s
unfolding coordinate_of
coordinate_of-minus [] ds o h e f = cc
coordinate_of-minus (b ∷ s) ds o h e f = rw (f, e) (go (eqb b 0x2D) h)
  where
    go : (t : Bool) → (t && true) ≡ true → option_map negated (whole_of s) ≡ cond t (option_map negated (whole_of s)) (option_map pos (whole_of (b ∷ s)))
    go true u = refl
    go false u = cc

-- they begin with no minus sign
pub coordinate_of-plain : (s : List ℕ) (o : Option ℕ) → pointwise eqb (take 1 s) (0x2D ∷ []) ≡ false → o ≡ whole_of s → option_map pos o ≡ coordinate_of s
unfolding coordinate_of whole_of
coordinate_of-plain [] o h f = rw f refl
coordinate_of-plain (b ∷ s) o h f = rw f (go (eqb b 0x2D) h)
  where
    go : (t : Bool) → (t && true) ≡ false → option_map pos (whole_of (b ∷ s)) ≡ cond t (option_map negated (whole_of s)) (option_map pos (whole_of (b ∷ s)))
    go true u = cc
    go false u = refl

-- a number in range fits 32 bits with either sign, and is read back as it was stored
module _ {n : ℕ} (h : n ≤ 1000000) where
  pub positive-fits : SFits w32 (pos n)
  positive-fits = record { sfits = omega arith }

  pub positive-read : to_z w32 n ≡ pos n
  positive-read = to_z_pos w32 (omega arith)

  pub negated-read : pos 0 -ℤ to_z w32 n ≡ negated n
  negated-read = rw positive-read (+ℤ_idl (negated n))

  pub negated-fits : SFits w32 (pos 0 -ℤ to_z w32 n)
  negated-fits = rw negated-read (go n h)
    where
      go : (m : ℕ) → m ≤ 1000000 → SFits w32 (negated m)
      go zero k = record { sfits = omega arith }
      go (suc m) k = record { sfits = omega arith }

  pub negated-stored : to_z w32 (of_z w32 (pos 0 -ℤ to_z w32 n)) ≡ negated n
  negated-stored = to_z-of_z negated-fits ∙ negated-read
