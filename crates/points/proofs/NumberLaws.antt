-- A whole number by what is read of a corner: the same in range, and told by its sign beyond it. Assumes nothing.
use mathlib.Core.Bool.{Bool, true, false, cond, ◌&&◌}
use mathlib.Core.List.{List, [], ◌∷◌}
use mathlib.Core.Path.{◌≡◌, refl, ap}
use Prim.Native.Nat.{ℕ}
use native.Mathlib.Omega.{arith}
use lib.Dec.{eqb, leb}
use lib.IntN.{ℤ, pos, negsuc}
use lib.ListN.{length, drop}
use Rattle.laws.specs.Lists.{all}
use Rattle.std.specs.List.{list_all}
use Rattle.std.specs.Char.{is_ascii_digit}
use Rattle.json_text.specs.Bytes.{within}
use Rattle.json_text.specs.Numbers.{is_digit}
use Rattle.coordinate.specs.Coordinate.{value_from}
use Rattle.coordinate.specs.Exact.{whole_from, whole_of, negated, coordinate_of}
use Rattle.std.specs.Prelude.{Option, Some, None, neg_ℤ, take}
use Rattle.std.specs.Bool.{then_some}
use Rattle.std.specs.Option.{option_map}
use lib.Pointwise.{pointwise}
use Rattle.points.specs.Points.{has_some_digits, bounded, unsigned, number_of}

-- ---- digits

all-digits : (s : List ℕ) → list_all is_ascii_digit s ≡ all is_digit s
unfolding all is_digit within
all-digits [] = refl
all-digits (b ∷ s) = ap (λ t. (leb 0x30 b && leb b 0x39) && t) (all-digits s)

-- no bytes are no digits; of some bytes, all have to be digits
pub digits-none : (s : List ℕ) → length s ≡ 0 → false ≡ has_some_digits s
unfolding has_some_digits
digits-none [] h = refl
digits-none (b ∷ s) h = absurd (omega (arith, h))

pub digits-some : (s : List ℕ) → (length s ≡ 0 → ⊥) → list_all is_ascii_digit s ≡ has_some_digits s
unfolding has_some_digits
digits-some [] h = absurd (h refl)
digits-some (b ∷ s) h = all-digits (b ∷ s)

-- ---- the number that a corner's reading leaves: the one that is read, or one beyond the range

abbrev number_by : Option ℤ → Option ℤ → Option ℤ
number_by (Some z) n = Some z
number_by None n = n

unsigned_by : (ds : List ℕ) → unsigned ds ≡ number_by (option_map pos (whole_of ds)) (then_some (has_some_digits ds) (pos 2000000))
unfolding unsigned has_some_digits bounded whole_of whole_from
unsigned_by [] = refl
unsigned_by (d ∷ ds) = go (all is_digit (d ∷ ds)) (leb (value_from 0 (d ∷ ds)) 1000000)
  where
    v : ℕ
    v = value_from 0 (d ∷ ds)

    go : (t l : Bool) → then_some t (pos (cond l v 2000000)) ≡ number_by (option_map pos (then_some (t && l) v)) (then_some t (pos 2000000))
    go false l = refl
    go true false = refl
    go true true = refl

negated-by : (o : Option ℕ) (t : Bool) → option_map neg_ℤ (number_by (option_map pos o) (then_some t (pos 2000000))) ≡ number_by (option_map negated o) (then_some t (negsuc 1999999))
negated-by (Some n) t = refl
negated-by None true = refl
negated-by None false = refl

-- bytes that are read are the number that is read
pub number-of-some : (s : List ℕ) {z : ℤ} → coordinate_of s ≡ Some z → Some z ≡ number_of s
unfolding number_of coordinate_of
number-of-some [] e = cc
number-of-some (b ∷ ds) {z} e = go (eqb b 0x2D) e
  where
    go : (t : Bool) → cond t (option_map negated (whole_of ds)) (option_map pos (whole_of (b ∷ ds))) ≡ Some z → Some z ≡ cond t (option_map neg_ℤ (unsigned ds)) (unsigned (b ∷ ds))
    go true u = rw (unsigned_by ds, negated-by (whole_of ds) (has_some_digits ds), u) refl
    go false u = rw (unsigned_by (b ∷ ds), u) refl

-- bytes that are not read are digits beyond the range, or no number
pub number-minus : (s ds : List ℕ) (r : Bool) → pointwise eqb (take 1 s) (0x2D ∷ []) ≡ true → ds ≡ drop 1 s → coordinate_of s ≡ None → r ≡ has_some_digits ds
    → then_some r (negsuc 1999999) ≡ number_of s
unfolding number_of coordinate_of
number-minus [] ds r h e u q = cc
number-minus (b ∷ s) ds r h e u q = rw (q, e) (go (eqb b 0x2D) h u)
  where
    go : (t : Bool) → (t && true) ≡ true → cond t (option_map negated (whole_of s)) (option_map pos (whole_of (b ∷ s))) ≡ None
        → then_some (has_some_digits s) (negsuc 1999999) ≡ cond t (option_map neg_ℤ (unsigned s)) (unsigned (b ∷ s))
    go true h u = rw (unsigned_by s, negated-by (whole_of s) (has_some_digits s), u) refl
    go false h u = cc

pub number-plain : (s : List ℕ) (r : Bool) → pointwise eqb (take 1 s) (0x2D ∷ []) ≡ false → coordinate_of s ≡ None → r ≡ has_some_digits s
    → then_some r (pos 2000000) ≡ number_of s
unfolding number_of coordinate_of has_some_digits
number-plain [] r h u q = rw q refl
number-plain (b ∷ s) r h u q = rw q (go (eqb b 0x2D) h u)
  where
    go : (t : Bool) → (t && true) ≡ false → cond t (option_map negated (whole_of s)) (option_map pos (whole_of (b ∷ s))) ≡ None
        → then_some (has_some_digits (b ∷ s)) (pos 2000000) ≡ cond t (option_map neg_ℤ (unsigned s)) (unsigned (b ∷ s))
    go true h u = cc
    go false h u = rw (unsigned_by (b ∷ s), u) refl
