-- What is read and counted along the parts of a number of the grammar: `read_number`. Assumes nothing.
use mathlib.Core.Bool.{Bool, false}
use mathlib.Core.List.{List, [], ◌∷◌, ◌++◌, append_assoc}
use mathlib.Core.Path.{◌≡◌, refl, ap, ◌∙◌}
use Prim.Native.Nat.{ℕ, suc, ◌+◌, ◌*◌, ◌-◌}
use native.Mathlib.Nat.{add-zero}
use native.Mathlib.Omega.{arith}
use lib.Dec.{T, eqb}
use lib.ListN.{length}
use Rattle.laws.proofs.TestLaws.{cond_yes}
use Rattle.json_text.specs.Bytes.{within}
use Rattle.json_text.specs.Meaning.{fold}
use Rattle.json_text.specs.Numbers.{is_digit, is_digit_1_9, is_e, Digits, no_digits, digits, some_digits, Minus, no_minus, minus, Int, zero, int, Frac}
use Rattle.json_text.specs.Numbers.{no_frac, frac, no_sign, minus_sign, plus_sign, Exp, no_exp, exp}
use Rattle.json_text.specs.Lexer.{may_end}
use Rattle.json_text.specs.declared.number.NumberMode.{NumberMode}
use Rattle.json_text.specs.declared.number.NumberMode.TheVariants as N
use Rattle.json_text.specs.declared.number.NumberMove.{NumberMove}
use Rattle.json_text.proofs.ByteLaws.{low-of-within, high-of-within, within-of-le}
use Rattle.json_text.proofs.NumberLaws.{Goes, minus-int, minus-zero, zero-dot, zero-e, int-digit, int-dot, int-e, dot-digit, frac-digit, frac-e, e-digit}
use Rattle.json_text.proofs.NumberLaws.{e-plus, e-minus, sign-digit, exp-digit, move-of-goes}
use Rattle.whole.specs.declared.Decimal.{Decimal}
use Rattle.whole.specs.Fresh.{fresh}
use Rattle.whole.specs.Count.{unbounded, counted}
use Rattle.whole.specs.Read.{Read, unread, reads, begins, reading_on, read_byte}
use Rattle.whole.specs.Whole.{shown_after, shown, digits_of, Exponent, exponent_of}
use Rattle.whole.proofs.KeptLaws.{rest-of-digit}
use Rattle.whole.proofs.EndLaws.{Ends, all-zero, ends-digit, sized}

-- the counts of digits that show m, with f of them after the point, and of an exponent of sign g and size e
pub record Counts (m f : ℕ) (g : Bool) (e : ℕ) (d : Decimal) : Type 0 where
  pub ended : Ends m d.zeros d.nonzero
  pub places : d.places ≡ f
  pub negative : d.negative ≡ g
  pub exponent : d.exponent ≡ e

-- mode n is read, and such counts
pub data Reaches (r : Read) (n : NumberMode) (m f : ℕ) (g : Bool) (e : ℕ) : Type 0 where
  reaches : {d : Decimal} → r ≡ reads n d → Counts m f g e d → Reaches r n m f g e

-- ---- one byte

-- a byte that a number goes on with
stepped : {n k : NumberMode} {b : ℕ} {r : Read} {m f m' f' e e' : ℕ} {g g' : Bool} → Goes n b k
    → ((d : Decimal) → Counts m f g e d → Counts m' f' g' e' (counted unbounded k d b)) → Reaches r n m f g e → Reaches (read_byte unbounded r b) k m' f' g' e'
stepped {k} {b} w c (reaches {d} q x) =
    reaches {d = counted unbounded k d b} (ap (λ (v : Read). read_byte unbounded v b) q ∙ ap (λ (v : NumberMove). reading_on unbounded v d b) (move-of-goes w)) (c d x)

module _ {m f e : ℕ} {g : Bool} (b : ℕ) where
  -- the counts after a digit before the point
  digit-counts : T (is_digit b) → (d : Decimal) → Counts m f g e d → Counts (10 * m + (b - 0x30)) f g e (counted unbounded N.Int d b)
  digit-counts h d c =
      let k = rest-of-digit unbounded d b in
      record {
        ended = ends-digit b m d h c.ended;
        places = k.places ∙ c.places;
        negative = k.negative ∙ c.negative;
        exponent = k.exponent ∙ c.exponent;
      }

  -- after a digit after it
  place-counts : T (is_digit b) → (d : Decimal) → Counts m f g e d → Counts (10 * m + (b - 0x30)) (f + 1) g e (counted unbounded N.Frac d b)
  place-counts h d c =
      let x = digit-counts h d c in
      record { ended = x.ended; places = ap (λ (n : ℕ). n + 1) x.places; negative = x.negative; exponent = x.exponent }

  -- after a sign of the exponent
  sign-counts : (d : Decimal) → Counts m f g e d → Counts m f (eqb b 0x2D) e (counted unbounded N.Sign d b)
  sign-counts d c = record { ended = c.ended; places = c.places; negative = refl; exponent = c.exponent }

  -- after a digit of the exponent
  exponent-counts : (d : Decimal) → Counts m f g e d → Counts m f g (10 * e + (b - 0x30)) (counted unbounded N.Exp d b)
  exponent-counts d c =
      record {
        ended = c.ended;
        places = c.places;
        negative = c.negative;
        exponent = ap (λ (n : ℕ). 10 * n + (b - 0x30)) c.exponent;
      }

-- ---- digits

-- digits before the point
read_int : {r : Read} {m f e : ℕ} {g : Bool} {s : List ℕ} → Digits s → Reaches r N.Int m f g e
    → Reaches (fold (read_byte unbounded) r s) N.Int (shown_after m s) f g e
unfolding shown_after
read_int no_digits x = x
read_int {r} (digits {d} h t) x = read_int {r = read_byte unbounded r d} t (stepped (int-digit h) (digit-counts d h) x)

-- digits after it
read-places : {r : Read} {m f e : ℕ} {g : Bool} {s : List ℕ} → Digits s → Reaches r N.Frac m f g e
    → Reaches (fold (read_byte unbounded) r s) N.Frac (shown_after m s) (f + length s) g e
unfolding shown_after
read-places {f} no_digits x = rw (add-zero f) x
read-places {r} {f} (digits {d} {s} h t) x =
    let q : f + suc (length s) ≡ f + 1 + length s = omega arith in
    rw q (read-places {r = read_byte unbounded r d} t (stepped (frac-digit h) (place-counts d h) x))

-- digits of the exponent
read-size : {r : Read} {m f e : ℕ} {g : Bool} {s : List ℕ} → Digits s → Reaches r N.Exp m f g e
    → Reaches (fold (read_byte unbounded) r s) N.Exp m f g (shown_after e s)
unfolding shown_after
read-size no_digits x = x
read-size {r} (digits {d} h t) x = read-size {r = read_byte unbounded r d} t (stepped (exp-digit h) (exponent-counts d) x)

-- ---- the parts

-- a mode after which the exponent may follow, or the end
record BeforeExp (n : NumberMode) : Type 0 where
  ends-here : T (may_end n)
  to-e : {b : ℕ} → T (is_e b) → Goes n b N.E

-- a mode after which the point may follow besides
record BeforeFrac (n : NumberMode) : Type 0 where
  to-dot : Goes n 0x2E N.Dot
  no-dot : BeforeExp n

-- the two modes of the digits before the point
before-zero : BeforeFrac N.Zero
before-zero = record { to-dot = zero-dot; no-dot = record { ends-here = tt; to-e = zero-e } }

before-int : BeforeFrac N.Int
before-int = record { to-dot = int-dot; no-dot = record { ends-here = tt; to-e = int-e } }

-- what is read before the point
data ReadInt (r : Read) (m : ℕ) : Type 0 where
  read-before : {n : NumberMode} → BeforeFrac n → Reaches r n m 0 false 0 → ReadInt r m

-- what is read before the exponent
data ReadFrac (r : Read) (m f : ℕ) : Type 0 where
  read-after : {n : NumberMode} → BeforeExp n → Reaches r n m f false 0 → ReadFrac r m f

-- what is read of a number
pub data ReadAll (r : Read) (m f : ℕ) : Exponent → Type 0 where
  read_all : {n : NumberMode} {g : Bool} {e : ℕ} → T (may_end n) → Reaches r n m f g e → ReadAll r m f (sized g e)

-- nothing is counted at the beginning
fresh-counts : Counts 0 0 false 0 fresh
fresh-counts = record { ended = all-zero refl; places = refl; negative = refl; exponent = refl }

-- a digit from 1 to 9 is a digit
digit-of-digit1-9 : (b : ℕ) → T (is_digit_1_9 b) → T (is_digit b)
unfolding is_digit is_digit_1_9
digit-of-digit1-9 b h =
    let l = low-of-within 0x31 0x39 b h in
    within-of-le 0x30 0x39 b (omega arith) (high-of-within 0x31 0x39 b h)

-- the first byte of a number
first-minus : Reaches (read_byte unbounded unread 0x2D) N.Minus 0 0 false 0
unfolding begins is_digit_1_9 within
first-minus = reaches refl fresh-counts

first-zero : Reaches (read_byte unbounded unread 0x30) N.Zero 0 0 false 0
unfolding begins is_digit_1_9 is_digit within
first-zero = reaches refl (digit-counts 0x30 tt fresh fresh-counts)

first-digit : (b : ℕ) → T (is_digit_1_9 b) → Reaches (read_byte unbounded unread b) N.Int (10 * 0 + (b - 0x30)) 0 false 0
unfolding begins
first-digit b h =
    reaches {d = counted unbounded N.Int fresh b} (cond_yes (λ (r : Read). r ≡ reads N.Int (counted unbounded N.Int fresh b)) (is_digit_1_9 b) _ h refl)
    (digit-counts b (digit-of-digit1-9 b h) fresh fresh-counts)

-- the minus and the digits before the point
int-read : {m i : List ℕ} → Minus m → Int i → ReadInt (fold (read_byte unbounded) unread (m ++ i)) (shown i)
unfolding shown_after is_digit within
int-read no_minus zero = read-before before-zero first-zero
int-read no_minus (int {d} h t) = read-before before-int (read_int t (first-digit d h))
int-read minus zero = read-before before-zero (stepped minus-zero (digit-counts 0x30 tt) first-minus)
int-read minus (int {d} h t) =
    read-before before-int (read_int t (stepped (minus-int h) (digit-counts d (digit-of-digit1-9 d h)) first-minus))

-- the point and the digits after it
frac-read : {r : Read} {m : ℕ} {f : List ℕ} (x : Frac f) → ReadInt r m
    → ReadFrac (fold (read_byte unbounded) r f) (shown_after m (digits_of x)) (length (digits_of x))
unfolding shown_after
frac-read no_frac (read-before k x) = read-after k.no-dot x
frac-read (frac (some_digits {d} {s} h t)) (read-before k x) =
    let q : suc (length s) ≡ 0 + 1 + length s = omega arith in
    read-after (record { ends-here = tt; to-e = frac-e })
    (rw q (read-places t (stepped (dot-digit h) (place-counts d h) (stepped k.to-dot (λ _ c. c) x))))

-- the exponent
exp-read : {r : Read} {m f : ℕ} {e : List ℕ} (y : Exp e) → ReadFrac r m f → ReadAll (fold (read_byte unbounded) r e) m f (exponent_of y)
unfolding shown_after
exp-read no_exp (read-after k x) = read_all k.ends-here x
exp-read (exp h no_sign (some_digits {d} p t)) (read-after k x) =
    read_all tt (read-size t (stepped (e-digit p) (exponent-counts d) (stepped (k.to-e h) (λ _ c. c) x)))
exp-read (exp h plus_sign (some_digits {d} p t)) (read-after k x) =
    read_all tt
    (read-size t (stepped (sign-digit p) (exponent-counts d) (stepped e-plus (sign-counts 0x2B) (stepped (k.to-e h) (λ _ c. c) x))))
exp-read (exp h minus_sign (some_digits {d} p t)) (read-after k x) =
    read_all tt
    (read-size t (stepped (sign-digit p) (exponent-counts d) (stepped e-minus (sign-counts 0x2D) (stepped (k.to-e h) (λ _ c. c) x))))

-- ---- a number

-- bytes that are read one part after another
fold-append : {A : Type 0} (f : A → ℕ → A) (a : A) (s t : List ℕ) → fold f a (s ++ t) ≡ fold f (fold f a s) t
fold-append f a [] t = refl
fold-append f a (c ∷ s) t = fold-append f (f a c) s t

-- digits that show a number after others
shown-append : (v : ℕ) (s t : List ℕ) → shown_after v (s ++ t) ≡ shown_after (shown_after v s) t
unfolding shown_after
shown-append v [] t = refl
shown-append v (d ∷ s) t = shown-append (10 * v + (d - 0x30)) s t

-- the parts of a number are read, and counted
pub read_number : {m i f e : List ℕ} → Minus m → Int i → (x : Frac f) (y : Exp e)
    → ReadAll (fold (read_byte unbounded) unread (m ++ (i ++ (f ++ e)))) (shown (i ++ digits_of x)) (length (digits_of x)) (exponent_of y)
read_number {m} {i} {f} {e} p q x y =
    rw (
      ← append_assoc m i (f ++ e),
      fold-append (read_byte unbounded) unread (m ++ i) (f ++ e),
      fold-append (read_byte unbounded) (fold (read_byte unbounded) unread (m ++ i)) f e,
      shown-append 0 i (digits_of x),
    )
    (exp-read y (frac-read x (int-read p q)))
