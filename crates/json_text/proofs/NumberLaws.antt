-- Numbers by the lexer's modes are the grammar's numbers: `number-of-from`, `from-of-number`. Assumes nothing.
use mathlib.Core.Bool.{not}
use mathlib.Core.List.{List, [], ◌∷◌, ◌++◌}
use mathlib.Core.Path.{◌≡◌, refl}
use Prim.Native.Nat.{ℕ}
use lib.Dec.{T, eqb, eqb→eq}
use Rattle.laws.proofs.TestLaws.{T-or-elim, cond-elim, cond_yes, cond_no, cond_byte}
use Rattle.json_text.specs.Bytes.{within}
use Rattle.json_text.specs.Numbers.{is_digit, is_digit_1_9, is_e, Digits, no_digits, digits, SomeDigits, some_digits, Minus, no_minus, minus, zero, int, Frac, no_frac, frac, Sign, no_sign, minus_sign, plus_sign, Exp, no_exp, exp, Number, number}
use Rattle.json_text.specs.Lexer.{or_exp, after_minus, after_zero, after_int, after_frac, after_e, after_exp, digit_only, number_move, may_end}
use Rattle.json_text.specs.declared.number.NumberMode.{NumberMode}
use Rattle.json_text.specs.declared.number.NumberMode.TheVariants as N
use Rattle.json_text.specs.declared.number.NumberMove.{NumberMove}
use Rattle.json_text.specs.declared.number.NumberMove.TheVariants as NM

-- ---- the moves that stay in a number

-- after the first part, the byte leads to the second
pub data Goes : NumberMode → ℕ → NumberMode → Type 0 where
  minus-int : {b : ℕ} → T (is_digit_1_9 b) → Goes N.Minus b N.Int
  minus-zero : Goes N.Minus 0x30 N.Zero
  zero-dot : Goes N.Zero 0x2E N.Dot
  zero-e : {b : ℕ} → T (is_e b) → Goes N.Zero b N.E
  int-digit : {b : ℕ} → T (is_digit b) → Goes N.Int b N.Int
  int-dot : Goes N.Int 0x2E N.Dot
  int-e : {b : ℕ} → T (is_e b) → Goes N.Int b N.E
  dot-digit : {b : ℕ} → T (is_digit b) → Goes N.Dot b N.Frac
  frac-digit : {b : ℕ} → T (is_digit b) → Goes N.Frac b N.Frac
  frac-e : {b : ℕ} → T (is_e b) → Goes N.Frac b N.E
  e-digit : {b : ℕ} → T (is_digit b) → Goes N.E b N.Exp
  e-plus : Goes N.E 0x2B N.Sign
  e-minus : Goes N.E 0x2D N.Sign
  sign-digit : {b : ℕ} → T (is_digit b) → Goes N.Sign b N.Exp
  exp-digit : {b : ℕ} → T (is_digit b) → Goes N.Exp b N.Exp

-- what completes a number after a part of it
pub data NumberFrom : NumberMode → List ℕ → Type 0 where
  ends-here : {n : NumberMode} → T (may_end n) → NumberFrom n []
  goes_on : {n m : NumberMode} {b : ℕ} {ds : List ℕ} → Goes n b m → NumberFrom m ds → NumberFrom n (b ∷ ds)

-- the first byte of a number, and the part that it is
pub data Starts : ℕ → NumberMode → Type 0 where
  starts-minus : Starts 0x2D N.Minus
  starts-zero : Starts 0x30 N.Zero
  starts-int : {b : ℕ} → T (is_digit_1_9 b) → Starts b N.Int

pub data Begun : List ℕ → Type 0 where
  begun : {b : ℕ} {n : NumberMode} {ds : List ℕ} → Starts b n → NumberFrom n ds → Begun (b ∷ ds)

-- ---- number_move

e-elim : (P : ℕ → Type 0) → P 0x65 → P 0x45 → (b : ℕ) → T (is_e b) → P b
unfolding is_e
e-elim P p q b = T-or-elim (eqb b 0x65) (eqb b 0x45) (λ h. rw (eqb→eq b 0x65 h) p) (λ h. rw (eqb→eq b 0x45 h) q)

-- the lexer goes on with each byte that a number goes on with
pub move-of-goes : {n m : NumberMode} {b : ℕ} → Goes n b m → number_move n b ≡ NM.Go m
unfolding after_minus after_zero after_int after_frac after_e after_exp digit_only or_exp is_digit_1_9 is_digit within is_e
move-of-goes (minus-int {b} h) = cond_yes (λ x. x ≡ NM.Go N.Int) (is_digit_1_9 b) _ h refl
move-of-goes minus-zero = refl
move-of-goes zero-dot = refl
move-of-goes (zero-e {b} h) = e-elim (λ (x : ℕ). number_move N.Zero x ≡ NM.Go N.E) refl refl b h
move-of-goes (int-digit {b} h) = cond_yes (λ x. x ≡ NM.Go N.Int) (is_digit b) _ h refl
move-of-goes int-dot = refl
move-of-goes (int-e {b} h) = e-elim (λ (x : ℕ). number_move N.Int x ≡ NM.Go N.E) refl refl b h
move-of-goes (dot-digit {b} h) = cond_yes (λ x. x ≡ NM.Go N.Frac) (is_digit b) _ h refl
move-of-goes (frac-digit {b} h) = cond_yes (λ x. x ≡ NM.Go N.Frac) (is_digit b) _ h refl
move-of-goes (frac-e {b} h) = e-elim (λ (x : ℕ). number_move N.Frac x ≡ NM.Go N.E) refl refl b h
move-of-goes (e-digit {b} h) = cond_yes (λ x. x ≡ NM.Go N.Exp) (is_digit b) _ h refl
move-of-goes e-plus = refl
move-of-goes e-minus = refl
move-of-goes (sign-digit {b} h) = cond_yes (λ x. x ≡ NM.Go N.Exp) (is_digit b) _ h refl
move-of-goes (exp-digit {b} h) = cond_yes (λ x. x ≡ NM.Go N.Exp) (is_digit b) _ h refl

-- what byte b does after part n of a number: a fault, the end of the number where it may end, or a byte that goes on
pub data Moved (n : NumberMode) (b : ℕ) : NumberMove → Type 0 where
  moved-fault : Moved n b NM.Fault
  moved-end : T (may_end n) → Moved n b NM.End
  moved-go : {m : NumberMode} → Goes n b m → Moved n b (NM.Go m)

or-exp-moved : (n : NumberMode) (b : ℕ) → T (may_end n) → (T (is_e b) → Goes n b N.E) → Moved n b (or_exp b)
unfolding or_exp
or-exp-moved n b h g = cond-elim (Moved n b) (is_e b) (λ e. moved-go (g e)) (λ _. moved-end h)

pub moved : (n : NumberMode) (b : ℕ) → Moved n b (number_move n b)
unfolding after_minus after_zero after_int after_frac after_e after_exp digit_only
moved N.Minus b =
    cond-elim (Moved _ b) (is_digit_1_9 b) (λ h. moved-go (minus-int h)) (λ _. cond_byte (Moved N.Minus) b 0x30 (moved-go minus-zero) moved-fault)
moved N.Zero b = cond_byte (Moved N.Zero) b 0x2E (moved-go zero-dot) (or-exp-moved N.Zero b tt zero-e)
moved N.Int b =
    cond-elim (Moved _ b) (is_digit b) (λ h. moved-go (int-digit h)) (λ _.
    cond_byte (Moved N.Int) b 0x2E (moved-go int-dot) (or-exp-moved N.Int b tt int-e))
moved N.Dot b = cond-elim (Moved _ b) (is_digit b) (λ h. moved-go (dot-digit h)) (λ _. moved-fault)
moved N.Frac b = cond-elim (Moved _ b) (is_digit b) (λ h. moved-go (frac-digit h)) (λ _. or-exp-moved N.Frac b tt frac-e)
moved N.E b =
    cond-elim (Moved _ b) (is_digit b) (λ h. moved-go (e-digit h)) (λ _.
    cond_byte (Moved N.E) b 0x2B (moved-go e-plus) (cond_byte (Moved N.E) b 0x2D (moved-go e-minus) moved-fault))
moved N.Sign b = cond-elim (Moved _ b) (is_digit b) (λ h. moved-go (sign-digit h)) (λ _. moved-fault)
moved N.Exp b = cond-elim (Moved _ b) (is_digit b) (λ h. moved-go (exp-digit h)) (λ _. moved-end tt)

-- a byte that no number goes on with
pub record Separates (b : ℕ) : Type 0 where
  pub no_digit : T (not (is_digit b))
  pub no-dot : T (not (eqb b 0x2E))
  pub no-e : T (not (is_e b))

end-after-zero : (b : ℕ) → Separates b → after_zero b ≡ NM.End
unfolding after_zero or_exp
end-after-zero b x = cond_no (λ m. m ≡ NM.End) (eqb b 0x2E) _ x.no-dot (cond_no (λ m. m ≡ NM.End) (is_e b) _ x.no-e refl)

-- a number that may end does so before a byte that no number goes on with
pub end-of-separates : (n : NumberMode) (b : ℕ) → T (may_end n) → Separates b → number_move n b ≡ NM.End
unfolding after_int after_frac after_exp or_exp
end-of-separates N.Minus b h x = absurd h
end-of-separates N.Zero b h x = end-after-zero b x
end-of-separates N.Int b h x = cond_no (λ m. m ≡ NM.End) (is_digit b) _ x.no_digit (end-after-zero b x)
end-of-separates N.Dot b h x = absurd h
end-of-separates N.Frac b h x = cond_no (λ m. m ≡ NM.End) (is_digit b) _ x.no_digit (cond_no (λ m. m ≡ NM.End) (is_e b) _ x.no-e refl)
end-of-separates N.E b h x = absurd h
end-of-separates N.Sign b h x = absurd h
end-of-separates N.Exp b h x = cond_no (λ m. m ≡ NM.End) (is_digit b) _ x.no_digit refl

-- ---- from the grammar

exp-from-digits : {s : List ℕ} → Digits s → NumberFrom N.Exp s
exp-from-digits no_digits = ends-here tt
exp-from-digits (digits h d) = goes_on (exp-digit h) (exp-from-digits d)

sign-from-digits : {s : List ℕ} → SomeDigits s → NumberFrom N.Sign s
sign-from-digits (some_digits h d) = goes_on (sign-digit h) (exp-from-digits d)

e-from-sign : {g s : List ℕ} → Sign g → SomeDigits s → NumberFrom N.E (g ++ s)
e-from-sign no_sign (some_digits h d) = goes_on (e-digit h) (exp-from-digits d)
e-from-sign plus_sign d = goes_on e-plus (sign-from-digits d)
e-from-sign minus_sign d = goes_on e-minus (sign-from-digits d)

zero-from-exp : {s : List ℕ} → Exp s → NumberFrom N.Zero s
zero-from-exp no_exp = ends-here tt
zero-from-exp (exp h g d) = goes_on (zero-e h) (e-from-sign g d)

frac-from-digits : {s e : List ℕ} → Digits s → Exp e → NumberFrom N.Frac (s ++ e)
frac-from-digits no_digits no_exp = ends-here tt
frac-from-digits no_digits (exp h g d) = goes_on (frac-e h) (e-from-sign g d)
frac-from-digits (digits h d) x = goes_on (frac-digit h) (frac-from-digits d x)

zero-from-frac : {f e : List ℕ} → Frac f → Exp e → NumberFrom N.Zero (f ++ e)
zero-from-frac no_frac x = zero-from-exp x
zero-from-frac (frac (some_digits h d)) x = goes_on zero-dot (goes_on (dot-digit h) (frac-from-digits d x))

int-from-zero : {s : List ℕ} → NumberFrom N.Zero s → NumberFrom N.Int s
int-from-zero (ends-here h) = ends-here tt
int-from-zero (goes_on zero-dot n) = goes_on int-dot n
int-from-zero (goes_on (zero-e h) n) = goes_on (int-e h) n

int-from-digits : {s f e : List ℕ} → Digits s → Frac f → Exp e → NumberFrom N.Int (s ++ (f ++ e))
int-from-digits no_digits f e = int-from-zero (zero-from-frac f e)
int-from-digits (digits h d) f e = goes_on (int-digit h) (int-from-digits d f e)

-- each number of the grammar is one by the modes
pub from-of-number : {s : List ℕ} → Number s → Begun s
from-of-number (number no_minus zero f e) = begun starts-zero (zero-from-frac f e)
from-of-number (number no_minus (int h d) f e) = begun (starts-int h) (int-from-digits d f e)
from-of-number (number minus zero f e) = begun starts-minus (goes_on minus-zero (zero-from-frac f e))
from-of-number (number minus (int h d) f e) = begun starts-minus (goes_on (minus-int h) (int-from-digits d f e))

-- ---- to the grammar

digits-of-exp : {s : List ℕ} → NumberFrom N.Exp s → Digits s
digits-of-exp (ends-here h) = no_digits
digits-of-exp (goes_on (exp-digit h) n) = digits h (digits-of-exp n)

digits-of-sign : {s : List ℕ} → NumberFrom N.Sign s → SomeDigits s
digits-of-sign (ends-here h) = absurd h
digits-of-sign (goes_on (sign-digit h) n) = some_digits h (digits-of-exp n)

exp-of-e : {b : ℕ} {s : List ℕ} → T (is_e b) → NumberFrom N.E s → Exp (b ∷ s)
exp-of-e h (ends-here g) = absurd g
exp-of-e h (goes_on (e-digit g) n) = exp h no_sign (some_digits g (digits-of-exp n))
exp-of-e h (goes_on e-plus n) = exp h plus_sign (digits-of-sign n)
exp-of-e h (goes_on e-minus n) = exp h minus_sign (digits-of-sign n)

-- digits, and the rest of a number after them
data DigitsExp : List ℕ → Type 0 where
  digits-exp : {d e : List ℕ} → Digits d → Exp e → DigitsExp (d ++ e)

data FracExp : List ℕ → Type 0 where
  frac-exp : {f e : List ℕ} → Frac f → Exp e → FracExp (f ++ e)

data DigitsFracExp : List ℕ → Type 0 where
  digits-frac-exp : {d s : List ℕ} → Digits d → FracExp s → DigitsFracExp (d ++ s)

more-digits-exp : {b : ℕ} {s : List ℕ} → T (is_digit b) → DigitsExp s → DigitsExp (b ∷ s)
more-digits-exp h (digits-exp d e) = digits-exp (digits h d) e

digits-exp-of-frac : {s : List ℕ} → NumberFrom N.Frac s → DigitsExp s
digits-exp-of-frac (ends-here h) = digits-exp no_digits no_exp
digits-exp-of-frac (goes_on (frac-digit h) n) = more-digits-exp h (digits-exp-of-frac n)
digits-exp-of-frac (goes_on (frac-e h) n) = digits-exp no_digits (exp-of-e h n)

frac-exp-of-digits : {b : ℕ} {s : List ℕ} → T (is_digit b) → DigitsExp s → FracExp (0x2E ∷ b ∷ s)
frac-exp-of-digits h (digits-exp d e) = frac-exp (frac (some_digits h d)) e

frac-exp-of-dot : {s : List ℕ} → NumberFrom N.Dot s → FracExp (0x2E ∷ s)
frac-exp-of-dot (ends-here h) = absurd h
frac-exp-of-dot (goes_on (dot-digit h) n) = frac-exp-of-digits h (digits-exp-of-frac n)

frac-exp-of-zero : {s : List ℕ} → NumberFrom N.Zero s → FracExp s
frac-exp-of-zero (ends-here h) = frac-exp no_frac no_exp
frac-exp-of-zero (goes_on zero-dot n) = frac-exp-of-dot n
frac-exp-of-zero (goes_on (zero-e h) n) = frac-exp no_frac (exp-of-e h n)

more-digits-frac-exp : {b : ℕ} {s : List ℕ} → T (is_digit b) → DigitsFracExp s → DigitsFracExp (b ∷ s)
more-digits-frac-exp h (digits-frac-exp d x) = digits-frac-exp (digits h d) x

digits-of-int : {s : List ℕ} → NumberFrom N.Int s → DigitsFracExp s
digits-of-int (ends-here h) = digits-frac-exp no_digits (frac-exp no_frac no_exp)
digits-of-int (goes_on (int-digit h) n) = more-digits-frac-exp h (digits-of-int n)
digits-of-int (goes_on int-dot n) = digits-frac-exp no_digits (frac-exp-of-dot n)
digits-of-int (goes_on (int-e h) n) = digits-frac-exp no_digits (frac-exp no_frac (exp-of-e h n))

number-of-zero : {m s : List ℕ} → Minus m → FracExp s → Number (m ++ (0x30 ∷ s))
number-of-zero x (frac-exp f e) = number x zero f e

number-of-int : (b : ℕ) {m s : List ℕ} → Minus m → T (is_digit_1_9 b) → DigitsFracExp s → Number (m ++ (b ∷ s))
number-of-int b x h (digits-frac-exp d (frac-exp f e)) = number x (int h d) f e

number-of-minus : {s : List ℕ} → NumberFrom N.Minus s → Number (0x2D ∷ s)
number-of-minus (ends-here h) = absurd h
number-of-minus (goes_on minus-zero n) = number-of-zero minus (frac-exp-of-zero n)
number-of-minus (goes_on (minus-int {b} h) n) = number-of-int b minus h (digits-of-int n)

-- each number by the modes is one of the grammar
pub number-of-from : {s : List ℕ} → Begun s → Number s
number-of-from (begun starts-minus n) = number-of-minus n
number-of-from (begun starts-zero n) = number-of-zero no_minus (frac-exp-of-zero n)
number-of-from (begun (starts-int {b} h) n) = number-of-int b no_minus h (digits-of-int n)

-- ---- every part can be completed

pub data Completed (n : NumberMode) : Type 0 where
  completed : (ds : List ℕ) → NumberFrom n ds → Completed n

pub complete-number : (n : NumberMode) → Completed n
unfolding is_digit within
complete-number N.Minus = completed (0x30 ∷ []) (goes_on minus-zero (ends-here tt))
complete-number N.Zero = completed [] (ends-here tt)
complete-number N.Int = completed [] (ends-here tt)
complete-number N.Dot = completed (0x30 ∷ []) (goes_on (dot-digit tt) (ends-here tt))
complete-number N.Frac = completed [] (ends-here tt)
complete-number N.E = completed (0x30 ∷ []) (goes_on (e-digit tt) (ends-here tt))
complete-number N.Sign = completed (0x30 ∷ []) (goes_on (sign-digit tt) (ends-here tt))
complete-number N.Exp = completed [] (ends-here tt)
