-- What is known of a number while its bytes are passed over: counted at once, and byte by byte. Assumes nothing.
use mathlib.Core.List.{List}
use mathlib.Core.Path.{◌≡◌, refl, ap, ◌∙◌}
use Prim.Native.Nat.{ℕ, suc, ◌+◌, ◌-◌, ◌≤◌}
use native.Mathlib.Omega.{arith}
use lib.ListN.{get_or}
use Rattle.json_text.specs.Bytes.{within}
use Rattle.json_text.specs.Numbers.{is_digit, is_digit_1_9, is_e}
use Rattle.json_text.specs.Lexer.{or_exp, after_minus, after_zero, after_int, after_frac, after_e, after_exp, digit_only, number_move}
use Rattle.json_text.specs.declared.number.NumberMode.{NumberMode}
use Rattle.json_text.specs.declared.number.NumberMode.TheVariants as N
use Rattle.json_text.specs.declared.number.NumberMove.TheVariants as NM
use Rattle.json_text.specs.declared.lexer.Mode.{Mode}
use Rattle.json_text.specs.declared.lexer.Mode.TheVariants as M
use Rattle.whole.specs.declared.Decimal.{Decimal}
use Rattle.whole.specs.Count.{bounded, counted_from}
use Rattle.whole.proofs.RunLaws.{counted-split}
use Rattle.progress.specs.Act.{number_to}
use Rattle.pass.specs.Pass.{number_over}

-- ---- counted at once

-- of no bytes a number is as it was
pub number-none : (m : Mode) (d : Decimal) (s : List ℕ) (i : ℕ) → number_over m d s i 0 ≡ d
unfolding counted_from
number-none (M.At p) d s i = refl
number-none (M.Key t) d s i = refl
number-none (M.Text t) d s i = refl
number-none (M.Number n) d s i = refl
number-none (M.Word w j) d s i = refl

-- one byte, and those after it
pub number_more : (m : Mode) (d : Decimal) (s : List ℕ) (i k : ℕ) → number_over m (number_over m d s i 1) s (i + 1) k ≡ number_over m d s i (suc k)
unfolding counted_from
number_more (M.At p) d s i k = refl
number_more (M.Key t) d s i k = refl
number_more (M.Text t) d s i k = refl
number_more (M.Number n) d s i k = refl
number_more (M.Word w j) d s i k = refl

-- some bytes, and those after them
pub number-on : (m : Mode) (d : Decimal) (s : List ℕ) (since i j : ℕ) → since ≤ i → i ≤ j
    → number_over m d s since (j - since) ≡ number_over m (number_over m d s since (i - since)) s i (j - i)
number-on (M.At p) d s since i j h l = refl
number-on (M.Key t) d s since i j h l = refl
number-on (M.Text t) d s since i j h l = refl
number-on (M.Number n) d s since i j h l =
    let z : j - since ≡ i - since + (j - i) = omega arith in
    let u : since + (i - since) ≡ i = omega arith in
    rw z (counted-split n (i - since) (j - i) d s since ∙ ap (λ (k : ℕ). counted_from bounded n (counted_from bounded n d s since (i - since)) s k (j - i)) u)
number-on (M.Word w k) d s since i j h l = refl

-- ---- byte by byte

-- no byte that goes on with a number is an RS
pub go-other : (n next : NumberMode) (b : ℕ) → number_move n b ≡ NM.Go next → b ≡ 0x1E → ⊥
unfolding is_digit is_digit_1_9 is_e within or_exp after_minus after_zero after_int after_frac after_e after_exp digit_only
go-other N.Minus next b e q = let z : ◌≡◌ {A = ℕ} 0 1 = cc in omega arith
go-other N.Zero next b e q = let z : ◌≡◌ {A = ℕ} 0 1 = cc in omega arith
go-other N.Int next b e q = let z : ◌≡◌ {A = ℕ} 0 1 = cc in omega arith
go-other N.Dot next b e q = let z : ◌≡◌ {A = ℕ} 0 1 = cc in omega arith
go-other N.Frac next b e q = let z : ◌≡◌ {A = ℕ} 0 1 = cc in omega arith
go-other N.E next b e q = let z : ◌≡◌ {A = ℕ} 0 1 = cc in omega arith
go-other N.Sign next b e q = let z : ◌≡◌ {A = ℕ} 0 1 = cc in omega arith
go-other N.Exp next b e q = let z : ◌≡◌ {A = ℕ} 0 1 = cc in omega arith

-- a byte that leads to a mode, counted with none after it
number-one : (m : Mode) (d : Decimal) (s : List ℕ) (i : ℕ) → number_over m d s i 1 ≡ number_to m d (get_or s i 0)
unfolding counted_from
number-one (M.At p) d s i = refl
number-one (M.Key t) d s i = refl
number-one (M.Text t) d s i = refl
number-one (M.Number n) d s i = refl
number-one (M.Word w j) d s i = refl

-- no byte is still to be counted
pub number_same : (m : Mode) (d : Decimal) (s : List ℕ) (i : ℕ) → number_over m d s i (i - i) ≡ d
number_same m d s i = let z : i - i ≡ 0 = omega arith in rw z (number-none m d s i)

-- the last byte is still to be counted
pub number-last : (m : Mode) (d : Decimal) (s : List ℕ) (i : ℕ) → number_over m d s i (i + 1 - i) ≡ number_to m d (get_or s i 0)
number-last m d s i = let z : i + 1 - i ≡ 1 = omega arith in rw z (number-one m d s i)
