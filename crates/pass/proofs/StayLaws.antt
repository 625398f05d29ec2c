-- Bytes that leave the mode as it is, one by one and passed over at once. Assumes nothing.
use Rattle.std.specs.Prelude.{None}
use mathlib.Core.Bool.{Bool, true, false, cond, ◌&&◌}
use mathlib.Core.List.{List}
use mathlib.Core.Path.{◌≡◌, refl, sym, ap, subst, ◌∙◌}
use Prim.Native.Nat.{ℕ, zero, suc, ◌+◌, ◌-◌, ◌<◌, ◌≤◌}
use native.Mathlib.Omega.{arith}
use lib.Dec.{T, eqb, ltb, eqb→eq}
use lib.ListN.{length, get_or, take, drop, length-drop}
use Rattle.std.proofs.lemmas.List.{length-take, get_or-take, get_or-drop}
use borrow.Author.Tests.{ne_eqb}
use Rattle.laws.specs.Tab.{every}
use Rattle.laws.proofs.TabLaws.{T-of-every}
use Rattle.laws.proofs.TestLaws.{T-and-left, T-and-right}
use Rattle.json_text.specs.Bytes.{within, is_blank}
use Rattle.json_text.specs.Numbers.{is_digit}
use Rattle.json_text.specs.Classes.{is_break, is_structure, high_class, class_of}
use Rattle.json_text.specs.Lexer.{char_start, lead_bits, after_int, after_frac, after_exp, step_to, stay, at_value, at_first_element, at_first_key, at_key, at_colon, after_root, after_element, after_pair, place_step, text_step, step_of, number_move, number_step}
use Rattle.json_text.specs.declared.class.Class.{Class}
use Rattle.json_text.specs.declared.class.Class.TheVariants as C
use Rattle.json_text.specs.declared.string.StringMode.{StringMode}
use Rattle.json_text.specs.declared.string.StringMode.TheVariants as S
use Rattle.json_text.specs.declared.string.StringMove.TheVariants as SM
use Rattle.json_text.specs.declared.number.NumberMode.{NumberMode}
use Rattle.json_text.specs.declared.number.NumberMode.TheVariants as N
use Rattle.json_text.specs.declared.number.NumberMove.{NumberMove}
use Rattle.json_text.specs.declared.number.NumberMove.TheVariants as NM
use Rattle.json_text.specs.declared.lexer.Awaited.{Awaited}
use Rattle.json_text.specs.declared.lexer.Awaited.TheVariants as P
use Rattle.json_text.specs.declared.lexer.Top.{Top}
use Rattle.json_text.specs.declared.lexer.Top.TheVariants as Is
use Rattle.json_text.specs.declared.lexer.Mode.{Mode}
use Rattle.json_text.specs.declared.lexer.Mode.TheVariants as M
use Rattle.json_text.specs.declared.lexer.Act.{Act}
use Rattle.json_text.specs.declared.lexer.Act.TheVariants as A
use Rattle.whole.specs.declared.Decimal.{Decimal}
use Rattle.whole.specs.Count.{counted_from}
use Rattle.table.specs.Table.{Table}
use Rattle.progress.specs.declared.Progress.{Progress}
use Rattle.progress.specs.Act.{number_before, number_to}
use Rattle.laws.specs.Count.{bump}
use Rattle.progress.specs.Progress.{bits_in, high_in}
use Rattle.progress.specs.Memory.{mem, top_at, run_mem}
use Rattle.pass.specs.Pass.{plain_class, awaits_char, in_digits, stays_in, StaysFor, StayedTo, number_over, registers, is_quiet, passes, placed}
use Rattle.pass.proofs.ByteLaws.{bump-below, never, next-run, quiet_step}
use Rattle.pass.proofs.NumberLaws.{number_more}

-- ---- bytes that leave the mode as it is

-- what a byte does that leaves the mode as it is
record StaysAs (m : Mode) (top : Top) (b : ℕ) : Type 0 where
  pub act : Act
  pub step : step_of m top b ≡ step_to m act
  quiet : is_quiet act ≡ true
  other : b ≡ 0x1E → ⊥
  pub bits : (bits : ℕ) → bits_in m bits b ≡ bits_in m bits 0x20
  again : (bits : ℕ) → bits_in m (bits_in m bits 0x20) 0x20 ≡ bits_in m bits 0x20
  pub high : (bits high : ℕ) → high_in m bits high b ≡ high
  number : (d : Decimal) (s : List ℕ) (i : ℕ) → get_or s i 0 ≡ b → number_over m d s i 1 ≡ number_to m (number_before m m d) b

blank_step : (p : Awaited) (top : Top) (b : ℕ) → is_blank b ≡ true → place_step p top b ≡ stay p
unfolding at_value at_first_element at_first_key at_key at_colon after_root after_element after_pair
blank_step P.Value top b e = rw e
blank_step P.First Is.Bare b e = rw e
blank_step P.First Is.Array b e = rw e
blank_step P.First Is.Object b e = rw e
blank_step P.Key top b e = rw e
blank_step P.Colon top b e = rw e
blank_step P.After Is.Bare b e = rw e
blank_step P.After Is.Array b e = rw e
blank_step P.After Is.Object b e = rw e

blank-other : (b : ℕ) → is_blank b ≡ true → b ≡ 0x1E → ⊥
unfolding is_blank
blank-other b e q = never (ap is_blank (sym q) ∙ e)

digit-other : (b : ℕ) → is_digit b ≡ true → b ≡ 0x1E → ⊥
unfolding is_digit within
digit-other b e q = never (ap is_digit (sym q) ∙ e)

pub plain_other : (b : ℕ) → plain_class (class_of b) ≡ true → b ≡ 0x1E → ⊥
unfolding class_of is_break
plain_other b e q = never (ap (λ (c : ℕ). plain_class (class_of c)) (sym q) ∙ e)

-- a plain character begins no UTF-8 sequence, and is below 128: tested over all bytes
small_if_plain : ℕ → Bool
small_if_plain b = cond (plain_class (class_of b)) (eqb (lead_bits b) 0 && ltb b 128) true

small_all : T (every small_if_plain 0 256)
unfolding small_if_plain class_of is_break is_structure within high_class lead_bits
small_all = tt

plain-small : (b : ℕ) → b < 256 → plain_class (class_of b) ≡ true → T (eqb (lead_bits b) 0 && ltb b 128)
unfolding small_if_plain
plain-small b h e = rw e at (T-of-every small_if_plain 256 small_all b h)

pub plain-lead : (b : ℕ) → b < 256 → plain_class (class_of b) ≡ true → lead_bits b ≡ 0
plain-lead b h e = eqb→eq (lead_bits b) 0 (T-and-left (eqb (lead_bits b) 0) (ltb b 128) (plain-small b h e))

true-of-T : (v : Bool) → T v → v ≡ true
true-of-T true t = refl
true-of-T false t = absurd t

pub plain-below : (b : ℕ) → b < 256 → plain_class (class_of b) ≡ true → ltb b 128 ≡ true
plain-below b h e = true-of-T (ltb b 128) (T-and-right (eqb (lead_bits b) 0) (ltb b 128) (plain-small b h e))

pub plain-char : (k : Class) → plain_class k ≡ true → char_start k ≡ SM.Char
plain-char C.Control e = never e
plain-char C.Break e = never e
plain-char C.Space e = refl
plain-char C.Quote e = never e
plain-char C.Backslash e = never e
plain-char C.Structure e = refl
plain-char C.Digit e = refl
plain-char C.Other e = refl
plain-char C.Tail e = never e
plain-char C.LeadC2 e = never e
plain-char C.LeadE0 e = never e
plain-char C.LeadE1 e = never e
plain-char C.LeadED e = never e
plain-char C.LeadEE e = never e
plain-char C.LeadF0 e = never e
plain-char C.LeadF1 e = never e
plain-char C.LeadF4 e = never e
plain-char C.Never e = never e

-- a string's mode that awaits a character
pub char-awaited : (s : StringMode) → awaits_char s ≡ true → s ≡ S.Char
char-awaited S.Char e = refl
char-awaited S.Escape e = never e
char-awaited S.Unit1 e = never e
char-awaited S.Unit2 e = never e
char-awaited S.UnitD e = never e
char-awaited S.Unit3 e = never e
char-awaited S.Unit4 e = never e
char-awaited S.High3 e = never e
char-awaited S.High4 e = never e
char-awaited S.LowBackslash e = never e
char-awaited S.LowU e = never e
char-awaited S.Low1 e = never e
char-awaited S.Low2 e = never e
char-awaited S.Low3 e = never e
char-awaited S.Low4 e = never e
char-awaited S.SecondC2 e = never e
char-awaited S.SecondE0 e = never e
char-awaited S.SecondE1 e = never e
char-awaited S.SecondED e = never e
char-awaited S.SecondEE e = never e
char-awaited S.SecondF0 e = never e
char-awaited S.SecondF1 e = never e
char-awaited S.SecondF4 e = never e
char-awaited S.Tail2 e = never e
char-awaited S.Tail1 e = never e

-- two tests of which the first chooses the second
pub both-true : (u v : Bool) → cond u v false ≡ true → (u ≡ true) × (v ≡ true)
both-true true v e = (refl, e)
both-true false v e = never e

char-stays : (top : Top) (b : ℕ) → b < 256 → plain_class (class_of b) ≡ true → StaysAs (M.Text S.Char) top b
unfolding lead_bits
char-stays top b h e =
    record {
      act = A.TextChar;
      step = ap text_step (plain-char (class_of b) e);
      quiet = refl;
      other = plain_other b e;
      bits = λ c. plain-lead b h e;
      again = λ c. refl;
      high = λ c g. refl;
      number = λ d s i q. refl;
    }

text-stays : (s : StringMode) (top : Top) (b : ℕ) → b < 256 → cond (awaits_char s) (plain_class (class_of b)) false ≡ true → StaysAs (M.Text s) top b
text-stays s top b h e =
    let told = both-true (awaits_char s) (plain_class (class_of b)) e in
    let P : StringMode → Type 0 = λ k. StaysAs (M.Text k) top b in
    subst P (sym (char-awaited s told.0)) (char-stays top b h told.1)

-- a digit after which the mode of a number is the same
digit-stays : (n : NumberMode) (top : Top) (b : ℕ) → is_digit b ≡ true → number_move n b ≡ NM.Go n → StaysAs (M.Number n) top b
unfolding counted_from
digit-stays n top b e q =
    record {
      act = A.NumberByte;
      step = ap (λ (k : NumberMove). number_step k top b) q;
      quiet = refl;
      other = digit-other b e;
      bits = λ c. refl;
      again = λ c. refl;
      high = λ c g. refl;
      number = λ d s i z. rw z;
    }

number-stays : (n : NumberMode) (top : Top) (b : ℕ) → cond (in_digits n) (is_digit b) false ≡ true → StaysAs (M.Number n) top b
unfolding after_int after_frac after_exp
number-stays N.Minus top b e = never e
number-stays N.Zero top b e = never e
number-stays N.Int top b e = digit-stays N.Int top b e (rw e)
number-stays N.Dot top b e = never e
number-stays N.Frac top b e = digit-stays N.Frac top b e (rw e)
number-stays N.E top b e = never e
number-stays N.Sign top b e = never e
number-stays N.Exp top b e = digit-stays N.Exp top b e (rw e)

stays-as : (m : Mode) (top : Top) (b : ℕ) → b < 256 → stays_in m b ≡ true → StaysAs m top b
stays-as (M.At p) top b h e =
    record {
      act = A.Pass;
      step = blank_step p top b e;
      quiet = refl;
      other = blank-other b e;
      bits = λ c. refl;
      again = λ c. refl;
      high = λ c g. refl;
      number = λ d s i q. refl;
    }
stays-as (M.Key s) top b h e = never e
stays-as (M.Text s) top b h e = text-stays s top b h e
stays-as (M.Number n) top b h e = number-stays n top b e
stays-as (M.Word w i) top b h e = never e

passes-quietly : (a : Act) (b : ℕ) → is_quiet a ≡ true → (b ≡ 0x1E → ⊥) → passes a false b ≡ true
unfolding passes
passes-quietly a b q r = rw (ne_eqb b 0x1E r, q)

module _ (t : Table) (n : ℕ) (x : Progress) (m : Mode) (high : ℕ) (len : ℕ) (root : Bool) (key w s : List ℕ) (h : x.head ≡ false) (f : x.fault ≡ None) where
  stay-one : (bits : ℕ) (d : Decimal) (p i : ℕ) → i < length s → p < 16777216 → get_or s i 0 < 256
      → stays_in m (get_or s i 0) ≡ true
      → run_mem t n (mem (placed x m (registers (bits_in m bits 0x20) high (number_over m d s i 1)) (p + 1) len) root key w) (i + 1) (drop (i + 1) s)
      ≡ run_mem t n (mem (placed x m (registers bits high d) p len) root key w) i (drop i s)
  stay-one bits d p i l q c e =
      let b = get_or s i 0 in
      let a = stays-as m (top_at w x.level) b c e in
      let y = placed x m (registers bits high d) p len in
      let z = placed x m (registers (bits_in m bits 0x20) high (number_over m d s i 1)) (p + 1) len in
      next-run t n (mem y root key w) (mem z root key w) s i l a.other
      (rw (← a.bits bits, ← bump-below p q, a.number d s i refl)
      (ap (λ (g : ℕ). mem (placed x m (registers (bits_in m bits b) g (number_to m (number_before m m d) b)) (bump p) len) root key w) (sym (a.high bits high))
      ∙ quiet_step t n y root key w b h f q (step_to m a.act) (sym a.step) (passes-quietly a.act b a.quiet a.other)))

  pub stay-some : (k bits : ℕ) (d : Decimal) (p i : ℕ) → i + suc k ≤ length s → p + suc k ≤ 16777216
      → ((j : ℕ) → i ≤ j → j < i + suc k → (get_or s j 0 < 256) × (stays_in m (get_or s j 0) ≡ true))
      → run_mem t n (mem (placed x m (registers (bits_in m bits 0x20) high (number_over m d s i (suc k))) (p + suc k) len) root key w) (i + suc k)
      (drop (i + suc k) s)
      ≡ run_mem t n (mem (placed x m (registers bits high d) p len) root key w) i (drop i s)
  stay-some zero bits d p i l q g =
      let u : p + 1 ≡ p + suc zero = omega arith in
      let v : i + 1 ≡ i + suc zero = omega arith in
      let c = g i (omega arith) (omega arith) in
      rw (← u, ← v) (stay-one bits d p i (omega arith) (omega arith) c.0 c.1)
  stay-some (suc k) bits d p i l q g =
      let u : p + suc (suc k) ≡ p + 1 + suc k = omega arith in
      let v : i + suc (suc k) ≡ i + 1 + suc k = omega arith in
      let c = g i (omega arith) (omega arith) in
      let a = stays-as m (top_at w x.level) (get_or s i 0) c.0 c.1 in
      rw (u, v, ← a.again bits, ← number_more m d s i (suc k))
      (stay-some k (bits_in m bits 0x20) (number_over m d s i 1) (p + 1) (i + 1) (omega arith) (omega arith) (λ j y z. g j (omega arith) (omega arith))
      ∙ stay-one bits d p i (omega arith) (omega arith) c.0 c.1)

-- ---- the bytes of a part of the piece

-- those that leave the mode as it is, counted from place i on
pub stayed-part : (m : Mode) (s : List ℕ) (i end k : ℕ) → i ≤ end → end ≤ length s → StaysFor m (take (end - i) (drop i s)) k → StayedTo m s i end (i + k)
stayed-part m s i end k l h g = record {
  low = omega arith;
  high = omega (arith, g.bound, size);
  stays = at;
}
  where
    size : length (take (end - i) (drop i s)) ≡ end - i
    size = simp (length-take, length-drop) (omega arith)

    at : (j : ℕ) → i ≤ j → j < i + k → (get_or s j 0 < 256) × (stays_in m (get_or s j 0) ≡ true)
    at j a b =
        let z : i + (j - i) ≡ j = omega arith in
        let less : j - i < end - i = omega (arith, g.bound, size) in
        let P : ℕ → Type 0 = λ n. (n < 256) × (stays_in m n ≡ true) in
        subst P (get_or-take (end - i) (drop i s) (j - i) 0 less ∙ get_or-drop i s (j - i) 0 ∙ ap (λ (n : ℕ). get_or s n 0) z) (g.stays (j - i) (omega arith))
