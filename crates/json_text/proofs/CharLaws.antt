-- Strings by the lexer's modes are the grammar's strings: `continues-of-chars`, `chars-of-continues`. The two registers give the character
-- numbers of the RFCs. Assumes nothing.
use mathlib.Core.Bool.{Bool, true, false, not}
use mathlib.Core.List.{List, [], ◌∷◌}
use mathlib.Core.Path.{◌≡◌, refl, sym, ap, subst}
use Prim.Native.Nat.{ℕ, ◌+◌, ◌-◌, ◌*◌, ◌%◌, ◌≤◌, ◌<◌}
use native.Mathlib.Nat.{lt_of_not-le}
use native.Mathlib.Omega.{arith}
use lib.Dec.{T, eqb, T_not}
use borrow.Author.Tests.{lt-ltb, le-ltb, eqb-true, eqb-false}
use Rattle.std.specs.Prelude.{Some}
use Rattle.std.specs.Option.{unwrap_or}
use Rattle.json_text.specs.Bytes.{within}
use Rattle.json_text.specs.Utf8.{is_tail, six_more, Utf8, row_c2_df, row_e0, row_e1_ec, row_ed, row_ee_ef, row_f0, row_f1_f3, row_f4}
use Rattle.json_text.specs.Strings.{Escaped, quotation_mark, reverse_solidus, solidus, backspace, form_feed, line_feed, carriage_return, tab, Hex, hex_more, code_unit, paired, Char, unescaped, multibyte, escaped, unit, surrogates, Chars, closing_quote, chars}
use Rattle.json_text.specs.Lexer.{unescape, escaped_char, hex_of, lead_bits, tail_bits, hex_bits, pair_of, bits_after, high_after, char_of}
use Rattle.json_text.specs.declared.string.StringMode.{StringMode}
use Rattle.json_text.specs.declared.string.StringMode.TheVariants as S
use Rattle.json_text.proofs.ByteLaws.{low-of-within, high-of-within, within-of-le, outside-of-not-within}
use Rattle.json_text.proofs.StringLaws.{value-of-hex, lt-of-hex, Goes, backslash, lead-C2, lead-E0, lead-E1, lead-ED, lead-EE, lead-F0}
use Rattle.json_text.proofs.StringLaws.{lead-F1, lead-F4, second-E0, second-E1, second-ED, second-EE, second-F0, second-F1, second-F4, tail-2}
use Rattle.json_text.proofs.StringLaws.{letter-u, digit-1, digit-1_d}
use Rattle.json_text.proofs.StringLaws.{digit-2, digit-2-below, digit-2-high, digit-3, high-3, high-4, low-backslash, low-u, low-1, low-2, low-3}
use Rattle.json_text.proofs.StringLaws.{Ends, plain, after-backslash, digit-4, low-4, second-C2, tail-1}

-- the bytes, from a mode with its registers on, are the rest of a string with these characters, up to and with its closing quotation mark
pub data Continues : StringMode → ℕ → ℕ → List ℕ → List ℕ → List ℕ → Type 0 where
  closes : {x h : ℕ} {r : List ℕ} → Continues S.Char x h (0x22 ∷ r) [] r
  goes : {m n : StringMode} {x h b : ℕ} {s cs r : List ℕ} → Goes m b n → Continues n (bits_after m x b) (high_after m x h b) s cs r
      → Continues m x h (b ∷ s) cs r
  ends : {m : StringMode} {x h b : ℕ} {s cs r : List ℕ} → Ends m b → Continues S.Char (bits_after m x b) (high_after m x h b) s cs r
      → Continues m x h (b ∷ s) (char_of m x h b ∷ cs) r

-- ---- the registers

six-of-tail : (x b : ℕ) → x < 0x8000 → T (is_tail b) → tail_bits x b ≡ six_more x b
unfolding tail_bits six_more
six-of-tail x b h t =
    let lo = low-of-within 0x80 0xBF b t in
    let hi = high-of-within 0x80 0xBF b t in
    let e : x % 0x8000 ≡ x = omega arith in
    let f : b % 64 ≡ b - 0x80 = omega arith in
    simp (e, f)

tail-of-within : (lo hi b : ℕ) → 0x80 ≤ lo → hi ≤ 0xBF → T (within lo hi b) → T (is_tail b)
tail-of-within lo hi b p q h = within-of-le 0x80 0xBF b (omega (arith, low-of-within lo hi b h)) (omega (arith, high-of-within lo hi b h))

six-lt : (x b n : ℕ) → x < n → T (is_tail b) → six_more x b < n * 64
unfolding six_more
six-lt x b n h t = let hi = high-of-within 0x80 0xBF b t in omega arith

-- two bytes, and three, after the bits of a first byte
two_bytes : (x b c : ℕ) → x < 0x200 → T (is_tail b) → T (is_tail c) → tail_bits (tail_bits x b) c ≡ six_more (six_more x b) c
two_bytes x b c h s t = rw (six-of-tail x b (omega arith) s) (six-of-tail (six_more x b) c (omega (arith, six-lt x b 0x200 h s)) t)

three-bytes : (x b c d : ℕ) → x < 8 → T (is_tail b) → T (is_tail c) → T (is_tail d)
    → tail_bits (tail_bits (tail_bits x b) c) d ≡ six_more (six_more (six_more x b) c) d
three-bytes x b c d h s t u =
    rw (two_bytes x b c (omega arith) s t)
    (six-of-tail (six_more (six_more x b) c) d (omega (arith, six-lt (six_more x b) c 0x200 (omega (arith, six-lt x b 8 h s)) t)) u)

bits-C2 : (a : ℕ) → T (within 0xC2 0xDF a) → lead_bits a ≡ a - 0xC0
unfolding lead_bits
bits-C2 a h =
    let lo = low-of-within 0xC2 0xDF a h in
    let hi = high-of-within 0xC2 0xDF a h in
    simp (le-ltb a 0xC0 (omega arith), lt-ltb a 0xE0 (omega arith))

bits-E : (a : ℕ) → 0xE0 ≤ a → a ≤ 0xEF → lead_bits a ≡ a - 0xE0
unfolding lead_bits
bits-E a lo hi = simp (le-ltb a 0xC0 (omega arith), le-ltb a 0xE0 lo, lt-ltb a 0xF0 (omega arith))

bits-F : (a : ℕ) → 0xF0 ≤ a → lead_bits a ≡ a - 0xF0
unfolding lead_bits
bits-F a lo = simp (le-ltb a 0xC0 (omega arith), le-ltb a 0xE0 (omega arith), le-ltb a 0xF0 lo)

-- the number of a code unit
unit-number : {a b c d w x y z : ℕ} → Hex a w → Hex b x → Hex c y → Hex d z
    → hex_bits (hex_bits (hex_bits (unwrap_or (hex_of a) 16) (hex_of b)) (hex_of c)) (hex_of d) ≡ hex_more (hex_more (hex_more w x) y) z
unfolding hex_more
unit-number p q u v =
    let hw = lt-of-hex p in let hx = lt-of-hex q in let hy = lt-of-hex u in let hz = lt-of-hex v in
    rw (value-of-hex p, value-of-hex q, value-of-hex u, value-of-hex v) (omega arith)

module _ {a b c d w x y z : ℕ} (p : Hex a w) (q : Hex b x) (u : Hex c y) (v : Hex d z) where
  unit-sum : hex_more (hex_more (hex_more w x) y) z ≡ w * 0x1000 + x * 0x100 + y * 16 + z
  unit-sum = unfold hex_more in omega arith

  -- whether a code unit is a surrogate is settled by its first two digits
  no_surrogate : (w ≡ 13 → ⊥) → T (not (within 0xD800 0xDFFF (hex_more (hex_more (hex_more w x) y) z)))
  no_surrogate n =
      let hw = lt-of-hex p in let hx = lt-of-hex q in let hy = lt-of-hex u in let hz = lt-of-hex v in
      rw unit-sum (outside-of-not-within 0xD800 0xDFFF _ (λ l h. n (omega arith)))

  no-surrogate-below : w ≡ 13 → x < 8 → T (not (within 0xD800 0xDFFF (hex_more (hex_more (hex_more w x) y) z)))
  no-surrogate-below e h =
      let hy = lt-of-hex u in let hz = lt-of-hex v in
      rw unit-sum (outside-of-not-within 0xD800 0xDFFF _ (λ l g. omega arith))

  high-surrogate : w ≡ 13 → 8 ≤ x → x < 12 → T (within 0xD800 0xDBFF (hex_more (hex_more (hex_more w x) y) z))
  high-surrogate e l h =
      let hy = lt-of-hex u in let hz = lt-of-hex v in
      rw unit-sum (within-of-le 0xD800 0xDBFF _ (omega arith) (omega arith))

  low-surrogate : w ≡ 13 → 12 ≤ x → T (within 0xDC00 0xDFFF (hex_more (hex_more (hex_more w x) y) z))
  low-surrogate e l =
      let hx = lt-of-hex q in let hy = lt-of-hex u in let hz = lt-of-hex v in
      rw unit-sum (within-of-le 0xDC00 0xDFFF _ (omega arith) (omega arith))

  -- the first two digits of a code unit: after a D one below 8 where it is no surrogate; D and 8 to B of a high one, D and C to F of a low one
  below-of-no-surrogate : w ≡ 13 → T (not (within 0xD800 0xDFFF (hex_more (hex_more (hex_more w x) y) z))) → (8 ≤ x → ⊥)
  below-of-no-surrogate e n l =
      let hx = lt-of-hex q in let hy = lt-of-hex u in let hz = lt-of-hex v in
      T_not (within 0xD800 0xDFFF (w * 0x1000 + x * 0x100 + y * 16 + z)) (rw unit-sum at n) (within-of-le 0xD800 0xDFFF _ (omega arith) (omega arith))

  second-of-high : T (within 0xD800 0xDBFF (hex_more (hex_more (hex_more w x) y) z)) → (w ≡ 13) × (8 ≤ x) × (x < 12)
  second-of-high h =
      let hx = lt-of-hex q in let hy = lt-of-hex u in let hz = lt-of-hex v in
      let lo = low-of-within 0xD800 0xDBFF _ (rw unit-sum at h) in
      let hi = high-of-within 0xD800 0xDBFF _ (rw unit-sum at h) in
      (omega arith, omega arith, omega arith)

  second-of-low : T (within 0xDC00 0xDFFF (hex_more (hex_more (hex_more w x) y) z)) → (w ≡ 13) × (12 ≤ x)
  second-of-low h =
      let hx = lt-of-hex q in let hy = lt-of-hex u in let hz = lt-of-hex v in
      let lo = low-of-within 0xDC00 0xDFFF _ (rw unit-sum at h) in
      let hi = high-of-within 0xDC00 0xDFFF _ (rw unit-sum at h) in
      (omega arith, omega arith)

-- the character of a surrogate pair
pair-number : (u v : ℕ) → T (within 0xD800 0xDBFF u) → T (within 0xDC00 0xDFFF v) → pair_of u v ≡ paired u v
unfolding pair_of paired
pair-number u v h g =
    let a = low-of-within 0xD800 0xDBFF u h in
    let b = high-of-within 0xD800 0xDBFF u h in
    let c = low-of-within 0xDC00 0xDFFF v g in
    let d = high-of-within 0xDC00 0xDFFF v g in
    let e : u % 0x400 ≡ u - 0xD800 = omega arith in
    let f : v % 0x400 ≡ v - 0xDC00 = omega arith in
    simp (e, f)

-- ---- from the grammar

value-of-escaped : {b c : ℕ} → Escaped b c → unescape b ≡ Some c
unfolding unescape
value-of-escaped quotation_mark = refl
value-of-escaped reverse_solidus = refl
value-of-escaped solidus = refl
value-of-escaped backspace = refl
value-of-escaped form_feed = refl
value-of-escaped line_feed = refl
value-of-escaped carriage_return = refl
value-of-escaped tab = refl

module _ {t cs r : List ℕ} (K : (x h : ℕ) → Continues S.Char x h t cs r) where
  utf8-continues : {s : List ℕ} {c : ℕ} → Utf8 s c t → (x h : ℕ) → Continues S.Char x h s (c ∷ cs) r
  utf8-continues (row_c2_df {a} {b} p q) x h =
      let e = high-of-within 0xC2 0xDF a p in
      rw (← six-of-tail (a - 0xC0) b (omega arith) q) (rw (← bits-C2 a p) (goes (lead-C2 p) (ends (second-C2 q) (K _ _))))
  utf8-continues (row_e0 {b} {c} p q) x h =
      rw (← two_bytes 0 b c (omega arith) (tail-of-within 0xA0 0xBF b (omega arith) (omega arith) p) q)
      (rw (← bits-E 0xE0 (omega arith) (omega arith)) (goes lead-E0 (goes (second-E0 p) (ends (tail-1 q) (K _ _)))))
  utf8-continues (row_e1_ec {a} {b} {c} p q u) x h =
      let l = low-of-within 0xE1 0xEC a p in
      let g = high-of-within 0xE1 0xEC a p in
      rw (← two_bytes (a - 0xE0) b c (omega arith) q u)
      (rw (← bits-E a (omega arith) (omega arith)) (goes (lead-E1 p) (goes (second-E1 q) (ends (tail-1 u) (K _ _)))))
  utf8-continues (row_ed {b} {c} p q) x h =
      rw (← two_bytes 0xD b c (omega arith) (tail-of-within 0x80 0x9F b (omega arith) (omega arith) p) q)
      (rw (← bits-E 0xED (omega arith) (omega arith)) (goes lead-ED (goes (second-ED p) (ends (tail-1 q) (K _ _)))))
  utf8-continues (row_ee_ef {a} {b} {c} p q u) x h =
      let l = low-of-within 0xEE 0xEF a p in
      let g = high-of-within 0xEE 0xEF a p in
      rw (← two_bytes (a - 0xE0) b c (omega arith) q u)
      (rw (← bits-E a (omega arith) (omega arith)) (goes (lead-EE p) (goes (second-EE q) (ends (tail-1 u) (K _ _)))))
  utf8-continues (row_f0 {b} {c} {d} p q u) x h =
      rw (← three-bytes 0 b c d (omega arith) (tail-of-within 0x90 0xBF b (omega arith) (omega arith) p) q u)
      (rw (← bits-F 0xF0 (omega arith)) (goes lead-F0 (goes (second-F0 p) (goes (tail-2 q) (ends (tail-1 u) (K _ _))))))
  utf8-continues (row_f1_f3 {a} {b} {c} {d} p q u v) x h =
      let l = low-of-within 0xF1 0xF3 a p in
      let g = high-of-within 0xF1 0xF3 a p in
      rw (← three-bytes (a - 0xF0) b c d (omega arith) q u v)
      (rw (← bits-F a (omega arith)) (goes (lead-F1 p) (goes (second-F1 q) (goes (tail-2 u) (ends (tail-1 v) (K _ _))))))
  utf8-continues (row_f4 {b} {c} {d} p q u) x h =
      rw (← three-bytes 4 b c d (omega arith) (tail-of-within 0x80 0x8F b (omega arith) (omega arith) p) q u)
      (rw (← bits-F 0xF4 (omega arith)) (goes lead-F4 (goes (second-F4 p) (goes (tail-2 q) (ends (tail-1 u) (K _ _))))))

  -- four digits of a code unit that is no surrogate
  unit-continues : {a b c d w x y z : ℕ} → Hex a w → Hex b x → Hex c y → Hex d z
      → T (not (within 0xD800 0xDFFF (hex_more (hex_more (hex_more w x) y) z))) → (i h : ℕ)
      → Continues S.Unit1 i h (a ∷ b ∷ c ∷ d ∷ t) (hex_more (hex_more (hex_more w x) y) z ∷ cs) r
  unit-continues {a} {b} {c} {d} {w} {x} {y} {z} p q u v n i h = rw (← unit-number p q u v) (go (eqb w 13) refl)
    where
      go : (k : Bool) → eqb w 13 ≡ k
          → Continues S.Unit1 i h (a ∷ b ∷ c ∷ d ∷ t) (hex_bits (hex_bits (hex_bits (unwrap_or (hex_of a) 16) (hex_of b)) (hex_of c)) (hex_of d) ∷ cs) r
      go true e =
          let f = eqb-true w 13 e in
          goes (digit-1_d (subst (Hex a) f p)) (goes (digit-2-below q (lt_of_not-le (below-of-no-surrogate p q u v f n))) (goes (digit-3 u) (ends (digit-4 v) (K _ _))))
      go false e = goes (digit-1 p (eqb-false w 13 e)) (goes (digit-2 q) (goes (digit-3 u) (ends (digit-4 v) (K _ _))))

  char-continues : {s : List ℕ} {c : ℕ} → Char s c t → (x h : ℕ) → Continues S.Char x h s (c ∷ cs) r
  char-continues (unescaped p) x h = ends (plain p) (K _ _)
  char-continues (multibyte u) x h = utf8-continues u x h
  char-continues (escaped {b} {c} p) x h = goes backslash (escaped-ends (value-of-escaped p))
    where
      escaped-ends : {i g : ℕ} → unescape b ≡ Some c → Continues S.Escape i g (b ∷ t) (c ∷ cs) r
      escaped-ends {i} {g} e = subst (λ (o : ℕ). Continues S.Escape i g (b ∷ t) (o ∷ cs) r) (ap escaped_char e) (ends (after-backslash p) (K _ _))
  char-continues (unit (code_unit p q u v) n) x h = goes backslash (goes letter-u (unit-continues p q u v n _ _))
  char-continues (surrogates (code_unit p q u v) (code_unit p' q' u' v') m n) x h =
      let H = second-of-high p q u v m in
      let L = second-of-low p' q' u' v' n in
      rw (← pair-number _ _ m n, ← unit-number p q u v, ← unit-number p' q' u' v')
      (goes backslash (goes letter-u
      (goes (digit-1_d (subst (Hex _) H.0 p)) (goes (digit-2-high q H.1 H.2) (goes (high-3 u) (goes (high-4 v)
      (goes low-backslash (goes low-u (goes (low-1 (subst (Hex _) L.0 p')) (goes (low-2 q' L.1) (goes (low-3 u') (ends (low-4 v') (K _ _)))))))))))))

-- each string of the grammar is one by the modes, whatever the registers hold
pub continues-of-chars : {s cs r : List ℕ} → Chars s cs r → (x h : ℕ) → Continues S.Char x h s cs r
continues-of-chars closing_quote x h = closes
continues-of-chars (chars c k) x h = char-continues (λ y g. continues-of-chars k y g) c x h

-- ---- to the grammar

utf8-chars : {s t cs r : List ℕ} {c d : ℕ} → Utf8 s c t → d ≡ c → Chars t cs r → Chars s (d ∷ cs) r
utf8-chars u e k = rw e (chars (multibyte u) k)

unit-chars : {a b c d w x y z : ℕ} {t cs r : List ℕ} → Hex a w → Hex b x → Hex c y → Hex d z
    → T (not (within 0xD800 0xDFFF (hex_more (hex_more (hex_more w x) y) z))) → Chars t cs r
    → Chars (0x5C ∷ 0x75 ∷ a ∷ b ∷ c ∷ d ∷ t) (hex_bits (hex_bits (hex_bits (unwrap_or (hex_of a) 16) (hex_of b)) (hex_of c)) (hex_of d) ∷ cs) r
unit-chars p q u v n k = rw (unit-number p q u v) (chars (unit (code_unit p q u v) n) k)

pair-chars : {a b c d e f g i x y z m k l : ℕ} {t cs r : List ℕ} → Hex a 13 → Hex b x → 8 ≤ x → x < 12 → Hex c y → Hex d z
    → Hex e 13 → Hex f m → 12 ≤ m → Hex g k → Hex i l → Chars t cs r
    → Chars (0x5C ∷ 0x75 ∷ a ∷ b ∷ c ∷ d ∷ 0x5C ∷ 0x75 ∷ e ∷ f ∷ g ∷ i ∷ t)
    (pair_of (hex_bits (hex_bits (hex_bits (unwrap_or (hex_of a) 16) (hex_of b)) (hex_of c)) (hex_of d))
    (hex_bits (hex_bits (hex_bits (unwrap_or (hex_of e) 16) (hex_of f)) (hex_of g)) (hex_of i)) ∷ cs) r
pair-chars p q l h u v p' q' l' u' v' k =
    let H = high-surrogate p q u v refl l h in
    let L = low-surrogate p' q' u' v' refl l' in
    rw (unit-number p q u v, unit-number p' q' u' v', pair-number _ _ H L) (chars (surrogates (code_unit p q u v) (code_unit p' q' u' v') H L) k)

escaped-chars : {b c : ℕ} {t cs r : List ℕ} → Escaped b c → unescape b ≡ Some c → Chars t cs r → Chars (0x5C ∷ b ∷ t) (escaped_char (unescape b) ∷ cs) r
escaped-chars {b} {c} {t} {cs} {r} p e k =
    subst (λ (o : ℕ). Chars (0x5C ∷ b ∷ t) (o ∷ cs) r) (sym (ap escaped_char e)) (chars (escaped p) k)

-- each string by the modes is one of the grammar
pub chars-of-continues : {x h : ℕ} {s cs r : List ℕ} → Continues S.Char x h s cs r → Chars s cs r
chars-of-continues closes = closing_quote
chars-of-continues (ends (plain p) k) = chars (unescaped p) (chars-of-continues k)
chars-of-continues (goes backslash (ends (after-backslash p) k)) = escaped-chars p (value-of-escaped p) (chars-of-continues k)
chars-of-continues (goes (lead-C2 {b = a} p) (ends (second-C2 {b} q) k)) =
    let e = high-of-within 0xC2 0xDF a p in
    utf8-chars (row_c2_df p q) (rw (bits-C2 a p) (six-of-tail (a - 0xC0) b (omega arith) q)) (chars-of-continues k)
chars-of-continues (goes lead-E0 (goes (second-E0 {b} p) (ends (tail-1 {b = c} q) k))) =
    utf8-chars (row_e0 p q)
    (rw (bits-E 0xE0 (omega arith) (omega arith)) (two_bytes 0 b c (omega arith) (tail-of-within 0xA0 0xBF b (omega arith) (omega arith) p) q))
    (chars-of-continues k)
chars-of-continues (goes (lead-E1 {b = a} p) (goes (second-E1 {b} q) (ends (tail-1 {b = c} u) k))) =
    let l = low-of-within 0xE1 0xEC a p in
    let g = high-of-within 0xE1 0xEC a p in
    utf8-chars (row_e1_ec p q u) (rw (bits-E a (omega arith) (omega arith)) (two_bytes (a - 0xE0) b c (omega arith) q u)) (chars-of-continues k)
chars-of-continues (goes lead-ED (goes (second-ED {b} p) (ends (tail-1 {b = c} q) k))) =
    utf8-chars (row_ed p q)
    (rw (bits-E 0xED (omega arith) (omega arith)) (two_bytes 0xD b c (omega arith) (tail-of-within 0x80 0x9F b (omega arith) (omega arith) p) q))
    (chars-of-continues k)
chars-of-continues (goes (lead-EE {b = a} p) (goes (second-EE {b} q) (ends (tail-1 {b = c} u) k))) =
    let l = low-of-within 0xEE 0xEF a p in
    let g = high-of-within 0xEE 0xEF a p in
    utf8-chars (row_ee_ef p q u) (rw (bits-E a (omega arith) (omega arith)) (two_bytes (a - 0xE0) b c (omega arith) q u)) (chars-of-continues k)
chars-of-continues (goes lead-F0 (goes (second-F0 {b} p) (goes (tail-2 {b = c} q) (ends (tail-1 {b = d} u) k)))) =
    utf8-chars (row_f0 p q u)
    (rw (bits-F 0xF0 (omega arith)) (three-bytes 0 b c d (omega arith) (tail-of-within 0x90 0xBF b (omega arith) (omega arith) p) q u))
    (chars-of-continues k)
chars-of-continues (goes (lead-F1 {b = a} p) (goes (second-F1 {b} q) (goes (tail-2 {b = c} u) (ends (tail-1 {b = d} v) k)))) =
    let l = low-of-within 0xF1 0xF3 a p in
    let g = high-of-within 0xF1 0xF3 a p in
    utf8-chars (row_f1_f3 p q u v) (rw (bits-F a (omega arith)) (three-bytes (a - 0xF0) b c d (omega arith) q u v)) (chars-of-continues k)
chars-of-continues (goes lead-F4 (goes (second-F4 {b} p) (goes (tail-2 {b = c} q) (ends (tail-1 {b = d} u) k)))) =
    utf8-chars (row_f4 p q u)
    (rw (bits-F 0xF4 (omega arith)) (three-bytes 4 b c d (omega arith) (tail-of-within 0x80 0x8F b (omega arith) (omega arith) p) q u))
    (chars-of-continues k)
chars-of-continues (goes backslash (goes letter-u (goes (digit-1 p n) (goes (digit-2 q) (goes (digit-3 u) (ends (digit-4 v) k)))))) =
    unit-chars p q u v (no_surrogate p q u v n) (chars-of-continues k)
chars-of-continues (goes backslash (goes letter-u (goes (digit-1_d p) (goes (digit-2-below q l) (goes (digit-3 u) (ends (digit-4 v) k)))))) =
    unit-chars p q u v (no-surrogate-below p q u v refl l) (chars-of-continues k)
chars-of-continues (goes backslash (goes letter-u (goes (digit-1_d p) (goes (digit-2-high q l h) (goes (high-3 u) (goes (high-4 v)
    (goes low-backslash (goes low-u (goes (low-1 p') (goes (low-2 q' l') (goes (low-3 u') (ends (low-4 v') k)))))))))))) =
    pair-chars p q l h u v p' q' l' u' v' (chars-of-continues k)
chars-of-continues (goes backslash (goes letter-u (ends y k))) = elim y [ ]
chars-of-continues (goes backslash (goes letter-u (goes (digit-1 ha n) (ends y k)))) = elim y [ ]
chars-of-continues (goes backslash (goes letter-u (goes (digit-1 ha n) (goes (digit-2 hb) (ends y k))))) = elim y [ ]
chars-of-continues (goes backslash (goes letter-u (goes (digit-1 ha n) (goes (digit-2 hb) (goes (digit-3 hc) (goes y k)))))) = elim y [ ]
chars-of-continues (goes backslash (goes letter-u (goes (digit-1_d ea) (ends y k)))) = elim y [ ]
chars-of-continues (goes backslash (goes letter-u (goes (digit-1_d ea) (goes (digit-2-below hb lb) (ends y k))))) = elim y [ ]
chars-of-continues (goes backslash (goes letter-u (goes (digit-1_d ea) (goes (digit-2-below hb lb) (goes (digit-3 hc) (goes y k)))))) = elim y [ ]
chars-of-continues (goes backslash (goes letter-u (goes (digit-1_d ea) (goes (digit-2-high hb lb gb) (ends y k))))) = elim y [ ]
chars-of-continues (goes backslash (goes letter-u (goes (digit-1_d ea) (goes (digit-2-high hb lb gb) (goes (high-3 hc) (ends y k)))))) = elim y [ ]
chars-of-continues (goes backslash (goes letter-u (goes (digit-1_d ea) (goes (digit-2-high hb lb gb) (goes (high-3 hc) (goes (high-4 hd) (ends y k))))))) = elim y [ ]
chars-of-continues (goes backslash (goes letter-u (goes (digit-1_d ea) (goes (digit-2-high hb lb gb) (goes (high-3 hc) (goes (high-4 hd) (goes low-backslash (ends y k)))))))) = elim y [ ]
chars-of-continues (goes backslash (goes letter-u (goes (digit-1_d ea) (goes (digit-2-high hb lb gb) (goes (high-3 hc) (goes (high-4 hd) (goes low-backslash (goes low-u (ends y k))))))))) = elim y [ ]
chars-of-continues (goes backslash (goes letter-u (goes (digit-1_d ea) (goes (digit-2-high hb lb gb) (goes (high-3 hc) (goes (high-4 hd) (goes low-backslash (goes low-u (goes (low-1 ee) (ends y k)))))))))) = elim y [ ]
chars-of-continues (goes backslash (goes letter-u (goes (digit-1_d ea) (goes (digit-2-high hb lb gb) (goes (high-3 hc) (goes (high-4 hd) (goes low-backslash (goes low-u (goes (low-1 ee) (goes (low-2 hf lf) (ends y k))))))))))) = elim y [ ]
chars-of-continues (goes backslash (goes letter-u (goes (digit-1_d ea) (goes (digit-2-high hb lb gb) (goes (high-3 hc) (goes (high-4 hd) (goes low-backslash (goes low-u (goes (low-1 ee) (goes (low-2 hf lf) (goes (low-3 hg) (goes y k)))))))))))) = elim y [ ]
chars-of-continues (goes (lead-C2 p) (goes y k)) = elim y [ ]
chars-of-continues (goes lead-E0 (ends y k)) = elim y [ ]
chars-of-continues (goes lead-E0 (goes (second-E0 p) (goes y k))) = elim y [ ]
chars-of-continues (goes (lead-E1 p) (ends y k)) = elim y [ ]
chars-of-continues (goes (lead-E1 p) (goes (second-E1 q) (goes y k))) = elim y [ ]
chars-of-continues (goes lead-ED (ends y k)) = elim y [ ]
chars-of-continues (goes lead-ED (goes (second-ED p) (goes y k))) = elim y [ ]
chars-of-continues (goes (lead-EE p) (ends y k)) = elim y [ ]
chars-of-continues (goes (lead-EE p) (goes (second-EE q) (goes y k))) = elim y [ ]
chars-of-continues (goes lead-F0 (ends y k)) = elim y [ ]
chars-of-continues (goes lead-F0 (goes (second-F0 p) (ends y k))) = elim y [ ]
chars-of-continues (goes lead-F0 (goes (second-F0 p) (goes (tail-2 q) (goes y k)))) = elim y [ ]
chars-of-continues (goes (lead-F1 p) (ends y k)) = elim y [ ]
chars-of-continues (goes (lead-F1 p) (goes (second-F1 q) (ends y k))) = elim y [ ]
chars-of-continues (goes (lead-F1 p) (goes (second-F1 q) (goes (tail-2 u) (goes y k)))) = elim y [ ]
chars-of-continues (goes lead-F4 (ends y k)) = elim y [ ]
chars-of-continues (goes lead-F4 (goes (second-F4 p) (ends y k))) = elim y [ ]
chars-of-continues (goes lead-F4 (goes (second-F4 p) (goes (tail-2 q) (goes y k)))) = elim y [ ]
