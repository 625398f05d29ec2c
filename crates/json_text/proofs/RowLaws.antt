-- The rows of RFC 3629, section 4, are the sequences of the grammar: `sequence-iff-utf8`, `listed-iff-begins`. The lexer goes on after a first byte
-- from 80 up and a second byte exactly where a row lists the two: `permitted-iff-listed`. Assumes nothing.
use mathlib.Core.List.Memᴰ.{head as here}
use mathlib.Core.List.Memᴰ.{tail as past}
use mathlib.Core.List.{List, [], ◌∷◌, Memᴰ}
use mathlib.Core.Logic.{◌⊎◌, inl, inr, ◌↔◌}
use mathlib.Core.Path.{◌≡◌, refl, sym, subst, ◌∙◌}
use Prim.Native.Nat.{ℕ, zero, suc, ◌≤◌}
use native.Mathlib.Omega.{arith}
use lib.Dec.{T}
use Rattle.json_text.specs.Bytes.{within}
use Rattle.json_text.specs.Utf8.{Utf8, row_c2_df, row_e0, row_e1_ec, row_ed, row_ee_ef, row_f0, row_f1_f3, row_f4}
use Rattle.json_text.specs.Rows.{Row, rows, Lists, Listed, Tails, no_tails, tails, Sequence, sequence}
use Rattle.json_text.specs.Lexer.{ranged, string_move}
use Rattle.json_text.specs.declared.string.StringMode.{StringMode}
use Rattle.json_text.specs.declared.string.StringMode.TheVariants as S
use Rattle.json_text.specs.declared.string.StringMove.{StringMove}
use Rattle.json_text.specs.declared.string.StringMove.TheVariants as SM
use Rattle.json_text.proofs.ByteLaws.{low-of-within, eq-of-within}
use Rattle.json_text.proofs.StringLaws.{Goes, backslash, lead-C2, lead-E0, lead-E1, lead-ED, lead-EE, lead-F0, lead-F1, lead-F4}
use Rattle.json_text.proofs.StringLaws.{plain, lt-of-unescaped, ranged-move, within-of-ranged, move-of-goes}
use Rattle.json_text.proofs.StringLaws.{Moved, moved-fault, moved-go, moved-char, moved-close, moved}

-- ---- each of the rows

-- a name for each row, by its first byte
data Name : Type 0 where
  C2 E0 E1 ED EE F0 F1 F4 : Name

-- the row with a name
row_of : Name → (x : Row) × Memᴰ x rows
row_of C2 = (_, here refl)
row_of E0 = (_, past (here refl))
row_of E1 = (_, past (past (here refl)))
row_of ED = (_, past (past (past (here refl))))
row_of EE = (_, past (past (past (past (here refl)))))
row_of F0 = (_, past (past (past (past (past (here refl))))))
row_of F1 = (_, past (past (past (past (past (past (here refl)))))))
row_of F4 = (_, past (past (past (past (past (past (past (here refl))))))))

-- the mode in which the second byte of the row is awaited
second : Name → StringMode
second C2 = S.SecondC2
second E0 = S.SecondE0
second E1 = S.SecondE1
second ED = S.SecondED
second EE = S.SecondEE
second F0 = S.SecondF0
second F1 = S.SecondF1
second F4 = S.SecondF4

-- what holds of each row that has a name holds of each row of the list
rows-elim : (P : Row → Type 0) → ((l : Name) → P (row_of l).0) → (x : Row) → Memᴰ x rows → P x
unfolding row_of
rows-elim P f x (past (past (past (past (past (past (past (past x33)))))))) = elim x33 [ ]
rows-elim P f x (here e) = subst P (sym e) (f C2)
rows-elim P f x (past (here e)) = subst P (sym e) (f E0)
rows-elim P f x (past (past (here e))) = subst P (sym e) (f E1)
rows-elim P f x (past (past (past (here e)))) = subst P (sym e) (f ED)
rows-elim P f x (past (past (past (past (here e))))) = subst P (sym e) (f EE)
rows-elim P f x (past (past (past (past (past (here e)))))) = subst P (sym e) (f F0)
rows-elim P f x (past (past (past (past (past (past (here e))))))) = subst P (sym e) (f F1)
rows-elim P f x (past (past (past (past (past (past (past (here e)))))))) = subst P (sym e) (f F4)

-- ---- the rows and the grammar

sequence-of-utf8 : {s r : List ℕ} {c : ℕ} → Utf8 s c r → Sequence s r
unfolding row_of within
sequence-of-utf8 (row_c2_df p q) = sequence (row_of C2).1 (p, q) no_tails
sequence-of-utf8 (row_e0 p q) = sequence (row_of E0).1 (tt, p) (tails q no_tails)
sequence-of-utf8 (row_e1_ec p q t) = sequence (row_of E1).1 (p, q) (tails t no_tails)
sequence-of-utf8 (row_ed p q) = sequence (row_of ED).1 (tt, p) (tails q no_tails)
sequence-of-utf8 (row_ee_ef p q t) = sequence (row_of EE).1 (p, q) (tails t no_tails)
sequence-of-utf8 (row_f0 p q t) = sequence (row_of F0).1 (tt, p) (tails q (tails t no_tails))
sequence-of-utf8 (row_f1_f3 p q t u) = sequence (row_of F1).1 (p, q) (tails t (tails u no_tails))
sequence-of-utf8 (row_f4 p q t) = sequence (row_of F4).1 (tt, p) (tails q (tails t no_tails))

-- the bytes are a sequence of the grammar for some character, followed by r
abbrev pub Encodes : List ℕ → List ℕ → Type 0
Encodes s r = (c : ℕ) × Utf8 s c r

-- a byte that is within k and k can stand for k as the first byte
at-lead : (k a b : ℕ) (s r : List ℕ) → T (within k k a) → Encodes (k ∷ b ∷ s) r → Encodes (a ∷ b ∷ s) r
at-lead k a b s r h = subst (λ (x : ℕ). Encodes (x ∷ b ∷ s) r) (sym (eq-of-within k a h))

utf8-of-row : (l : Name) (a b : ℕ) (s r : List ℕ) → Lists (row_of l).0 a b → Tails (row_of l).0.tails s r → Encodes (a ∷ b ∷ s) r
unfolding row_of
utf8-of-row C2 a b s r (p, q) no_tails = (_, row_c2_df p q)
utf8-of-row E0 a b s r (p, q) (tails t no_tails) = at-lead 0xE0 a b s r p (_, row_e0 q t)
utf8-of-row E1 a b s r (p, q) (tails t no_tails) = (_, row_e1_ec p q t)
utf8-of-row ED a b s r (p, q) (tails t no_tails) = at-lead 0xED a b s r p (_, row_ed q t)
utf8-of-row EE a b s r (p, q) (tails t no_tails) = (_, row_ee_ef p q t)
utf8-of-row F0 a b s r (p, q) (tails t (tails u no_tails)) = at-lead 0xF0 a b s r p (_, row_f0 q t u)
utf8-of-row F1 a b s r (p, q) (tails t (tails u no_tails)) = (_, row_f1_f3 p q t u)
utf8-of-row F4 a b s r (p, q) (tails t (tails u no_tails)) = at-lead 0xF4 a b s r p (_, row_f4 q t u)

utf8-of-sequence : {s r : List ℕ} → Sequence s r → Encodes s r
utf8-of-sequence (sequence {x} {a} {b} {s} {r} i l t) =
    rows-elim (λ (y : Row). Lists y a b → Tails y.tails s r → Encodes (a ∷ b ∷ s) r) (λ k. utf8-of-row k a b s r) x i l t

-- the rows and the grammar have the same sequences
pub sequence-iff-utf8 : (s r : List ℕ) → Sequence s r ↔ Encodes s r
sequence-iff-utf8 s r = (utf8-of-sequence, λ (e : Encodes s r). sequence-of-utf8 e.1)

-- n bytes of UTF8-tail
some-tails : (n : ℕ) → (s : List ℕ) × Tails n s []
unfolding within
some-tails zero = ([], no_tails)
some-tails (suc n) = let more = some-tails n in (0x80 ∷ more.0, tails tt more.1)

listed-of-sequence : {a b : ℕ} {s r : List ℕ} → Sequence (a ∷ b ∷ s) r → Listed a b
listed-of-sequence (sequence {x} i l t) = (x, i, l)

-- a row lists two bytes exactly when some sequence of the grammar begins with them
pub listed-iff-begins : (a b : ℕ) → Listed a b ↔ ((s r : List ℕ) × Encodes (a ∷ b ∷ s) r)
listed-iff-begins a b = (
  λ ((x, i, l) : Listed a b). let more = some-tails x.tails in (more.0, [], utf8-of-sequence (sequence i l more.1)),
  λ ((s, r, e) : (s r : List ℕ) × Encodes (a ∷ b ∷ s) r). listed-of-sequence (sequence-of-utf8 e.1),
)

-- ---- the rows and the lexer

-- where a character is awaited byte a leads to a mode in which byte b is no fault
abbrev pub Permitted : ℕ → ℕ → Type 0
Permitted a b = (m : StringMode) × (string_move S.Char a ≡ SM.Go m) × (string_move m b ≡ SM.Fault → ⊥)

-- what is awaited where n bytes of UTF8-tail follow; no row has more than two
after_tails : ℕ → StringMove
after_tails zero = SM.Char
after_tails (suc zero) = SM.Go S.Tail1
after_tails (suc (suc n)) = SM.Go S.Tail2

after_tails-no-fault : (n : ℕ) → after_tails n ≡ SM.Fault → ⊥
unfolding after_tails
after_tails-no-fault zero e = let z : ◌≡◌ {A = ℕ} 0 1 = cc in absurd (omega arith)
after_tails-no-fault (suc zero) e = let z : ◌≡◌ {A = ℕ} 0 1 = cc in absurd (omega arith)
after_tails-no-fault (suc (suc n)) e = let z : ◌≡◌ {A = ℕ} 0 1 = cc in absurd (omega arith)

-- the mode that awaits the second byte of a row does with it what the row says
second-by-row : (l : Name) (b : ℕ)
    → string_move (second l) b ≡ ranged (row_of l).0.second_from (row_of l).0.second_to b (after_tails (row_of l).0.tails)
unfolding row_of second after_tails
second-by-row C2 b = refl
second-by-row E0 b = refl
second-by-row E1 b = refl
second-by-row ED b = refl
second-by-row EE b = refl
second-by-row F0 b = refl
second-by-row F1 b = refl
second-by-row F4 b = refl

-- a first byte of a row
goes-of-lead : (l : Name) (a : ℕ) → T (within (row_of l).0.lead_from (row_of l).0.lead_to a) → Goes S.Char a (second l)
unfolding row_of second
goes-of-lead C2 a h = lead-C2 h
goes-of-lead E0 a h = rw (eq-of-within 0xE0 a h) lead-E0
goes-of-lead E1 a h = lead-E1 h
goes-of-lead ED a h = rw (eq-of-within 0xED a h) lead-ED
goes-of-lead EE a h = lead-EE h
goes-of-lead F0 a h = rw (eq-of-within 0xF0 a h) lead-F0
goes-of-lead F1 a h = lead-F1 h
goes-of-lead F4 a h = rw (eq-of-within 0xF4 a h) lead-F4

-- a second byte of a row is no fault, and no other byte is
no-fault-of-second : (l : Name) (b : ℕ) → T (within (row_of l).0.second_from (row_of l).0.second_to b) → string_move (second l) b ≡ SM.Fault → ⊥
no-fault-of-second l b h e = after_tails-no-fault (row_of l).0.tails (sym (ranged-move _ _ b _ h) ∙ sym (second-by-row l b) ∙ e)

second-of-no-fault : (l : Name) (b : ℕ) → (string_move (second l) b ≡ SM.Fault → ⊥) → T (within (row_of l).0.second_from (row_of l).0.second_to b)
second-of-no-fault l b n = within-of-ranged _ _ b (after_tails (row_of l).0.tails) (λ e. n (second-by-row l b ∙ e))

permitted-of-listed : (a b : ℕ) → Listed a b → Permitted a b
permitted-of-listed a b (x, i, l) =
    rows-elim (λ (y : Row). Lists y a b → Permitted a b) (λ k (p, q). (second k, move-of-goes (goes-of-lead k a p), no-fault-of-second k b q)) x i l

-- a byte from 80 up that leads on to a mode is a first byte, and a byte that is no fault in that mode is of its row
listed-of-goes : {m : StringMode} {a : ℕ} (b : ℕ) → 0x80 ≤ a → Goes S.Char a m → (string_move m b ≡ SM.Fault → ⊥) → Listed a b
unfolding row_of second within
listed-of-goes b h backslash n = absurd (omega arith)
listed-of-goes b h (lead-C2 p) n = ((row_of C2).0, (row_of C2).1, (p, second-of-no-fault C2 b n))
listed-of-goes b h lead-E0 n = ((row_of E0).0, (row_of E0).1, (tt, second-of-no-fault E0 b n))
listed-of-goes b h (lead-E1 p) n = ((row_of E1).0, (row_of E1).1, (p, second-of-no-fault E1 b n))
listed-of-goes b h lead-ED n = ((row_of ED).0, (row_of ED).1, (tt, second-of-no-fault ED b n))
listed-of-goes b h (lead-EE p) n = ((row_of EE).0, (row_of EE).1, (p, second-of-no-fault EE b n))
listed-of-goes b h lead-F0 n = ((row_of F0).0, (row_of F0).1, (tt, second-of-no-fault F0 b n))
listed-of-goes b h (lead-F1 p) n = ((row_of F1).0, (row_of F1).1, (p, second-of-no-fault F1 b n))
listed-of-goes b h lead-F4 n = ((row_of F4).0, (row_of F4).1, (tt, second-of-no-fault F4 b n))

goes-of-moved : {m n : StringMode} {a : ℕ} → Moved m a (SM.Go n) → Goes m a n
goes-of-moved (moved-go g) = g

-- of any first byte from 80 up, and any second byte: the lexer goes on after the two exactly when a row lists them
pub permitted-iff-listed : (a b : ℕ) → 0x80 ≤ a → Permitted a b ↔ Listed a b
permitted-iff-listed a b h = (
  λ ((m, e, n) : Permitted a b). listed-of-goes b h (goes-of-moved (subst (Moved S.Char a) e (moved S.Char a))) n,
  permitted-of-listed a b,
)

-- a byte from 80 up is a fault where a character is awaited, or leads on to a mode
fault-or-go : {a : ℕ} {k : StringMove} → 0x80 ≤ a → Moved S.Char a k → (k ≡ SM.Fault) ⊎ ((m : StringMode) × (k ≡ SM.Go m))
fault-or-go h moved-fault = inl refl
fault-or-go h (moved-go {n} g) = inr (n, refl)
fault-or-go h (moved-char (plain {b} u)) = let l = lt-of-unescaped b u in absurd (omega arith)
fault-or-go h moved-close = absurd (omega arith)

pub lead-or-fault : (a : ℕ) → 0x80 ≤ a → (string_move S.Char a ≡ SM.Fault) ⊎ ((m : StringMode) × (string_move S.Char a ≡ SM.Go m))
lead-or-fault a h = fault-or-go h (moved S.Char a)

-- a second byte that a row lists is from 80 up
high-of-row : (l : Name) → 0x80 ≤ (row_of l).0.second_from
unfolding row_of
high-of-row C2 = omega arith
high-of-row E0 = omega arith
high-of-row E1 = omega arith
high-of-row ED = omega arith
high-of-row EE = omega arith
high-of-row F0 = omega arith
high-of-row F1 = omega arith
high-of-row F4 = omega arith

pub high-of-listed : (a b : ℕ) → Listed a b → 0x80 ≤ b
high-of-listed a b (x, i, l) =
    rows-elim (λ (y : Row). Lists y a b → 0x80 ≤ b) (λ k (p, q). omega (arith, high-of-row k, low-of-within (row_of k).0.second_from _ b q)) x i l
