-- Laws of ladders and gates: what an open gate tells, and what a shut one tells. Assumes nothing.
use mathlib.Core.Bool.{Bool, true, false, cond, ◌&&◌}
use mathlib.Core.List.{List, ◌∷◌}
use mathlib.Core.Path.{◌≡◌, refl, sym, ◌∙◌}
use Prim.Native.Nat.{ℕ, ◌*◌, ◌≤◌}
use native.Mathlib.Omega.{arith}
use lib.Dec.{leb, leb→le}
use borrow.Author.Tests.{le-leb, leb-true}
use Rattle.table.specs.Table.{Table}
use Rattle.table.specs.Limits.{within_limits}
use Rattle.laws.proofs.TestLaws.{true-neq-false, T-of-true, T-and-left, T-and-right}
use Rattle.reader.specs.declared.Refusal.{Refusal}
use Rattle.reader.specs.declared.Refusal.TheVariants as No
use Rattle.std.proofs.Common.{Ok, Err}
use Rattle.reader.specs.Refusals.{Gate, let_in, fit_reader, Rung, first_refusal, start_gate, call_gate, through, is_open}

-- ---- a gate

-- no gate is both open and shut
pub open-neq-shut : {X : Type 0} (k : Refusal) → let_in ≡ Err k → X
open-neq-shut k e = let z : ◌≡◌ {A = ℕ} 0 1 = cc in absurd (omega arith)

-- what holds of what a call does where its gate is open, and of each refusal where it is shut, holds of what it gives
pub through-elim : {A : Type 0} (P : A → Type 0) {refused : Refusal → A} {done : A} (a : Gate) → ((k : Refusal) → a ≡ Err k → P (refused k))
    → (a ≡ let_in → P done) → P (through a refused done)
through-elim P (Ok u) f d = d refl
through-elim P (Err k) f d = f k refl

-- the gate of a call that is not refused is open
pub open-of-is_open : (a : Gate) → is_open a ≡ true → a ≡ let_in
open-of-is_open (Ok u) e = refl
open-of-is_open (Err k) e = true-neq-false (sym e)

-- the gate of a refused call is shut, with its refusal
pub shut-of-not-is_open : (a : Gate) → is_open a ≡ false → (k : Refusal) × (a ≡ Err k)
shut-of-not-is_open (Ok u) e = true-neq-false e
shut-of-not-is_open (Err k) e = (k, refl)

-- ---- a ladder

module _ (g : Rung) (gs : List Rung) where
  -- the first rung of an open ladder holds
  first-of-open : first_refusal (g ∷ gs) ≡ let_in → g.holds ≡ true
  unfolding first_refusal
  first-of-open = go g.holds
    where
      go : (b : Bool) → cond b (first_refusal gs) (Err g.refusal) ≡ let_in → b ≡ true
      go true e = refl
      go false e = open-neq-shut g.refusal (sym e)

  -- where the first rung holds, those after it count
  rest-of-holds : g.holds ≡ true → first_refusal (g ∷ gs) ≡ first_refusal gs
  unfolding first_refusal
  rest-of-holds e = rw e

  -- the rungs of an open ladder after the first are an open ladder
  rest-of-open : first_refusal (g ∷ gs) ≡ let_in → first_refusal gs ≡ let_in
  rest-of-open e = sym (rest-of-holds (first-of-open e)) ∙ e

-- ---- what the gates tell

-- a start whose gate is open has a table within its limits, and a buffer of 96 bytes or more; and the other way round
module _ (t : Table) (n : ℕ) where
  pub table-of-start : start_gate t n ≡ let_in → within_limits t ≡ true
  unfolding start_gate
  table-of-start e = first-of-open _ _ e

  pub room-of-start : start_gate t n ≡ let_in → 96 ≤ n
  unfolding start_gate
  room-of-start e = leb-true 96 n (first-of-open _ _ (rest-of-open _ _ e))

  pub start-open-of-room : within_limits t ≡ true → 96 ≤ n → start_gate t n ≡ let_in
  unfolding start_gate first_refusal
  start-open-of-room e h = rw (e, le-leb 96 n h)

-- a call whose gate is open has a table within its limits, a reader within its bounds, and a buffer with all frames of its reader
module _ (within : Bool) (f : ℕ) (t : Table) (n : ℕ) where
  pub table-of-call : call_gate within f t n ≡ let_in → within_limits t ≡ true
  unfolding call_gate
  table-of-call e = first-of-open _ _ e

  pub reader-of-call : call_gate within f t n ≡ let_in → within ≡ true
  unfolding call_gate
  reader-of-call e = first-of-open _ _ (rest-of-open _ _ e)

  pub room-of-call : call_gate within f t n ≡ let_in → 96 * f ≤ n
  unfolding call_gate
  room-of-call e = leb-true (96 * f) n (first-of-open _ _ (rest-of-open _ _ (rest-of-open _ _ e)))

module _ (f : ℕ) (t : Table) (n : ℕ) where
  -- with a reader within its bounds, a table within its limits and a buffer with all frames of the reader the gate is open
  pub call-open-of-room : within_limits t ≡ true → 96 * f ≤ n → call_gate true f t n ≡ let_in
  unfolding call_gate first_refusal
  call-open-of-room e h = rw (e, le-leb (96 * f) n h)

  -- with a reader within its bounds 23 is for the table
  pub table-of-above-limit : call_gate true f t n ≡ Err No.AboveLimit → within_limits t ≡ false
  unfolding call_gate first_refusal
  table-of-above-limit = go (within_limits t) (leb (96 * f) n)
    where
      go : (a b : Bool) → cond a (cond b let_in (Err No.ShortBuffer)) (Err No.AboveLimit) ≡ Err No.AboveLimit → a ≡ false
      go true true e = open-neq-shut No.AboveLimit e
      go true false e = cc
      go false b e = refl

-- ---- the bounds of a reader

module _ (f l k : ℕ) where
  -- with as many frames as there may be and no more levels than frames, the length of the key decides
  pub fit_all : 1 ≤ f → f ≤ 64 → l ≤ f → leb k 33 ≡ fit_reader f l k
  unfolding fit_reader
  fit_all a b c = simp (le-leb 1 f a, le-leb f 64 b, le-leb l f c)

  -- the bounds of a reader that is within them
  pub bounds-of-fit : fit_reader f l k ≡ true → (1 ≤ f) × (f ≤ 64) × (l ≤ f) × (k ≤ 33)
  unfolding fit_reader
  bounds-of-fit e =
      let a = T-of-true (leb 1 f && (leb f 64 && (leb l f && leb k 33))) e in
      let b = T-and-right (leb 1 f) (leb f 64 && (leb l f && leb k 33)) a in
      let c = T-and-right (leb f 64) (leb l f && leb k 33) b in (
        leb→le 1 f (T-and-left (leb 1 f) _ a),
        leb→le f 64 (T-and-left (leb f 64) _ b),
        leb→le l f (T-and-left (leb l f) (leb k 33) c),
        leb→le k 33 (T-and-right (leb l f) (leb k 33) c),
      )
