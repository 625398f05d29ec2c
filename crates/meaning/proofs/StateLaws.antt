-- Bits that are a set of states: where they start, where edges lead, where they end. Assumes nothing.
use mathlib.Core.Bool.{Bool, true, false}
use mathlib.Core.List.{List}
use mathlib.Core.Logic.{◌↔◌}
use mathlib.Core.Path.{◌≡◌, refl}
use Prim.Native.Nat.{ℕ, ◌+◌, ◌*◌, ◌<◌}
use native.Mathlib.Omega.{arith}
use lib.Dec.{T, eqb, eqb→eq, eqb_refl}
use lib.ListN.{get_or}
use Rattle.laws.specs.Bits.{bit_at}
use Rattle.laws.proofs.TestLaws.{T_and, T-and-left, T-and-right}
use Rattle.table.specs.Table.{Table}
use Rattle.book.specs.Entry.{Form, Entry, edge, end_state}
use Rattle.book.specs.Load.{rule_of, form_in}
use Rattle.book.specs.Holds.{form_code, ends_at}
use Rattle.runs.specs.Runs.{◌∈◌}
use Rattle.runs.specs.Walk.{States, start_of, moved, has_end}
use Rattle.laws.proofs.ListLaws.{any-of-member, member-of-any}
use Rattle.runs.proofs.EdgeLaws.{EdgeFrom, member-of-edge}
use Rattle.runs.proofs.StateLaws.{EndIn, end-in, has_end-of-end, end-of-has_end, MoveTo, move-to, moved-of-edge, edge-of-moved}
use Rattle.frame.specs.Edges.{edge_count, has_form, state_number}
use Rattle.frame.specs.Ops.{accepting}
use Rattle.frame.proofs.RuleLaws.{accepting-iff}
use Rattle.meaning.specs.Shows.{Carries, state_bit, ShowsStates}
use Rattle.meaning.proofs.FormLaws.{OfRule, of-rule, start_of-iff, has_form-iff, form-eq-of-of_rule}
use Rattle.meaning.proofs.EdgeLaws.{EdgeAt, edge-at, edge-of-below, below-of-edge, numbers-of-edge}

-- tests that hold together are the same
pub eq-of-iff : (a b : Bool) → T a ↔ T b → a ≡ b
eq-of-iff true true h = refl
eq-of-iff true false h = absurd (h.0 tt)
eq-of-iff false true h = absurd (h.1 tt)
eq-of-iff false false h = refl

-- the bits `next` are those of the states that edges with two properties lead to, from states whose bits are among `bits`
abbrev pub Reached : Table → (ℕ → Bool) → (ℕ → Type 0) → (ℕ → Type 0) → (ℕ → Bool) → Type 0
Reached t bits P Q next =
    (j : ℕ) → j < 512 → T (next j)
    ↔ ((e : ℕ) × (e < edge_count t.edges) × P e × Q e × T (bits (state_number t.edge_rule t.edge_state e))
    × (state_number t.edge_rule t.edge_next e ≡ j))

module _ {t : Table} {es : List Entry} (kept : Carries t es) where
  -- ---- start_of

  -- state 0 of each rule of a form
  pub shows-start : (f : Form) (bits : ℕ → Bool) → ((j : ℕ) → T (bits j) ↔ ((r : ℕ) × T (has_form t.forms (form_code f) r) × (16 * r ≡ j)))
      → ShowsStates bits (start_of es f)
  shows-start f bits h r q l g = eq-of-iff (bits (state_bit r q)) (start_of es f r q) (starts, bit)
    where
      starts : T (bits (state_bit r q)) → T (start_of es f r q)
      starts b =
          let (n, p, e) = (h (state_bit r q)).0 b in
          let d : n ≡ r = omega arith in
          (start_of-iff es f r q).1 (omega arith, (has_form-iff kept f r).0 (rw d at p))

      bit : T (start_of es f r q) → T (bits (state_bit r q))
      bit s = let (z, o) = (start_of-iff es f r q).0 s in (h (state_bit r q)).1 (r, (has_form-iff kept f r).1 o, omega arith)

  -- ---- moved

  -- where a test of the book's edges says the same as the two properties, the bits `next` are the states after a move by the edges that pass it
  pub shows-moved : (bits next : ℕ → Bool) (S : States) (P Q : ℕ → Type 0) (p : ℕ → Entry → Bool) → ShowsStates bits S
      → ((e : ℕ) (x : Entry) → EdgeFrom 0 es e x → (P e × Q e) ↔ T (p e x)) → Reached t bits P Q next → ShowsStates next (moved es p S)
  unfolding state_number
  shows-moved bits next S P Q p shows same h r m l g = eq-of-iff (next (state_bit r m)) (moved es p S r m) (moves, bit)
    where
      from : (e : ℕ) → P e × Q e → T (bits (16 * get_or t.edge_rule e 0 + get_or t.edge_state e 0))
          → 16 * get_or t.edge_rule e 0 + get_or t.edge_next e 0 ≡ state_bit r m → EdgeAt es e → T (moved es p S r m)
      from e a b c (edge-at {r = r'} {q = q'} {m = m'} {f} {k} {v} i) =
          let n = numbers-of-edge kept i in
          let lim = kept.edge_limits (member-of-edge i) in
          let er : r' ≡ r = omega arith in
          let em : m' ≡ m = omega arith in
          let s : T (S r' q') = rw (n.rule, n.state, shows r' q' lim.rule lim.state) at b in
          rw (er, em) at (moved-of-edge es p S i s ((same e (edge r' f q' k v m') i).0 a))

      moves : T (next (state_bit r m)) → T (moved es p S r m)
      moves b = let (e, d, x, y, c, j) = (h (state_bit r m) (omega arith)).0 b in from e (x, y) c j (edge-of-below kept e (omega (arith, kept.edges_le)))

      to : MoveTo es p S r m → T (next (state_bit r m))
      to (move-to {e} {q} {f} {k} {t = v} i s a) =
          let n = numbers-of-edge kept i in
          let lim = kept.edge_limits (member-of-edge i) in
          let p = (same e (edge r f q k v m) i).1 a in
          (h (state_bit r m) (omega arith)).1
          (e, omega (arith, kept.edges_le, below-of-edge kept i), p.0, p.1, rw (n.rule, n.state, shows r q l lim.state) s, omega arith)

      bit : T (moved es p S r m) → T (next (state_bit r m))
      bit s = to (edge-of-moved es p S r m s)

  -- ---- ended

  -- a rule accepts where it is of the form and has an end state among the states
  pub accepting-has_end : (f : Form) (s : List ℕ) (S : States) → ShowsStates (bit_at s) S → (r : ℕ) → r < 32
      → accepting t.forms t.ends (form_code f) s r ≡ has_end es f S r
  unfolding ends_at rule_of form_in
  accepting-has_end f s S shows r l = eq-of-iff (accepting t.forms t.ends (form_code f) s r) (has_end es f S r) (ends, accepts)
    where
      end : (q : ℕ) → T (S r q) → OfRule es f r → (x : Entry) → x ∈ es → T (ends_at r q x) → T (has_end es f S r)
      end q b o (edge r' g q' k v m) i h = absurd h
      end q b o (end_state r' g q') i h =
          let er : r' ≡ r = eqb→eq r' r (T-and-left (eqb r' r) (eqb q' q) h) in
          let eq : q' ≡ q = eqb→eq q' q (T-and-right (eqb r' r) (eqb q' q) h) in
          let ef : g ≡ f = form-eq-of-of_rule kept o i er in
          has_end-of-end es S (rw (er, ef, eq) at i) b

      ends : T (accepting t.forms t.ends (form_code f) s r) → T (has_end es f S r)
      ends h =
          let (o, w) = (accepting-iff t.forms t.ends (form_code f) s r).0 h in
          let (x, i, g) = member-of-any (ends_at r w.0) es (rw (kept.holds.ended r w.0 l w.1) at w.3) in
          end w.0 (rw (shows r w.0 l w.1) at w.2) ((has_form-iff kept f r).0 o) x i g

      accept : EndIn es f S r → T (accepting t.forms t.ends (form_code f) s r)
      accept (end-in {q} i b) =
          let g = (kept.end_limits i).1 in
          (accepting-iff t.forms t.ends (form_code f) s r).1 (
            (has_form-iff kept f r).1 (of-rule i refl refl),
            (
              q,
              g,
              rw (shows r q l g) b,
              rw (kept.holds.ended r q l g) (any-of-member (ends_at r q) i (T_and (eqb r r) (eqb q q) (eqb_refl r) (eqb_refl q))),
            ),
          )

      accepts : T (has_end es f S r) → T (accepting t.forms t.ends (form_code f) s r)
      accepts h = accept (end-of-has_end es f S r h)
