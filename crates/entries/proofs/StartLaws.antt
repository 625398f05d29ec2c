-- A start, and the stream after it. Assumes nothing.
use Rattle.std.specs.Prelude.{Ok, Err}
use mathlib.Core.List.{List}
use mathlib.Core.Path.{◌≡◌, refl, sym, ap, ◌∙◌}
use Prim.Native.Nat.{ℕ, ◌+◌}
use native.Mathlib.Omega.{arith}
use lib.ListN.{length}
use Rattle.table.specs.Table.{Table}
use Rattle.reader.specs.Refusals.{start_gate}
use Rattle.reader.specs.Start.{Start, start_of}
use Rattle.reader.specs.Said.{started}
use Rattle.reader.specs.declared.Reader.{Reader}
use Rattle.reader.specs.declared.Refusal.{Refusal}
use Rattle.reader.proofs.RefusalLaws.{through-elim}
use Rattle.entries.specs.Entries.{with_entries}
use Rattle.entries.specs.Feeds.{answer_entries, Called, streamed, in_out, judge_table_of}

-- a reader that a start lets in has read nothing
pub start-fresh : (t : Table) (w : List ℕ) (r : Reader) → started (Ok r) ≡ start_of t w → r.progress.pos ≡ 0
unfolding start_of
start-fresh t w r e =
    ap (λ (z : Start). z.reader.progress.pos) e
    ∙ through-elim (λ (z : Start). z.reader.progress.pos ≡ 0) (start_gate t (length w)) (λ _ _. refl) (λ _. refl)

module _ (t : Table) (s : List ℕ) (size : ℕ) (w o : List ℕ) where
  pub judge-streamed : (r : Reader) → started (Ok r) ≡ start_of t w → (z : Called) → z ≡ in_out o (streamed t size r w s) → z ≡ judge_table_of t s size w o
  unfolding judge_table_of
  judge-streamed r st z h = h ∙ rw (sym st)

  pub judge-unstarted : (n : Refusal) → started (Err n) ≡ start_of t w → (after : List ℕ) (made : ℕ)
      → after ≡ with_entries o 0 (answer_entries (Err n) 0) → made ≡ 0 + length (answer_entries (Err n) 0)
      → record { work = w; out = after; made = made } ≡ judge_table_of t s size w o
  unfolding judge_table_of
  judge-unstarted n st after made h m =
      let k : made ≡ length (answer_entries (Err n) 0) = omega (arith, m) in
      rw (sym st, h, k)
