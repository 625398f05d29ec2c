-- The first and the last text of the judging program. Assumes nothing.
use Rattle.std.specs.Prelude.{Ok, Err, Some, None}
use mathlib.Core.Bool.{true, false}
use mathlib.Core.List.{List}
use mathlib.Core.Path.{◌≡◌, sym, ap, ◌∙◌}
use Prim.Native.Nat.{ℕ, ◌≤◌, ◌<◌}
use native.Mathlib.Omega.{arith}
use lib.Dec.{eqb}
use lib.ListN.{length}
use borrow.Author.Tests.{le-leb, lt-leb, eq-eqb, ne_eqb}
use Rattle.table.specs.Table.{Table}
use Rattle.book.specs.Load.{loads}
use Rattle.load.specs.Step.{loaded_as}
use Rattle.load.specs.BookAnswer.{BookAnswer}
use Rattle.load.specs.BookAnswer.{numbered}
use Rattle.load.specs.Loads.{LoadsAs}
use Rattle.load.proofs.LoadedLaws.{number-of-book, line-of-book}
use Rattle.text.specs.Text.{line_of, stream_names, book_lines}
use Rattle.text.specs.Put.{has_room, Written, write}
use Rattle.reader.specs.declared.Reader.{Reader}
use Rattle.reader.specs.Answer.{Answer}
use Rattle.reader.specs.Machine.{Outcome, close_of}
use Rattle.report.specs.Report.{in_out, written, closing, finish_of, beginning, Begins}

-- ---- finish

module _ (r : Reader) (t : Table) (w o : List ℕ) where
  pub finish-none : length o < 64 → record { reader = r; work = w; read = 0; out = o; used = 0; answer = Ok None } ≡ finish_of r t w o
  unfolding finish_of has_room
  finish-none h = rw (lt-leb 64 (length o) h)

  module _ (has : 64 ≤ length o) (next : Reader) (after : List ℕ) (place : ℕ) where
    abbrev closed : Answer → Outcome
    closed a = record { reader = next; count = 0; answer = a; work = w }

    pub finish-closed : (a : Answer) → closed a ≡ close_of r t w → record { out = after; at = place } ≡ written a o 0
        → record { reader = next; work = w; read = 0; out = after; used = place; answer = a } ≡ finish_of r t w o
    unfolding finish_of has_room write
    finish-closed a e h =
        rw (le-leb 64 (length o) has, sym e) (go a (ap (λ (x : Written). x.out) h) (ap (λ (x : Written). x.at) h))
      where
        go : (a : Answer) → after ≡ (written a o 0).out → place ≡ (written a o 0).at
            → record { reader = next; work = w; read = 0; out = after; used = place; answer = a } ≡ in_out o (closing (closed a))
        go (Ok None) u v = rw (u, v)
        go (Err n) u v = rw (u, v)
        go (Ok (Some x)) u v =
            let n : place ≡ length (line_of x) = omega (arith, rw (le-leb 64 (length o) has) at v) in
            rw (rw (le-leb 64 (length o) has) at u, n)

-- ---- begin

module _ (b o : List ℕ) (a : BookAnswer) (t : Table) (l : LoadsAs b (loaded_as a t)) (number : ℕ) (n : number ≡ (numbered a).number)
    (after : List ℕ) (place : ℕ) where
  number_is : (loads b).number ≡ number
  number_is = sym (number-of-book b (loaded_as a t) l number n)

  pub begin-accepted : number ≡ 0 → record { out = after; at = place } ≡ write o 0 stream_names → Begins b o true t after place
  unfolding beginning
  begin-accepted z h =
      let e : eqb (loads b).number 0 ≡ true = eq-eqb (loads b).number 0 (number_is ∙ z) in
      record { answer = sym e; table_is = l.table; text = rw e h }

  pub begin-refused : (line : ℕ) → (number ≡ 0 → ⊥) → line ≡ (numbered a).line
      → record { out = after; at = place } ≡ write o 0 (book_lines number line) → Begins b o false t after place
  unfolding beginning
  begin-refused line z m h =
      let e : eqb (loads b).number 0 ≡ false = ne_eqb (loads b).number 0 (λ y. z (sym number_is ∙ y)) in
      let k : (loads b).line ≡ line = sym (line-of-book b (loaded_as a t) l line m) in
      record { answer = sym e; table_is = l.table; text = rw (e, number_is, k) h }
