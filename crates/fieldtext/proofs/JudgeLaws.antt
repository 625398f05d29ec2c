-- A call of the library with a book: refused, or judged by its table. Assumes nothing.
use mathlib.Core.Bool.{true, false}
use mathlib.Core.List.{List}
use mathlib.Core.Path.{◌≡◌, sym, ◌∙◌}
use Prim.Native.Nat.{ℕ}
use lib.Dec.{eqb}
use borrow.Author.Tests.{eq-eqb, ne_eqb}
use Rattle.book.specs.Load.{loads}
use Rattle.verdict.specs.declared.Word.TheVariants as Says
use Rattle.load.specs.Step.{Loaded}
use Rattle.load.specs.BookAnswer.{numbered}
use Rattle.load.specs.Loads.{LoadsAs}
use Rattle.load.proofs.LoadedLaws.{number-of-book, line-of-book}
use Rattle.entries.specs.Entries.{with_entry, with_entries}
use Rattle.entries.specs.Feeds.{Called, judge_table_of}
use Rattle.fieldtext.specs.Judge.{judges, judge_of}

module _ (b : List ℕ) (x : Loaded) (l : LoadsAs b x) where
  module _ (s : List ℕ) (size : ℕ) (w o : List ℕ) (number : ℕ) (n : number ≡ (numbered x.answer).number) where
    pub judge-refused : (number ≡ 0 → ⊥) → (line : ℕ) → line ≡ (numbered x.answer).line → (after : List ℕ)
        → after ≡ with_entry o 0 (record { word = Says.Refused; number = number; place = line; read = 0 })
        → record { work = w; out = after; made = 1 } ≡ judge_of b s size w o
    unfolding judge_of judges with_entries
    judge-refused un line m after h =
        let k : (loads b).number ≡ number = sym (number-of-book b x l number n) in
        let e : eqb (loads b).number 0 ≡ false = ne_eqb (loads b).number 0 (λ z. un (sym k ∙ z)) in
        rw (e, k, sym (line-of-book b x l line m), h)

    pub judge-accepted : number ≡ 0 → (z : Called) → z ≡ judge_table_of x.table s size w o → z ≡ judge_of b s size w o
    unfolding judge_of judge_table_of judges
    judge-accepted none z h =
        let accepted : eqb (loads b).number 0 ≡ true = eq-eqb (loads b).number 0 (sym (number-of-book b x l number n) ∙ none) in
        h ∙ rw (accepted, sym l.table)
