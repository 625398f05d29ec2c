-- Scalars are judged as they fit. Assumes nothing.
use mathlib.Core.Bool.{Bool, true, false, cond}
use mathlib.Core.List.{List}
use Prim.Native.Nat.{ℕ}
use lib.Dec.{T}
use Rattle.json_text.specs.Tree.{Word, null_word, true_word, false_word, word, string, number}
use Rattle.json_text.specs.Meaning.{fold}
use Rattle.whole.specs.Whole.{Whole}
use Rattle.whole.specs.Count.{unbounded}
use Rattle.whole.specs.Read.{unread, read_byte, reads_whole}
use Rattle.whole.proofs.ReadLaws.{whole-of-read, read-of-whole}
use Rattle.table.specs.declared.kind.Scalar.TheVariants.{Null, True, False, Str, Num, Int}
use Rattle.table.specs.declared.kind.ValueKind.{ValueKind}
use Rattle.table.specs.declared.kind.ValueKind.TheVariants.{Plain, Rule}
use Rattle.book.specs.Entry.{Entry}
use Rattle.runs.specs.Runs.{Fits, fits_null, fits_true, fits_false, fits_str, fits_num, fits_int, order_word, order_string, order_number, FitsInSomeOrder, in_order}
use Rattle.runs.specs.Walk.{of_scalar, word_has_kind}
use Rattle.runs.proofs.WalkLaws.{Evaluated}

module _ (es : List Entry) where
  -- ---- words

  fits-of-word : (x : Word) (t : ValueKind) → T (word_has_kind x t) → Fits es t (word x)
  unfolding word_has_kind of_scalar
  fits-of-word null_word (Plain Null) h = fits_null
  fits-of-word null_word (Plain True) h = absurd h
  fits-of-word null_word (Plain False) h = absurd h
  fits-of-word null_word (Plain Str) h = absurd h
  fits-of-word null_word (Plain Num) h = absurd h
  fits-of-word null_word (Plain Int) h = absurd h
  fits-of-word null_word (Rule n) h = absurd h
  fits-of-word true_word (Plain Null) h = absurd h
  fits-of-word true_word (Plain True) h = fits_true
  fits-of-word true_word (Plain False) h = absurd h
  fits-of-word true_word (Plain Str) h = absurd h
  fits-of-word true_word (Plain Num) h = absurd h
  fits-of-word true_word (Plain Int) h = absurd h
  fits-of-word true_word (Rule n) h = absurd h
  fits-of-word false_word (Plain Null) h = absurd h
  fits-of-word false_word (Plain True) h = absurd h
  fits-of-word false_word (Plain False) h = fits_false
  fits-of-word false_word (Plain Str) h = absurd h
  fits-of-word false_word (Plain Num) h = absurd h
  fits-of-word false_word (Plain Int) h = absurd h
  fits-of-word false_word (Rule n) h = absurd h

  word-of-fits : {x : Word} {t : ValueKind} → Fits es t (word x) → T (word_has_kind x t)
  unfolding word_has_kind of_scalar
  word-of-fits fits_null = tt
  word-of-fits fits_true = tt
  word-of-fits fits_false = tt

  pub judged-word : (x : Word) → Evaluated es (word x)
  judged-word x = record { fits = λ t h. in_order order_word (fits-of-word x t h); judged = λ t f. back f }
    where
      back : {t : ValueKind} → FitsInSomeOrder es t (word x) → T (word_has_kind x t)
      back (in_order order_word f) = word-of-fits f

  -- ---- strings

  fits-of-string : (cs : List ℕ) (t : ValueKind) → T (of_scalar Str t) → Fits es t (string cs)
  unfolding of_scalar
  fits-of-string cs (Plain Null) h = absurd h
  fits-of-string cs (Plain True) h = absurd h
  fits-of-string cs (Plain False) h = absurd h
  fits-of-string cs (Plain Str) h = fits_str
  fits-of-string cs (Plain Num) h = absurd h
  fits-of-string cs (Plain Int) h = absurd h
  fits-of-string cs (Rule n) h = absurd h

  pub judged-string : (cs : List ℕ) → Evaluated es (string cs)
  unfolding of_scalar
  judged-string cs = record { fits = λ t h. in_order order_string (fits-of-string cs t h); judged = λ t f. back f }
    where
      of-fits : {t : ValueKind} → Fits es t (string cs) → T (of_scalar Str t)
      of-fits fits_str = tt

      back : {t : ValueKind} → FitsInSomeOrder es t (string cs) → T (of_scalar Str t)
      back (in_order order_string f) = of-fits f

  -- ---- numbers

  fits-of-number : (ds : List ℕ) (b : Bool) → (T b → Whole ds) → (t : ValueKind) → T (of_scalar (cond b Int Num) t) → Fits es t (number ds)
  unfolding of_scalar
  fits-of-number ds true e (Plain Null) h = absurd h
  fits-of-number ds true e (Plain True) h = absurd h
  fits-of-number ds true e (Plain False) h = absurd h
  fits-of-number ds true e (Plain Str) h = absurd h
  fits-of-number ds true e (Plain Num) h = fits_num
  fits-of-number ds true e (Plain Int) h = fits_int (e tt)
  fits-of-number ds true e (Rule n) h = absurd h
  fits-of-number ds false e (Plain Null) h = absurd h
  fits-of-number ds false e (Plain True) h = absurd h
  fits-of-number ds false e (Plain False) h = absurd h
  fits-of-number ds false e (Plain Str) h = absurd h
  fits-of-number ds false e (Plain Num) h = fits_num
  fits-of-number ds false e (Plain Int) h = absurd h
  fits-of-number ds false e (Rule n) h = absurd h

  number-fits-num : (b : Bool) → T (of_scalar (cond b Int Num) (Plain Num))
  unfolding of_scalar
  number-fits-num true = tt
  number-fits-num false = tt

  whole-fits-int : (b : Bool) → T b → T (of_scalar (cond b Int Num) (Plain Int))
  unfolding of_scalar
  whole-fits-int true h = tt
  whole-fits-int false h = h

  -- the bytes are read as a whole number
  abbrev whole_in : List ℕ → Bool
  whole_in ds = reads_whole (fold (read_byte unbounded) unread ds)

  number-of-fits : {ds : List ℕ} {t : ValueKind} → Fits es t (number ds) → T (of_scalar (cond (whole_in ds) Int Num) t)
  number-of-fits (fits_num {ds}) = number-fits-num (whole_in ds)
  number-of-fits (fits_int {ds} h) = whole-fits-int (whole_in ds) (read-of-whole h)

  pub judged-number : (ds : List ℕ) → Evaluated es (number ds)
  judged-number ds =
      record { fits = λ t h. in_order order_number (fits-of-number ds (whole_in ds) (whole-of-read ds) t h); judged = λ t f. back f }
    where
      back : {t : ValueKind} → FitsInSomeOrder es t (number ds) → T (of_scalar (cond (whole_in ds) Int Num) t)
      back (in_order order_number f) = number-of-fits f
