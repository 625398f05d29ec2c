-- The test of a book means what it is for. Assumes nothing.
use mathlib.Core.Bool.{Bool, not}
use mathlib.Core.List.{List}
use lib.Dec.{T}
use borrow.Author.Tests.{not-true}
use Rattle.laws.specs.Lists.{all}
use Rattle.laws.proofs.TestLaws.{true-of-T, T-and-left, T-and-right}
use Rattle.laws.proofs.ListLaws.{T-of-all}
use Rattle.book.specs.Entry.{Entry, keys_of, clash}
use Rattle.runs.specs.Sound.{Sound, is_keyed, is_sound}

-- a book that passes the test is sound
pub sound-of-is_sound : (es : List Entry) → T (is_sound es) → Sound es
unfolding is_sound is_keyed
sound-of-is_sound es h =
    record {
      keyed = λ {r} {q} {m} {t} i. T-of-all is_keyed es (T-and-left (all is_keyed es) (all clear es) h) i;
      ascending = λ {a} {b} i j. not-true (clash (keys_of es) a b) (true-of-T (not (clash (keys_of es) a b)) (T-of-all (λ (b : Entry). not (clash (keys_of es) a b)) es (T-of-all clear es (T-and-right (all is_keyed es) (all clear es) h) i) j));
    }
  where
    clear : Entry → Bool
    clear a = all (λ (b : Entry). not (clash (keys_of es) a b)) es
