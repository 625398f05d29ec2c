-- The kinds that a field names. Assumes nothing.
use mathlib.Core.Bool.{Bool, true, false, cond, ◌||◌}
use mathlib.Core.List.{List}
use mathlib.Core.Path.{◌≡◌, refl, sym, ap, ◌∙◌}
use Prim.Native.Nat.{ℕ}
use lib.Dec.{ltb}
use Rattle.std.proofs.Common.{Option, Some, None}
use Rattle.std.specs.Option.{is_some, option_map}
use Rattle.laws.specs.Lists.{same}
use Rattle.table.specs.declared.kind.Scalar.{Scalar}
use Rattle.table.specs.declared.kind.Scalar.TheVariants.{Null, True, False, Str, Num, Int}
use Rattle.table.specs.declared.kind.ValueKind.{ValueKind}
use Rattle.table.specs.declared.kind.ValueKind.TheVariants.{Plain, Rule}
use Rattle.book.specs.Text.{is_number, number}
use Rattle.book.specs.Line.{is_plain, behind_r, is_kind, kind_in, small_kind, word_null, word_true, word_false, word_str, word_num, word_int}
use Rattle.scan.specs.Scan.{below, kind_below, word_of}

-- the kind of a field by its word, and by the number of a rule where the word names none
kind_with : Option Scalar → ℕ → ValueKind
kind_with (Some k) n = Plain k
kind_with None n = Rule n

-- a field names a plain kind exactly where its word does, and else a rule
kind-of-word : (s : List ℕ) → (is_plain s ≡ is_some (word_of s)) × (kind_in s ≡ kind_with (word_of s) (number (behind_r s)))
unfolding is_plain kind_in word_of kind_with
kind-of-word s = go (same s word_null) (same s word_true) (same s word_false) (same s word_str) (same s word_num) (same s word_int)
  where
    word : Bool → Bool → Bool → Bool → Bool → Bool → Option Scalar
    word a b c d e f = cond a (Some Null) (cond b (Some True) (cond c (Some False) (cond d (Some Str) (cond e (Some Num) (cond f (Some Int) None)))))

    kind : Bool → Bool → Bool → Bool → Bool → Bool → ValueKind
    kind a b c d e f =
        cond a (Plain Null) (cond b (Plain True) (cond c (Plain False) (cond d (Plain Str) (cond e (Plain Num) (cond f (Plain Int) (Rule (number (behind_r s))))))))

    go : (a b c d e f : Bool)
        → ((a || (b || (c || (d || (e || f))))) ≡ is_some (word a b c d e f)) × (kind a b c d e f ≡ kind_with (word a b c d e f) (number (behind_r s)))
    go true b c d e f = (refl, refl)
    go false true c d e f = (refl, refl)
    go false false true d e f = (refl, refl)
    go false false false true e f = (refl, refl)
    go false false false false true f = (refl, refl)
    go false false false false false true = (refl, refl)
    go false false false false false false = (refl, refl)

module _ (s : List ℕ) (w : Option Scalar) (qw : w ≡ word_of s) where
  pub is_kind-by-word : (b r : Bool) → b ≡ is_some w → r ≡ is_number (behind_r s) → (b || r) ≡ is_kind s
  unfolding is_kind
  is_kind-by-word b r p q = rw (p, qw, q, ← (kind-of-word s).0)

  pub kind-plain : (k : Scalar) → w ≡ Some k → Some (Plain k) ≡ kind_below (kind_in s)
  unfolding kind_with kind_below small_kind
  kind-plain k e = rw ((kind-of-word s).1, sym qw ∙ e)

  rule : (o : Option ℕ) → w ≡ None → o ≡ below 32 (number (behind_r s)) → option_map Rule o ≡ kind_below (kind_in s)
  unfolding kind_with kind_below small_kind below
  rule o e q = rw (q, (kind-of-word s).1, sym qw ∙ e) (go (ltb (number (behind_r s)) 32))
    where
      go : (b : Bool) → option_map Rule (cond b (Some (number (behind_r s))) None) ≡ cond b (Some (Rule (number (behind_r s)))) None
      go true = refl
      go false = refl

  pub kind-rule : (o : Option ℕ) (n : ℕ) → w ≡ None → o ≡ below 32 (number (behind_r s)) → o ≡ Some n → Some (Rule n) ≡ kind_below (kind_in s)
  kind-rule o n e q p = ap (option_map Rule) (sym p) ∙ rule o e q

  pub kind-over : (o : Option ℕ) → w ≡ None → o ≡ below 32 (number (behind_r s)) → o ≡ None → None ≡ kind_below (kind_in s)
  kind-over o e q p = ap (option_map Rule) (sym p) ∙ rule o e q
