-- The examples hold, by computation of what is judged, with the entries that load gives for book B. Assumes nothing.
use mathlib.Core.Bool.{Bool, true, false, ◌&&◌, beq}
use mathlib.Core.List.{Memᴰ}
use mathlib.Core.Path.{◌≡◌, sym, subst}
use lib.Dec.{T}
use Rattle.laws.specs.Lists.{same, all, any}
use Rattle.laws.proofs.TestLaws.{T-and-left, T-and-right, eq-of-beq}
use Rattle.laws.proofs.ListLaws.{T-of-all}
use Rattle.json_text.specs.Meaning.{meaning}
use Rattle.json_text.specs.Bytes.{within}
use Rattle.json_text.specs.Numbers.{is_digit, is_digit_1_9, is_e}
use Rattle.json_text.specs.Lexer.{or_exp, after_minus, after_zero, after_int, after_frac, digit_only}
use Rattle.whole.specs.Count.{with_digit, enough, is_whole}
use Rattle.whole.specs.Read.{begins}
use Rattle.table.specs.declared.kind.ValueKind.TheVariants.{Rule}
use Rattle.table.specs.Keys.{number_of}
use Rattle.book.specs.Entry.{same_form, with_key, keys_from, keys_of, clash}
use Rattle.book.specs.Load.{PaperAnswer}
use Rattle.book.proofs.Examples.{entries_b, loads-book_b}
use Rattle.runs.specs.Runs.{Valid}
use Rattle.runs.specs.Sound.{is_keyed, is_sound}
use Rattle.runs.specs.Walk.{of_scalar, of_rules, word_has_kind, is_of, asks, is_array_edge, has_key, any_edge, leads, ends_in, start_of, moved, has_end, after_element, key_count, number_in, at_opening, after_key, fits_edge, after_value, use_key, walk, object_fits, judging}
use Rattle.runs.specs.Examples.{Row, rows_with, rows}
use Rattle.runs.proofs.SoundLaws.{sound-of-is_sound}
use Rattle.runs.proofs.Judging.{valid-iff-judged, invalid-iff-judged}

-- what a row says
abbrev pub Says : Bool → Row → Type 0
Says true x = Valid x.book x.value
Says false x = Valid x.book x.value → ⊥

-- what is judged of a row's value
judgement : Row → Bool
judgement x = meaning (judging x.book) x.value (Rule 0)

-- the book is sound, and the verdict is what is judged
agrees : Row → Bool
agrees x = is_sound x.book && beq (judgement x) x.verdict

agree-with-entries_b : T (all agrees (rows_with entries_b))
unfolding agrees judgement is_sound is_keyed clash all any same with_key keys_from keys_of number_of within is_digit is_digit_1_9 is_e or_exp
    after_minus after_zero after_int after_frac digit_only begins with_digit enough is_whole of_scalar of_rules word_has_kind same_form is_of asks
    is_array_edge has_key any_edge leads ends_in start_of moved has_end after_element key_count number_in at_opening after_key fits_edge after_value
    use_key walk object_fits
agree-with-entries_b = tt

rows_agree : T (all agrees rows)
rows_agree = subst (λ (x : PaperAnswer). T (all agrees (rows_with x.entries))) (sym loads-book_b) agree-with-entries_b

says-of-judgement : (x : Row) → T (is_sound x.book) → (b : Bool) → judgement x ≡ b → Says b x
unfolding judgement
says-of-judgement x s true e = (valid-iff-judged (sound-of-is_sound x.book s) x.value).1 e
says-of-judgement x s false e = (invalid-iff-judged (sound-of-is_sound x.book s) x.value).1 e

-- each row of the table is valid or not, as it says
pub examples : (x : Row) → Memᴰ x rows → Says x.verdict x
unfolding agrees
examples x i =
    let h : T (agrees x) = T-of-all agrees rows rows_agree i in
    says-of-judgement x (T-and-left (is_sound x.book) (beq (judgement x) x.verdict) h) x.verdict
    (eq-of-beq (judgement x) x.verdict (T-and-right (is_sound x.book) (beq (judgement x) x.verdict) h))
