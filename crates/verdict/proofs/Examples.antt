-- The examples hold, by computation of the verdict that the machine finds with the entries of book B. Assumes nothing.
use mathlib.Core.List.{List, map, Memᴰ}
use mathlib.Core.Path.{◌≡◌, refl}
use Rattle.laws.specs.Lists.{same, all, any}
use Rattle.json_text.specs.Bytes.{within, is_blank}
use Rattle.json_text.specs.Classes.{is_break, is_structure, high_class, class_of}
use Rattle.json_text.specs.Grammar.{spelling}
use Rattle.json_text.specs.Numbers.{is_digit, is_digit_1_9, is_e}
use Rattle.json_text.specs.Lexer.{escape_move, hex_of, ranged, or_exp, after_minus, after_zero, after_int, after_frac, after_e, after_exp, digit_only, letter_move, value_start, at_value, at_first_element, at_first_key, at_key, at_colon, after_root, after_element as behindElement, after_pair}
use Rattle.json_text.specs.Machine.{step}
use Rattle.table.specs.Keys.{number_of}
use Rattle.book.specs.Entry.{same_form, with_key, keys_from, keys_of, clash}
use Rattle.book.proofs.Examples.{entries_b, loads-book_b}
use Rattle.whole.specs.Count.{with_digit, enough, is_whole}
use Rattle.whole.specs.Read.{begins}
use Rattle.runs.specs.Sound.{Sound, is_keyed, is_sound}
use Rattle.runs.specs.Walk.{of_scalar, of_rules, is_of, asks, is_array_edge, has_key, any_edge, leads, ends_in, start_of, moved, has_end, after_element, key_count, number_in, at_opening, after_key, fits_edge, after_value, use_key, walk, object_fits}
use Rattle.runs.proofs.SoundLaws.{sound-of-is_sound}
use Rattle.frame.specs.Frame.{frame_count}
use Rattle.verdict.specs.declared.Verdict.{Verdict}
use Rattle.verdict.specs.Verdict.{Judged}
use Rattle.verdict.specs.Track.{track_to, track_byte, track, track_start, verdict_of, track_end}
use Rattle.verdict.specs.Examples.{Row, Says, rows}
use Rattle.verdict.proofs.FoundLaws.{judged-of-track}

sound-entries_b : Sound entries_b
unfolding is_sound is_keyed clash all any same with_key keys_from keys_of number_of
sound-entries_b = sound-of-is_sound entries_b tt

-- the verdict that the machine finds of a row's part
found : Row → Verdict
found x = track_end entries_b (track entries_b (frame_count x.work) (track_start entries_b) x.part)

rows-found : map found rows ≡ map (λ (x : Row). x.verdict) rows
unfolding found within is_blank is_break is_structure high_class class_of spelling is_digit is_digit_1_9 is_e escape_move hex_of
    ranged or_exp after_minus after_zero after_int after_frac after_e after_exp digit_only letter_move value_start at_value at_first_element
    at_first_key at_key at_colon after_root behindElement after_pair step same any with_key keys_from keys_of number_of begins with_digit enough
    is_whole of_scalar of_rules same_form is_of asks is_array_edge has_key any_edge leads ends_in start_of moved has_end after_element key_count
    number_in at_opening after_key fits_edge after_value use_key walk object_fits track_to track_byte verdict_of track_end
rows-found = refl

-- where two maps agree on a list, they agree at each member
eq-of-maps : {A B : Type 0} (f g : A → B) {x : A} {xs : List A} → Memᴰ x xs → map f xs ≡ map g xs → f x ≡ g x
eq-of-maps f g (Memᴰ.head e) h = cc
eq-of-maps f g (Memᴰ.tail {xs} i) h = let t : map f xs ≡ map g xs = cc in eq-of-maps f g i t

found-of-row : (x : Row) → Memᴰ x rows → Judged entries_b (frame_count x.work) x.part x.verdict
unfolding found
found-of-row x i =
    rw (← eq-of-maps found (λ (y : Row). y.verdict) i rows-found) (judged-of-track sound-entries_b (frame_count x.work) x.part)

-- each row of the table has its verdict
pub examples : (x : Row) → Memᴰ x rows → Says x
examples x i = rw loads-book_b (found-of-row x i)
