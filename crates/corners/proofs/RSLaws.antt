-- No text has an RS: wherever it stands, no text goes on with it. Assumes nothing.
use mathlib.Core.Bool.{Bool, true, false, cond}
use mathlib.Core.List.{List, ◌∷◌, ◌++◌}
use mathlib.Core.Path.{◌≡◌, refl, sym, ap, ◌∙◌}
use Prim.Native.Nat.{ℕ, zero, suc, ◌<◌}
use lib.Dec.{eqb, ltb}
use lib.ListN.{length, get_or, take, drop}
use lib.Seq.{split_at}
use Rattle.json_text.specs.Bytes.{within, is_blank}
use Rattle.json_text.specs.Numbers.{is_digit, is_digit_1_9, is_e}
use Rattle.json_text.specs.Tree.{Json}
use Rattle.json_text.specs.Classes.{is_break, is_structure, high_class, class_of}
use Rattle.json_text.specs.Grammar.{Text, spelling}
use Rattle.json_text.specs.Lexer.{unescape, escape_move, hex_of, only, ranged, string_move, or_exp, after_minus, after_zero, after_int, after_frac, after_e, after_exp, digit_only, word_of, letter_move, value_start, at_value, at_first_element, at_first_key, at_key, at_colon, after_root, after_element, after_pair, step_of}
use Rattle.json_text.specs.Machine.{State, fault, at, step, run, start, result, top_of}
use Rattle.json_text.specs.declared.string.StringMode.{StringMode}
use Rattle.json_text.specs.declared.string.StringMode.TheVariants as S
use Rattle.json_text.specs.declared.string.StringMove.TheVariants as SM
use Rattle.json_text.specs.declared.number.NumberMode.TheVariants as N
use Rattle.json_text.specs.declared.word.Word.{Word}
use Rattle.json_text.specs.declared.word.Word.TheVariants as W
use Rattle.json_text.specs.declared.word.WordMove.TheVariants as WM
use Rattle.json_text.specs.declared.lexer.Awaited.TheVariants as P
use Rattle.json_text.specs.declared.lexer.Mode.{Mode}
use Rattle.json_text.specs.declared.lexer.Mode.TheVariants as M
use Rattle.json_text.specs.declared.lexer.Top.{Top}
use Rattle.json_text.specs.declared.lexer.Top.TheVariants as T
use Rattle.json_text.specs.declared.lexer.Act.TheVariants as A
use Rattle.json_text.proofs.Accepted.{accepted-of-text, fault-accepts-none}
use Rattle.corners.specs.Numbers.{numbering}
use Rattle.corners.proofs.TookLaws.{run-append}

-- ---- by the mode

in_string : (s : StringMode) → string_move s 0x1E ≡ SM.Fault
unfolding class_of is_break is_structure high_class is_digit within unescape escape_move hex_of only ranged
in_string S.Char = refl
in_string S.Escape = refl
in_string S.Unit1 = refl
in_string S.Unit2 = refl
in_string S.UnitD = refl
in_string S.Unit3 = refl
in_string S.Unit4 = refl
in_string S.High3 = refl
in_string S.High4 = refl
in_string S.LowBackslash = refl
in_string S.LowU = refl
in_string S.Low1 = refl
in_string S.Low2 = refl
in_string S.Low3 = refl
in_string S.Low4 = refl
in_string S.SecondC2 = refl
in_string S.SecondE0 = refl
in_string S.SecondE1 = refl
in_string S.SecondED = refl
in_string S.SecondEE = refl
in_string S.SecondF0 = refl
in_string S.SecondF1 = refl
in_string S.SecondF4 = refl
in_string S.Tail2 = refl
in_string S.Tail1 = refl

-- a letter of a word
letter : (w : Word) (i : ℕ) → eqb 0x1E (get_or (spelling (word_of w)) i 0) ≡ false
unfolding spelling
letter W.Null zero = refl
letter W.Null (suc zero) = refl
letter W.Null (suc (suc zero)) = refl
letter W.Null (suc (suc (suc zero))) = refl
letter W.Null (suc (suc (suc (suc i)))) = refl
letter W.True zero = refl
letter W.True (suc zero) = refl
letter W.True (suc (suc zero)) = refl
letter W.True (suc (suc (suc zero))) = refl
letter W.True (suc (suc (suc (suc i)))) = refl
letter W.False zero = refl
letter W.False (suc zero) = refl
letter W.False (suc (suc zero)) = refl
letter W.False (suc (suc (suc zero))) = refl
letter W.False (suc (suc (suc (suc zero)))) = refl
letter W.False (suc (suc (suc (suc (suc i))))) = refl

in-word : (w : Word) (i : ℕ) → letter_move (spelling (word_of w)) i 0x1E ≡ WM.Fault
unfolding letter_move
in-word w i = rw (letter w i) (go (ltb i (length (spelling (word_of w)))))
  where
    go : (t : Bool) → cond t WM.Fault WM.Fault ≡ WM.Fault
    go true = refl
    go false = refl

-- with an RS no text goes on
act-of-RS : (m : Mode) (top : Top) → (step_of m top 0x1E).act ≡ A.Fault
unfolding is_blank is_digit is_digit_1_9 is_e within or_exp after_minus after_zero after_int after_frac after_e after_exp digit_only value_start at_value at_first_element at_first_key at_key at_colon after_root after_element after_pair
act-of-RS (M.At P.Value) top = refl
act-of-RS (M.At P.First) T.Bare = refl
act-of-RS (M.At P.First) T.Array = refl
act-of-RS (M.At P.First) T.Object = refl
act-of-RS (M.At P.Key) top = refl
act-of-RS (M.At P.Colon) top = refl
act-of-RS (M.At P.After) T.Bare = refl
act-of-RS (M.At P.After) T.Array = refl
act-of-RS (M.At P.After) T.Object = refl
act-of-RS (M.Key s) top = rw (in_string s) refl
act-of-RS (M.Text s) top = rw (in_string s) refl
act-of-RS (M.Number N.Minus) top = refl
act-of-RS (M.Number N.Dot) top = refl
act-of-RS (M.Number N.E) top = refl
act-of-RS (M.Number N.Sign) top = refl
act-of-RS (M.Number N.Zero) T.Bare = refl
act-of-RS (M.Number N.Zero) T.Array = refl
act-of-RS (M.Number N.Zero) T.Object = refl
act-of-RS (M.Number N.Int) T.Bare = refl
act-of-RS (M.Number N.Int) T.Array = refl
act-of-RS (M.Number N.Int) T.Object = refl
act-of-RS (M.Number N.Frac) T.Bare = refl
act-of-RS (M.Number N.Frac) T.Array = refl
act-of-RS (M.Number N.Frac) T.Object = refl
act-of-RS (M.Number N.Exp) T.Bare = refl
act-of-RS (M.Number N.Exp) T.Array = refl
act-of-RS (M.Number N.Exp) T.Object = refl
act-of-RS (M.Word w i) top = rw (in-word w i) refl

fault-of-RS : (q : State numbering) → step numbering q 0x1E ≡ fault
unfolding step
fault-of-RS fault = refl
fault-of-RS (at m g k) = rw (act-of-RS m (top_of numbering k)) refl

-- so no text has one
pub no-RS-in-text : {s : List ℕ} {t : Json} (i : ℕ) → i < length s → get_or s i 0 ≡ 0x1E → Text s t → ⊥
no-RS-in-text {s} i h e x =
    let p : List ℕ = take i s in
    let u : List ℕ = drop (suc i) s in
    let z : s ≡ p ++ (0x1E ∷ u) = split_at s i 0 h ∙ ap (λ (b : ℕ). p ++ (b ∷ u)) e in
    let f : run numbering (start numbering) s ≡ run numbering fault u =
    ap (run numbering (start numbering)) z ∙ run-append numbering p (0x1E ∷ u) (start numbering)
    ∙ ap (λ (q : State numbering). run numbering q u) (fault-of-RS (run numbering (start numbering) p)) in
    fault-accepts-none numbering u (ap (result numbering) (sym f) ∙ accepted-of-text numbering x)
