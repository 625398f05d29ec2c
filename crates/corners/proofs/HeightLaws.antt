-- How many levels a text opens: as many as its tree is high. So a text valid under book B opens at most three. Assumes nothing.
use mathlib.Core.List.{List, [], ◌∷◌, append-nil}
use mathlib.Core.Option.{none, some}
use mathlib.Core.Bool.{Bool, true, false, cond}
use mathlib.Core.Path.{◌≡◌, refl, sym, ap, subst, ◌∙◌}
use Prim.Native.Nat.{ℕ, suc, max, ◌+◌, ◌≤◌}
use native.Mathlib.Omega.{arith}
use lib.Dec.{T}
use lib.ListN.{take, drop, take-append-drop}
use Rattle.laws.proofs.TestLaws.{none-neq-some, true-neq-false}
use Rattle.json_text.specs.Tree.{Word, Json, Values, array, object, no_pairs, pairs}
use Rattle.json_text.specs.Meaning.{Meaning, meaning, elements}
use Rattle.json_text.specs.Grammar.{Text, Begins}
use Rattle.json_text.specs.Levels.{open_levels}
use Rattle.json_text.specs.Machine.{Stack, bare, whole, in_array, in_object, depth, finish, close, name, Token, State, fault, at, step, run, start, is_fault, depth_of, whole_of, result}
use Rattle.json_text.specs.Lexer.{may_end}
use Rattle.json_text.specs.declared.lexer.Awaited.TheVariants as P
use Rattle.json_text.specs.declared.lexer.Mode.{Mode}
use Rattle.json_text.specs.declared.lexer.Mode.TheVariants as M
use Rattle.json_text.proofs.Accepted.{accepted-of-text}
use Rattle.json_text.proofs.LevelLaws.{fault-stays, depth-of-run}
use Rattle.json_text.proofs.Faults.{alive-of-begins, begins-of-longer}
use Rattle.verdict.specs.Verdict.{too_long, malformed, too_deep, Faultless}
use Rattle.corners.specs.Corners.{ValidB, Corner, CornersIn, no_corner, corner}
use Rattle.corners.proofs.TookLaws.{Unfinished, Settled, Took, wrong, kept, array-opened, object-opened, named, finished, closed, number-begun, number_read, number-ended, number-closed, took, RootedState, rooted-step, rooted-run, run-append, settled-finish}
use Rattle.corners.proofs.FieldLaws.{IsField, corners-first, name-first, is-corners, IsString, value_string, corners_key, name_key, field-of-valid}

-- how high a value is: 0 for a scalar, one more than the highest of its values for an array or object
abbrev heights : Meaning
heights = record {
  Result = ℕ;
  InString = Unit {0};
  InNumber = Unit {0};
  InArray = ℕ;
  InObject = ℕ;
  of_word = λ (w : Word). 0;
  string_start = tt;
  string_char = λ (s : Unit {0}) (c : ℕ). tt;
  of_string = λ (s : Unit {0}). 0;
  number_start = tt;
  number_byte = λ (s : Unit {0}) (c : ℕ). tt;
  of_number = λ (s : Unit {0}). 0;
  array_start = 0;
  array_element = max;
  of_array = λ (h : ℕ). h + 1;
  object_start = 0;
  object_key = λ (h : ℕ) (k : Unit {0}). h;
  object_value = max;
  of_object = λ (h : ℕ). h + 1;
}

-- the most levels that were open so far
abbrev reach : Stack heights → ℕ
reach bare = 0
reach (whole w) = w
reach (in_array h k) = max (reach k) (depth heights k + 1 + h)
reach (in_object h k) = max (reach k) (depth heights k + 1 + h)

depth-le-reach : (k : Stack heights) → depth heights k ≤ reach k
depth-le-reach bare = omega arith
depth-le-reach (whole w) = omega arith
depth-le-reach (in_array h k) = omega arith
depth-le-reach (in_object h k) = omega arith

-- what is finished is not forgotten
reach-finish : (v : ℕ) (k : Stack heights) → Unfinished heights k → max (reach k) (depth heights k + v) ≤ reach (finish heights v k)
reach-finish v bare u = omega arith
reach-finish v (whole w) u = absurd u
reach-finish v (in_array h k) u = omega arith
reach-finish v (in_object h k) u = omega arith

reach-close : (k : Stack heights) → Settled heights k → reach k ≤ reach (close heights k)
reach-close bare u = omega arith
reach-close (whole w) u = omega arith
reach-close (in_array h k) u = omega (arith, reach-finish (h + 1) k u)
reach-close (in_object h k) u = omega (arith, reach-finish (h + 1) k u)

reach-name : (s : Unit {0}) (k : Stack heights) → reach k ≤ reach (name heights s k)
reach-name s bare = omega arith
reach-name s (whole w) = omega arith
reach-name s (in_array h k) = omega arith
reach-name s (in_object h k) = omega arith

-- ---- a byte, and bytes

abbrev Grows : ℕ → State heights → Type 0
Grows h fault = T true
Grows h (at m g k) = h ≤ reach k

grows-of-took : {m : Mode} {g : Token heights} {k : Stack heights} {b : ℕ} {q : State heights} → Took heights m g k b q → Grows (reach k) q
grows-of-took wrong = tt
grows-of-took (kept o e a r) = omega arith
grows-of-took (array-opened o y h) = omega arith
grows-of-took (object-opened o y h) = omega arith
grows-of-took {k} (named s o h) = reach-name s k
grows-of-took {k} (finished {v} s o h) = omega (arith, reach-finish v k h)
grows-of-took {k} (closed o y h) = reach-close k h
grows-of-took (number-begun o a y h e) = omega arith
grows-of-took (number_read o y h e) = omega arith
grows-of-took {k} (number-ended o y h e r) = omega (arith, reach-finish 0 k h)
grows-of-took {k} (number-closed o y h) = omega (arith, reach-finish 0 k h, reach-close (finish heights 0 k) (settled-finish heights 0 k h))

abbrev reach_of : State heights → ℕ
reach_of fault = 0
reach_of (at m g k) = reach k

-- bytes that lead to no fault: what was reached stays reached
reach-run : (s : List ℕ) (q : State heights) → RootedState heights q → is_fault heights (run heights q s) ≡ false → reach_of q ≤ reach_of (run heights q s)
unfolding step
reach-run [] q r e = omega arith
reach-run (b ∷ s) fault r e = omega arith
reach-run (b ∷ s) (at m g k) r e =
    go (step heights (at m g k) b) (grows-of-took (took heights m g k b r)) e (reach-run s (step heights (at m g k) b) (rooted-step heights (at m g k) b r) e)
  where
    go : (q : State heights) → Grows (reach k) q → is_fault heights (run heights q s) ≡ false → reach_of q ≤ reach_of (run heights q s) → reach k ≤ reach_of (run heights q s)
    go fault h x u = true-neq-false (sym (fault-stays heights s fault refl) ∙ x)
    go (at n f l) h x u = omega arith

-- a whole text is as high as the most levels that were open
reach-of-result : (q : State heights) (w : ℕ) → RootedState heights q → result heights q ≡ some w → reach_of q ≤ w
reach-of-result fault w r e = none-neq-some e
reach-of-result (at (M.At P.Value) g k) w r e = none-neq-some e
reach-of-result (at (M.At P.First) g k) w r e = none-neq-some e
reach-of-result (at (M.At P.Key) g k) w r e = none-neq-some e
reach-of-result (at (M.At P.Colon) g k) w r e = none-neq-some e
reach-of-result (at (M.At P.After) g bare) w r e = none-neq-some e
reach-of-result (at (M.At P.After) g (whole v)) w r e = let x : v ≡ w = cc in omega arith
reach-of-result (at (M.At P.After) g (in_array a k)) w r e = none-neq-some e
reach-of-result (at (M.At P.After) g (in_object a k)) w r e = none-neq-some e
reach-of-result (at (M.Key s) g k) w r e = none-neq-some e
reach-of-result (at (M.Text s) g k) w r e = none-neq-some e
reach-of-result (at (M.Number n) g bare) w r e = omega arith
reach-of-result (at (M.Number n) g (whole v)) w r e = absurd r
reach-of-result (at (M.Number n) g (in_array a k)) w r e = none-neq-some (sym (no_end (may_end n)) ∙ e)
  where
    no_end : (t : Bool) → cond t (whole_of heights (finish heights 0 (in_array a k))) none ≡ none
    no_end true = refl
    no_end false = refl
reach-of-result (at (M.Number n) g (in_object a k)) w r e = none-neq-some (sym (no_end (may_end n)) ∙ e)
  where
    no_end : (t : Bool) → cond t (whole_of heights (finish heights 0 (in_object a k))) none ≡ none
    no_end true = refl
    no_end false = refl
reach-of-result (at (M.Word x i) g k) w r e = none-neq-some e

alive-of-result : (q : State heights) (w : ℕ) → result heights q ≡ some w → is_fault heights q ≡ false
alive-of-result fault w e = none-neq-some e
alive-of-result (at m g k) w e = refl

begins-of-text : {s : List ℕ} {t : Json} → Text s t → Begins s
begins-of-text {s} {t} x = ([], t, subst (λ (r : List ℕ). Text r t) (sym (append-nil s)) x)

-- no beginning of a text has more levels open than its tree is high
pub levels-le-height : {s : List ℕ} {t : Json} → Text s t → (j : ℕ) → open_levels (take j s) ≤ meaning heights t
levels-le-height {s} {t} x j =
    let p : List ℕ = take j s in
    let q : State heights = run heights (start heights) p in
    let e : run heights q (drop j s) ≡ run heights (start heights) s = sym (run-append heights p (drop j s) (start heights)) ∙ ap (run heights (start heights)) (take-append-drop j s) in
    let f : result heights (run heights q (drop j s)) ≡ some (meaning heights t) = rw e (accepted-of-text heights x) in
    let b : Begins p = begins-of-longer p (drop j s) (rw (take-append-drop j s) (begins-of-text x)) in
    let a : is_fault heights q ≡ false = alive-of-begins heights p b in
    let r : RootedState heights q = rooted-run heights p (start heights) tt in
    let u = reach-run (drop j s) q r (alive-of-result (run heights q (drop j s)) (meaning heights t) f) in
    let v = reach-of-result (run heights q (drop j s)) (meaning heights t) (rooted-run heights (drop j s) q r) f in
    omega (arith, depth-of-run heights p a, depth-reach q)
  where
    depth-reach : (q : State heights) → depth_of heights q ≤ reach_of q
    depth-reach fault = omega arith
    depth-reach (at m g k) = depth-le-reach k

-- ---- fields

height-of-corners : {vs : Values} {cs : List Corner} → CornersIn vs cs → (h : ℕ) → h ≤ 1 → elements heights vs h ≤ 1
height-of-corners no_corner h l = l
height-of-corners (corner x) h l = height-of-corners x _ (omega arith)

field-of-three : (k l : List ℕ) (v : Json) {u : Json} → IsString u → meaning heights v ≤ 2
    → (meaning heights (object (pairs k v (pairs l u no_pairs))) ≤ 3) × (meaning heights (object (pairs l u (pairs k v no_pairs))) ≤ 3)
field-of-three k l v value_string h = (omega arith, omega arith)

height-of-field : {v : Json} → IsField v → meaning heights v ≤ 3
height-of-field (corners-first (is-corners {vs} x) y) = (field-of-three corners_key name_key (array vs) y (omega (arith, height-of-corners x 0 (omega arith)))).0
height-of-field (name-first (is-corners {vs} x) y) = (field-of-three corners_key name_key (array vs) y (omega (arith, height-of-corners x 0 (omega arith)))).1

-- a text valid under book B opens at most three levels
pub levels-of-valid : {s : List ℕ} {t : Json} → ValidB s t → (j : ℕ) → open_levels (take j s) ≤ 3
levels-of-valid x j = omega (arith, levels-le-height x.text j, height-of-field (field-of-valid x.valid))

-- so three frames are enough for it: it has no fault
pub faultless-of-valid : {s : List ℕ} {t : Json} → ValidB s t → Faultless 3 s
faultless-of-valid x w j (too_long h) = omega (arith, x.short)
faultless-of-valid {s} x w j (malformed f) =
    f.behind (begins-of-longer (take (suc j) s) (drop (suc j) s) (rw (take-append-drop (suc j) s) (begins-of-text x.text)))
faultless-of-valid x w j (too_deep d) = omega (arith, d.behind, levels-of-valid x (suc j))
