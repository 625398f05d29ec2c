-- The machine goes the same way whatever values mean: over two meanings it stands in the same mode, with as many values open. Assumes nothing.
use mathlib.Core.Bool.{Bool, true, false}
use mathlib.Core.List.{List, [], ◌∷◌}
use mathlib.Core.Path.{◌≡◌, refl, ap}
use Prim.Native.Nat.{ℕ, suc}
use Rattle.json_text.specs.Meaning.{Meaning}
use Rattle.json_text.specs.Lexer.{step_of}
use Rattle.json_text.specs.Machine.{Stack, bare, whole, in_array, in_object, top_of, depth, finish, close, name, Token, State, fault, at, number_ended, act, step, run, start, gather, char_in}
use Rattle.json_text.specs.declared.lexer.Mode.{Mode}
use Rattle.json_text.specs.declared.lexer.Act.{Act}
use Rattle.json_text.specs.declared.lexer.Act.TheVariants as A
use Rattle.json_text.specs.declared.lexer.Step.{Step}

module _ (𝔸 𝔹 : Meaning) where
  -- the same values are open
  pub data AlikeStacks : Stack 𝔸 → Stack 𝔹 → Type 0 where
    both-bare : AlikeStacks bare bare
    both-whole : {v : 𝔸.Result} {w : 𝔹.Result} → AlikeStacks (whole v) (whole w)
    both-array : {a : 𝔸.InArray} {b : 𝔹.InArray} {k : Stack 𝔸} {l : Stack 𝔹} → AlikeStacks k l → AlikeStacks (in_array a k) (in_array b l)
    both-object : {o : 𝔸.InObject} {p : 𝔹.InObject} {k : Stack 𝔸} {l : Stack 𝔹} → AlikeStacks k l → AlikeStacks (in_object o k) (in_object p l)

  pub data Alike : State 𝔸 → State 𝔹 → Type 0 where
    both-fault : Alike fault fault
    both_at : {m : Mode} {g : Token 𝔸} {h : Token 𝔹} {k : Stack 𝔸} {l : Stack 𝔹} → AlikeStacks k l → Alike (at m g k) (at m h l)

  top_of-alike : {k : Stack 𝔸} {l : Stack 𝔹} → AlikeStacks k l → top_of 𝔸 k ≡ top_of 𝔹 l
  top_of-alike both-bare = refl
  top_of-alike both-whole = refl
  top_of-alike (both-array s) = refl
  top_of-alike (both-object s) = refl

  -- as many values are open
  pub depth-alike : {k : Stack 𝔸} {l : Stack 𝔹} → AlikeStacks k l → depth 𝔸 k ≡ depth 𝔹 l
  depth-alike both-bare = refl
  depth-alike both-whole = refl
  depth-alike (both-array s) = ap suc (depth-alike s)
  depth-alike (both-object s) = ap suc (depth-alike s)

  finish-alike : (v : 𝔸.Result) (w : 𝔹.Result) {k : Stack 𝔸} {l : Stack 𝔹} → AlikeStacks k l → AlikeStacks (finish 𝔸 v k) (finish 𝔹 w l)
  finish-alike v w both-bare = both-whole
  finish-alike v w both-whole = both-whole
  finish-alike v w (both-array s) = both-array s
  finish-alike v w (both-object s) = both-object s

  close-alike : {k : Stack 𝔸} {l : Stack 𝔹} → AlikeStacks k l → AlikeStacks (close 𝔸 k) (close 𝔹 l)
  close-alike both-bare = both-bare
  close-alike both-whole = both-whole
  close-alike (both-array s) = finish-alike _ _ s
  close-alike (both-object s) = finish-alike _ _ s

  name-alike : (n : 𝔸.InString) (m : 𝔹.InString) {k : Stack 𝔸} {l : Stack 𝔹} → AlikeStacks k l → AlikeStacks (name 𝔸 n k) (name 𝔹 m l)
  name-alike n m both-bare = both-bare
  name-alike n m both-whole = both-whole
  name-alike n m (both-array s) = both-array s
  name-alike n m (both-object s) = both-object s

  ended-alike : (e : Bool) (g : Token 𝔸) (h : Token 𝔹) {k : Stack 𝔸} {l : Stack 𝔹} → AlikeStacks k l → AlikeStacks (number_ended 𝔸 e g k) (number_ended 𝔹 e h l)
  ended-alike true g h s = finish-alike _ _ s
  ended-alike false g h s = s

  act-alike : (a : Act) (m : Mode) (c d b : ℕ) (g : Token 𝔸) (h : Token 𝔹) {k : Stack 𝔸} {l : Stack 𝔹} → AlikeStacks k l → Alike (act 𝔸 a m c b g k) (act 𝔹 a m d b h l)
  act-alike A.Fault m c d b g h s = both-fault
  act-alike A.Pass m c d b g h s = both_at s
  act-alike A.OpenArray m c d b g h s = both_at (both-array s)
  act-alike A.OpenObject m c d b g h s = both_at (both-object s)
  act-alike A.Close m c d b g h s = both_at (close-alike s)
  act-alike A.KeyStart m c d b g h s = both_at s
  act-alike A.KeyChar m c d b g h s = both_at s
  act-alike A.KeyEnd m c d b g h s = both_at (name-alike _ _ s)
  act-alike A.TextStart m c d b g h s = both_at s
  act-alike A.TextChar m c d b g h s = both_at s
  act-alike A.TextEnd m c d b g h s = both_at (finish-alike _ _ s)
  act-alike A.NumberStart m c d b g h s = both_at s
  act-alike A.NumberByte m c d b g h s = both_at s
  act-alike (A.WordEnd w) m c d b g h s = both_at (finish-alike _ _ s)

  step-alike : {q : State 𝔸} {r : State 𝔹} (b : ℕ) → Alike q r → Alike (step 𝔸 q b) (step 𝔹 r b)
  unfolding step
  step-alike b both-fault = both-fault
  step-alike b (both_at {m} {g} {h} {k} {l} s) = rw (top_of-alike s) (go (step_of m (top_of 𝔹 l) b))
    where
      go : (st : Step) → Alike (act 𝔸 st.act st.mode (char_in 𝔸 m g b) b (gather 𝔸 m g b) (number_ended 𝔸 st.ends g k))
          (act 𝔹 st.act st.mode (char_in 𝔹 m h b) b (gather 𝔹 m h b) (number_ended 𝔹 st.ends h l))
      go st = act-alike st.act st.mode _ _ b _ _ (ended-alike st.ends g h s)

  -- after any bytes
  pub run-alike : {q : State 𝔸} {r : State 𝔹} (s : List ℕ) → Alike q r → Alike (run 𝔸 q s) (run 𝔹 r s)
  run-alike [] x = x
  run-alike {q} {r} (b ∷ s) x = run-alike {q = step 𝔸 q b} {r = step 𝔹 r b} s (step-alike b x)

  pub alike : (s : List ℕ) → Alike (run 𝔸 (start 𝔸) s) (run 𝔹 (start 𝔹) s)
  alike s = run-alike s (both_at both-bare)
