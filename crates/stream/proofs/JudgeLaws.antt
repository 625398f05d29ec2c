-- Each part has a verdict by an accepted book, and one only, so demand 3 is about a judge that there is: `judges-exist`, `judges-unique`. Assumes
-- nothing.
use mathlib.Core.Bool.{Bool, true, false}
use mathlib.Core.List.{List}
use mathlib.Core.Path.{◌≡◌, refl, sym, ◌∙◌}
use Prim.Native.Nat.{ℕ}
use Rattle.book.specs.Entry.{Entry}
use Rattle.runs.specs.Sound.{Sound}
use Rattle.verdict.specs.Track.{track, track_start, track_end}
use Rattle.verdict.specs.declared.Verdict.TheVariants as Is
use Rattle.verdict.proofs.FoundLaws.{judged-of-track}
use Rattle.verdict.proofs.JudgedLaws.{judged-unique}
use Rattle.stream.specs.Paper.{Judge, Judges}

-- the judge that goes through a part byte by byte
abbrev pub judge_of : List Entry → ℕ → Judge
judge_of es n true p = Is.Head
judge_of es n false p = track_end es (track es n (track_start es) p)

-- the judge that goes through a part byte by byte gives each part its verdict
pub judges-exist : {es : List Entry} → Sound es → (n : ℕ) → Judges es n (judge_of es n)
judges-exist sound-book n = record { head = λ p. refl; part = λ p. judged-of-track sound-book n p }

-- two judges that give each part its verdict give the same, whatever the book
pub judges-unique : {es : List Entry} {n : ℕ} (J K : Judge) → Judges es n J → Judges es n K → (head : Bool) (p : List ℕ) → J head p ≡ K head p
judges-unique J K j k true p = j.head p ∙ sym (k.head p)
judges-unique J K j k false p = judged-unique (j.part p) (k.part p)
