-- The verdict of a part as the machine finds it, byte by byte, within the limits on levels and length. Derived: `FoundLaws.judged-of-track` and
-- `JudgedLaws.judged-iff-track` join it to `Judged`. Assumes nothing.
use Rattle.std.specs.Prelude.{Bool, cond, List, [], ◌∷◌, ℕ, ◌+◌, ltb}
use Rattle.std.proofs.Math.Option.{Option, none, some}
use Rattle.json_text.specs.Machine.{State, start, step, is_fault, depth_of, result}
use Rattle.table.specs.declared.kind.ValueKind.{ValueKind}
use Rattle.table.specs.declared.kind.ValueKind.TheVariants.{Rule}
use Rattle.book.specs.Entry.{Entry}
use Rattle.runs.specs.Walk.{judging}
use Rattle.verdict.specs.declared.Verdict.{Verdict}
use Rattle.verdict.specs.declared.Verdict.TheVariants as Is
use Rattle.verdict.specs.Verdict.{longest}

module _ (es : List Entry) where
  -- sound so far, with the number of bytes; or at a fault, whose verdict stays
  pub data Track : Type 0 where
    sound : State (judging es) → ℕ → Track
    stopped : Verdict → Track

  -- the state after byte i, where more than n levels are too deep
  unfoldable pub track_to : ℕ → State (judging es) → ℕ → Track
  track_to n q i = cond (is_fault (judging es) q) (stopped (Is.Malformed i)) (cond (ltb n (depth_of (judging es) q)) (stopped (Is.TooDeep i)) (sound q (i + 1)))

  unfoldable pub track_byte : ℕ → Track → ℕ → Track
  track_byte n (sound q i) b = cond (ltb i longest) (track_to n (step (judging es) q b) i) (stopped Is.TooLong)
  track_byte n (stopped v) b = stopped v

  abbrev pub track : ℕ → Track → List ℕ → Track
  track n s [] = s
  track n s (b ∷ p) = track n (track_byte n s b) p

  abbrev pub track_start : Track
  track_start = sound (start (judging es)) 0

  -- a whole text that fits rule 0 is valid
  unfoldable pub verdict_of : Option (ValueKind → Bool) → ℕ → Verdict
  verdict_of none i = Is.Unfinished i
  verdict_of (some w) i = cond (w (Rule 0)) Is.Valid Is.Invalid

  -- the verdict where the part ends here
  unfoldable pub track_end : Track → Verdict
  track_end (sound q i) = verdict_of (result (judging es) q) i
  track_end (stopped v) = v
