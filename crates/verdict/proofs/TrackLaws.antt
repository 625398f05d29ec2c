-- What the machine does with a byte, case by case: the number of bytes, a fault, the levels. Assumes nothing.
use mathlib.Core.Bool.{true, false}
use mathlib.Core.List.{List, [], ◌∷◌}
use mathlib.Core.Path.{◌≡◌, refl}
use Prim.Native.Nat.{ℕ, suc, ◌≤◌, ◌<◌}
use native.Mathlib.Numerals.{add-one}
use borrow.Author.Tests.{lt-ltb, le-ltb}
use Rattle.json_text.specs.Machine.{State, step, is_fault, depth_of}
use Rattle.book.specs.Entry.{Entry}
use Rattle.runs.specs.Walk.{judging}
use Rattle.verdict.specs.declared.Verdict.{Verdict}
use Rattle.verdict.specs.declared.Verdict.TheVariants as Is
use Rattle.verdict.specs.Verdict.{longest}
use Rattle.verdict.specs.Track.{sound, stopped, track_to, track_byte, track}

module _ (es : List Entry) (n : ℕ) where
  -- a byte after fewer bytes than a record may have is read
  pub track_byte-short : {i : ℕ} (q : State (judging es)) (b : ℕ) → i < longest → track_byte es n (sound q i) b ≡ track_to es n (step (judging es) q b) i
  unfolding track_byte
  track_byte-short q b h = rw lt-ltb

  -- a byte after as many bytes as a record may have makes the record too long
  pub track_byte-long : {i : ℕ} (q : State (judging es)) (b : ℕ) → longest ≤ i → track_byte es n (sound q i) b ≡ stopped Is.TooLong
  unfolding track_byte
  track_byte-long q b h = rw le-ltb

  -- a fault is malformed, whatever the levels
  pub track_to-fault : (q : State (judging es)) (i : ℕ) → is_fault (judging es) q ≡ true → track_to es n q i ≡ stopped (Is.Malformed i)
  unfolding track_to
  track_to-fault q i e = rw e

  -- more levels than n are too deep
  pub track_to-deep : (q : State (judging es)) (i : ℕ) → is_fault (judging es) q ≡ false → n < depth_of (judging es) q → track_to es n q i ≡ stopped (Is.TooDeep i)
  unfolding track_to
  track_to-deep q i e h = rw (e, lt-ltb)

  -- n levels and fewer are not
  pub track_to-sound : (q : State (judging es)) (i : ℕ) → is_fault (judging es) q ≡ false → depth_of (judging es) q ≤ n → track_to es n q i ≡ sound q (suc i)
  unfolding track_to
  track_to-sound q i e h = rw (e, le-ltb, add-one i)

  -- after a fault every byte is passed over
  pub track-stopped : (v : Verdict) (s : List ℕ) → track es n (stopped v) s ≡ stopped v
  unfolding track_byte
  track-stopped v [] = refl
  track-stopped v (b ∷ s) = track-stopped v s
