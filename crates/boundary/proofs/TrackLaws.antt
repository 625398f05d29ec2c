-- The track of a part that is read in two pieces, and the machine's state of a track without a fault. Assumes nothing.
use mathlib.Core.List.{List, [], ◌∷◌, ◌++◌}
use mathlib.Core.Path.{◌≡◌, refl, sym, ap, ◌∙◌}
use Prim.Native.Nat.{ℕ, ◌+◌}
use native.Mathlib.Omega.{arith}
use lib.Dec.{ltb}
use Rattle.laws.proofs.TestLaws.{cond-elim}
use Rattle.json_text.specs.Machine.{State, step, run, is_fault, depth_of}
use Rattle.table.specs.Table.{Table}
use Rattle.book.specs.Entry.{Entry}
use Rattle.runs.specs.Walk.{judging}
use Rattle.verdict.specs.declared.Verdict.{Verdict}
use Rattle.verdict.specs.declared.Verdict.TheVariants as Is
use Rattle.verdict.specs.Verdict.{longest}
use Rattle.verdict.specs.Track.{Track, sound, stopped, track_to, track_byte, track, track_start}
use Rattle.verdict.proofs.TrackLaws.{track-stopped}
use Rattle.progress.specs.Memory.{Mem, step_mem}
use Rattle.follows.specs.Follows.{NoRS, read_part}

module _ (es : List Entry) (n : ℕ) where
  pub track-append : (a b : List ℕ) (s : Track es) → track es n s (a ++ b) ≡ track es n (track es n s a) b
  track-append [] b s = refl
  track-append (c ∷ a) b s = track-append a b (track_byte es n s c)

  stopped-not-sound : {X : Type 0} (v : Verdict) (q : State (judging es)) (j : ℕ) → ◌≡◌ {A = Track es} (stopped v) (sound q j) → X
  stopped-not-sound v q j e = let z : ◌≡◌ {A = ℕ} 0 1 = cc in absurd (omega arith)

  -- a track that stopped is not sound later
  pub sound-before : (a b : List ℕ) (q : State (judging es)) (j : ℕ) → track es n (track_start es) (a ++ b) ≡ sound q j
      → (p : State (judging es)) × (i : ℕ) × (track es n (track_start es) a ≡ sound p i)
  sound-before a b q j e = go (track es n (track_start es) a) refl (sym (track-append a b (track_start es)) ∙ e)
    where
      go : (x : Track es) → track es n (track_start es) a ≡ x → track es n (track es n (track_start es) a) b ≡ sound q j
          → (p : State (judging es)) × (i : ℕ) × (track es n (track_start es) a ≡ sound p i)
      go (sound p i) f g = (p, i, f)
      go (stopped v) f g = stopped-not-sound v q j (sym (track-stopped es n v b) ∙ ap (λ (y : Track es). track es n y b) (sym f) ∙ g)

  -- a sound track is where the machine is
  pub run-of-sound : (p : List ℕ) (q : State (judging es)) (i : ℕ) (r : State (judging es)) (j : ℕ) → track es n (sound q i) p ≡ sound r j → r ≡ run (judging es) q p
  unfolding track_byte track_to
  run-of-sound [] q i r j = λ e. cc
  run-of-sound (b ∷ p) q i r j =
      let Q : Track es → Type 0 = λ x. track es n x p ≡ sound r j → r ≡ run (judging es) (step (judging es) q b) p in
      let no : (v : Verdict) → Q (stopped v) = λ v e. stopped-not-sound v r j (sym (track-stopped es n v p) ∙ e) in
      cond-elim Q (ltb i longest) (λ _. cond-elim Q (is_fault (judging es) (step (judging es) q b)) (λ _. no (Is.Malformed i))
      (λ _. cond-elim Q (ltb n (depth_of (judging es) (step (judging es) q b))) (λ _. no (Is.TooDeep i)) (λ _. run-of-sound p (step (judging es) q b) (i + 1) r j)))
      (λ _. no Is.TooLong)

-- ---- memories

module _ (t : Table) (n : ℕ) where
  pub read_part-append : (a b : List ℕ) (m : Mem) → read_part t n m (a ++ b) ≡ read_part t n (read_part t n m a) b
  read_part-append [] b m = refl
  read_part-append (c ∷ a) b m = read_part-append a b (step_mem t n m c)

pub no_rs-append : (a b : List ℕ) → NoRS a → NoRS b → NoRS (a ++ b)
no_rs-append [] b h g = g
no_rs-append (c ∷ a) b h g = (h.0, no_rs-append a b h.1 g)
