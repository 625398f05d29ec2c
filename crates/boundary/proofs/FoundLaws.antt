-- The numbers at level 3 after a piece: those before it, and the run at its end where the reader says that a number at level 3 is being read. Assumes nothing.
use mathlib.Core.Bool.{false, cond, not}
use mathlib.Core.List.{List, [], ◌∷◌, ◌++◌}
use mathlib.Core.Path.{◌≡◌, refl, sym, subst}
use Prim.Native.Nat.{ℕ, ◌*◌, ◌≤◌}
use native.Mathlib.Omega.{arith}
use lib.Dec.{T}
use lib.ListN.{length}
use Rattle.laws.specs.Lists.{all}
use Rattle.json_text.specs.Machine.{State, run, start}
use Rattle.table.specs.Table.{Table}
use Rattle.meaning.specs.Shows.{Carries}
use Rattle.runs.specs.Walk.{judging}
use Rattle.verdict.specs.Track.{Track, sound, stopped, track, track_start}
use Rattle.progress.specs.Memory.{Mem, fresh_mem}
use Rattle.follows.specs.Follows.{PlainKeys, Follows, follows, Tracks, on_track, NoRS, read_part}
use Rattle.follows.proofs.PartLaws.{tracks-part}
use Rattle.corners.specs.Numbers.{is_number_byte, numbering, so_far, numbers_of}
use Rattle.corners.proofs.AlikeLaws.{Alike, both_at, depth-alike, alike}
use Rattle.corners.proofs.TookLaws.{rooted-run, run-append}
use Rattle.corners.proofs.GatherLaws.{Same, With, with-of-piece}
use Rattle.boundary.specs.Exact.{entries}
use Rattle.boundary.specs.Walk.{takes}
use Rattle.boundary.proofs.TrackLaws.{run-of-sound}

-- the reader's mode and level are the machine's
takes-of-alike : {m : Mem} {q : State (judging entries)} {j : ℕ} {p : State numbering} → Follows entries 3 m q j → Alike (judging entries) numbering q p
    → (l : List (List ℕ)) (ds : List ℕ) → With 3 l ds p → so_far 3 p ≡ l ++ cond (takes m.progress) (ds ∷ []) []
unfolding takes
takes-of-alike (follows s) (both_at x) l ds e = rw (depth-alike (judging entries) numbering x) e

module _ {t : Table} (kept : Carries t entries) (plain : PlainKeys entries) (w : List ℕ) (room : 96 * 3 ≤ length w) (a gap ds : List ℕ) (no_rs : NoRS (a ++ (gap ++ ds)))
    (gaps : T (all (λ (b : ℕ). not (is_number_byte b)) gap)) (digits : T (all is_number_byte ds)) (first : gap ≡ [] → a ≡ []) where
  before : State numbering
  before = run numbering (start numbering) a

  same_start : gap ≡ [] → Same 3 (so_far 3 before) before
  unfolding before
  same_start e = rw (first e) (refl, refl)

  with-piece : With 3 (so_far 3 before) ds (run numbering (start numbering) (a ++ (gap ++ ds)))
  unfolding before
  with-piece = rw (run-append numbering a (gap ++ ds) (start numbering)) (with-of-piece 3 gap ds gaps digits before (rooted-run numbering a (start numbering) tt) same_start).0

  by-track : (x : Track entries) → track entries 3 (track_start entries) (a ++ (gap ++ ds)) ≡ x → Tracks entries 3 (read_part t 3 (fresh_mem false w) (a ++ (gap ++ ds))) x
      → (q : State (judging entries)) (j : ℕ) → x ≡ sound q j
      → numbers_of (a ++ (gap ++ ds)) ≡ numbers_of a ++ cond (takes (read_part t 3 (fresh_mem false w) (a ++ (gap ++ ds))).progress) (ds ∷ []) []
  unfolding numbers_of before
  by-track (sound p i) e (on_track f) q j g =
      takes-of-alike f
      (subst (λ (y : State (judging entries)). Alike (judging entries) numbering y (run numbering (start numbering) (a ++ (gap ++ ds))))
      (sym (run-of-sound entries 3 (a ++ (gap ++ ds)) _ 0 p i e)) (alike (judging entries) numbering (a ++ (gap ++ ds))))
      (so_far 3 (run numbering (start numbering) a)) ds with-piece
  by-track (stopped v) e x q j g = let z : ◌≡◌ {A = ℕ} 0 1 = cc in absurd (omega arith)

  -- where the bytes up to the end of the piece have no fault
  pub numbers-of-piece : (q : State (judging entries)) (j : ℕ) → track entries 3 (track_start entries) (a ++ (gap ++ ds)) ≡ sound q j
      → numbers_of (a ++ (gap ++ ds)) ≡ numbers_of a ++ cond (takes (read_part t 3 (fresh_mem false w) (a ++ (gap ++ ds))).progress) (ds ∷ []) []
  numbers-of-piece q j e =
      by-track (track entries 3 (track_start entries) (a ++ (gap ++ ds))) refl (tracks-part kept plain 3 (omega arith) w (a ++ (gap ++ ds)) room no_rs) q j e
