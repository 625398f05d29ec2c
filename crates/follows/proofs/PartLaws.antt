-- A whole part: the verdict of a memory that has read it is that of the machine; how many bytes are counted; the head. Assumes nothing.
use mathlib.Core.Bool.{Bool, true, false}
use mathlib.Core.List.{List, [], ◌∷◌, ◌++◌}
use mathlib.Core.Path.{◌≡◌, refl, sym, ◌∙◌}
use Prim.Native.Nat.{ℕ, suc, ◌+◌, ◌*◌, ◌≤◌}
use native.Mathlib.Nat.{add-zero}
use native.Mathlib.Omega.{arith}
use lib.Dec.{eqb, ltb}
use lib.ListN.{length}
use borrow.Author.Tests.{lt-ltb}
use Rattle.table.specs.Table.{Table}
use Rattle.book.specs.Entry.{Entry}
use Rattle.meaning.specs.Shows.{Carries}
use Rattle.verdict.specs.declared.Verdict.TheVariants as Is
use Rattle.verdict.specs.Track.{Track, track, track_byte, track_start, track_end}
use Rattle.progress.specs.Progress.{judged}
use Rattle.progress.specs.Memory.{Mem, fresh_mem, step_mem, ends_record, run_mem}
use Rattle.follows.specs.Follows.{PlainKeys, Tracks, NoRS, nonempty, read_part}
use Rattle.progress.proofs.MemoryLaws.{length-step_mem}
use Rattle.follows.proofs.MemoryLaws.{one-le-bump, bump-below, counts-step_mem}
use Rattle.follows.proofs.TrackLaws.{tracks-step, tracks-start, tracks-judged}

-- a byte other than RS joins a part without RS
pub no_rs-last : (p : List ℕ) (b : ℕ) → NoRS p → eqb b 0x1E ≡ false → NoRS (p ++ (b ∷ []))
no_rs-last [] b h e = (e, tt)
no_rs-last (c ∷ p) b h e = (h.0, no_rs-last p b h.1 e)

-- ---- the verdict

module _ {t : Table} {es : List Entry} (kept : Carries t es) (plain : PlainKeys es) (n : ℕ) (few : n ≤ 64) where
  -- a memory that keeps a track keeps it over a part
  pub tracks-more : (m : Mem) (s : Track es) (p : List ℕ) → NoRS p → Tracks es n m s → Tracks es n (read_part t n m p) (track es n s p)
  tracks-more m s [] h r = r
  tracks-more m s (b ∷ p) h r = tracks-more (step_mem t n m b) (track_byte es n s b) p h.1 (tracks-step kept plain n few m s b h.0 r)

  -- a fresh memory keeps the track of a part over its bytes, in any buffer with room for the frames
  pub tracks-part : (w p : List ℕ) → 96 * n ≤ length w → NoRS p → Tracks es n (read_part t n (fresh_mem false w) p) (track es n (track_start es) p)
  tracks-part w p long h = tracks-more (fresh_mem false w) (track_start es) p h (tracks-start es n w long)

  -- the verdict of a memory that was fresh before a part is that of the part's track
  pub judged-part : (w p : List ℕ) → 96 * n ≤ length w → NoRS p
      → judged (read_part t n (fresh_mem false w) p).progress (read_part t n (fresh_mem false w) p).root ≡ track_end es (track es n (track_start es) p)
  judged-part w p long h =
      tracks-judged (read_part t n (fresh_mem false w) p) (track es n (track_start es) p) (tracks-part w p long h)

-- ---- any memory, in any table

module _ (t : Table) (n : ℕ) where
  -- a part leaves the length of the buffer
  pub length_part : (m : Mem) (p : List ℕ) → length (read_part t n m p).work ≡ length m.work
  length_part m [] = refl
  length_part m (b ∷ p) = length_part (step_mem t n m b) p ∙ length-step_mem t n m b

  -- the head stays the head
  pub head-part : (m : Mem) (p : List ℕ) → NoRS p → (read_part t n m p).progress.head ≡ m.progress.head
  head-part m [] h = refl
  head-part m (b ∷ p) h = head-part (step_mem t n m b) p h.1 ∙ (counts-step_mem t n m b h.0).head

  -- the verdict of the head is 15, whatever was read
  pub judged-head : (m : Mem) (p : List ℕ) → NoRS p → m.progress.head ≡ true → judged (read_part t n m p).progress (read_part t n m p).root ≡ Is.Head
  unfolding judged
  judged-head m p h e = rw (head-part m p h, e)

  -- each byte of a part is counted, up to the largest number
  pub pos-counts : (m : Mem) (p : List ℕ) → NoRS p → m.progress.pos + length p ≤ 4294967295 → (read_part t n m p).progress.pos ≡ m.progress.pos + length p
  pos-counts m [] h l = sym (add-zero m.progress.pos)
  pos-counts m (b ∷ p) h l =
      let e : (step_mem t n m b).progress.pos ≡ suc m.progress.pos = (counts-step_mem t n m b h.0).pos ∙ bump-below m.progress.pos (omega arith) in
      pos-counts (step_mem t n m b) p h.1 (omega arith) ∙ omega arith

  -- a count of at least 1 stays so
  one-le-pos-more : (m : Mem) (p : List ℕ) → NoRS p → 1 ≤ m.progress.pos → 1 ≤ (read_part t n m p).progress.pos
  one-le-pos-more m [] h l = l
  one-le-pos-more m (b ∷ p) h l =
      one-le-pos-more (step_mem t n m b) p h.1 (omega (arith, (counts-step_mem t n m b h.0).pos, one-le-bump m.progress.pos))

  -- after a byte at least one is counted
  pub one-le-pos : (m : Mem) (b : ℕ) (p : List ℕ) → NoRS (b ∷ p) → 1 ≤ (read_part t n m (b ∷ p)).progress.pos
  one-le-pos m b p h =
      one-le-pos-more (step_mem t n m b) p h.1 (omega (arith, (counts-step_mem t n m b h.0).pos, one-le-bump m.progress.pos))

  -- the count of a memory that was fresh before a part, in the head or not, tells whether the part is empty
  pub pos-part : (head : Bool) (w p : List ℕ) → NoRS p → ltb 0 (read_part t n (fresh_mem head w) p).progress.pos ≡ nonempty p
  pos-part head w [] h = refl
  pos-part head w (b ∷ p) h = lt-ltb 0 (read_part t n (fresh_mem head w) (b ∷ p)).progress.pos (one-le-pos (fresh_mem head w) b p h)

  -- a part is read byte by byte: its last byte last
  pub read_part-last : (m : Mem) (p : List ℕ) (b : ℕ) → read_part t n m (p ++ (b ∷ [])) ≡ step_mem t n (read_part t n m p) b
  read_part-last m [] b = refl
  read_part-last m (c ∷ p) b = read_part-last (step_mem t n m c) p b

  -- a piece that begins with bytes other than RS is read on after them
  pub run_mem-part : (m : Mem) (i : ℕ) (p s : List ℕ) → NoRS p → run_mem t n m i (p ++ s) ≡ run_mem t n (read_part t n m p) (i + length p) s
  unfolding run_mem ends_record
  run_mem-part m i [] s h = rw add-zero
  run_mem-part m i (b ∷ p) s h =
      let e : i + 1 + length p ≡ i + length (b ∷ p) = omega arith in
      rw h.0 (run_mem-part (step_mem t n m b) (i + 1) p s h.1 ∙ rw e)
