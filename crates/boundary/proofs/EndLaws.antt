-- The walk from its first byte to the verdict, in the form of the code's needs. Assumes nothing.
use Rattle.std.specs.Prelude.{Option, None, Result, Ok, Err}
use mathlib.Core.Bool.{Bool, true, false, cond}
use mathlib.Core.List.{List, [], ◌∷◌}
use mathlib.Core.Path.{◌≡◌, refl, sym, ap, subst, ◌∙◌}
use Prim.Native.Nat.{ℕ, ◌*◌, ◌≤◌}
use native.Mathlib.Omega.{arith}
use lib.Dec.{ltb}
use lib.IntN.{ℤ, pos}
use lib.ListN.{length, take, replicate}
use lib.Seq.{take_all}
use Rattle.laws.specs.Lists.{any}
use Rattle.std.specs.Bool.{then_some}
use Rattle.table.specs.Table.{Table}
use Rattle.book.specs.Examples.{book_b}
use Rattle.load.specs.Loads.{book_table}
use Rattle.verdict.specs.declared.Verdict.{Verdict}
use Rattle.verdict.specs.declared.Verdict.TheVariants as Given
use Rattle.verdict.specs.Track.{Track, sound, stopped, track, track_start, verdict_of, track_end}
use Rattle.progress.specs.Progress.{judged}
use Rattle.progress.specs.Memory.{Mem, fresh_mem}
use Rattle.follows.specs.Follows.{FaultIs, Tracks, off_track, NoRS, nonempty, read_part}
use Rattle.follows.proofs.PartLaws.{tracks-part, judged-part, pos-part, length_part}
use Rattle.demand.proofs.BookLaws.{carries-of-book, plain-of-book}
use Rattle.reader.specs.declared.Reader.{Reader}
use Rattle.reader.specs.declared.Refusal.{Refusal}
use Rattle.reader.specs.Said.{started}
use Rattle.reader.specs.Answer.{Answer}
use Rattle.reader.specs.Refusals.{let_in, fit_reader, within_reader, call_gate}
use Rattle.reader.specs.Tally.{zero_tally}
use Rattle.reader.specs.Start.{Start, fresh_reader, start_of}
use Rattle.reader.specs.Machine.{Outcome, memory_of, ending, feed_of, closing, close_of}
use Rattle.reader.proofs.RefusalLaws.{start-open-of-room, call-open-of-room}
use Rattle.stream.proofs.FreshLaws.{feed-of-RS}
use Rattle.corners.specs.Numbers.{numbers_of}
use Rattle.boundary.specs.Exact.{entries, is_valid, valid_b, unfit_in, filled}
use Rattle.boundary.specs.Walk.{Walked}
use Rattle.boundary.specs.Steps.{begun, Stands, says_valid, ReadsAs}
use Rattle.boundary.specs.declared.walk.Walk.{Walk}
use Rattle.boundary.specs.declared.walk.Numbers.{Numbers}
use Rattle.boundary.proofs.BookLaws.{book-b, limits-b}
use Rattle.boundary.proofs.MemoryLaws.{within-true}
use Rattle.boundary.proofs.FilledLaws.{filled_none}
use Rattle.boundary.proofs.StepLaws.{valid-is}

-- ---- before the first byte

pub walked_start : {t : Table} {s : List ℕ} {w : Walk} {l : List ℤ} → w ≡ begun → l ≡ replicate 2048 (pos 0) → Stands t s w l
unfolding unfit_in numbers_of any
walked_start {t} {s} {w} e f =
    rw e
    record {
      inside = omega arith;
      plain = tt;
      cut = λ x _. absurd (omega arith);
      first = replicate 288 0;
      room = refl;
      frames = refl;
      level = omega arith;
      len = omega arith;
      memory = refl;
      numbers = [];
      found = λ q j x. refl;
      few = omega arith;
      taken = refl;
      unfit = refl;
      placed = f ∙ sym filled_none;
    }

-- ---- over the text

-- ---- a reader behind an RS

-- a start with the table of book B and three frames is let in
pub started-fresh : (t : Table) (w : List ℕ) (x : Result Reader Refusal) → t ≡ book_table book_b → length w ≡ 288 → started x ≡ start_of t w
    → x ≡ Ok (fresh_reader 3 true zero_tally)
unfolding start_of
started-fresh t w x b h e = go x (rw (start-open-of-room t (length w) (limits-b b) (omega arith), h) at e)
  where
    go : (x : Result Reader Refusal) → started x ≡ record { reader = fresh_reader 3 true zero_tally; answer = Ok None } → x ≡ Ok (fresh_reader 3 true zero_tally)
    go (Ok r) e = ap (λ (z : Start). Ok z.reader) e
    go (Err n) e = let q : Err n ≡ Ok None = ap (λ (z : Start). z.answer) e in cc

pub fresh-of-ok : {r o : Reader} → ◌≡◌ {A = Result Reader Refusal} (Ok r) (Ok o) → r ≡ o
fresh-of-ok e = cc

pub behind-of-feed : {t : Table} {w v : List ℕ} {r o : Reader} {b : Answer} {c : ℕ} → t ≡ book_table book_b → length w ≡ 288 → r ≡ fresh_reader 3 true zero_tally
    → record { reader = o; count = c; answer = b; work = v } ≡ feed_of r t w (0x1E ∷ []) → (o ≡ fresh_reader 3 false zero_tally) × (v ≡ w)
unfolding fit_reader
behind-of-feed {t} {w} {v} {r} {o} {b} {c} e h x y =
    let f = rw x at y ∙ feed-of-RS (fresh_reader 3 true zero_tally) t w (call-open-of-room 3 t (length w) (limits-b e) (omega arith)) in
    (ap (λ (q : Outcome). q.reader) f, ap (λ (q : Outcome). q.work) f)

-- ---- the verdict

module _ {t : Table} {s : List ℕ} {r : Reader} {w : List ℕ} {n : ℕ} {u : Bool} {l : List ℤ} (x : Walked t s (length s) r w n u l) (b : t ≡ book_table book_b) where
  all-taken : take (length s) s ≡ s
  all-taken = take_all (length s) s (omega arith)

  plain-all : NoRS s
  plain-all = subst NoRS all-taken x.plain

  memory-all : memory_of r w ≡ read_part t 3 (fresh_mem false x.first) s
  memory-all = x.memory ∙ ap (read_part t 3 (fresh_mem false x.first)) all-taken

  room-all : 96 * 3 ≤ length w
  room-all = omega (arith, ap (λ (m : Mem). length m.work) memory-all, length_part t 3 (fresh_mem false x.first) s, x.room)

  open-close : call_gate (within_reader r) r.frames t (length w) ≡ let_in
  open-close = rw (within-true r x.frames x.level x.len) (call-open-of-room r.frames t (length w) (limits-b b) (omega (arith, x.frames, room-all)))

  -- the verdict of the text
  verdict-all : judged r.progress r.root ≡ track_end entries (track entries 3 (track_start entries) s)
  verdict-all =
      ap (λ (m : Mem). judged m.progress m.root) memory-all
      ∙ judged-part (carries-of-book (book-b b)) (plain-of-book (book-b b)) 3 (omega arith) x.first s (omega (arith, x.room)) plain-all

  begun-as : ltb 0 r.progress.pos ≡ nonempty s
  begun-as = ap (λ (m : Mem). ltb 0 m.progress.pos) memory-all ∙ pos-part t 3 false x.first s plain-all

  valid-all : says_valid (close_of r t w).answer ≡ valid_b s
  unfolding close_of closing valid_b track_end verdict_of
  valid-all = rw (open-close, begun-as) (go s refl)
    where
      go : (p : List ℕ) → p ≡ s
          → says_valid (cond (nonempty p) (ending r (memory_of r w) 0 true) (record { reader = fresh_reader r.frames true r.tally; count = 0; answer = Ok None; work = w })).answer
          ≡ is_valid (track_end entries (track entries 3 (track_start entries) p))
      go [] e = refl
      go (c ∷ p) e = ap is_valid (verdict-all ∙ ap (λ (q : List ℕ). track_end entries (track entries 3 (track_start entries) q)) (sym e))

  by-track : (y : Track entries) → track entries 3 (track_start entries) s ≡ y → Tracks entries 3 (read_part t 3 (fresh_mem false x.first) s) y
      → track_end entries y ≡ Given.Valid → x.numbers ≡ numbers_of s
  unfolding track_end
  by-track (sound q j) e f v = x.found q j (rw all-taken e) ∙ ap numbers_of all-taken
  by-track (stopped v) e (off_track h f p) z = absurd (subst (λ (u : Verdict). FaultIs u (read_part t 3 (fresh_mem false x.first) s).progress) z f)

  numbers-all : valid_b s ≡ true → x.numbers ≡ numbers_of s
  unfolding valid_b
  numbers-all v =
      by-track (track entries 3 (track_start entries) s) refl
      (tracks-part (carries-of-book (book-b b)) (plain-of-book (book-b b)) 3 (omega arith) x.first s (omega (arith, x.room)) plain-all)
      (valid-is (track_end entries (track entries 3 (track_start entries) s)) v)

  pub reads-closed : {y : Option Numbers} → y ≡ then_some (says_valid (close_of r t w).answer) (record { taken = n; unfit = u }) → ReadsAs s y l
  reads-closed e = rw (e, valid-all) (go (valid_b s) refl)
    where
      go : (v : Bool) → valid_b s ≡ v → ReadsAs s (then_some v (record { taken = n; unfit = u })) l
      go true v =
          record {
            valid = v;
            taken = x.taken ∙ ap length (numbers-all v);
            unfit = x.unfit ∙ ap unfit_in (numbers-all v);
            memory = x.placed ∙ ap filled (numbers-all v);
          }
      go false v = v
