-- The memory follows the paper: kept by each byte of a piece, an RS included. Assumes nothing.
use Rattle.std.specs.Prelude.{Ok, Some, None}
use mathlib.Core.Bool.{Bool, true, false, cond}
use mathlib.Core.List.{List, [], ◌∷◌, ◌++◌}
use mathlib.Core.Path.{◌≡◌, refl, sym, ap, ◌∙◌}
use Prim.Native.Nat.{ℕ, ◌+◌, ◌*◌, ◌≤◌}
use lib.Dec.{eqb, ltb}
use lib.ListN.{length}
use Rattle.table.specs.Table.{Table}
use Rattle.book.specs.Entry.{Entry}
use Rattle.verdict.specs.Track.{Track, track_start, track_byte, track}
use Rattle.verdict.proofs.JudgedLaws.{judged-iff-track}
use Rattle.progress.specs.Progress.{judged}
use Rattle.progress.specs.Memory.{Mem, fresh_mem, step_mem, Ran, run_mem}
use Rattle.reader.specs.Answer.{Answer}
use Rattle.stream.specs.Paper.{Judge, Judges, Paper, nonempty, Said, goes}
use Rattle.progress.proofs.MemoryLaws.{fresh-of-RS}
use Rattle.stream.specs.Bytes.{Reading}
use Rattle.stream.proofs.ByteLaws.{moves-of-byte, bump-pos, ends_record-of-RS, ends_record-of-byte}

-- ---- the relation

-- in the head bytes are counted, and no more: an RS gives the fresh record, whatever else is known
pub record InHead (m : Mem) : Type 0 where
  pub head : m.progress.head ≡ true

-- after an RS the memory follows the track of the part
pub record InRecord (es : List Entry) (Along : Mem → Track es → Type 0) (n : ℕ) (m : Mem) (part : List ℕ) : Type 0 where
  pub head : m.progress.head ≡ false
  pub tracks : Along m (track es n (track_start es) part)

abbrev pub Reads : (es : List Entry) → (Mem → Track es → Type 0) → ℕ → Bool → Mem → List ℕ → Type 0
Reads es Along n true m part = InHead m
Reads es Along n false m part = InRecord es Along n m part

-- with n frames the memory m has read what the paper p holds; `Along` joins it to the track
pub record Follows (es : List Entry) (Along : Mem → Track es → Type 0) (n : ℕ) (m : Mem) (p : Paper) : Type 0 where
  pub some : ltb 0 m.progress.pos ≡ nonempty p.part
  pub long : 96 * n ≤ length m.work
  pub reads : Reads es Along n p.head m p.part

-- ---- what a piece gives

-- the answer to a piece
abbrev pub heard : Ran → Answer
heard e = cond e.ended (Ok (Some (judged e.memory.progress e.memory.root))) (Ok None)

-- the memory after a piece
abbrev pub memory_after : Ran → Mem
memory_after e = cond e.ended (fresh_mem false e.memory.work) e.memory

-- what a piece gives is what the paper says to it
pub record Agrees (es : List Entry) (Along : Mem → Track es → Type 0) (n : ℕ) (e : Ran) (said : Said) : Type 0 where
  pub count : e.count ≡ said.count
  pub answer : heard e ≡ said.answer
  pub follows : Follows es Along n (memory_after e) said.paper

-- ---- lists and records

-- a byte more on the track
track-of-byte : (es : List Entry) (n : ℕ) (s : Track es) (p : List ℕ) (b : ℕ) → track es n s (p ++ (b ∷ [])) ≡ track_byte es n (track es n s p) b
track-of-byte es n s [] b = refl
track-of-byte es n s (c ∷ p) b = track-of-byte es n (track_byte es n s c) p b

nonempty-of-byte : (p : List ℕ) (b : ℕ) → nonempty (p ++ (b ∷ [])) ≡ true
nonempty-of-byte [] b = refl
nonempty-of-byte (c ∷ p) b = refl

module _ {Book : Table → List Entry → Type 0} {Tracks : (es : List Entry) → ℕ → Mem → Track es → Type 0} (facts : Reading Book Tracks)
    {t : Table} {es : List Entry} (book : Book t es) (n : ℕ) (least : 1 ≤ n) (most : n ≤ 64) (J : Judge) (judge : Judges es n J) where
  abbrev Follow : Mem → Paper → Type 0
  Follow m p = Follows es (Tracks es n) n m p

  -- a record that begins, whatever the buffer holds
  pub follows-of-fresh : (head : Bool) (w : List ℕ) → 96 * n ≤ length w → Follow (fresh_mem head w) (record { head = head; part = [] })
  follows-of-fresh true w h = record { some = refl; long = h; reads = record { head = refl } }
  follows-of-fresh false w h = record { some = refl; long = h; reads = record { head = refl; tracks = facts.start book n least most w h } }

  -- the verdict of the part is the memory's
  pub judged-of-follows : (m : Mem) (head : Bool) (part : List ℕ) → Follow m (record { head = head; part = part }) → judged m.progress m.root ≡ J head part
  unfolding judged
  judged-of-follows m true part f = rw f.reads.head (sym (judge.head part))
  judged-of-follows m false part f =
      facts.verdict book f.reads.tracks ∙ sym ((judged-iff-track (facts.sound book) n part (J false part)).0 (judge.part part))

  -- a byte other than RS joins the part
  follows-of-byte : (m : Mem) (head : Bool) (part : List ℕ) (b : ℕ) → eqb b 0x1E ≡ false → Follow m (record { head = head; part = part })
      → Follow (step_mem t n m b) (record { head = head; part = part ++ (b ∷ []) })
  follows-of-byte m head part b e f =
      record {
        some = rw (moves-of-byte t n m b e).pos (bump-pos m.progress.pos ∙ sym (nonempty-of-byte part b));
        long = rw (facts.length_kept t n m b) f.long;
        reads = reads_of head f.reads;
      }
    where
      tracked : InRecord es (Tracks es n) n m part → Tracks es n (step_mem t n m b) (track es n (track_start es) (part ++ (b ∷ [])))
      tracked i = rw (track-of-byte es n (track_start es) part b) (facts.byte book least most i.tracks b e)

      reads_of : (h : Bool) → Reads es (Tracks es n) n h m part → Reads es (Tracks es n) n h (step_mem t n m b) (part ++ (b ∷ []))
      reads_of true i = record { head = (moves-of-byte t n m b e).head ∙ i.head }
      reads_of false i = record { head = (moves-of-byte t n m b e).head ∙ i.head; tracks = tracked i }

  -- an RS before any byte of a record ends the head
  follows-of-RS : (m : Mem) (p : Paper) (b : ℕ) → eqb b 0x1E ≡ true → Follow m p → Follow (step_mem t n m b) (record { head = false; part = [] })
  follows-of-RS m p b e f = rw (fresh-of-RS t n m b e) (follows-of-fresh false m.work f.long)

  module _ (b : ℕ) (s : List ℕ) (m : Mem) (p : Paper) (i : ℕ) (f : Follow m p)
      (rest : (m : Mem) (p : Paper) (i : ℕ) → Follow m p → Agrees es (Tracks es n) n (run_mem t n m i s) (goes J p i s)) where
    agrees-of-byte : (x : Bool) → eqb b 0x1E ≡ x → (y : Bool) → nonempty p.part ≡ y
        → Agrees es (Tracks es n) n (run_mem t n m i (b ∷ s)) (goes J p i (b ∷ s))
    unfolding run_mem goes
    agrees-of-byte true e true u =
        rw (ends_record-of-RS m.progress b e ∙ f.some ∙ u, e, u)
        (record {
          count = refl;
          answer = ap (λ v. Ok (Some v)) (judged-of-follows m p.head p.part f);
          follows = follows-of-fresh false m.work f.long;
        })
    agrees-of-byte true e false u =
        rw (ends_record-of-RS m.progress b e ∙ f.some ∙ u, e, u)
        (rest (step_mem t n m b) (record { head = false; part = [] }) (i + 1) (follows-of-RS m p b e f))
    agrees-of-byte false e y u =
        rw (ends_record-of-byte m.progress b e, e)
        (rest (step_mem t n m b) (record { head = p.head; part = p.part ++ (b ∷ []) }) (i + 1) (follows-of-byte m p.head p.part b e f))

  -- a piece read by the machine is gone through on paper
  pub agrees-of-piece : (s : List ℕ) (m : Mem) (p : Paper) (i : ℕ) → Follow m p → Agrees es (Tracks es n) n (run_mem t n m i s) (goes J p i s)
  unfolding run_mem goes
  agrees-of-piece [] m p i f = record { count = refl; answer = refl; follows = f }
  agrees-of-piece (b ∷ s) m p i f = agrees-of-byte b s m p i f (λ m p i f. agrees-of-piece s m p i f) (eqb b 0x1E) refl (nonempty p.part) refl
