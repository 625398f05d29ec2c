-- Demand 3: `demand-3`, from what is known of single bytes. Over the calls of a stream: reader and buffer follow the paper, or the stream has had
-- no accepted call and the reader is fresh. Assumes nothing.
use Rattle.std.specs.Prelude.{Ok, Some, None}
use mathlib.Core.Bool.{Bool, true, false, cond}
use mathlib.Core.List.{List, [], ◌∷◌}
use mathlib.Core.Path.{◌≡◌, refl, ap, subst}
use Prim.Native.Nat.{ℕ, ◌*◌, ◌≤◌}
use lib.Dec.{T}
use lib.ListN.{length}
use Rattle.table.specs.Table.{Table}
use Rattle.book.specs.Entry.{Entry}
use Rattle.frame.specs.Frame.{frame_count}
use Rattle.verdict.specs.Track.{Track}
use Rattle.progress.specs.Progress.{judged}
use Rattle.progress.specs.Memory.{Mem, fresh_mem, Ran, run_mem}
use Rattle.reader.specs.declared.Reader.{Reader}
use Rattle.reader.specs.Start.{fresh_reader, start_of}
use Rattle.reader.specs.Machine.{Outcome, memory_of, ending, going, outcome, feeding, closing}
use Rattle.stream.specs.Paper.{Call, feed, close, Judge, Judges, Paper, opening, nonempty, Said, goes, says, told}
use Rattle.stream.specs.Claim.{run, answers, after, table, buffer, accepted, closes, before, streams, Held, nothing, held, Same, Fair, Answered, Demand3}
use Rattle.stream.specs.Bytes.{Reading}
use Rattle.stream.specs.Records.{Fresh}
use Rattle.stream.proofs.PieceLaws.{Follows, Agrees, follows-of-fresh, judged-of-follows, agrees-of-piece}
use Rattle.stream.proofs.CallLaws.{reading, saying, Good, good-of-fresh, accepted-of-true, refused-of-false, good-of-call, fresh-of-closes, begun-of-start}

-- ---- one accepted call

-- the outcome of a call is what the paper says, and the memory after it follows the paper
pub record Alike (es : List Entry) (Along : Mem → Track es → Type 0) (n : ℕ) (o : Outcome) (said : Said) : Type 0 where
  pub count : o.count ≡ said.count
  pub answer : o.answer ≡ said.answer
  pub follows : Follows es Along n (memory_of o.reader o.work) said.paper

module _ {es : List Entry} {Along : Mem → Track es → Type 0} {n : ℕ} where
  alike-of-agrees : (r : Reader) (e : Ran) (said : Said) → Agrees es Along n e said → Alike es Along n (outcome r e) said
  alike-of-agrees r e said a = go e.ended a.answer a.follows
    where
      go : (b : Bool) → cond b (Ok (Some (judged e.memory.progress e.memory.root))) (Ok None) ≡ said.answer
          → Follows es Along n (cond b (fresh_mem false e.memory.work) e.memory) said.paper
          → Alike es Along n (cond b (ending r e.memory e.count false) (going r e.memory e.count)) said
      go true q f = record { count = a.count; answer = q; follows = f }
      go false q f = record { count = a.count; answer = q; follows = f }

-- ---- where a stream stands

-- no call was accepted so far, or the reader and the buffer of the last follow the paper
abbrev pub Stands : {Book : Table → List Entry → Type 0} → ((es : List Entry) → ℕ → Mem → Track es → Type 0) → List Entry → ℕ → Held Book → Reader → Paper
    → Type 0
Stands Tracks es n nothing r p = Fresh n r × (p ≡ opening)
Stands Tracks es n (held t w) r p = Follows es (Tracks es n) n (memory_of r w) p

-- an accepted call of a fair stream: it does what the paper says, and the rest of the stream is fair
pub record Took (Book : Table → List Entry → Type 0) (Tracks : (es : List Entry) → ℕ → Mem → Track es → Type 0) (es : List Entry) (n : ℕ) (J : Judge) (r : Reader) (p : Paper)
    (c : Call) (cs : List Call) : Type 0 where
  pub alike : Alike es (Tracks es n) n (run r c) (says J n p c)
  pub fair : Fair Book es n (held (table c) (run r c).work) (run r c).reader cs

module _ {Book : Table → List Entry → Type 0} {Tracks : (es : List Entry) → ℕ → Mem → Track es → Type 0} (facts : Reading Book Tracks)
    (es : List Entry) (n : ℕ) (least : 1 ≤ n) (most : n ≤ 64) (J : Judge) (judge : Judges es n J) where
  alike-of-reading : (c : Call) (r : Reader) (p : Paper) → Book (table c) es → r.frames ≡ n → Follows es (Tracks es n) n (memory_of r (buffer c)) p
      → Alike es (Tracks es n) n (reading r c) (saying J p c)
  unfolding feeding closing
  alike-of-reading (feed t w s) r p book e f =
      alike-of-agrees r (run_mem t r.frames (memory_of r w) 0 s) (goes J p 0 s) (rw e (agrees-of-piece facts book n least most J judge s (memory_of r w) p 0 f))
  alike-of-reading (close t w) r p book e f = rw f.some (go (nonempty p.part))
    where
      fresh : Follows es (Tracks es n) n (fresh_mem true w) opening
      fresh = follows-of-fresh facts book n least most J judge true w f.long

      go : (b : Bool)
          → Alike es (Tracks es n) n
          (cond b (ending r (memory_of r w) 0 true) (record { reader = fresh_reader r.frames true r.tally; count = 0; answer = Ok None; work = w }))
          (record { paper = opening; count = 0; answer = cond b (Ok (Some (J p.head p.part))) (Ok None) })
      go true =
          record { count = refl; answer = ap (λ v. Ok (Some v)) (judged-of-follows facts book n least most J judge (memory_of r w) p.head p.part f); follows = fresh }
      go false = record { count = refl; answer = refl; follows = fresh }

  -- ---- one stream

  -- a fair call that is accepted is handed what the stream stands at
  follows-of-stands : (k : Held Book) (r : Reader) (p : Paper) (c : Call) → Book (table c) es → 96 * n ≤ length (buffer c) → Stands Tracks es n k r p → Same Book k c
      → Follows es (Tracks es n) n (memory_of r (buffer c)) p
  follows-of-stands nothing r p c book h s e =
      let f : Fresh n r = s.0 in
      rw (s.1, f.progress, f.root, f.key) (follows-of-fresh facts book n least most J judge true (buffer c) h)
  follows-of-stands (held t w) r p c book h s e = rw e.1 s

  module _ (k : Held Book) (r : Reader) (c : Call) (cs : List Call) (fair : Fair Book es n k r (c ∷ cs)) (g : Good n r) where
    -- a call that the paper accepts
    pub took-of-accepted : (p : Paper) → Stands Tracks es n k r p → accepted n c ≡ true → Took Book Tracks es n J r p c cs
    unfolding Fair
    took-of-accepted p s e =
        let x = accepted-of-true n least most r c g e in
        let f : Book (table c) es × Same Book k c × Fair Book es n (held (table c) (run r c).work) (run r c).reader cs = rw e at fair in
        record {
          alike = rw (x.run_is, x.says_is J p) (alike-of-reading c r p f.0 g.frames (follows-of-stands k r p c f.0 x.long s f.1));
          fair = f.2;
        }

    -- after a call that the paper refuses the stream is fair from the same reader on
    pub fair-of-refused : accepted n c ≡ false → Fair Book es n k r cs
    unfolding Fair
    fair-of-refused e =
        let f : Fair Book es n k (run r c).reader cs = rw e at fair in
        subst (λ (y : Reader). Fair Book es n k y cs) (refused-of-false n least most r c g e).stays.reader f

  module _ (c : Call) (cs : List Call) (k : Held Book) (r : Reader) (p : Paper) (g : Good n r) (s : Stands Tracks es n k r p) (f : Fair Book es n k r (c ∷ cs))
      (rest : (k : Held Book) (r : Reader) (p : Paper) → Good n r → Stands Tracks es n k r p → Fair Book es n k r cs → answers r cs ≡ told J n p cs) where
    answers-of-call : (b : Bool) → accepted n c ≡ b → answers r (c ∷ cs) ≡ told J n p (c ∷ cs)
    unfolding answers told
    answers-of-call true e =
        let x = took-of-accepted k r c cs f g p s e in
        let a = x.alike in
        rw (
          a.count,
          a.answer,
          rest (held (table c) (run r c).work) (run r c).reader (says J n p c).paper (good-of-call n least most r c g) a.follows x.fair,
        )
    answers-of-call false e =
        let x = refused-of-false n least most r c g e in
        rw (x.count J p, x.answer J p, x.stays.reader, x.paper J p, rest k r p g s (fair-of-refused k r c cs f g e))

  -- the calls of a fair stream are answered as on paper
  pub answers-of-stands : (cs : List Call) (k : Held Book) (r : Reader) (p : Paper) → Good n r → Stands Tracks es n k r p → Fair Book es n k r cs
      → answers r cs ≡ told J n p cs
  unfolding answers told
  answers-of-stands [] k r p g s f = refl
  answers-of-stands (c ∷ cs) k r p g s f = answers-of-call c cs k r p g s f (λ k r p g s f. answers-of-stands cs k r p g s f) (accepted n c) refl

  -- the calls of a fair stream are answered as on paper from a fresh reader on
  pub answers-of-fair : (cs : List Call) (r : Reader) → Fresh n r → Fair Book es n nothing r cs → answers r cs ≡ told J n opening cs
  answers-of-fair cs r f fair = answers-of-stands cs nothing r opening (good-of-fresh n r f) (f, refl) fair

-- ---- all streams

module _ {Book : Table → List Entry → Type 0} {Tracks : (es : List Entry) → ℕ → Mem → Track es → Type 0} (facts : Reading Book Tracks)
    (n : ℕ) (least : 1 ≤ n) (most : n ≤ 64) where
  -- the streams after the first, which begin after r
  abbrev Later : Reader → List (List Call) → Type 0
  Later r [] = T true
  Later r (s ∷ ss) = Answered Book n (after r s) ss

  answered-of-later : (ss : List (List Call)) (r : Reader) → Fresh n r → Later r ss → Answered Book n r ss
  unfolding Answered
  answered-of-later [] r f t = tt
  answered-of-later (s ∷ ss) r f t = (λ es J fair judge. answers-of-fair facts es n least most J judge s r f fair, t)

  later-of-before : (c : Call) (r : Reader) (ss : List (List Call)) → Later (run r c).reader ss → Later r (before c ss)
  unfolding Answered after
  later-of-before c r [] t = tt
  later-of-before c r (s ∷ ss) t = t

  later-of-call : (c : Call) (cs : List Call) (r : Reader) → Good n r → ((r : Reader) → Good n r → Later r (streams n cs))
      → (b : Bool) → closes n c ≡ b → Later r (cond b ((c ∷ []) ∷ streams n cs) (before c (streams n cs)))
  unfolding after
  later-of-call c cs r g rest true e =
      answered-of-later (streams n cs) (run r c).reader (fresh-of-closes n least most r c g e) (rest (run r c).reader (good-of-call n least most r c g))
  later-of-call c cs r g rest false e = later-of-before c r (streams n cs) (rest (run r c).reader (good-of-call n least most r c g))

  later-of-good : (cs : List Call) (r : Reader) → Good n r → Later r (streams n cs)
  unfolding streams
  later-of-good [] r g = tt
  later-of-good (c ∷ cs) r g = later-of-call c cs r g (λ r g. later-of-good cs r g) (closes n c) refl

  -- all streams of a list of calls from a fresh reader on
  pub answered-of-fresh : (cs : List Call) (r : Reader) → Fresh n r → Answered Book n r (streams n cs)
  answered-of-fresh cs r f = answered-of-later (streams n cs) r f (later-of-good cs r (good-of-fresh n r f))

-- ---- demand 3

-- after an accepted start each fair stream of any list of calls is answered as on paper
pub demand-3 : {Book : Table → List Entry → Type 0} {Tracks : (es : List Entry) → ℕ → Mem → Track es → Type 0} → Reading Book Tracks
    → Demand3 Book
demand-3 facts t w calls e =
    let b = begun-of-start t w e in
    answered-of-fresh facts (frame_count (length w)) b.least b.most calls (start_of t w).reader b.fresh
