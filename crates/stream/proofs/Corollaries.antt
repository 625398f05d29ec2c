-- Demand 3 in the customer's words, of a fair stream whose calls hand over bytes and close: `verdicts-of-bytes`, one verdict for each record in
-- stream order; `same-verdicts-of-same-bytes`, wherever they are cut; `record-alone`, whatever stands before it. Assumes nothing.
use Rattle.std.specs.Prelude.{Ok, None}
use mathlib.Core.Bool.{true, false}
use mathlib.Core.List.{List, [], ◌∷◌, ◌++◌, get_last?}
use mathlib.Core.Option.{some}
use mathlib.Core.Path.{◌≡◌, refl, sym, ◌∙◌}
use Prim.Native.Nat.{ℕ, ◌≤◌}
use lib.ListN.{length, drop}
use Rattle.table.specs.Table.{Table}
use Rattle.book.specs.Entry.{Entry}
use Rattle.runs.specs.Sound.{Sound}
use Rattle.frame.specs.Frame.{frame_count}
use Rattle.verdict.specs.declared.Verdict.{Verdict}
use Rattle.verdict.specs.Track.{Track}
use Rattle.verdict.specs.Verdict.{Judged}
use Rattle.verdict.proofs.JudgedLaws.{judged-unique}
use Rattle.progress.specs.Memory.{Mem}
use Rattle.reader.specs.declared.Reader.{Reader}
use Rattle.reader.specs.Start.{start_of}
use Rattle.stream.specs.Paper.{Call, feed, close, Judge, Judges, Paper, opening, nonempty, says}
use Rattle.stream.specs.Claim.{run, answers, after, closes, Held, nothing, held, Fair}
use Rattle.stream.specs.Bytes.{Reading}
use Rattle.stream.specs.Records.{no_rs, verdicts_of, verdicts_behind, verdicts_in, Hands, closed, fed, refused, Fresh, StreamOf}
use Rattle.stream.proofs.CallLaws.{Good, good-of-fresh, accepted-of-true, refused-of-false, good-of-call, good-of-calls, fresh-of-closes, begun-of-start}
use Rattle.stream.proofs.Demand.{Stands, took-of-accepted, fair-of-refused}
use Rattle.stream.proofs.JudgeLaws.{judge_of, judges-exist}
use Rattle.stream.proofs.RecordLaws.{verdicts_of-append, verdicts_behind-append, verdicts_from, verdicts_behind-of-record, from-close, from-feed}

-- a close that is not refused begins a stream with a fresh reader, whatever the calls before it were handed
pub fresh-behind-close : (t : Table) (w : List ℕ) → (start_of t w).answer ≡ Ok None → (calls : List Call) (c : Call)
    → closes (frame_count (length w)) c ≡ true → Fresh (frame_count (length w)) (run (after (start_of t w).reader calls) c).reader
fresh-behind-close t w e calls c h =
    let b = begun-of-start t w e in
    let r : Reader = (start_of t w).reader in
    let g = good-of-calls (frame_count (length w)) b.least b.most calls r (good-of-fresh (frame_count (length w)) r b.fresh) in
    fresh-of-closes (frame_count (length w)) b.least b.most (after r calls) c g h

get_last-append : (vs : List Verdict) (v : Verdict) → get_last? (vs ++ (v ∷ [])) ≡ some v
get_last-append [] v = refl
get_last-append (u ∷ []) v = refl
get_last-append (u ∷ t ∷ vs) v = get_last-append (t ∷ vs) v

module _ {Book : Table → List Entry → Type 0} {Tracks : (es : List Entry) → ℕ → Mem → Track es → Type 0} (facts : Reading Book Tracks)
    (es : List Entry) (n : ℕ) (least : 1 ≤ n) (most : n ≤ 64) where
  module _ (J : Judge) (judge : Judges es n J) where
    verdicts-of-stands : (k : Held Book) (r : Reader) (p : Paper) (cs : List Call) (s : List ℕ) → Good n r → Stands Tracks es n k r p
        → Fair Book es n k r cs → Hands n r cs s → verdicts_in (answers r cs) ≡ verdicts_from J p s
    unfolding verdicts_in answers
    verdicts-of-stands k r p _ _ g s fair (closed {t = t} {w = w} e) =
        let x = took-of-accepted facts es n least most J judge k r (close t w) [] fair g p s e in
        let q = accepted-of-true n least most r (close t w) g e in
        rw (x.alike.answer, q.says_is J p) (sym (from-close J p))
    verdicts-of-stands k r p _ _ g s fair (fed {t = t} {w = w} {s = piece} {cs = cs} u e rest) =
        let x = took-of-accepted facts es n least most J judge k r (feed t w piece) cs fair g p s e in
        let q = accepted-of-true n least most r (feed t w piece) g e in
        let i = verdicts-of-stands (held t (run r (feed t w piece)).work) (run r (feed t w piece)).reader (says J n p (feed t w piece)).paper cs
        (drop (run r (feed t w piece)).count piece ++ u) (good-of-call n least most r (feed t w piece) g) x.alike.follows x.fair rest in
        rw (i, x.alike.answer, x.alike.count, q.says_is J p) (sym (from-feed J p piece u))
    verdicts-of-stands k r p _ bs g s fair (refused {c = c} {cs = cs} e rest) =
        let x = refused-of-false n least most r c g e in
        let i = verdicts-of-stands k (run r c).reader p cs bs (good-of-call n least most r c g) (rw x.stays.reader s)
        (rw x.stays.reader (fair-of-refused facts es n least most J judge k r c cs fair g e)) rest in
        rw (i, x.refused)

    -- the answers to the calls have one verdict for each record of the bytes, in stream order
    pub verdicts-of-bytes : (r : Reader) (cs : List Call) (s : List ℕ) → Fresh n r → Fair Book es n nothing r cs → Hands n r cs s
        → verdicts_in (answers r cs) ≡ verdicts_of J s
    verdicts-of-bytes r cs s f fair h = verdicts-of-stands nothing r opening cs s (good-of-fresh n r f) (f, refl) fair h

  -- a fair stream that hands over bytes and closes has an accepted book
  book-of-hands : (k : Held Book) (r : Reader) (cs : List Call) (s : List ℕ) → Fair Book es n k r cs → Hands n r cs s → (t : Table) × Book t es
  unfolding Fair
  book-of-hands k r _ _ fair (closed {t = t} {w = w} e) = (t, (rw e at fair).0)
  book-of-hands k r _ _ fair (fed {t = t} {w = w} {s = s} u e rest) = (t, (rw e at fair).0)
  book-of-hands k r _ s fair (refused {c = c} {cs = cs} e rest) = book-of-hands k (run r c).reader cs s (rw e at fair) rest

  module _ {r : Reader} {cs : List Call} {s : List ℕ} (x : StreamOf Book es n r cs s) where
    pub book-of-stream : (t : Table) × Book t es
    book-of-stream = book-of-hands nothing r cs s x.fair x.hands

    -- the book of a stream is accepted, so that the stream's parts have a judge
    pub sound-of-stream : Sound es
    sound-of-stream = facts.sound book-of-stream.1

    -- the verdicts of a stream are those of its bytes
    pub verdicts-of-stream : verdicts_in (answers r cs) ≡ verdicts_of (judge_of es n) s
    verdicts-of-stream = verdicts-of-bytes (judge_of es n) (judges-exist sound-of-stream n) r cs s x.fresh x.fair x.hands

  -- the same bytes, cut otherwise, have the same verdicts
  pub same-verdicts-of-same-bytes : {r q : Reader} {cs ds : List Call} {s : List ℕ} → StreamOf Book es n r cs s → StreamOf Book es n q ds s
      → verdicts_in (answers r cs) ≡ verdicts_in (answers q ds)
  same-verdicts-of-same-bytes x y = verdicts-of-stream x ∙ sym (verdicts-of-stream y)

  -- a record p after an RS has the verdict that it has alone, whatever the bytes a before the RS; here z stands after the RS that ends it
  pub record-alone : {r : Reader} {cs : List Call} {v : Verdict} (a p z : List ℕ) → nonempty p ≡ true → no_rs p ≡ true → Judged es n p v
      → StreamOf Book es n r cs (a ++ (0x1E ∷ (p ++ (0x1E ∷ z))))
      → verdicts_in (answers r cs) ≡ verdicts_of (judge_of es n) a ++ (v ∷ verdicts_behind (judge_of es n) z)
  record-alone a p z full plain j x =
      let J : Judge = judge_of es n in
      let e : J false p ≡ _ = judged-unique ((judges-exist (sound-of-stream x) n).part p) j in
      verdicts-of-stream x ∙ rw (verdicts_of-append J a (p ++ (0x1E ∷ z)), verdicts_behind-append J p z, verdicts_behind-of-record J p full plain, e)

  -- a last record p, which a close ends, has the verdict that it has alone, whatever the bytes a before its RS
  pub last-record-alone : {r : Reader} {cs : List Call} {v : Verdict} (a p : List ℕ) → nonempty p ≡ true → no_rs p ≡ true → Judged es n p v
      → StreamOf Book es n r cs (a ++ (0x1E ∷ p)) → verdicts_in (answers r cs) ≡ verdicts_of (judge_of es n) a ++ (v ∷ [])
  last-record-alone a p full plain j x =
      let J : Judge = judge_of es n in
      let e : J false p ≡ _ = judged-unique ((judges-exist (sound-of-stream x) n).part p) j in
      verdicts-of-stream x ∙ rw (verdicts_of-append J a p, verdicts_behind-of-record J p full plain, e)

  -- two streams that end in one record give it one verdict, whatever stood before it in each
  pub same-verdict-of-same-record : {r q : Reader} {cs ds : List Call} (a b p : List ℕ) → nonempty p ≡ true → no_rs p ≡ true
      → StreamOf Book es n r cs (a ++ (0x1E ∷ p)) → StreamOf Book es n q ds (b ++ (0x1E ∷ p)) → get_last? (verdicts_in (answers r cs)) ≡ get_last? (verdicts_in (answers q ds))
  same-verdict-of-same-record a b p full plain x y =
      let j = (judges-exist (sound-of-stream x) n).part p in
      rw (last-record-alone a p full plain j x, last-record-alone b p full plain j y)
      (get_last-append (verdicts_of (judge_of es n) a) (judge_of es n false p) ∙ sym (get_last-append (verdicts_of (judge_of es n) b) (judge_of es n false p)))
