-- The entries of an accepted book and a buffer of 96 bytes or more are those of the stream's verdicts, as the stream on paper gives them:
-- `judges-stream`. Assumes nothing.
use Rattle.std.specs.Prelude.{Ok, Err, Some, None}
use mathlib.Core.Bool.{Bool, true, false, cond}
use mathlib.Core.List.{List, [], ◌∷◌, ◌++◌, append_assoc, append-nil}
use mathlib.Core.Path.{◌≡◌, refl, sym, ap, subst, ◌∙◌}
use Prim.Native.Nat.{ℕ, zero, suc, ◌+◌, ◌-◌, ◌*◌, ◌%◌, ◌≤◌, ◌<◌}
use native.Mathlib.Omega.{arith}
use lib.Dec.{eqb}
use lib.ListN.{length, take, drop, take-append-drop, length-drop}
use lib.Seq.{drop-append-le}
use borrow.Author.Tests.{eq-eqb}
use Rattle.table.specs.Table.{Table}
use Rattle.book.specs.Entry.{Entry}
use Rattle.book.specs.Load.{loads}
use Rattle.load.specs.Step.{Loaded}
use Rattle.load.specs.Loads.{book_table, LoadsAs}
use Rattle.frame.specs.Frame.{frame_count}
use Rattle.verdict.specs.declared.Verdict.{Verdict}
use Rattle.reader.specs.declared.Reader.{Reader}
use Rattle.reader.specs.Answer.{Answer}
use Rattle.reader.specs.declared.Refusal.{Refusal}
use Rattle.reader.specs.Start.{start_of}
use Rattle.reader.specs.Machine.{Outcome, feed_of, close_of}
use Rattle.stream.specs.Records.{verdicts_of, and_then, Fresh}
use Rattle.stream.proofs.CallLaws.{Good, good-of-fresh, begun-of-start}
use Rattle.stream.proofs.JudgeLaws.{judge_of}
use Rattle.demand.specs.Book.{Book}
use Rattle.demand.specs.Reading.{Reads, ended, fed}
use Rattle.demand.proofs.FeedLaws.{count-of-feed, some-of-feed, length-of-feed}
use Rattle.demand.proofs.ReadingLaws.{verdicts-of-reads, book-of-loaded, start-quiet, feed-served, close-served, good-of-feed}
use Rattle.entries.specs.declared.entry.Entry.{Entry as Said}
use Rattle.entries.specs.Feeds.{answer_entries, is_refused, Fed, stopped, entries_then, piece_of, feeds, closes, streamed}
use Rattle.fieldtext.specs.Judge.{judges}
use Rattle.fieldtext.specs.Shows.{Shows, none, next}
use Rattle.entries.proofs.PieceLaws.{piece-some}
use Rattle.entries.proofs.FeedLaws.{feeds-done, feeds-more}

-- ---- one answer

unrefused : (a : Answer) → ((k : Refusal) → a ≡ Err k → ⊥) → is_refused a ≡ false
unrefused (Ok None) h = refl
unrefused (Ok (Some v)) h = refl
unrefused (Err k) h = absurd (h k refl)

shows-answer : (a : Answer) (read : ℕ) (es : List Said) (vs : List Verdict) → ((k : Refusal) → a ≡ Err k → ⊥) → Shows es vs
    → Shows (answer_entries a read ++ es) (and_then a vs)
shows-answer (Ok None) read es vs h x = x
shows-answer (Ok (Some v)) read es vs h x = next v read x
shows-answer (Err k) read es vs h x = absurd (h k refl)

-- ---- the bytes after a piece

abbrev behind : ℕ → ℕ → List ℕ → List ℕ
behind size read s = cond (eqb size 0) [] (drop (size - read % size) s)

piece-behind : (size read : ℕ) (s : List ℕ) → piece_of size read s ++ behind size read s ≡ s
unfolding piece_of
piece-behind size read s = go (eqb size 0)
  where
    go : (x : Bool) → cond x s (take (size - read % size) s) ++ cond x [] (drop (size - read % size) s) ≡ s
    go true = append-nil s
    go false = take-append-drop (size - read % size) s

drop-piece : (size read c : ℕ) (s : List ℕ) → c ≤ length (piece_of size read s)
    → drop c s ≡ drop c (piece_of size read s) ++ behind size read s
drop-piece size read c s h =
    ap (drop c) (sym (piece-behind size read s)) ∙ drop-append-le c (piece_of size read s) (behind size read s) h

-- ---- a stream

module _ (t : Table) (es : List Entry) (book : Book t es) (n : ℕ) (least : 1 ≤ n) (most : n ≤ 64) (size : ℕ) where
  -- verdicts that a caller gets from a reader on, and that the entries xs show
  record Shown (r : Reader) (w s : List ℕ) (xs : List Said) : Type 0 where
    verdicts : List Verdict
    reads : Reads t r w s verdicts
    shows : Shows xs verdicts

  module _ (r : Reader) (w : List ℕ) (read : ℕ) (g : Good n r) (long : 96 * n ≤ length w) where
    shown-of-end : Shown r w [] (closes t (stopped r w read)).entries
    shown-of-end =
        let a : Answer = (close_of r t w).answer in
        record {
          verdicts = and_then a [];
          reads = ended;
          shows =
              subst (λ (xs : List Said). Shows xs (and_then a [])) (append-nil (answer_entries a read))
              (shows-answer a read [] [] (close-served t es book n least most r w g long) none);
        }

    -- a feed, then what is unread after it
    shown-of-feed : (k : ℕ) (s : List ℕ) → 0 < length s → (o : Outcome) → o ≡ feed_of r t w (piece_of size read s)
        → Shown o.reader o.work (drop o.count s) (closes t (feeds k t size o.reader o.work (read + o.count) (drop o.count s))).entries
        → Shown r w s (closes t (feeds (suc k) t size r w read s)).entries
    shown-of-feed k s some o e x =
        let p : List ℕ = piece_of size read s in
        let served : (j : Refusal) → o.answer ≡ Err j → ⊥ = rw e (feed-served t es book n least most r w g long p) in
        let inside : o.count ≤ length p = rw e (count-of-feed r t w p) in
        let f : Fed = feeds k t size o.reader o.work (read + o.count) (drop o.count s) in
        let first : List Said = answer_entries o.answer (read + o.count) in
        let all : feeds (suc k) t size r w read s ≡ entries_then first f = feeds-more t size r w read s k some o e (unrefused o.answer served) in
        let left : Reads t o.reader o.work (drop o.count p ++ behind size read s) x.verdicts =
        rw (drop-piece size read o.count s inside) at x.reads in
        let rest : Reads t r w (p ++ behind size read s) (and_then (feed_of r t w p).answer x.verdicts) = fed p (behind size read s) (rw e at left) in
        record {
          verdicts = and_then o.answer x.verdicts;
          reads = rw (piece-behind size read s, sym e) at rest;
          shows =
              rw (all, append_assoc first f.entries (answer_entries (close_of f.reader t f.work).answer f.read))
              (shows-answer o.answer (read + o.count) (closes t f).entries x.verdicts served x.shows);
        }

  shown-of-feeds : (k : ℕ) (r : Reader) (w : List ℕ) (read : ℕ) (s : List ℕ) → Good n r → 96 * n ≤ length w → length s ≤ k
      → Shown r w s (closes t (feeds k t size r w read s)).entries
  shown-of-feeds zero r w read [] g long h = rw (feeds-done t size r w read [] zero refl) (shown-of-end r w read g long)
  shown-of-feeds zero r w read (b ∷ s) g long h = absurd (omega (arith, h))
  shown-of-feeds (suc k) r w read [] g long h = rw (feeds-done t size r w read [] (suc k) refl) (shown-of-end r w read g long)
  shown-of-feeds (suc k) r w read (b ∷ s) g long h =
      let o : Outcome = feed_of r t w (piece_of size read (b ∷ s)) in
      let more : 0 < length (b ∷ s) = omega arith in
      let one : 0 < o.count =
      some-of-feed r t w (piece_of size read (b ∷ s)) (piece-some size read (b ∷ s) more)
      (feed-served t es book n least most r w g long (piece_of size read (b ∷ s))) in
      let less : length (drop o.count (b ∷ s)) ≤ k = omega (arith, length-drop o.count (b ∷ s), h, one) in
      shown-of-feed r w read g long k (b ∷ s) more o refl
      (shown-of-feeds k o.reader o.work (read + o.count) (drop o.count (b ∷ s)) (good-of-feed t es book n least most r w g long (piece_of size read (b ∷ s)))
      (rw (length-of-feed r t w (piece_of size read (b ∷ s))) long) less)

  -- from a fresh reader on, the entries show the verdicts of the bytes
  shown-of-stream : (r : Reader) (w s : List ℕ) → Fresh n r → 96 * n ≤ length w
      → Shows (streamed t size r w s).entries (verdicts_of (judge_of es n) s)
  unfolding streamed
  shown-of-stream r w s f long =
      let x = shown-of-feeds (length s) r w 0 s (good-of-fresh n r f) long (omega arith) in
      rw (sym (verdicts-of-reads t es book n least most r w s x.verdicts long f x.reads)) x.shows

-- ---- a book and a stream

module _ (b : List ℕ) (l : Loaded) (loaded : LoadsAs b l) (yes : (loads b).number ≡ 0) where
  abbrev table : Table
  table = book_table b

  pub judges-stream : (size : ℕ) (w s : List ℕ) → 96 ≤ length w
      → Shows (judges b size w s).entries (verdicts_of (judge_of (loads b).entries (frame_count (length w))) s)
  unfolding judges
  judges-stream size w s h =
      let n : ℕ = frame_count (length w) in
      let start : (start_of table w).answer ≡ (Ok None) = start-quiet b l loaded table loaded.table w h in
      let begun = begun-of-start table w start in
      let fits : 96 * n ≤ length w = omega arith in
      rw (eq-eqb (loads b).number 0 yes, start)
      (shown-of-stream table (loads b).entries (book-of-loaded b l loaded table loaded.table yes) n begun.least begun.most size (start_of table w).reader w s begun.fresh fits)
