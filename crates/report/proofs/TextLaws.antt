-- The judging program prints the line of each verdict of its input, as the stream on paper gives them, wherever the input is cut:
-- `text-of-stream`, `text-of-program`. Assumes nothing.
use Rattle.std.specs.Prelude.{Ok, Err, Some, None}
use mathlib.Core.List.{List, [], ◌++◌, append_assoc, append-nil}
use mathlib.Core.Path.{◌≡◌, refl, sym, ap, ◌∙◌}
use Prim.Native.Nat.{ℕ, zero, suc, ◌*◌, ◌≤◌}
use native.Mathlib.Omega.{arith}
use lib.ListN.{length, drop}
use lib.Seq.{drop-drop}
use Rattle.table.specs.Table.{Table}
use Rattle.book.specs.Entry.{Entry}
use Rattle.book.specs.Load.{loads}
use Rattle.load.specs.Step.{Loaded}
use Rattle.load.specs.Loads.{LoadsAs}
use Rattle.frame.specs.Frame.{frame_count}
use Rattle.verdict.specs.declared.Verdict.{Verdict}
use Rattle.text.specs.Text.{line_of, lines_of, stream_names}
use Rattle.reader.specs.declared.Reader.{Reader}
use Rattle.reader.specs.Answer.{Answer}
use Rattle.reader.specs.Start.{start_of}
use Rattle.reader.specs.Machine.{Outcome, feed_of, close_of}
use Rattle.stream.specs.Records.{verdicts_of, and_then, Fresh}
use Rattle.stream.proofs.CallLaws.{begun-of-start}
use Rattle.stream.proofs.JudgeLaws.{judge_of}
use Rattle.demand.specs.Book.{Book}
use Rattle.demand.specs.Reading.{Reads, ended, fed}
use Rattle.demand.proofs.ReadingLaws.{verdicts-of-reads, book-of-loaded, start-quiet}
use Rattle.report.specs.Report.{Reported, stops, line_then, by_answer, reports, closing, beginning}
use Rattle.report.specs.Prints.{Prints, ended as prints-end, reported}

-- ---- lines and answers

-- the line of a verdict, if the answer is one
abbrev line_in : Answer → List ℕ
line_in (Ok None) = []
line_in (Err n) = []
line_in (Ok (Some v)) = line_of v

lines-and_then : (a : Answer) (vs : List Verdict) → line_in a ++ lines_of vs ≡ lines_of (and_then a vs)
unfolding lines_of
lines-and_then (Ok None) vs = refl
lines-and_then (Err n) vs = refl
lines-and_then (Ok (Some v)) vs = refl

text-of-closing : (c : Outcome) (a : Answer) → c.answer ≡ a → (closing c).text ≡ line_in a
text-of-closing c (Ok None) e = rw e
text-of-closing c (Err n) e = rw e
text-of-closing c (Ok (Some v)) e = rw e

-- ---- what a program prints

module _ (t : Table) where
  -- the verdicts that a caller gets from a reader on, with the lines x
  record Printed (r : Reader) (w s x : List ℕ) : Type 0 where
    verdicts : List Verdict
    reads : Reads t r w s verdicts
    text : x ≡ lines_of verdicts

  printed-of-end : (r : Reader) (w : List ℕ) → Printed r w [] (closing (close_of r t w)).text
  unfolding lines_of
  printed-of-end r w =
      record {
        verdicts = and_then (close_of r t w).answer [];
        reads = ended;
        text = text-of-closing (close_of r t w) (close_of r t w).answer refl ∙ sym (append-nil _) ∙ lines-and_then (close_of r t w).answer [];
      }

  printed-of-feed : (r : Reader) (w s u x : List ℕ) → Printed (feed_of r t w s).reader (feed_of r t w s).work (drop (feed_of r t w s).count s ++ u) x
      → Printed r w (s ++ u) (line_in (feed_of r t w s).answer ++ x)
  printed-of-feed r w s u x y =
      record {
        verdicts = and_then (feed_of r t w s).answer y.verdicts;
        reads = fed s u y.reads;
        text = rw y.text (lines-and_then (feed_of r t w s).answer y.verdicts);
      }

  -- a report: its feeds come first
  printed-of-reports : (k : ℕ) (r : Reader) (w s u x : List ℕ)
      → Printed (reports k t r w s).reader (reports k t r w s).work (drop (reports k t r w s).read s ++ u) x
      → Printed r w (s ++ u) ((reports k t r w s).text ++ x)
  unfolding reports
  printed-of-reports zero r w s u x y = y
  printed-of-reports (suc k) r w s u x y = go o.answer refl y (λ y. printed-of-reports k o.reader o.work (drop o.count s) u x y)
    where
      o : Outcome
      o = feed_of r t w s

      behind : Reported
      behind = reports k t o.reader o.work (drop o.count s)

      first : Answer → Reported
      first a = by_answer a (stops o) (λ v. line_then o.count v behind)

      go : (a : Answer) → o.answer ≡ a → Printed (first a).reader (first a).work (drop (first a).read s ++ u) x
          → (Printed behind.reader behind.work (drop behind.read (drop o.count s) ++ u) x
          → Printed o.reader o.work (drop o.count s ++ u) (behind.text ++ x))
          → Printed r w (s ++ u) ((first a).text ++ x)
      go (Ok None) e y more = rw e at (printed-of-feed r w s u x y)
      go (Err m) e y more = rw e at (printed-of-feed r w s u x y)
      go (Ok (Some v)) e y more =
          rw (e, sym (append_assoc (line_of v) behind.text x)) at
          (printed-of-feed r w s u (behind.text ++ x) (more (rw (drop-drop behind.read o.count s) y)))

  printed-of-prints : (r : Reader) (w s x : List ℕ) → Prints t r w s x → Printed r w s x
  printed-of-prints r w _ _ prints-end = printed-of-end r w
  printed-of-prints r w _ _ (reported {x = x} k s u p) =
      printed-of-reports k r w s u x
      (printed-of-prints (reports k t r w s).reader (reports k t r w s).work (drop (reports k t r w s).read s ++ u) x p)

-- from a fresh reader on, the lines printed are those of the verdicts of the input's bytes
pub text-of-stream : (t : Table) (es : List Entry) → Book t es → (n : ℕ) (r : Reader) (w s x : List ℕ) → 1 ≤ n → n ≤ 64 → 96 * n ≤ length w → Fresh n r
    → Prints t r w s x → x ≡ lines_of (verdicts_of (judge_of es n) s)
text-of-stream t es book n r w s x least most long f p =
    let y = printed-of-prints t r w s x p in
    y.text ∙ ap lines_of (verdicts-of-reads t es book n least most r w s y.verdicts long f y.reads)

-- the whole text of the program: with an accepted book, the names of the fields and a line for each verdict of the input, as the stream on paper
-- gives them with the frames of the work buffer w
module _ (b : List ℕ) (l : Loaded) (loaded : LoadsAs b l) (yes : (loads b).number ≡ 0) where
  pub text-of-program : (w s x : List ℕ) → 96 ≤ length w → Prints l.table (start_of l.table w).reader w s x
      → beginning b ++ x ≡ stream_names ++ lines_of (verdicts_of (judge_of (loads b).entries (frame_count (length w))) s)
  unfolding beginning
  text-of-program w s x h p =
      let n : ℕ = frame_count (length w) in
      let begun = begun-of-start l.table w (start-quiet b l loaded l.table refl w h) in
      let fits : 96 * n ≤ length w = omega arith in
      rw yes (ap (λ y. stream_names ++ y) (text-of-stream l.table (loads b).entries (book-of-loaded b l loaded l.table refl yes) n (start_of l.table w).reader w s x
      begun.least begun.most fits begun.fresh p))
