-- A caller who feeds what is unread and closes at the end gets the verdicts of his bytes: `verdicts-of-reads`. Assumes nothing.
use Rattle.std.specs.Prelude.{Ok, Err, None}
use mathlib.Core.Bool.{true}
use mathlib.Core.List.{List, [], ◌∷◌, ◌++◌}
use mathlib.Core.Path.{◌≡◌, refl, sym, ap, ◌∙◌}
use Prim.Native.Nat.{ℕ, ◌*◌, ◌≤◌}
use lib.ListN.{length, drop}
use Rattle.table.specs.Table.{Table}
use Rattle.table.specs.Limits.{within_limits}
use Rattle.book.specs.Entry.{Entry}
use Rattle.book.specs.Load.{loads}
use Rattle.load.specs.Step.{Loaded}
use Rattle.load.specs.Loads.{LoadsAs}
use Rattle.load.proofs.LoadedLaws.{loaded-within_limits}
use Rattle.verdict.specs.declared.Verdict.{Verdict}
use Rattle.reader.specs.declared.Reader.{Reader}
use Rattle.reader.specs.declared.Refusal.{Refusal}
use Rattle.reader.specs.Refusals.{is_open}
use Rattle.reader.specs.Start.{start_of}
use Rattle.reader.specs.Machine.{Outcome, feed_of, close_of}
use Rattle.stream.specs.Paper.{Call, feed, close}
use Rattle.stream.specs.Claim.{run, answers, accepted, Held, nothing, held, Same, Fair}
use Rattle.reader.proofs.RefusalLaws.{start-open-of-room, call-open-of-room}
use Rattle.stream.specs.Records.{verdicts_of, verdicts_in, and_then, Hands, closed, fed as hands-fed, Fresh}
use Rattle.stream.proofs.CallLaws.{Good, accepted-of-true, good-of-call, reading-not-refused}
use Rattle.stream.proofs.JudgeLaws.{judge_of}
use Rattle.demand.specs.Book.{Book}
use Rattle.demand.specs.Reading.{Reads, ended, fed}
use Rattle.demand.proofs.Corollaries.{verdicts-of-stream}
use Rattle.demand.proofs.FeedLaws.{length-of-feed}

module _ (t : Table) (es : List Entry) (book : Book t es) (n : ℕ) where
  limits : within_limits t ≡ true
  limits = rw book.table at (loaded-within_limits book.bytes book.loaded book.gave)

  accepted-close : (w : List ℕ) → 96 * n ≤ length w → accepted n (close t w) ≡ true
  accepted-close w long = ap is_open (call-open-of-room n t (length w) limits long)

  accepted-feed : (w s : List ℕ) → 96 * n ≤ length w → accepted n (feed t w s) ≡ true
  accepted-feed w s long = ap is_open (call-open-of-room n t (length w) limits long)

  -- ---- calls from a reader on that hand over the bytes s, and whose verdicts are vs

  record Calls (h : Held Book) (r : Reader) (s : List ℕ) (vs : List Verdict) : Type 0 where
    calls : List Call
    fair : Fair Book es n h r calls
    hands : Hands n r calls s
    verdicts : vs ≡ verdicts_in (answers r calls)

  -- calls that hand over s with the verdicts vs, whatever the stream holds so far: nothing, or the table t and the buffer w
  abbrev Called : Reader → List ℕ → List ℕ → List Verdict → Type 0
  Called r w s vs = (h : Held Book) → Same Book h (close t w) → Calls h r s vs

  module _ (r : Reader) (w : List ℕ) (long : 96 * n ≤ length w) where
    called-of-end : Called r w [] (and_then (close_of r t w).answer [])
    unfolding Fair verdicts_in answers
    called-of-end h same =
        let e : accepted n (close t w) ≡ true = accepted-close w long in
        record { calls = close t w ∷ []; fair = rw e (book, same, tt); hands = closed e; verdicts = refl }

    same-of-feed : (s : List ℕ) (h : Held Book) → Same Book h (close t w) → Same Book h (feed t w s)
    same-of-feed s nothing x = x
    same-of-feed s (held u v) x = x

    called-of-feed : (s u : List ℕ) (vs : List Verdict)
        → Called (feed_of r t w s).reader (feed_of r t w s).work (drop (feed_of r t w s).count s ++ u) vs
        → Called r w (s ++ u) (and_then (feed_of r t w s).answer vs)
    unfolding Fair verdicts_in answers
    called-of-feed s u vs rest h same =
        let e : accepted n (feed t w s) ≡ true = accepted-feed w s long in
        let y = rest (held t (feed_of r t w s).work) (refl, refl) in
        record {
          calls = feed t w s ∷ y.calls;
          fair = rw e (book, same-of-feed s h same, y.fair);
          hands = hands-fed u e y.hands;
          verdicts = ap (and_then (feed_of r t w s).answer) y.verdicts;
        }

  called-of-reads : (r : Reader) (w s : List ℕ) (vs : List Verdict) → 96 * n ≤ length w → Reads t r w s vs → Called r w s vs
  called-of-reads r w _ _ long ended = called-of-end r w long
  called-of-reads r w _ _ long (fed {vs = vs} s u p) =
      called-of-feed r w long s u vs
      (called-of-reads (feed_of r t w s).reader (feed_of r t w s).work (drop (feed_of r t w s).count s ++ u) vs (rw (length-of-feed r t w s) long) p)

  module _ (least : 1 ≤ n) (most : n ≤ 64) where
    -- from a fresh reader on, the verdicts are those of the bytes, as the stream on paper gives them
    pub verdicts-of-reads : (r : Reader) (w s : List ℕ) (vs : List Verdict) → 96 * n ≤ length w → Fresh n r → Reads t r w s vs
        → vs ≡ verdicts_of (judge_of es n) s
    verdicts-of-reads r w s vs long f p =
        let c = called-of-reads r w s vs long p nothing tt in
        c.verdicts ∙ verdicts-of-stream es n least most (record { fresh = f; fair = c.fair; hands = c.hands })

    -- ---- no feed and no close with a good reader and a buffer with its frames is refused

    module _ (r : Reader) (w : List ℕ) (g : Good n r) (long : 96 * n ≤ length w) where
      served : (c : Call) → accepted n c ≡ true → (k : Refusal) → (run r c).answer ≡ Err k → ⊥
      served c a k e =
          reading-not-refused r c k (sym (ap (λ (o : Outcome). o.answer) (accepted-of-true n least most r c g a).run_is) ∙ e)

      pub feed-served : (s : List ℕ) (k : Refusal) → (feed_of r t w s).answer ≡ Err k → ⊥
      feed-served s = served (feed t w s) (accepted-feed w s long)

      pub close-served : (k : Refusal) → (close_of r t w).answer ≡ Err k → ⊥
      close-served = served (close t w) (accepted-close w long)

      pub good-of-feed : (s : List ℕ) → Good n (feed_of r t w s).reader
      good-of-feed s = good-of-call n least most r (feed t w s) g

-- ---- an accepted book begins

module _ (b : List ℕ) (l : Loaded) (loaded : LoadsAs b l) (t : Table) (e : l.table ≡ t) where
  pub book-of-loaded : (loads b).number ≡ 0 → Book t (loads b).entries
  book-of-loaded ok = record { bytes = b; loaded = l; gave = loaded; accepted = ok; table = e; entries = refl }

  -- with a table that load gave and a buffer of a frame or more start is not refused
  pub start-quiet : (w : List ℕ) → 96 ≤ length w → (start_of t w).answer ≡ Ok None
  unfolding start_of
  start-quiet w h = rw (start-open-of-room t (length w) (rw e at (loaded-within_limits b l loaded)) h)
