-- A report feed by feed: what is left of the piece gives what the whole gives. Assumes nothing.
use Rattle.std.specs.Prelude.{Ok, Err, Some, None}
use mathlib.Core.Bool.{Bool, true, false}
use mathlib.Core.List.{List}
use mathlib.Core.Path.{◌≡◌, refl, sym, ap, subst, ◌∙◌}
use Prim.Native.Nat.{ℕ, suc, ◌+◌, ◌-◌, ◌*◌, ◌/◌, ◌≤◌, ◌<◌}
use native.Mathlib.Omega.{arith}
use lib.ListN.{length, take, drop, length-drop}
use lib.Seq.{take_all, drop-drop}
use Rattle.table.specs.Table.{Table}
use Rattle.verdict.specs.declared.Verdict.{Verdict}
use Rattle.text.specs.Text.{line_of}
use Rattle.text.specs.Put.{Put, write, Written}
use Rattle.text.proofs.PutLaws.{Rest, rest-start, rest_put, rest-done, put-of-write, length-of-put}
use Rattle.reader.specs.declared.Reader.{Reader}
use Rattle.reader.specs.declared.Refusal.{Refusal}
use Rattle.reader.specs.Answer.{Answer}
use Rattle.reader.specs.Machine.{Outcome, feed_of}
use Rattle.demand.proofs.FeedLaws.{count-of-feed}
use Rattle.book.proofs.TruthLaws.{true-not-false}
use Rattle.report.specs.Report.{Reported, stops, line_then, by_answer, reports, Report, in_out, is_last, written, report_next, report_of}

-- ---- one feed of a report

module _ (t : Table) (s : List ℕ) (r : Reader) (w : List ℕ) (read : ℕ) where
  pub fed-rest : read ≤ length s → (f : Outcome) → f ≡ feed_of r t w (take (length s - read) (drop read s)) → f ≡ feed_of r t w (drop read s)
  fed-rest h f lent = rw (take_all (length s - read) (drop read s) (omega (arith, length-drop read s))) at lent

  pub fed-inside : read ≤ length s → (next : Reader) (count : ℕ) (a : Answer) (work : List ℕ)
      → record { reader = next; count = count; answer = a; work = work } ≡ feed_of r t w (take (length s - read) (drop read s))
      → read + count ≤ length s
  fed-inside h next count a work lent =
      let f : Outcome = record { reader = next; count = count; answer = a; work = work } in
      omega (arith, h, length-drop read s, ap (λ (x : Outcome). x.count) (fed-rest h f lent), count-of-feed r t w (drop read s))

  -- the place after what is read fits its type, as the length of the piece does
  pub fed-fits : read ≤ length s → (next : Reader) (count : ℕ) (a : Answer) (work : List ℕ)
      → record { reader = next; count = count; answer = a; work = work } ≡ feed_of r t w (take (length s - read) (drop read s))
      → length s < 18446744073709551616 → read + count < 18446744073709551616
  fed-fits h next count a work lent l = omega (arith, fed-inside h next count a work lent)

  pub next_of : (o : List ℕ) (used : ℕ) (next : Reader) (count : ℕ) (a : Answer) (work : List ℕ)
      → record { reader = next; count = count; answer = a; work = work } ≡ feed_of r t w (drop read s)
      → (after : List ℕ) (place : ℕ) → record { out = after; at = place } ≡ written a o used
      → record { reader = next; work = work; read = read + count; out = after; used = place; answer = a } ≡ report_next t s r w read o used
  unfolding report_next
  next_of o used next count a work fed after place wrote =
      let e : after ≡ (written a o used).out = ap (λ (x : Written). x.out) wrote in
      let d : place ≡ (written a o used).at = ap (λ (x : Written). x.at) wrote in
      rw (sym fed, e, d)

  -- a refused feed has no line, and reads nothing
  pub next-refused : (o : List ℕ) (used : ℕ) (next : Reader) (n : Refusal) (work : List ℕ)
      → record { reader = next; count = 0; answer = Err n; work = work } ≡ feed_of r t w (drop read s)
      → record { reader = next; work = work; read = read; out = o; used = used; answer = Err n } ≡ report_next t s r w read o used
  unfolding report_next
  next-refused o used next n work fed = let e : read + 0 ≡ read = omega arith in rw (sym fed, e)

-- a feed without a verdict is the last, and has no line
last-stops : (a : Answer) → is_last a ≡ true → (stop : Reported) (go : Verdict → Reported) → by_answer a stop go ≡ stop
last-stops (Ok None) e stop go = refl
last-stops (Err n) e stop go = refl
last-stops (Ok (Some v)) e stop go = true-not-false false e refl

last-writes : (a : Answer) → is_last a ≡ true → (o : List ℕ) (at : ℕ) → written a o at ≡ record { out = o; at = at }
last-writes (Ok None) e o at = refl
last-writes (Err n) e o at = refl
last-writes (Ok (Some v)) e o at = true-not-false false e refl

module _ (k : ℕ) (t : Table) (r : Reader) (w s : List ℕ) where
  reports-line : (v : Verdict) → (feed_of r t w s).answer ≡ Ok (Some v)
      → reports (suc k) t r w s
      ≡ line_then (feed_of r t w s).count v (reports k t (feed_of r t w s).reader (feed_of r t w s).work (drop (feed_of r t w s).count s))
  unfolding reports
  reports-line v e = rw e

  reports-last : is_last (feed_of r t w s).answer ≡ true → reports (suc k) t r w s ≡ stops (feed_of r t w s)
  unfolding reports
  reports-last e = last-stops (feed_of r t w s).answer e (stops (feed_of r t w s)) _

-- a report by its parts
report-of : (o : List ℕ) (x : Reported) (r : Reader) (w : List ℕ) (n : ℕ) (out : List ℕ) (used : ℕ) (a : Answer) → r ≡ x.reader → w ≡ x.work
    → n ≡ x.read → Put o 0 x.text out used → a ≡ x.answer
    → record { reader = r; work = w; read = n; out = out; used = used; answer = a } ≡ in_out o x
report-of o x r w n out used a e f g p h = let u : used ≡ length x.text = omega (arith, p.place) in rw (e, f, g, p.bytes, u, h)

-- ---- the loop: i feeds are done, read bytes of the piece s are read, and used bytes of the output are written

module _ (t : Table) (w₀ s o₀ : List ℕ) (r : Reader) where
  abbrev most : ℕ
  most = length o₀ / 64

  -- what the whole piece gives
  abbrev whole : Reported
  whole = reports most t r w₀ s

  pub record Going (w o : List ℕ) (next : Reader) (read used i : ℕ) : Type 0 where
    pub feeds : i ≤ most
    pub room : length o ≡ length o₀
    pub lines : used ≤ 64 * i
    pub inside : read ≤ length s
    pub reader : (reports (most - i) t next w (drop read s)).reader ≡ whole.reader
    pub work : (reports (most - i) t next w (drop read s)).work ≡ whole.work
    pub reads : read + (reports (most - i) t next w (drop read s)).read ≡ whole.read
    pub answer : (reports (most - i) t next w (drop read s)).answer ≡ whole.answer
    pub text : Rest o₀ 0 whole.text o used (reports (most - i) t next w (drop read s)).text

  pub going_start : Going w₀ o₀ r 0 0 0
  going_start =
      let e : most - 0 ≡ most = omega arith in
      record {
        feeds = omega arith;
        room = refl;
        lines = omega arith;
        inside = omega arith;
        reader = rw e;
        work = rw e;
        reads = rw e (omega arith);
        answer = rw e;
        text = rw e (rest-start o₀ 0 whole.text);
      }

  module _ (w o : List ℕ) (next : Reader) (read used i : ℕ) (x : Going w o next read used i) where
    -- the output is full
    pub going-full : most ≤ i → record { reader = next; work = w; read = read; out = o; used = used; answer = Ok None } ≡ report_of r t w₀ s o₀
    unfolding reports report_of
    going-full h =
        let e : most - i ≡ 0 = omega (arith, h) in
        let p : Put o₀ 0 whole.text o used = rest-done o₀ 0 whole.text o used (rw e at x.text) in
        report-of o₀ whole next w read o used (Ok None) (rw e at x.reader) (rw e at x.work) (omega (arith, rw e at x.reads)) p
        (rw e at x.answer)

    module _ (more : i < most) (next' : Reader) (w' : List ℕ) (read' : ℕ) (o' : List ℕ) (used' : ℕ) (a : Answer)
        (turn : record { reader = next'; work = w'; read = read'; out = o'; used = used'; answer = a } ≡ report_next t s next w read o used) (b : Bool)
        (said : b ≡ is_last a) where
      -- what is unread of the piece
      abbrev f : Outcome
      f = feed_of next t w (drop read s)

      abbrev behind : Reported
      behind = reports (most - i) t next w (drop read s)

      left : most - i ≡ suc (most - (i + 1))
      left = omega (arith, more)

      answer-is : a ≡ f.answer
      unfolding report_next
      answer-is = ap (λ (y : Report). y.answer) turn

      pub going-last : b ≡ true
          → record { reader = next'; work = w'; read = read'; out = o'; used = used'; answer = a } ≡ report_of r t w₀ s o₀
      unfolding report_of report_next
      going-last e =
          let last : is_last f.answer ≡ true = ap is_last (sym answer-is) ∙ sym said ∙ e in
          let stop : behind ≡ stops f = rw left (reports-last (most - (i + 1)) t next w (drop read s) last) in
          let none : written f.answer o used ≡ record { out = o; at = used } = last-writes f.answer last o used in
          let out_is : o' ≡ o = ap (λ (y : Report). y.out) turn ∙ ap (λ (y : Written). y.out) none in
          let used-is : used' ≡ used = ap (λ (y : Report). y.used) turn ∙ ap (λ (y : Written). y.at) none in
          let put : Put o₀ 0 whole.text o' used' = rw (out_is, used-is) (rest-done o₀ 0 whole.text o used (rw stop at x.text)) in
          report-of o₀ whole next' w' read' o' used' a (ap (λ (y : Report). y.reader) turn ∙ rw stop at x.reader)
          (ap (λ (y : Report). y.work) turn ∙ rw stop at x.work) (ap (λ (y : Report). y.read) turn ∙ rw stop at x.reads) put
          (answer-is ∙ rw stop at x.answer)

      -- a verdict has its line, of at most 64 bytes
      module _ (short : used' ≤ used + 64) (v : Verdict) (judged : f.answer ≡ Ok (Some v)) where
        turn_is : ◌≡◌ {A = Report} (record { reader = next'; work = w'; read = read'; out = o'; used = used'; answer = a }) (record {
          reader = f.reader;
          work = f.work;
          read = read + f.count;
          out = (write o used (line_of v)).out;
          used = (write o used (line_of v)).at;
          answer = Ok (Some v);
        })
        unfolding report_next
        turn_is = rw judged at turn

        abbrev after : List ℕ
        after = (write o used (line_of v)).out

        abbrev place : ℕ
        place = (write o used (line_of v)).at

        put : Put o used (line_of v) after place
        put = put-of-write o used (line_of v) after place (omega (arith, x.room, x.lines, more)) refl

        abbrev rest : Reported
        rest = reports (most - (i + 1)) t f.reader f.work (drop (read + f.count) s)

        behind-is : behind ≡ line_then f.count v rest
        behind-is = rw (left, sym (drop-drop f.count read s)) (reports-line (most - (i + 1)) t next w (drop read s) v judged)

        line-going : Going w' o' next' read' used' (i + 1)
        line-going =
            subst (λ (y : Report). Going y.work y.out y.reader y.read y.used (i + 1)) (sym turn_is)
            (record {
              feeds = omega (arith, more);
              room = length-of-put o used (line_of v) after place put ∙ x.room;
              lines = omega (arith, short, ap (λ (y : Report). y.used) turn_is, x.lines);
              inside = omega (arith, x.inside, length-drop read s, count-of-feed next t w (drop read s));
              reader = rw behind-is at x.reader;
              work = rw behind-is at x.work;
              reads = omega (arith, rw behind-is at x.reads);
              answer = rw behind-is at x.answer;
              text = rest_put o₀ 0 whole.text o used (line_of v) rest.text after place (rw behind-is at x.text) put;
            })

      pub going-line : used' ≤ used + 64 → b ≡ false → Going w' o' next' read' used' (i + 1)
      going-line short e = go f.answer refl (ap is_last (sym answer-is) ∙ sym said ∙ e)
        where
          go : (y : Answer) → f.answer ≡ y → is_last y ≡ false → Going w' o' next' read' used' (i + 1)
          go (Ok None) d z = true-not-false true refl z
          go (Err n) d z = true-not-false true refl z
          go (Ok (Some v)) d z = line-going short v d
