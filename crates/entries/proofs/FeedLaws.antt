-- A stream feed by feed: what is unread gives what the whole gives. Assumes nothing.
use Rattle.std.specs.Prelude.{Option, Ok, Err, Some, None}
use mathlib.Core.Bool.{Bool, true, false}
use mathlib.Core.List.{List, ◌++◌}
use mathlib.Core.Path.{◌≡◌, refl, sym, ap, subst, ◌∙◌}
use Prim.Native.Nat.{ℕ, zero, suc, ◌+◌, ◌-◌, ◌*◌, ◌≤◌, ◌<◌}
use native.Mathlib.Omega.{arith}
use lib.Dec.{eqb}
use lib.ListN.{length, take, drop, length-drop, length-append}
use lib.Seq.{drop-drop}
use borrow.Author.Tests.{eq-eqb, ne_eqb}
use Rattle.book.proofs.TruthLaws.{true-not-false}
use Rattle.table.specs.Table.{Table}
use Rattle.verdict.specs.declared.Verdict.{Verdict}
use Rattle.reader.specs.declared.Reader.{Reader}
use Rattle.reader.specs.Answer.{Answer}
use Rattle.reader.specs.declared.Refusal.{Refusal}
use Rattle.reader.specs.Machine.{Outcome, feed_of, close_of}
use Rattle.demand.proofs.FeedLaws.{count-of-feed, some-of-feed, weight, weight-of-feed}
use Rattle.entries.specs.declared.entry.Entry.{Entry}
use Rattle.entries.specs.Entries.{with_entries}
use Rattle.entries.specs.Feeds.{answer_entries, is_refused, Fed, stopped, entries_then, piece_of, piece_end, feeds, Feeds, streamed, in_out}
use Rattle.entries.specs.Turn.{Turn, feed_next, turn_of}
use Rattle.entries.proofs.EntryLaws.{with_entries-append}
use Rattle.entries.proofs.PieceLaws.{piece_is, piece-some, piece-short}

-- an answer has at most one entry
one_entry : (a : Answer) (read : ℕ) → length (answer_entries a read) ≤ 1
one_entry (Ok None) read = omega arith
one_entry (Ok (Some v)) read = omega arith
one_entry (Err n) read = omega arith

entry-weight : (a : Answer) (read : ℕ) → is_refused a ≡ false → 2 * length (answer_entries a read) ≤ weight a
entry-weight (Ok None) read e = omega arith
entry-weight (Ok (Some v)) read e = omega arith
entry-weight (Err n) read e = true-not-false true refl e

served : (a : Answer) → is_refused a ≡ false → (n : Refusal) → a ≡ Err n → ⊥
served a e n d = true-not-false true refl (rw d at e)

let_in : (v : Option Verdict) → is_refused (Ok v) ≡ false
let_in None = refl
let_in (Some v) = refl

-- ---- one feed

module _ (t : Table) (size : ℕ) (r : Reader) (w : List ℕ) (read : ℕ) (s : List ℕ) where
  pub feeds-done : (k : ℕ) → length s ≡ 0 → feeds k t size r w read s ≡ stopped r w read
  unfolding feeds
  feeds-done zero e = refl
  feeds-done (suc k) e = rw (eq-eqb (length s) 0 e)

  module _ (k : ℕ) (some : 0 < length s) (o : Outcome) (fed : o ≡ feed_of r t w (piece_of size read s)) where
    some_left : eqb (length s) 0 ≡ false
    some_left = ne_eqb (length s) 0 (λ e. omega (arith, some, e))

    feeds-refused : is_refused o.answer ≡ true → feeds (suc k) t size r w read s ≡ stopped o.reader o.work (read + o.count)
    unfolding feeds
    feeds-refused e = rw (some_left, sym fed, e)

    pub feeds-more : is_refused o.answer ≡ false
        → feeds (suc k) t size r w read s
        ≡ entries_then (answer_entries o.answer (read + o.count)) (feeds k t size o.reader o.work (read + o.count) (drop o.count s))
    unfolding feeds
    feeds-more e = rw (some_left, sym fed, e)

-- ---- one turn of the loop

module _ (t : Table) (size : ℕ) (s : List ℕ) (r : Reader) (w : List ℕ) (read : ℕ) where
  pub fed-piece : read ≤ length s → (end : ℕ) → end ≡ piece_end size read (length s)
      → (x : Outcome) → x ≡ feed_of r t w (take (end - read) (drop read s)) → x ≡ feed_next t size s r w read
  fed-piece h end cut x lent = rw (cut, piece_is size read s h) at lent

  pub fed-inside : read ≤ length s → read + (feed_next t size s r w read).count ≤ length s
  fed-inside h =
      omega (arith, h, length-drop read s, count-of-feed r t w (piece_of size read (drop read s)), piece-short size read (drop read s))

  pub fed-count : read ≤ length s → (end : ℕ) → end ≡ piece_end size read (length s) → (next : Reader) (count : ℕ) (a : Answer) (work : List ℕ)
      → record { reader = next; count = count; answer = a; work = work } ≡ feed_of r t w (take (end - read) (drop read s))
      → read + count ≤ length s
  fed-count h end cut next count a work lent =
      omega (arith, ap (λ (x : Outcome). x.count) (fed-piece h end cut (record { reader = next; count = count; answer = a; work = work }) lent), fed-inside h)

  -- the place after what is read fits its type, as the length of the stream does
  pub fed-fits : read ≤ length s → (end : ℕ) → end ≡ piece_end size read (length s) → (next : Reader) (count : ℕ) (a : Answer) (work : List ℕ)
      → record { reader = next; count = count; answer = a; work = work } ≡ feed_of r t w (take (end - read) (drop read s))
      → length s < 18446744073709551616 → read + count < 18446744073709551616
  fed-fits h end cut next count a work lent l = omega (arith, fed-count h end cut next count a work lent)

  module _ (o : List ℕ) (made : ℕ) (next : Reader) (work : List ℕ) where
    pub turn-refused : (n : Refusal) → record { reader = next; count = 0; answer = Err n; work = work } ≡ feed_next t size s r w read
        → record { reader = next; work = work; read = read; out = o; made = made; refused = true } ≡ turn_of t size s r w read o made
    unfolding turn_of with_entries
    turn-refused n fed =
        let same : read + 0 ≡ read = omega arith in
        let none : made + 0 ≡ made = omega arith in
        rw (sym fed, same, none)

    pub turn-put : (count : ℕ) (v : Option Verdict) → record { reader = next; count = count; answer = Ok v; work = work } ≡ feed_next t size s r w read
        → (after : List ℕ) (now : ℕ) → after ≡ with_entries o made (answer_entries (Ok v) (read + count))
        → now ≡ made + length (answer_entries (Ok v) (read + count))
        → record { reader = next; work = work; read = read + count; out = after; made = now; refused = false } ≡ turn_of t size s r w read o made
    unfolding turn_of
    turn-put count v fed after now h d = rw (sym fed, let_in v, h, d)

-- ---- the loop: read bytes of the stream s are read, and made entries are made

module _ (t : Table) (size : ℕ) (w₀ s o₀ : List ℕ) (r : Reader) where
  abbrev whole : Fed
  whole = feeds (length s) t size r w₀ 0 s

  pub record Going (w o : List ℕ) (next : Reader) (read made : ℕ) : Type 0 where
    pub feed : ℕ
    pub enough : length s ≤ read + feed
    pub inside : read ≤ length s
    pub fresh : read ≡ 0 → next.progress.pos ≡ 0
    pub few : made ≤ read - 1
    pub reader : (feeds feed t size next w read (drop read s)).reader ≡ whole.reader
    pub work : (feeds feed t size next w read (drop read s)).work ≡ whole.work
    pub reads : (feeds feed t size next w read (drop read s)).read ≡ whole.read
    pub out : with_entries o made (feeds feed t size next w read (drop read s)).entries ≡ with_entries o₀ 0 whole.entries
    pub count : made + length (feeds feed t size next w read (drop read s)).entries ≡ length whole.entries

  pub going_start : r.progress.pos ≡ 0 → Going w₀ o₀ r 0 0
  going_start start =
      record {
        feed = length s;
        enough = omega arith;
        inside = omega arith;
        fresh = λ _. start;
        few = omega arith;
        reader = refl;
        work = refl;
        reads = refl;
        out = refl;
        count = omega arith;
      }

  module _ (w o : List ℕ) (next : Reader) (read made : ℕ) (x : Going w o next read made) where
    abbrev left : Fed
    left = feeds x.feed t size next w read (drop read s)

    -- all is read, or a feed is refused: no entries are left
    stops : (r : Reader) (w : List ℕ) (n : ℕ) → left ≡ stopped r w n → Feeds whole o₀ r w n o made
    unfolding with_entries
    stops r w n e =
        record {
          reader_is = rw e at x.reader;
          work_is = rw e at x.work;
          read_is = rw e at x.reads;
          out_is = rw e at x.out;
          made_is = omega (arith, rw e at x.count);
        }

    pub going_done : length s ≤ read → Feeds whole o₀ next w read o made
    going_done h = stops next w read (feeds-done t size next w read (drop read s) x.feed (omega (arith, h, length-drop read s)))

    module _ (more : read < length s) (next' : Reader) (w' : List ℕ) (read' : ℕ) (o' : List ℕ) (made' : ℕ) (refused : Bool)
        (turn : record { reader = next'; work = w'; read = read'; out = o'; made = made'; refused = refused } ≡ turn_of t size s next w read o made) where
      abbrev f : Outcome
      f = feed_next t size s next w read

      some : 0 < length (drop read s)
      some = omega (arith, more, length-drop read s)

      fuel : x.feed ≡ suc (x.feed - 1)
      fuel = omega (arith, more, x.enough)

      refused-is : refused ≡ is_refused f.answer
      unfolding turn_of
      refused-is = ap (λ (y : Turn). y.refused) turn

      pub going-refused : refused ≡ true → Feeds whole o₀ next' w' read' o' made'
      unfolding turn_of with_entries
      going-refused e =
          let said : is_refused f.answer ≡ true = sym refused-is ∙ e in
          let none : made + 0 ≡ made = omega arith in
          let last : left ≡ stopped f.reader f.work (read + f.count) =
          rw fuel (feeds-refused t size next w read (drop read s) (x.feed - 1) some f refl said) in
          subst (λ (y : Turn). Feeds whole o₀ y.reader y.work y.read y.out y.made) (sym turn)
          (rw (said, none) (stops f.reader f.work (read + f.count) last))

      -- a refused feed makes no entry
      pub made-refused : refused ≡ true → length s < 18446744073709551616 → made' < 18446744073709551615
      unfolding turn_of
      made-refused e fits =
          let said : is_refused f.answer ≡ true = sym refused-is ∙ e in
          let same : made' ≡ made + 0 = rw said at (ap (λ (y : Turn). y.made) turn) in
          omega (arith, same, x.few, more, fits)

      module _ (on : refused ≡ false) where
        served-on : is_refused f.answer ≡ false
        served-on = sym refused-is ∙ on

        count-some : 0 < f.count
        count-some =
            some-of-feed next t w (piece_of size read (drop read s)) (piece-some size read (drop read s) some) (served f.answer served-on)

        abbrev entries : List Entry
        entries = answer_entries f.answer (read + f.count)

        abbrev rest : Fed
        rest = feeds (x.feed - 1) t size f.reader f.work (read + f.count) (drop (read + f.count) s)

        left_is : left ≡ entries_then entries rest
        left_is =
            subst (λ k. feeds k t size next w read (drop read s) ≡ entries_then entries rest) (sym fuel)
            (rw (sym (drop-drop f.count read s)) (feeds-more t size next w read (drop read s) (x.feed - 1) some f refl served-on))

        few-more : made + length entries ≤ read + f.count - 1
        few-more = go read refl
          where
            go : (n : ℕ) → n ≡ read → made + length entries ≤ read + f.count - 1
            go zero z =
                omega (
                  arith,
                  z,
                  x.few,
                  entry-weight f.answer (read + f.count) served-on,
                  weight-of-feed next t w (piece_of size read (drop read s)) (x.fresh (sym z)),
                )
            go (suc n) z = omega (arith, z, x.few, one_entry f.answer (read + f.count), count-some)

        turn_is : ◌≡◌ {A = Turn} (record { reader = next'; work = w'; read = read'; out = o'; made = made'; refused = refused })
            (record {
              reader = f.reader;
              work = f.work;
              read = read + f.count;
              out = with_entries o made entries;
              made = made + length entries;
              refused = false;
            })
        unfolding turn_of
        turn_is = rw served-on at turn

        pub going_more : Going w' o' next' read' made'
        going_more =
            subst (λ (y : Turn). Going y.work y.out y.reader y.read y.made) (sym turn_is)
            (record {
              feed = x.feed - 1;
              enough = omega (arith, x.enough, count-some, more);
              inside = fed-inside t size s next w read x.inside;
              fresh = λ z. absurd (omega (arith, z, count-some));
              few = few-more;
              reader = rw left_is at x.reader;
              work = rw left_is at x.work;
              reads = rw left_is at x.reads;
              out = sym (with_entries-append o made entries rest.entries) ∙ rw left_is at x.out;
              count = omega (arith, length-append entries rest.entries, rw left_is at x.count);
            })

        pub less-unread : length s - read' < length s - read
        less-unread = omega (arith, ap (λ (y : Turn). y.read) turn_is, count-some, more)

-- ---- the feeds of a stream, then the close

module _ (t : Table) (size : ℕ) (r : Reader) (w s o : List ℕ) where
  pub streamed-of : (next : Reader) (work : List ℕ) (read : ℕ) (mid : List ℕ) (made : ℕ)
      → Feeds (feeds (length s) t size r w 0 s) o next work read mid made → (closed : Reader) (n : ℕ) (a : Answer) (left : List ℕ)
      → record { reader = closed; count = n; answer = a; work = left } ≡ close_of next t work
      → (after : List ℕ) (now : ℕ) → after ≡ with_entries mid made (answer_entries a read) → now ≡ made + length (answer_entries a read)
      → record { work = work; out = after; made = now } ≡ in_out o (streamed t size r w s)
  unfolding streamed
  streamed-of next work read mid made x closed k a left e after now d n =
      let f : Fed = feeds (length s) t size r w 0 s in
      let es : List Entry = answer_entries (close_of f.reader t f.work).answer f.read in
      let said : answer_entries a read ≡ es =
      rw (ap (λ (c : Outcome). c.answer) e, x.reader_is, x.work_is, x.read_is) in
      let made_is : made ≡ 0 + length f.entries = omega (arith, x.made_is) in
      let out : after ≡ with_entries o 0 (f.entries ++ es) =
      d ∙ rw (said, x.out_is, made_is) (sym (with_entries-append o 0 f.entries es)) in
      let many : now ≡ length (f.entries ++ es) = omega (arith, n, ap length said, x.made_is, length-append f.entries es) in
      rw (x.work_is, out, many)
