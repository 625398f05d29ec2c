-- Demand 3: REQUIREMENT.md, sections 1 and 7. After an accepted start, any list of feeds and closes, refused ones included, each handed the reader
-- that the one before returned and otherwise any table, buffer and piece. Stated. Assumes nothing.
use Rattle.std.specs.Prelude.{Bool, true, false, cond, List, [], ◌∷◌, ◌≡◌, ℕ, T, length, Ok, None}
use Rattle.table.specs.Table.{Table}
use Rattle.book.specs.Entry.{Entry}
use Rattle.frame.specs.Frame.{frame_count}
use Rattle.reader.specs.declared.Reader.{Reader}
use Rattle.reader.specs.Refusals.{call_gate, is_open}
use Rattle.reader.specs.Start.{start_of}
use Rattle.reader.specs.Machine.{Outcome, feed_of, close_of}
use Rattle.stream.specs.Paper.{Call, feed, close, Heard, Judge, Judges, opening, told}

-- ---- the calls, one after the other

abbrev pub run : Reader → Call → Outcome
run r (feed t w s) = feed_of r t w s
run r (close t w) = close_of r t w

-- what the calls of a list answer, and the reader after them
unfoldable pub answers : Reader → List Call → List Heard
answers r [] = []
answers r (c ∷ cs) = record { count = (run r c).count; answer = (run r c).answer } ∷ answers (run r c).reader cs

unfoldable pub after : Reader → List Call → Reader
after r [] = r
after r (c ∷ cs) = after (run r c).reader cs

-- ---- streams: each runs from the start, or from a close that is not refused, to the next such close

abbrev pub table : Call → Table
table (feed t w s) = t
table (close t w) = t

abbrev pub buffer : Call → List ℕ
buffer (feed t w s) = w
buffer (close t w) = w

-- a call that the rules do not refuse
abbrev pub accepted : ℕ → Call → Bool
accepted n c = is_open (call_gate true n (table c) (length (buffer c)))

abbrev pub closes : ℕ → Call → Bool
closes n (feed t w s) = false
closes n (close t w) = accepted n (close t w)

abbrev pub before : Call → List (List Call) → List (List Call)
before c [] = (c ∷ []) ∷ []
before c (s ∷ ss) = (c ∷ s) ∷ ss

unfoldable pub streams : ℕ → List Call → List (List Call)
streams n [] = []
streams n (c ∷ cs) = cond (closes n c) ((c ∷ []) ∷ streams n cs) (before c (streams n cs))

module _ (Book : Table → List Entry → Type 0) where
  -- ---- what one stream asks of its caller: its accepted calls get one accepted book, and the buffer as the last of them left it

  pub data Held : Type 0 where
    nothing : Held
    held : Table → List ℕ → Held

  abbrev pub Same : Held → Call → Type 0
  Same nothing c = T true
  Same (held t w) c = (table c ≡ t) × (buffer c ≡ w)

  abbrev pub when : Bool → Type 0 → Type 0 → Type 0
  when true A B = A
  when false A B = B

  unfoldable pub Fair : List Entry → ℕ → Held → Reader → List Call → Type 0
  Fair es n k r [] = T true
  Fair es n k r (c ∷ cs) =
      when (accepted n c)
      (Book (table c) es × Same k c × Fair es n (held (table c) (run r c).work) (run r c).reader cs)
      (Fair es n k (run r c).reader cs)

  -- ---- the claim: each stream that is fair is answered as on paper, whatever went before it

  unfoldable pub Answered : ℕ → Reader → List (List Call) → Type 0
  Answered n r [] = T true
  Answered n r (s ∷ ss) =
      ((es : List Entry) (J : Judge) → Fair es n nothing r s → Judges es n J → answers r s ≡ told J n opening s) × Answered n (after r s) ss

  abbrev pub Demand3 : Type 0
  Demand3 =
      (t : Table) (w : List ℕ) (calls : List Call) → (start_of t w).answer ≡ Ok None
      → Answered (frame_count (length w)) (start_of t w).reader (streams (frame_count (length w)) calls)
