-- A stream by its bytes: RS splits it into parts, each nonempty one a record with one verdict, and calls hand its bytes over piece by piece:
-- REQUIREMENT.md, sections 6 and 7. Stated. Assumes nothing.
use Rattle.std.specs.Prelude.{Bool, true, false, cond, not, List, [], ◌∷◌, ◌++◌, ◌≡◌, ℕ, eqb, drop, replicate, Ok, Err, Some, None}
use Rattle.laws.specs.Lists.{all}
use Rattle.table.specs.Table.{Table}
use Rattle.book.specs.Entry.{Entry}
use Rattle.verdict.specs.declared.Verdict.{Verdict}
use Rattle.progress.specs.Fresh.{fresh_progress}
use Rattle.reader.specs.declared.Tally.{Tally}
use Rattle.reader.specs.declared.Reader.{Reader}
use Rattle.reader.specs.Answer.{Answer}
use Rattle.reader.specs.Tally.{tallied}
use Rattle.stream.specs.Paper.{Call, feed, close, Heard, Judge, nonempty}
use Rattle.stream.specs.Claim.{run, accepted, nothing, Fair}

-- ---- the records of a stream

-- the parts that RS splits bytes into: those before the first RS, and those after each RS
pub record Parts : Type 0 where
  pub first : List ℕ
  pub behind : List (List ℕ)

-- a byte before parts: an RS makes them stand after it, any other byte joins the first
abbrev pub with_byte : ℕ → Parts → Parts
with_byte b x = cond (eqb b 0x1E) (record { first = []; behind = x.first ∷ x.behind }) (record { first = b ∷ x.first; behind = x.behind })

unfoldable pub cut_at_rs : List ℕ → Parts
cut_at_rs [] = record { first = []; behind = [] }
cut_at_rs (b ∷ s) = with_byte b (cut_at_rs s)

-- bytes with no RS among them
abbrev pub no_rs : List ℕ → Bool
no_rs s = all (λ (b : ℕ). not (eqb b 0x1E)) s

-- each nonempty part is a record; empty parts are none
unfoldable pub nonempties : List (List ℕ) → List (List ℕ)
nonempties [] = []
nonempties (p ∷ ps) = cond (nonempty p) (p ∷ nonempties ps) (nonempties ps)

-- the records of bytes in stream order, head included
abbrev pub records_of : List ℕ → List (List ℕ)
records_of s = nonempties ((cut_at_rs s).first ∷ (cut_at_rs s).behind)

-- a nonempty part is a record with one verdict, an empty part has none; vs are the verdicts after it
abbrev pub given : Judge → Bool → List ℕ → List Verdict → List Verdict
given J head p vs = cond (nonempty p) (J head p ∷ vs) vs

-- the verdicts of parts after an RS, in stream order
unfoldable pub given_all : Judge → List (List ℕ) → List Verdict
given_all J [] = []
given_all J (p ∷ ps) = given J false p (given_all J ps)

-- the verdicts of a stream's bytes: the part before the first RS is the head
abbrev pub verdicts_of : Judge → List ℕ → List Verdict
verdicts_of J s = given J true (cut_at_rs s).first (given_all J (cut_at_rs s).behind)

-- the verdicts of bytes after an RS
abbrev pub verdicts_behind : Judge → List ℕ → List Verdict
verdicts_behind J s = given J false (cut_at_rs s).first (given_all J (cut_at_rs s).behind)

-- ---- what calls answer, and the bytes that they hand over

abbrev pub and_then : Answer → List Verdict → List Verdict
and_then (Ok None) vs = vs
and_then (Ok (Some v)) vs = v ∷ vs
and_then (Err k) vs = vs

-- the verdicts among answers
unfoldable pub verdicts_in : List Heard → List Verdict
verdicts_in [] = []
verdicts_in (h ∷ hs) = and_then h.answer (verdicts_in hs)

-- a tally after verdicts: each is counted
unfoldable pub tally_after : List Verdict → Tally → Tally
tally_after [] y = y
tally_after (v ∷ vs) y = tally_after vs (tallied v y)

-- calls from a reader on, with n frames, that hand over bytes and then close. The unread rest of a piece comes first in what the calls after it
-- hand over; a refused call hands over nothing
pub data Hands (n : ℕ) : Reader → List Call → List ℕ → Type 0 where
  closed : {r : Reader} {t : Table} {w : List ℕ} → accepted n (close t w) ≡ true → Hands n r (close t w ∷ []) []
  fed : {r : Reader} {t : Table} {w s : List ℕ} {cs : List Call} (u : List ℕ) → accepted n (feed t w s) ≡ true
      → Hands n (run r (feed t w s)).reader cs (drop (run r (feed t w s)).count s ++ u) → Hands n r (feed t w s ∷ cs) (s ++ u)
  refused : {r : Reader} {c : Call} {cs : List Call} {s : List ℕ} → accepted n c ≡ false → Hands n (run r c).reader cs s → Hands n r (c ∷ cs) s

-- ---- a stream

-- a reader at the beginning of a stream, with n frames
pub record Fresh (n : ℕ) (r : Reader) : Type 0 where
  pub frames : r.frames ≡ n
  pub progress : r.progress ≡ fresh_progress true
  pub root : r.root ≡ false
  pub key : r.key ≡ replicate 32 0

-- a stream from a fresh reader on, fair by a book with the entries es, whose calls hand over the bytes s and close
pub record StreamOf (Book : Table → List Entry → Type 0) (es : List Entry) (n : ℕ) (r : Reader) (cs : List Call) (s : List ℕ) : Type 0 where
  pub fresh : Fresh n r
  pub fair : Fair Book es n nothing r cs
  pub hands : Hands n r cs s
