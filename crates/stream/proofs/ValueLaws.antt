-- Of a number that is fed where a value is awaited the reader finds `int` exactly where the value is whole: `kind-of-number`. Assumes nothing.
use Rattle.std.specs.Prelude.{Ok, Err, None}
use mathlib.Core.Bool.{Bool, true, false, cond}
use mathlib.Core.List.{List, [], ◌∷◌}
use mathlib.Core.Logic.{◌↔◌}
use mathlib.Core.Path.{◌≡◌, refl, sym, ap, subst, ◌∙◌}
use Prim.Native.Nat.{ℕ, ◌+◌, ◌<◌, ◌≤◌}
use native.Mathlib.Omega.{arith}
use lib.Dec.{T, eqb}
use lib.ListN.{length}
use borrow.Author.Tests.{lt-ltb, ne_eqb}
use Rattle.laws.specs.Count.{bump}
use Rattle.laws.proofs.TestLaws.{true-of-T}
use Rattle.json_text.specs.Bytes.{within}
use Rattle.json_text.specs.Meaning.{fold}
use Rattle.json_text.specs.Numbers.{is_digit_1_9, Number}
use Rattle.json_text.specs.Lexer.{number_move, may_end, step_to}
use Rattle.json_text.specs.declared.number.NumberMode.{NumberMode}
use Rattle.json_text.specs.declared.number.NumberMove.TheVariants as NM
use Rattle.json_text.specs.declared.lexer.Awaited.TheVariants as P
use Rattle.json_text.specs.declared.lexer.Mode.{Mode}
use Rattle.json_text.specs.declared.lexer.Mode.TheVariants as M
use Rattle.json_text.specs.declared.lexer.Act.{Act}
use Rattle.json_text.specs.declared.lexer.Act.TheVariants as A
use Rattle.json_text.specs.declared.lexer.Step.{Step}
use Rattle.json_text.proofs.ByteLaws.{low-of-within}
use Rattle.json_text.proofs.NumberLaws.{move-of-goes, NumberFrom, ends-here, goes_on, Starts, starts-minus, starts-zero, starts-int, Begun, begun, from-of-number}
use Rattle.json_text.proofs.Accepted.{number-start-step}
use Rattle.whole.specs.declared.Decimal.{Decimal}
use Rattle.whole.specs.Fresh.{fresh}
use Rattle.whole.specs.Count.{bounded, counted, is_whole}
use Rattle.whole.specs.Read.{Read, unread, reads, gone_to, begins, read_byte, reads_whole}
use Rattle.whole.specs.Whole.{Whole}
use Rattle.whole.proofs.BoundLaws.{whole-iff-bounded}
use Rattle.table.specs.Table.{Table}
use Rattle.table.specs.declared.kind.Scalar.TheVariants as K
use Rattle.verdict.specs.Verdict.{longest}
use Rattle.progress.specs.Act.{first_fault, number_in, number_kind}
use Rattle.pass.proofs.ByteLaws.{bump-below}
use Rattle.pass.proofs.NumberLaws.{go-other}
use Rattle.std.proofs.Common.{Err, Ok}
use Rattle.reader.specs.Refusals.{let_in, Gate}
use Rattle.reader.specs.declared.Reader.{Reader}
use Rattle.reader.specs.Answer.{Answer}
use Rattle.reader.specs.Machine.{Outcome, feed_of}
use Rattle.stream.specs.Lent.{level_of, mode_of, byte_fed, then_fed, AwaitsValue}
use Rattle.stream.proofs.FedLaws.{gate_of, feed_of-of-shut, step_at, done, IsSound, fed-of-sound, fed-none, fed-in-two}

-- a call is let in, and the record reads on in mode m after p bytes, with what is counted of a number
record ReadsOn (t : Table) (r : Reader) (w : List ℕ) (m : Mode) (d : Decimal) (p : ℕ) : Type 0 where
  gate : gate_of r t w ≡ let_in
  head : r.progress.head ≡ false
  fault : r.progress.fault ≡ None
  mode : mode_of r ≡ m
  number : r.progress.number ≡ d
  pos : r.progress.pos ≡ p

-- the acts of a number's bytes
data NumberAct : Act → Type 0 where
  first_byte : NumberAct A.NumberStart
  more_byte : NumberAct A.NumberByte

-- ---- one byte

module _ (t : Table) (r : Reader) (w : List ℕ) (m : Mode) (d : Decimal) (p b : ℕ) (i : ReadsOn t r w m d p) (n : NumberMode) where
  -- after the byte, with the outcome o
  record Fed (o : Outcome) : Type 0 where
    quiet : o.answer ≡ Ok None
    reads_on : ReadsOn t o.reader o.work (M.Number n) (counted bounded n (number_in m d) b) (p + 1)

  next-pos : p < longest → bump r.progress.pos ≡ p + 1
  next-pos l = bump-below r.progress.pos (omega (arith, i.pos)) ∙ ap (λ (k : ℕ). k + 1) i.pos

  same_number : counted bounded n (number_in (mode_of r) r.progress.number) b ≡ counted bounded n (number_in m d) b
  same_number = rw (i.mode, i.number)

  done-number : {a : Act} → NumberAct a → p < longest → Fed (done r t w b (step_to (M.Number n) a))
  done-number first_byte l =
      record {
        quiet = refl;
        reads_on = record { gate = i.gate; head = i.head; fault = i.fault; mode = refl; number = same_number; pos = next-pos l };
      }
  done-number more_byte l =
      record {
        quiet = refl;
        reads_on = record { gate = i.gate; head = i.head; fault = i.fault; mode = refl; number = same_number; pos = next-pos l };
      }

  no-fault : {a : Act} → NumberAct a → first_fault a (level_of r) r.frames r.progress.pos ≡ None
  no-fault first_byte = refl
  no-fault more_byte = refl

  fed-number : {a : Act} → NumberAct a → p < longest → eqb b 0x1E ≡ false → step_at r w b ≡ step_to (M.Number n) a → Fed (byte_fed r t w b)
  fed-number {a} k l e q =
      let s : IsSound r t w b = record {
        gate = i.gate;
        byte = e;
        head = i.head;
        fault = i.fault;
        short = lt-ltb r.progress.pos longest (omega (arith, i.pos));
        first = ap (λ (st : Step). first_fault st.act (level_of r) r.frames r.progress.pos) q ∙ no-fault k;
      } in
      subst (λ (o : Outcome). Fed o) (sym (fed-of-sound r t w b s ∙ ap (done r t w b) q)) (done-number k l)

-- ---- all bytes

-- the counts x are those of a reading that may end
data CountsOf (x : Decimal) : Read → Type 0 where
  counts_of : {k : NumberMode} → T (may_end k) → CountsOf x (reads k x)

-- where the first byte gives no verdict, the reader is that of the rest
rest-fed : (t : Table) (r : Reader) (w : List ℕ) (b : ℕ) (s : List ℕ) → (byte_fed r t w b).answer ≡ Ok None
    → (feed_of r t w (b ∷ s)).reader ≡ (feed_of (byte_fed r t w b).reader t (byte_fed r t w b).work s).reader
rest-fed t r w b s e =
    let o : Outcome = byte_fed r t w b in
    ap (λ (x : Outcome). x.reader) (fed-in-two r t w b s ∙ ap (λ (a : Answer). then_fed a o (feed_of o.reader t o.work s)) e)

more-fed : (t : Table) {n : NumberMode} {ds : List ℕ} → NumberFrom n ds → (r : Reader) (w : List ℕ) (d : Decimal) (p : ℕ)
    → ReadsOn t r w (M.Number n) d p → p + length ds ≤ longest
    → CountsOf (feed_of r t w ds).reader.progress.number (fold (read_byte bounded) (reads n d) ds)
more-fed t (ends-here h) r w d p i l = rw ((fed-none r t w).0, i.number) (counts_of h)
more-fed t (goes_on {n} {m} {b} {ds} g rest) r w d p i l =
    let q : number_move n b ≡ NM.Go m = move-of-goes g in
    let step : step_at r w b ≡ step_to (M.Number m) A.NumberByte = rw (i.mode, q) in
    let f = fed-number t r w (M.Number n) d p b i m more_byte (omega arith) (ne_eqb b 0x1E (go-other n m b q)) step in
    rw (rest-fed t r w b ds f.quiet, q)
    (more-fed t rest (byte_fed r t w b).reader (byte_fed r t w b).work (counted bounded m d b) (p + 1) f.reads_on (omega arith))

-- ---- the first byte

first-begins : {b : ℕ} {n : NumberMode} → Starts b n → begins bounded b ≡ gone_to bounded n fresh b
unfolding begins is_digit_1_9 within
first-begins starts-minus = refl
first-begins starts-zero = refl
first-begins (starts-int {b} h) = rw (true-of-T (within 0x31 0x39 b) h)

first-other : {b : ℕ} {n : NumberMode} → Starts b n → eqb b 0x1E ≡ false
unfolding is_digit_1_9
first-other starts-minus = refl
first-other starts-zero = refl
first-other (starts-int {b} h) = let l = low-of-within 0x31 0x39 b h in ne_eqb b 0x1E (λ e. omega arith)

all-fed : (t : Table) {ds : List ℕ} → Begun ds → (r : Reader) (w : List ℕ) (d : Decimal) (p : ℕ) → ReadsOn t r w (M.At P.Value) d p → p + length ds ≤ longest
    → CountsOf (feed_of r t w ds).reader.progress.number (fold (read_byte bounded) unread ds)
all-fed t (begun {b} {n} {ds} z rest) r w d p i l =
    let step : step_at r w b ≡ step_to (M.Number n) A.NumberStart = rw i.mode (number-start-step z) in
    let f = fed-number t r w (M.At P.Value) d p b i n first_byte (omega arith) (first-other z) step in
    rw (rest-fed t r w b ds f.quiet, first-begins z)
    (more-fed t rest (byte_fed r t w b).reader (byte_fed r t w b).work (counted bounded n fresh b) (p + 1) f.reads_on (omega arith))

-- ---- the kind

kind-iff : (d : Decimal) → (number_kind d ≡ K.Int) ↔ T (is_whole d)
unfolding number_kind
kind-iff d = go (is_whole d)
  where
    go : (v : Bool) → (cond v K.Int K.Num ≡ K.Int) ↔ T v
    go true = (λ e. tt, λ h. refl)
    go false = (λ e. let z : ◌≡◌ {A = ℕ} 0 1 = cc in absurd (omega arith), λ h. absurd h)

kind-iff-read : {x : Decimal} {q : Read} → CountsOf x q → (number_kind x ≡ K.Int) ↔ T (reads_whole q)
kind-iff-read {x} (counts_of {k} h) = rw (true-of-T (may_end k) h) (kind-iff x)

-- a call that says nothing of an empty piece is let in
pub open-of-quiet : (r : Reader) (t : Table) (w : List ℕ) → (feed_of r t w []).answer ≡ Ok None → gate_of r t w ≡ let_in
open-of-quiet r t w e = go (gate_of r t w) refl
  where
    go : (g : Gate) → gate_of r t w ≡ g → gate_of r t w ≡ let_in
    go (Ok u) q = q
    go (Err k) q =
        let f : (feed_of r t w []).answer ≡ Err k = ap (λ (o : Outcome). o.answer) (feed_of-of-shut r t w [] k q) in
        let z : ◌≡◌ {A = ℕ} 0 1 = cc in
        absurd (omega arith)

pub kind-of-number : (r : Reader) (t : Table) (w ds : List ℕ) → AwaitsValue r t w → Number ds → r.progress.pos + length ds ≤ longest
    → (number_kind (feed_of r t w ds).reader.progress.number ≡ K.Int) ↔ Whole ds
kind-of-number r t w ds a n l =
    let i : ReadsOn t r w (M.At P.Value) r.progress.number r.progress.pos = record {
      gate = open-of-quiet r t w a.let_in;
      head = a.head;
      fault = a.fault;
      mode = a.mode;
      number = refl;
      pos = refl;
    } in
    let x = kind-iff-read (all-fed t (from-of-number n) r w r.progress.number r.progress.pos i l) in
    let y = whole-iff-bounded ds (omega arith) in
    (λ e. y.1 (x.0 e), λ h. x.1 (y.0 h))
