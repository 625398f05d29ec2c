-- A record in a string or a key goes on after a first byte from 80 up and a second byte exactly when a row of RFC 3629 lists the two:
-- `goes-on-iff-listed`. Assumes nothing.
use Rattle.std.specs.Prelude.{Ok, Some, None}
use mathlib.Core.Bool.{Bool, true, false}
use mathlib.Core.List.{List, [], ◌∷◌}
use mathlib.Core.Logic.{◌⊎◌, inl, inr, ◌↔◌}
use mathlib.Core.Path.{◌≡◌, refl, sym, ap, subst, ◌∙◌}
use Prim.Native.Nat.{ℕ, ◌+◌, ◌<◌, ◌≤◌}
use native.Mathlib.Omega.{arith}
use lib.Dec.{eqb, ltb}
use borrow.Author.Tests.{lt-ltb, ne_eqb}
use Rattle.laws.proofs.TestLaws.{true-neq-false}
use Rattle.json_text.specs.Rows.{Listed}
use Rattle.json_text.specs.Lexer.{string_move, text_step, key_step, step_of}
use Rattle.json_text.specs.declared.string.StringMode.{StringMode}
use Rattle.json_text.specs.declared.string.StringMode.TheVariants as S
use Rattle.json_text.specs.declared.string.StringMove.{StringMove}
use Rattle.json_text.specs.declared.string.StringMove.TheVariants as SM
use Rattle.json_text.specs.declared.lexer.Mode.{Mode}
use Rattle.json_text.specs.declared.lexer.Mode.TheVariants as M
use Rattle.json_text.specs.declared.lexer.Top.{Top}
use Rattle.json_text.specs.declared.lexer.Step.{Step}
use Rattle.json_text.proofs.RowLaws.{Permitted, permitted-iff-listed, lead-or-fault, high-of-listed}
use Rattle.table.specs.Table.{Table}
use Rattle.verdict.specs.Verdict.{longest}
use Rattle.progress.specs.declared.Fault.TheVariants as F
use Rattle.progress.specs.declared.Progress.{Progress}
use Rattle.progress.specs.Act.{first_fault}
use Rattle.progress.specs.Progress.{sound, advanced}
use Rattle.pass.proofs.ByteLaws.{bump-below}
use Rattle.reader.specs.Refusals.{let_in}
use Rattle.reader.specs.declared.Reader.{Reader}
use Rattle.reader.specs.Answer.{Answer}
use Rattle.reader.specs.Machine.{Outcome, feed_of}
use Rattle.stream.specs.Lent.{level_of, mode_of, faulty_in, byte_fed, then_fed}
use Rattle.stream.specs.Pairs.{AwaitsChar, of_string, of_key, GoesOn, Pairs}
use Rattle.stream.proofs.ByteLaws.{bump-pos}
use Rattle.stream.proofs.FedLaws.{gate_of, step_at, progress-of-other, quiet-of-other, moves-of-other, open-of-other, judged-of-RS, fed-in-two}
use Rattle.stream.proofs.ValueLaws.{open-of-quiet}
use Rattle.stream.proofs.SoundLaws.{not-faulty, faulty-of-malformed}

-- ---- what a byte does to a record

-- the fault and the mode that a byte other than RS leaves, by the fault of its act
module _ (x : Progress) (n b : ℕ) (st : Step) (e : eqb b 0x1E ≡ false) (h : x.head ≡ false) where
  module _ (f : x.fault ≡ None) (s : ltb x.pos longest ≡ true) where
    fault-of-sound : first_fault st.act x.level n x.pos ≡ None → (advanced x n b st).progress.fault ≡ None
    unfolding advanced sound
    fault-of-sound q = rw (e, h, f, s, q)

    mode-of-sound : first_fault st.act x.level n x.pos ≡ None → (advanced x n b st).progress.mode ≡ st.mode
    unfolding advanced sound
    mode-of-sound q = rw (e, h, f, s, q)

    fault-of-malformed : first_fault st.act x.level n x.pos ≡ Some (F.Malformed x.pos) → (advanced x n b st).progress.fault ≡ Some (F.Malformed x.pos)
    unfolding advanced sound
    fault-of-malformed q = rw (e, h, f, s, q)

  -- a malformed record stays so
  fault-stays : {p : ℕ} → x.fault ≡ Some (F.Malformed p) → (advanced x n b st).progress.fault ≡ Some (F.Malformed p)
  unfolding advanced
  fault-stays f = rw (e, h, f)

-- ---- what a byte does to a reader

-- the call is let in, and the record, of which a byte is read, is not the head and is malformed
record Malformed (r : Reader) (t : Table) (w : List ℕ) : Type 0 where
  gate : gate_of r t w ≡ let_in
  head : r.progress.head ≡ false
  place : ℕ
  fault : r.progress.fault ≡ Some (F.Malformed place)
  read : ltb 0 r.progress.pos ≡ true

-- the call is let in, and the record, of p bytes so far, is not the head, has no fault and stands in mode m
record Reads (r : Reader) (t : Table) (w : List ℕ) (m : Mode) (p : ℕ) : Type 0 where
  gate : gate_of r t w ≡ let_in
  head : r.progress.head ≡ false
  fault : r.progress.fault ≡ None
  mode : mode_of r ≡ m
  pos : r.progress.pos ≡ p

-- a malformed record does not go on
stops-of-malformed : (r : Reader) (t : Table) (w : List ℕ) → Malformed r t w → faulty_in r t w ≡ false → ⊥
stops-of-malformed r t w x q = true-neq-false (sym (faulty-of-malformed r t w x.gate x.read x.head x.fault) ∙ q)

module _ (r : Reader) (t : Table) (w : List ℕ) (b : ℕ) (e : eqb b 0x1E ≡ false) where
  abbrev o : Outcome
  o = byte_fed r t w b

  read-of-byte : gate_of r t w ≡ let_in → ltb 0 o.reader.progress.pos ≡ true
  read-of-byte g = rw (moves-of-other r t w b g e).pos (bump-pos r.progress.pos)

  malformed-again : Malformed r t w → Malformed o.reader t o.work
  malformed-again x =
      record {
        gate = open-of-other r t w b x.gate e;
        head = (moves-of-other r t w b x.gate e).head ∙ x.head;
        place = x.place;
        fault = ap (λ (y : Progress). y.fault) (progress-of-other r t w b x.gate e)
            ∙ fault-stays r.progress r.frames b (step_at r w b) e x.head x.fault;
        read = read-of-byte x.gate;
      }

  module _ (m : Mode) (p : ℕ) (x : Reads r t w m p) (l : p < longest) where
    short : ltb r.progress.pos longest ≡ true
    short = lt-ltb r.progress.pos longest (omega (arith, x.pos))

    malformed-of-fault : first_fault (step_at r w b).act (level_of r) r.frames r.progress.pos ≡ Some (F.Malformed r.progress.pos) → Malformed o.reader t o.work
    malformed-of-fault q =
        record {
          gate = open-of-other r t w b x.gate e;
          head = (moves-of-other r t w b x.gate e).head ∙ x.head;
          place = r.progress.pos;
          fault = ap (λ (y : Progress). y.fault) (progress-of-other r t w b x.gate e)
              ∙ fault-of-malformed r.progress r.frames b (step_at r w b) e x.head x.fault short q;
          read = read-of-byte x.gate;
        }

    reads-of-sound : first_fault (step_at r w b).act (level_of r) r.frames r.progress.pos ≡ None → Reads o.reader t o.work (step_at r w b).mode (p + 1)
    reads-of-sound q =
        record {
          gate = open-of-other r t w b x.gate e;
          head = (moves-of-other r t w b x.gate e).head ∙ x.head;
          fault = ap (λ (y : Progress). y.fault) (progress-of-other r t w b x.gate e)
              ∙ fault-of-sound r.progress r.frames b (step_at r w b) e x.head x.fault short q;
          mode = ap (λ (y : Progress). y.mode) (progress-of-other r t w b x.gate e)
              ∙ mode-of-sound r.progress r.frames b (step_at r w b) e x.head x.fault short q;
          pos = (moves-of-other r t w b x.gate e).pos ∙ bump-below r.progress.pos (omega (arith, x.pos)) ∙ ap (λ (k : ℕ). k + 1) x.pos;
        }

-- ---- strings and keys

-- what is open: a string that is a value, or a key
data Kind : Type 0 where
  a-string a_key : Kind

-- the mode in which a string or a key stands, and the step that a move makes of its byte
into : Kind → StringMode → Mode
into a-string s = M.Text s
into a_key s = M.Key s

by : Kind → StringMove → Step
by a-string k = text_step k
by a_key k = key_step k

step_of-into : (K : Kind) (s : StringMode) (top : Top) (b : ℕ) → step_of (into K s) top b ≡ by K (string_move s b)
unfolding into by
step_of-into a-string s top b = refl
step_of-into a_key s top b = refl

goes-into : (K : Kind) (m : StringMode) → (by K (SM.Go m)).mode ≡ into K m
unfolding into by
goes-into a-string m = refl
goes-into a_key m = refl

malformed-by : (K : Kind) (level n p : ℕ) → first_fault (by K SM.Fault).act level n p ≡ Some (F.Malformed p)
unfolding by
malformed-by a-string level n p = refl
malformed-by a_key level n p = refl

sound-by : (K : Kind) (k : StringMove) → (k ≡ SM.Fault → ⊥) → (level n p : ℕ) → first_fault (by K k).act level n p ≡ None
unfolding by
sound-by K SM.Fault x level n p = absurd (x refl)
sound-by a-string (SM.Go m) x level n p = refl
sound-by a-string SM.Char x level n p = refl
sound-by a-string SM.Close x level n p = refl
sound-by a_key (SM.Go m) x level n p = refl
sound-by a_key SM.Char x level n p = refl
sound-by a_key SM.Close x level n p = refl

module _ (K : Kind) (r : Reader) (t : Table) (w : List ℕ) (s : StringMode) (p : ℕ) (x : Reads r t w (into K s) p) (l : p < longest) (b : ℕ)
    (e : eqb b 0x1E ≡ false) where
  -- the step of a byte in a string or a key
  step_is : (k : StringMove) → string_move s b ≡ k → step_at r w b ≡ by K k
  step_is k q = rw x.mode (step_of-into K s _ b) ∙ ap (by K) q

  malformed-of-move : string_move s b ≡ SM.Fault → Malformed (byte_fed r t w b).reader t (byte_fed r t w b).work
  malformed-of-move q =
      malformed-of-fault r t w b e (into K s) p x l
      (ap (λ (st : Step). first_fault st.act (level_of r) r.frames r.progress.pos) (step_is SM.Fault q) ∙ malformed-by K (level_of r) r.frames r.progress.pos)

  reads-of-move : (string_move s b ≡ SM.Fault → ⊥) → Reads (byte_fed r t w b).reader t (byte_fed r t w b).work (by K (string_move s b)).mode (p + 1)
  reads-of-move n =
      subst (λ (m : Mode). Reads (byte_fed r t w b).reader t (byte_fed r t w b).work m (p + 1))
      (ap (λ (st : Step). st.mode) (step_is (string_move s b) refl))
      (reads-of-sound r t w b e (into K s) p x l
      (ap (λ (st : Step). first_fault st.act (level_of r) r.frames r.progress.pos) (step_is (string_move s b) refl)
      ∙ sound-by K (string_move s b) n (level_of r) r.frames r.progress.pos))

  reads-of-go : (m : StringMode) → string_move s b ≡ SM.Go m → Reads (byte_fed r t w b).reader t (byte_fed r t w b).work (into K m) (p + 1)
  reads-of-go m q =
      subst (λ (k : Mode). Reads (byte_fed r t w b).reader t (byte_fed r t w b).work k (p + 1))
      (ap (λ (k : StringMove). (by K k).mode) q ∙ goes-into K m)
      (reads-of-move (λ f. let z : ◌≡◌ {A = ℕ} 0 1 = cc in absurd (omega arith)))

-- ---- two bytes

other-of-high : (a : ℕ) → 0x80 ≤ a → eqb a 0x1E ≡ false
other-of-high a h = ne_eqb a 0x1E (λ e. omega arith)

module _ (K : Kind) (r : Reader) (t : Table) (w : List ℕ) (p a b : ℕ) (x : Reads r t w (into K S.Char) p) (l : p + 2 ≤ longest) (h : 0x80 ≤ a) where
  abbrev first : Outcome
  first = byte_fed r t w a

  abbrev second : Outcome
  second = byte_fed first.reader t first.work b

  -- the piece of both bytes does what the second does after the first
  two-fed : feed_of r t w (a ∷ b ∷ []) ≡ then_fed (Ok None) first second
  two-fed = fed-in-two r t w a (b ∷ []) ∙ ap (λ (z : Answer). then_fed z first second) (quiet-of-other r t w a x.gate (other-of-high a h))

  open-first : gate_of first.reader t first.work ≡ let_in
  open-first = open-of-other r t w a x.gate (other-of-high a h)

  -- an RS ends the record
  ends-of-RS : eqb b 0x1E ≡ true → GoesOn t second → ⊥
  ends-of-RS e y =
      let q = judged-of-RS first.reader t first.work b open-first e (read-of-byte r t w a (other-of-high a h) x.gate) in
      let z : ◌≡◌ {A = ℕ} 0 1 = cc (sym q ∙ y.0) in
      absurd (omega arith)

  module _ (e : eqb b 0x1E ≡ false) where
    -- a byte that is no first byte is faulty, and the record stays so
    stops-of-first : string_move S.Char a ≡ SM.Fault → GoesOn t second → ⊥
    stops-of-first q y =
        stops-of-malformed second.reader t second.work
        (malformed-again first.reader t first.work b e (malformed-of-move K r t w S.Char p x (omega arith) a (other-of-high a h) q))
        y.1

    module _ (m : StringMode) (q : string_move S.Char a ≡ SM.Go m) where
      reads_first : Reads first.reader t first.work (into K m) (p + 1)
      reads_first = reads-of-go K r t w S.Char p x (omega arith) a (other-of-high a h) m q

      -- after a first byte the second decides
      no-fault-of-going : GoesOn t second → string_move m b ≡ SM.Fault → ⊥
      no-fault-of-going y f =
          stops-of-malformed second.reader t second.work
          (malformed-of-move K first.reader t first.work m (p + 1) reads_first (omega arith) b e f)
          y.1

      going-of-no-fault : (string_move m b ≡ SM.Fault → ⊥) → GoesOn t second
      going-of-no-fault n =
          let y = reads-of-move K first.reader t first.work m (p + 1) reads_first (omega arith) b e n in
          (quiet-of-other first.reader t first.work b open-first e, not-faulty second.reader t second.work y.head y.fault)

  permitted-of-going : GoesOn t second → Permitted a b
  permitted-of-going y = by-second (eqb b 0x1E) refl
    where
      by_first : eqb b 0x1E ≡ false → (string_move S.Char a ≡ SM.Fault) ⊎ ((m : StringMode) × (string_move S.Char a ≡ SM.Go m)) → Permitted a b
      by_first e (inl q) = absurd (stops-of-first e q y)
      by_first e (inr (m, q)) = (m, q, no-fault-of-going e m q y)

      by-second : (v : Bool) → eqb b 0x1E ≡ v → Permitted a b
      by-second true e = absurd (ends-of-RS e y)
      by-second false e = by_first e (lead-or-fault a h)

  goes-on-iff : GoesOn t (feed_of r t w (a ∷ b ∷ [])) ↔ Listed a b
  goes-on-iff =
      rw two-fed (
        λ (y : GoesOn t second). (permitted-iff-listed a b h).0 (permitted-of-going y),
        λ (i : Listed a b).
            let (m, q, n) = (permitted-iff-listed a b h).1 i in
            going-of-no-fault (other-of-high b (high-of-listed a b i)) m q n,
      )

-- after a first byte from 80 up and any second byte the record goes on exactly when a row lists the two
pub goes-on-iff-listed : Pairs
unfolding into
goes-on-iff-listed r t w a b i h = go (mode_of r) refl i.mode
  where
    reads_in : (m : Mode) → mode_of r ≡ m → Reads r t w m r.progress.pos
    reads_in m q = record { gate = open-of-quiet r t w i.let_in; head = i.head; fault = i.fault; mode = q; pos = refl }

    go : (m : Mode) → mode_of r ≡ m → AwaitsChar m → GoesOn t (feed_of r t w (a ∷ b ∷ [])) ↔ Listed a b
    go m q of_string = goes-on-iff a-string r t w r.progress.pos a b (reads_in (M.Text S.Char) q) (omega (arith, i.room)) (omega arith)
    go m q of_key = goes-on-iff a_key r t w r.progress.pos a b (reads_in (M.Key S.Char) q) (omega (arith, i.room)) (omega arith)
