-- `Walked`, from the first byte to the last: one piece more, without a number at level 3 at its end and with one. Assumes nothing.
use mathlib.Core.Bool.{Bool, true, false, cond, not, ◌||◌}
use mathlib.Core.List.{List, [], ◌∷◌, ◌++◌, append-nil}
use mathlib.Core.Path.{◌≡◌, refl, sym, ap, subst, ◌∙◌}
use Prim.Native.Nat.{ℕ, zero, suc, ◌+◌, ◌-◌, ◌≤◌, ◌<◌}
use native.Mathlib.Decide.{dec_lt}
use native.Mathlib.Omega.{arith}
use lib.Dec.{T, eqb}
use lib.IntN.{ℤ}
use lib.ListN.{length, get_or, take, drop, length-take, length-drop, length-append}
use lib.Seq.{drop-cons}
use borrow.Author.Tests.{ne_eqb}
use Rattle.laws.specs.Lists.{all}
use Rattle.laws.proofs.TestLaws.{T-and-left, T-and-right, T_and, true-of-T, true-neq-false}
use Rattle.json_text.specs.Machine.{State}
use Rattle.json_text.specs.Bytes.{within}
use Rattle.json_text.specs.Numbers.{is_digit, is_e}
use Rattle.table.specs.Table.{Table}
use Rattle.book.specs.Examples.{book_b}
use Rattle.load.specs.Loads.{book_table}
use Rattle.runs.specs.Walk.{judging}
use Rattle.verdict.specs.Track.{sound, track, track_start}
use Rattle.progress.specs.Memory.{Mem, fresh_mem}
use Rattle.follows.specs.Follows.{NoRS, read_part}
use Rattle.follows.proofs.PartLaws.{length_part}
use Rattle.reader.specs.declared.Reader.{Reader}
use Rattle.reader.specs.Answer.{Answer}
use Rattle.reader.specs.Machine.{Outcome, memory_of, going, feed_of}
use Rattle.demand.proofs.BookLaws.{carries-of-book, plain-of-book}
use Rattle.coordinate.specs.Exact.{coordinate_of}
use Rattle.corners.specs.Numbers.{is_number_byte, numbers_of}
use Rattle.boundary.specs.Exact.{entries, is_unfit, unfit_in, filled}
use Rattle.boundary.specs.Walk.{is_gap_byte, part, Stretch, takes, Walked}
use Rattle.boundary.proofs.BookLaws.{book-b, limits-b}
use Rattle.boundary.proofs.TrackLaws.{sound-before, read_part-append, no_rs-append}
use Rattle.boundary.proofs.MemoryLaws.{feed-all, within-after}
use Rattle.boundary.proofs.FoundLaws.{numbers-of-piece}
use Rattle.boundary.proofs.FilledLaws.{unfit-last}

-- ---- parts of a list

abbrev empty : List ℕ
empty = []

take_none : (n : ℕ) → take n empty ≡ empty
take_none zero = refl
take_none (suc n) = refl

part_none : (j n : ℕ) → take n (drop j empty) ≡ empty
part_none zero n = take_none n
part_none (suc j) n = take_none n

take_part : (s : List ℕ) (i k : ℕ) → i ≤ k → take k s ≡ take i s ++ part s i k
take_part s zero k h = let e : k - 0 ≡ k = omega arith in rw e refl
take_part [] (suc i) zero h = absurd (omega arith)
take_part [] (suc i) (suc k) h = sym (take_none (suc k - suc i))
take_part (b ∷ s) (suc i) zero h = absurd (omega arith)
take_part (b ∷ s) (suc i) (suc k) h =
    let e : suc k - suc i ≡ k - i = omega arith in rw e (ap (λ (l : List ℕ). b ∷ l) (take_part s i k (omega arith)))

part-part : (s : List ℕ) (i j k : ℕ) → i ≤ j → j ≤ k → part s i k ≡ part s i j ++ part s j k
part-part s zero j k h l = let e : j - 0 ≡ j = omega arith in let f : k - 0 ≡ k = omega arith in rw (e, f) (take_part s j k l)
part-part [] (suc i) j k h l = take_none (k - suc i) ∙ sym (rw (take_none (j - suc i)) (part_none j (k - j)))
part-part (b ∷ s) (suc i) zero k h l = absurd (omega arith)
part-part (b ∷ s) (suc i) (suc j) zero h l = absurd (omega arith)
part-part (b ∷ s) (suc i) (suc j) (suc k) h l =
    let e : suc j - suc i ≡ j - i = omega arith in
    let f : suc k - suc i ≡ k - i = omega arith in
    let g : suc k - suc j ≡ k - j = omega arith in
    rw (e, f, g) (part-part s i j k (omega arith) (omega arith))

-- ---- bytes

no-RS-of-number : (s : List ℕ) → T (all is_number_byte s) → NoRS s
unfolding all is_number_byte is_digit is_e within
no-RS-of-number [] h = tt
no-RS-of-number (b ∷ s) h = (ne_eqb b 0x1E (λ e. subst (λ (c : ℕ). T (is_number_byte c)) e (T-and-left (is_number_byte b) _ h)), no-RS-of-number s (T-and-right (is_number_byte b) _ h))

no-RS-of-gap : (s : List ℕ) → T (all is_gap_byte s) → NoRS s
unfolding all is_gap_byte
no-RS-of-gap [] h = tt
no-RS-of-gap (b ∷ s) h =
    (other (eqb b 0x1E) (T-and-right (not (is_number_byte b)) _ (T-and-left (is_gap_byte b) _ h)), no-RS-of-gap s (T-and-right (is_gap_byte b) _ h))
  where
    other : (v : Bool) → T (not v) → v ≡ false
    other true x = absurd x
    other false x = refl

plain-of-gap : (s : List ℕ) → T (all is_gap_byte s) → T (all (λ (b : ℕ). not (is_number_byte b)) s)
unfolding all is_gap_byte
plain-of-gap [] h = tt
plain-of-gap (b ∷ s) h =
    T_and (not (is_number_byte b)) _ (T-and-left (not (is_number_byte b)) _ (T-and-left (is_gap_byte b) _ h)) (plain-of-gap s (T-and-right (is_gap_byte b) _ h))

-- the first byte of a stretch that is not empty passes the test
first-of-stretch : (f : ℕ → Bool) (s : List ℕ) (i k : ℕ) → i < k → k ≤ length s → T (all f (part s i k)) → T (f (get_or s i 0))
unfolding all
first-of-stretch f s i k h l t =
    let e : k - i ≡ suc (k - suc i) = omega arith in
    let d : drop i s ≡ get_or s i 0 ∷ drop (suc i) s = drop-cons s i 0 (omega arith) in
    T-and-left (f (get_or s i 0)) _ (subst (λ (x : List ℕ). T (all f x)) (ap (λ (n : ℕ). take n (drop i s)) e ∙ ap (take (suc (k - suc i))) d) t)

length-of-part : (s : List ℕ) (i j : ℕ) → j ≤ length s → length (part s i j) ≡ j - i
length-of-part s i j h = rw (length-take, length-drop) (omega arith)

-- ---- what is known after a piece but for the counts

record Onward (t : Table) (s : List ℕ) (k : ℕ) (r : Reader) (w : List ℕ) (ns : List (List ℕ)) : Type 0 where
  plain : NoRS (take k s)
  first : List ℕ
  room : length first ≡ 288
  frames : r.frames ≡ 3
  level : r.progress.level ≤ 3
  len : r.progress.len ≤ 33
  memory : memory_of r w ≡ read_part t 3 (fresh_mem false first) (take k s)
  found : (q : State (judging entries)) (j : ℕ) → track entries 3 (track_start entries) (take k s) ≡ sound q j → ns ≡ numbers_of (take k s)

-- with the counts
walked-of : {t : Table} {s : List ℕ} {k : ℕ} {r : Reader} {w : List ℕ} {ns : List (List ℕ)} {n : ℕ} {u : Bool} {l : List ℤ} → Onward t s k r w ns → k ≤ length s
    → (0 < k → k < length s → is_number_byte (get_or s k 0) ≡ false) → n ≤ k → n ≡ length ns → u ≡ unfit_in ns → l ≡ filled ns → Walked t s k r w n u l
walked-of {ns = ns} y h c few taken unfit placed =
    record {
      inside = h;
      plain = y.plain;
      cut = c;
      first = y.first;
      room = y.room;
      frames = y.frames;
      level = y.level;
      len = y.len;
      memory = y.memory;
      numbers = ns;
      found = y.found;
      few = few;
      taken = taken;
      unfit = unfit;
      placed = placed;
    }

module _ {t : Table} {s : List ℕ} {i : ℕ} {r : Reader} {w : List ℕ} {n : ℕ} {u : Bool} {l : List ℤ} (x : Walked t s i r w n u l) (b : t ≡ book_table book_b) {j k : ℕ}
    (g : Stretch is_gap_byte s i j) (d : Stretch is_number_byte s j k) (more : k ≡ i → ⊥) where
  piece : List ℕ
  piece = part s i k

  whole-piece : piece ≡ part s i j ++ part s j k
  unfolding piece
  whole-piece = part-part s i j k g.low d.low

  taken-piece : take k s ≡ take i s ++ piece
  unfolding piece
  taken-piece = take_part s i k (omega (arith, g.low, d.low))

  plain-piece : NoRS piece
  plain-piece = rw whole-piece (no_rs-append (part s i j) (part s j k) (no-RS-of-gap (part s i j) g.bytes) (no-RS-of-number (part s j k) d.bytes))

  room-now : length w ≡ 288
  room-now = ap (λ (m : Mem). length m.work) x.memory ∙ length_part t 3 (fresh_mem false x.first) (take i s) ∙ x.room

  after : Mem
  after = read_part t 3 (memory_of r w) piece

  fed-to : feed_of r t w piece ≡ going r after (0 + length piece)
  unfolding after
  fed-to = feed-all t (limits-b b) r w x.frames x.level x.len room-now piece plain-piece

  memory-after : after ≡ read_part t 3 (fresh_mem false x.first) (take k s)
  unfolding after
  memory-after =
      ap (λ (m : Mem). read_part t 3 m piece) x.memory ∙ sym (read_part-append t 3 (take i s) piece (fresh_mem false x.first))
      ∙ ap (read_part t 3 (fresh_mem false x.first)) (sym taken-piece)

  -- the first piece begins the text, any other begins with a byte that no number has
  begins : part s i j ≡ [] → take i s ≡ []
  begins e =
      let same : j ≡ i = omega (arith, g.low, sym (length-of-part s i j g.high) ∙ ap length e) in
      let number : T (is_number_byte (get_or s j 0)) = first-of-stretch is_number_byte s j k (omega (arith, d.low, more)) d.high d.bytes in
      by_place (dec_lt 0 i) same number
    where
      by_place : Dec (0 < i) → j ≡ i → T (is_number_byte (get_or s j 0)) → take i s ≡ []
      by_place (yes h) same number =
          true-neq-false (sym (true-of-T (is_number_byte (get_or s i 0)) (subst (λ (m : ℕ). T (is_number_byte (get_or s m 0))) same number)) ∙ x.cut h (omega (arith, d.low, d.high, more)))
      by_place (no h) same number = let z : i ≡ 0 = omega arith in rw z refl

  found_after : (q : State (judging entries)) (m : ℕ) → track entries 3 (track_start entries) (take k s) ≡ sound q m
      → x.numbers ++ cond (takes after.progress) (part s j k ∷ []) [] ≡ numbers_of (take k s)
  found_after q m e =
      let a : List ℕ = take i s in
      let split : take k s ≡ a ++ (part s i j ++ part s j k) = taken-piece ∙ ap (λ (y : List ℕ). a ++ y) whole-piece in
      let e2 : track entries 3 (track_start entries) (a ++ (part s i j ++ part s j k)) ≡ sound q m = rw split at e in
      let p = sound-before entries 3 a (part s i j ++ part s j k) q m e2 in
      let now = numbers-of-piece (carries-of-book (book-b b)) (plain-of-book (book-b b)) x.first (omega (arith, x.room)) a (part s i j) (part s j k)
      (subst NoRS split (rw taken-piece (no_rs-append a piece x.plain plain-piece)))
      (plain-of-gap (part s i j) g.bytes) d.bytes begins q m e2 in
      let old : x.numbers ≡ numbers_of a = x.found p.0 p.1 p.2 in
      ap (λ (y : List (List ℕ)). y ++ cond (takes after.progress) (part s j k ∷ []) []) old
      ∙ ap (λ (y : Mem). numbers_of a ++ cond (takes y.progress) (part s j k ∷ []) []) (memory-after ∙ ap (read_part t 3 (fresh_mem false x.first)) split)
      ∙ sym now ∙ ap numbers_of (sym split)

  -- the reader and the buffer after a feed of the piece
  module _ {o : Reader} {v : List ℕ} {c : ℕ} {a : Answer} (f : record { reader = o; count = c; answer = a; work = v } ≡ feed_of r t w (part s i k)) where
    outcome-is : record { reader = o; count = c; answer = a; work = v } ≡ going r after (0 + length piece)
    unfolding piece
    outcome-is = f ∙ fed-to

    memory-is : memory_of o v ≡ after
    memory-is = ap (λ (y : Outcome). memory_of y.reader y.work) outcome-is

    onward : Onward t s k o v (x.numbers ++ cond (takes o.progress) (part s j k ∷ []) [])
    unfolding after
    onward =
        let h = within-after t (limits-b b) r w x.frames x.level x.len room-now piece plain-piece in
        let p : o.progress ≡ after.progress = ap (λ (y : Mem). y.progress) memory-is in
        record {
          plain = rw taken-piece (no_rs-append (take i s) piece x.plain plain-piece);
          first = x.first;
          room = x.room;
          frames = ap (λ (y : Outcome). y.reader.frames) outcome-is ∙ x.frames;
          level = rw p h.level;
          len = rw p h.len;
          memory = memory-is ∙ memory-after;
          found = λ q m e. ap (λ y. x.numbers ++ cond (takes y) (part s j k ∷ []) []) p ∙ found_after q m e;
        }

    cut-after : 0 < k → k < length s → is_number_byte (get_or s k 0) ≡ false
    cut-after h z = d.stop z

    onward-by : {z : Bool} → takes o.progress ≡ z → Onward t s k o v (x.numbers ++ cond z (part s j k ∷ []) [])
    onward-by e = subst (λ (b : Bool). Onward t s k o v (x.numbers ++ cond b (part s j k ∷ []) [])) e onward

    -- no number at level 3 is being read at its end
    pub walked-past : takes o.progress ≡ false → Walked t s k o v n u l
    walked-past z =
        walked-of (subst (Onward t s k o v) (append-nil x.numbers) (onward-by z)) d.high cut-after (omega (arith, x.few, g.low, d.low)) x.taken x.unfit
        x.placed

    -- the number that its end is, is taken
    pub walked-taken : {e : Bool} {m : List ℤ} → takes o.progress ≡ true → e ≡ is_unfit (coordinate_of (part s j k)) → m ≡ filled (x.numbers ++ (part s j k ∷ []))
        → Walked t s k o v (n + 1) (u || e) m
    walked-taken z f h =
        walked-of (onward-by z) d.high cut-after (omega (arith, x.few, g.low, d.low, more)) (rw length-append (omega (arith, x.taken)))
        (rw (x.unfit, f) (sym (unfit-last x.numbers (part s j k)))) h
