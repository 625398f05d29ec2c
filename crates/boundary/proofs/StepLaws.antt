-- A turn of the walk, in the form of the code's needs: an RS ends it, and a piece carries it on. Assumes nothing.
use mathlib.Core.Bool.{Bool, true, false, not, ◌||◌}
use mathlib.Core.List.{List}
use mathlib.Core.Path.{◌≡◌, refl, sym, ap, subst, ◌∙◌}
use Prim.Native.Nat.{ℕ, ◌+◌, ◌<◌}
use native.Mathlib.Omega.{arith}
use lib.Dec.{eqb}
use lib.IntN.{ℤ}
use lib.ListN.{length, get_or}
use borrow.Author.Tests.{eqb-true}
use Rattle.laws.proofs.TestLaws.{true-neq-false}
use Rattle.json_text.specs.Tree.{Json}
use Rattle.table.specs.Table.{Table}
use Rattle.verdict.specs.declared.Verdict.{Verdict}
use Rattle.verdict.specs.declared.Verdict.TheVariants as Is
use Rattle.verdict.specs.Verdict.{Judged}
use Rattle.verdict.specs.Track.{track, track_start, track_end}
use Rattle.verdict.proofs.FoundLaws.{judged-of-track}
use Rattle.verdict.proofs.JudgedLaws.{judged-iff-track}
use Rattle.demand.proofs.BookLaws.{sound-of-book}
use Rattle.reader.specs.declared.Reader.{Reader}
use Rattle.reader.specs.Answer.{Answer}
use Rattle.reader.specs.Machine.{feed_of}
use Rattle.coordinate.specs.Exact.{coordinate_of}
use Rattle.corners.specs.Corners.{ValidB}
use Rattle.corners.specs.Numbers.{is_number_byte}
use Rattle.corners.proofs.ValidLaws.{judged-of-valid, valid-of-judged}
use Rattle.corners.proofs.RSLaws.{no-RS-in-text}
use Rattle.boundary.specs.Exact.{entries, is_valid, valid_b, is_unfit, put_at}
use Rattle.boundary.specs.Walk.{is_gap_byte, part, Stretch, takes}
use Rattle.boundary.specs.Steps.{Piece, WentOn}
use Rattle.boundary.specs.declared.walk.Walk.{Walk}
use Rattle.boundary.proofs.BookLaws.{book-b}
use Rattle.boundary.proofs.FilledLaws.{filled-of-put}
use Rattle.boundary.proofs.WalkLaws.{walked-past, walked-taken}

-- ---- valid under book B

pub valid-is : (v : Verdict) → is_valid v ≡ true → v ≡ Is.Valid
valid-is Is.Valid e = refl
valid-is Is.Invalid e = true-neq-false (sym e)
valid-is (Is.Malformed p) e = true-neq-false (sym e)
valid-is (Is.TooDeep p) e = true-neq-false (sym e)
valid-is Is.TooLong e = true-neq-false (sym e)
valid-is (Is.Unfinished p) e = true-neq-false (sym e)
valid-is Is.Head e = true-neq-false (sym e)

-- the test says that the text is valid
pub valid-of-test : (s : List ℕ) → valid_b s ≡ true → (t : Json) × ValidB s t
unfolding valid_b
valid-of-test s e =
    valid-of-judged
    (subst (Judged entries 3 s) (valid-is (track_end entries (track entries 3 (track_start entries) s)) e) (judged-of-track (sound-of-book (book-b refl)) 3 s))

pub test-of-valid : {s : List ℕ} {t : Json} → ValidB s t → valid_b s ≡ true
unfolding valid_b
test-of-valid {s} x = ap is_valid (sym ((judged-iff-track (sound-of-book (book-b refl)) 3 s Is.Valid).0 (judged-of-valid x)))

-- a text with an RS is not valid
not-valid-of-RS : (s : List ℕ) (i : ℕ) → i < length s → get_or s i 0 ≡ 0x1E → valid_b s ≡ false
not-valid-of-RS s i h e = go (valid_b s) refl
  where
    go : (v : Bool) → valid_b s ≡ v → v ≡ false
    go true q = absurd (no-RS-in-text i h e (valid-of-test s q).1.text)
    go false q = refl

-- ---- an RS

-- a byte that is neither between numbers nor in one
RS-of-neither : (b : ℕ) → is_gap_byte b ≡ false → is_number_byte b ≡ false → b ≡ 0x1E
unfolding is_gap_byte
RS-of-neither b e f = eqb-true b 0x1E (go (eqb b 0x1E) (rw f at e))
  where
    go : (v : Bool) → not v ≡ false → v ≡ true
    go true q = refl
    go false q = true-neq-false q

pub walked-off : {s : List ℕ} {i j k : ℕ} → i < length s → Stretch is_gap_byte s i j → Stretch is_number_byte s j k → k ≡ i → valid_b s ≡ false
walked-off {s} {i} {j} {k} h g d e =
    let same : j ≡ i = omega (arith, g.low, d.low) in
    not-valid-of-RS s i h (RS-of-neither (get_or s i 0) (subst (λ (m : ℕ). is_gap_byte (get_or s m 0) ≡ false) same (g.stop (omega arith)))
    (subst (λ (m : ℕ). is_number_byte (get_or s m 0) ≡ false) e (d.stop (omega arith))))

-- ---- a piece

module _ {t : Table} {s : List ℕ} {w : Walk} {l : List ℤ} {j k : ℕ} (x : Piece t s w l j k) {o : Reader} {v : List ℕ} {c : ℕ} {a : Answer}
    (f : record { reader = o; count = c; answer = a; work = v } ≡ feed_of w.reader t w.work (part s w.at k)) {z : Bool} (e : z ≡ takes o.progress) where
  past : w.at < k
  past = omega (arith, x.gap.low, x.run.low, x.more)

  pub walked_on : z ≡ false → WentOn t s w.at (record { reader = o; work = v; at = k; numbers = w.numbers }) l
  walked_on q = record { walked = walked-past x.walked x.table x.gap x.run x.more f (sym e ∙ q); further = past }

  pub walked-told : {m : List ℤ} {h : Walk} → z ≡ true
      → h ≡ record { reader = o; work = v; at = k; numbers = record { taken = w.numbers.taken + 1; unfit = w.numbers.unfit || is_unfit (coordinate_of (part s j k)) } }
      → m ≡ put_at l w.numbers.taken (coordinate_of (part s j k)) → WentOn t s w.at h m
  walked-told {m} {h} q y p =
      rw y
      record {
        walked =
            walked-taken x.walked x.table x.gap x.run x.more f (sym e ∙ q) refl
            (p ∙ rw x.walked.placed (filled-of-put x.walked.numbers (part s j k) x.walked.taken));
        further = past;
      }
