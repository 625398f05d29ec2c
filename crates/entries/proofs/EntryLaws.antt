-- Entries byte by byte, and one entry after the other. Assumes nothing.
use mathlib.Core.List.{List, [], ◌∷◌, ◌++◌}
use mathlib.Core.Path.{◌≡◌, refl, ◌∙◌}
use Prim.Native.Nat.{ℕ, suc, ◌+◌, ◌-◌, ◌*◌, ◌/◌, ◌≤◌, ◌<◌}
use native.Mathlib.Omega.{arith}
use lib.Dec.{ltb}
use lib.ListN.{length, get_or}
use lib.Seq.{length-sets}
use borrow.Author.Tests.{lt-ltb, le-ltb}
use Rattle.laws.proofs.TestLaws.{cond-elim}
use Rattle.text.specs.Put.{Put}
use borrow.Rule.Slice.PartMut.{put_mid}
use Rattle.std.specs.Int.{to_le_bytes}
use mir.Syntax.{w64}
use Rattle.text.proofs.PutLaws.{put-copied}
use Rattle.entries.specs.declared.entry.Entry.{Entry}
use Rattle.text.specs.Text.{word_number}
use Rattle.entries.specs.Entries.{little, numbered_bytes, bytes_of, with_bytes, with_entry, with_entries}

-- ---- one entry

le-bytes : (n : ℕ) → to_le_bytes w64 n ≡ little 8 n
unfolding little
le-bytes n =
    let d₂ : n / 65536 ≡ n / 256 / 256 = omega arith in
    let d₃ : n / 16777216 ≡ n / 256 / 256 / 256 = omega arith in
    let d₄ : n / 4294967296 ≡ n / 256 / 256 / 256 / 256 = omega arith in
    let d₅ : n / 1099511627776 ≡ n / 256 / 256 / 256 / 256 / 256 = omega arith in
    let d₆ : n / 281474976710656 ≡ n / 256 / 256 / 256 / 256 / 256 / 256 = omega arith in
    let d₇ : n / 72057594037927936 ≡ n / 256 / 256 / 256 / 256 / 256 / 256 / 256 = omega arith in
    rw (d₂, d₃, d₄, d₅, d₆, d₇)

pub numbered-bytes : (w n place read : ℕ) (p r : List ℕ) → p ≡ to_le_bytes w64 place → r ≡ to_le_bytes w64 read
    → w ∷ n ∷ 0 ∷ 0 ∷ get_or p 0 0 ∷ get_or p 1 0 ∷ get_or p 2 0 ∷ get_or p 3 0 ∷ get_or r 0 0 ∷ get_or r 1 0 ∷ get_or r 2 0 ∷ get_or r 3 0
    ∷ get_or r 4 0 ∷ get_or r 5 0 ∷ get_or r 6 0 ∷ get_or r 7 0 ∷ []
    ≡ numbered_bytes w n place read
unfolding numbered_bytes little
numbered-bytes w n place read p r b c = rw (b ∙ le-bytes place, c ∙ le-bytes read)

-- the bytes of an entry copied into their part of the output
module _ (o : List ℕ) (i w n place read : ℕ) where
  pub numbered-put : (bs now : List ℕ) → i < length o / 16 → bs ≡ numbered_bytes w n place read → now ≡ bs
      → put_mid (16 * i) (16 * i + 16 - 16 * i) o now ≡ with_bytes o i (numbered_bytes w n place read)
  unfolding with_bytes numbered_bytes little
  numbered-put bs now h b e =
      let k : ℕ = 16 * i in
      let p : Put o k (numbered_bytes w n place read) (put_mid k (k + 16 - k) o now) (k + 16) = put-copied o (numbered_bytes w n place read) now k (omega (arith, h)) (e ∙ b) in
      rw (lt-ltb i (length o / 16) h) p.bytes

  pub numbered-none : length o / 16 ≤ i → o ≡ with_bytes o i (numbered_bytes w n place read)
  unfolding with_bytes
  numbered-none h = rw (le-ltb i (length o / 16) h)

-- an entry's word by its number
pub entry-numbered : (o : List ℕ) (i : ℕ) (e : Entry) (w : ℕ) → w ≡ word_number e.word → with_bytes o i (numbered_bytes w e.number e.place e.read) ≡ with_entry o i e
unfolding with_entry bytes_of
entry-numbered o i e w h = rw h

length-with_bytes : (o : List ℕ) (i : ℕ) (bs : List ℕ) → length (with_bytes o i bs) ≡ length o
unfolding with_bytes
length-with_bytes o i bs =
    cond-elim (λ (x : List ℕ). length x ≡ length o) (ltb i (length o / 16)) (λ _. length-sets o (16 * i) bs) (λ _. refl)

pub length-with_entry : (o : List ℕ) (i : ℕ) (e : Entry) → length (with_entry o i e) ≡ length o
unfolding with_entry
length-with_entry o i e = length-with_bytes o i (bytes_of e)

pub length-with_entries : (o : List ℕ) (i : ℕ) (es : List Entry) → length (with_entries o i es) ≡ length o
unfolding with_entries
length-with_entries o i [] = refl
length-with_entries o i (e ∷ es) = length-with_entries (with_entry o i e) (suc i) es ∙ length-with_entry o i e

-- some entries, then others
pub with_entries-append : (o : List ℕ) (i : ℕ) (es fs : List Entry) → with_entries o i (es ++ fs) ≡ with_entries (with_entries o i es) (i + length es) fs
unfolding with_entries
with_entries-append o i [] fs = let e : i + 0 ≡ i = omega arith in rw e
with_entries-append o i (x ∷ es) fs =
    let e : i + suc (length es) ≡ suc i + length es = omega arith in
    with_entries-append (with_entry o i x) (suc i) es fs ∙ rw e
