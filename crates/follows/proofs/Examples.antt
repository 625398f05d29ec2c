-- The keys of book B are plain: with a table that keeps the book and 64 frames, every part has the machine's verdict. Assumes nothing.
use mathlib.Core.Bool.{false}
use mathlib.Core.List.{List}
use mathlib.Core.Path.{◌≡◌}
use Prim.Native.Nat.{ℕ}
use lib.Dec.{ltb, leb, leb→le, lit≤}
use lib.ListN.{length, replicate}
use Rattle.laws.specs.Lists.{same, all, any}
use Rattle.laws.proofs.ListLaws.{T-of-all}
use Rattle.table.specs.Table.{Table}
use Rattle.book.specs.Entry.{with_key, keys_from, keys_of}
use Rattle.book.specs.Load.{loads}
use Rattle.book.specs.Examples.{book_b}
use Rattle.book.proofs.Examples.{entries_b, loads-book_b}
use Rattle.meaning.specs.Shows.{Carries}
use Rattle.verdict.specs.Track.{track, track_start, track_end}
use Rattle.progress.specs.Progress.{judged}
use Rattle.progress.specs.Memory.{fresh_mem}
use Rattle.follows.specs.Follows.{PlainKeys, NoRS, read_part}
use Rattle.follows.proofs.PartLaws.{judged-part}

plain-entries_b : PlainKeys entries_b
unfolding with_key keys_from keys_of same any all
plain-entries_b = record {
  short = λ {k} h. leb→le (length k) 32 (T-of-all (λ (s : List ℕ). leb (length s) 32) (keys_of entries_b) tt h);
  low = λ h. T-of-all (all (λ (c : ℕ). ltb c 128)) (keys_of entries_b) tt h;
}

plain-b : PlainKeys (loads book_b).entries
plain-b = rw loads-book_b plain-entries_b

-- by a table that keeps book B a part is judged as by its track; crate meaning has such a table
pub judged-b : {t : Table} → Carries t (loads book_b).entries → (p : List ℕ) → NoRS p
    → judged (read_part t 64 (fresh_mem false (replicate 6144 0)) p).progress (read_part t 64 (fresh_mem false (replicate 6144 0)) p).root
    ≡ track_end (loads book_b).entries (track (loads book_b).entries 64 (track_start (loads book_b).entries) p)
judged-b kept p h = judged-part kept plain-b 64 (lit≤ tt) (replicate 6144 0) p (lit≤ tt) h
