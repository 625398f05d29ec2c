-- Entries that show verdicts: docs/LIBRARY.md. Stated. Assumes nothing.
use Rattle.std.specs.Prelude.{List, [], ◌∷◌, ℕ}
use Rattle.verdict.specs.declared.Verdict.{Verdict}
use Rattle.entries.specs.declared.entry.Entry.{Entry}
use Rattle.entries.specs.Entries.{verdict_entry}

-- one entry for each verdict, in their order, whatever number of bytes was read by then
pub data Shows : List Entry → List Verdict → Type 0 where
  none : Shows [] []
  next : {es : List Entry} {vs : List Verdict} (v : Verdict) (read : ℕ) → Shows es vs → Shows (verdict_entry v read ∷ es) (v ∷ vs)
