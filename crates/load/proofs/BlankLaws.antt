-- The bytes of a loaded table that mean nothing are 0. Assumes nothing.
use mathlib.Core.List.{List, [], ◌∷◌}
use mathlib.Core.Path.{◌≡◌, refl, ap, ◌∙◌}
use Prim.Native.Nat.{ℕ, ◌-◌, ◌/◌, ◌%◌, ◌<◌, ◌≤◌}
use native.Mathlib.Omega.{arith}
use lib.ListN.{length, get_or, replicate, length-replicate, get_or-replicate, get_or-append}
use lib.Seq.{get_or-append_right}
use Rattle.table.specs.Table.{Table}
use Rattle.table.specs.Flat.{empty_table}
use Rattle.table.specs.Bytes.{bytes_of}
use Rattle.table.specs.Inverse.{bytes_of-inside}
use Rattle.table.proofs.PlaceLaws.{zeros-inside}
use Rattle.load.specs.BookAnswer.{BookAnswer}
use Rattle.load.specs.Step.{loaded_as}
use Rattle.load.specs.Loads.{LoadsAs, Blank}
use Rattle.load.proofs.LoadedLaws.{loads-kept, table-of-entries, refused-table}

-- the bytes of the empty table are 0
pub empty-bytes : bytes_of empty_table ≡ replicate 7920 0
unfolding empty_table
empty-bytes = bytes_of-inside (replicate 7920 0) (zeros-inside (replicate 7920 0) refl)

-- the bytes between the counts and the first array
spare-bytes : (t : Table) (i : ℕ) → t.spare ≡ replicate 13 0 → 3 ≤ i → i < 16 → get_or (bytes_of t) i 0 ≡ 0
unfolding bytes_of
spare-bytes t i e h m =
    let long : length t.spare ≡ 13 = ap length e ∙ length-replicate {A = ℕ} 13 0 in
    get_or-append_right (t.edges % 256 ∷ (t.edges / 256 ∷ (t.keys ∷ []))) _ i 0 (omega arith) ∙ get_or-append t.spare _ 0 (i - 3) (omega arith)
    ∙ ap (λ (l : List ℕ). get_or l (i - 3) 0) e ∙ get_or-replicate 13 (i - 3) 0 0 (omega arith)

pub loads-blank : (b : List ℕ) (t : Table) (a : BookAnswer) → LoadsAs b (loaded_as a t) → Blank b t
loads-blank b t a x = record {
  refused = λ h i u. ap (λ (v : Table). get_or (bytes_of v) i 0) (refused-table b (loaded_as a t) x h) ∙ ap (λ (l : List ℕ). get_or l i 0) empty-bytes ∙ get_or-replicate 7920 i 0 0 u;
  spare = λ i u v. spare-bytes t i (ap (λ (w : Table). w.spare) (table-of-entries b (loaded_as a t) x) ∙ (loads-kept b).sized.spare) u v;
}
