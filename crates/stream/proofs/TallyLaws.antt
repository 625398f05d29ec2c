-- The tally counts the verdicts of all calls, refused ones and any streams included: `tally-of-calls`. Assumes nothing.
use Rattle.std.specs.Prelude.{Ok, Err, Some, None}
use mathlib.Core.Bool.{Bool, true, false}
use mathlib.Core.List.{List, [], ◌∷◌}
use mathlib.Core.Path.{◌≡◌, refl, sym, ap, ◌∙◌}
use Prim.Native.Nat.{ℕ}
use lib.Dec.{ltb}
use lib.ListN.{length}
use Rattle.verdict.specs.declared.Verdict.{Verdict}
use Rattle.progress.specs.Memory.{Mem, Ran, run_mem}
use Rattle.reader.specs.declared.Tally.{Tally}
use Rattle.reader.specs.declared.Reader.{Reader}
use Rattle.reader.specs.declared.Refusal.{Refusal}
use Rattle.reader.specs.Answer.{Answer}
use Rattle.reader.specs.Refusals.{within_reader, call_gate}
use Rattle.reader.specs.Start.{fresh_reader}
use Rattle.reader.specs.Machine.{Outcome, refusing, memory_of, ending, going, outcome, feeding, closing}
use Rattle.stream.specs.Paper.{Call, feed, close}
use Rattle.stream.specs.Claim.{run, answers, after, table, buffer}
use Rattle.reader.proofs.RefusalLaws.{through-elim}
use Rattle.laws.proofs.TestLaws.{cond-elim}
use Rattle.stream.specs.Records.{and_then, verdicts_in, tally_after}
use Rattle.stream.proofs.CallLaws.{reading, run-of-reading}

-- an outcome counts its verdict, where it has one
record Counts (y : Tally) (o : Outcome) : Type 0 where
  tally : o.reader.tally ≡ tally_after (and_then o.answer []) y

module _ (r : Reader) where
  counts-of-ending : (m : Mem) (i : ℕ) (head : Bool) → Counts r.tally (ending r m i head)
  unfolding tally_after
  counts-of-ending m i head = record { tally = refl }

  counts-of-reading : (c : Call) → Counts r.tally (reading r c)
  unfolding tally_after feeding closing
  counts-of-reading (feed t w s) = go (run_mem t r.frames (memory_of r w) 0 s)
    where
      going_on : (e : Ran) → Counts r.tally (going r e.memory e.count)
      going_on e = record { tally = refl }

      go : (e : Ran) → Counts r.tally (outcome r e)
      go e = cond-elim (Counts r.tally) e.ended (λ h. counts-of-ending e.memory e.count false) (λ h. going_on e)
  counts-of-reading (close t w) =
      cond-elim (Counts r.tally) (ltb 0 r.progress.pos) (λ h. counts-of-ending (memory_of r w) 0 true) (λ h. none)
    where
      none : Counts r.tally (record { reader = fresh_reader r.frames true r.tally; count = 0; answer = Ok None; work = w })
      none = record { tally = refl }

  counts-of-call : (c : Call) → Counts r.tally (run r c)
  unfolding tally_after
  counts-of-call c =
      rw (run-of-reading r c)
      (through-elim (Counts r.tally) (call_gate (within_reader r) r.frames (table c) (length (buffer c))) (λ k _. none k) (λ _. counts-of-reading c))
    where
      none : (k : Refusal) → Counts r.tally (refusing r (buffer c) k)
      none k = record { tally = refl }

tally_after-and_then : (a : Answer) (vs : List Verdict) (y : Tally) → tally_after (and_then a vs) y ≡ tally_after vs (tally_after (and_then a []) y)
unfolding tally_after
tally_after-and_then (Ok None) vs y = refl
tally_after-and_then (Ok (Some v)) vs y = refl
tally_after-and_then (Err k) vs y = refl

-- the reader after any calls has counted every verdict that they gave
pub tally-of-calls : (cs : List Call) (r : Reader) → (after r cs).tally ≡ tally_after (verdicts_in (answers r cs)) r.tally
unfolding after answers verdicts_in tally_after
tally-of-calls [] r = refl
tally-of-calls (c ∷ cs) r =
    tally-of-calls cs (run r c).reader
    ∙ ap (tally_after (verdicts_in (answers (run r c).reader cs))) (counts-of-call r c).tally
    ∙ sym (tally_after-and_then (run r c).answer (verdicts_in (answers (run r c).reader cs)) r.tally)
