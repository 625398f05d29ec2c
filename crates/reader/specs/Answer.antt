-- What a call says: REQUIREMENT.md, section 7: nothing, the verdict of a record, or why it is refused. Stated. Assumes nothing.
use Rattle.std.specs.Prelude.{Option, Result}
use Rattle.verdict.specs.declared.Verdict.{Verdict}
use Rattle.reader.specs.declared.Refusal.{Refusal}

abbrev pub Answer : Type 0
Answer = Result (Option Verdict) Refusal
