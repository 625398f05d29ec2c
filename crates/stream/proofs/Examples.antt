-- The definitions of a stream tried on small inputs: `z` RS `[` RS RS `1`, then a close. Assumes nothing.
use Rattle.std.specs.Prelude.{Ok, Some, None}
use mathlib.Core.Bool.{true, false}
use mathlib.Core.List.{List, [], ◌∷◌}
use mathlib.Core.Path.{◌≡◌, refl}
use Prim.Native.Nat.{ℕ}
use Rattle.stream.specs.Paper.{Judge, opening, goes, ends}
use Rattle.stream.specs.Records.{cut_at_rs, given_all, verdicts_of}

bytes : List ℕ
bytes = 0x7A ∷ 0x1E ∷ 0x5B ∷ 0x1E ∷ 0x1E ∷ 0x31 ∷ []

-- the head, a record, an empty part, a record
cut_at_rs-example : cut_at_rs bytes ≡ record { first = 0x7A ∷ []; behind = (0x5B ∷ []) ∷ [] ∷ (0x31 ∷ []) ∷ [] }
unfolding cut_at_rs bytes
cut_at_rs-example = refl

module _ (J : Judge) where
  verdicts-example : verdicts_of J bytes ≡ J true (0x7A ∷ []) ∷ J false (0x5B ∷ []) ∷ J false (0x31 ∷ []) ∷ []
  unfolding cut_at_rs given_all bytes
  verdicts-example = refl

  -- the first feed ends with the head, at the RS after it
  head-example : goes J opening 0 bytes ≡ record { paper = record { head = false; part = [] }; count = 2; answer = Ok (Some (J true (0x7A ∷ []))) }
  unfolding goes bytes
  head-example = refl

  -- the rest is fed: the record ends at the RS after it
  record-example : goes J (record { head = false; part = [] }) 0 (0x5B ∷ 0x1E ∷ 0x1E ∷ 0x31 ∷ [])
      ≡ record { paper = record { head = false; part = [] }; count = 2; answer = Ok (Some (J false (0x5B ∷ []))) }
  unfolding goes
  record-example = refl

  -- an RS before any byte of a record gives no verdict, and the last record waits for the close
  waiting-example : goes J (record { head = false; part = [] }) 0 (0x1E ∷ 0x31 ∷ [])
      ≡ record { paper = record { head = false; part = 0x31 ∷ [] }; count = 2; answer = Ok None }
  unfolding goes
  waiting-example = refl

  close-example : ends J (record { head = false; part = 0x31 ∷ [] }) ≡ record { paper = opening; count = 0; answer = Ok (Some (J false (0x31 ∷ []))) }
  close-example = refl
