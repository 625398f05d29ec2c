-- Bytes of a number that lead to one mode, counted at once. Derived: `zeros-counted`, `other-counted`, `places-counted` and `exponent-counted` of
-- `RunLaws` join what is counted at once to `counted_all`. Assumes nothing.
use Rattle.std.specs.Prelude.{List, ◌≡◌, ℕ, zero, suc, ◌<◌, ◌≤◌, length, get_or}
use Rattle.laws.specs.Count.{bump}

-- a count with k more, one after the other
unfoldable pub more_by : ℕ → ℕ → ℕ
more_by n zero = n
more_by n (suc k) = more_by (bump n) k

-- only zeros stand in s from a place on
abbrev pub ZerosFrom : List ℕ → ℕ → Type 0
ZerosFrom s at = (k : ℕ) → at ≤ k → k < length s → get_or s k 0 ≡ 0x30
