-- The walk over an object's keys as a relation on states: which state is reached after the seen keys below k.
-- Derived: `bit_at-walked` of `WalkLaws` joins it to `walked`. Assumes nothing.
use Rattle.std.specs.Prelude.{true, false, List, ◌≡◌, ℕ, suc, ◌<◌, T, get_or}
use Rattle.laws.specs.Bits.{bit_at}
use Rattle.frame.specs.Edges.{Edges, edge_count, state_number}
use Rattle.frame.specs.Frame.{seen_in, held_in}

-- from the states s of the object f: no key is passed yet; a key that was not seen is passed; a fitting edge of a key that was seen is taken
pub data Reached (t : Edges) (f s : List ℕ) : ℕ → ℕ → Type 0 where
  begun : {j : ℕ} → T (bit_at s j) → Reached t f s 0 j
  passed : {k j : ℕ} → seen_in f k ≡ false → Reached t f s k j → Reached t f s (suc k) j
  taken : {k j : ℕ} (e : ℕ) → seen_in f k ≡ true → e < edge_count t.count → get_or t.keys e 0 ≡ k → T (held_in f e)
      → Reached t f s k (state_number t.rules t.states e) → state_number t.rules t.nexts e ≡ j → j < 512 → Reached t f s (suc k) j
