-- What the bounded counts keep of the counts without bound. Derived: by `test-of-kept` of `KeptLaws` both give one answer. Assumes nothing.
use Rattle.std.specs.Prelude.{◌⊎◌, ◌≡◌, ℕ, ◌<◌, ◌≤◌}
use Rattle.whole.specs.declared.Decimal.{Decimal}

-- y is what a reader keeps of the counts x after i bytes of a record: all of it, but that an exponent past the length of the longest record may be larger
-- than the one kept
pub record Kept (x y : Decimal) (i : ℕ) : Type 0 where
  pub zeros : y.zeros ≡ x.zeros
  pub places : y.places ≡ x.places
  pub negative : y.negative ≡ x.negative
  pub nonzero : y.nonzero ≡ x.nonzero
  pub exponent : (y.exponent ≡ x.exponent) ⊎ ((16777216 < y.exponent) × (y.exponent ≤ x.exponent))
  -- the counts are not above the bytes read
  pub few_zeros : x.zeros ≤ i
  pub few_places : x.places ≤ i
