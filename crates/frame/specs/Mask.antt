-- The kinds that a finished value fits, as the bits of one number: bit c for the kind with code c.
-- Derived: `mask_has-scalar_mask` and `mask_has-rules-shl` of `MaskLaws` join it to `fits_code`. Assumes nothing.
use Rattle.std.specs.Prelude.{Bool, false, cond, ℕ, ◌+◌, ◌/◌, ◌%◌, ◌^◌, eqb, ltb}
use Rattle.table.specs.Kind.{code_of, fits_kind}
use Rattle.table.specs.declared.kind.Scalar.{Scalar}
use Rattle.table.specs.declared.kind.Scalar.TheVariants.{Null, True, False, Str, Num, Int}
use Rattle.table.specs.declared.kind.ValueKind.TheVariants.{Plain}
use Rattle.table.specs.declared.kind.Finished.TheVariants as Done

-- bit c of a mask; it has 64 bits
unfoldable pub mask_has : ℕ → ℕ → Bool
mask_has mask c = cond (ltb c 64) (eqb (mask / 2 ^ c % 2) 1) false

-- the last six bits of c are a bit of a mask
unfoldable pub has_last_bits : ℕ → ℕ → Bool
has_last_bits mask c = eqb (mask / 2 ^ (c % 64) % 2) 1

-- the bit of a plain kind's code, where a scalar fits the kind
unfoldable pub bit_if_fits : Scalar → Scalar → ℕ
bit_if_fits k s = cond (fits_kind (Plain k) (Done.Scalar s)) (2 ^ code_of (Plain k)) 0

-- the mask of a scalar: the bits of the plain kinds that it fits
abbrev pub scalar_mask : Scalar → ℕ
scalar_mask s = bit_if_fits Null s + bit_if_fits True s + bit_if_fits False s + bit_if_fits Str s + bit_if_fits Num s + bit_if_fits Int s
