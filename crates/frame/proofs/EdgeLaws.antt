-- What the forms of rules, the numbers of states and the tests of edges say. Assumes nothing.
use mathlib.Core.Bool.{Bool, ◌&&◌}
use mathlib.Core.List.{List}
use mathlib.Core.Logic.{◌↔◌}
use mathlib.Core.Path.{◌≡◌}
use Prim.Native.Nat.{ℕ, ◌<◌}
use native.Mathlib.Omega.{arith}
use lib.Dec.{T, eqb, ltb, eqb→eq, ltb→lt}
use lib.ListN.{get_or}
use borrow.Author.Tests.{eq-eqb, lt-ltb}
use Rattle.laws.specs.Bits.{bit_at}
use Rattle.laws.proofs.TestLaws.{T-of-true, T_and, T-and-left, T-and-right}
use Rattle.frame.specs.Edges.{has_form, state_number, fitting, stepping, walking}
use Rattle.frame.specs.Frame.{held_in}

-- ---- forms

-- the form of a rule below 32
pub has_form-below : (forms : List ℕ) (form r : ℕ) → r < 32 → has_form forms form r ≡ eqb (get_or forms r 0) form
unfolding has_form
has_form-below forms form r h = rw (lt-ltb r 32 h)

-- a rule that has a form is below 32
pub below-of-has_form : (forms : List ℕ) (form r : ℕ) → T (has_form forms form r) → r < 32
unfolding has_form
below-of-has_form forms form r t = ltb→lt r 32 (T-and-left (ltb r 32) (eqb (get_or forms r 0) form) t)

-- ---- numbers of states

-- a state below 16 of a rule below 32 has a number below 512
pub state_number-lt : (rules states : List ℕ) (e : ℕ) → get_or rules e 0 < 32 → get_or states e 0 < 16 → state_number rules states e < 512
unfolding state_number
state_number-lt rules states e r s = omega arith

-- ---- tests of an edge

-- an edge of key k whose kind passes
pub fitting-iff : (fits : ℕ → Bool) (keys kinds : List ℕ) (k e : ℕ) → T (fitting fits keys kinds k e) ↔ ((get_or keys e 0 ≡ k) × T (fits (get_or kinds e 0)))
unfolding fitting
fitting-iff fits keys kinds k e = (
  (λ t. (eqb→eq (get_or keys e 0) k (T-and-left (eqb (get_or keys e 0) k) (fits (get_or kinds e 0)) t), T-and-right (eqb (get_or keys e 0) k) (fits (get_or kinds e 0)) t)),
  (λ p. T_and (eqb (get_or keys e 0) k) (fits (get_or kinds e 0)) (T-of-true (eqb (get_or keys e 0) k) (eq-eqb (get_or keys e 0) k p.0)) p.1),
)

-- an edge of an `arr` rule whose kind passes and whose state the array has
pub stepping-iff : (fits : ℕ → Bool) (rules states kinds forms f : List ℕ) (e : ℕ)
    → T (stepping fits rules states kinds forms f e)
    ↔ (T (fits (get_or kinds e 0)) × T (has_form forms 2 (get_or rules e 0)) × T (held_in f (state_number rules states e)))
unfolding stepping
stepping-iff fits rules states kinds forms f e =
    let a = fits (get_or kinds e 0) in
    let b = has_form forms 2 (get_or rules e 0) in
    let c = held_in f (state_number rules states e) in (
      (λ t. (T-and-left a (b && c) t, T-and-left b c (T-and-right a (b && c) t), T-and-right b c (T-and-right a (b && c) t))),
      (λ p. T_and a (b && c) p.0 (T_and b c p.1 p.2)),
    )

-- an edge of key k that the object holds and whose state is one of s
pub walking-iff : (rules states keys f s : List ℕ) (k e : ℕ)
    → T (walking rules states keys f s k e) ↔ ((get_or keys e 0 ≡ k) × T (held_in f e) × T (bit_at s (state_number rules states e)))
unfolding walking
walking-iff rules states keys f s k e =
    let a = eqb (get_or keys e 0) k in
    let b = held_in f e in
    let c = bit_at s (state_number rules states e) in (
      (λ t. (eqb→eq (get_or keys e 0) k (T-and-left a (b && c) t), T-and-left b c (T-and-right a (b && c) t), T-and-right b c (T-and-right a (b && c) t))),
      (λ p. T_and a (b && c) (T-of-true a (eq-eqb (get_or keys e 0) k p.0)) (T_and b c p.1 p.2)),
    )
