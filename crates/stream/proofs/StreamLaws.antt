-- Cutting calls into streams loses none: `flatten-streams`. Assumes nothing.
use mathlib.Core.List.{List, [], ◌∷◌, flatten}
use mathlib.Core.Path.{◌≡◌, refl, ap, ◌∙◌}
use Prim.Native.Nat.{ℕ}
use Rattle.stream.specs.Paper.{Call}
use Rattle.stream.specs.Claim.{closes, before, streams}
use Rattle.laws.proofs.TestLaws.{cond-elim}

flatten-before : (c : Call) (ss : List (List Call)) → flatten (before c ss) ≡ c ∷ flatten ss
unfolding flatten
flatten-before c [] = refl
flatten-before c (s ∷ ss) = refl

-- the streams, one after the other, are the calls
pub flatten-streams : (n : ℕ) (cs : List Call) → flatten (streams n cs) ≡ cs
unfolding streams flatten
flatten-streams n [] = refl
flatten-streams n (c ∷ cs) =
    let e : flatten (streams n cs) ≡ cs = flatten-streams n cs in
    cond-elim (λ (ss : List (List Call)). flatten ss ≡ c ∷ cs) (closes n c) (λ h. ap (λ (x : List Call). c ∷ x) e)
    (λ h. flatten-before c (streams n cs) ∙ ap (λ (x : List Call). c ∷ x) e)
