-- Lists and tests that are computed from a rule, one number after the other. Stated; `TabLaws` says what each is at a place. Assumes nothing.
use Rattle.std.specs.Prelude.{Bool, true, ◌&&◌, List, [], ◌∷◌, ℕ, zero, suc}

-- the list of f at i, i + 1, .., n of them
abbrev pub tab : {A : Type 0} → (ℕ → A) → ℕ → ℕ → List A
tab f i zero = []
tab f i (suc n) = f i ∷ tab f (suc i) n

-- the test f passes at i, i + 1, .., n of them
abbrev pub every : (ℕ → Bool) → ℕ → ℕ → Bool
every f i zero = true
every f i (suc n) = f i && every f (suc i) n
