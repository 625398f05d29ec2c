-- What a meaning knows of a list, found from left to right by `fold`. Assumes nothing.
use mathlib.Core.List.{List, [], ◌∷◌, ◌++◌, append_assoc, append-nil}
use mathlib.Core.Path.{◌≡◌, sym, ◌∙◌}
use Prim.Native.Nat.{ℕ}
use Rattle.json_text.specs.Meaning.{fold}

fold-snoc-from : (s k : List ℕ) → fold (λ (a : List ℕ) (c : ℕ). a ++ (c ∷ [])) s k ≡ s ++ k
fold-snoc-from s [] = sym (append-nil s)
fold-snoc-from s (c ∷ k) = fold-snoc-from (s ++ (c ∷ [])) k ∙ append_assoc s (c ∷ []) k

-- the members of a list, put one after the other, make the list
pub fold-snoc : (k : List ℕ) → fold (λ (a : List ℕ) (c : ℕ). a ++ (c ∷ [])) [] k ≡ k
fold-snoc k = fold-snoc-from [] k
