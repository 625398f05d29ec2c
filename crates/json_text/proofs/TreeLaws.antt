-- The meaning that is the tree itself, and what follows from it: a result of the machine over it is the tree of the text, and a text has
-- one tree. Assumes nothing.
use mathlib.Core.List.{List, [], ◌∷◌}
use mathlib.Core.Option.{some}
use mathlib.Core.Path.{◌≡◌, refl, sym, ◌∙◌, ap, subst}
use Prim.Native.Nat.{ℕ}
use Rattle.json_text.specs.Tree.{Json, Values, Pairs, word, string, number, array, object, no_values, values, no_pairs, pairs}
use Rattle.json_text.specs.Meaning.{fold, meaning, elements, members}
use Rattle.json_text.specs.TreeMeaning.{OpenList, OpenObject, tree_meaning}
use Rattle.json_text.specs.Grammar.{Text}
use Rattle.json_text.specs.Machine.{start, Accepts}
use Rattle.json_text.proofs.Accepted.{accepted-of-text}
use Rattle.json_text.proofs.Sound.{Reads, reads, text-of-accepted}

-- the characters so far, and then those of a list
fold-list : (d : OpenList) (cs : List ℕ) → fold tree_meaning.string_char d cs [] ≡ d cs
fold-list d [] = refl
fold-list d (c ∷ cs) = fold-list (λ (x : List ℕ). d (c ∷ x)) cs

mutual
  -- the meaning of a tree is that tree
  pub meaning-tree : (v : Json) → meaning tree_meaning v ≡ v
  meaning-tree (word x) = refl
  meaning-tree (string cs) = ap string (fold-list tree_meaning.string_start cs)
  meaning-tree (number ds) = ap number (fold-list tree_meaning.number_start ds)
  meaning-tree (array vs) = ap array (elements-tree vs tree_meaning.array_start)
  meaning-tree (object ps) = ap object (members-tree ps tree_meaning.object_start)

  elements-tree : (vs : Values) (d : Values → Values) → elements tree_meaning vs d no_values ≡ d vs
  elements-tree no_values d = refl
  elements-tree (values v vs) d =
      elements-tree vs (λ (xs : Values). d (values (meaning tree_meaning v) xs)) ∙ ap (λ (x : Json). d (values x vs)) (meaning-tree v)

  members-tree : (ps : Pairs) (o : OpenObject) → (members tree_meaning ps o).before no_pairs ≡ o.before ps
  members-tree no_pairs o = refl
  members-tree (pairs k v ps) o =
      members-tree ps _ ∙ ap (λ (x : List ℕ). o.before (pairs x (meaning tree_meaning v) ps)) (fold-list tree_meaning.string_start k)
      ∙ ap (λ (x : Json). o.before (pairs k x ps)) (meaning-tree v)

-- the result of a text is its tree
pub tree-of-text : {s : List ℕ} {v : Json} → Text s v → Accepts tree_meaning (start tree_meaning) s v
tree-of-text {v} t = accepted-of-text tree_meaning t ∙ ap some (meaning-tree v)

-- a result is the tree of a text
pub text-of-tree : (s : List ℕ) (v : Json) → Accepts tree_meaning (start tree_meaning) s v → Text s v
text-of-tree s v x = go (text-of-accepted tree_meaning s v x)
  where
    go : Reads tree_meaning s v → Text s v
    go (reads u t e) = subst (Text s) (sym (meaning-tree u) ∙ e) t

-- a text has one tree
pub text-unique : {s : List ℕ} {v w : Json} → Text s v → Text s w → v ≡ w
text-unique t u = let e = tree-of-text t in let f = tree-of-text u in cc
