-- `key_number` meets its contract. Assumes nothing.
use mathlib.Core.Path.{◌≡◌, ◌∙◌, ap}
use lib.ListN.{length}
use Rattle.std.proofs.Common.{unwrap_or}
use Rattle.store.proofs.StoreLaws.{key_number-none, key_number-some}
use borrow.Author.Rules.{rules}
use Rattle.store.proofs.key_number.Goals as goal

pub returns-then-is_empty : goal.returns-then-is_empty
returns-then-is_empty c = key_number-none _ _ (search rules)

pub returns : goal.returns
returns c =
    let some : length c.args.key.now ≡ 0 → ⊥ = search rules in
    c.unwrap_or.ensures ∙ ap (unwrap_or c.find.result) c.keys.ensures ∙ key_number-some _ _ _ some c.find.ensures
