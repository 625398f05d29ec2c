-- `Table::find` meets its contract: the first key that is the same has its number. Assumes nothing.
use mathlib.Core.Path.{◌≡◌, refl, sym, ◌∙◌}
use Prim.Native.Nat.{◌-◌}
use native.Mathlib.Omega.{arith}
use borrow.Author.Rules.{rules}
use borrow.Author.Tests.{tests}
use Rattle.std.proofs.Common.{nat_eq}
use Rattle.std.specs.Cmp.Lexicographic.{pointwise}
use Rattle.std.proofs.lemmas.Iterator.{YieldsList-from_range}
use Rattle.std.proofs.lemmas.Iterator.Adapters.{option_map_id}
use Rattle.std.proofs.lemmas.Iterator.Search.{find_from_yields_List}
use Rattle.table.specs.Keys.{key_at}
use Rattle.table.proofs.KeyLaws.{found-key}
use Rattle.table.proofs.flat.Table.find.Goals as goal

pub returns : goal.returns
returns c =
    let t = c.args.self.now in
    let n : t.keys - 0 ≡ t.keys = omega arith in
    let e =
    find_from_yields_List (λ i. pointwise nat_eq (key_at t.key_bytes t.key_len i) c.args.key.now) _ _ c.find.result c.find.ensures.ran (YieldsList-from_range 0 t.keys t.keys (rw c.keys.ensures refl) n) (λ x b q k. search (rules, tests)) in
    found-key _ _ _ (sym (option_map_id c.find.result) ∙ e)
