-- `take_edge` meets its contract. Assumes nothing.
use Rattle.store.proofs.StoreLaws.{take_edge-again, take_edge-full, take_edge-keys, take_edge-key, take_edge-old}
use borrow.Author.Rules.{rules}
use Rattle.store.proofs.take_edge.Goals as goal

pub returns-then-has_cell : goal.returns-then-has_cell
returns-then-has_cell c = search (rules, take_edge-again)

pub returns-then-edges-ge512 : goal.returns-then-edges-ge512
returns-then-edges-ge512 c = search (rules, take_edge-full)

pub returns-then-keys-ge128 : goal.returns-then-keys-ge128
returns-then-keys-ge128 c = search (rules, take_edge-keys)

pub returns-then-is_new : goal.returns-then-is_new
returns-then-is_new c = search (rules, take_edge-key)

pub returns : goal.returns
returns c = search (rules, take_edge-old)
