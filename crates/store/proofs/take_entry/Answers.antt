-- `take_entry` meets its contract: an entry within the limits of its fields is what its parts take. Assumes nothing.
use Rattle.store.proofs.StoreLaws.{take_entry-form, take_entry-edge, take_entry-end}
use borrow.Author.Rules.{rules}
use Rattle.store.proofs.take_entry.Goals as goal

pub returns-then-form_changes : goal.returns-then-form_changes
returns-then-form_changes c = search (rules, take_entry-form)

pub returns-in-None : goal.returns-in-None
returns-in-None c = search (rules, take_entry-end)

pub returns-in-Some : goal.returns-in-Some
returns-in-Some c = search (rules, take_entry-edge)
