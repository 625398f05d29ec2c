-- How the code's answers tell what a line says. Derived: `judge` joins them to `say_line`. Assumes nothing.
use Rattle.std.specs.Prelude.{Bool, cond, ◌&&◌, List, ℕ, Option, Some, None, Result, Ok, Err}
use Rattle.laws.specs.Lists.{same}
use Rattle.table.specs.declared.kind.Form.TheVariants.{Object, Array}
use Rattle.table.specs.declared.kind.Form.{Form as CodeForm}
use Rattle.book.specs.Text.{is_number}
use Rattle.book.specs.Entry.{Form, obj, arr, Entry, edge, end_state}
use Rattle.book.specs.Line.{Said, bad, good, say_fields, small, entry_of, is_kind, is_key, word_obj, word_end, dash}
use Rattle.line.specs.declared.Fault.{Fault}
use Rattle.line.specs.declared.Fault.TheVariants.{Malformed, AboveLimit, TooMany, FormChanged, Repeated}
use Rattle.line.specs.declared.EdgeLine.{EdgeLine}
use Rattle.line.specs.declared.Line.{Line}
use Rattle.line.specs.declared.Fields.{Fields}

-- the number of a refusal
abbrev pub fault_number : Fault → ℕ
fault_number Malformed = 3
fault_number AboveLimit = 4
fault_number TooMany = 5
fault_number FormChanged = 6
fault_number Repeated = 7

-- the form of a line
abbrev pub form_in : CodeForm → Form
form_in Object = obj
form_in Array = arr

-- the entry of a line by its edge, where there is one: rule, form and state
abbrev pub entry_as : Option EdgeLine → ℕ → Form → ℕ → Entry
entry_as None r f q = end_state r f q
entry_as (Some e) r f q = edge r f q e.key.now e.kind e.next

-- the entry of a line
abbrev pub entry_in : Line → Entry
entry_in l = entry_as l.edge l.rule (form_in l.form) l.state

-- what the code's answer says
abbrev pub said : Result Line Fault → Said
said (Ok l) = good (entry_in l)
said (Err f) = bad (fault_number f)

-- what six fields say
abbrev pub say_six : Fields → Said
say_six f = say_fields f.rule.now f.form.now f.state.now f.key.now f.value.now f.next.now

-- the entry of six well-formed fields, where their numbers are within their limits
abbrev pub small_entry : Fields → Option Entry
small_entry f =
    cond (small f.rule.now f.state.now f.value.now f.next.now)
    (Some (entry_of f.rule.now f.form.now f.state.now f.key.now f.value.now f.next.now))
    None

-- ---- parts of `formed`

-- the key of an edge, by its form
unfoldable pub keyed : List ℕ → List ℕ → Bool
keyed f k = cond (same f word_obj) (is_key k) (same k dash)

-- key, value and next of a line
unfoldable pub formed_end : List ℕ → List ℕ → List ℕ → List ℕ → Bool
formed_end f k v m = cond (same v word_end) (same k dash && same m dash) (is_kind v && (is_number m && keyed f k))
