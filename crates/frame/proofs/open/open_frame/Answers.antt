-- `open::open_frame` meets its contract: an array's states are the last 64 bytes, which were 0. Assumes nothing.
use mathlib.Core.Path.{refl}
use Rattle.frame.specs.Ops.{opened, start_states}
use Rattle.frame.proofs.open.open_frame.Goals as goal

pub returns-in-Array : goal.returns-in-Array
unfolding opened start_states
returns-in-Array c =
    let zeros = (rw c.unwrap.ensures at c.last_chunk_mut.ensures.cases).1.same in
    rw (c.add_starts.ensures, zeros, c.number.ensures, c.in-Array.is) refl
