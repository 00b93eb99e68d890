-- The view tells the sink as the code has it.
use Rattle.std.proofs.Common.{arith, refl}
use Rattle.maid_io.proofs.memory_sink.MemSinkSink.write.Goals as goal

pub returns-then-full-clause-bytes : goal.returns-then-full-clause-bytes
returns-then-full-clause-bytes c = rw (← c.self.view_is) refl

pub returns-then-full-clause-room : goal.returns-then-full-clause-room
returns-then-full-clause-room c = rw (← c.self.view_is) refl

pub returns-then-full-clause-rest : goal.returns-then-full-clause-rest
returns-then-full-clause-rest c =
    rw (← c.self.view_is, c.saturating_add-self-inside.ensures, c.saturating_add-self-inside-then-full.ensures) refl

pub overflow_sub-self : goal.overflow_sub-self
overflow_sub-self c = omega (arith, c.min-count.ensures)

pub returns-clause-bound : goal.returns-clause-bound
returns-clause-bound c = omega (arith, c.min.ensures, c.min-count.ensures)

pub returns-clause-room : goal.returns-clause-room
returns-clause-room c = rw (← c.self.view_is) (omega (arith, c.min-count.ensures))

pub returns-clause-count : goal.returns-clause-count
returns-clause-count c = rw (← c.self.view_is) (omega (arith, c.min.ensures, c.min-count.ensures))

pub returns-clause-rest : goal.returns-clause-rest
returns-clause-rest c = rw (← c.self.view_is, c.saturating_add-self-inside.ensures) refl
