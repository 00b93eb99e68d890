-- The view tells the shelf as the code has it, and the searches tell what they looked for.
use Rattle.std.proofs.Common.{ap, refl}
use Rattle.std.proofs.lemmas.Bool.{false≢true}
use Rattle.maid_io.proofs.Files.{is_failed, found_place, no_place, listed_fails, not_listed}
use Rattle.maid_io.proofs.memory_shelf.MemShelfShelf.start.Goals as goal

pub returns-then-is_none-clause-opened : goal.returns-then-is_none-clause-opened
returns-then-is_none-clause-opened c =
    rw (← c.self.view_is) (no_place _ c.args.name.now c.find-self-inside.result (rw c.deref-2.ensures.value at c.find-self-inside.ensures.bytes) c.if-is_none.ensures)

pub returns-clause-opened : goal.returns-clause-opened
returns-clause-opened c =
    rw (← c.self.view_is) (found_place _ c.args.name.now c.find-self-inside.result (rw c.deref-2.ensures.value at c.find-self-inside.ensures.bytes) c.if-is_none.ensures)

pub returns-then-contains-clause-fails : goal.returns-then-contains-clause-fails
returns-then-contains-clause-fails c =
    rw (← c.self.view_is) (λ _. listed_fails c.self.inside.fails.items c.deref.result.now c.saturating_add-self-inside.result _ c.deref.ensures.value c.saturating_add-self-inside.ensures c.if-contains.ensures.cases, λ _. refl)

pub returns-then-is_none-clause-fails : goal.returns-then-is_none-clause-fails
returns-then-is_none-clause-fails c =
    rw (← c.self.view_is) (λ e. absurd (false≢true (ap is_failed e)), λ fails. absurd (not_listed c.self.inside.fails.items c.deref.result.now c.saturating_add-self-inside.result _ c.deref.ensures.value c.saturating_add-self-inside.ensures c.if-contains.ensures.cases fails))

pub returns-clause-fails : goal.returns-clause-fails
returns-clause-fails c =
    rw (← c.self.view_is) (λ e. absurd (false≢true (ap is_failed e)), λ fails. absurd (not_listed c.self.inside.fails.items c.deref.result.now c.saturating_add-self-inside.result _ c.deref.ensures.value c.saturating_add-self-inside.ensures c.if-contains.ensures.cases fails))

pub returns-then-contains-clause-rest : goal.returns-then-contains-clause-rest
returns-then-contains-clause-rest c = rw (← c.self.view_is, c.saturating_add-self-inside.ensures, c.saturating_add-self-inside-then-contains.ensures) refl

pub returns-then-is_none-clause-rest : goal.returns-then-is_none-clause-rest
returns-then-is_none-clause-rest c = rw (← c.self.view_is, c.saturating_add-self-inside.ensures, c.saturating_add-self-inside-then-is_none.ensures) refl

pub returns-clause-rest : goal.returns-clause-rest
returns-clause-rest c = rw (← c.self.view_is, c.saturating_add-self-inside.ensures) refl

pub returns-clause-list : goal.returns-clause-list
returns-clause-list c = rw (← c.self.view_is) refl

pub returns-then-is_none-clause-list : goal.returns-then-is_none-clause-list
returns-then-is_none-clause-list c = rw (← c.self.view_is) refl

pub returns-then-contains-clause-list : goal.returns-then-contains-clause-list
returns-then-contains-clause-list c = rw (← c.self.view_is) refl
