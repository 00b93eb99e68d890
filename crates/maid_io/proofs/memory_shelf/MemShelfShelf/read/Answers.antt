-- The bytes copied are a front of what is left, and none only where none is left or the buffer is
-- empty.
use Rattle.std.proofs.Common.{◌≡◌, ◌+◌, ◌^◌, ◌-◌, min, arith, ap, map, refl}
use Rattle.std.proofs.lemmas.Bool.{false≢true}
use Rattle.maid_io.specs.Memory.{ShelfState, file}
use Rattle.maid_io.proofs.Files.{read_took, listed_fails, not_listed}
use Rattle.maid_io.proofs.memory_shelf.MemShelfShelf.read.Goals as goal

pub returns-clause-bytes : goal.returns-clause-bytes
returns-clause-bytes c =
    let s = c.self.inside in
    let told = ap (λ (v : ShelfState). v.left) c.self.view_is in
    let rest = rw c.deref-2.ensures.value at c.bytes_left-rest.ensures.left in
    read_took (map file s.files.items) s.started s.given c.copy_front-count.result s.piece _ c.copy_front-count.new.buf c.bytes_left-rest.result.now told rest c.copy_front-count.ensures.copied (omega (arith, c.copy_front-count.ensures.count, c.copy_front-count.auto.buf)) c.self.invariant.0

pub returns-then-contains-clause-list : goal.returns-then-contains-clause-list
returns-then-contains-clause-list c = rw (← c.self.view_is) refl

pub returns-then-contains-clause-fails : goal.returns-then-contains-clause-fails
returns-then-contains-clause-fails c =
    rw (← c.self.view_is) (λ _. listed_fails c.self.inside.fails.items c.deref.result.now c.saturating_add-self-inside.result _ c.deref.ensures.value c.saturating_add-self-inside.ensures c.if-contains.ensures.cases, λ _. refl)

pub returns-then-contains-clause-rest : goal.returns-then-contains-clause-rest
returns-then-contains-clause-rest c =
    rw (← c.self.view_is, c.saturating_add-self-inside.ensures, c.saturating_add-self-inside-then-contains.ensures) refl

pub returns-clause-given : goal.returns-clause-given
returns-clause-given c = rw (← c.self.view_is) (λ _. refl)

pub returns-clause-list : goal.returns-clause-list
returns-clause-list c = rw (← c.self.view_is) refl

pub returns-clause-fails : goal.returns-clause-fails
returns-clause-fails c =
    rw (← c.self.view_is) (λ e. absurd (false≢true e), λ fails. absurd (not_listed c.self.inside.fails.items c.deref.result.now c.saturating_add-self-inside.result _ c.deref.ensures.value c.saturating_add-self-inside.ensures c.if-contains.ensures.cases fails))

pub returns-clause-count : goal.returns-clause-count
returns-clause-count c =
    rw (← c.self.view_is, c.copy_front-count.ensures.count, c.bytes_left-rest.ensures.left, c.deref-2.ensures.value) refl

pub returns-clause-rest : goal.returns-clause-rest
returns-clause-rest c =
    let fits : min (c.self.inside.given + c.copy_front-count.result) (2 ^ 64 - 1) ≡ c.self.inside.given + c.copy_front-count.result = omega (arith, c.bytes_left-rest.ensures.fits, c.copy_front-count.ensures.count) in
    rw (← c.self.view_is, c.saturating_add-self-inside.ensures, fits) refl
