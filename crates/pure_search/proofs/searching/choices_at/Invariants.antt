use Rattle.std.proofs.Common.{◌≡◌, drop}
use Rattle.maid_model.specs.Worlds.{IsWorld, worlds, worlds_from}
use Rattle.pure_search.proofs.searching.choices_at.Given as goal

-- the list of choices at the place so far
abbrev pub invariant-loop : goal.invariant-loop
invariant-loop l = IsWorld l.counts l.choices.items × (worlds_from l.counts l.choices.items ≡ drop l.counter (worlds l.counts))
