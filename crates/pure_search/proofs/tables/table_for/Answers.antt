use Rattle.std.proofs.Common.{◌≡◌, ◌∙◌, ◌<◌, All, ap, subst, sym}
use Rattle.maid_model.specs.Worlds.{IsWorld, worlds, worlds_from}
use Rattle.pure_search.specs.Games.{AddsRows, choice_lists, counts_for}
use Rattle.pure_search.specs.declared.tables.Table.{Table}
use Rattle.pure_search.proofs.Steps.{counts_some}
use Rattle.pure_search.proofs.Tabled.{table_of_all}
use Rattle.pure_search.proofs.tables.table_for.Goals as goal

pub first_choices-requires : goal.first_choices-requires
first_choices-requires c = subst (All (λ n. 0 < n)) (sym (c.deref.ensures.value ∙ c.requires.game.counts_are)) (counts_some c.args.diagram.now.nodes c.count-count.ensures.diagram.graph.has_state)

pub add_rows-requires-clause-game : goal.add_rows-requires-clause-game
add_rows-requires-clause-game c = c.requires.game

pub add_rows-requires-clause-agent : goal.add_rows-requires-clause-agent
add_rows-requires-clause-agent c = c.requires.agent

pub add_rows-requires-clause-bound : goal.add_rows-requires-clause-bound
add_rows-requires-clause-bound c = c.requires.bound

pub add_rows-requires-clause-part : goal.add_rows-requires-clause-part
add_rows-requires-clause-part c = c.in_ok-part.ensures.diagram

pub add_rows-requires-clause-nodes : goal.add_rows-requires-clause-nodes
add_rows-requires-clause-nodes c = c.in_ok-part.ensures.nodes

pub add_rows-requires-clause-choices : goal.add_rows-requires-clause-choices
add_rows-requires-clause-choices c =
    subst (IsWorld (counts_for c.args.diagram.now.nodes)) (sym c.deref_mut.ensures.value) (subst (λ l. IsWorld l c.in_ok-choices.choices.items) (c.deref.ensures.value ∙ c.requires.game.counts_are) c.in_ok-choices.ensures.world)

pub returns : goal.returns
returns c =
    let nodes = c.args.diagram.now.nodes in
    let all : worlds_from (counts_for nodes) c.in_ok-choices.choices.items ≡ choice_lists nodes = subst (λ l. worlds_from l c.in_ok-choices.choices.items ≡ worlds l) (c.deref.ensures.value ∙ c.requires.game.counts_are) c.in_ok-choices.ensures.all in
    let empty : Table = record { keys = c.new.result; gains = c.new-2.result } in
    table_of_all nodes c.args.agent empty c.add_rows.new.table c.new.ensures.items c.new-2.ensures.items
    (subst (λ ls. AddsRows nodes c.args.agent ls empty c.add_rows.new.table) (ap (worlds_from (counts_for nodes)) c.deref_mut.ensures.value ∙ all) c.in_ok-add_rows.ensures)
