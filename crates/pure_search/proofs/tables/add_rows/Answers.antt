use Rattle.std.proofs.Common.{◌≡◌, ◌∙◌, ◌∷◌, [], length, refl, sym, ap, subst}
use Rattle.maid_model.specs.Worlds.{IsWorld, worlds_from}
use Rattle.pure_search.specs.Following.{FollowsChoices}
use Rattle.pure_search.specs.Games.{AddsRows, counts_for}
use Rattle.pure_search.proofs.Tabled.{fewer_left, row_then}
use Rattle.pure_search.proofs.tables.add_rows.Goals as goal

pub sum_under-requires-clause-decisions : goal.sum_under-requires-clause-decisions
sum_under-requires-clause-decisions c = c.requires.game.decisions_are

pub sum_under-requires-clause-agent : goal.sum_under-requires-clause-agent
sum_under-requires-clause-agent c = c.requires.agent

pub sum_under-requires-clause-bound : goal.sum_under-requires-clause-bound
sum_under-requires-clause-bound c = c.requires.bound

pub sum_under-requires-clause-part : goal.sum_under-requires-clause-part
sum_under-requires-clause-part c = c.requires.part

pub sum_under-requires-clause-nodes : goal.sum_under-requires-clause-nodes
sum_under-requires-clause-nodes c = c.requires.nodes

pub sum_under-requires-clause-choices : goal.sum_under-requires-clause-choices
sum_under-requires-clause-choices c = c.requires.choices

pub profiles-init : goal.profiles-init
profiles-init c = record {
  rows = record { world = c.requires.choices; rest = λ new rows. rows };
  under = c.in_ok-sum.ensures;
  len = ap length c.in_ok-before.ensures.items ∙ c.requires.choices.len;
}

pub add_row-requires-clause-game : goal.add_row-requires-clause-game
add_row-requires-clause-game c = c.requires.game

pub add_row-requires-clause-agent : goal.add_row-requires-clause-agent
add_row-requires-clause-agent c = c.requires.agent

pub add_row-requires-clause-bound : goal.add_row-requires-clause-bound
add_row-requires-clause-bound c = c.requires.bound

pub add_row-requires-clause-part : goal.add_row-requires-clause-part
add_row-requires-clause-part c = c.requires.part

pub add_row-requires-clause-nodes : goal.add_row-requires-clause-nodes
add_row-requires-clause-nodes c = c.requires.nodes

pub add_row-requires-clause-choices : goal.add_row-requires-clause-choices
add_row-requires-clause-choices c = c.profiles.invariant.rows.world

pub add_row-requires-clause-sum : goal.add_row-requires-clause-sum
add_row-requires-clause-sum c = c.profiles.invariant.under

pub copy_from_slice-requires : goal.copy_from_slice-requires
copy_from_slice-requires c = c.profiles.before.ok.0 ∙ c.profiles.invariant.len ∙ sym c.profiles.invariant.rows.world.len

pub next_choices-requires : goal.next_choices-requires
next_choices-requires c = subst (λ l. IsWorld l c.profiles.choices) (sym (c.deref.ensures.value ∙ c.requires.game.counts_are)) c.profiles.invariant.rows.world

pub returns-then-not-next_choices : goal.returns-then-not-next_choices
returns-then-not-next_choices c =
    let nodes = c.args.diagram.now.nodes in
    let last : worlds_from (counts_for nodes) c.profiles.choices ≡ c.profiles.choices ∷ [] = subst (λ l. worlds_from l c.profiles.choices ≡ c.profiles.choices ∷ []) (c.deref.ensures.value ∙ c.requires.game.counts_are) (c.if-not-next_choices.ensures.last refl) in
    c.profiles.invariant.rows.rest c.add_row.new.table (subst (λ ls. AddsRows nodes c.args.agent ls c.profiles.table c.add_row.new.table) (sym last) c.in_ok-add_row.ensures.row)

pub follow-requires-clause-decisions : goal.follow-requires-clause-decisions
follow-requires-clause-decisions c = c.deref-in-profiles.ensures.value ∙ c.requires.game.decisions_are

pub follow-requires-clause-agent : goal.follow-requires-clause-agent
follow-requires-clause-agent c = c.requires.agent

pub follow-requires-clause-bound : goal.follow-requires-clause-bound
follow-requires-clause-bound c = c.requires.bound

pub follow-requires-clause-part : goal.follow-requires-clause-part
follow-requires-clause-part c = c.requires.part

pub follow-requires-clause-nodes : goal.follow-requires-clause-nodes
follow-requires-clause-nodes c = c.requires.nodes

pub follow-requires-clause-before : goal.follow-requires-clause-before
follow-requires-clause-before c = subst (IsWorld (counts_for c.args.diagram.now.nodes)) (sym (c.deref-in-profiles-2.ensures.value ∙ c.copy_from_slice.ensures.items)) c.profiles.invariant.rows.world

pub follow-requires-clause-choices : goal.follow-requires-clause-choices
follow-requires-clause-choices c = subst (λ l. IsWorld l c.next_choices.new.choices) (c.deref.ensures.value ∙ c.requires.game.counts_are) c.if-not-next_choices.ensures.world

pub follow-requires-clause-sum : goal.follow-requires-clause-sum
follow-requires-clause-sum c =
    subst (λ xs. FollowsChoices c.args.diagram.now.nodes c.args.agent xs c.add_row.new.sum) (sym (c.deref-in-profiles-2.ensures.value ∙ c.copy_from_slice.ensures.items))
    (subst (FollowsChoices c.args.diagram.now.nodes c.args.agent c.profiles.choices) (sym c.add_row.ensures.sum) c.profiles.invariant.under)

pub profiles-smaller : goal.profiles-smaller
profiles-smaller c =
    let nodes = c.args.diagram.now.nodes in
    let choices = c.profiles.choices in
    let next = c.next_choices.new.choices in
    fewer_left (counts_for nodes) choices next
    (subst (λ l. worlds_from l choices ≡ choices ∷ worlds_from l next) (c.deref.ensures.value ∙ c.requires.game.counts_are) (c.if-not-next_choices.ensures.more refl))

pub profiles-preserved : goal.profiles-preserved
profiles-preserved c =
    let nodes = c.args.diagram.now.nodes in
    let counts = c.deref.ensures.value ∙ c.requires.game.counts_are in
    let choices = c.profiles.choices in
    let next = c.next_choices.new.choices in
    let more : worlds_from (counts_for nodes) choices ≡ choices ∷ worlds_from (counts_for nodes) next = subst (λ l. worlds_from l choices ≡ choices ∷ worlds_from l next) counts (c.if-not-next_choices.ensures.more refl) in
    record {
      rows = record {
        world = subst (λ l. IsWorld l next) counts c.if-not-next_choices.ensures.world;
        rest = λ new rows. c.profiles.invariant.rows.rest new
            (subst (λ ls. AddsRows nodes c.args.agent ls c.profiles.table new) (sym more)
            (row_then nodes c.args.agent choices (worlds_from (counts_for nodes) next) c.profiles.table c.add_row.new.table new c.in_ok-add_row.ensures.row rows));
      };
      under = c.in_ok-follow.ensures;
      len = ap length c.copy_from_slice.ensures.items ∙ c.profiles.invariant.rows.world.len;
    }
