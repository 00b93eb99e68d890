use Rattle.std.proofs.Common.{◌∙◌, ◌<◌, length, All, sym, subst}
use Rattle.pure_search.proofs.Chosen.{decisions_known}
use Rattle.pure_search.proofs.games.game_of.Goals as goal

pub choice_counts-requires : goal.choice_counts-requires
choice_counts-requires c = subst (All (λ v. v < length c.args.diagram.now.nodes)) (sym (c.deref.ensures.value ∙ c.in_ok-decisions.ensures)) (decisions_known c.args.diagram.now.nodes)

pub choice_owners-requires : goal.choice_owners-requires
choice_owners-requires c = subst (All (λ v. v < length c.args.diagram.now.nodes)) (sym (c.deref-2.ensures.value ∙ c.in_ok-decisions.ensures)) (decisions_known c.args.diagram.now.nodes)
