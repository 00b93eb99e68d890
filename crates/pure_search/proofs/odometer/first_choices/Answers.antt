use Rattle.std.proofs.Common.{◌∙◌, sym, ap, subst}
use Rattle.maid_model.specs.Worlds.{IsWorld, worlds_from}
use Rattle.maid_model.proofs.Next.{worlds_from-first}
use Rattle.pure_search.proofs.Steps.{all_positive, first_list}
use Rattle.pure_search.proofs.odometer.first_choices.Goals as goal

pub returns-clause-world : goal.returns-clause-world
returns-clause-world c = subst (IsWorld c.args.counts.now) (sym (c.in_ok-choices.ensures.items_if_clones_equal (λ y e. e))) (first_list c.args.counts.now (all_positive c.args.counts.now c.requires))

pub returns-clause-all : goal.returns-clause-all
returns-clause-all c = ap (worlds_from c.args.counts.now) (c.in_ok-choices.ensures.items_if_clones_equal (λ y e. e)) ∙ worlds_from-first c.args.counts.now (all_positive c.args.counts.now c.requires)
