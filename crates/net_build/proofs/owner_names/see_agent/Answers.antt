-- An agent is found among those seen, or it is added behind them.
use Rattle.std.proofs.Common.{[], ◌∷◌, ◌++◌, Contains, refl, ap, sym, subst, ◌∙◌}
use Rattle.net_build.proofs.NodeLemmas.{some_has, none_lacks}
use Rattle.net_build.proofs.owner_names.see_agent.Goals as goal

pub returns-then-is_some-clause-row : goal.returns-then-is_some-clause-row
returns-then-is_some-clause-row c = rw c.at.ensures (some_has _ c.place.result c.place.ensures (sym c.is_some.ensures ∙ c.if-is_some.true), refl)

pub add-requires : goal.add-requires
add-requires c has = none_lacks _ c.place.result c.place.ensures (sym c.is_some.ensures ∙ c.if-is_some.false) (subst (Contains c.args.seen.now) c.in_ok-from_slice.ensures.items has)

pub returns-clause-row : goal.returns-clause-row
returns-clause-row c = none_lacks _ c.place.result c.place.ensures (sym c.is_some.ensures ∙ c.if-is_some.false)

pub returns-clause-seen : goal.returns-clause-seen
returns-clause-seen c = c.in_ok-add.ensures ∙ ap (λ a. c.args.seen.now ++ a ∷ []) c.in_ok-from_slice.ensures.items
