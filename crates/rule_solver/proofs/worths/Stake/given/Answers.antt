use Rattle.std.proofs.Common.{◌≡◌, ◌∙◌, ◌≤◌, ◌*ℤ◌, pos, slice_index_or, sym, subst, rules, FitsSigned, to_z, of_z}
use Rattle.std.specs.Int.{w128}
use Rattle.std.proofs.lemmas.Int.{to_z-of_z}
use Rattle.maid_model.specs.Diagrams.{greatest_number}
use Rattle.scope_sums.proofs.Shares.{fits_number, product_value}
use Rattle.rule_solver.proofs.StakeLemmas.{missing_at, worth_times, left_product, missing_small, times_small, gives}
use Rattle.rule_solver.proofs.worths.Stake.given.Goals as goal
use Rattle.rule_solver.proofs.worths.Stake.given.Goals.{After-product_in}

pub product_in-requires-clause-fits : goal.product_in-requires-clause-fits
product_in-requires-clause-fits c =
    let s = c.args.self.now in
    subst (λ n. n ≤ greatest_number)
    (sym (left_product s.diagram.now s.profile.now s.agent s.totals.now s.worths.now s.scope c.requires.stake c.descent_is_tested.ensures c.args.utility c.of.result c.ancestors-planned.result c.remove.new.self c.difference-left.result c.of.ensures c.ancestors-planned.ensures c.remove.ensures c.difference-left.ensures))
    (missing_small s.diagram.now s.profile.now s.agent s.totals.now s.worths.now s.scope c.requires.stake c.plans_keep_scopes.ensures.agents c.args.utility c.requires.within c.requires.owned)

-- the product of the totals left is what the plan lacks
left_is : (c : After-product_in) → c.product_in.result ≡ missing_at c.args.self.now.diagram.now c.args.self.now.profile.now c.args.self.now.agent c.args.self.now.totals.now c.args.self.now.worths.now c.args.self.now.scope c.requires.stake c.args.utility
left_is c =
    let s = c.args.self.now in
    c.product_in.ensures
    ∙ left_product s.diagram.now s.profile.now s.agent s.totals.now s.worths.now s.scope c.requires.stake c.descent_is_tested.ensures c.args.utility c.of.result c.ancestors-planned.result c.remove.new.self c.difference-left.result c.of.ensures c.ancestors-planned.ensures c.remove.ensures c.difference-left.ensures

pub overflow_cast-result : goal.overflow_cast-result
overflow_cast-result c =
    let s = c.args.self.now in
    fits_number (pos c.product_in.result)
    (subst (λ n. n ≤ greatest_number) (sym (left_is c)) (missing_small s.diagram.now s.profile.now s.agent s.totals.now s.worths.now s.scope c.requires.stake c.plans_keep_scopes.ensures.agents c.args.utility c.requires.within c.requires.owned))

-- so the product is what the utility gives
given_is : (c : After-product_in) → to_z w128 (of_z w128 (slice_index_or c.args.self.now.worths.now c.args.utility (pos 0))) *ℤ to_z w128 c.product_in.result ≡ worth_times c.args.self.now.diagram.now c.args.self.now.profile.now c.args.self.now.agent c.args.self.now.totals.now c.args.self.now.worths.now c.args.self.now.scope c.requires.stake c.args.utility
given_is c =
    let s = c.args.self.now in
    let worth_fits : FitsSigned w128 (slice_index_or c.args.self.now.worths.now c.args.utility (pos 0)) = search rules in
    product_value (slice_index_or s.worths.now c.args.utility (pos 0)) c.product_in.result (missing_at s.diagram.now s.profile.now s.agent s.totals.now s.worths.now s.scope c.requires.stake c.args.utility) worth_fits (left_is c)
    (missing_small s.diagram.now s.profile.now s.agent s.totals.now s.worths.now s.scope c.requires.stake c.plans_keep_scopes.ensures.agents c.args.utility c.requires.within c.requires.owned)

given_fits : (c : After-product_in) → FitsSigned w128 (to_z w128 (of_z w128 (slice_index_or c.args.self.now.worths.now c.args.utility (pos 0))) *ℤ to_z w128 c.product_in.result)
given_fits c =
    let s = c.args.self.now in
    subst (FitsSigned w128) (sym (given_is c))
    (fits_number (worth_times s.diagram.now s.profile.now s.agent s.totals.now s.worths.now s.scope c.requires.stake c.args.utility) (times_small s.diagram.now s.profile.now s.agent s.totals.now s.worths.now s.scope c.requires.stake c.plans_keep_scopes.ensures.agents c.args.utility c.requires.within c.requires.owned))

pub overflow_mul-result : goal.overflow_mul-result
overflow_mul-result c = given_fits c

pub returns : goal.returns
returns c =
    let s = c.args.self.now in
    to_z-of_z w128 _ (given_fits c) ∙ given_is c ∙ gives s.diagram.now s.profile.now s.agent s.totals.now s.worths.now s.scope c.requires.stake c.args.utility c.requires.owned
