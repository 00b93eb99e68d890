use Rattle.std.proofs.Common.{◌≡◌, ◌∙◌, ◌≤◌, ◌*ℤ◌, Some, pos, slice_index_or, sym, subst, rules, FitsSigned, to_z, of_z}
use Rattle.std.specs.Int.{w128}
use Rattle.std.proofs.lemmas.Int.{to_z-of_z}
use Rattle.maid_model.specs.Diagrams.{greatest_number}
use Rattle.scope_sums.proofs.Shares.{fits_number, product_value}
use Rattle.evidence.specs.Stakes.{chances_lacking}
use Rattle.evidence.proofs.Left.{left_utility}
use Rattle.evidence.proofs.StakeLemmas.{gives, lacking_small, times_small, worth_times}
use Rattle.evidence.proofs.stakes.Stake.given.Goals as goal
use Rattle.evidence.proofs.stakes.Stake.given.Goals.{After-chance_product}

pub chance_product-requires : goal.chance_product-requires
chance_product-requires c =
    let s = c.args.self.now in
    subst (λ n. n ≤ greatest_number)
    (sym (left_utility s.diagram.now s.node s.agent s.mass s.worths.now s.scope c.requires.stake c.args.utility c.requires.owned c.of-ends.result c.insert.new.self c.ancestors-planned.result c.remove.new.self c.difference-left.result c.of-ends.ensures c.insert.ensures.all c.ancestors-planned.ensures c.remove.ensures c.difference-left.ensures))
    (lacking_small s.diagram.now s.node s.agent s.mass s.worths.now s.scope c.requires.stake (Some c.args.utility))

-- the chance totals left are those that the utility's plan lacks
product_is : (c : After-chance_product) → c.chance_product.result ≡ chances_lacking c.args.self.now.diagram.now.nodes c.args.self.now.node c.args.self.now.agent (Some c.args.utility)
product_is c =
    let s = c.args.self.now in
    c.chance_product.ensures
    ∙ left_utility s.diagram.now s.node s.agent s.mass s.worths.now s.scope c.requires.stake c.args.utility c.requires.owned c.of-ends.result c.insert.new.self c.ancestors-planned.result c.remove.new.self c.difference-left.result c.of-ends.ensures c.insert.ensures.all c.ancestors-planned.ensures c.remove.ensures c.difference-left.ensures

pub overflow_cast-result : goal.overflow_cast-result
overflow_cast-result c =
    let s = c.args.self.now in
    fits_number (pos c.chance_product.result)
    (subst (λ n. n ≤ greatest_number) (sym (product_is c)) (lacking_small s.diagram.now s.node s.agent s.mass s.worths.now s.scope c.requires.stake (Some c.args.utility)))

-- so the product is what the utility gives
given_is : (c : After-chance_product) → to_z w128 (of_z w128 (slice_index_or c.args.self.now.worths.now c.args.utility (pos 0))) *ℤ to_z w128 c.chance_product.result
    ≡ worth_times c.args.self.now.diagram.now c.args.self.now.node c.args.self.now.agent c.args.self.now.mass c.args.self.now.worths.now c.args.self.now.scope c.requires.stake c.args.utility
given_is c =
    let s = c.args.self.now in
    let fits : FitsSigned w128 (slice_index_or c.args.self.now.worths.now c.args.utility (pos 0)) = search rules in
    product_value (slice_index_or s.worths.now c.args.utility (pos 0)) c.chance_product.result (chances_lacking s.diagram.now.nodes s.node s.agent (Some c.args.utility)) fits (product_is c)
    (lacking_small s.diagram.now s.node s.agent s.mass s.worths.now s.scope c.requires.stake (Some c.args.utility))

given_fits : (c : After-chance_product) → FitsSigned w128 (to_z w128 (of_z w128 (slice_index_or c.args.self.now.worths.now c.args.utility (pos 0))) *ℤ to_z w128 c.chance_product.result)
given_fits c =
    let s = c.args.self.now in
    subst (FitsSigned w128) (sym (given_is c))
    (fits_number (worth_times s.diagram.now s.node s.agent s.mass s.worths.now s.scope c.requires.stake c.args.utility) (times_small s.diagram.now s.node s.agent s.mass s.worths.now s.scope c.requires.stake c.args.utility c.requires.within c.requires.owned))

pub overflow_mul-result : goal.overflow_mul-result
overflow_mul-result c = given_fits c

pub returns : goal.returns
returns c =
    let s = c.args.self.now in
    to_z-of_z w128 _ (given_fits c) ∙ given_is c ∙ gives s.diagram.now s.node s.agent s.mass s.worths.now s.scope c.requires.stake c.args.utility c.requires.owned
