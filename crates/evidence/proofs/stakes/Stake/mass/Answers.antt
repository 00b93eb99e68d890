use Rattle.std.proofs.Common.{◌≡◌, ◌∙◌, ◌*◌, ◌≤◌, None, sym, subst, ap, arith}
use Rattle.maid_model.specs.Diagrams.{greatest_number}
use Rattle.evidence.specs.Stakes.{chances_lacking}
use Rattle.evidence.proofs.Left.{left_alone}
use Rattle.evidence.proofs.StakeLemmas.{lacking_small, mass_small}
use Rattle.evidence.proofs.stakes.Stake.mass.Goals as goal
use Rattle.evidence.proofs.stakes.Stake.mass.Goals.{After-chance_product}

pub chance_product-requires : goal.chance_product-requires
chance_product-requires c =
    let s = c.args.self.now in
    subst (λ n. n ≤ greatest_number)
    (sym (left_alone s.diagram.now s.node s.agent s.mass s.worths.now s.scope c.requires.stake c.of.result c.ancestors-planned.result c.difference-left.result c.of.ensures c.ancestors-planned.ensures c.difference-left.ensures))
    (lacking_small s.diagram.now s.node s.agent s.mass s.worths.now s.scope c.requires.stake None)

-- the chance totals left are those that the plan lacks
left_is : (c : After-chance_product) → c.chance_product.result ≡ chances_lacking c.args.self.now.diagram.now.nodes c.args.self.now.node c.args.self.now.agent None
left_is c =
    let s = c.args.self.now in
    c.chance_product.ensures
    ∙ left_alone s.diagram.now s.node s.agent s.mass s.worths.now s.scope c.requires.stake c.of.result c.ancestors-planned.result c.difference-left.result c.of.ensures c.ancestors-planned.ensures c.difference-left.ensures

pub overflow_mul-result : goal.overflow_mul-result
overflow_mul-result c =
    let s = c.args.self.now in
    let product : s.mass * c.chance_product.result ≤ greatest_number =
    subst (λ n. s.mass * n ≤ greatest_number) (sym (left_is c)) (mass_small s.diagram.now s.node s.agent s.mass s.worths.now s.scope c.requires.stake) in
    omega (arith, product)

pub returns : goal.returns
returns c = ap (λ n. c.args.self.now.mass * n) (left_is c)
