use Rattle.std.proofs.Common.{◌≡◌, ◌∙◌, ◌*◌, ◌^◌, ◌<◌, sym, subst, rules, arith, FitsSigned, to_z, of_z}
use Rattle.std.proofs.lemmas.Int.{to_z-of_z}
use Rattle.std.specs.Int.{w128}
use Rattle.maid_model.specs.Answers.{IsFraction}
use Rattle.maid_model.specs.Gains.{gain_of, mass}
use Rattle.pure_search.proofs.Agents.{scope_kept, weighed}
use Rattle.pure_search.proofs.worths.worth.Goals as goal

pub rules_in_part-requires-clause-kept : goal.rules_in_part-requires-clause-kept
rules_in_part-requires-clause-kept c = scope_kept c.args.diagram.now.nodes c.args.agent c.deref.result.now c.count-count.ensures.diagram.graph (c.deref.ensures.value ∙ c.in_ok-part.ensures.nodes)

pub gain_over-requires-clause-profile : goal.gain_over-requires-clause-profile
gain_over-requires-clause-profile c =
    (weighed c.args.diagram.now c.args.chosen.now c.args.agent c.count-count.ensures.diagram c.requires.bound c.requires.chosen c.requires.pure c.requires.agent
    c.in_ok-part.part.diagram c.deref.result.now c.in_ok-rules.rules c.in_ok-part.ensures.diagram (c.deref.ensures.value ∙ c.in_ok-part.ensures.nodes) c.in_ok-rules.ensures).profile

pub gain_over-requires-clause-fits : goal.gain_over-requires-clause-fits
gain_over-requires-clause-fits c =
    (weighed c.args.diagram.now c.args.chosen.now c.args.agent c.count-count.ensures.diagram c.requires.bound c.requires.chosen c.requires.pure c.requires.agent
    c.in_ok-part.part.diagram c.deref.result.now c.in_ok-rules.rules c.in_ok-part.ensures.diagram (c.deref.ensures.value ∙ c.in_ok-part.ensures.nodes) c.in_ok-rules.ensures).fits

pub mass_of-mass-requires-clause-profile : goal.mass_of-mass-requires-clause-profile
mass_of-mass-requires-clause-profile c =
    (weighed c.args.diagram.now c.args.chosen.now c.args.agent c.count-count.ensures.diagram c.requires.bound c.requires.chosen c.requires.pure c.requires.agent
    c.in_ok-part.part.diagram c.deref.result.now c.in_ok-rules.rules c.in_ok-part.ensures.diagram (c.deref.ensures.value ∙ c.in_ok-part.ensures.nodes) c.in_ok-rules.ensures).profile

pub mass_of-mass-requires-clause-fits : goal.mass_of-mass-requires-clause-fits
mass_of-mass-requires-clause-fits c =
    (weighed c.args.diagram.now c.args.chosen.now c.args.agent c.count-count.ensures.diagram c.requires.bound c.requires.chosen c.requires.pure c.requires.agent
    c.in_ok-part.part.diagram c.deref.result.now c.in_ok-rules.rules c.in_ok-part.ensures.diagram (c.deref.ensures.value ∙ c.in_ok-part.ensures.nodes) c.in_ok-rules.ensures).mass_fits

pub overflow_mul-mass : goal.overflow_mul-mass
overflow_mul-mass c =
    let small = (weighed c.args.diagram.now c.args.chosen.now c.args.agent c.count-count.ensures.diagram c.requires.bound c.requires.chosen c.requires.pure c.requires.agent
    c.in_ok-part.part.diagram c.deref.result.now c.in_ok-rules.rules c.in_ok-part.ensures.diagram (c.deref.ensures.value ∙ c.in_ok-part.ensures.nodes) c.in_ok-rules.ensures).scaled_fits in
    let same : c.mass_of-mass.result * c.scale.result ≡ mass c.in_ok-part.part.diagram.nodes c.in_ok-rules.rules * 10 ^ c.args.diagram.now.decimals = (λ i. c.mass_of-mass.ensures i * c.scale.ensures.scale i) in
    omega (arith, small, same)

pub reduced-requires-clause-den : goal.reduced-requires-clause-den
reduced-requires-clause-den c =
    subst (λ n. 0 < n) (λ i. sym c.mass_of-mass.ensures i * sym c.scale.ensures.scale i)
    ((weighed c.args.diagram.now c.args.chosen.now c.args.agent c.count-count.ensures.diagram c.requires.bound c.requires.chosen c.requires.pure c.requires.agent
    c.in_ok-part.part.diagram c.deref.result.now c.in_ok-rules.rules c.in_ok-part.ensures.diagram (c.deref.ensures.value ∙ c.in_ok-part.ensures.nodes) c.in_ok-rules.ensures).scaled_positive)

pub returns : goal.returns
returns c =
    let told = (weighed c.args.diagram.now c.args.chosen.now c.args.agent c.count-count.ensures.diagram c.requires.bound c.requires.chosen c.requires.pure c.requires.agent
    c.in_ok-part.part.diagram c.deref.result.now c.in_ok-rules.rules c.in_ok-part.ensures.diagram (c.deref.ensures.value ∙ c.in_ok-part.ensures.nodes) c.in_ok-rules.ensures).worth in
    let same : c.mass_of-mass.result * c.scale.result ≡ mass c.in_ok-part.part.diagram.nodes c.in_ok-rules.rules * 10 ^ c.args.diagram.now.decimals = (λ i. c.mass_of-mass.ensures i * c.scale.ensures.scale i) in
    let fits : FitsSigned w128 c.in_ok-sum.sum = search rules in
    let sum : to_z w128 (of_z w128 c.in_ok-sum.sum) ≡ gain_of c.in_ok-part.part.diagram.nodes c.in_ok-rules.rules c.args.agent = to_z-of_z w128 c.in_ok-sum.sum fits ∙ c.in_ok-sum.ensures.sum in
    told c.reduced.result
    (subst (IsFraction c.reduced.result (gain_of c.in_ok-part.part.diagram.nodes c.in_ok-rules.rules c.args.agent)) same
    (subst (λ n. IsFraction c.reduced.result n (c.mass_of-mass.result * c.scale.result)) sum c.reduced.ensures))
