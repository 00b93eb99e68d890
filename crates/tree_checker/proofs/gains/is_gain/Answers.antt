use Rattle.std.proofs.Common.{◌≡◌, ◌∙◌, ◌*◌, ◌^◌, ◌<◌, ℕ, List, ap, sym, subst, rules, arith, FitsSigned, to_z, of_z}
use Rattle.std.proofs.lemmas.Int.{to_z-of_z}
use Rattle.std.specs.Int.{w128}
use Rattle.std.specs.Prelude.{Contains}
use Rattle.maid_model.specs.Diagrams.{IsDiagram}
use Rattle.maid_model.specs.Gains.{gain_of, mass}
use Rattle.maid_model.specs.Answers.{IsFraction}
use Rattle.maid_model.specs.Parts.{part_diagram, rules_in, with_ancestors}
use Rattle.maid_model.specs.Profiles.{IsProfile}
use Rattle.maid_model.specs.Scopes.{KeepsScopedBounds, utilities_for}
use Rattle.maid_model.specs.Views.{DiagramView, RuleView}
use Rattle.maid_laws.proofs.Members.{among_of}
use Rattle.part_laws.specs.ScopeLaws.{HasUnitRules}
use Rattle.part_laws.proofs.ScopeLaws.{utilities_inside}
use Rattle.tree_checker.proofs.AgentParts.{IsPlayed, IsRuledPartFor, can_weigh, mass_fits, scaled_fits, scaled_positive, same_worth}
use Rattle.tree_checker.proofs.WalkOpened.{small_fits}
use Rattle.tree_checker.proofs.gains.is_gain.Goals as goal

played : (d : DiagramView) (p : List RuleView) (agent : ℕ) → IsDiagram d → KeepsScopedBounds d → IsProfile d.nodes p → HasUnitRules d.nodes p → agent < d.agents → IsPlayed d p agent
played d p agent is bound profile unit within = record { graph = is.graph; tables = is.tables; bound = bound; profile = profile; unit = unit; within = within }

ruled : (d : DiagramView) (p : List RuleView) (agent : ℕ) (of : List ℕ) (part : DiagramView) (rules : List RuleView) → of ≡ utilities_for d.nodes agent → part ≡ part_diagram d (with_ancestors d.nodes of) → rules ≡ rules_in d.nodes p (with_ancestors d.nodes of) → IsRuledPartFor d p agent part rules
ruled d p agent of part rules e a b = record { part_is = a ∙ ap (λ l. part_diagram d (with_ancestors d.nodes l)) e; rules_are = b ∙ ap (λ l. rules_in d.nodes p (with_ancestors d.nodes l)) e }

pub ruled_part-requires-clause-of : goal.ruled_part-requires-clause-of
ruled_part-requires-clause-of c v m =
    utilities_inside c.args.diagram.now.nodes c.count-count.ensures.diagram.graph c.args.agent v (among_of v (utilities_for c.args.diagram.now.nodes c.args.agent) (subst (λ l. Contains l v) (c.deref.ensures.value ∙ c.in_ok-utilities.ensures) m))

pub gain_over-requires-clause-profile : goal.gain_over-requires-clause-profile
gain_over-requires-clause-profile c =
    (can_weigh c.args.diagram.now c.args.chosen.now c.args.agent (played c.args.diagram.now c.args.chosen.now c.args.agent c.count-count.ensures.diagram c.requires.bound c.requires.chosen c.requires.pure c.requires.agent) c.in_ok-ruled.ruled.part.diagram c.in_ok-ruled.ruled.rules
    (ruled c.args.diagram.now c.args.chosen.now c.args.agent c.deref.result.now c.in_ok-ruled.ruled.part.diagram c.in_ok-ruled.ruled.rules (c.deref.ensures.value ∙ c.in_ok-utilities.ensures) c.in_ok-ruled.ensures.diagram c.in_ok-ruled.ensures.rules)).profile

pub gain_over-requires-clause-fits : goal.gain_over-requires-clause-fits
gain_over-requires-clause-fits c =
    (can_weigh c.args.diagram.now c.args.chosen.now c.args.agent (played c.args.diagram.now c.args.chosen.now c.args.agent c.count-count.ensures.diagram c.requires.bound c.requires.chosen c.requires.pure c.requires.agent) c.in_ok-ruled.ruled.part.diagram c.in_ok-ruled.ruled.rules
    (ruled c.args.diagram.now c.args.chosen.now c.args.agent c.deref.result.now c.in_ok-ruled.ruled.part.diagram c.in_ok-ruled.ruled.rules (c.deref.ensures.value ∙ c.in_ok-utilities.ensures) c.in_ok-ruled.ensures.diagram c.in_ok-ruled.ensures.rules)).fits

pub mass_of-mass-requires-clause-profile : goal.mass_of-mass-requires-clause-profile
mass_of-mass-requires-clause-profile c =
    (can_weigh c.args.diagram.now c.args.chosen.now c.args.agent (played c.args.diagram.now c.args.chosen.now c.args.agent c.count-count.ensures.diagram c.requires.bound c.requires.chosen c.requires.pure c.requires.agent) c.in_ok-ruled.ruled.part.diagram c.in_ok-ruled.ruled.rules
    (ruled c.args.diagram.now c.args.chosen.now c.args.agent c.deref.result.now c.in_ok-ruled.ruled.part.diagram c.in_ok-ruled.ruled.rules (c.deref.ensures.value ∙ c.in_ok-utilities.ensures) c.in_ok-ruled.ensures.diagram c.in_ok-ruled.ensures.rules)).profile

pub mass_of-mass-requires-clause-fits : goal.mass_of-mass-requires-clause-fits
mass_of-mass-requires-clause-fits c =
    mass_fits c.args.diagram.now c.args.chosen.now c.args.agent (played c.args.diagram.now c.args.chosen.now c.args.agent c.count-count.ensures.diagram c.requires.bound c.requires.chosen c.requires.pure c.requires.agent) c.in_ok-ruled.ruled.part.diagram c.in_ok-ruled.ruled.rules
    (ruled c.args.diagram.now c.args.chosen.now c.args.agent c.deref.result.now c.in_ok-ruled.ruled.part.diagram c.in_ok-ruled.ruled.rules (c.deref.ensures.value ∙ c.in_ok-utilities.ensures) c.in_ok-ruled.ensures.diagram c.in_ok-ruled.ensures.rules)

pub overflow_mul-mass : goal.overflow_mul-mass
overflow_mul-mass c =
    let small = scaled_fits c.args.diagram.now c.args.chosen.now c.args.agent (played c.args.diagram.now c.args.chosen.now c.args.agent c.count-count.ensures.diagram c.requires.bound c.requires.chosen c.requires.pure c.requires.agent) c.in_ok-ruled.ruled.part.diagram c.in_ok-ruled.ruled.rules
    (ruled c.args.diagram.now c.args.chosen.now c.args.agent c.deref.result.now c.in_ok-ruled.ruled.part.diagram c.in_ok-ruled.ruled.rules (c.deref.ensures.value ∙ c.in_ok-utilities.ensures) c.in_ok-ruled.ensures.diagram c.in_ok-ruled.ensures.rules) in
    let same : c.mass_of-mass.result * c.scale.result ≡ mass c.in_ok-ruled.ruled.part.diagram.nodes c.in_ok-ruled.ruled.rules * 10 ^ c.args.diagram.now.decimals = (λ i. c.mass_of-mass.ensures i * c.scale.ensures.scale i) in
    omega (arith, small, same)

pub is_fraction-requires-clause-den : goal.is_fraction-requires-clause-den
is_fraction-requires-clause-den c =
    subst (λ n. 0 < n) (λ i. sym c.mass_of-mass.ensures i * sym c.scale.ensures.scale i)
    (scaled_positive c.args.diagram.now c.args.chosen.now c.args.agent (played c.args.diagram.now c.args.chosen.now c.args.agent c.count-count.ensures.diagram c.requires.bound c.requires.chosen c.requires.pure c.requires.agent) c.in_ok-ruled.ruled.part.diagram c.in_ok-ruled.ruled.rules
    (ruled c.args.diagram.now c.args.chosen.now c.args.agent c.deref.result.now c.in_ok-ruled.ruled.part.diagram c.in_ok-ruled.ruled.rules (c.deref.ensures.value ∙ c.in_ok-utilities.ensures) c.in_ok-ruled.ensures.diagram c.in_ok-ruled.ensures.rules))

pub returns : goal.returns
returns c =
    let told = same_worth c.args.diagram.now c.args.chosen.now c.args.agent (played c.args.diagram.now c.args.chosen.now c.args.agent c.count-count.ensures.diagram c.requires.bound c.requires.chosen c.requires.pure c.requires.agent) c.in_ok-ruled.ruled.part.diagram c.in_ok-ruled.ruled.rules
    (ruled c.args.diagram.now c.args.chosen.now c.args.agent c.deref.result.now c.in_ok-ruled.ruled.part.diagram c.in_ok-ruled.ruled.rules (c.deref.ensures.value ∙ c.in_ok-utilities.ensures) c.in_ok-ruled.ensures.diagram c.in_ok-ruled.ensures.rules) c.args.gain.now in
    let same : c.mass_of-mass.result * c.scale.result ≡ mass c.in_ok-ruled.ruled.part.diagram.nodes c.in_ok-ruled.ruled.rules * 10 ^ c.args.diagram.now.decimals = (λ i. c.mass_of-mass.ensures i * c.scale.ensures.scale i) in
    let fits : FitsSigned w128 c.in_ok-sum.sum = small_fits c.in_ok-sum.sum c.in_ok-sum.ensures.small in
    let sum : to_z w128 (of_z w128 c.in_ok-sum.sum) ≡ gain_of c.in_ok-ruled.ruled.part.diagram.nodes c.in_ok-ruled.ruled.rules c.args.agent = to_z-of_z w128 c.in_ok-sum.sum fits ∙ c.in_ok-sum.ensures.sum in (
      λ t. told.0 (subst (IsFraction c.args.gain.now (gain_of c.in_ok-ruled.ruled.part.diagram.nodes c.in_ok-ruled.ruled.rules c.args.agent)) same (subst (λ n. IsFraction c.args.gain.now n (c.mass_of-mass.result * c.scale.result)) sum (c.is_fraction.ensures.0 t))),
      λ e. c.is_fraction.ensures.1 (subst (λ n. IsFraction c.args.gain.now n (c.mass_of-mass.result * c.scale.result)) (sym sum) (subst (IsFraction c.args.gain.now (gain_of c.in_ok-ruled.ruled.part.diagram.nodes c.in_ok-ruled.ruled.rules c.args.agent)) (sym same) (told.1 e))),
    )
