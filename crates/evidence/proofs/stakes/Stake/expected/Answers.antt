use Rattle.std.proofs.Common.{◌≡◌, ◌∙◌, ◌≤◌, ◌<◌, ◌*◌, ◌^◌, sym, subst, arith, rules, FitsSigned}
use Rattle.std.specs.Int.{w128}
use Rattle.std.proofs.lemmas.Int.{to_z-of_z}
use Rattle.std.proofs.Math.Nat.{mul-pos}
use Rattle.maid_model.specs.Answers.{IsFraction}
use Rattle.maid_model.specs.Diagrams.{greatest_number}
use Rattle.evidence.specs.Stakes.{scope_mass_given}
use Rattle.evidence.proofs.StakeLemmas.{mass_positive, scaled_small}
use Rattle.evidence.proofs.stakes.Stake.expected.Goals as goal

pub overflow_mul-mass : goal.overflow_mul-mass
overflow_mul-mass c =
    let s = c.args.self.now in
    let small : c.mass-mass.result * c.scale.result ≤ greatest_number =
    subst (λ n. n ≤ greatest_number) (sym (λ i. c.mass-mass.ensures i * c.scale.ensures.scale i)) (scaled_small s.diagram.now s.node s.agent s.mass s.worths.now s.scope c.requires.stake) in
    omega (arith, small)

pub reduced-requires-clause-den : goal.reduced-requires-clause-den
reduced-requires-clause-den c =
    let s = c.args.self.now in
    mul-pos (subst (λ n. 0 < n) (sym c.mass-mass.ensures) (mass_positive s.diagram.now s.node s.agent s.mass s.worths.now s.scope c.requires.stake)) c.scale.ensures.some

pub returns : goal.returns
returns c =
    let s = c.args.self.now in
    let fits : FitsSigned w128 c.gain.result = search rules in
    let den : c.mass-mass.result * c.scale.result ≡ scope_mass_given s.diagram.now.nodes s.node s.agent s.mass * 10 ^ s.diagram.now.decimals = (λ i. c.mass-mass.ensures i * c.scale.ensures.scale i) in
    subst (λ n. IsFraction c.reduced.result n (scope_mass_given s.diagram.now.nodes s.node s.agent s.mass * 10 ^ s.diagram.now.decimals)) (to_z-of_z w128 c.gain.result fits ∙ c.gain.ensures.gain)
    (subst (IsFraction c.reduced.result _) den c.reduced.ensures)
