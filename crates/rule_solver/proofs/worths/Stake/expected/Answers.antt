use Rattle.std.proofs.Common.{◌≡◌, ◌∙◌, ◌≤◌, ◌<◌, ◌*◌, ◌^◌, sym, subst, arith, FitsSigned}
use Rattle.std.specs.Int.{w128}
use Rattle.std.proofs.lemmas.Int.{to_z-of_z}
use Rattle.std.proofs.Math.Nat.{mul-pos}
use Rattle.maid_model.specs.Answers.{IsFraction}
use Rattle.maid_model.specs.Diagrams.{greatest_number}
use Rattle.rule_solver.specs.Totals.{product_in}
use Rattle.rule_solver.proofs.StakeLemmas.{product_small, scaled_small, scope_total, total_positive, whole_fraction}
use Rattle.rule_solver.proofs.worths.Stake.expected.Goals as goal

pub product_in-mass-requires-clause-fits : goal.product_in-mass-requires-clause-fits
product_in-mass-requires-clause-fits c =
    let s = c.args.self.now in
    subst (λ n. n ≤ greatest_number) (sym (scope_total s.diagram.now s.profile.now s.agent s.totals.now s.worths.now s.scope c.requires.stake)) (product_small s.diagram.now s.profile.now s.agent s.totals.now s.worths.now s.scope c.requires.stake)

pub overflow_mul-mass : goal.overflow_mul-mass
overflow_mul-mass c =
    let s = c.args.self.now in
    let small : c.product_in-mass.result * c.scale.result ≤ greatest_number =
    subst (λ n. n ≤ greatest_number) (sym (λ i. c.product_in-mass.ensures i * c.scale.ensures.scale i)) (scaled_small s.diagram.now s.profile.now s.agent s.totals.now s.worths.now s.scope c.requires.stake) in
    omega (arith, small)

pub reduced-requires-clause-den : goal.reduced-requires-clause-den
reduced-requires-clause-den c =
    let s = c.args.self.now in
    mul-pos (subst (λ n. 0 < n) (sym c.product_in-mass.ensures) (total_positive s.diagram.now s.profile.now s.agent s.totals.now s.worths.now s.scope c.requires.stake)) c.scale.ensures.some

pub returns : goal.returns
returns c =
    let s = c.args.self.now in
    let fits : FitsSigned w128 c.gain.result = record { sfits = c.gain.type_inv } in
    let den : c.product_in-mass.result * c.scale.result ≡ product_in s.totals.now s.scope * 10 ^ s.diagram.now.decimals = (λ i. c.product_in-mass.ensures i * c.scale.ensures.scale i) in
    whole_fraction s.diagram.now s.profile.now s.agent s.totals.now s.worths.now s.scope c.requires.stake c.plans_sum_scopes.ensures.mass c.scopes_are_parts.ensures.agents c.parts_decide.ensures.worths c.reduced.result
    (subst (λ n. IsFraction c.reduced.result n (product_in s.totals.now s.scope * 10 ^ s.diagram.now.decimals)) (to_z-of_z w128 c.gain.result fits ∙ c.gain.ensures.gain)
    (subst (IsFraction c.reduced.result _) den c.reduced.ensures))
