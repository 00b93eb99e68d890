use Rattle.std.proofs.Common.{◌≡◌, ◌∙◌, ◌≤◌, ◌+◌, ◌+ℤ◌, nat_abs, sym, subst, ap, arith, rules, length, FitsSigned, to_z, of_z}
use Rattle.std.specs.Int.{w128}
use Rattle.std.specs.List.{range_with_len}
use Rattle.std.proofs.lemmas.Int.{to_z-of_z}
use Rattle.finite_sums.specs.Sums.{sum_each}
use Rattle.maid_model.specs.Diagrams.{greatest_number}
use Rattle.scope_sums.proofs.Shares.{fits_number, sum_next}
use Rattle.evidence.specs.Stakes.{share_given}
use Rattle.evidence.proofs.StakeLemmas.{sum_small}
use Rattle.evidence.proofs.stakes.Stake.gain.Goals as goal
use Rattle.evidence.proofs.stakes.Stake.gain.Goals.{After-given_by-gain}

-- what the nodes up to this one give
next : (c : After-given_by-gain) → to_z w128 c.loop-v.gain-bits +ℤ to_z w128 (of_z w128 c.given_by-gain.result)
    ≡ sum_each (share_given c.args.self.now.diagram.now.nodes c.args.self.now.node c.args.self.now.agent c.args.self.now.worths.now) (range_with_len 0 (c.loop-v.v + 1))
next c =
    let s = c.args.self.now in
    let fits : FitsSigned w128 c.given_by-gain.result = search rules in
    sum_next (share_given s.diagram.now.nodes s.node s.agent s.worths.now) c.loop-v.v (to_z w128 c.loop-v.gain-bits) c.given_by-gain.result c.loop-v.invariant fits c.given_by-gain.ensures

next_fits : (c : After-given_by-gain) → FitsSigned w128 (to_z w128 c.loop-v.gain-bits +ℤ to_z w128 (of_z w128 c.given_by-gain.result))
next_fits c =
    let s = c.args.self.now in
    let below : c.loop-v.v + 1 ≤ length s.diagram.now.nodes = let l = c.loop-v-test.true in let e = c.count-v-end.ensures.count in omega arith in
    subst (FitsSigned w128) (sym (next c)) (fits_number _ (sum_small s.diagram.now s.node s.agent s.mass s.worths.now s.scope c.requires.stake (c.loop-v.v + 1) below))

pub overflow_add-gain : goal.overflow_add-gain
overflow_add-gain c = next_fits c

pub loop-v-preserved : goal.loop-v-preserved
loop-v-preserved c = to_z-of_z w128 _ (next_fits c) ∙ next c

pub returns-clause-gain : goal.returns-clause-gain
returns-clause-gain c =
    let s = c.args.self.now in
    let all : c.loop-v.v ≡ length s.diagram.now.nodes = let l = c.loop-v-test.false in let k = c.loop-v.auto.v-end in let e = c.count-v-end.ensures.count in omega arith in
    c.loop-v.invariant ∙ ap (λ n. sum_each (share_given s.diagram.now.nodes s.node s.agent s.worths.now) (range_with_len 0 n)) all

pub returns-clause-small : goal.returns-clause-small
returns-clause-small c =
    let s = c.args.self.now in
    let within : c.loop-v.v ≤ length s.diagram.now.nodes = let l = c.loop-v-test.false in let k = c.loop-v.auto.v-end in let e = c.count-v-end.ensures.count in omega arith in
    subst (λ z. nat_abs z ≤ greatest_number) (sym c.loop-v.invariant) (sum_small s.diagram.now s.node s.agent s.mass s.worths.now s.scope c.requires.stake c.loop-v.v within)
