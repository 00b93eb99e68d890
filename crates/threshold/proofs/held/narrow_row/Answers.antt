use Rattle.std.proofs.Common.{◌<◌, ℕ, sym, subst, arith, FitsSigned}
use Rattle.std.specs.Int.{w128}
use Rattle.std.proofs.lemmas.Int.{to_z-of_z}
use Rattle.threshold.specs.Held.{HoldsSomewhere, IsNotBelow, Narrows, lead_in}
use Rattle.threshold.proofs.Narrowing.{narrows_more, narrows_none}
use Rattle.threshold.proofs.held.narrow_row.Goals as goal

pub narrow-held-requires-clause-somewhere : goal.narrow-held-requires-clause-somewhere
narrow-held-requires-clause-somewhere c =
    let w = c.requires.somewhere in
    let fits : FitsSigned w128 c.lead.result = record { sfits = c.lead.type_inv } in
    let fits_one : FitsSigned w128 c.lead-in-loop-state.result = record { sfits = c.lead-in-loop-state.type_inv } in
    let some : HoldsSomewhere (IsNotBelow c.lead.result c.lead-in-loop-state.result) =
    subst (λ z. HoldsSomewhere (IsNotBelow z c.lead-in-loop-state.result)) (sym c.lead.ensures.lead) (subst (λ z. HoldsSomewhere (IsNotBelow (lead_in c.args.nought.now c.args.states c.args.choice c.loop-state.state c.args.line) z)) (sym c.lead-in-loop-state.ensures.lead)
    (record { num = w.num; den = w.den; positive = w.positive; at_most = w.at_most; holds = w.holds c.loop-state.state c.loop-state-test.true })) in
    simp to_z-of_z some

pub loop-state-preserved : goal.loop-state-preserved
loop-state-preserved c =
    let fits : FitsSigned w128 c.lead.result = record { sfits = c.lead.type_inv } in
    let fits_one : FitsSigned w128 c.lead-in-loop-state.result = record { sfits = c.lead-in-loop-state.type_inv } in
    let step : Narrows (IsNotBelow c.lead.result c.lead-in-loop-state.result) c.loop-state.held c.narrow-held.result = simp to_z-of_z at c.narrow-held.ensures in
    narrows_more (λ s. IsNotBelow (lead_in c.args.nought.now c.args.states c.args.choice s c.args.line) (lead_in c.args.one.now c.args.states c.args.choice s c.args.line)) c.loop-state.state c.args.held c.loop-state.held c.narrow-held.result c.loop-state.invariant
    (subst (λ z. Narrows (IsNotBelow z (lead_in c.args.one.now c.args.states c.args.choice c.loop-state.state c.args.line)) c.loop-state.held c.narrow-held.result) c.lead.ensures.lead
    (subst (λ z. Narrows (IsNotBelow c.lead.result z) c.loop-state.held c.narrow-held.result) c.lead-in-loop-state.ensures.lead step))

pub returns : goal.returns
returns c =
    let t = c.loop-state-test.false in
    let end = c.loop-state.auto.state-end in
    subst (λ n. Narrows (λ num den. (s : ℕ) → s < n → IsNotBelow (lead_in c.args.nought.now c.args.states c.args.choice s c.args.line) (lead_in c.args.one.now c.args.states c.args.choice s c.args.line) num den) c.args.held c.loop-state.held) (omega arith) c.loop-state.invariant

pub loop-state-init : goal.loop-state-init
loop-state-init c = narrows_none (λ s. IsNotBelow (lead_in c.args.nought.now c.args.states c.args.choice s c.args.line) (lead_in c.args.one.now c.args.states c.args.choice s c.args.line)) c.args.held c.requires.range
