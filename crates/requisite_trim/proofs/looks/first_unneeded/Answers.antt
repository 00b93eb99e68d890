use Rattle.std.proofs.Common.{◌≡◌, ◌∙◌, ℕ, length, get_or, sym, arith, eqb-true}
use Rattle.std.proofs.lemmas.Bool.{false≢true}
use Rattle.std.proofs.lemmas.List.Elements.{Contains-get_or}
use Rattle.maid_model.specs.Relevance.{IsRequisite}
use Rattle.requisite_trim.proofs.Looking.{below_more, first_at, all_seen}
use Rattle.requisite_trim.proofs.Requisites.{goal_reached, requisites_told}
use Rattle.requisite_trim.proofs.looks.first_unneeded.Goals as goal

pub returns-then-is_empty : goal.returns-then-is_empty
returns-then-is_empty c =
    let none : length c.parents.result.now ≡ 0 = eqb-true (length c.parents.result.now) 0 (sym c.is_empty.ensures ∙ c.if-is_empty.true) in
    all_seen c.args.diagram.now.nodes c.args.decision c.parents.result.now c.parents.ensures.parents 0 (omega (arith, none)) (λ k l. absurd (omega (arith, l)))

pub parents-requires-2 : goal.parents-requires-2
parents-requires-2 c = let l = c.requires.within in let m = c.arcs.ensures.diagram.limits.nodes in omega (arith, l, m)

pub returns-then-all_reach_goals : goal.returns-then-all_reach_goals
returns-then-all_reach_goals c x arc =
    let seen = (c.parents-2.ensures x).1 ((c.arcs.ensures.parents x c.args.decision).1 arc) in
    (goal_reached c.args.diagram.now.nodes c.args.decision x).0 (c.all_reach_goals.ensures.0 c.if-all_reach_goals.true x seen)

pub reached-requires : goal.reached-requires
reached-requires c =
    let l = c.parents-parent-items.ensures.known _ (Contains-get_or _ _ 0 c.loop-parent-test.true) in
    let m = c.parents-parent-items.ensures.diagram.limits.nodes in omega (arith, l, m)

pub returns-then-not-reached : goal.returns-then-not-reached
returns-then-not-reached c =
    let items = c.parents-parent-items.result.now in
    let tells = requisites_told c.args.diagram.now.nodes c.args.decision _ c.reach_from_goals-marks.ensures (get_or items c.loop-parent.parent-index 0) (c.parents-parent-items.ensures.known _ (Contains-get_or _ _ 0 c.loop-parent-test.true)) in
    first_at c.args.diagram.now.nodes c.args.decision items c.parents-parent-items.ensures.parents c.loop-parent.parent-index c.loop-parent-test.true
    (λ r. false≢true (sym c.if-not-reached.true ∙ c.reached.ensures.1 (tells.1 r))) c.loop-parent.invariant

pub loop-parent-preserved : goal.loop-parent-preserved
loop-parent-preserved c =
    let items = c.parents-parent-items.result.now in
    let tells = requisites_told c.args.diagram.now.nodes c.args.decision _ c.reach_from_goals-marks.ensures (get_or items c.loop-parent.parent-index 0) (c.parents-parent-items.ensures.known _ (Contains-get_or _ _ 0 c.loop-parent-test.true)) in
    below_more (λ (k : ℕ). IsRequisite c.args.diagram.now.nodes c.args.decision (get_or items k 0)) c.loop-parent.parent-index c.loop-parent.invariant (tells.0 (c.reached.ensures.0 c.if-not-reached.false))

pub returns : goal.returns
returns c = all_seen c.args.diagram.now.nodes c.args.decision c.parents-parent-items.result.now c.parents-parent-items.ensures.parents c.loop-parent.parent-index (omega (arith, c.loop-parent-test.false)) c.loop-parent.invariant
