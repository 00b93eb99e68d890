-- The plan at each node is the one that is asked for, and each run leaves the workspaces as they
-- were.
use Rattle.evidence.specs.Sizes.{HasSpace}
use Rattle.evidence.specs.Plans.{IsPlanIf}
use Rattle.evidence.specs.Stakes.{IsWorthIf}
use Rattle.evidence.proofs.Listed.{at_more, long_more}
use Rattle.std.proofs.lemmas.List.{get_or_default}
use Rattle.std.proofs.Common.{◌≡◌, ◌∙◌, ◌+◌, ◌<◌, ℕ, ℤ, pos, List, None, ap, arith, length, refl, slice_index_or, subst, sym, to_z, of_z}
use Rattle.std.specs.Int.{w128}
use Rattle.std.proofs.lemmas.Int.{to_z-of_z}
use borrow.Author.Count.{falls}
use Rattle.std.proofs.lemmas.Result.{IfOk-from_err}
use Rattle.evidence.proofs.sums.list_worths.Goals as goal

pub returns-in_err-worths : goal.returns-in_err-worths
returns-in_err-worths c = IfOk-from_err _ _ c.from_residual.ensures.0

pub loop-v-init : goal.loop-v-init
loop-v-init c = (ap (λ l. length l) c.in_ok-worths.ensures.items, (λ u l. absurd (omega (arith, l))), refl)

pub bounds-plans-v : goal.bounds-plans-v
bounds-plans-v c = omega (arith, c.loop-v-test.true, c.count-v-end.ensures.count, c.requires.planned.count)

pub worth_or_none-worth-requires-clause-setting : goal.worth_or_none-worth-requires-clause-setting
worth_or_none-worth-requires-clause-setting c = c.requires.setting

pub worth_or_none-worth-requires-clause-within : goal.worth_or_none-worth-requires-clause-within
worth_or_none-worth-requires-clause-within c = subst (λ n. c.loop-v.v < n) c.count-v-end.ensures.count c.loop-v-test.true

pub worth_or_none-worth-requires-clause-planned : goal.worth_or_none-worth-requires-clause-planned
worth_or_none-worth-requires-clause-planned c =
    let within : c.loop-v.v < length c.args.diagram.now.nodes = subst (λ n. c.loop-v.v < n) c.count-v-end.ensures.count c.loop-v-test.true in
    subst (IsPlanIf c.args.diagram.now.nodes c.args.node c.loop-v.v) (sym (c.index-plans-v.is ∙ get_or_default c.args.plans.now c.loop-v.v c.index-plans-v.result None (omega (arith, within, c.requires.planned.count))))
    (c.requires.planned.each c.loop-v.v within)

pub worth_or_none-worth-requires-clause-ready : goal.worth_or_none-worth-requires-clause-ready
worth_or_none-worth-requires-clause-ready c = subst (HasSpace c.args.diagram.now.nodes c.args.node) (sym c.loop-v.invariant.2) c.requires.ready

pub worth_or_none-worth-requires-clause-totals : goal.worth_or_none-worth-requires-clause-totals
worth_or_none-worth-requires-clause-totals c = c.requires.totals

pub returns-in_err-push : goal.returns-in_err-push
returns-in_err-push c = IfOk-from_err _ _ c.from_residual-in_err-push.ensures.0

pub loop-v-smaller : goal.loop-v-smaller
loop-v-smaller c = falls _ _ c.loop-v-test.true

pub returns : goal.returns
returns c =
    let end : c.loop-v.v ≡ length c.args.diagram.now.nodes = omega (arith, c.loop-v-test.false, c.loop-v.auto.v-end, c.count-v-end.ensures.count) in
    record {
      count = c.loop-v.invariant.0 ∙ end;
      each = λ u l k. c.loop-v.invariant.1 u (omega (arith, l, end)) k;
    }

-- a worth more, and the workspaces are as they were
pub loop-v-preserved : goal.loop-v-preserved
loop-v-preserved c =
    let nodes = c.args.diagram.now.nodes in
    let before : List ℤ = c.loop-v.worths.items in
    let v = c.loop-v.v in
    let worth : ℤ = c.worth_or_none-worth.result in
    let Worth : ℕ → ℤ → Type 0 = IsWorthIf nodes c.args.profile.now c.args.node c.args.state in
    let count = c.loop-v.invariant.0 in
    let back : to_z w128 (of_z w128 worth) ≡ worth = to_z-of_z w128 worth (record { sfits = c.worth_or_none-worth.type_inv }) in
    let here : Worth v (to_z w128 (of_z w128 worth)) = subst (Worth v) (sym back) c.worth_or_none-worth.ensures.worth in (
      ap (λ (l : List ℤ). length l) c.in_ok-push.ensures.items ∙ long_more before (to_z w128 (of_z w128 worth)) ∙ ap (λ n. n + 1) count,
      λ u l. subst (λ (l : List ℤ). Worth u (slice_index_or l u (pos 0))) (sym c.in_ok-push.ensures.items)
          (at_more Worth before (to_z w128 (of_z w128 worth)) (pos 0) (λ k m. c.loop-v.invariant.1 k (omega (arith, m, count)))
          (λ n e. subst (λ k. Worth k (to_z w128 (of_z w128 worth))) (sym (e ∙ count)) here) u (omega (arith, l, count))),
      c.worth_or_none-worth.ensures.again ∙ c.loop-v.invariant.2,
    )
