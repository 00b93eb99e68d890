use Rattle.std.proofs.Common.{◌≡◌, ◌⊎◌, ◌∙◌, ◌<◌, ◌+◌, ◌++◌, ◌∷◌, ℕ, ℤ, List, pos, rules, arith, ap, false, get_or, inl, inr, length, refl, sym, subst, true, []}
use Rattle.std.specs.Global.{Vec}
use Rattle.std.specs.Int.{w128}
use Rattle.std.proofs.lemmas.Result.{IfOk-from_err}
use Rattle.std.proofs.lemmas.Int.{to_z-of_z}
use Rattle.maid_model.specs.declared.diagrams.Kind.{Kind}
use Rattle.maid_model.specs.declared.diagrams.Kind.TheVariants.{Chance, Decision, Utility}
use Rattle.maid_model.specs.Nodes.{IsOwnedBy, is_utility, node_at}
use Rattle.plan_sums.specs.Plans.{worth_plan}
use Rattle.size_precheck.specs.Sizes.{IsPlanned}
use Rattle.rule_solver.specs.Worths.{IsWorth}
use Rattle.rule_solver.proofs.ChoiceLemmas.{one_longer, worths-push}
use Rattle.rule_solver.proofs.WorthLemmas.{utilities_more, worth_place}
use Rattle.rule_solver.specs.Rooms.{IsEmptyWithin}
use Rattle.rule_solver.proofs.optima.list_worths_for.Goals as goal
use Rattle.rule_solver.proofs.optima.list_worths_for.Goals.{in-Utility+in_ok-push-in-Utility, in-Chance+in_ok-push-in-Chance}

-- the plan of this utility is there
pub bounds-plans-place : goal.bounds-plans-place
bounds-plans-place c =
    let nodes = c.args.diagram.now.nodes in
    let within : c.loop-v.v < length nodes = subst (λ n. c.loop-v.v < n) c.count-v-end.ensures.count c.loop-v-test.true in
    subst (λ n. n < length c.args.plans.now) (sym c.loop-v.invariant.2) (worth_place nodes c.loop-v.v c.args.plans.now (record { plan = worth_plan 0; steps = []; size = record { cells = 0; work = 0 } }) within (sym c.kind.ensures.kind ∙ c.in-Utility.is) c.requires.planned).0

pub offset_bounds-plans-place : goal.offset_bounds-plans-place
offset_bounds-plans-place c = let l = bounds-plans-place c in search rules

pub worth_for-worth-requires-clause-planned : goal.worth_for-worth-requires-clause-planned
worth_for-worth-requires-clause-planned c =
    let nodes = c.args.diagram.now.nodes in
    let within : c.loop-v.v < length nodes = subst (λ n. c.loop-v.v < n) c.count-v-end.ensures.count c.loop-v-test.true in
    let here = worth_place nodes c.loop-v.v c.args.plans.now c.index-plans-place.result within (sym c.kind.ensures.kind ∙ c.in-Utility.is) c.requires.planned in
    subst (IsPlanned nodes (worth_plan c.loop-v.v)) (sym (c.index-plans-place.is ∙ ap (λ n. get_or c.args.plans.now n c.index-plans-place.result) c.loop-v.invariant.2)) here.1

pub overflow_add-place : goal.overflow_add-place
overflow_add-place c =
    let nodes = c.args.diagram.now.nodes in
    let within : c.loop-v.v < length nodes = subst (λ n. c.loop-v.v < n) c.count-v-end.ensures.count c.loop-v-test.true in
    let l : c.loop-v.place < length c.args.plans.now = subst (λ n. n < length c.args.plans.now) (sym c.loop-v.invariant.2) (worth_place nodes c.loop-v.v c.args.plans.now c.index-plans-place.result within (sym c.kind.ensures.kind ∙ c.in-Utility.is) c.requires.planned).0 in
    search rules

no_utility : {k : Kind} → k ≡ Chance ⊎ k ≡ Decision → k ≡ Utility → ⊥
no_utility (inl e) f = cc
no_utility (inr e) f = cc

pub loop-v-preserved : goal.loop-v-preserved
loop-v-preserved c =
    let nodes = c.args.diagram.now.nodes in
    let P : ℕ → ℤ → Type 0 = (λ u z. (node_at nodes u).kind ≡ Utility → IsOwnedBy nodes u c.args.agent → IsWorth nodes c.args.profile.now u z) in
    elim c.match-kind.branch [
      | in-Utility+in_ok-push-in-Utility w ↦
          let more : c.match-kind.worths.items ≡ c.loop-v.worths.items ++ w.worth_for-worth.result ∷ [] =
          ap (λ (v : Vec ℤ). v.items) w.worths-is ∙ w.in_ok-push-in-Utility.ensures.items ∙ ap (λ z. c.loop-v.worths.items ++ z ∷ []) (to_z-of_z w128 w.worth_for-worth.result (record { sfits = w.worth_for-worth.type_inv })) in (
            one_longer c.loop-v.v c.loop-v.worths.items c.match-kind.worths.items w.worth_for-worth.result more c.loop-v.invariant.0,
            subst (λ (l : List ℤ). (u : ℕ) → u < c.loop-v.v + 1 → P u (get_or l u (pos 0))) (sym more) (worths-push P c.loop-v.v c.loop-v.worths.items w.worth_for-worth.result c.loop-v.invariant.0 c.loop-v.invariant.1 (λ k own. w.worth_for-worth.ensures.worth own)),
            w.place-is ∙ ap (λ n. n + 1) c.loop-v.invariant.2 ∙ sym (utilities_more nodes c.loop-v.v true (ap is_utility (sym c.kind.ensures.kind ∙ w.in-Utility.is))),
            w.small-is ∙ w.worth_for-worth.ensures.again.0 ∙ c.loop-v.invariant.3,
            w.wide-is ∙ w.worth_for-worth.ensures.again.1 ∙ c.loop-v.invariant.4,
          )
      | in-Chance+in_ok-push-in-Chance w ↦
          let more : c.match-kind.worths.items ≡ c.loop-v.worths.items ++ pos 0 ∷ [] = ap (λ (v : Vec ℤ). v.items) w.worths-is ∙ w.in_ok-push-in-Chance.ensures.items in (
            one_longer c.loop-v.v c.loop-v.worths.items c.match-kind.worths.items (pos 0) more c.loop-v.invariant.0,
            subst (λ (l : List ℤ). (u : ℕ) → u < c.loop-v.v + 1 → P u (get_or l u (pos 0))) (sym more) (worths-push P c.loop-v.v c.loop-v.worths.items (pos 0) c.loop-v.invariant.0 c.loop-v.invariant.1 (λ k own. absurd (no_utility w.in-Chance.is (c.kind.ensures.kind ∙ k)))),
            w.place-is ∙ c.loop-v.invariant.2 ∙ sym (utilities_more nodes c.loop-v.v false (elim w.in-Chance.is [ inl e ↦ ap is_utility (sym c.kind.ensures.kind ∙ e) | inr e ↦ ap is_utility (sym c.kind.ensures.kind ∙ e) ]) ∙ omega arith),
            w.small-is ∙ c.loop-v.invariant.3,
            w.wide-is ∙ c.loop-v.invariant.4,
          )
    ]

pub kind-requires : goal.kind-requires
kind-requires c = subst (λ n. c.loop-v.v < n) c.count-v-end.ensures.count c.loop-v-test.true

pub worth_for-worth-requires-clause-diagram : goal.worth_for-worth-requires-clause-diagram
worth_for-worth-requires-clause-diagram c = c.kind.ensures.diagram

pub worth_for-worth-requires-clause-within : goal.worth_for-worth-requires-clause-within
worth_for-worth-requires-clause-within c = subst (λ n. c.loop-v.v < n) c.count-v-end.ensures.count c.loop-v-test.true

pub worth_for-worth-requires-clause-kind : goal.worth_for-worth-requires-clause-kind
worth_for-worth-requires-clause-kind c = sym c.kind.ensures.kind ∙ c.in-Utility.is

pub worth_for-worth-requires-clause-profile : goal.worth_for-worth-requires-clause-profile
worth_for-worth-requires-clause-profile c = c.requires.profile

pub worth_for-worth-requires-clause-rules : goal.worth_for-worth-requires-clause-rules
worth_for-worth-requires-clause-rules c = c.requires.rules

pub worth_for-worth-requires-clause-bound : goal.worth_for-worth-requires-clause-bound
worth_for-worth-requires-clause-bound c = c.requires.bound

pub worth_for-worth-requires-clause-totals : goal.worth_for-worth-requires-clause-totals
worth_for-worth-requires-clause-totals c = c.requires.totals

pub worth_for-worth-requires-clause-ready : goal.worth_for-worth-requires-clause-ready
worth_for-worth-requires-clause-ready c = (
  c.requires.ready.0,
  subst (λ work. IsEmptyWithin c.requires.ready.0 work) (sym c.loop-v.invariant.3) c.requires.ready.1,
  subst (λ work. IsEmptyWithin c.requires.ready.0 work) (sym c.loop-v.invariant.4) c.requires.ready.2,
  c.requires.ready.3 c.loop-v.v (subst (λ n. c.loop-v.v < n) c.count-v-end.ensures.count c.loop-v-test.true) (sym c.kind.ensures.kind ∙ c.in-Utility.is),
)

pub returns-clause-again : goal.returns-clause-again
returns-clause-again c = (c.loop-v.invariant.3, c.loop-v.invariant.4)

pub loop-v-init : goal.loop-v-init
loop-v-init c = (ap (λ (l : List ℤ). length l) c.in_ok-worths.ensures.items, λ u h. absurd (omega (arith, h)), refl, refl, refl)

pub returns-in_err-push-in-Chance : goal.returns-in_err-push-in-Chance
returns-in_err-push-in-Chance c = let e = c.from_residual-in_err-push-in-Chance.ensures.0 in record { worths = IfOk-from_err _ _ e; again = IfOk-from_err _ _ e }

pub returns-clause-worths : goal.returns-clause-worths
returns-clause-worths c = record {
  count = omega (arith, c.loop-v.invariant.0, c.loop-v-test.false, c.loop-v.auto.v-end, c.count-v-end.ensures.count);
  each = λ u h. c.loop-v.invariant.1 u (omega (arith, h, c.loop-v-test.false, c.count-v-end.ensures.count));
}
