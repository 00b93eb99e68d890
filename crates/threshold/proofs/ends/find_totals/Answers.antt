use Rattle.std.proofs.Common.{◌≡◌, ◌∙◌, ℕ, ◌-◌, ◌≤◌, inl, inr, refl, ap, sym, subst, ℤ, pos, nat_abs, ◌≤ℤ◌, arith}
use Rattle.std.proofs.lemmas.Int.{ints}
use Rattle.maid_model.specs.Tables.{chance_total}
use Rattle.reach_laws.specs.Threshold.{state_weight, others_weight}
use Rattle.whole_num.specs.Divisors.{IsLcm}
use Rattle.threshold.proofs.Tables.{all_weight, others_nought, others_are, weight_at_most}
use Rattle.threshold.proofs.ends.find_totals.Goals as goal

nat_le : (w n : ℕ) (z : ℤ) → pos w ≡ z → z ≤ℤ pos n → w ≤ n
nat_le w n z e l = omega (arith, ints)

nat_of : (w n : ℕ) → pos w ≡ pos n → w ≡ n
nat_of w n e = omega (arith, ints)

-- the common total, over the numbers that the diagram has
lcm_there : (a b n l : ℕ) (z : ℤ) → a ≡ n → pos b ≡ z → IsLcm a b l → IsLcm n (nat_abs z) l
lcm_there a b n l z e f h = subst (λ k. IsLcm k (nat_abs z) l) e (subst (λ k. IsLcm a k l) (ap nat_abs f) h)

pub returns-then-weight-table-clause-refused : goal.returns-then-weight-table-clause-refused
returns-then-weight-table-clause-refused c =
    inl (others_nought c.args.diagram.now.nodes c.args.place c.weight_there-weight.ensures.diagram.tables c.requires (sym c.weight_there-weight.ensures.weight ∙ ap pos (c.if-weight-table.true ∙ c.weight_total-table.ensures)), refl)

pub overflow_sub-others : goal.overflow_sub-others
overflow_sub-others c =
    nat_le c.weight_there-weight.result c.weight_total-table.result (state_weight c.args.diagram.now.nodes c.args.place.node c.args.place.state c.args.place.row) c.weight_there-weight.ensures.weight
    (subst (λ n. state_weight c.args.diagram.now.nodes c.args.place.node c.args.place.state c.args.place.row ≤ℤ pos n) (sym c.weight_total-table.ensures) (weight_at_most c.args.diagram.now.nodes c.args.place c.weight_there-weight.ensures.diagram.tables c.requires))

pub lcm_within-requires-clause-b_positive : goal.lcm_within-requires-clause-b_positive
lcm_within-requires-clause-b_positive c =
    let h = (others_are c.args.diagram.now.nodes c.args.place c.weight_there-weight.ensures.diagram.tables c.requires c.weight_there-weight.result c.weight_there-weight.ensures.weight (λ e. c.if-weight-table.false (e ∙ sym c.weight_total-table.ensures))).0 in
    let k = c.weight_total-table.ensures in
    omega arith

pub returns-in-Some-clause-totals : goal.returns-in-Some-clause-totals
returns-in-Some-clause-totals c =
    let h = others_are c.args.diagram.now.nodes c.args.place c.weight_there-weight.ensures.diagram.tables c.requires c.weight_there-weight.result c.weight_there-weight.ensures.weight (λ e. c.if-weight-table.false (e ∙ sym c.weight_total-table.ensures)) in
    let others : pos (c.weight_total-table.result - c.weight_there-weight.result) ≡ others_weight c.args.diagram.now.nodes c.args.place.node c.args.place.state c.args.place.row = ap (λ n. pos (n - c.weight_there-weight.result)) c.weight_total-table.ensures ∙ h.1 in
    record {
      table = c.weight_total-table.ensures;
      others = others;
      some = (let l = h.0 in let k = c.weight_total-table.ensures in omega arith);
      common = lcm_there c.weight_total-table.result (c.weight_total-table.result - c.weight_there-weight.result) (chance_total c.args.diagram.now.nodes c.args.place.node) c.in-Some.common (others_weight c.args.diagram.now.nodes c.args.place.node c.args.place.state c.args.place.row) c.weight_total-table.ensures others c.in-Some.ensures.some.0;
      positive = c.in-Some.ensures.some.1;
      small = c.in-Some.ensures.some.2;
    }

pub returns-in-None-clause-refused : goal.returns-in-None-clause-refused
returns-in-None-clause-refused c =
    let h = others_are c.args.diagram.now.nodes c.args.place c.weight_there-weight.ensures.diagram.tables c.requires c.weight_there-weight.result c.weight_there-weight.ensures.weight (λ e. c.if-weight-table.false (e ∙ sym c.weight_total-table.ensures)) in
    let others : pos (c.weight_total-table.result - c.weight_there-weight.result) ≡ others_weight c.args.diagram.now.nodes c.args.place.node c.args.place.state c.args.place.row = ap (λ n. pos (n - c.weight_there-weight.result)) c.weight_total-table.ensures ∙ h.1 in
    let over = c.in-None.ensures.none in
    inr (
      (λ none. c.if-weight-table.false (nat_of c.weight_there-weight.result c.weight_total-table.result (c.weight_there-weight.ensures.weight ∙ all_weight c.args.diagram.now.nodes c.args.place c.weight_there-weight.ensures.diagram.tables c.requires none ∙ ap pos (sym c.weight_total-table.ensures)))),
      (over.0, lcm_there c.weight_total-table.result (c.weight_total-table.result - c.weight_there-weight.result) (chance_total c.args.diagram.now.nodes c.args.place.node) over.0 (others_weight c.args.diagram.now.nodes c.args.place.node c.args.place.state c.args.place.row) c.weight_total-table.ensures others over.1, inl (over.2, refl)),
    )
