use Rattle.std.proofs.Common.{◌≡◌, ◌∙◌, ◌<◌, ◌++◌, [], ◌∷◌, length, subst, sym, ap, arith}
use Rattle.std.proofs.lemmas.List.{length-map, map-append}
use Rattle.diagram_graph.specs.Cycles.{lists_in}
use Rattle.tree_checker.specs.Walks.{ListsFactors}
use Rattle.std.proofs.lemmas.Result.{err_from_is_err_and}
use Rattle.tree_checker.proofs.Grown.{at_end, below_end, each_more, one_more}
use Rattle.tree_checker.proofs.factors.all_factors.Goals as goal

pub returns-in_err-all : goal.returns-in_err-all
returns-in_err-all c = rw (err_from_is_err_and c.from_residual.result c.from_residual.ensures.1).1 tt

pub loop-v-init : goal.loop-v-init
loop-v-init c = record { count = ap length c.in_ok-all.ensures.items; lists_each = λ v l. absurd (omega (arith, l)) }

pub factors_of-requires-clause-node : goal.factors_of-requires-clause-node
factors_of-requires-clause-node c = below_end c.loop-v.v c.count-v-end.result (length c.args.diagram.now.nodes) c.loop-v-test.true c.count-v-end.ensures.count

pub factors_of-requires-clause-profile : goal.factors_of-requires-clause-profile
factors_of-requires-clause-profile c = c.requires

pub returns-in_err-factors_of : goal.returns-in_err-factors_of
returns-in_err-factors_of c = rw (err_from_is_err_and c.from_residual-in_err-factors_of.result c.from_residual-in_err-factors_of.ensures.1).1 tt

pub returns-in_err-push : goal.returns-in_err-push
returns-in_err-push c = rw (err_from_is_err_and c.from_residual-in_err-push.result c.from_residual-in_err-push.ensures.1).1 tt

pub loop-v-smaller : goal.loop-v-smaller
loop-v-smaller c = omega (arith, c.loop-v-test.true)

pub loop-v-preserved : goal.loop-v-preserved
loop-v-preserved c =
    let before = c.loop-v.all.items in
    let list = c.in_ok-factors_of.field-0 in
    let grown : lists_in c.push.new.self.items ≡ lists_in before ++ list.items ∷ [] = ap lists_in c.in_ok-push.ensures.items ∙ map-append (λ row. row.items) before (list ∷ []) in
    record {
      count = one_more before c.push.new.self.items list c.loop-v.v c.in_ok-push.ensures.items c.loop-v.invariant.count;
      lists_each = each_more (lists_in before) (lists_in c.push.new.self.items) list.items c.loop-v.v grown (length-map before (λ row. row.items) ∙ c.loop-v.invariant.count) (ListsFactors c.args.diagram.now.nodes c.args.profile.now c.args.left_out) [] c.loop-v.invariant.lists_each c.in_ok-factors_of.ensures;
    }

pub returns : goal.returns
returns c =
    let all : c.loop-v.v ≡ length c.args.diagram.now.nodes = at_end c.loop-v.v c.count-v-end.result (length c.args.diagram.now.nodes) c.loop-v-test.false c.loop-v.auto.v-end c.count-v-end.ensures.count in
    record {
      count = length-map c.loop-v.all.items (λ row. row.items) ∙ c.loop-v.invariant.count ∙ all;
      lists_each = λ v l. c.loop-v.invariant.lists_each v (subst (λ n. v < n) (sym all) l);
    }
