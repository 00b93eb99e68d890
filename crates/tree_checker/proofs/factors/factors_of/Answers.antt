use Rattle.std.proofs.Common.{◌≡◌, ◌∙◌, ◌*◌, ◌<◌, ◌==◌, cond, length, pos, subst, sym, ap, arith}
use Rattle.maid_laws.proofs.Basis.{table_same}
use Rattle.maid_model.specs.Nodes.{node_at, rows_of, states_of}
use Rattle.maid_model.specs.Tables.{weights_of}
use Rattle.tree_checker.specs.Walks.{factor_at}
use Rattle.std.proofs.lemmas.Result.{err_from_is_err_and}
use Rattle.tree_checker.proofs.Grown.{at_end, each_more, one_more}
use Rattle.tree_checker.proofs.factors.factors_of.Goals as goal

pub returns-in_err-list : goal.returns-in_err-list
returns-in_err-list c = rw (err_from_is_err_and c.from_residual.result c.from_residual.ensures.1).1 tt

pub loop-cell-init : goal.loop-cell-init
loop-cell-init c = record { count = ap length c.in_ok-list.ensures.items; factor = λ v l. absurd (omega (arith, l)) }

pub factor_of-requires-clause-node : goal.factor_of-requires-clause-node
factor_of-requires-clause-node c = c.requires.node

pub factor_of-requires-clause-cell : goal.factor_of-requires-clause-cell
factor_of-requires-clause-cell c = subst (λ n. c.loop-cell.cell < n) (λ i. c.rows.ensures i * c.states.ensures.states i) c.loop-cell-test.true

pub factor_of-requires-clause-weights : goal.factor_of-requires-clause-weights
factor_of-requires-clause-weights c = c.weights_at-weights.ensures.count

pub returns-in_err-push : goal.returns-in_err-push
returns-in_err-push c = rw (err_from_is_err_and c.from_residual-in_err-push.result c.from_residual-in_err-push.ensures.1).1 tt

pub loop-cell-smaller : goal.loop-cell-smaller
loop-cell-smaller c = omega (arith, c.loop-cell-test.true)

pub loop-cell-preserved : goal.loop-cell-preserved
loop-cell-preserved c =
    let nodes = c.args.diagram.now.nodes in
    let p = c.args.profile.now in
    let out = c.args.left_out in
    let v = c.args.v in
    let cell = c.loop-cell.cell in
    let is : pos c.factor_of.result ≡ factor_at nodes p out v cell =
    c.factor_of.ensures
    ∙ ap (λ z. cond (v == out) (pos 1) z) (table_same (node_at nodes v).kind (node_at nodes v).cells c.weights_at-weights.result.now (weights_of p v) cell c.weights_at-weights.ensures.weights) in
    record {
      count = one_more c.loop-cell.list.items c.push.new.self.items c.factor_of.result cell c.in_ok-push.ensures.items c.loop-cell.invariant.count;
      factor = each_more c.loop-cell.list.items c.push.new.self.items c.factor_of.result cell c.in_ok-push.ensures.items c.loop-cell.invariant.count (λ k x. pos x ≡ factor_at nodes p out v k) 0 c.loop-cell.invariant.factor is;
    }

pub returns : goal.returns
returns c =
    let all : c.loop-cell.cell ≡ rows_of c.args.diagram.now.nodes c.args.v * states_of c.args.diagram.now.nodes c.args.v = at_end c.loop-cell.cell (c.rows.result * c.states.result) (rows_of c.args.diagram.now.nodes c.args.v * states_of c.args.diagram.now.nodes c.args.v) c.loop-cell-test.false c.loop-cell.auto.cell-end (λ i. c.rows.ensures i * c.states.ensures.states i) in
    record {
      count = c.loop-cell.invariant.count ∙ all;
      factor = λ k l. c.loop-cell.invariant.factor k (subst (λ n. k < n) (sym all) l);
    }
