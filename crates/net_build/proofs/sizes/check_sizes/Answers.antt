-- A node's rows are the first of those still to come, and its cells are the next that are added.
use Rattle.std.proofs.Common.{◌≡◌, ℕ, ◌+◌, ◌<◌, ◌≤◌, List, [], length, get_or, cond, sym, ap, subst, ◌∙◌, arith, below_more}
use Rattle.std.proofs.lemmas.List.{get_or-map, length-map}
use Rattle.std.specs.Global.{Vec}
use Rattle.maid_model.specs.Nodes.{is_decision}
use Rattle.net_build.specs.Linking.{size_steps_at, size_steps}
use Rattle.net_build.specs.Lists.{numbers_of_lists}
use Rattle.net_build.specs.Stages.{head_at, cells_of_head_over, cells_of_head}
use Rattle.first_fault.proofs.HandedOn.{hands_on}
use Rattle.net_build.specs.Passes.{build_fault}
use Rattle.net_build.proofs.LinkLemmas.{range_on, range_refused}
use Rattle.net_build.proofs.SizeLemmas.{rules_more}
use Rattle.net_build.proofs.sizes.check_sizes.Goals as goal

-- the parents at the place
row_at : (parents : List (Vec ℕ)) (v : ℕ) (x : Vec ℕ) (row : List ℕ) → v < length parents → x ≡ get_or parents v x → row ≡ x.items → row ≡ get_or (numbers_of_lists parents) v []
row_at parents v x row h is shows = shows ∙ ap (λ (y : Vec ℕ). y.items) is ∙ sym (get_or-map (λ y. y.items) parents v x [] h)

pub check_size-requires-clause-parents : goal.check_size-requires-clause-parents
check_size-requires-clause-parents c =
    let within : c.loop-node.node < length c.args.parents.now = omega (arith, c.requires.len, c.loop-node-test.true) in
    let is : c.deref.result.now ≡ get_or (numbers_of_lists c.args.parents.now) c.loop-node.node [] = row_at c.args.parents.now c.loop-node.node c.index-parents-node.result _ within c.index-parents-node.is c.deref.ensures.value in
    rw is (c.requires.parents c.loop-node.node [] (omega (arith, within, length-map c.args.parents.now (λ (y : Vec ℕ). y.items))))

pub returns-in_err-rules-clause-rows : goal.returns-in_err-rules-clause-rows
returns-in_err-rules-clause-rows c =
    let within : c.loop-node.node < length c.args.parents.now = omega (arith, c.requires.len, c.loop-node-test.true) in
    let is : c.deref.result.now ≡ get_or (numbers_of_lists c.args.parents.now) c.loop-node.node [] = row_at c.args.parents.now c.loop-node.node c.index-parents-node.result _ within c.index-parents-node.is c.deref.ensures.value in
    hands_on build_fault (size_steps c.args.heads.now (numbers_of_lists c.args.parents.now)) _ _ c.from_residual.ensures
    (range_refused (size_steps_at c.args.heads.now (numbers_of_lists c.args.parents.now)) _ c.loop-node.node (length c.args.heads.now) _ c.loop-node-test.true c.loop-node.invariant.lead
    (rw (← c.loop-node.invariant.sum, ← is) c.in_err-rules.ensures.rows))

pub loop-node-preserved : goal.loop-node-preserved
loop-node-preserved c =
    let within : c.loop-node.node < length c.args.parents.now = omega (arith, c.requires.len, c.loop-node-test.true) in
    let is : c.deref.result.now ≡ get_or (numbers_of_lists c.args.parents.now) c.loop-node.node [] = row_at c.args.parents.now c.loop-node.node c.index-parents-node.result _ within c.index-parents-node.is c.deref.ensures.value in
    record {
      sum = c.in_ok-rules.ensures.sum
          ∙ ap (λ row. c.loop-node.rules + cond (is_decision (head_at c.args.heads.now c.loop-node.node).kind) (cells_of_head_over c.args.heads.now row c.loop-node.node) 0) is
          ∙ ap (λ n. n + cond (is_decision (head_at c.args.heads.now c.loop-node.node).kind) (cells_of_head c.args.heads.now (numbers_of_lists c.args.parents.now) c.loop-node.node) 0) c.loop-node.invariant.sum
          ∙ sym (rules_more c.args.heads.now (numbers_of_lists c.args.parents.now) c.loop-node.node);
      few = c.in_ok-rules.ensures.few;
      cells = below_more _ _ c.loop-node.invariant.cells (subst (λ (row : List ℕ). cells_of_head_over c.args.heads.now row c.loop-node.node ≤ 65536) is c.in_ok-rules.ensures.cells);
      lead = range_on (size_steps_at c.args.heads.now (numbers_of_lists c.args.parents.now)) _ c.loop-node.node (length c.args.heads.now) c.loop-node-test.true c.loop-node.invariant.lead
          (rw (← c.loop-node.invariant.sum, ← is) c.in_ok-rules.ensures.rows);
    }
