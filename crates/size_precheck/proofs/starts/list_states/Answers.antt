use Rattle.std.proofs.Common.{arith, ◌∙◌, ◌<◌, length}
use Rattle.std.proofs.Math.ListN.{length-set}
use Rattle.size_precheck.proofs.Starting.{states_told, all_ones, ones_long, state_more, rest_less}
use Rattle.size_precheck.proofs.starts.list_states.Goals as goal

pub loop-v-init : goal.loop-v-init
loop-v-init c = record {
  len = ones_long _ (c.in_ok-states.ensures.items_if_clones_equal (λ y e. e));
  done = λ u l. absurd (omega arith);
  rest = λ u _. all_ones _ (c.in_ok-states.ensures.items_if_clones_equal (λ y e. e)) u;
}

pub loop-v-preserved : goal.loop-v-preserved
loop-v-preserved c =
    let within : c.loop-v.v < length c.loop-v.states.items = let a = c.count-v-end.ensures.diagram.limits.nodes in omega (arith, c.loop-v.invariant.len, c.loop-v-test.true, c.count-v-end.ensures.count) in
    record {
      len = length-set c.loop-v.states.items c.loop-v.v _ ∙ c.loop-v.invariant.len;
      done = state_more _ _ c.loop-v.v _ within c.states.ensures.states c.loop-v.invariant.done;
      rest = rest_less _ c.loop-v.v _ c.loop-v.invariant.rest;
    }

pub returns-clause-states : goal.returns-clause-states
returns-clause-states c = states_told _ _ _ c.count-v-end.ensures.diagram.limits.nodes c.loop-v.invariant.done c.loop-v.invariant.rest _ c.count-v-end.ensures.count c.loop-v-test.false
