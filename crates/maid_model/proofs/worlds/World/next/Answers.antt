use Rattle.std.proofs.Common.{◌≡◌, ℕ, ◌-◌, ◌<◌, List, length, take, replicate, length-append, arith, ap}
use Rattle.std.proofs.lemmas.List.{length-take-le}
use Rattle.maid_model.specs.Nodes.{counts_of}
use Rattle.maid_model.proofs.Next.{NextSoFar, code_more, code_back, code_world, so_far_none}
use Rattle.maid_model.proofs.worlds.World.next.Goals as goal

pub loop-v-init : goal.loop-v-init
loop-v-init c = so_far_none (counts_of c.args.diagram.now.nodes) c.args.self.now c.self.inside.states.items _ c.requires.len c.self.view_is (omega arith)

pub overflow_sub-last : goal.overflow_sub-last
overflow_sub-last c = omega (arith, c.states-last.ensures.diagram.graph.has_state (c.loop-v.v - 1))

pub returns-then-state-last-clause-world : goal.returns-then-state-last-clause-world
returns-then-state-last-clause-world c = code_world c.args.diagram.now.nodes c.args.self.now c.loop-v.self-inside.states.items c.loop-v.v c.index-state.result.now c.states-last.result c.requires c.loop-v.invariant c.loop-v-test.true c.index-state.ensures c.states-last.ensures.states c.if-state-last.true

pub returns-then-state-last-clause-more : goal.returns-then-state-last-clause-more
returns-then-state-last-clause-more c = λ _. code_more c.args.diagram.now.nodes c.args.self.now c.loop-v.self-inside.states.items c.loop-v.v c.index-state.result.now c.states-last.result c.requires c.loop-v.invariant c.loop-v-test.true c.index-state.ensures c.states-last.ensures.states c.if-state-last.true

pub loop-v-preserved : goal.loop-v-preserved
loop-v-preserved c = code_back c.args.diagram.now.nodes c.args.self.now c.loop-v.self-inside.states.items c.loop-v.v c.index-state.result.now c.states-last.result c.requires c.loop-v.invariant c.loop-v-test.true c.index-state.ensures c.states-last.ensures.states c.if-state-last.false

-- the node below is there, the list being as long as before
place_in : (cs old xs : List ℕ) (v n : ℕ) → NextSoFar cs old xs v → 0 < v → n ≡ length xs → v - 1 < n
place_in cs old xs v n s some e = omega (arith, e, s.within, length-take-le v old s.within, ap length s.now, length-append (take v old) (replicate (length old - v) 0))

pub index-state-requires : goal.index-state-requires
index-state-requires c = place_in _ _ _ c.loop-v.v _ c.loop-v.invariant c.loop-v-test.true c.loop-v.self-inside.states.ok.0

pub index_mut-requires : goal.index_mut-requires
index_mut-requires c = place_in _ _ _ c.loop-v.v _ c.loop-v.invariant c.loop-v-test.true c.loop-v.self-inside.states.ok.0

pub index_mut-requires-in-loop-v : goal.index_mut-requires-in-loop-v
index_mut-requires-in-loop-v c = place_in _ _ _ c.loop-v.v _ c.loop-v.invariant c.loop-v-test.true c.loop-v.self-inside.states.ok.0
