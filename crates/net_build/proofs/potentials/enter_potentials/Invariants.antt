use Rattle.std.proofs.Common.{◌≡◌, All, take, filter}
use Rattle.net_build.specs.Linking.{borrowed_trees, behind_rows, potentials_steps, potentials_among, parents_in, AreParents}
use Rattle.net_build.specs.Lists.{numbers_of_lists}
use Rattle.first_fault.proofs.Leading.{Leads, AfterPass}
use Rattle.net_build.proofs.potentials.enter_potentials.Given as goal
use Rattle.net_parser.specs.Grammar.{is_potential}

-- the potentials among the blocks so far and their parents, and what the blocks still to come find,
-- the whole pass finds
abbrev pub invariant-loop-block : goal.invariant-loop-block
invariant-loop-block l = record {
  potentials : borrowed_trees l.potentials.items ≡ potentials_among l.text l.names (filter (λ b. is_potential b.kind) (take l.block-index l.syntax));
  parents : numbers_of_lists l.parents.items ≡ parents_in l.text l.names (borrowed_trees l.potentials.items);
  fit : All (AreParents l.heads) (numbers_of_lists l.parents.items);
  lead : Leads (AfterPass (behind_rows l.text l.names l.heads) (λ b. is_potential b.kind) l.syntax l.block-index) (potentials_steps l.text l.names l.heads l.syntax);
}
