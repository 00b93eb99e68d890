-- No node has parents or a potential at first.
use Rattle.std.proofs.Common.{[], None, replicate, ap, ◌∙◌}
use Rattle.std.proofs.lemmas.Result.{IfOk-from_err}
use Rattle.first_fault.proofs.HandedOn.{hands_on}
use Rattle.net_build.specs.Linking.{borrowed_trees, potentials_steps}
use Rattle.net_build.specs.Passes.{build_fault}
use Rattle.net_build.proofs.OutOfMemory.{out_of_memory}
use Rattle.net_build.proofs.PotentialLemmas.{no_trees}
use Rattle.net_build.proofs.potentials.read_potentials.Goals as goal

pub enter_potentials-requires-clause-blocks : goal.enter_potentials-requires-clause-blocks
enter_potentials-requires-clause-blocks c = c.requires.blocks

pub enter_potentials-requires-clause-heads : goal.enter_potentials-requires-clause-heads
enter_potentials-requires-clause-heads c = c.requires.heads

pub enter_potentials-requires-clause-names : goal.enter_potentials-requires-clause-names
enter_potentials-requires-clause-names c = c.requires.names

pub enter_potentials-requires-clause-no_parents : goal.enter_potentials-requires-clause-no_parents
enter_potentials-requires-clause-no_parents c = c.in_ok-parents.ensures ∙ ap (λ n. replicate n []) c.len.ensures

pub enter_potentials-requires-clause-no_potentials : goal.enter_potentials-requires-clause-no_potentials
enter_potentials-requires-clause-no_potentials c = ap borrowed_trees c.in_ok-potentials.ensures ∙ no_trees c.len-2.result ∙ ap (λ n. replicate n None) c.len-2.ensures

pub returns-in_err-parents-clause-rows : goal.returns-in_err-parents-clause-rows
returns-in_err-parents-clause-rows c = out_of_memory (potentials_steps c.args.text.now c.args.names.now c.args.heads.now c.args.syntax.now) _ c.from_residual.ensures

pub returns-in_err-potentials-clause-rows : goal.returns-in_err-potentials-clause-rows
returns-in_err-potentials-clause-rows c = out_of_memory (potentials_steps c.args.text.now c.args.names.now c.args.heads.now c.args.syntax.now) _ c.from_residual-in_err-potentials.ensures

pub returns-in_err-enter_potentials-clause-rows : goal.returns-in_err-enter_potentials-clause-rows
returns-in_err-enter_potentials-clause-rows c = hands_on build_fault (potentials_steps c.args.text.now c.args.names.now c.args.heads.now c.args.syntax.now) _ _ c.from_residual-in_err-enter_potentials.ensures c.in_err-enter_potentials.ensures.rows

pub returns-clause-rows : goal.returns-clause-rows
returns-clause-rows c = c.in_ok-enter_potentials.ensures.rows

pub returns-clause-potentials : goal.returns-clause-potentials
returns-clause-potentials c = c.in_ok-enter_potentials.ensures.links.potentials

pub returns-clause-parents : goal.returns-clause-parents
returns-clause-parents c = c.in_ok-enter_potentials.ensures.links.parents

pub returns-clause-fit : goal.returns-clause-fit
returns-clause-fit c = c.in_ok-enter_potentials.ensures.links.fit

pub returns-in_err-parents-clause-potentials : goal.returns-in_err-parents-clause-potentials
returns-in_err-parents-clause-potentials c = IfOk-from_err _ _ c.from_residual.ensures.0

pub returns-in_err-parents-clause-parents : goal.returns-in_err-parents-clause-parents
returns-in_err-parents-clause-parents c = IfOk-from_err _ _ c.from_residual.ensures.0

pub returns-in_err-parents-clause-fit : goal.returns-in_err-parents-clause-fit
returns-in_err-parents-clause-fit c = IfOk-from_err _ _ c.from_residual.ensures.0

pub returns-in_err-potentials-clause-potentials : goal.returns-in_err-potentials-clause-potentials
returns-in_err-potentials-clause-potentials c = IfOk-from_err _ _ c.from_residual-in_err-potentials.ensures.0

pub returns-in_err-potentials-clause-parents : goal.returns-in_err-potentials-clause-parents
returns-in_err-potentials-clause-parents c = IfOk-from_err _ _ c.from_residual-in_err-potentials.ensures.0

pub returns-in_err-potentials-clause-fit : goal.returns-in_err-potentials-clause-fit
returns-in_err-potentials-clause-fit c = IfOk-from_err _ _ c.from_residual-in_err-potentials.ensures.0

pub returns-in_err-enter_potentials-clause-potentials : goal.returns-in_err-enter_potentials-clause-potentials
returns-in_err-enter_potentials-clause-potentials c = IfOk-from_err _ _ c.from_residual-in_err-enter_potentials.ensures.0

pub returns-in_err-enter_potentials-clause-parents : goal.returns-in_err-enter_potentials-clause-parents
returns-in_err-enter_potentials-clause-parents c = IfOk-from_err _ _ c.from_residual-in_err-enter_potentials.ensures.0

pub returns-in_err-enter_potentials-clause-fit : goal.returns-in_err-enter_potentials-clause-fit
returns-in_err-enter_potentials-clause-fit c = IfOk-from_err _ _ c.from_residual-in_err-enter_potentials.ensures.0
