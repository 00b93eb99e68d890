-- The first `states` of the block decides.
use Rattle.std.proofs.Common.{ap, ◌∙◌}
use Rattle.net_build.specs.declared.faults.BuildFault.TheVariants.{Fault}
use Rattle.net_build.specs.declared.faults.BuildKind.TheVariants as kinds
use Rattle.net_lexer.specs.declared.tokens.Token.{Token}
use Rattle.net_parser.specs.Trees.{BlockTree}
use Rattle.net_build.proofs.LabelLemmas.{no_states, some_states}
use Rattle.net_build.proofs.labels.read_labels.Goals as goal

pub first_named-requires : goal.first_named-requires
first_named-requires c = rw (c.deref.ensures.value, ap (λ (b : BlockTree). b.attributes) c.block.view_is) c.requires.own.attributes

pub returns-in-Some-clause-rows : goal.returns-in-Some-clause-rows
returns-in-Some-clause-rows c =
    let first = rw (c.deref.ensures.value, ap (λ (b : BlockTree). b.attributes) c.block.view_is) at c.in-Some.ensures.first in
    some_states c.args.text.now c.args.block.now _ _ _ _ first.1 c.state_labels.ensures.rows

pub returns-in-None-clause-rows : goal.returns-in-None-clause-rows
returns-in-None-clause-rows c =
    let none = rw (c.deref.ensures.value, ap (λ (b : BlockTree). b.attributes) c.block.view_is) at c.in-None.ensures.first in
    no_states c.args.text.now c.args.block.now _ _ none (c.at.ensures ∙ ap (λ (t : Token). Fault t.start kinds.MissingStates) c.title.ensures)
