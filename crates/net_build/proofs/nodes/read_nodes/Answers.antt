-- The text's own blocks.
use Rattle.std.proofs.Common.{◌∙◌}
use Rattle.net_build.proofs.nodes.read_nodes.Goals as goal

pub read_blocks-requires : goal.read_blocks-requires
read_blocks-requires c = rw (c.deref.ensures.value ∙ c.syntax.view_is) c.requires

pub returns-clause-rows : goal.returns-clause-rows
returns-clause-rows c = rw (c.deref.ensures.value ∙ c.syntax.view_is) at c.read_blocks.ensures.rows

pub returns-clause-nodes : goal.returns-clause-nodes
returns-clause-nodes c = rw (c.deref.ensures.value ∙ c.syntax.view_is) at c.read_blocks.ensures.nodes
