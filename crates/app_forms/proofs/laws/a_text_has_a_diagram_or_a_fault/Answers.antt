use Rattle.app_forms.proofs.Texts.{text_or_fault}
use Rattle.app_forms.proofs.laws.a_text_has_a_diagram_or_a_fault.Goals as goal

pub returns : goal.returns
returns c = text_or_fault c.every_text_reads_one_way.ensures.covered c.tokens_read_one_way.ensures.covered c.a_tree_has_a_fault_or_none.ensures.covered c.a_tree_stands_for_one_diagram.ensures.some_diagram
