use Rattle.app_forms.proofs.Bytes.{one_status, not_refused}
use Rattle.app_forms.proofs.laws.one_status.Goals as goal

-- each stage is clear or refuses, never both
pub returns-clause-one : goal.returns-clause-one
returns-clause-one c = one_status (record {
  tokens_or_fault = c.every_text_reads_one_way.ensures.exclusive;
  one_list = c.every_text_reads_one_way.ensures.one_list;
  tree_or_fault = c.tokens_read_one_way.ensures.exclusive;
  one_tree = c.tokens_read_one_way.ensures.one_tree;
  diagram_or_fault = c.a_tree_has_a_fault_or_none.ensures.exclusive;
  some_diagram = c.a_tree_stands_for_one_diagram.ensures.some_diagram;
  one_diagram = c.a_tree_stands_for_one_diagram.ensures.one_diagram;
  report_or_fault = c.reports_read_one_way.ensures.exclusive;
  one_value = c.reports_read_one_way.ensures.one_value;
  one_verdict = c.verdicts_are_one.ensures;
})

pub returns-clause-clear : goal.returns-clause-clear
returns-clause-clear c = not_refused (record {
  tokens_or_fault = c.every_text_reads_one_way.ensures.exclusive;
  one_list = c.every_text_reads_one_way.ensures.one_list;
  tree_or_fault = c.tokens_read_one_way.ensures.exclusive;
  one_tree = c.tokens_read_one_way.ensures.one_tree;
  diagram_or_fault = c.a_tree_has_a_fault_or_none.ensures.exclusive;
  some_diagram = c.a_tree_stands_for_one_diagram.ensures.some_diagram;
  one_diagram = c.a_tree_stands_for_one_diagram.ensures.one_diagram;
  report_or_fault = c.reports_read_one_way.ensures.exclusive;
  one_value = c.reports_read_one_way.ensures.one_value;
  one_verdict = c.verdicts_are_one.ensures;
})
