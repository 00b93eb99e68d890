use Rattle.weight_scale.specs.Laws.{ScalesInOneWay}
use Rattle.net_build.specs.Blocks.{block_states}
use Rattle.net_build.specs.Laws.{OneDiagram}
use Rattle.net_build.proofs.OneDiagram.{block_at, numerals_at, diagram_once}
use Rattle.net_build.proofs.OneWeights.{chance_cells_once}
use Rattle.net_build.proofs.TreeStands.{tree_stands}
use Rattle.net_build.proofs.WholeRows.{rows_whole}
use Rattle.net_build.proofs.laws.a_tree_stands_for_one_diagram.Goals as goal

one_diagram : ScalesInOneWay → OneDiagram
one_diagram one_way text blocks d other names others nothing =
    diagram_once text blocks (λ v l kind. chance_cells_once one_way (block_states text (block_at text blocks v)) (numerals_at text blocks v) (rows_whole text blocks nothing v l kind)) d other names others

pub returns : goal.returns
returns c = record {
  some_diagram = λ text tokens blocks are spells. tree_stands c.a_numeral_has_a_decimal_or_none.ensures c.rows_are_scaled_or_too_wide.ensures.covered c.rows_are_scaled_or_too_wide.ensures.table text blocks (c.blocks_stand_in_their_text.ensures.blocks text tokens blocks are spells);
  one_diagram = one_diagram c.rows_scale_in_one_way.ensures;
}
