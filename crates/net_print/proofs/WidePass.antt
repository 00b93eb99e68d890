-- The pass over utility values finds nothing in the tree of a printed text, and the decimals are
-- the scale of its values.
use Rattle.std.proofs.Common.{◌≤◌, ℕ, nat_abs, List, get_or, All, None}
use Rattle.maid_model.specs.Diagrams.{greatest_number}
use Rattle.maid_model.specs.Names.{NamesView}
use Rattle.maid_model.specs.Views.{DiagramView}
use Rattle.net_build.specs.Table.{wide_pass, utility_numbers, IsUtilityScale}
use Rattle.net_parser.specs.Trees.{BlockTree}
use Rattle.net_print.proofs.Comments.{IsPrintableBehind, text_of}
use Rattle.net_print.proofs.TablesTold.{utility_cells, utilities_told}
use Rattle.net_print.proofs.Tree.{tree_of}
use Rattle.net_print.proofs.UtilityCells.{from_each, cells_need}
use Rattle.net_print.proofs.ValueLimits.{small_enough, widths_clear}
use Rattle.net_print.proofs.ValueScale.{scale_least}

module _ (d : DiagramView) (names : NamesView) (is : IsPrintableBehind d names) where
  abbrev Text : List ℕ
  Text = text_of d names is

  abbrev Blocks : List BlockTree
  Blocks = tree_of d names is

  small : All (λ x. nat_abs x ≤ greatest_number) (utility_cells d.nodes)
  small = from_each d.nodes (λ x. nat_abs x ≤ greatest_number) is.diagram.limits.values

  -- The decimals are the least that all values need.
  pub scale_told : IsUtilityScale Text Blocks d.decimals
  scale_told = scale_least Text (utility_numbers Text Blocks) d.decimals (utility_cells d.nodes) (utilities_told d names is) (λ k e h. small_enough (nat_abs (get_or (utility_cells d.nodes) k e)) (small k e h)) (cells_need d is.plain.decimals)

  -- No value is too great.
  pub wide_clear : wide_pass Text Blocks None
  unfolding wide_pass
  wide_clear = (d.decimals, scale_told, widths_clear Text (utility_numbers Text Blocks) d.decimals (utility_cells d.nodes) (utilities_told d names is) small)
