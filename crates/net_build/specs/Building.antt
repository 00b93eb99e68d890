-- What a text's tree stands for, where no pass finds a fault.
use Rattle.std.specs.Prelude.{◌≡◌, ◌<◌, ℕ, ℤ, pos, List, [], ◌∷◌, map, length, slice_index_or}
use Rattle.maid_model.specs.declared.diagrams.Kind.{Kind}
use Rattle.maid_model.specs.declared.diagrams.Kind.TheVariants.{Chance, Decision, Utility}
use Rattle.maid_model.specs.Diagrams.{IsDiagram}
use Rattle.maid_model.specs.Names.{NamesView, NamesFit}
use Rattle.maid_model.specs.Views.{DiagramView}
use Rattle.net_lexer.specs.Token.{token_bytes}
use Rattle.net_parser.specs.Trees.{BlockTree}
use Rattle.weight_scale.specs.declared.decimal.Decimal.{Decimal}
use Rattle.net_build.specs.Blocks.{node_blocks, kind_of, names_of, block_labels, block_states, state_counts, agents_of, owner_numbers, parent_lists, block_numbers}
use Rattle.weight_scale.specs.Scaling.{IsScaled}
use Rattle.weight_scale.specs.Views.{ScaledView}
use Rattle.net_build.specs.Scaling.{AreDecimals, IsScaledBy}
use Rattle.net_build.specs.Form.{HasTextForm}
use Rattle.net_build.specs.Plain.{IsPlain}
use Rattle.net_build.specs.Table.{IsUtilityScale, no_block}

-- the names, labels and agents in the blocks
abbrev pub names_view : List ℕ → List BlockTree → NamesView
names_view text blocks = record {
  nodes = names_of text (node_blocks blocks);
  labels = map (block_labels text) (node_blocks blocks);
  agents = agents_of text (node_blocks blocks);
}

-- chance cells: the numerals' rows taken in proportion
abbrev pub AreChanceCells : ℕ → List (List ℕ) → List ℤ → Type 0
AreChanceCells states numerals cells = (decimals : List Decimal) × (scaled : ScaledView)
    × AreDecimals numerals decimals × IsScaled decimals states scaled × (cells ≡ scaled.weights)

-- utility cells: each value times 10^scale
pub record AreUtilityCells (scale : ℕ) (numerals : List (List ℕ)) (cells : List ℤ) : Type 0 where
  pub len : length cells ≡ length numerals
  pub each : (i : ℕ) → i < length cells
      → IsScaledBy scale (slice_index_or numerals i []) (slice_index_or cells i (pos 0))

-- the table of a node of that kind and with so many states, from its numerals; a decision has none
abbrev pub IsTableFrom : Kind → ℕ → ℕ → List (List ℕ) → List ℤ → Type 0
IsTableFrom Chance scale states numerals cells = AreChanceCells states numerals cells
IsTableFrom Decision scale states numerals cells = cells ≡ []
IsTableFrom Utility scale states numerals cells = AreUtilityCells scale numerals cells

-- the tables of all nodes, in order
pub record AreTables
    (text : List ℕ) (blocks : List BlockTree) (scale : ℕ) (tables : List (List ℤ)) : Type 0 where
  pub len : length tables ≡ length (node_blocks blocks)
  pub each : (v : ℕ) → v < length tables
      → let block = slice_index_or (node_blocks blocks) v no_block in
      IsTableFrom (kind_of block.kind) scale (block_states text block)
      (map (token_bytes text) (block_numbers text blocks block)) (slice_index_or tables v [])

-- The diagram and the names that a tree stands for: one node for each node block in text order.
pub record StandsFor
    (text : List ℕ) (blocks : List BlockTree) (d : DiagramView) (names : NamesView) : Type 0 where
  pub names_are : names ≡ names_view text blocks
  pub agents : d.agents ≡ length (agents_of text (node_blocks blocks))
  pub kinds : map (λ n. n.kind) d.nodes ≡ map (λ b. kind_of b.kind) (node_blocks blocks)
  pub owners : map (λ n. n.owner ∷ n.more) d.nodes
      ≡ map (owner_numbers text (node_blocks blocks)) (node_blocks blocks)
  pub states : map (λ n. n.states) d.nodes ≡ state_counts text (node_blocks blocks)
  pub parents : map (λ n. n.parents) d.nodes ≡ parent_lists text blocks
  pub scale : IsUtilityScale text blocks d.decimals
  pub tables : AreTables text blocks d.decimals (map (λ n. n.cells) d.nodes)

-- what the diagram of a tree is, beside the names in the tree's blocks
pub record IsDiagramOfTree (text : List ℕ) (blocks : List BlockTree) (d : DiagramView) : Type 0 where
  pub stands : StandsFor text blocks d (names_view text blocks)
  pub within : IsDiagram d
  pub fit : NamesFit d (names_view text blocks)
  pub form : HasTextForm d (names_view text blocks)
  pub plain : IsPlain d
