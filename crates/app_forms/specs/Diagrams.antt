-- The diagram and the names that a file's bytes stand for.
use Rattle.std.specs.Prelude.{ℕ, List, None}
use Rattle.first_fault.specs.Passes.{over}
use Rattle.maid_model.specs.Names.{NamesView}
use Rattle.maid_model.specs.Views.{DiagramView}
use Rattle.net_build.specs.Building.{StandsFor}
use Rattle.net_build.specs.Table.{all_passes}
use Rattle.net_lexer.specs.Pieces.{IsTokens}
use Rattle.net_lexer.specs.declared.tokens.Token.{Token}
use Rattle.net_parser.specs.Grammar.{Spells}
use Rattle.net_parser.specs.Lexemes.{lexemes}
use Rattle.net_parser.specs.Trees.{BlockTree}

-- the tree that the bytes stand for
pub record IsTreeOf (bytes : List ℕ) (tree : List BlockTree) : Type 0 where
  pub tokens : List Token
  pub is_tokens : IsTokens bytes tokens
  pub spells : Spells tree (lexemes bytes tokens)

-- the bytes stand for a tree in which no pass finds a fault, and the tree for the diagram and the
-- names
pub record IsDiagramOf (bytes : List ℕ) (d : DiagramView) (names : NamesView) : Type 0 where
  pub tree : List BlockTree
  pub is_tree : IsTreeOf bytes tree
  pub clear : all_passes bytes tree None
  pub stands : StandsFor bytes tree d names

-- a diagram and its names
pub record NamedDiagram : Type 0 where
  pub d : DiagramView
  pub names : NamesView

-- the bytes stand for a diagram and names of which that holds
abbrev pub of_diagram : {O : Type 0} → List ℕ → (DiagramView → NamesView → O → Type 0) → O → Type 0
of_diagram bytes P = over (λ (x : NamedDiagram). IsDiagramOf bytes x.d x.names) (λ x. P x.d x.names)
