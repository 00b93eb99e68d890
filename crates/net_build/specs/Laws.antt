-- Laws of the passes and of what a tree stands for.
use Rattle.std.specs.Prelude.{◌≡◌, ℕ, List, None}
use Rattle.first_fault.specs.Properties.{IsCovered, IsExclusive, HasOneFault}
use Rattle.maid_model.specs.Diagrams.{IsDiagram}
use Rattle.maid_model.specs.Names.{NamesView, NamesFit}
use Rattle.maid_model.specs.Views.{DiagramView}
use Rattle.net_lexer.specs.Pieces.{IsTokens}
use Rattle.net_lexer.specs.declared.tokens.Token.{Token}
use Rattle.net_parser.specs.Grammar.{Spells}
use Rattle.net_parser.specs.Lexemes.{lexemes}
use Rattle.net_parser.specs.Trees.{BlockTree}
use Rattle.net_build.specs.Building.{StandsFor}
use Rattle.net_build.specs.Form.{HasTextForm}
use Rattle.net_build.specs.Plain.{IsPlain}
use Rattle.net_build.specs.Table.{all_passes}

-- each tree has a fault or none
abbrev pub Covered : Type 0
Covered = (text : List ℕ) (blocks : List BlockTree) → IsCovered (all_passes text blocks)

-- no tree has a fault where the passes find nothing
abbrev pub Exclusive : Type 0
Exclusive = (text : List ℕ) (blocks : List BlockTree) → IsExclusive (all_passes text blocks)

-- no tree has two faults
abbrev pub OneFault : Type 0
OneFault = (text : List ℕ) (blocks : List BlockTree) → HasOneFault (all_passes text blocks)

-- the tree stands for a diagram within the limits, which is plain, and whose names fit it and have
-- the form of names in a text
pub record HasDiagram (text : List ℕ) (blocks : List BlockTree) : Type 0 where
  pub diagram : DiagramView
  pub names : NamesView
  pub stands : StandsFor text blocks diagram names
  pub within : IsDiagram diagram
  pub fit : NamesFit diagram names
  pub form : HasTextForm diagram names
  pub plain : IsPlain diagram

-- a tree that a text's tokens spell, and in which the passes find nothing, stands for a diagram
abbrev pub SomeDiagram : Type 0
SomeDiagram = (text : List ℕ) (tokens : List Token) (blocks : List BlockTree) → IsTokens text tokens
    → Spells blocks (lexemes text tokens) → all_passes text blocks None → HasDiagram text blocks

-- a tree in which the passes find nothing stands for one diagram at most, with one list of names
abbrev pub OneDiagram : Type 0
OneDiagram = (text : List ℕ) (blocks : List BlockTree) (d other : DiagramView)
    (names others : NamesView) → all_passes text blocks None
    → StandsFor text blocks d names → StandsFor text blocks other others
    → (d ≡ other) × (names ≡ others)
