-- The round trip: the printed text of a diagram stands for that diagram and its names.
use Rattle.std.specs.Prelude.{ℕ, List, ◌∷◌, ◌++◌, All, None}
use Rattle.std.specs.List.{flat_map}
use Rattle.maid_model.specs.Diagrams.{IsDiagram}
use Rattle.maid_model.specs.Names.{NamesView, NamesFit}
use Rattle.maid_model.specs.Reports.{IsOneLine, line}
use Rattle.maid_model.specs.Views.{DiagramView}
use Rattle.net_lexer.specs.Pieces.{IsTokens}
use Rattle.net_lexer.specs.declared.tokens.Token.{Token}
use Rattle.net_parser.specs.Grammar.{Spells}
use Rattle.net_parser.specs.Lexemes.{lexemes}
use Rattle.net_parser.specs.Trees.{BlockTree}
use Rattle.net_build.specs.Building.{StandsFor}
use Rattle.net_build.specs.Form.{HasTextForm}
use Rattle.net_build.specs.Plain.{IsPlain}
use Rattle.net_build.specs.Table.{all_passes}
use Rattle.net_print.specs.Printed.{printed}

-- a diagram and names that a text can stand for
pub record IsPrintable (d : DiagramView) (names : NamesView) : Type 0 where
  pub diagram : IsDiagram d
  pub plain : IsPlain d
  pub fit : NamesFit d names
  pub form : HasTextForm d names

-- the text has tokens, they spell a tree, and without a fault it stands for the diagram and the
-- names
abbrev pub ReadsAs : List ℕ → DiagramView → NamesView → Type 0
ReadsAs text d names = (tokens : List Token) × (tree : List BlockTree) × IsTokens text tokens
    × Spells tree (lexemes text tokens) × all_passes text tree None × StandsFor text tree d names

-- the printed text does
abbrev pub ReadsBack : DiagramView → NamesView → Type 0
ReadsBack d names = ReadsAs (printed d names) d names

-- The round trip.
abbrev pub RoundTrip : Type 0
RoundTrip = (d : DiagramView) (names : NamesView) → IsPrintable d names → ReadsBack d names

-- a line for each comment: a percent sign and its words
abbrev pub comment_lines : List (List ℕ) → List ℕ
comment_lines comments = flat_map (λ words. line (37 ∷ words)) comments

-- The round trip of a text behind such lines, which are read over.
abbrev pub CommentedRoundTrip : Type 0
CommentedRoundTrip = (comments : List (List ℕ)) → All IsOneLine comments
    → (d : DiagramView) (names : NamesView) → IsPrintable d names
    → ReadsAs (comment_lines comments ++ printed d names) d names
