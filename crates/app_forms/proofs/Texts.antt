-- A file's bytes stand for a diagram or have a fault: tokens or a fault, of the tokens a tree or a
-- fault, and of the tree a diagram or a fault.
use Rattle.std.proofs.Common.{inl, inr, ℕ, List, refl}
use Rattle.first_fault.specs.Properties.{IsCovered}
use Rattle.net_lexer.specs.Laws as lexing
use Rattle.net_lexer.specs.Pieces.{IsTokens, token_pass}
use Rattle.net_lexer.specs.declared.tokens.Token.{Token}
use Rattle.net_parser.specs.Faults.{tree_pass}
use Rattle.net_parser.specs.Grammar.{Spells}
use Rattle.net_parser.specs.Laws as parsing
use Rattle.net_parser.specs.Lexemes.{lexemes}
use Rattle.net_parser.specs.Trees.{BlockTree}
use Rattle.net_build.specs.Laws as building
use Rattle.net_build.specs.Blocks.{node_blocks, names_of}
use Rattle.net_build.specs.Table.{all_passes}
use Rattle.app_forms.specs.Faults.{IsTextFault, token_place, token_words, grammar_place, grammar_words, kind_words}
use Rattle.app_forms.specs.Lines.{fault_line}
use Rattle.app_forms.specs.Stages.{text_fault, Finds}
use Rattle.app_forms.specs.declared.status.Status.TheVariants.{TextFault}

module _ (tokens_or_fault : lexing.Covered) (tree_or_fault : parsing.Covered) (diagram_or_fault : building.Covered) (some_diagram : building.SomeDiagram) (name bytes : List ℕ) where
  told : (at : ℕ) (words : List ℕ) → IsTextFault bytes at words → IsCovered (Finds text_fault (name, bytes))
  told at words is = inr (record { status = TextFault; told = fault_line name bytes at words }, (refl, record { at = at; words = words; is_fault = is; says = refl }))

  of_tree : (tokens : List Token) → IsTokens bytes tokens → (tree : List BlockTree) → Spells tree (lexemes bytes tokens) → IsCovered (all_passes bytes tree) → IsCovered (Finds text_fault (name, bytes))
  of_tree tokens are tree spells (inl clear) =
      let has = some_diagram bytes tokens tree are spells clear in
      inl (record { d = has.diagram; names = has.names }, record { tree = tree; is_tree = record { tokens = tokens; is_tokens = are; spells = spells }; clear = clear; stands = has.stands })
  of_tree tokens are tree spells (inr (found, is)) =
      told found.at (kind_words (names_of bytes (node_blocks tree)) found.kind)
      (inr (inr (record { tree = tree; is_tree = record { tokens = tokens; is_tokens = are; spells = spells }; fault = found; is_fault = is; place = refl; says = refl })))

  of_tokens : (tokens : List Token) → IsTokens bytes tokens → IsCovered (tree_pass bytes tokens) → IsCovered (Finds text_fault (name, bytes))
  of_tokens tokens are (inl (tree, spells)) = of_tree tokens are tree spells (diagram_or_fault bytes tree)
  of_tokens tokens are (inr (fault, is)) =
      told (grammar_place fault) (grammar_words fault) (inr (inl (record { token_list = tokens; is_tokens = are; fault = fault; is_fault = is; place = refl; says = refl })))

  of_text : IsCovered (token_pass bytes) → IsCovered (Finds text_fault (name, bytes))
  of_text (inl (tokens, are)) = of_tokens tokens are (tree_or_fault bytes tokens)
  of_text (inr (fault, is)) = told (token_place fault) (token_words fault) (inl (record { fault = fault; is_fault = is; place = refl; says = refl }))

  pub text_or_fault : IsCovered (Finds text_fault (name, bytes))
  text_or_fault = of_text (tokens_or_fault bytes)
