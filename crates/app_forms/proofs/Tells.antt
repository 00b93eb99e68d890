-- What is told is as it was wanted, or memory ran out.
use Rattle.std.proofs.Common.{◌≡◌, inl, inr, ℕ, List, Some, refl}
use Rattle.net_lexer.specs.Pieces.{IsTokens}
use Rattle.net_lexer.specs.Pieces as pieces
use Rattle.net_lexer.specs.declared.tokens.LexFault.{LexFault}
use Rattle.net_lexer.specs.declared.tokens.Token.{Token}
use Rattle.net_build.specs.Blocks.{node_blocks, names_of}
use Rattle.net_build.specs.Passes.{Found}
use Rattle.net_build.specs.Table.{all_passes}
use Rattle.net_parser.specs.Faults as grammar
use Rattle.net_parser.specs.Trees.{BlockTree}
use Rattle.net_parser.specs.declared.parsing.ParseFault.{ParseFault}
use Rattle.app_forms.specs.Diagrams.{IsTreeOf}
use Rattle.app_forms.specs.Faults.{token_place, token_words, grammar_place, grammar_words, kind_words}
use Rattle.app_forms.specs.Lines.{fault_line}
use Rattle.app_forms.specs.Reading.{TellsLine, TellsTextFault}
use Rattle.app_forms.specs.Stages.{Finds, text_fault}
use Rattle.app_forms.specs.declared.refusal.Refusal.{Refusal}
use Rattle.app_forms.proofs.Refusals.{tells_found}
use Rattle.app_forms.specs.declared.status.Status.TheVariants as statuses

-- the line tells the first fault of the bytes as tokens
pub tells_tokens : (name bytes : List ℕ) (fault : LexFault) (refusal : Refusal) → pieces.IsFault bytes fault
    → TellsLine statuses.TextFault (fault_line name bytes (token_place fault) (token_words fault)) refusal → TellsTextFault name bytes refusal
tells_tokens name bytes fault refusal wrong tells =
    tells_found (Finds text_fault (name, bytes)) statuses.TextFault (fault_line name bytes (token_place fault) (token_words fault)) refusal (
      refl,
      record {
        at = token_place fault;
        words = token_words fault;
        is_fault = inl (record { fault = fault; is_fault = wrong; place = refl; says = refl });
        says = refl;
      },
    )
    tells

-- the line tells the first impossible token
pub tells_grammar : (name bytes : List ℕ) (tokens : List Token) (fault : ParseFault) (refusal : Refusal) → IsTokens bytes tokens → grammar.IsFault bytes tokens fault
    → TellsLine statuses.TextFault (fault_line name bytes (grammar_place fault) (grammar_words fault)) refusal → TellsTextFault name bytes refusal
tells_grammar name bytes tokens fault refusal is wrong tells =
    tells_found (Finds text_fault (name, bytes)) statuses.TextFault (fault_line name bytes (grammar_place fault) (grammar_words fault)) refusal (
      refl,
      record {
        at = grammar_place fault;
        words = grammar_words fault;
        is_fault = inr (inl (record { token_list = tokens; is_tokens = is; fault = fault; is_fault = wrong; place = refl; says = refl }));
        says = refl;
      },
    )
    tells

-- the line tells the first fault of the passes
pub tells_build : (name bytes : List ℕ) (tree : List BlockTree) (fault : Found) (words : List ℕ) (refusal : Refusal) → IsTreeOf bytes tree → all_passes bytes tree (Some fault)
    → words ≡ kind_words (names_of bytes (node_blocks tree)) fault.kind → TellsLine statuses.TextFault (fault_line name bytes fault.at words) refusal → TellsTextFault name bytes refusal
tells_build name bytes tree fault words refusal is wrong says tells =
    tells_found (Finds text_fault (name, bytes)) statuses.TextFault (fault_line name bytes fault.at words) refusal (
      refl,
      record {
        at = fault.at;
        words = words;
        is_fault = inr (inr (record { tree = tree; is_tree = is; fault = fault; is_fault = wrong; place = refl; says = says }));
        says = refl;
      },
    )
    tells
