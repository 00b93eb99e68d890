-- The fault of a text that stands for no diagram: its place, and the words that say what it is.
use Rattle.std.specs.Prelude.{◌≡◌, ◌⊎◌, ℕ, List, [], ◌++◌, Some, codes, decimal, map, slice_index_or}
use Rattle.net_lexer.specs.Pieces.{IsTokens}
use Rattle.net_lexer.specs.Pieces as pieces
use Rattle.net_lexer.specs.declared.tokens.Token.{Token}
use Rattle.net_lexer.specs.declared.tokens.LexFault.{LexFault}
use Rattle.net_lexer.specs.declared.tokens.LexFault.TheVariants as tokens
use Rattle.net_parser.specs.Faults as grammar
use Rattle.net_parser.specs.declared.parsing.ParseFault.{ParseFault}
use Rattle.net_parser.specs.declared.parsing.ParseFault.TheVariants as trees
use Rattle.net_parser.specs.Trees.{BlockTree}
use Rattle.maid_model.specs.Reports.{spaced}
use Rattle.net_build.specs.Blocks.{node_blocks, names_of}
use Rattle.net_build.specs.Passes.{Found, KindView}
use Rattle.net_build.specs.Passes as passes
use Rattle.net_build.specs.Table.{all_passes}
use Rattle.net_build.specs.declared.faults.Limit.{Limit}
use Rattle.net_build.specs.declared.faults.Limit.TheVariants as limits
use Rattle.app_forms.specs.Diagrams.{IsTreeOf}
use Rattle.app_forms.specs.Lines.{fault_line}

-- where the fault of a text's tokens is; want of memory has no place
abbrev pub token_place : LexFault → ℕ
token_place (tokens.BadByte at) = at
token_place (tokens.OpenString at) = at
token_place (tokens.BadNumeral at) = at
token_place tokens.NoMemory = 0

-- what is wrong there
abbrev pub token_words : LexFault → List ℕ
token_words (tokens.BadByte at) = codes "bad byte"
token_words (tokens.OpenString at) = codes "open string"
token_words (tokens.BadNumeral at) = codes "bad numeral"
token_words tokens.NoMemory = []

-- where the first impossible token is; want of memory has no place
abbrev pub grammar_place : ParseFault → ℕ
grammar_place (trees.Unexpected at) = at
grammar_place (trees.Unsupported at) = at
grammar_place (trees.TooDeep at) = at
grammar_place trees.NoMemory = 0

-- what is wrong with that token
abbrev pub grammar_words : ParseFault → List ℕ
grammar_words (trees.Unexpected at) = codes "unexpected"
grammar_words (trees.Unsupported at) = codes "unsupported"
grammar_words (trees.TooDeep at) = codes "too deep"
grammar_words trees.NoMemory = []

-- no token list stands for the bytes: their first fault
pub record IsTokenFault (bytes : List ℕ) (at : ℕ) (words : List ℕ) : Type 0 where
  pub fault : LexFault
  pub is_fault : pieces.IsFault bytes fault
  pub place : at ≡ token_place fault
  pub says : words ≡ token_words fault

-- no tree stands for their tokens: the first impossible token
pub record IsGrammarFault (bytes : List ℕ) (at : ℕ) (words : List ℕ) : Type 0 where
  pub token_list : List Token
  pub is_tokens : IsTokens bytes token_list
  pub fault : ParseFault
  pub is_fault : grammar.IsFault bytes token_list fault
  pub place : at ≡ grammar_place fault
  pub says : words ≡ grammar_words fault

-- what there is too much of, before its count
abbrev pub limit_words : Limit → List ℕ
limit_words limits.Nodes = codes "nodes "
limit_words limits.NameBytes = codes "name bytes "
limit_words limits.States = codes "states "
limit_words limits.Agents = codes "agents "
limit_words limits.Parents = codes "parents "
limit_words limits.Cells = codes "cells "
limit_words limits.Rules = codes "rules "

-- the names of the nodes of a cycle, each after one space
unfoldable pub cycle_names : List (List ℕ) → List ℕ → List ℕ
cycle_names names cycle = spaced (map (λ v. slice_index_or names v []) cycle)

-- the arcs go round a cycle of nodes, which have these names
abbrev pub cycle_words : List (List ℕ) → List ℕ → List ℕ
cycle_words names cycle = codes "graph cycle:" ++ cycle_names names cycle

-- the table has another count of numbers than its node wants
abbrev pub count_words : ℕ → ℕ → List ℕ
count_words want got = codes "wrong count: want " ++ decimal want ++ codes " got " ++ decimal got

-- the limit that is passed, and the count that passes it
abbrev pub passed_words : Limit → ℕ → List ℕ
passed_words which got = codes "limit passed: " ++ limit_words which ++ decimal got

-- what is wrong with a tree whose node blocks have these names
abbrev pub kind_words : List (List ℕ) → KindView → List ℕ
kind_words names passes.DoubleName = codes "double name"
kind_words names passes.DoubleAttribute = codes "double attribute"
kind_words names passes.MissingStates = codes "missing states"
kind_words names passes.BadStates = codes "bad states"
kind_words names passes.BadLabel = codes "bad label"
kind_words names passes.BadAgent = codes "bad agent"
kind_words names passes.RepeatedAgent = codes "repeated agent"
kind_words names passes.UnknownName = codes "unknown name"
kind_words names passes.DoublePotential = codes "double potential"
kind_words names passes.RepeatedParent = codes "repeated parent"
kind_words names passes.UtilityParent = codes "utility parent"
kind_words names passes.MissingTable = codes "missing table"
kind_words names (passes.GraphCycle cycle) = cycle_words names cycle
kind_words names passes.NotANumber = codes "not a number"
kind_words names (passes.WrongCount want got) = count_words want got
kind_words names passes.NumberTooLong = codes "number too long"
kind_words names passes.Negative = codes "negative"
kind_words names passes.ZeroRow = codes "zero row"
kind_words names passes.WideWeight = codes "wide weight"
kind_words names passes.WideValue = codes "wide value"
kind_words names (passes.LimitPassed which got) = passed_words which got

-- no diagram stands for their tree: the first fault of the passes
pub record IsBuildFault (bytes : List ℕ) (at : ℕ) (words : List ℕ) : Type 0 where
  pub tree : List BlockTree
  pub is_tree : IsTreeOf bytes tree
  pub fault : Found
  pub is_fault : all_passes bytes tree (Some fault)
  pub place : at ≡ fault.at
  pub says : words ≡ kind_words (names_of bytes (node_blocks tree)) fault.kind

-- the fault of the bytes
abbrev pub IsTextFault : List ℕ → ℕ → List ℕ → Type 0
IsTextFault bytes at words =
    IsTokenFault bytes at words ⊎ IsGrammarFault bytes at words ⊎ IsBuildFault bytes at words

-- the line tells the fault of the file's bytes
pub record TellsFault (name bytes told : List ℕ) : Type 0 where
  pub at : ℕ
  pub words : List ℕ
  pub is_fault : IsTextFault bytes at words
  pub says : told ≡ fault_line name bytes at words
