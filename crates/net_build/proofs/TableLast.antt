-- The steps of reading the tables, of the nodes and links as the callers have them.
use Rattle.std.proofs.Common.{◌≡◌, ℕ, ℤ, List, All, map, true, Option, None, Some, sym, ap, subst, ◌∙◌}
use Rattle.net_lexer.specs.Token.{IsTokenOf}
use Rattle.net_lexer.specs.declared.tokens.Token.{Token}
use Rattle.net_parser.specs.Trees.{BlockTree}
use Rattle.net_parser.specs.Owned.{IsBlockOf}
use Rattle.net_build.specs.declared.drafts.Draft.{Draft}
use Rattle.net_build.specs.declared.faults.BuildFault.{BuildFault}
use Rattle.net_build.specs.declared.faults.BuildFault.TheVariants.{Fault, NoMemory}
use Rattle.net_build.specs.Blocks.{is_number, node_blocks}
use Rattle.net_build.specs.Building.{AreTables}
use Rattle.first_fault.specs.Passes.{Pass, ◌▸◌, each}
use Rattle.first_fault.specs.Answers.{IsFaultOrNoMemory}
use Rattle.net_build.specs.Passes.{Found, build_fault}
use Rattle.net_build.specs.Stages.{NodeLists, LinkLists, TablesFit, node_lists, link_lists}
use Rattle.net_build.specs.Table.{IsUtilityScale, length_row, wide_row, node_pass, potential_pass, table_pass, wide_pass, utility_numbers}
use Rattle.net_build.specs.TableParts.{AreDrafts, CanReadTables, FitsDraft, IsScaleOf, scaled_pass, drafts_pass, finished, values_in}
use Rattle.first_fault.proofs.Leading.{refused_first, refused_later}
use Rattle.first_fault.proofs.Items.{each_all}
use Rattle.net_build.proofs.LinkPasses.{same_refused}
use Rattle.net_build.proofs.TableEnd.{IsRead, values_read, all_fit, tables_are, tables_fit}

pub all_own : (text : List ℕ) (tokens : List Token) → All (IsRead text) tokens → All (IsTokenOf text) tokens
all_own text tokens all k d h = (all k d h).own

pub all_number : (text : List ℕ) (tokens : List Token) → All (IsRead text) tokens → All (λ t. is_number t.kind ≡ true) tokens
all_number text tokens all k d h = (all k d h).number

pub all_short : (text : List ℕ) (tokens : List Token) → All (IsRead text) tokens → each (length_row text) tokens None
all_short text tokens all = each_all (length_row text) tokens Rattle.net_build.specs.Blocks.no_token (λ k h. (all k Rattle.net_build.specs.Blocks.no_token h).short)

module _ (text : List ℕ) (blocks : List BlockTree) where
  wide_is : (outcome : Option Rattle.net_build.specs.Passes.Found) → scaled_pass text (utility_numbers text blocks) outcome → wide_pass text blocks outcome
  unfolding wide_pass
  wide_is outcome h = h

  wide_from : (fault : BuildFault) → IsFaultOrNoMemory build_fault (scaled_pass text (utility_numbers text blocks)) fault → IsFaultOrNoMemory build_fault (wide_pass text blocks) fault
  wide_from NoMemory h = tt
  wide_from (Fault at kind) h = wide_is (Some _) h

  module _ (own : All (IsBlockOf text) blocks) (node_none : node_pass text blocks None) (potential_none : potential_pass text blocks None) (nodes : NodeLists) (links : LinkLists) (n : nodes ≡ node_lists text (node_blocks blocks)) (l : links ≡ link_lists text blocks) where
    pass_is : drafts_pass text nodes.heads links ≡ table_pass text blocks
    unfolding table_pass
    pass_is = λ i. drafts_pass text (n i).heads (l i)

    -- the nodes find nothing
    pub table_clear : drafts_pass text nodes.heads links None → table_pass text blocks None
    table_clear h = subst (λ (P : Pass Found). P None) pass_is h

    pub table_refused : (fault : BuildFault) → IsFaultOrNoMemory build_fault (drafts_pass text nodes.heads links) fault → IsFaultOrNoMemory build_fault (table_pass text blocks ▸ wide_pass text blocks) fault
    table_refused fault h = refused_first (table_pass text blocks) (wide_pass text blocks) (build_fault fault) (same_refused (drafts_pass text nodes.heads links) (table_pass text blocks) (build_fault fault) pass_is h)

    module _ (tokens : List Token) (is : tokens ≡ values_in text nodes blocks) (clear : drafts_pass text nodes.heads links None) where
      tokens_are : tokens ≡ utility_numbers text blocks
      tokens_are = is ∙ ap (λ m. values_in text m blocks) n

      -- the utilities' numbers are read
      pub tokens_read : All (IsRead text) tokens
      tokens_read = subst (All (IsRead text)) (sym tokens_are) (values_read text blocks own node_none potential_none (table_clear clear))

      pub wide_refused : (fault : BuildFault) → IsFaultOrNoMemory build_fault (scaled_pass text tokens) fault → IsFaultOrNoMemory build_fault (table_pass text blocks ▸ wide_pass text blocks) fault
      wide_refused fault h = refused_later (table_pass text blocks) (wide_pass text blocks) (build_fault fault) (table_clear clear) (wide_from fault (subst (λ ts. IsFaultOrNoMemory build_fault (scaled_pass text ts) fault) tokens_are h))

      pub both_clear : scaled_pass text tokens None → (table_pass text blocks ▸ wide_pass text blocks) None
      both_clear h = (table_clear clear, wide_is None (subst (λ ts. scaled_pass text ts None) tokens_are h))

      pub scale_is : (scale : ℕ) → IsScaleOf text tokens scale → IsUtilityScale text blocks scale
      scale_is scale h = subst (λ ts. IsScaleOf text ts scale) tokens_are h

      module _ (scale : ℕ) (scaled : IsScaleOf text tokens scale) (narrow : each (wide_row text scale) tokens None) (drafts : List Draft) (are : AreDrafts text nodes.heads links drafts) where
        own_scaled : IsScaleOf text (utility_numbers text blocks) scale
        own_scaled = subst (λ ts. IsScaleOf text ts scale) tokens_are scaled

        own_narrow : each (wide_row text scale) (utility_numbers text blocks) None
        own_narrow = subst (λ ts. each (wide_row text scale) ts None) tokens_are narrow

        own_are : AreDrafts text (node_lists text (node_blocks blocks)).heads (link_lists text blocks) drafts
        own_are = subst (λ (m : LinkLists). AreDrafts text (node_lists text (node_blocks blocks)).heads m drafts) l (subst (λ (m : NodeLists). AreDrafts text m.heads links drafts) n are)

        pub drafts_fit : All (FitsDraft scale) drafts
        drafts_fit = all_fit text blocks own node_none potential_none scale own_scaled own_narrow drafts own_are

        pub cells_are : (cells : List (List ℤ)) → cells ≡ map (finished scale) drafts → AreTables text blocks scale cells
        cells_are cells same = subst (AreTables text blocks scale) (sym same) (tables_are text blocks own node_none potential_none scale own_scaled own_narrow drafts own_are)

        pub cells_fit : (cells : List (List ℤ)) → cells ≡ map (finished scale) drafts → CanReadTables text nodes.heads links → TablesFit nodes.heads links.parents cells
        cells_fit cells same read = subst (TablesFit nodes.heads links.parents) (sym same) (subst (λ (m : NodeLists). TablesFit m.heads links.parents (map (finished scale) drafts)) (sym n) (subst (λ (m : LinkLists). TablesFit (node_lists text (node_blocks blocks)).heads m.parents (map (finished scale) drafts)) (sym l)
            (tables_fit text blocks own node_none potential_none scale own_scaled own_narrow drafts own_are (subst (λ (m : LinkLists). CanReadTables text (node_lists text (node_blocks blocks)).heads m) l (subst (λ (m : NodeLists). CanReadTables text m.heads links) n read)))))
