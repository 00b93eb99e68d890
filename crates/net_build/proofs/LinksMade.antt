-- Where the passes over potentials, the graph and the sizes find nothing, the parents make a graph
-- within the limits.
use Rattle.std.proofs.Common.{◌≡◌, ◌+◌, ◌<◌, ◌≤◌, ℕ, zero, suc, Bool, true, false, cond, List, [], All, length, get_or, map, take, Option, None, Some, refl, sym, subst, ◌∙◌, arith}
use Rattle.std.proofs.lemmas.List.{length-map}
use Rattle.std.proofs.lemmas.List.Elements.{All-map}
use Rattle.std.specs.Option.{option_map_or}
use Rattle.std.specs.Str.{bytes_eq}
use Rattle.maid_model.specs.Nodes.{is_decision}
use Rattle.net_parser.specs.Trees.{BlockTree}
use Rattle.net_build.specs.declared.nodes.Head.{Head}
use Rattle.net_build.specs.Blocks.{node_blocks, potentials, block_name, names_of, conditions, condition_places, potential_of, block_parents, parent_lists}
use Rattle.net_build.specs.Linking.{AreParents, behind_rows, size_steps_at, rules_before, rules_row}
use Rattle.net_build.specs.Stages.{AreLinks, head_of, head_at, cells_of_head}
use Rattle.net_build.specs.Table.{potential_pass, graph_pass, size_pass}
use Rattle.net_build.proofs.BlockLemmas.{each_after_at, found_in}
use Rattle.net_build.proofs.FitLemmas.{not_above, conditions_fit, none_fit, links_fit}
use Rattle.net_build.proofs.LinkLemmas.{number_at}
use Rattle.net_build.proofs.NodeFacts.{only_on}
use Rattle.net_build.proofs.SizeLemmas.{rules_more}

module _ (text : List ℕ) (blocks : List BlockTree) where
  abbrev nodes : List BlockTree
  nodes = node_blocks blocks

  abbrev heads : List Head
  heads = map (head_of text nodes) nodes

  heads_len : length heads ≡ length nodes
  heads_len = length-map nodes (head_of text nodes)

  -- ---- parents
  potential_fits : (earlier : List BlockTree) (p : BlockTree) → behind_rows text (names_of text nodes) heads earlier p None → AreParents heads (condition_places text nodes p)
  potential_fits earlier p h = conditions_fit text (names_of text nodes) heads (conditions p) (condition_places text nodes p) (heads_len ∙ sym (length-map nodes (block_name text))) h.1.1.0 h.1.1.1 refl

  potentials_fit : potential_pass text blocks None → All (λ p. AreParents heads (condition_places text nodes p)) (potentials blocks)
  unfolding potential_pass
  potentials_fit none k d h = potential_fits (take k (potentials blocks)) (get_or (potentials blocks) k d) (each_after_at (behind_rows text (names_of text nodes) heads) [] (potentials blocks) d k none h)

  pub parents_fit : potential_pass text blocks None → All (AreParents heads) (parent_lists text blocks)
  parents_fit none = All-map (AreParents heads) (λ b. block_parents text blocks (block_name text b)) nodes (λ k d h. by_option (block_name text (get_or nodes k d)) (potential_of text blocks (block_name text (get_or nodes k d))) refl) where
    by_option : (name : List ℕ) (o : Option BlockTree) → potential_of text blocks name ≡ o → AreParents heads (option_map_or (condition_places text nodes) o [])
    by_option name None e = none_fit heads
    by_option name (Some p) e = (found_in (λ q. bytes_eq (block_name text q) name) (λ q. AreParents heads (condition_places text nodes q)) (potentials blocks) p e (potentials_fit none)).0

  -- ---- sizes
  abbrev lists : List (List ℕ)
  lists = parent_lists text blocks

  size_at : size_pass text blocks None → (v : ℕ) → v < length heads → size_steps_at heads lists v None
  unfolding size_pass
  size_at none v h = number_at (size_steps_at heads lists) (length heads) v none h

  -- the cells of the rules of the first nodes
  few_rules : size_pass text blocks None → (n : ℕ) → n ≤ length heads → rules_before heads lists n ≤ 262144
  few_rules none zero h = omega arith
  few_rules none (suc n) h = subst (λ (m : ℕ). rules_before heads lists m ≤ 262144) (let e : n + 1 ≡ suc n = omega arith in e) (subst (λ (m : ℕ). m ≤ 262144) (sym (rules_more heads lists n)) (by_test (is_decision (head_at heads n).kind) refl (few_rules none n (omega arith)))) where
    by_test : (t : Bool) → is_decision (head_at heads n).kind ≡ t → rules_before heads lists n ≤ 262144 → rules_before heads lists n + cond (is_decision (head_at heads n).kind) (cells_of_head heads lists n) 0 ≤ 262144
    by_test true e few = rw e (not_above (rules_before heads lists n + cells_of_head heads lists n) 262144 (only_on (is_decision (head_at heads n).kind) (rules_row (head_at heads n) (rules_before heads lists n + cells_of_head heads lists n)) e (size_at none n (omega arith)).1))
    by_test false e few = rw e (omega arith)

  pub links_made : potential_pass text blocks None → graph_pass text blocks None → size_pass text blocks None → AreLinks heads lists
  unfolding graph_pass
  links_made potential_none graph_none size_none =
      links_fit heads lists (parents_fit potential_none) graph_none (λ v h. not_above (cells_of_head heads lists v) 65536 (size_at size_none v h).0) (few_rules size_none (length heads) (omega arith))
