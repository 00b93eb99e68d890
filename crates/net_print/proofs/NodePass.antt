-- The pass over nodes finds nothing in the tree of a printed text.
use Rattle.std.proofs.Common.{◌≡◌, ◌∙◌, ◌≢◌, ℕ, suc, ◌+◌, ◌<◌, ◌≤◌, true, cond, List, [], ◌∷◌, ◌++◌, length, get_or, map, filter, All, AllPairs, Contains, None, codes, refl, sym, ap, subst, arith}
use Rattle.std.proofs.lemmas.List.{append_assoc, length-append, length-map, map-append, get_or_default}
use Rattle.std.proofs.lemmas.List.Elements.{All-contains, All-map, filter-append}
use Rattle.std.proofs.lemmas.Grind.{flat_map-append}
use Rattle.std.proofs.lemmas.List.Concat.{flat_map-cons}
use Rattle.std.specs.List.{flat_map}
use Rattle.maid_model.specs.declared.diagrams.Kind.TheVariants.{Chance, Utility}
use Rattle.maid_model.specs.Names.{NamesView, name_of, labels_of, agent_name}
use Rattle.maid_model.specs.Nodes.{node_at, owners_of, Owns}
use Rattle.maid_model.specs.Views.{DiagramView}
use Rattle.net_build.specs.Blocks as look
use Rattle.net_build.specs.Table.{node_pass, node_rows, name_rows, owner_rows, states_rows, sight_row, IsAgentTooMany}
use Rattle.first_fault.specs.Passes.{each_after}
use Rattle.finite_sums.proofs.Sights.{first_sights_all}
use Rattle.net_parser.specs.Trees.{BlockTree}
use Rattle.net_print.specs.Printed.{kind_word, owner_names}
use Rattle.net_print.proofs.Comments.{IsPrintableBehind, text_of}
use Rattle.net_print.proofs.AgentCount.{one_more}
use Rattle.net_print.proofs.Agents.{agents_apart, agents_differ, agents_told}
use Rattle.net_print.proofs.ClearPasses.{after_clear, only_clear, in_whole, not_earlier}
use Rattle.net_print.proofs.Faultless.{nodes_hold}
use Rattle.net_print.proofs.Look.{names_told, node_name_told, at_attributes}
use Rattle.net_print.proofs.NodeRows.{AreLabels, AreOwners, BlockClear, block_clear}
use Rattle.net_print.proofs.Tree.{node_tree, tree_of}
use Rattle.net_print.proofs.Words.{brace_close, open_words, node_words}
use Rattle.net_print.proofs.Written.{At, end_at, text_onto}

too_many : (n m agents : ℕ) → 16 ≤ n → n < m → m ≡ agents → agents ≤ 16 → ⊥
too_many n m agents h l e k = omega arith

too_long : (n most : ℕ) → n ≤ most → most < n → ⊥
too_long n most h k = omega arith

full : (named front rest whole : ℕ) → named ≡ front → whole ≡ front + suc rest → whole ≤ 256 → 256 ≤ named → ⊥
full named front rest whole n e h k = omega arith

module _ (d : DiagramView) (names : NamesView) (is : IsPrintableBehind d names) where
  abbrev Text : List ℕ
  Text = text_of d names is

  abbrev Nodes : List BlockTree
  Nodes = look.node_blocks (tree_of d names is)

  -- the labels of a chance node or a decision
  labels_are : (v : ℕ) → v < length d.nodes → (node_at d.nodes v).kind ≢ Utility → AreLabels (labels_of names v)
  labels_are v l some = record {
    some = subst (λ n. 0 < n) (sym (is.fit.states v l some)) (is.diagram.graph.has_state v);
    few = subst (λ n. n ≤ 256) (sym (is.fit.states v l some)) (is.diagram.limits.states v);
    plain = is.form.labels v [] (subst (λ n. v < n) (sym is.fit.labels) l);
  }

  -- the owners of a decision or a utility
  owners_are : (v : ℕ) → v < length d.nodes → (node_at d.nodes v).kind ≢ Chance → AreOwners (owner_names d.nodes names v)
  owners_are v l owned = record {
    some = omega arith;
    plain = All-map (λ name. look.is_label name ≡ true) (agent_name names) (owners_of d.nodes v) (λ k e h. is.form.agents (get_or (owners_of d.nodes v) k e) [] (known (get_or (owners_of d.nodes v) k e) (k, h, get_or_default (owners_of d.nodes v) k (get_or (owners_of d.nodes v) k e) e h)));
    differ = agents_apart names.agents (agents_differ d names is) (owners_of d.nodes v) (is.diagram.owners.differ v) known;
  }
    where
      known : (a : ℕ) → Owns d.nodes a v → a < length names.agents
      known a o = subst (λ n. a < n) (sym is.fit.agents) (is.diagram.owners.agent v a l owned o)

  one_owner : (v : ℕ) → (node_at d.nodes v).kind ≢ Utility → length (owner_names d.nodes names v) ≡ 1
  one_owner v u = ap (λ more. length (map (agent_name names) ((node_at d.nodes v).owner ∷ more))) (is.diagram.owners.one v u)

  blocks_clear : All (BlockClear Text) Nodes
  blocks_clear = nodes_hold d names is (BlockClear Text) one where
    one : (v p : ℕ) (more : List ℕ) → v < length d.nodes → At Text p (text_onto (node_words d.nodes names v) more) → BlockClear Text (node_tree d.nodes names p v)
    one v p more l at =
        let kind = (node_at d.nodes v).kind in
        block_clear Text (end_at p (open_words (kind_word kind) (name_of names v))) kind (labels_of names v) (owner_names d.nodes names v) (text_onto (brace_close ∷ []) more) (at_attributes Text d.nodes names v p more at) (labels_are v l) (owners_are v l) (one_owner v) (node_tree d.nodes names p v) refl refl

  names_short : All (λ b. length (look.block_name Text b) ≤ 255) Nodes
  names_short = nodes_hold d names is (λ b. length (look.block_name Text b) ≤ 255) (λ v p more l at. subst (λ name. length name ≤ 255) (sym (node_name_told Text d.nodes names v p more at)) (is.form.words v [] (subst (λ n. v < n) (sym is.fit.nodes) l)).size)

  -- the names of the blocks differ
  names_new : (front : List BlockTree) (b : BlockTree) (back : List BlockTree) → front ++ (b ∷ back) ≡ Nodes → Contains (look.names_of Text front) (look.block_name Text b) → ⊥
  names_new front b back e = not_earlier (look.names_of Text front) (look.block_name Text b) (look.names_of Text back) (subst (λ list. AllPairs (λ name later. name ≢ later) list) (sym (sym (map-append (look.block_name Text) front (b ∷ back)) ∙ ap (look.names_of Text) e ∙ names_told d names is)) is.form.distinct)

  names_few : (front : List BlockTree) (b : BlockTree) (back : List BlockTree) → front ++ (b ∷ back) ≡ Nodes → 256 ≤ length (look.names_of Text front) → ⊥
  names_few front b back e =
      let whole : length Nodes ≡ length d.nodes = sym (length-map Nodes (look.block_name Text)) ∙ ap length (names_told d names is) ∙ is.fit.nodes in
      full (length (look.names_of Text front)) (length front) (length back) (length d.nodes) (length-map front (look.block_name Text)) (sym whole ∙ ap length (sym e) ∙ length-append front (b ∷ back)) is.diagram.limits.nodes

  -- no owner of the nodes is one too many
  agents_few : (front : List BlockTree) (b : BlockTree) (back : List BlockTree) → front ++ (b ∷ back) ≡ Nodes → look.has_agent b.kind ≡ true → each_after (sight_row (look.agents_of Text front) (look.title_at b)) [] (look.owner_texts Text b) None
  agents_few front b back e owned = after_clear (sight_row (look.agents_of Text front) (look.title_at b)) [] (look.owner_texts Text b) one where
    kept : List BlockTree → List BlockTree
    kept bs = filter (λ c. look.has_agent c.kind) bs

    agents : List BlockTree → List (List ℕ)
    agents bs = flat_map (look.owner_texts Text) (kept bs)

    parts : agents (front ++ (b ∷ back)) ≡ agents front ++ (look.owner_texts Text b ++ agents back)
    parts =
        ap (flat_map (look.owner_texts Text)) (filter-append (λ c. look.has_agent c.kind) front (b ∷ back))
        ∙ flat_map-append (look.owner_texts Text) (kept front) (kept (b ∷ back))
        ∙ ap (λ t. agents front ++ flat_map (look.owner_texts Text) (cond t (b ∷ kept back) (kept back))) owned
        ∙ ap (λ rest. agents front ++ rest) (flat_map-cons (look.owner_texts Text) b (kept back))

    one : (before : List (List ℕ)) (agent : List ℕ) (after : List (List ℕ)) → before ++ (agent ∷ after) ≡ look.owner_texts Text b → IsAgentTooMany (look.with_sights (look.agents_of Text front) before) agent → ⊥
    one before agent after split (many, new) =
        let seen : look.first_sights (agents front ++ before) ≡ look.with_sights (look.agents_of Text front) before = first_sights_all (agents front) before in
        let whole : (agents front ++ before) ++ (agent ∷ (after ++ agents back)) ≡ agents (front ++ (b ∷ back)) =
        append_assoc (agents front) before (agent ∷ (after ++ agents back))
        ∙ ap (λ rest. agents front ++ rest) (sym (append_assoc before (agent ∷ after) (agents back)) ∙ ap (λ own. own ++ agents back) split)
        ∙ sym parts in
        let count : length (look.first_sights ((agents front ++ before) ++ (agent ∷ (after ++ agents back)))) ≡ d.agents =
        ap (λ list. length (look.first_sights list)) whole ∙ ap (λ bs. length (look.agents_of Text bs)) e ∙ ap length (agents_told d names is) ∙ is.fit.agents in
        too_many (length (look.with_sights (look.agents_of Text front) before)) (length (look.first_sights ((agents front ++ before) ++ (agent ∷ (after ++ agents back))))) d.agents many
        (subst (λ s. length s < length (look.first_sights ((agents front ++ before) ++ (agent ∷ (after ++ agents back))))) seen
        (one_more (agents front ++ before) agent (after ++ agents back) (subst (λ s. Contains s agent → ⊥) (sym seen) new)))
        count is.diagram.limits.agents

  row_clear : (front : List BlockTree) (b : BlockTree) (back : List BlockTree) → front ++ (b ∷ back) ≡ Nodes → node_rows Text (look.names_of Text front) (look.agents_of Text front) b None
  unfolding node_rows name_rows owner_rows
  row_clear front b back e =
      let among : Contains Nodes b = subst (λ list. Contains list b) e (in_whole front b back) in
      let clear = All-contains (BlockClear Text) Nodes b blocks_clear among in (
        (
          names_few front b back e,
          (
            too_long (length (look.block_name Text b)) 255 (All-contains (λ b. length (look.block_name Text b) ≤ 255) Nodes b names_short among),
            names_new front b back e,
          ),
        ),
        (
          clear.once,
          (
            only_clear (look.has_states b.kind) (states_rows Text b (look.named Text (codes "states") b.attributes)) clear.states,
            only_clear (look.has_agent b.kind) (owner_rows Text (look.agents_of Text front) b) (λ owned. (clear.owners owned, agents_few front b back e owned)),
          ),
        ),
      )

  pub nodes_clear : node_pass Text (tree_of d names is) None
  unfolding node_pass
  nodes_clear = after_clear (λ earlier b. node_rows Text (look.names_of Text earlier) (look.agents_of Text earlier) b) [] Nodes row_clear
