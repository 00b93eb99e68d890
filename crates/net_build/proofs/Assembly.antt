-- What a tree stands for is made of what its steps say.
use Rattle.std.proofs.Common.{◌≡◌, ◌≢◌, ◌⊎◌, inl, inr, ℕ, suc, ◌<◌, ◌≤◌, Bool, true, false, not, cond, List, [], ◌∷◌, ◌++◌, length, get_or, map, filter, drop, All, Contains, None, refl, ap, sym, ◌∙◌, subst, arith}
use Rattle.std.proofs.lemmas.Bool.{false≢true, cases_lt}
use Rattle.std.proofs.lemmas.List.{get_or-map, get_or_past, length-map, map-id}
use Rattle.std.proofs.lemmas.List.Elements.{All-nil, All-append, All-map, All-filter, filter_passes}
use Rattle.std.proofs.lemmas.List.FromFn.{fill_by_all, length-map-range_with_len}
use Rattle.std.proofs.lemmas.List.Concat.{flat_map-cons}
use Rattle.std.specs.List.{flat_map, range_with_len}
use Rattle.std.specs.Prelude.{if◌then◌else◌, codes}
use Rattle.maid_model.specs.declared.diagrams.Kind.TheVariants.{Chance, Decision, Utility}
use Rattle.maid_model.specs.Diagrams.{IsDiagram}
use Rattle.maid_model.specs.Graph.{AllDifferent}
use Rattle.maid_model.specs.Names.{NamesFit, agent_name}
use Rattle.maid_model.specs.Nodes.{is_chance}
use Rattle.maid_model.specs.Views.{NodeView}
use Rattle.net_lexer.specs.Token.{text_value}
use Rattle.net_build.specs.declared.nodes.Head.{Head}
use Rattle.net_build.specs.Blocks.{is_node, kind_of, node_blocks, block_name, has_states, has_agent, may_share, named, leaves_of, label_tokens, block_labels, block_states, owner_texts, agents_of, place_among, owner_numbers, block_parents, parent_lists, is_label, first_sights, no_token}
use Rattle.net_build.specs.Building.{StandsFor, AreTables, names_view}
use Rattle.net_build.specs.Form.{IsNodeName, HasTextForm}
use Rattle.net_build.specs.Stages.{TableLists, AreLinks, TablesFit, first_owner, more_owners, head_of, node_lists, link_lists, head_at, no_head, made_at, made_nodes, made_diagram}
use Rattle.net_build.specs.Table.{IsUtilityScale, node_pass, no_block}
use Rattle.net_lexer.specs.declared.tokens.Token.{Token}
use Rattle.net_parser.specs.Owned.{IsBlockOf}
use Rattle.net_parser.specs.Trees.{BlockTree}
use Rattle.net_parser.specs.declared.trees.BlockKind.{BlockKind}
use Rattle.net_parser.specs.declared.trees.BlockKind.TheVariants as blocks
use Rattle.net_build.proofs.AgentFacts.{HasOwnersOf, agents_known, owners_name, places_within, places_differ}
use Rattle.net_build.proofs.MadeDiagram.{HeadFits, OwnersFit, Fits, made_node_at, made_is_diagram}
use Rattle.net_build.proofs.NodeFacts.{IsGood, AreGood, nodes_are_good, sights_all}
use Rattle.net_build.proofs.NodeLemmas.{node_is_named}
use Rattle.net_build.proofs.OwnerLemmas.{first_and_more}
use Rattle.net_build.proofs.SightLemmas.{agents_among}

-- a function of the elements by their places
map_map : {X Y Z : Type 0} (g : Y → Z) (f : X → Y) (xs : List X) → map g (map f xs) ≡ map (λ x. g (f x)) xs
map_map g f [] = refl
map_map g f (x ∷ xs) = ap (λ l. g (f x) ∷ l) (map_map g f xs)

by_places : {X Y : Type 0} (h : X → Y) (xs : List X) (d : X) → map (λ v. h (get_or xs v d)) (range_with_len 0 (length xs)) ≡ map h xs
by_places h xs d = sym (fill_by_all (λ v. h (get_or xs v d)) (map h xs) (length xs) (h d) (length-map xs h) (λ k l. get_or-map h xs k d (h d) l))

-- a list by what stands at each of its places
by_each : {Y : Type 0} (f : ℕ → List Y) (ys : List (List Y)) (n : ℕ) → length ys ≡ n → ((v : ℕ) → v < n → f v ≡ get_or ys v []) → map f (range_with_len 0 n) ≡ ys
by_each f ys n len here = sym (fill_by_all f ys n [] len (λ k l. sym (here k l)))

-- what holds of all heads, and of what stands for one that isn't there, holds at each number
at_all : (P : Head → Type 0) (heads : List Head) → All P heads → P no_head → (v : ℕ) → P (head_at heads v)
at_all P heads all past v = by_place (cases_lt v (length heads)) where
  by_place : (v < length heads) ⊎ (length heads ≤ v) → P (head_at heads v)
  by_place (inl h) = all v no_head h
  by_place (inr h) = subst P (sym (get_or_past heads v no_head h)) past

-- the head of a good block fits
block_fits : (text : List ℕ) (nodes : List BlockTree) (b : BlockTree) → IsGood text b → is_node b.kind ≡ true → HeadFits (head_of text nodes b)
block_fits text nodes b good node = by_kind b.kind refl node where
  with_labels : (k : BlockKind) → b.kind ≡ k → has_states k ≡ true → block_states text b ≡ length (leaves_of (named text (codes "states") b.attributes))
  with_labels k e s =
      let states : has_states b.kind ≡ true = ap has_states e ∙ s in
      ap (λ t. if t then length (label_tokens text b) else 1) states ∙ ap (λ t. length (if t then leaves_of (named text (codes "states") b.attributes) else [])) states

  without : (k : BlockKind) → b.kind ≡ k → has_states k ≡ false → block_states text b ≡ 1
  without k e s = ap (λ t. if t then length (label_tokens text b) else 1) (ap has_states e ∙ s)

  by_kind : (k : BlockKind) → b.kind ≡ k → is_node b.kind ≡ true → HeadFits (head_of text nodes b)
  by_kind blocks.Net e n = absurd (false≢true (sym (ap is_node e) ∙ n))
  by_kind blocks.Potential e n = absurd (false≢true (sym (ap is_node e) ∙ n))
  by_kind blocks.Node e n =
      let count = with_labels blocks.Node e refl in
      let labels = good.labels (ap has_states e) in
      let some = labels.some in
      let few = labels.few in
      record {
        some = omega (arith, count, some);
        many = omega (arith, count, few);
        utility = λ u. let clash : Chance ≡ Utility = sym (ap kind_of e) ∙ u in cc;
        chance = λ c. ap (λ k. get_or (if has_agent k then map (place_among (agents_of text nodes)) (owner_texts text b) else 0 ∷ []) 0 0) e;
      }
  by_kind blocks.Decision e n =
      let count = with_labels blocks.Decision e refl in
      let labels = good.labels (ap has_states e) in
      let some = labels.some in
      let few = labels.few in
      record {
        some = omega (arith, count, some);
        many = omega (arith, count, few);
        utility = λ u. let clash : Decision ≡ Utility = sym (ap kind_of e) ∙ u in cc;
        chance = λ c. let clash : Decision ≡ Chance = sym (ap kind_of e) ∙ c in cc;
      }
  by_kind blocks.Utility e n =
      let count = without blocks.Utility e refl in
      record {
        some = omega (arith, count);
        many = omega (arith, count);
        utility = λ u. count;
        chance = λ c. let clash : Utility ≡ Chance = sym (ap kind_of e) ∙ c in cc;
      }

-- a node that is no chance node has an agent, and one that is no utility has states
has_owner : (k : BlockKind) → is_node k ≡ true → kind_of k ≢ Chance → has_agent k ≡ true
has_owner blocks.Net n c = absurd (false≢true n)
has_owner blocks.Node n c = absurd (c refl)
has_owner blocks.Decision n c = refl
has_owner blocks.Utility n c = refl
has_owner blocks.Potential n c = absurd (false≢true n)

not_shared : (k : BlockKind) → is_node k ≡ true → kind_of k ≢ Utility → may_share k ≡ false
not_shared blocks.Net n c = absurd (false≢true n)
not_shared blocks.Node n c = refl
not_shared blocks.Decision n c = refl
not_shared blocks.Utility n c = absurd (c refl)
not_shared blocks.Potential n c = absurd (false≢true n)

has_labels : (k : BlockKind) → is_node k ≡ true → kind_of k ≢ Utility → has_states k ≡ true
has_labels blocks.Net n c = absurd (false≢true n)
has_labels blocks.Node n c = refl
has_labels blocks.Decision n c = refl
has_labels blocks.Utility n c = absurd (c refl)
has_labels blocks.Potential n c = absurd (false≢true n)

-- a utility's block has no labels
no_labels : (k : BlockKind) → kind_of k ≡ Utility → has_states k ≡ false
no_labels blocks.Net u = refl
no_labels blocks.Node u = let clash : Chance ≡ Utility = u in cc
no_labels blocks.Decision u = let clash : Decision ≡ Utility = u in cc
no_labels blocks.Utility u = refl
no_labels blocks.Potential u = refl

module _ (text : List ℕ) (tree : List BlockTree) (tables : TableLists) (own : All (IsBlockOf text) tree) (rows : node_pass text tree None) (links : AreLinks (node_lists text (node_blocks tree)).heads (parent_lists text tree))
    (are : AreTables text tree tables.decimals tables.cells) (fit : TablesFit (node_lists text (node_blocks tree)).heads (parent_lists text tree) tables.cells) (few : tables.decimals ≤ 30) (scale : IsUtilityScale text tree tables.decimals) where
  abbrev nodes : List BlockTree
  nodes = node_blocks tree

  abbrev heads : List Head
  heads = map (head_of text (node_blocks tree)) (node_blocks tree)

  abbrev more : List (List ℕ)
  more = map (more_owners text (node_blocks tree)) (node_blocks tree)

  good : AreGood text nodes
  good = nodes_are_good text tree rows

  kinds : All (λ b. is_node b.kind ≡ true) nodes
  kinds = filter_passes (λ b. is_node b.kind) tree

  owned_blocks : All (IsBlockOf text) nodes
  owned_blocks = All-filter (λ b. is_node b.kind) (IsBlockOf text) tree own

  heads_len : length heads ≡ length nodes
  heads_len = length-map nodes (head_of text nodes)

  heads_are : (v : ℕ) → HeadFits (head_at heads v)
  heads_are = at_all HeadFits heads (All-map HeadFits (head_of text nodes) nodes (λ k d h. block_fits text nodes (get_or nodes k d) (good.each k d h) (kinds k d h)))
      (record { some = omega arith; many = omega arith; utility = λ u. refl; chance = λ c. refl })

  -- each node has an owner's number
  some_owner : (b : BlockTree) → is_node b.kind ≡ true → IsGood text b → 0 < length (owner_numbers text nodes b)
  some_owner b node this = by_test (has_agent b.kind) refl where
    by_test : (t : Bool) → has_agent b.kind ≡ t → 0 < length (owner_numbers text nodes b)
    by_test true e =
        let count = ap (λ t. length (if t then map (place_among (agents_of text nodes)) (owner_texts text b) else 0 ∷ [])) e ∙ length-map (owner_texts text b) (place_among (agents_of text nodes)) in
        let some = (this.owners e).some in omega (arith, count, some)
    by_test false e = let count = ap (λ t. length (if t then map (place_among (agents_of text nodes)) (owner_texts text b) else 0 ∷ [])) e in omega (arith, count)

  -- the owners of a block fit its kind
  owners_of_block : (b : BlockTree) → is_node b.kind ≡ true → IsGood text b → HasOwnersOf text (agents_of text nodes) b → OwnersFit (kind_of b.kind) (first_owner text nodes b) (more_owners text nodes b) (length (agents_of text nodes))
  owners_of_block b node this known = by_test (has_agent b.kind) refl where
    nothing_in : Contains {X = ℕ} [] 0 → ⊥
    nothing_in (k, l, f) = absurd (omega arith)

    alone : (owners : List ℕ) → length owners ≡ 1 → drop 1 owners ≡ []
    alone [] l = absurd (omega arith)
    alone (o ∷ []) l = refl
    alone (o ∷ p ∷ owners) l = absurd (omega arith)

    by_test : (t : Bool) → has_agent b.kind ≡ t → OwnersFit (kind_of b.kind) (first_owner text nodes b) (more_owners text nodes b) (length (agents_of text nodes))
    by_test true e =
        let names = this.owners e in
        let are : owner_numbers text nodes b ≡ map (place_among (agents_of text nodes)) (owner_texts text b) = ap (λ t. if t then map (place_among (agents_of text nodes)) (owner_texts text b) else 0 ∷ []) e in
        let count : length (owner_numbers text nodes b) ≡ length (owner_texts text b) = ap length are ∙ length-map (owner_texts text b) (place_among (agents_of text nodes)) in
        let whole : first_owner text nodes b ∷ more_owners text nodes b ≡ map (place_among (agents_of text nodes)) (owner_texts text b) = first_and_more (owner_numbers text nodes b) (let s = names.some in omega (arith, count, s)) ∙ are in
        record {
          known = λ c. subst (All (λ a. a < length (agents_of text nodes))) (sym whole) (places_within (agents_of text nodes) (owner_texts text b) (known e));
          differ = subst AllDifferent (sym whole) (places_differ (agents_of text nodes) (owner_texts text b) (known e) names.distinct);
          one = λ u. alone (owner_numbers text nodes b) (count ∙ names.one (not_shared b.kind node u));
        }
    by_test false e =
        let are : owner_numbers text nodes b ≡ 0 ∷ [] = ap (λ t. if t then map (place_among (agents_of text nodes)) (owner_texts text b) else 0 ∷ []) e in
        record {
          known = λ c. absurd (false≢true (sym e ∙ has_owner b.kind node c));
          differ = subst (λ l. AllDifferent (get_or l 0 0 ∷ drop 1 l)) (sym are) ((λ c. absurd (nothing_in c)), tt);
          one = λ u. ap (drop 1) are;
        }

  owners_are : (v : ℕ) → v < length heads → OwnersFit (head_at heads v).kind (head_at heads v).owner (get_or more v []) (length (agents_of text nodes))
  owners_are v h =
      let within : v < length nodes = subst (λ (n : ℕ). v < n) heads_len h in
      let b : BlockTree = get_or nodes v no_block in
      let head : head_at heads v ≡ head_of text nodes b = get_or-map (head_of text nodes) nodes v no_block no_head within in
      let others : get_or more v [] ≡ more_owners text nodes b = get_or-map (more_owners text nodes) nodes v no_block [] within in
      let fit = owners_of_block b (kinds v no_block within) (good.each v no_block within) (agents_known text nodes v no_block within) in
      subst (λ (x : Head). OwnersFit x.kind x.owner (get_or more v []) (length (agents_of text nodes))) (sym head)
      (subst (λ (m : List ℕ). OwnersFit (kind_of b.kind) (first_owner text nodes b) m (length (agents_of text nodes))) (sym others) fit)

  more_len : length more ≡ length heads
  more_len = length-map nodes (more_owners text nodes) ∙ sym heads_len

  parents_len : length (parent_lists text tree) ≡ length heads
  parents_len = let n = heads_len in let m = length-map nodes (λ b. block_parents text tree (block_name text b)) in omega arith

  cells_len : length tables.cells ≡ length heads
  cells_len = are.len ∙ sym heads_len

  fits : Fits heads more (parent_lists text tree) tables.cells (length (agents_of text nodes)) tables.decimals
  fits = record {
    more_len = more_len;
    parents_len = parents_len;
    cells_len = cells_len;
    heads_fit = heads_are;
    owners = owners_are;
    count = let n = heads_len in let m = good.few in omega arith;
    few_agents = good.agents;
    links = links;
    tables = fit;
    few = few;
  }

  pub made_is : IsDiagram (made_diagram (node_lists text (node_blocks tree)) (link_lists text tree) tables)
  made_is = made_is_diagram heads more (parent_lists text tree) tables.cells (length (agents_of text nodes)) tables.decimals fits

  -- a part of each head, as a part of each node
  parts : {Y : Type 0} (h : Head → Y) (g : NodeView → Y) → ((v : ℕ) → g (made_at heads more (parent_lists text tree) tables.cells v) ≡ h (head_at heads v)) → map g (made_nodes heads more (parent_lists text tree) tables.cells) ≡ map (λ b. h (head_of text nodes b)) nodes
  parts h g same =
      map_map g (made_at heads more (parent_lists text tree) tables.cells) (range_with_len 0 (length heads))
      ∙ ap (λ f. map f (range_with_len 0 (length heads))) (λ j v. same v j)
      ∙ by_places h heads no_head
      ∙ map_map h (head_of text nodes) nodes

  -- a list with an element for each node
  columns : {X : Type 0} (xs : List X) (d : X) (g : NodeView → X) → length xs ≡ length heads → ((v : ℕ) → g (made_at heads more (parent_lists text tree) tables.cells v) ≡ get_or xs v d) → map g (made_nodes heads more (parent_lists text tree) tables.cells) ≡ xs
  columns xs d g len same =
      map_map g (made_at heads more (parent_lists text tree) tables.cells) (range_with_len 0 (length heads))
      ∙ (λ j. map (λ v. same v j) (range_with_len 0 (sym len j)))
      ∙ by_places (λ x. x) xs d
      ∙ map-id xs

  -- each node's owners are its block's
  owner_lists : map (λ n. n.owner ∷ n.more) (made_nodes heads more (parent_lists text tree) tables.cells) ≡ map (owner_numbers text nodes) nodes
  owner_lists =
      map_map (λ n. n.owner ∷ n.more) (made_at heads more (parent_lists text tree) tables.cells) (range_with_len 0 (length heads))
      ∙ by_each (λ v. (head_at heads v).owner ∷ get_or more v []) (map (owner_numbers text nodes) nodes) (length heads) (length-map nodes (owner_numbers text nodes) ∙ sym heads_len) here
    where
      here : (v : ℕ) → v < length heads → (head_at heads v).owner ∷ get_or more v [] ≡ get_or (map (owner_numbers text nodes) nodes) v []
      here v h =
          let within : v < length nodes = subst (λ (n : ℕ). v < n) heads_len h in
          let b : BlockTree = get_or nodes v no_block in
          let head : head_at heads v ≡ head_of text nodes b = get_or-map (head_of text nodes) nodes v no_block no_head within in
          let others : get_or more v [] ≡ more_owners text nodes b = get_or-map (more_owners text nodes) nodes v no_block [] within in
          (λ j. (head j).owner ∷ others j) ∙ first_and_more (owner_numbers text nodes b) (some_owner b (kinds v no_block within) (good.each v no_block within))
          ∙ sym (get_or-map (owner_numbers text nodes) nodes v no_block [] within)

  pub made_stands : StandsFor text tree (made_diagram (node_lists text (node_blocks tree)) (link_lists text tree) tables) (names_view text tree)
  made_stands = record {
    names_are = refl;
    agents = refl;
    kinds = parts (λ h. h.kind) (λ n. n.kind) (λ v. refl);
    owners = owner_lists;
    states = parts (λ h. h.states) (λ n. n.states) (λ v. refl);
    parents = columns (parent_lists text tree) [] (λ n. n.parents) parents_len (λ v. refl);
    scale = scale;
    tables = subst (AreTables text tree tables.decimals) (sym (columns tables.cells [] (λ n. n.cells) cells_len (λ v. refl))) are;
  }

  made_len : length (made_nodes heads more (parent_lists text tree) tables.cells) ≡ length heads
  made_len = length-map-range_with_len (made_at heads more (parent_lists text tree) tables.cells) 0 (length heads)

  label_counts : (v : ℕ) → v < length heads → (head_at heads v).kind ≢ Utility → length (get_or (map (block_labels text) nodes) v []) ≡ (head_at heads v).states
  label_counts v h other =
      let within : v < length nodes = subst (λ (n : ℕ). v < n) heads_len h in
      let b : BlockTree = get_or nodes v no_block in
      let head : head_at heads v ≡ head_of text nodes b = get_or-map (head_of text nodes) nodes v no_block no_head within in
      let states = has_labels b.kind (kinds v no_block within) (subst (λ (x : Head). x.kind ≢ Utility) head other) in
      ap length (get_or-map (block_labels text) nodes v no_block [] within) ∙ length-map (label_tokens text b) (text_value text)
      ∙ sym (ap (λ t. if t then length (label_tokens text b) else 1) states) ∙ sym (ap (λ (x : Head). x.states) head)

  pub made_fit : NamesFit (made_diagram (node_lists text (node_blocks tree)) (link_lists text tree) tables) (names_view text tree)
  made_fit = record {
    nodes = length-map nodes (block_name text) ∙ sym (made_len ∙ heads_len);
    labels = length-map nodes (block_labels text) ∙ sym (made_len ∙ heads_len);
    states = λ v h.
        let at = made_node_at heads more (parent_lists text tree) tables.cells more_len parents_len cells_len v in
        let within : v < length heads = subst (λ (n : ℕ). v < n) made_len h in
        subst (λ (n : NodeView). n.kind ≢ Utility → length (get_or (map (block_labels text) nodes) v []) ≡ n.states) (sym at) (label_counts v within);
    agents = refl;
  }

  labels_absent : (v : ℕ) → (head_at heads v).kind ≡ Utility → get_or (map (block_labels text) nodes) v [] ≡ []
  labels_absent v u = by_place (cases_lt v (length nodes)) where
    by_place : (v < length nodes) ⊎ (length nodes ≤ v) → get_or (map (block_labels text) nodes) v [] ≡ []
    by_place (inl h) =
        let b : BlockTree = get_or nodes v no_block in
        let head : head_at heads v ≡ head_of text nodes b = get_or-map (head_of text nodes) nodes v no_block no_head h in
        let states = no_labels b.kind (sym (ap (λ (x : Head). x.kind) head) ∙ u) in
        get_or-map (block_labels text) nodes v no_block [] h
        ∙ ap (λ t. map (text_value text) (if t then leaves_of (named text (codes "states") b.attributes) else [])) states
    by_place (inr h) = let len = length-map nodes (block_labels text) in get_or_past (map (block_labels text) nodes) v [] (omega (arith, len))

  node_name : (b : BlockTree) → IsBlockOf text b → is_node b.kind ≡ true → length (block_name text b) ≤ 255 → IsNodeName (block_name text b)
  node_name b block node short = record { unsigned = (block.names 0 no_token (node_is_named b.kind (length b.names) node block.count)).name.unsigned; size = short }

  labels_plain : (b : BlockTree) → IsGood text b → All (λ l. is_label l ≡ true) (block_labels text b)
  labels_plain b this = by_test (has_states b.kind) refl where
    by_test : (t : Bool) → has_states b.kind ≡ t → All (λ l. is_label l ≡ true) (block_labels text b)
    by_test true e = All-map (λ l. is_label l ≡ true) (text_value text) (label_tokens text b) (subst (All (λ t. is_label (text_value text t) ≡ true)) (sym (ap (λ t. if t then leaves_of (named text (codes "states") b.attributes) else []) e)) (this.labels e).plain)
    by_test false e = subst (λ (ts : List Token). All (λ l. is_label l ≡ true) (map (text_value text) ts)) (sym (ap (λ t. if t then leaves_of (named text (codes "states") b.attributes) else []) e)) (λ k d h. absurd (omega arith))

  agents_plain : All (λ a. is_label a ≡ true) (agents_of text nodes)
  agents_plain = sights_all (λ a. is_label a ≡ true) (agents_among text nodes) (all_among (filter (λ b. has_agent b.kind) nodes)
      (λ k d h. ((All-filter (λ b. has_agent b.kind) (IsGood text) nodes good.each k d h).owners (filter_passes (λ b. has_agent b.kind) nodes k d h)).plain))
    where
      all_among : (bs : List BlockTree) → All (λ b. All (λ a. is_label a ≡ true) (owner_texts text b)) bs → All (λ a. is_label a ≡ true) (flat_map (owner_texts text) bs)
      all_among [] all = All-nil (λ a. is_label a ≡ true)
      all_among (b ∷ bs) all = subst (All (λ a. is_label a ≡ true)) (sym (flat_map-cons (owner_texts text) b bs))
          (All-append (λ a. is_label a ≡ true) (owner_texts text b) (flat_map (owner_texts text) bs) (all 0 b (omega arith)) (all_among bs (λ k d h. all (suc k) d (omega arith))))

  -- the agents by the nodes' owners
  numbered : agents_of text nodes ≡ first_sights (flat_map (λ n. map (agent_name (names_view text tree)) (n.owner ∷ n.more)) (filter (λ n. not (is_chance n.kind)) (made_nodes heads more (parent_lists text tree) tables.cells)))
  numbered = sym (ap first_sights (kept (made_nodes heads more (parent_lists text tree) tables.cells) nodes kinds_same owner_lists ∙ owners_name text nodes nodes kinds (agents_known text nodes)))
    where
      kinds_same : map (λ (n : NodeView). n.kind) (made_nodes heads more (parent_lists text tree) tables.cells) ≡ map (λ b. kind_of b.kind) nodes
      kinds_same = parts (λ h. h.kind) (λ n. n.kind) (λ v. refl)

      named : List ℕ → List (List ℕ)
      named owners = map (λ v. get_or (agents_of text nodes) v []) owners

      -- what is kept by kinds and named by owners is the same where these are
      kept : (ns : List NodeView) (bs : List BlockTree) → map (λ (n : NodeView). n.kind) ns ≡ map (λ b. kind_of b.kind) bs → map (λ (n : NodeView). n.owner ∷ n.more) ns ≡ map (owner_numbers text nodes) bs
          → flat_map (λ (n : NodeView). named (n.owner ∷ n.more)) (filter (λ n. not (is_chance n.kind)) ns) ≡ flat_map (λ b. named (owner_numbers text nodes b)) (filter (λ b. not (is_chance (kind_of b.kind))) bs)
      kept [] [] k o = refl
      kept [] (b ∷ bs) k o = cc
      kept (n ∷ ns) [] k o = cc
      kept (n ∷ ns) (b ∷ bs) k o =
          let kinds : n.kind ≡ kind_of b.kind = ap (λ l. get_or l 0 Chance) k in
          let owners : n.owner ∷ n.more ≡ owner_numbers text nodes b = ap (λ l. get_or l 0 []) o in
          by_test (not (is_chance n.kind)) refl (ap (λ x. not (is_chance x)) kinds) owners (kept ns bs (ap (drop 1) k) (ap (drop 1) o))
        where
          by_test : (t : Bool) → not (is_chance n.kind) ≡ t → not (is_chance n.kind) ≡ not (is_chance (kind_of b.kind)) → n.owner ∷ n.more ≡ owner_numbers text nodes b
              → flat_map (λ (n : NodeView). named (n.owner ∷ n.more)) (filter (λ n. not (is_chance n.kind)) ns) ≡ flat_map (λ b. named (owner_numbers text nodes b)) (filter (λ b. not (is_chance (kind_of b.kind))) bs)
              → flat_map (λ (n : NodeView). named (n.owner ∷ n.more)) (filter (λ n. not (is_chance n.kind)) (n ∷ ns)) ≡ flat_map (λ b. named (owner_numbers text nodes b)) (filter (λ b. not (is_chance (kind_of b.kind))) (b ∷ bs))
          by_test true t same owners rec =
              ap (λ c. flat_map (λ (n : NodeView). named (n.owner ∷ n.more)) (cond c (n ∷ filter (λ n. not (is_chance n.kind)) ns) (filter (λ n. not (is_chance n.kind)) ns))) t
              ∙ flat_map-cons (λ (n : NodeView). named (n.owner ∷ n.more)) n (filter (λ n. not (is_chance n.kind)) ns)
              ∙ (λ j. named (owners j) ++ rec j)
              ∙ sym (flat_map-cons (λ b. named (owner_numbers text nodes b)) b (filter (λ b. not (is_chance (kind_of b.kind))) bs))
              ∙ sym (ap (λ c. flat_map (λ b. named (owner_numbers text nodes b)) (cond c (b ∷ filter (λ b. not (is_chance (kind_of b.kind))) bs) (filter (λ b. not (is_chance (kind_of b.kind))) bs))) (sym same ∙ t))
          by_test false t same owners rec =
              ap (λ c. flat_map (λ (n : NodeView). named (n.owner ∷ n.more)) (cond c (n ∷ filter (λ n. not (is_chance n.kind)) ns) (filter (λ n. not (is_chance n.kind)) ns))) t
              ∙ rec
              ∙ sym (ap (λ c. flat_map (λ b. named (owner_numbers text nodes b)) (cond c (b ∷ filter (λ b. not (is_chance (kind_of b.kind))) bs) (filter (λ b. not (is_chance (kind_of b.kind))) bs))) (sym same ∙ t))

  pub made_form : HasTextForm (made_diagram (node_lists text (node_blocks tree)) (link_lists text tree) tables) (names_view text tree)
  made_form = record {
    distinct = good.distinct;
    words = All-map IsNodeName (block_name text) nodes (λ k d h. node_name (get_or nodes k d) (owned_blocks k d h) (kinds k d h) (good.each k d h).short);
    labels = All-map (All (λ l. is_label l ≡ true)) (block_labels text) nodes (λ k d h. labels_plain (get_or nodes k d) (good.each k d h));
    utility_labels = λ v u.
        let at = made_node_at heads more (parent_lists text tree) tables.cells more_len parents_len cells_len v in
        labels_absent v (sym (ap (λ (n : NodeView). n.kind) at) ∙ u);
    agents = agents_plain;
    numbered = numbered;
  }
