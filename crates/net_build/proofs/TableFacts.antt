-- Nodes and their potentials where the passes before the tables find nothing: what reading the
-- tables needs, and which numbers are the utilities'.
use Rattle.std.proofs.Common.{◌≡◌, ◌≢◌, ◌⊎◌, inl, inr, ◌<◌, ◌≤◌, ◌+◌, ℕ, Bool, true, false, not, cond, List, [], ◌∷◌, ◌++◌, All, Contains, length, get_or, map, filter, take, Option, None, Some, IfSome, refl, sym, ap, subst, ◌∙◌, arith, length-append}
use Rattle.std.specs.List.{flat_map}
use Rattle.std.specs.Option.{IsSome}
use Rattle.std.specs.Str.{bytes_eq}
use Rattle.std.proofs.lemmas.Bool.{false≢true}
use Rattle.std.proofs.lemmas.List.{get_or-map, get_or_default, length-map, get_or_append_left, get_or-append-add}
use Rattle.std.proofs.Math.ListN.{get_or-eq_default}
use Rattle.std.proofs.lemmas.List.Elements.{All-cons}
use Rattle.std.proofs.lemmas.Slice.Eq.{bytes_eq-Decides}
use Rattle.maid_model.specs.declared.diagrams.Kind.{Kind}
use Rattle.maid_model.specs.declared.diagrams.Kind.TheVariants as model
use Rattle.maid_model.specs.Nodes.{is_decision, is_utility}
use Rattle.net_lexer.specs.declared.tokens.Token.{Token}
use Rattle.net_parser.specs.Trees.{BlockTree}
use Rattle.net_parser.specs.Owned.{IsBlockOf}
use Rattle.net_parser.specs.Grammar.{is_potential}
use Rattle.finite_sums.proofs.Sights.{bytes_same}
use Rattle.net_build.specs.declared.nodes.Head.{Head}
use Rattle.net_build.specs.Blocks.{node_blocks, potentials, kind_of, block_states, block_name, names_of, place_among, potential_of, potential_list, parent_lists, data_of, leaves_of}
use Rattle.net_build.specs.Linking.{behind_rows, missing_at, absent_row}
use Rattle.net_build.specs.Stages.{AreLinks, NodeLists, head_of, heads_of, head_at, node_lists, link_lists, no_head}
use Rattle.net_build.specs.Table.{kind_in, name_rows, node_rows, node_pass, potential_pass, missing_pass, no_block}
use Rattle.net_build.specs.TableParts.{CanReadTables, values_in}
use Rattle.net_build.proofs.BlockLemmas.{each_after_at, all_filter, all_flat, found_in, finds, take_at, contains_map, place_at, place_here, states_some}
use Rattle.net_build.proofs.LinkLemmas.{number_at}
use Rattle.net_build.proofs.LinkPasses.{taken_from}
use Rattle.net_build.proofs.NodeFacts.{only_on}
use Rattle.net_build.proofs.TablePasses.{head_here, potential_here}

if_some_by : {X : Type 0} (Q : X → Type 0) (o : Option X) → ((x : X) → o ≡ Some x → Q x) → IfSome o Q
if_some_by Q None f = tt
if_some_by Q (Some x) f = f x refl

is_some_by : {X : Type 0} (o : Option X) → (o ≡ None → ⊥) → IsSome o
is_some_by None f = absurd (f refl)
is_some_by (Some x) f = refl

flat_all : {X Y : Type 0} (P : Y → Type 0) (f : X → List Y) (q : X → Bool) (xs : List X) → All P (flat_map f (filter q xs)) → All (λ x. q x ≡ true → All P (f x)) xs
flat_all P f q [] all = λ k d within. absurd (omega arith)
flat_all P f q (x ∷ xs) all = by_test (q x) refl (flat_all P f q xs) where
  left : {Y : Type 0} (Q : Y → Type 0) (ls rs : List Y) → All Q (ls ++ rs) → All Q ls
  left Q ls rs all k d h = subst Q (get_or_append_left ls rs d k h) (all k d (omega (arith, h, length-append ls rs)))

  right : {Y : Type 0} (Q : Y → Type 0) (ls rs : List Y) → All Q (ls ++ rs) → All Q rs
  right Q ls rs all k d h = subst Q (get_or-append-add ls rs k d) (all (length ls + k) d (omega (arith, h, length-append ls rs)))

  by_test : (b : Bool) → q x ≡ b → (All P (flat_map f (filter q xs)) → All (λ y. q y ≡ true → All P (f y)) xs) → All (λ y. q y ≡ true → All P (f y)) (x ∷ xs)
  by_test true e rec = let here : All P (f x ++ flat_map f (filter q xs)) = subst (λ b. All P (flat_map f (cond b (x ∷ filter q xs) (filter q xs)))) e all in
      All-cons (λ y. q y ≡ true → All P (f y)) x xs (λ t. left P (f x) (flat_map f (filter q xs)) here) (rec (right P (f x) (flat_map f (filter q xs)) here))
  by_test false e rec = All-cons (λ y. q y ≡ true → All P (f y)) x xs (λ t. absurd (false≢true (sym e ∙ t))) (rec (subst (λ b. All P (flat_map f (cond b (x ∷ filter q xs) (filter q xs)))) e all))

is_utility_true : (k : Kind) → is_utility k ≡ true → k ≡ model.Utility
is_utility_true model.Chance e = absurd (false≢true e)
is_utility_true model.Decision e = absurd (false≢true e)
is_utility_true model.Utility e = refl

not_decision : (k : Kind) → k ≢ model.Decision → not (is_decision k) ≡ true
not_decision model.Chance h = refl
not_decision model.Utility h = refl
not_decision model.Decision h = absurd (h refl)

module _ (text : List ℕ) (blocks : List BlockTree) (own : All (IsBlockOf text) blocks) (node_rows_none : node_pass text blocks None) (potential_rows_none : potential_pass text blocks None) where
  abbrev nodes : List BlockTree
  nodes = node_blocks blocks

  abbrev block_at : ℕ → BlockTree
  block_at v = get_or nodes v no_block

  abbrev listed : NodeLists
  listed = node_lists text nodes

  node_at : (v : ℕ) → v < length nodes → node_rows text (names_of text (take v nodes)) (Rattle.net_build.specs.Blocks.agents_of text (take v nodes)) (block_at v) None
  unfolding node_pass
  node_at v h = each_after_at (λ earlier b. node_rows text (names_of text earlier) (Rattle.net_build.specs.Blocks.agents_of text earlier) b) [] nodes no_block v node_rows_none h

  pub states_at : (v : ℕ) → v < length nodes → 0 < block_states text (block_at v)
  states_at v h = states_some text _ _ (block_at v) (node_at v h)

  name_here : (v : ℕ) → v < length nodes → get_or (names_of text nodes) v [] ≡ block_name text (block_at v)
  name_here v h = get_or-map (block_name text) nodes v no_block [] h

  names_differ : (k v : ℕ) → k < v → v < length nodes → block_name text (block_at k) ≡ block_name text (block_at v) → ⊥
  unfolding node_rows name_rows
  names_differ k v l h same = (node_at v h).0.1.1 (subst (Contains (names_of text (take v nodes))) same (contains_map (block_name text) (take v nodes) (block_at k) (take_at nodes no_block k v l h)))

  -- a node's name stands at its place
  node_place : (v : ℕ) → v < length nodes → place_among (names_of text nodes) (block_name text (block_at v)) ≡ v
  node_place v h = ap (place_among (names_of text nodes)) (sym (name_here v h)) ∙ place_at (names_of text nodes) v (omega (arith, h, length-map nodes (block_name text)))
      (λ k l same. names_differ k v l h (sym (name_here k (omega arith)) ∙ same ∙ name_here v h))

  abbrev its : List BlockTree
  its = potentials blocks

  abbrev its_at : ℕ → BlockTree
  its_at j = get_or its j no_block

  potential_names_differ : (k j : ℕ) → k < j → j < length its → block_name text (its_at k) ≡ block_name text (its_at j) → ⊥
  unfolding potential_pass
  potential_names_differ k j l h same =
      let rows = each_after_at (behind_rows text (names_of text nodes) (heads_of text nodes)) [] its no_block j potential_rows_none h in
      rows.1.0 (taken_from text (names_of text nodes) (take j its) (its_at j) rows.0 (subst (Contains (names_of text (take j its))) same (contains_map (block_name text) (take j its) (its_at k) (take_at its no_block k j l h))))

  differ_test : (xs ys : List ℕ) → (xs ≡ ys → ⊥) → bytes_eq xs ys ≡ false
  differ_test xs ys h = Rattle.net_build.proofs.PlaceLemmas.bytes_differ xs ys h

  -- each potential is that of its head
  potential_found : (j : ℕ) → j < length its → potential_of text blocks (block_name text (its_at j)) ≡ Some (its_at j)
  potential_found j h = finds (λ p. bytes_eq (block_name text p) (block_name text (its_at j))) its no_block j h
      (λ k l. differ_test (block_name text (its_at k)) (block_name text (its_at j)) (potential_names_differ k j l h)) (bytes_same (block_name text (its_at j)) (block_name text (its_at j)) refl)

  kind_here : (v : ℕ) → v < length nodes → get_or (map (λ (h : Head). h.kind) (map (head_of text nodes) nodes)) v model.Chance ≡ kind_of (block_at v).kind
  kind_here v h = get_or-map (λ (g : Head). g.kind) (map (head_of text nodes) nodes) v no_head model.Chance (omega (arith, h, length-map nodes (head_of text nodes))) ∙ ap (λ (g : Head). g.kind) (head_here text blocks v h)

  -- the potential of a utility has numbers that count
  pub value_potential : (v : ℕ) (p : BlockTree) → v < length nodes → kind_of (block_at v).kind ≡ model.Utility → block_name text p ≡ block_name text (block_at v) → is_utility (kind_in listed (block_name text p)) ≡ true
  value_potential v p h kind same = ap (λ name. is_utility (kind_in listed name)) same ∙ ap (λ n. is_utility (get_or (map (λ (g : Head). g.kind) listed.heads) n model.Chance)) (node_place v h) ∙ ap is_utility (kind_here v h ∙ kind)

  -- what holds of all utilities' numbers holds of each one's
  pub value_of_node : (P : Token → Type 0) (v : ℕ) (p : BlockTree) → All P (values_in text listed blocks) → v < length nodes → kind_of (block_at v).kind ≡ model.Utility → potential_of text blocks (block_name text (block_at v)) ≡ Some p → All P (leaves_of (data_of text p))
  value_of_node P v p all h kind is =
      let found = found_in (λ b. bytes_eq (block_name text b) (block_name text (block_at v))) (λ b. is_utility (kind_in listed (block_name text b)) ≡ true → All P (leaves_of (data_of text b))) its p is
      (flat_all P (λ b. leaves_of (data_of text b)) (λ b. is_utility (kind_in listed (block_name text b))) its all) in
      found.0 (value_potential v p h kind ((bytes_eq-Decides _ _).0 found.1))

  within_kinds : (v : ℕ) → is_utility (get_or (map (λ (g : Head). g.kind) (map (head_of text nodes) nodes)) v model.Chance) ≡ true → v < length nodes
  within_kinds v e = by_order (order v (length nodes)) where
    order : (a b : ℕ) → (a < b) ⊎ (b ≤ a)
    order a b = grind arith

    by_order : (v < length nodes) ⊎ (length nodes ≤ v) → v < length nodes
    by_order (inl h) = h
    by_order (inr h) = absurd (false≢true (sym (ap is_utility (get_or-eq_default (map (λ (g : Head). g.kind) (map (head_of text nodes) nodes)) model.Chance {n = v} (omega (arith, h, length-map nodes (head_of text nodes), length-map (map (head_of text nodes) nodes) (λ (g : Head). g.kind))))) ∙ e))

  -- what holds of each utility's numbers holds of all
  pub values_of_nodes : (P : Token → Type 0) → ((v : ℕ) (p : BlockTree) → v < length nodes → kind_of (block_at v).kind ≡ model.Utility → potential_of text blocks (block_name text (block_at v)) ≡ Some p → All P (leaves_of (data_of text p))) → All P (values_in text listed blocks)
  values_of_nodes P each_node = all_flat P (λ p. leaves_of (data_of text p)) (filter utility its) (λ k d within. let here = all_filter (λ p. utility p ≡ true → All P (leaves_of (data_of text p))) utility its by_place k d within in here.0 here.1)
    where
      utility : BlockTree → Bool
      utility p = is_utility (kind_in listed (block_name text p))

      by_place : All (λ p. utility p ≡ true → All P (leaves_of (data_of text p))) its
      by_place j d h = subst (λ p. utility p ≡ true → All P (leaves_of (data_of text p))) (get_or_default its j no_block d h) (at (place_among (names_of text nodes) (block_name text (its_at j))) refl)
        where
          at : (v : ℕ) → place_among (names_of text nodes) (block_name text (its_at j)) ≡ v → utility (its_at j) ≡ true → All P (leaves_of (data_of text (its_at j)))
          at v e t =
              let chosen : is_utility (get_or (map (λ (g : Head). g.kind) (map (head_of text nodes) nodes)) v model.Chance) ≡ true = subst (λ n. is_utility (get_or (map (λ (g : Head). g.kind) (map (head_of text nodes) nodes)) n model.Chance) ≡ true) e t in
              let near : v < length nodes = within_kinds v chosen in
              let named_here : block_name text (block_at v) ≡ block_name text (its_at j) = sym (name_here v near) ∙ ap (λ n. get_or (names_of text nodes) n []) (sym e) ∙ place_here (names_of text nodes) (block_name text (its_at j)) (subst (λ n. n < length (names_of text nodes)) (sym e) (omega (arith, near, length-map nodes (block_name text)))) in
              each_node v (its_at j) near (is_utility_true (kind_of (block_at v).kind) (ap is_utility (sym (kind_here v near)) ∙ chosen)) (ap (potential_of text blocks) named_here ∙ potential_found j h)

  -- a node that is no decision has a potential
  pub there : missing_pass text blocks None → (v : ℕ) → v < length nodes → kind_of (block_at v).kind ≢ model.Decision → IsSome (potential_of text blocks (block_name text (block_at v)))
  unfolding missing_pass
  there missing v h kind =
      let heads = heads_of text nodes in
      let row = number_at (missing_at heads (potential_list text blocks)) (length heads) v missing (omega (arith, h, length-map nodes (head_of text nodes))) in
      is_some_by (potential_of text blocks (block_name text (block_at v)))
      (λ e. only_on (not (is_decision (head_at heads v).kind)) (absent_row (head_at heads v) (potential_list text blocks) v) (not_decision (head_at heads v).kind (subst (λ (g : Head). g.kind ≢ model.Decision) (sym (head_here text blocks v h)) kind)) row (potential_here text blocks v h ∙ e))

  -- what reading the tables needs
  pub can_read : missing_pass text blocks None → AreLinks (map (head_of text nodes) nodes) (parent_lists text blocks) → CanReadTables text (map (head_of text nodes) nodes) (link_lists text blocks)
  can_read missing fit = record {
    states = λ k d h. let near : k < length nodes = omega (arith, h, length-map nodes (head_of text nodes)) in subst (λ (g : Head). 0 < g.states) (sym (get_or-map (head_of text nodes) nodes k no_block d near)) (states_at k near);
    parents_len = length-map nodes (λ b. Rattle.net_build.specs.Blocks.block_parents text blocks (block_name text b)) ∙ sym (length-map nodes (head_of text nodes));
    potentials_len = length-map nodes (λ b. potential_of text blocks (block_name text b)) ∙ sym (length-map nodes (head_of text nodes));
    fit = fit;
    own = λ v h. let near : v < length nodes = omega (arith, h, length-map nodes (head_of text nodes)) in subst (λ o. IfSome o (λ p. IsBlockOf text p × (is_potential p.kind ≡ true))) (sym (potential_here text blocks v near))
        (if_some_by (λ p. IsBlockOf text p × (is_potential p.kind ≡ true)) (potential_of text blocks (block_name text (block_at v))) (λ p e. (found_in (λ b. bytes_eq (block_name text b) (block_name text (block_at v))) (λ b. IsBlockOf text b × (is_potential b.kind ≡ true)) its p e (all_filter (IsBlockOf text) (λ b. is_potential b.kind) blocks own)).0));
    there = λ v h kind. let near : v < length nodes = omega (arith, h, length-map nodes (head_of text nodes)) in subst IsSome (sym (potential_here text blocks v near)) (there missing v near (subst (λ (g : Head). g.kind ≢ model.Decision) (head_here text blocks v near) kind));
  }
