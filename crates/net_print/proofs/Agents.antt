-- The agents, owners and states that the tree of a printed text tells.
use Rattle.std.proofs.Common.{◌≡◌, ◌∙◌, ◌≢◌, ℕ, suc, ◌<◌, Bool, true, false, not, cond, List, [], ◌∷◌, ◌++◌, length, map, filter, get_or, AllPairs, Contains, refl, sym, ap, subst, arith}
use Rattle.std.specs.List.{flat_map}
use Rattle.std.specs.Str.{bytes_eq}
use Rattle.std.proofs.lemmas.Bool.{not-true, both_ways, false_from_ne_true}
use Rattle.std.proofs.lemmas.List.{get_or-map, get_or_default, length-map}
use Rattle.std.proofs.lemmas.List.Concat.{flat_map-cons}
use Rattle.std.proofs.lemmas.List.Elements.{filter_passes}
use Rattle.std.proofs.lemmas.List.Kept.{AllPairs-cons, AllPairs-filter}
use Rattle.std.proofs.lemmas.List.Sums.{position_or_len_is}
use Rattle.std.proofs.lemmas.Slice.Eq.{bytes_eq-Decides}
use Rattle.maid_model.specs.declared.diagrams.Kind.{Kind}
use Rattle.maid_model.specs.declared.diagrams.Kind.TheVariants.{Chance, Decision, Utility}
use Rattle.maid_model.specs.Names.{NamesView, agent_name}
use Rattle.maid_model.specs.Nodes.{node_at, owners_of, is_chance}
use Rattle.maid_model.specs.Graph.{AllDifferent}
use Rattle.maid_model.specs.Views.{NodeView, DiagramView}
use Rattle.net_build.specs.Blocks as look
use Rattle.net_parser.specs.Trees.{BlockTree}
use Rattle.finite_sums.proofs.Sights.{bytes_same}
use Rattle.net_print.specs.Printed.{owner_names}
use Rattle.net_print.proofs.Comments.{IsPrintableBehind, text_of}
use Rattle.net_print.proofs.Look.{tell, each_node, node_owners_told, node_labels_told}
use Rattle.net_lexer.specs.Token.{text_value}
use Rattle.net_print.proofs.Tree.{block_kind, node_tree, tree_of}
use Rattle.net_print.proofs.Words.{node_words}
use Rattle.net_print.proofs.Written.{At, text_onto}

pub bytes_differ : (xs ys : List ℕ) → xs ≢ ys → bytes_eq xs ys ≡ false
bytes_differ xs ys h = false_from_ne_true (bytes_eq xs ys) (λ e. h ((bytes_eq-Decides xs ys).0 e))

-- where names differ, each stands at its own place
pub place_here : (names : List (List ℕ)) → AllPairs (λ name later. name ≢ later) names → (i : ℕ) → i < length names → look.place_among names (get_or names i []) ≡ i
place_here names differ i l =
    position_or_len_is (λ other. bytes_eq other (get_or names i [])) names i [] (omega arith)
    (λ k h. bytes_differ (get_or names k []) (get_or names i []) (differ k i [] h l))
    (λ h. bytes_same (get_or names i []) (get_or names i []) refl)

-- no value is first seen twice
pub sights_differ : (xs : List (List ℕ)) → AllPairs (λ x y. x ≢ y) (look.first_sights xs)
sights_differ [] = λ i j e h l. absurd (omega arith)
sights_differ (x ∷ xs) =
    let others = look.first_sights xs in
    AllPairs-cons (λ y z. y ≢ z) x (filter (λ y. not (bytes_eq x y)) others)
    (λ k e h same. both_ways (bytes_eq x (get_or (filter (λ y. not (bytes_eq x y)) others) k e)) (not-true (bytes_eq x (get_or (filter (λ y. not (bytes_eq x y)) others) k e)) (filter_passes (λ y. not (bytes_eq x y)) others k e h)) (bytes_same x (get_or (filter (λ y. not (bytes_eq x y)) others) k e) same))
    (AllPairs-filter (λ y z. y ≢ z) (λ y. not (bytes_eq x y)) others (sights_differ xs))

-- what is told of those kept, one after the other
pub filter_flat : {A B : Type 0} (f : A → List B) (p : A → Bool) (xs : List A) → flat_map f (filter p xs) ≡ flat_map (λ ys. ys) (map (λ x. cond (p x) (f x) []) xs)
filter_flat f p [] = refl
filter_flat f p (x ∷ xs) = by_test (p x) (filter_flat f p xs) where
  by_test : (b : Bool) → flat_map f (filter p xs) ≡ flat_map (λ ys. ys) (map (λ y. cond (p y) (f y) []) xs) → flat_map f (cond b (x ∷ filter p xs) (filter p xs)) ≡ cond b (f x) [] ++ flat_map (λ ys. ys) (map (λ y. cond (p y) (f y) []) xs)
  by_test true e = flat_map-cons f x (filter p xs) ∙ ap (λ ys. f x ++ ys) e
  by_test false e = e

owner_piece : (kind : Kind) (x y : List (List ℕ)) → (kind ≢ Chance → x ≡ y) → cond (look.has_agent (block_kind kind)) x [] ≡ cond (not (is_chance kind)) y []
owner_piece Chance x y h = refl
owner_piece Decision x y h = h (λ e. cc)
owner_piece Utility x y h = h (λ e. cc)

owner_case : (kind : Kind) (x y : List ℕ) → (kind ≢ Chance → x ≡ y) → (kind ≡ Chance → y ≡ 0 ∷ []) → cond (look.has_agent (block_kind kind)) x (0 ∷ []) ≡ y
owner_case Chance x y h none = sym (none refl)
owner_case Decision x y h none = h (λ e. cc)
owner_case Utility x y h none = h (λ e. cc)

-- where names differ, those of a list of places stand at these
places_here : (names : List (List ℕ)) → AllPairs (λ name later. name ≢ later) names → (places : List ℕ) → ((a : ℕ) → Contains places a → a < length names) → map (look.place_among names) (map (λ a. get_or names a []) places) ≡ places
places_here names differ [] known = refl
places_here names differ (a ∷ places) known = λ j. place_here names differ a (known a (0, omega arith, refl)) j ∷ places_here names differ places (λ b c. known b (suc c.0, omega (arith, c.1), c.2)) j

-- and different places have different names
pub agents_apart : (names : List (List ℕ)) → AllPairs (λ name later. name ≢ later) names → (places : List ℕ) → AllDifferent places → ((a : ℕ) → Contains places a → a < length names) → AllPairs (λ name later. name ≢ later) (map (λ a. get_or names a []) places)
agents_apart names differ [] apart known = λ i j e h l. absurd (omega arith)
agents_apart names differ (a ∷ places) apart known =
    AllPairs-cons (λ name later. name ≢ later) (get_or names a []) (map (λ b. get_or names b []) places)
    (λ k e h same.
    let within : k < length places = let n = length-map places (λ b. get_or names b []) in omega arith in
    let b = get_or places k 0 in
    let there : get_or names a [] ≡ get_or names b [] = same ∙ get_or-map (λ b. get_or names b []) places k 0 e within in
    apart.0 (k, within, get_or_default places k a 0 within ∙ sym (sym (place_here names differ a (known a (0, omega arith, refl))) ∙ ap (look.place_among names) there ∙ place_here names differ b (known b (suc k, omega arith, get_or_default places k b 0 within)))))
    (agents_apart names differ places apart.1 (λ b c. known b (suc c.0, omega (arith, c.1), c.2)))

state_case : (kind : Kind) (x y : ℕ) → (kind ≢ Utility → x ≡ y) → (kind ≡ Utility → y ≡ 1) → cond (look.has_states (block_kind kind)) x 1 ≡ y
state_case Chance x y h one = h (λ e. cc)
state_case Decision x y h one = h (λ e. cc)
state_case Utility x y h one = sym (one refl)

chance_utility : Chance ≡ Utility → ⊥
chance_utility e = cc

module _ (d : DiagramView) (names : NamesView) (is : IsPrintableBehind d names) where
  abbrev Blocks : List BlockTree
  Blocks = look.node_blocks (tree_of d names is)

  pub agents_told : look.agents_of (text_of d names is) Blocks ≡ names.agents
  agents_told =
      let piece = λ (n : NodeView). cond (not (is_chance n.kind)) (map (agent_name names) (n.owner ∷ n.more)) [] in
      ap look.first_sights (
      filter_flat (look.owner_texts (text_of d names is)) (λ b. look.has_agent b.kind) Blocks
      ∙ ap (flat_map (λ ys. ys)) (
      tell d names is (λ b. cond (look.has_agent b.kind) (look.owner_texts (text_of d names is) b) []) (λ v. piece (node_at d.nodes v))
      (λ v p more l at. owner_piece (node_at d.nodes v).kind (look.owner_texts (text_of d names is) (node_tree d.nodes names p v)) (owner_names d.nodes names v) (λ owned. node_owners_told (text_of d names is) d.nodes names v p more at owned (is.diagram.owners.one v)))
      ∙ each_node piece d.nodes)
      ∙ sym (filter_flat (λ (n : NodeView). map (agent_name names) (n.owner ∷ n.more)) (λ n. not (is_chance n.kind)) d.nodes))
      ∙ sym is.form.numbered

  pub agents_differ : AllPairs (λ x y. x ≢ y) names.agents
  agents_differ = subst (λ agents. AllPairs (λ x y. x ≢ y) agents) (sym is.form.numbered) (sights_differ (flat_map (λ n. map (agent_name names) (n.owner ∷ n.more)) (filter (λ n. not (is_chance n.kind)) d.nodes)))

  pub owners_told : map (λ n. n.owner ∷ n.more) d.nodes ≡ map (look.owner_numbers (text_of d names is) Blocks) Blocks
  owners_told = sym (tell d names is (look.owner_numbers (text_of d names is) Blocks) (λ v. owners_of d.nodes v) one ∙ each_node (λ n. n.owner ∷ n.more) d.nodes) where
    one : (v p : ℕ) (more : List ℕ) → v < length d.nodes → At (text_of d names is) p (text_onto (node_words d.nodes names v) more) → look.owner_numbers (text_of d names is) Blocks (node_tree d.nodes names p v) ≡ owners_of d.nodes v
    one v p more l at =
        let tree = node_tree d.nodes names p v in
        owner_case (node_at d.nodes v).kind (map (look.place_among (look.agents_of (text_of d names is) Blocks)) (look.owner_texts (text_of d names is) tree)) (owners_of d.nodes v)
        (λ owned.
        ap (λ agents. map (look.place_among agents) (look.owner_texts (text_of d names is) tree)) agents_told
        ∙ ap (map (look.place_among names.agents)) (node_owners_told (text_of d names is) d.nodes names v p more at owned (is.diagram.owners.one v))
        ∙ places_here names.agents agents_differ (owners_of d.nodes v) (λ a o. subst (λ n. a < n) (sym is.fit.agents) (is.diagram.owners.agent v a l owned o)))
        (λ chance. λ j. is.diagram.owners.chance v chance j ∷ is.diagram.owners.one v (λ u. chance_utility (sym chance ∙ u)) j)

  pub states_told : map (λ n. n.states) d.nodes ≡ look.state_counts (text_of d names is) Blocks
  states_told = sym (tell d names is (look.block_states (text_of d names is)) (λ v. (node_at d.nodes v).states) one ∙ each_node (λ n. n.states) d.nodes) where
    one : (v p : ℕ) (more : List ℕ) → v < length d.nodes → At (text_of d names is) p (text_onto (node_words d.nodes names v) more) → look.block_states (text_of d names is) (node_tree d.nodes names p v) ≡ (node_at d.nodes v).states
    one v p more l at =
        let tree = node_tree d.nodes names p v in
        state_case (node_at d.nodes v).kind (length (look.label_tokens (text_of d names is) tree)) (node_at d.nodes v).states
        (λ some.
        sym (length-map (look.label_tokens (text_of d names is) tree) (text_value (text_of d names is)))
        ∙ ap length (node_labels_told (text_of d names is) d.nodes names v p more at (is.form.utility_labels v))
        ∙ is.fit.states v l some)
        (is.diagram.graph.utility_states v)
