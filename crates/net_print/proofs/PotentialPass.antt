-- The pass over potentials finds nothing in the tree of a printed text.
use Rattle.std.proofs.Common.{◌≡◌, ◌∙◌, ◌≢◌, ℕ, zero, suc, ◌+◌, ◌<◌, ◌≤◌, Bool, true, false, cond, List, [], ◌∷◌, ◌++◌, length, map, find, get_or, All, Contains, None, Some, refl, sym, ap, subst, ⊎_elim, arith}
use Rattle.std.specs.List.{flat_map, range_with_len}
use Rattle.std.specs.Option.{IsSome}
use Rattle.std.specs.Str.{bytes_eq}
use Rattle.std.proofs.lemmas.Bool.{false≢true}
use Rattle.std.proofs.lemmas.List.{get_or-map, length-map, map_push}
use Rattle.std.proofs.lemmas.Simd.{map-map}
use Rattle.std.proofs.lemmas.Slice.Eq.{bytes_eq-Decides}
use Rattle.std.proofs.lemmas.List.Elements.{All-head, All-tail, All-nil, All-push, All-contains_itself, Contains-get_or, Contains-push_cases}
use Rattle.std.proofs.lemmas.List.FromFn.{map-range_with_len_more, length-map-range_with_len, get_or-map-range_with_len}
use Rattle.maid_model.specs.declared.diagrams.Kind.TheVariants.{Chance, Utility}
use Rattle.maid_model.specs.Graph.{AllDifferent}
use Rattle.maid_model.specs.Names.{NamesView, name_of}
use Rattle.maid_model.specs.Nodes.{node_at, no_node}
use Rattle.maid_model.specs.Views.{NodeView, DiagramView}
use Rattle.net_build.specs.Blocks as look
use Rattle.first_fault.specs.Passes.{each_after}
use Rattle.net_build.specs.declared.nodes.Head.{Head}
use Rattle.net_build.specs.Linking.{condition_steps, potentials_among, behind_rows}
use Rattle.net_build.specs.Stages.{head_of, heads_of, node_lists}
use Rattle.net_build.specs.Table.{potential_pass, kind_in}
use Rattle.net_lexer.specs.Token.{token_bytes}
use Rattle.net_lexer.specs.declared.tokens.Token.{Token}
use Rattle.net_parser.specs.Trees.{BlockTree}
use Rattle.net_print.proofs.Comments.{IsPrintableBehind, text_of, place_of}
use Rattle.net_print.proofs.Given.{nothing, potential_title, potential_given, place_told}
use Rattle.net_print.proofs.Look.{names_told, kinds_told, potentials_are, at_potentials, node_lines}
use Rattle.net_print.proofs.Spelling.{trees_at}
use Rattle.net_print.proofs.Tree.{potential_tree, tree_of}
use Rattle.net_print.proofs.Words.{potential_words}
use Rattle.net_print.proofs.Written.{At, at_end, end_at, text_onto, text_onto-append}

pub first_same : {A : Type 0} {x y : A} {xs ys : List A} → x ∷ xs ≡ y ∷ ys → x ≡ y
first_same e = cc

pub rest_same : {A : Type 0} {x y : A} {xs ys : List A} → x ∷ xs ≡ y ∷ ys → xs ≡ ys
rest_same e = cc

module _ (d : DiagramView) (names : NamesView) (is : IsPrintableBehind d names) where
  abbrev Text : List ℕ
  Text = text_of d names is

  abbrev Nodes : List BlockTree
  Nodes = look.node_blocks (tree_of d names is)

  abbrev Heads : List Head
  Heads = heads_of Text Nodes

  -- names that are the same are of one node
  one_node : (u v : ℕ) → u < length d.nodes → v < length d.nodes → name_of names u ≡ name_of names v → u ≡ v
  one_node u v l m e = sym (place_told d names is u l) ∙ ap (look.place_among names.nodes) e ∙ place_told d names is v m

  has_name : (v : ℕ) → v < length d.nodes → Contains (look.names_of Text Nodes) (name_of names v)
  has_name v l = subst (λ list. Contains list (name_of names v)) (sym (names_told d names is)) (Contains-get_or names.nodes v [] (subst (λ n. v < n) (sym is.fit.nodes) l))

  -- a name among those of some nodes is of one of them
  of_one : (us : List ℕ) (v : ℕ) → All (λ u. u < length d.nodes) us → v < length d.nodes → Contains (map (name_of names) us) (name_of names v) → Contains us v
  of_one us v all l (k, h, e) =
      let within : k < length us = omega (arith, length-map us (name_of names)) in
      let same : name_of names (get_or us k v) ≡ name_of names v = sym (get_or-map (name_of names) us k v (name_of names v) within) ∙ e in
      (k, within, one_node (get_or us k v) v (all k v within) l same)

  pub kind_told : (u : ℕ) → u < length d.nodes → kind_in (node_lists Text Nodes) (name_of names u) ≡ (node_at d.nodes u).kind
  kind_told u l =
      let place : look.place_among (look.names_of Text Nodes) (name_of names u) ≡ u = ap (λ list. look.place_among list (name_of names u)) (names_told d names is) ∙ place_told d names is u l in
      ap (λ kinds. get_or kinds (look.place_among (look.names_of Text Nodes) (name_of names u)) Chance) (map-map (λ (h : Head). h.kind) (head_of Text Nodes) Nodes ∙ sym (kinds_told d names is))
      ∙ ap (λ n. get_or (map (λ m. m.kind) d.nodes) n Chance) place
      ∙ get_or-map (λ (m : NodeView). m.kind) d.nodes u no_node Chance l

  condition_clear : (earlier : List Token) (t : Token) (before : List ℕ) (u : ℕ) → map (token_bytes Text) earlier ≡ map (name_of names) before → token_bytes Text t ≡ name_of names u → All (λ w. w < length d.nodes) before → u < length d.nodes → (Contains before u → ⊥) → (node_at d.nodes u).kind ≢ Utility → condition_steps Text (look.names_of Text Nodes) Heads earlier t None
  condition_clear earlier t before u told name below l new kind = (
    λ none. none (subst (Contains (look.names_of Text Nodes)) (sym name) (has_name u l)),
    (
      λ has. new (of_one before u below l (subst (λ list. Contains list (name_of names u)) told (subst (Contains (map (token_bytes Text) earlier)) name has))),
      λ utility. kind (sym (kind_told u l) ∙ ap (kind_in (node_lists Text Nodes)) (sym name) ∙ utility),
    ),
  )

  behind_first : (u : ℕ) (us : List ℕ) (w : ℕ) → Contains us w → Contains (u ∷ us) w
  behind_first u us w (k, h, e) = (suc k, omega arith, e)

  conditions_clear : (earlier tokens : List Token) (before us : List ℕ) → map (token_bytes Text) earlier ≡ map (name_of names) before → map (token_bytes Text) tokens ≡ map (name_of names) us → All (λ w. w < length d.nodes) before → All (λ w. (w < length d.nodes) × ((node_at d.nodes w).kind ≢ Utility)) us → AllDifferent us → ((w : ℕ) → Contains before w → Contains us w → ⊥) → each_after (condition_steps Text (look.names_of Text Nodes) Heads) earlier tokens None
  conditions_clear earlier [] before us told names_are below all differ new = tt
  conditions_clear earlier (t ∷ tokens) before [] told names_are below all differ new = cc
  conditions_clear earlier (t ∷ tokens) before (u ∷ us) told names_are below all differ new =
      let here = All-head (λ w. (w < length d.nodes) × ((node_at d.nodes w).kind ≢ Utility)) u us all in
      let name = first_same names_are in (
        condition_clear earlier t before u told name below here.0 (λ has. new u has (0, omega arith, refl)) here.1,
        conditions_clear (earlier ++ t ∷ []) tokens (before ++ u ∷ []) us
            (map_push (token_bytes Text) earlier t ∙ ap (λ list. list ++ token_bytes Text t ∷ []) told ∙ ap (λ b. map (name_of names) before ++ b ∷ []) name ∙ sym (map_push (name_of names) before u))
            (rest_same names_are)
            (All-push (λ w. w < length d.nodes) before u below here.0)
            (All-tail (λ w. (w < length d.nodes) × ((node_at d.nodes w).kind ≢ Utility)) u us all)
            differ.1
            (λ w has later. ⊎_elim (λ (old : Contains before w). new w old (behind_first u us w later)) (λ (e : u ≡ w). differ.0 (subst (Contains us) (sym e) later)) (Contains-push_cases before u w has)),
      )

  -- what is found by its name has it
  found_name : (name : List ℕ) (blocks : List BlockTree) → IsSome (find (λ p. bytes_eq (look.block_name Text p) name) blocks) → Contains (look.names_of Text blocks) name
  found_name name [] some = absurd (false≢true some)
  found_name name (p ∷ blocks) some = by_test (bytes_eq (look.block_name Text p) name) refl (found_name name blocks) where
    by_test : (b : Bool) → bytes_eq (look.block_name Text p) name ≡ b → (IsSome (find (λ q. bytes_eq (look.block_name Text q) name) blocks) → Contains (look.names_of Text blocks) name) → Contains (look.names_of Text (p ∷ blocks)) name
    by_test true e rec = (0, omega arith, (bytes_eq-Decides (look.block_name Text p) name).0 e)
    by_test false e rec = behind_first_name (rec (subst (λ b. IsSome (cond b (Some p) (find (λ q. bytes_eq (look.block_name Text q) name) blocks))) e some)) where
      behind_first_name : Contains (look.names_of Text blocks) name → Contains (look.names_of Text (p ∷ blocks)) name
      behind_first_name (k, h, at) = (suc k, omega arith, at)

  few : (n m : ℕ) → n ≡ m → m ≤ 16 → 16 < n → ⊥
  few n m e h k = omega arith

  not_before : (v : ℕ) → v < length d.nodes → Contains (map (name_of names) (range_with_len 0 v)) (name_of names v) → ⊥
  not_before v l (k, h, e) =
      let below : k < v = omega (arith, length-map-range_with_len (name_of names) 0 v) in
      let same : name_of names k ≡ name_of names v = sym (get_or-map-range_with_len (name_of names) 0 v k k (name_of names v) below (omega arith)) ∙ e in
      differ k v below (one_node k v (omega arith) l same)
    where
      differ : (k v : ℕ) → k < v → k ≡ v → ⊥
      differ k v h e = omega arith

  -- a potential among those earlier that is the node's has its name
  taken_name : (earlier : List BlockTree) (v : ℕ) → v < length d.nodes → IsSome (get_or (potentials_among Text (look.names_of Text Nodes) earlier) (look.place_among (look.names_of Text Nodes) (name_of names v)) None) → Contains (look.names_of Text earlier) (name_of names v)
  taken_name earlier v l some =
      let place : look.place_among (look.names_of Text Nodes) (name_of names v) ≡ v = ap (λ list. look.place_among list (name_of names v)) (names_told d names is) ∙ place_told d names is v l in
      let entry : get_or (potentials_among Text names.nodes earlier) v None ≡ find (λ p. bytes_eq (look.block_name Text p) (name_of names v)) earlier =
      get_or-map (λ name. find (λ p. bytes_eq (look.block_name Text p) name) earlier) names.nodes v [] None (subst (λ n. v < n) (sym is.fit.nodes) l) in
      found_name (name_of names v) earlier (subst IsSome entry (subst (λ list. IsSome (get_or (potentials_among Text list earlier) v None)) (names_told d names is)
      (subst (λ n. IsSome (get_or (potentials_among Text (look.names_of Text Nodes) earlier) n None)) place some)))

  potential_clear : (earlier : List BlockTree) (v p : ℕ) (more : List ℕ) → v < length d.nodes → At Text p (text_onto (potential_words d names v) more) → look.names_of Text earlier ≡ map (name_of names) (range_with_len 0 v) → behind_rows Text (look.names_of Text Nodes) Heads earlier (potential_tree d names p v) None
  potential_clear earlier v p more l at told =
      let title = potential_title d names is v p more at in
      let given = potential_given d names is v p more at in
      let parents = (node_at d.nodes v).parents in (
        λ none. none (subst (Contains (look.names_of Text Nodes)) (sym title) (has_name v l)),
        (
          λ has. not_before v l (subst (λ list. Contains list (name_of names v)) told (taken_name earlier v l (subst (λ name. IsSome (get_or (potentials_among Text (look.names_of Text Nodes) earlier) (look.place_among (look.names_of Text Nodes) name) None)) title has))),
          (
            conditions_clear [] (look.conditions (potential_tree d names p v)) [] parents refl given (All-nil (λ w. w < length d.nodes))
                (λ k e h. let among = All-contains_itself parents k e h in (is.diagram.graph.parents_known (get_or parents k e) v among, is.diagram.graph.no_utility_parent (get_or parents k e) v among))
                (is.diagram.graph.parents_differ v) (λ w has later. nothing has),
            λ many. few (length (look.conditions (potential_tree d names p v))) (length parents) (sym (length-map (look.conditions (potential_tree d names p v)) (token_bytes Text)) ∙ ap length given ∙ length-map parents (name_of names)) (is.diagram.limits.parents v) many,
          ),
        ),
      )

  after_clear : (n a from : ℕ) (earlier : List BlockTree) (rest : List ℕ) → a + n ≤ length d.nodes → At Text from (text_onto (flat_map (potential_words d names) (range_with_len a n)) rest) → look.names_of Text earlier ≡ map (name_of names) (range_with_len 0 a) → each_after (behind_rows Text (look.names_of Text Nodes) Heads) earlier (trees_at (potential_tree d names) (potential_words d names) from (range_with_len a n)) None
  after_clear zero a from earlier rest le at told = tt
  after_clear (suc n) a from earlier rest le at told =
      let later = flat_map (potential_words d names) (range_with_len (a + 1) n) in
      let here : At Text from (text_onto (potential_words d names a) (text_onto later rest)) = subst (At Text from) (text_onto-append (potential_words d names a) later rest) at in (
        potential_clear earlier a from (text_onto later rest) (omega arith) here told,
        after_clear n (a + 1) (end_at from (potential_words d names a)) (earlier ++ potential_tree d names from a ∷ []) rest (omega arith) (at_end Text from (potential_words d names a) (text_onto later rest) here)
            (map_push (look.block_name Text) earlier (potential_tree d names from a)
            ∙ ap (λ list. list ++ look.block_name Text (potential_tree d names from a) ∷ []) told
            ∙ ap (λ name. map (name_of names) (range_with_len 0 a) ++ name ∷ []) (potential_title d names is a from (text_onto later rest) here)
            ∙ sym (map-range_with_len_more (name_of names) 0 a a (omega arith))),
      )

  pub potentials_clear : potential_pass Text (tree_of d names is) None
  unfolding potential_pass
  potentials_clear =
      let n = length d.nodes in
      subst (λ list. each_after (behind_rows Text (look.names_of Text Nodes) Heads) [] list None) (sym (potentials_are d names is)) (after_clear n 0 (end_at (place_of d names is) (node_lines d names is)) [] [] (omega arith) (at_potentials d names is) refl)
