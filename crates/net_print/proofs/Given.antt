-- The potentials and the parents that the tree of a printed text tells.
use Rattle.std.proofs.Common.{◌≡◌, ◌∙◌, ℕ, zero, suc, ◌+◌, ◌<◌, true, false, cond, List, [], ◌∷◌, ◌++◌, length, map, drop, get_or, All, Contains, Some, codes, refl, sym, ap, subst, ⊎_elim, slice_index_or, arith}
use Rattle.std.specs.Option.{option_map_or}
use Rattle.std.specs.List.{flat_map, find}
use Rattle.std.specs.Str.{bytes_eq}
use Rattle.std.proofs.lemmas.Bool.{cases_eq}
use Rattle.std.proofs.lemmas.List.FromFn.{length-range_with_len, get_or-range_with_len}
use Rattle.std.proofs.lemmas.List.Elements.{All-head, All-tail, All-contains_itself}
use Rattle.maid_model.specs.Names.{NamesView, name_of}
use Rattle.maid_model.specs.Nodes.{node_at, numbers_of, rows_of}
use Rattle.maid_model.specs.Views.{DiagramView}
use Rattle.net_build.specs.Blocks as look
use Rattle.net_lexer.specs.Token.{token_bytes}
use Rattle.net_lexer.specs.declared.tokens.TokenKind.{TokenKind}
use Rattle.net_lexer.specs.declared.tokens.TokenKind.TheVariants.{Word}
use Rattle.net_parser.specs.Trees.{BlockTree}
use Rattle.finite_sums.proofs.Sights.{bytes_same}
use Rattle.net_print.proofs.Comments.{IsPrintableBehind, text_of, place_of}
use Rattle.net_print.proofs.Agents.{place_here, bytes_differ}
use Rattle.net_print.proofs.Look.{tell, each_node, node_name_told, names_told, potentials_are, at_potentials, node_lines}
use Rattle.net_print.proofs.Spelling.{trees_at}
use Rattle.net_print.proofs.Texts.{numbers_below}
use Rattle.net_print.proofs.Told.{says, all_say}
use Rattle.net_print.proofs.Tree.{node_tree, potential_tree, tree_of, head_tokens}
use Rattle.net_print.proofs.Words.{written, space, items, paren_open, paren_close, brace_open, brace_close, bar, head_words, table_words, node_words, potential_words}
use Rattle.net_print.proofs.Written.{Written, At, at_rest, at_end, behind, end_at, text_onto, text_onto-append}

later_bytes : {A : Type 0} (kind : TokenKind) (text : A → List ℕ) (xs : List A) → map (λ w. w.bytes) (map (λ y. written space kind (text y) []) xs) ≡ map text xs
later_bytes kind text [] = refl
later_bytes kind text (x ∷ xs) = ap (λ bs. text x ∷ bs) (later_bytes kind text xs)

pub item_bytes : {A : Type 0} (kind : TokenKind) (text : A → List ℕ) (xs : List A) → map (λ (w : Written). w.bytes) (items kind text xs) ≡ map text xs
item_bytes kind text [] = refl
item_bytes kind text (x ∷ xs) = ap (λ bs. text x ∷ bs) (later_bytes kind text xs)

map_map : {A B C : Type 0} (f : B → C) (g : A → B) (xs : List A) → map (λ x. f (g x)) xs ≡ map f (map g xs)
map_map f g [] = refl
map_map f g (x ∷ xs) = ap (λ ys. f (g x) ∷ ys) (map_map f g xs)

-- what a potential's head says
record HeadTold (text : List ℕ) (names : NamesView) (from v : ℕ) (parents : List ℕ) : Type 0 where
  title : token_bytes text (slice_index_or (head_tokens from names v parents) 0 look.no_token) ≡ name_of names v
  given : map (token_bytes text) (drop 1 (head_tokens from names v parents)) ≡ map (name_of names) parents

head_told : (text : List ℕ) (names : NamesView) (from v : ℕ) (parents rest : List ℕ) → At text from (text_onto (head_words names v parents) rest) → HeadTold text names from v parents
head_told text names from v [] rest at =
    let word = written [] Word (codes "potential") space in
    let head = written [] Word (name_of names v) [] in
    let more = paren_close space ∷ [] in
    let at_open = at_rest text from word (text_onto (paren_open ∷ head ∷ more) rest) at in
    let at_head = at_rest text (behind from word) paren_open (text_onto (head ∷ more) rest) at_open in
    record { title = says text (behind (behind from word) paren_open) head (text_onto more rest) at_head; given = refl }
head_told text names from v (u ∷ us) rest at =
    let word = written [] Word (codes "potential") space in
    let head = written [] Word (name_of names v) space in
    let parents = items Word (name_of names) (u ∷ us) in
    let closing = paren_close space ∷ [] in
    let more = parents ++ closing in
    let at_open = at_rest text from word (text_onto (paren_open ∷ head ∷ bar ∷ more) rest) at in
    let at_head = at_rest text (behind from word) paren_open (text_onto (head ∷ bar ∷ more) rest) at_open in
    let at_bar = at_rest text (behind (behind from word) paren_open) head (text_onto (bar ∷ more) rest) at_head in
    let place = behind (behind (behind (behind from word) paren_open) head) bar in
    let at_names : At text place (text_onto parents (text_onto closing rest)) = subst (At text place) (text_onto-append parents closing rest) (at_rest text (behind (behind (behind from word) paren_open) head) bar (text_onto more rest) at_bar) in
    record {
      title = says text (behind (behind from word) paren_open) head (text_onto (bar ∷ more) rest) at_head;
      given = all_say text place parents (text_onto closing rest) at_names ∙ item_bytes Word (name_of names) (u ∷ us);
    }

contains_tail : (u : ℕ) (us : List ℕ) (v : ℕ) → Contains (u ∷ us) v → (u ≡ v → ⊥) → Contains us v
contains_tail u us v (zero, l, e) other = absurd (other e)
contains_tail u us v (suc k, l, e) other = (k, omega arith, e)

pub nothing : {A : Type 0} {x : A} → Contains [] x → ⊥
nothing has = none has.0 has.1 where
  none : (k : ℕ) → k < 0 → ⊥
  none k h = omega arith

module _ (d : DiagramView) (names : NamesView) (is : IsPrintableBehind d names) where
  potential_told : (v p : ℕ) (more : List ℕ) → At (text_of d names is) p (text_onto (potential_words d names v) more) → HeadTold (text_of d names is) names p v (node_at d.nodes v).parents
  potential_told v p more at =
      let node = node_at d.nodes v in
      let head = head_words names v node.parents in
      let body = brace_open ∷ (table_words node.kind d.decimals node.states (rows_of d.nodes v) node.cells ++ brace_close ∷ []) in
      head_told (text_of d names is) names p v node.parents (text_onto body more) (subst (At (text_of d names is) p) (text_onto-append head body more) at)

  -- a potential's head is the name of its node
  pub potential_title : (v p : ℕ) (more : List ℕ) → At (text_of d names is) p (text_onto (potential_words d names v) more) → look.block_name (text_of d names is) (potential_tree d names p v) ≡ name_of names v
  potential_title v p more at = (potential_told v p more at).title

  -- and the names behind its bar are those of the parents
  pub potential_given : (v p : ℕ) (more : List ℕ) → At (text_of d names is) p (text_onto (potential_words d names v) more) → map (token_bytes (text_of d names is)) (look.conditions (potential_tree d names p v)) ≡ map (name_of names) (node_at d.nodes v).parents
  potential_given v p more at = (potential_told v p more at).given

  -- a name stands at its node's place
  pub place_told : (v : ℕ) → v < length d.nodes → look.place_among names.nodes (name_of names v) ≡ v
  place_told v l = place_here names.nodes is.form.distinct v (subst (λ n. v < n) (sym is.fit.nodes) l)

  names_apart : (u v : ℕ) → u < length d.nodes → v < length d.nodes → (u ≡ v → ⊥) → bytes_eq (name_of names u) (name_of names v) ≡ false
  names_apart u v l m other = bytes_differ (name_of names u) (name_of names v) (λ e. other (sym (place_told u l) ∙ ap (look.place_among names.nodes) e ∙ place_told v m))

  -- the potential of that node, and where it stands
  abbrev IsPotentialAt : ℕ → List BlockTree → ℕ → List ℕ → Type 0
  IsPotentialAt v trees p more = At (text_of d names is) p (text_onto (potential_words d names v) more) × (find (λ b. bytes_eq (look.block_name (text_of d names is) b) (name_of names v)) trees ≡ Some (potential_tree d names p v))

  -- the first is it, or it is among the others
  first_is : (u v from : ℕ) (rest : List ℕ) (later : List BlockTree) → At (text_of d names is) from (text_onto (potential_words d names u) rest) → u ≡ v → IsPotentialAt v (potential_tree d names from u ∷ later) from rest
  first_is u v from rest later at e =
      let test = bytes_eq (look.block_name (text_of d names is) (potential_tree d names from u)) (name_of names v) in
      let same : test ≡ true = bytes_same _ _ ((potential_told u from rest at).title ∙ ap (name_of names) e) in
      (subst (λ w. At (text_of d names is) from (text_onto (potential_words d names w) rest)) e at, ap (λ b. cond b (Some (potential_tree d names from u)) (find (λ p. bytes_eq (look.block_name (text_of d names is) p) (name_of names v)) later)) same ∙ ap (λ w. Some (potential_tree d names from w)) e)

  not_first : (u v from p : ℕ) (rest more : List ℕ) (later : List BlockTree) → u < length d.nodes → v < length d.nodes → At (text_of d names is) from (text_onto (potential_words d names u) rest) → (u ≡ v → ⊥) → IsPotentialAt v later p more → IsPotentialAt v (potential_tree d names from u ∷ later) p more
  not_first u v from p rest more later l m at other found =
      let rest_of = find (λ b. bytes_eq (look.block_name (text_of d names is) b) (name_of names v)) later in (
        found.0,
        ap (λ title. cond (bytes_eq title (name_of names v)) (Some (potential_tree d names from u)) rest_of) (potential_told u from rest at).title
            ∙ ap (λ b. cond b (Some (potential_tree d names from u)) rest_of) (names_apart u v l m other)
            ∙ found.1,
      )

  finds : (v : ℕ) → v < length d.nodes → (from : ℕ) (vs : List ℕ) (rest : List ℕ) → At (text_of d names is) from (text_onto (flat_map (potential_words d names) vs) rest) → All (λ u. u < length d.nodes) vs → Contains vs v → (p : ℕ) × (more : List ℕ) × IsPotentialAt v (trees_at (potential_tree d names) (potential_words d names) from vs) p more
  finds v l from [] rest at all has = absurd (nothing has)
  finds v l from (u ∷ us) rest at all has =
      let lines = flat_map (potential_words d names) us in
      let here : At (text_of d names is) from (text_onto (potential_words d names u) (text_onto lines rest)) = subst (At (text_of d names is) from) (text_onto-append (potential_words d names u) lines rest) at in
      let next = end_at from (potential_words d names u) in
      let later = trees_at (potential_tree d names) (potential_words d names) next us in
      ⊎_elim
      (λ (e : u ≡ v). (from, text_onto lines rest, first_is u v from (text_onto lines rest) later here e))
      (λ (n : u ≡ v → ⊥).
      let found = finds v l next us rest (at_end (text_of d names is) from (potential_words d names u) (text_onto lines rest) here) (All-tail (λ w. w < length d.nodes) u us all) (contains_tail u us v has n) in
      (found.0, found.1, not_first u v from found.0 (text_onto lines rest) found.1 later (All-head (λ w. w < length d.nodes) u us all) l here n found.2))
      (cases_eq u v)

  -- the places of names are the nodes' numbers
  places_told : (us : List ℕ) → All (λ u. u < length d.nodes) us → map (look.place_among names.nodes) (map (name_of names) us) ≡ us
  places_told [] all = refl
  places_told (u ∷ us) all = ap (λ n. n ∷ map (look.place_among names.nodes) (map (name_of names) us)) (place_told u (All-head (λ w. w < length d.nodes) u us all)) ∙ ap (λ ns. u ∷ ns) (places_told us (All-tail (λ w. w < length d.nodes) u us all))

  abbrev Blocks : List BlockTree
  Blocks = tree_of d names is

  pub conditions_told : (v p : ℕ) (more : List ℕ) → At (text_of d names is) p (text_onto (potential_words d names v) more) → look.condition_places (text_of d names is) (look.node_blocks Blocks) (potential_tree d names p v) ≡ (node_at d.nodes v).parents
  conditions_told v p more at =
      let parents = (node_at d.nodes v).parents in
      let tokens = drop 1 (head_tokens p names v parents) in
      ap (λ list. map (λ t. look.place_among list (token_bytes (text_of d names is) t)) tokens) (names_told d names is)
      ∙ map_map (look.place_among names.nodes) (token_bytes (text_of d names is)) tokens
      ∙ ap (map (look.place_among names.nodes)) (potential_told v p more at).given
      ∙ places_told parents (λ k e h. is.diagram.graph.parents_known (get_or parents k e) v (All-contains_itself parents k e h))

  has_number : (v : ℕ) → v < length d.nodes → Contains (numbers_of d.nodes) v
  has_number v l = (v, omega (arith, length-range_with_len 0 (length d.nodes)), get_or-range_with_len 0 (length d.nodes) v v l ∙ start v) where
    start : (n : ℕ) → 0 + n ≡ n
    start n = omega arith

  -- the potential of each node, and where it stands
  pub potential_found : (v : ℕ) → v < length d.nodes → (p : ℕ) × (more : List ℕ) × At (text_of d names is) p (text_onto (potential_words d names v) more) × (look.potential_of (text_of d names is) Blocks (name_of names v) ≡ Some (potential_tree d names p v))
  potential_found v l =
      let found = finds v l (end_at (place_of d names is) (node_lines d names is)) (numbers_of d.nodes) [] (at_potentials d names is) (numbers_below (length d.nodes)) (has_number v l) in
      (found.0, found.1, found.2.0, ap (find (λ b. bytes_eq (look.block_name (text_of d names is) b) (name_of names v))) (potentials_are d names is) ∙ found.2.1)

  pub parents_told : map (λ n. n.parents) d.nodes ≡ look.parent_lists (text_of d names is) Blocks
  parents_told = sym (tell d names is (λ b. look.block_parents (text_of d names is) Blocks (look.block_name (text_of d names is) b)) (λ v. (node_at d.nodes v).parents) one ∙ each_node (λ n. n.parents) d.nodes) where
    one : (v p : ℕ) (more : List ℕ) → v < length d.nodes → At (text_of d names is) p (text_onto (node_words d.nodes names v) more) → look.block_parents (text_of d names is) Blocks (look.block_name (text_of d names is) (node_tree d.nodes names p v)) ≡ (node_at d.nodes v).parents
    one v p more l at =
        let found = potential_found v l in
        ap (look.block_parents (text_of d names is) Blocks) (node_name_told (text_of d names is) d.nodes names v p more at)
        ∙ ap (λ o. option_map_or (look.condition_places (text_of d names is) (look.node_blocks Blocks)) o []) found.3
        ∙ conditions_told v found.0 found.1 found.2
