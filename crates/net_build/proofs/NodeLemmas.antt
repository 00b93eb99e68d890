-- The rows of one node block, and the lists of all.
use Rattle.std.proofs.Common.{◌≡◌, ℕ, ◌+◌, ◌<◌, ◌≤◌, Bool, true, false, List, [], ◌∷◌, ◌++◌, length, get_or, take, drop, map, filter, Contains, Option, None, Some, is_some, inl, inr, refl, ap, sym, ◌∙◌, arith}
use Rattle.std.proofs.lemmas.Bool.{false≢true}
use Rattle.std.proofs.lemmas.List.{map-append, take-append-drop, take_all}
use Rattle.std.proofs.lemmas.List.Elements.{filter-append}
use Rattle.std.specs.Prelude.{if◌then◌else◌}
use Rattle.net_build.specs.Stages.{with_owners}
use Rattle.net_build.proofs.SightLemmas.{agents_more, owners_here}
use Rattle.std.specs.Option.{SomeIff}
use Rattle.net_build.specs.declared.faults.BuildFault.{BuildFault}
use Rattle.net_build.specs.declared.faults.BuildFault.TheVariants.{Fault, NoMemory}
use Rattle.net_build.specs.declared.faults.BuildKind.TheVariants as kinds
use Rattle.net_build.specs.declared.faults.Limit.TheVariants as limits
use Rattle.net_build.specs.declared.nodes.Head.{Head}
use Rattle.net_build.specs.Blocks.{is_node, kind_of, title_at, block_name, names_of, has_agent, owner_texts, agents_of, owner_numbers, place_among, node_blocks}
use Rattle.first_fault.specs.Passes.{Pass}
use Rattle.first_fault.specs.Answers.{IsFaultOrNoMemory}
use Rattle.net_build.specs.Passes.{Found, build_fault}
use Rattle.net_build.specs.NodeCalls.{attribute_rows}
use Rattle.net_build.specs.Table.{block_owner_rows, name_rows, node_rows}
use Rattle.net_parser.specs.Owned.{HasNames}
use Rattle.net_parser.specs.Trees.{BlockTree}
use Rattle.net_parser.specs.declared.trees.BlockKind.{BlockKind}
use Rattle.net_parser.specs.declared.trees.BlockKind.TheVariants.{Net, Node, Decision, Utility, Potential}
use Rattle.first_fault.proofs.Leading.{filter_front_yes}

-- the 257th node
pub many_nodes : (text : List ℕ) (names : List (List ℕ)) (block : BlockTree) (fault : BuildFault) → 256 ≤ length names → fault ≡ Fault (title_at block) (kinds.LimitPassed limits.Nodes 257) → IsFaultOrNoMemory build_fault (name_rows text names block) fault
unfolding name_rows
many_nodes text names block fault many what = rw what (inl (omega arith, refl))

-- a name of too many bytes
pub long_name : (text : List ℕ) (names : List (List ℕ)) (block : BlockTree) (fault : BuildFault) (count : ℕ) → length names < 256 → count ≡ length (block_name text block) → 255 < count → fault ≡ Fault (title_at block) (kinds.LimitPassed limits.NameBytes count) → IsFaultOrNoMemory build_fault (name_rows text names block) fault
unfolding name_rows
long_name text names block fault count few counted long what = rw (what, counted) (inr ((λ many. omega arith), inl (rw counted at long, refl)))

-- a name that another block has
pub double_name : (text : List ℕ) (names : List (List ℕ)) (block : BlockTree) (fault : BuildFault) → length names < 256 → length (block_name text block) ≤ 255 → Contains names (block_name text block) → fault ≡ Fault (title_at block) kinds.DoubleName → IsFaultOrNoMemory build_fault (name_rows text names block) fault
unfolding name_rows
double_name text names block fault few short has what = rw what (inr ((λ many. omega arith), inr ((λ long. omega arith), (has, refl))))

-- any other
pub good_name : (text : List ℕ) (names : List (List ℕ)) (block : BlockTree) → length names < 256 → length (block_name text block) ≤ 255 → (Contains names (block_name text block) → ⊥) → name_rows text names block None
unfolding name_rows
good_name text names block few short lacks = ((λ many. omega arith), ((λ long. omega arith), lacks))

-- what a search answers, as a test
pub some_has : {P : Type 0} (v : ℕ) (r : Option ℕ) → SomeIff r P v → is_some r ≡ true → P
some_has v None h e = absurd (false≢true e)
some_has v (Some x) h e = h.0

pub none_lacks : {P : Type 0} (v : ℕ) (r : Option ℕ) → SomeIff r P v → is_some r ≡ false → P → ⊥
none_lacks v None h e = h
none_lacks v (Some x) h e = λ p. false≢true (sym e)

-- a block's name is new where its rows find nothing
pub entry_new : (text : List ℕ) (names agents : List (List ℕ)) (block : BlockTree) → node_rows text names agents block None → Contains names (block_name text block) → ⊥
unfolding node_rows name_rows
entry_new text names agents block h has = h.0.1.1 has

-- the rows of a block in their order
pub entry_name : (text : List ℕ) (names agents : List (List ℕ)) (block : BlockTree) (fault : BuildFault) → IsFaultOrNoMemory build_fault (name_rows text names block) fault → IsFaultOrNoMemory build_fault (node_rows text names agents block) fault
unfolding node_rows
entry_name text names agents block NoMemory h = tt
entry_name text names agents block (Fault at kind) h = inl h

pub entry_labels : (text : List ℕ) (names agents : List (List ℕ)) (block : BlockTree) (fault : BuildFault) → name_rows text names block None → IsFaultOrNoMemory build_fault (attribute_rows text block) fault → IsFaultOrNoMemory build_fault (node_rows text names agents block) fault
unfolding node_rows
entry_labels text names agents block NoMemory name h = tt
entry_labels text names agents block (Fault at kind) name (inl h) = inr (name, inl h)
entry_labels text names agents block (Fault at kind) name (inr (single, h)) = inr (name, inr (single, inl h))

pub entry_owner : (text : List ℕ) (names agents : List (List ℕ)) (block : BlockTree) (fault : BuildFault) → name_rows text names block None → attribute_rows text block None → IsFaultOrNoMemory build_fault (block_owner_rows text agents block) fault → IsFaultOrNoMemory build_fault (node_rows text names agents block) fault
unfolding node_rows
entry_owner text names agents block NoMemory name labels h = tt
entry_owner text names agents block (Fault at kind) name labels h = inr (name, inr (labels.0, inr (labels.1, h)))

pub entry_good : (text : List ℕ) (names agents : List (List ℕ)) (block : BlockTree) → name_rows text names block None → attribute_rows text block None → block_owner_rows text agents block None → node_rows text names agents block None
unfolding node_rows
entry_good text names agents block name labels owner = (name, (labels.0, (labels.1, owner)))

-- a node block has a name
pub node_is_named : (kind : BlockKind) (count : ℕ) → is_node kind ≡ true → HasNames kind count → 0 < count
node_is_named Net count e h = absurd (false≢true e)
node_is_named Node count e h = omega arith
node_is_named Decision count e h = omega arith
node_is_named Utility count e h = omega arith
node_is_named Potential count e h = h

-- what is made of the items that a filter keeps, one item on
pub front_more : {X Y : Type 0} (f : X → Y) (p : X → Bool) (xs : List X) (i : ℕ) (x : X) (ys more : List Y) (y : Y) → i < length xs → x ≡ get_or xs i x → p x ≡ true → ys ≡ map f (filter p (take i xs)) → more ≡ ys ++ y ∷ [] → y ≡ f x → more ≡ map f (filter p (take (i + 1) xs))
front_more f p xs i x ys more y h is kept so_far is_more this =
    is_more ∙ ap (λ zs. zs ++ y ∷ []) so_far ∙ ap (λ z. map f (filter p (take i xs)) ++ z ∷ []) this
    ∙ sym (map-append f (filter p (take i xs)) (x ∷ [])) ∙ ap (map f) (sym (filter_front_yes p xs i x h is kept))

-- the same where lists of vectors are seen as plain lists
pub front_pushed : {V X Y : Type 0} (view : V → Y) (f : X → Y) (p : X → Bool) (xs : List X) (i : ℕ) (x : X) (vs longer : List V) (v : V) → i < length xs → x ≡ get_or xs i x → p x ≡ true → map view vs ≡ map f (filter p (take i xs)) → longer ≡ vs ++ v ∷ [] → view v ≡ f x → map view longer ≡ map f (filter p (take (i + 1) xs))
front_pushed view f p xs i x vs longer v h is kept so_far is_longer this =
    front_more f p xs i x (map view vs) (map view longer) (view v) h is kept so_far (ap (map view) is_longer ∙ map-append view vs (v ∷ [])) this

-- a head by its parts
pub head_is : (head : Head) (at owner states : ℕ) (block : BlockTree) → head.at ≡ at → head.kind ≡ kind_of block.kind → head.owner ≡ owner → head.states ≡ states → head ≡ record { at = at; kind = kind_of block.kind; owner = owner; states = states }
head_is head at owner states block is_at is_kind is_owner is_states = λ i. record { at = is_at i; kind = is_kind i; owner = is_owner i; states = is_states i }

-- the rows of a block behind nodes of these names and agents
abbrev pub rows_behind : List ℕ → List BlockTree → BlockTree → Pass Found
rows_behind text earlier b = node_rows text (names_of text earlier) (agents_of text earlier) b

abbrev pub is_node_block : BlockTree → Bool
is_node_block b = is_node b.kind

-- all nodes are those before a block, the block, and those behind it
pub nodes_split : (blocks : List BlockTree) (i : ℕ) (b : BlockTree) → i < length blocks → b ≡ get_or blocks i b → is_node b.kind ≡ true → node_blocks blocks ≡ (node_blocks (take i blocks) ++ b ∷ []) ++ node_blocks (drop (i + 1) blocks)
nodes_split blocks i b h is kept =
    sym (ap node_blocks (take-append-drop (i + 1) blocks)) ∙ filter-append is_node_block (take (i + 1) blocks) (drop (i + 1) blocks)
    ∙ ap (λ front. front ++ node_blocks (drop (i + 1) blocks)) (filter_front_yes is_node_block blocks i b h is kept)

-- the agents up to a block
pub agents_up_to : (text : List ℕ) (blocks : List BlockTree) (i : ℕ) (b : BlockTree) (before agents : List (List ℕ)) → i < length blocks → b ≡ get_or blocks i b → is_node b.kind ≡ true → before ≡ agents_of text (node_blocks (take i blocks)) → agents ≡ with_owners text before b → agents ≡ agents_of text (node_blocks (take (i + 1) blocks))
agents_up_to text blocks i b before agents h is kept so_far are =
    are ∙ ap (λ s. with_owners text s b) so_far ∙ sym (agents_more text (node_blocks (take i blocks)) b) ∙ ap (agents_of text) (sym (filter_front_yes is_node_block blocks i b h is kept))

-- the owners of a block's node
pub owners_up_to : (text : List ℕ) (blocks : List BlockTree) (i : ℕ) (b : BlockTree) (before agents : List (List ℕ)) → i < length blocks → b ≡ get_or blocks i b → is_node b.kind ≡ true → before ≡ agents_of text (node_blocks (take i blocks)) → agents ≡ with_owners text before b
    → (if has_agent b.kind then map (place_among agents) (owner_texts text b) else 0 ∷ []) ≡ owner_numbers text (node_blocks blocks) b
owners_up_to text blocks i b before agents h is kept so_far are =
    owners_here text (node_blocks blocks) (node_blocks (take i blocks)) (node_blocks (drop (i + 1) blocks)) b agents (nodes_split blocks i b h is kept) (are ∙ ap (λ s. with_owners text s b) so_far)

-- the first of them, and the others
pub first_is : (owner : ℕ) (more owners : List ℕ) → owner ∷ more ≡ owners → owner ≡ get_or owners 0 0
first_is owner more owners e = ap (λ l. get_or l 0 0) e

pub others_are : (owner : ℕ) (more owners : List ℕ) → owner ∷ more ≡ owners → more ≡ drop 1 owners
others_are owner more owners e = ap (drop 1) e

-- all blocks have been seen
pub nodes_done : (blocks : List BlockTree) (i : ℕ) → length blocks ≤ i → node_blocks (take i blocks) ≡ node_blocks blocks
nodes_done blocks i h = ap node_blocks (take_all i blocks h)
