-- The attributes of a node's block in a printed text have no fault: each stands once, the labels
-- are strings of a label's form, and so is the agent.
use Rattle.std.proofs.Common.{◌≡◌, ◌∙◌, ◌≢◌, ℕ, zero, suc, ◌<◌, ◌≤◌, Bool, true, false, ◌&&◌, cond, List, [], ◌∷◌, length, map, filter, All, AllPairs, Contains, None, codes, refl, sym, ap, subst, arith}
use Rattle.std.specs.List.{list_all}
use Rattle.std.specs.Prelude.{if◌then◌else◌}
use Rattle.std.specs.Str.{bytes_eq}
use Rattle.std.proofs.lemmas.Bool.{both_ways}
use Rattle.std.proofs.lemmas.List.{length-map, map-append}
use Rattle.std.proofs.lemmas.List.Elements.{All-head, All-tail}
use Rattle.maid_model.specs.declared.diagrams.Kind.{Kind}
use Rattle.maid_model.specs.declared.diagrams.Kind.TheVariants.{Chance, Decision, Utility}
use Rattle.maid_model.specs.Reports.{quoted}
use Rattle.net_build.specs.Blocks as look
use Rattle.first_fault.specs.Passes.{each, each_after}
use Rattle.net_build.specs.Table.{repeats, repeated_row, label_row, label_rows, states_rows, repeated_agent_row, agent_rows}
use Rattle.net_lexer.specs.Token.{text_value}
use Rattle.net_lexer.specs.declared.tokens.Token.{Token}
use Rattle.net_lexer.specs.declared.tokens.TokenKind.TheVariants.{Text}
use Rattle.net_parser.specs.declared.trees.BlockKind.{BlockKind}
use Rattle.net_parser.specs.Owned.{leaves}
use Rattle.net_parser.specs.Trees.{list, AttributeTree, BlockTree}
use Rattle.net_print.proofs.ClearPasses.{after_clear, not_earlier}
use Rattle.net_print.proofs.Given.{nothing}
use Rattle.net_print.proofs.Look.{first_leaves, states_leaves, states_word, owner_word, owner_word_told, owner_leaves, owner_attributes_told}
use Rattle.net_print.proofs.PotentialPass.{first_same, rest_same}
use Rattle.net_print.proofs.Spelling.{leaf_trees}
use Rattle.net_print.proofs.Tree.{block_kind, list_tree, owner_tree, attribute_trees}
use Rattle.net_print.proofs.Words.{written, space, items, list_words, owner_words, attribute_words}
use Rattle.net_print.proofs.Written.{At, at_end, behind, end_at, text_onto, text_onto-append, tokens_at}

-- one or more labels, at most 256 and each of a label's form
pub record AreLabels (labels : List (List ℕ)) : Type 0 where
  pub some : 0 < length labels
  pub few : length labels ≤ 256
  pub plain : All (λ label. look.is_label label ≡ true) labels

in_one : {A : Type 0} (x y : A) → Contains (x ∷ []) y → x ≡ y
in_one x y (zero, h, e) = e
in_one x y (suc k, h, e) = absurd (omega arith)

other_word : codes "states" ≡ codes "agent" → ⊥
other_word e = omega (arith, ap length e)

-- the attributes of that name, of which the first is one
named_first : (text word : List ℕ) (a : AttributeTree) (others : List AttributeTree) → look.word_of text a ≡ word → bytes_eq word word ≡ true → look.named text word (a ∷ others) ≡ a ∷ look.named text word others
named_first text word a others e same =
    let rest = look.named text word others in
    ap (λ y. cond (bytes_eq y word) (a ∷ rest) rest) e ∙ ap (λ b. cond b (a ∷ rest) rest) same

-- among one attribute none stands twice
pub one_once : (text : List ℕ) (test : AttributeTree → Bool) (a : AttributeTree) → each_after (repeated_row text) [] (filter test (a ∷ [])) None
one_once text test a = by_test (test a) where
  by_test : (s : Bool) → each_after (repeated_row text) [] (cond s (a ∷ []) []) None
  by_test true = (λ has. nothing has, tt)
  by_test false = tt

-- nor among two of different topics
two_once : (text : List ℕ) (test : AttributeTree → Bool) (a b : AttributeTree) → look.topic_of text a ≢ look.topic_of text b → each_after (repeated_row text) [] (filter test (a ∷ b ∷ [])) None
two_once text test a b differ = by_test (test a) (test b) where
  by_test : (s t : Bool) → each_after (repeated_row text) [] (cond s (a ∷ cond t (b ∷ []) []) (cond t (b ∷ []) [])) None
  by_test true true = (λ has. nothing has, (λ has. differ (in_one (look.topic_of text a) (look.topic_of text b) has), tt))
  by_test true false = (λ has. nothing has, tt)
  by_test false true = (λ has. nothing has, tt)
  by_test false false = tt

later_strings : (from : ℕ) (labels : List (List ℕ)) → look.are_strings (leaf_trees (tokens_at from (map (λ y. written space Text (quoted y) []) labels))) ≡ true
later_strings from [] = refl
later_strings from (label ∷ labels) = later_strings (behind from (written space Text (quoted label) [])) labels

-- one or more labels make a list of strings
labels_strings : (from : ℕ) (labels : List (List ℕ)) → 0 < length labels → look.is_string_list (list (leaf_trees (tokens_at from (items Text quoted labels)))) ≡ true
labels_strings from [] some = absurd (omega arith)
labels_strings from (label ∷ labels) some = later_strings (behind from (written [] Text (quoted label) [])) labels

-- where the names of strings differ, none of them stands twice
names_apart : (text : List ℕ) (tokens : List Token) (names : List (List ℕ)) → map (text_value text) tokens ≡ names → AllPairs (λ a b. a ≢ b) names → each_after (repeated_agent_row text) [] tokens None
names_apart text tokens names told differ = after_clear (repeated_agent_row text) [] tokens (λ front t back e.
    not_earlier (map (text_value text) front) (text_value text t) (map (text_value text) back)
    (subst (λ list. AllPairs (λ a b. a ≢ b) list) (sym told ∙ ap (map (text_value text)) (sym e) ∙ map-append (text_value text) front (t ∷ back)) differ))

-- all of the strings have a label's form where their names do
strings_plain : (text : List ℕ) (tokens : List Token) (names : List (List ℕ)) → map (text_value text) tokens ≡ names → All (λ name. look.is_label name ≡ true) names → list_all (λ t. look.is_label (text_value text t)) tokens ≡ true
strings_plain text [] names told plain = refl
strings_plain text (t ∷ tokens) [] told plain = cc
strings_plain text (t ∷ tokens) (name ∷ names) told plain =
    λ j. (ap look.is_label (first_same told) ∙ All-head (λ l. look.is_label l ≡ true) name names plain) j && strings_plain text tokens names (rest_same told) (All-tail (λ l. look.is_label l ≡ true) name names plain) j

-- the owners of a node: some, of a label's form, and each once
pub record AreOwners (owners : List (List ℕ)) : Type 0 where
  pub some : 0 < length owners
  pub plain : All (λ name. look.is_label name ≡ true) owners
  pub differ : AllPairs (λ name later. name ≢ later) owners

few : (n m : ℕ) → n ≡ m → m ≤ 256 → 256 < n → ⊥
few n m e h k = omega arith

module _ (text : List ℕ) where
  labels_plain : (tokens : List Token) (labels : List (List ℕ)) → map (text_value text) tokens ≡ labels → All (λ label. look.is_label label ≡ true) labels → each (label_row text) tokens None
  labels_plain [] labels told plain = tt
  labels_plain (t ∷ tokens) [] told plain = cc
  labels_plain (t ∷ tokens) (label ∷ labels) told plain = (
    λ bad. both_ways (look.is_label (text_value text t)) bad (ap look.is_label (first_same told) ∙ All-head (λ l. look.is_label l ≡ true) label labels plain),
    labels_plain tokens labels (rest_same told) (All-tail (λ l. look.is_label l ≡ true) label labels plain),
  )

  labels_clear : (a : AttributeTree) (labels : List (List ℕ)) → look.is_string_list a.value ≡ true → map (text_value text) (leaves a.value) ≡ labels → AreLabels labels → label_rows text a None
  unfolding label_rows
  labels_clear a labels strings told are = (
    λ bad. both_ways (look.is_string_list a.value) bad strings,
    (
      λ many. few (length (leaves a.value)) (length labels) (sym (length-map (leaves a.value) (text_value text)) ∙ ap length told) are.few many,
      labels_plain (leaves a.value) labels told are.plain,
    ),
  )

  states_clear : (from : ℕ) (labels : List (List ℕ)) (rest : List ℕ) → At text from (text_onto (list_words (codes "states") Text quoted labels) rest) → AreLabels labels → (block : BlockTree) (others : List AttributeTree) → states_rows text block (look.named text (codes "states") (list_tree from (codes "states") Text quoted labels ∷ others)) None
  unfolding states_rows
  states_clear from labels rest at are block others =
      let attribute = list_tree from (codes "states") Text quoted labels in
      let word : look.word_of text attribute ≡ codes "states" = states_word text from labels rest at in
      let told : map (text_value text) (leaves attribute.value) ≡ labels = ap (map (text_value text)) (sym (first_leaves text (codes "states") attribute others word refl)) ∙ states_leaves text from labels rest at others in
      subst (λ attributes. states_rows text block attributes None) (sym (named_first text (codes "states") attribute others word refl)) (labels_clear attribute labels (labels_strings _ labels are.some) told are)

  -- a value of that shape and of strings of a label's form tells owners
  tells : (a : AttributeTree) (word : List ℕ) (b : Bool) → look.word_of text a ≡ word → bytes_eq word (codes "agents") ≡ b → cond b (look.is_string_list a.value) (look.is_string a.value) ≡ true → list_all (λ t. look.is_label (text_value text t)) (leaves a.value) ≡ true → look.tells_owners text a ≡ true
  tells a word b named is shape plain =
      let plains = list_all (λ t. look.is_label (text_value text t)) (leaves a.value) in
      ap (λ w. cond (bytes_eq w (codes "agents")) (look.is_string_list a.value) (look.is_string a.value) && plains) named
      ∙ ap (λ t. cond t (look.is_string_list a.value) (look.is_string a.value) && plains) is
      ∙ (λ j. shape j && plain j)

  owner_tells : (from : ℕ) (owners : List (List ℕ)) (rest : List ℕ) → At text from (text_onto (owner_words owners) rest) → AreOwners owners → look.tells_owners text (owner_tree from owners) ≡ true
  owner_tells from [] rest at are = let some = are.some in absurd (omega arith)
  owner_tells from (agent ∷ []) rest at are =
      tells (owner_tree from (agent ∷ [])) (codes "agent") false (owner_word_told text from (agent ∷ []) rest at) refl refl
      (strings_plain text (leaves (owner_tree from (agent ∷ [])).value) (agent ∷ []) (owner_leaves text from (agent ∷ []) rest at) are.plain)
  owner_tells from (agent ∷ other ∷ more) rest at are =
      let owners = agent ∷ other ∷ more in
      tells (owner_tree from owners) (codes "agents") true (owner_word_told text from owners rest at) refl (labels_strings _ owners are.some)
      (strings_plain text (leaves (owner_tree from owners).value) owners (owner_leaves text from owners rest at) are.plain)

  owners_clear : (from : ℕ) (owners : List (List ℕ)) (rest : List ℕ) → At text from (text_onto (owner_words owners) rest) → AreOwners owners → agent_rows text (owner_tree from owners ∷ []) None
  unfolding agent_rows
  owners_clear from owners rest at are = (
    λ bad. both_ways (look.tells_owners text (owner_tree from owners)) bad (owner_tells from owners rest at are),
    names_apart text (leaves (owner_tree from owners).value) owners (owner_leaves text from owners rest at) are.differ,
  )

  -- what has no fault in a node's block by itself
  pub record BlockClear (block : BlockTree) : Type 0 where
    pub once : repeats text block None
    pub states : look.has_states block.kind ≡ true → states_rows text block (look.named text (codes "states") block.attributes) None
    pub owners : look.has_agent block.kind ≡ true → agent_rows text (look.owner_attributes text block) None

  all_once : (block : BlockTree) (attributes : List AttributeTree) → block.attributes ≡ attributes → each_after (repeated_row text) [] (filter (λ a. look.is_counted block.kind (look.word_of text a)) attributes) None → repeats text block None
  unfolding repeats
  all_once block attributes e clear = subst (λ list. each_after (repeated_row text) [] (filter (λ a. look.is_counted block.kind (look.word_of text a)) list) None) (sym e) clear

  no_such : (test : BlockKind → Bool) (kind other : BlockKind) → kind ≡ other → test other ≡ false → test kind ≡ true → ⊥
  no_such test kind other e none has = both_ways (test other) none (sym (ap test e) ∙ has)

  -- an attribute's topic by its word
  topic_is : (a : AttributeTree) (word : List ℕ) → look.word_of text a ≡ word → look.topic_of text a ≡ (if bytes_eq word (codes "agents") then codes "agent" else word)
  topic_is a word e = ap (λ w. if bytes_eq w (codes "agents") then codes "agent" else w) e

  owners_topic : (owners : List (List ℕ)) → (if bytes_eq (owner_word owners) (codes "agents") then codes "agent" else owner_word owners) ≡ codes "agent"
  owners_topic [] = refl
  owners_topic (agent ∷ []) = refl
  owners_topic (agent ∷ other ∷ more) = refl

  -- the block of a node by its kind
  pub block_clear : (from : ℕ) (kind : Kind) (labels owners : List (List ℕ)) (rest : List ℕ) → At text from (text_onto (attribute_words kind labels owners) rest) → (kind ≢ Utility → AreLabels labels) → (kind ≢ Chance → AreOwners owners) → (kind ≢ Utility → length owners ≡ 1)
      → (block : BlockTree) → block.kind ≡ block_kind kind → block.attributes ≡ attribute_trees from kind labels owners → BlockClear block
  block_clear from Chance labels owners rest at are own one block is attributes = record {
    once = all_once block _ attributes (one_once text (λ a. look.is_counted block.kind (look.word_of text a)) (list_tree from (codes "states") Text quoted labels));
    states = λ has. subst (λ list. states_rows text block (look.named text (codes "states") list) None) (sym attributes) (states_clear from labels rest at (are (λ e. cc)) block []);
    owners = λ has. absurd (no_such look.has_agent block.kind (block_kind Chance) is refl has);
  }
  block_clear from Decision labels owners rest at are own one block is attributes =
      let states = list_words (codes "states") Text quoted labels in
      let first = list_tree from (codes "states") Text quoted labels in
      let second = owner_tree (end_at from states) owners in
      let here : At text from (text_onto states (text_onto (owner_words owners) rest)) = subst (At text from) (text_onto-append states (owner_words owners) rest) at in
      let next = at_end text from states (text_onto (owner_words owners) rest) here in
      let topic = topic_is first (codes "states") (states_word text from labels (text_onto (owner_words owners) rest) here) in
      let other = topic_is second (owner_word owners) (owner_word_told text (end_at from states) owners rest next) ∙ owners_topic owners in
      record {
        once = all_once block _ attributes (two_once text (λ a. look.is_counted block.kind (look.word_of text a)) first second (λ e. other_word (sym topic ∙ e ∙ other)));
        states = λ has. subst (λ list. states_rows text block (look.named text (codes "states") list) None) (sym attributes) (states_clear from labels (text_onto (owner_words owners) rest) here (are (λ e. cc)) block (second ∷ []));
        owners = λ has. subst (λ list. agent_rows text list None) (sym (owner_attributes_told text from Decision labels owners rest at (λ e. cc) one block is attributes)) (owners_clear (end_at from states) owners rest next (own (λ e. cc)));
      }
  block_clear from Utility labels owners rest at are own one block is attributes = record {
    once = all_once block _ attributes (one_once text (λ a. look.is_counted block.kind (look.word_of text a)) (owner_tree from owners));
    states = λ has. absurd (no_such look.has_states block.kind (block_kind Utility) is refl has);
    owners = λ has. subst (λ list. agent_rows text list None) (sym (owner_attributes_told text from Utility labels owners rest at (λ e. cc) one block is attributes)) (owners_clear from owners rest at (own (λ e. cc)));
  }
