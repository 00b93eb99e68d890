-- What holds of the node blocks where their rows find nothing.
use Rattle.std.proofs.Common.{◌≡◌, ◌≢◌, ℕ, suc, ◌+◌, ◌<◌, ◌≤◌, Bool, true, false, not, cond, List, [], ◌∷◌, ◌++◌, length, map, All, AllPairs, Contains, None, refl, ap, sym, ◌∙◌, subst, arith}
use Rattle.std.proofs.lemmas.Bool.{false≢true}
use Rattle.std.proofs.lemmas.List.{map-append, append-nil, append_assoc, length-map, length_push, get_or_default}
use Rattle.std.proofs.lemmas.List.Elements.{All-nil, All-cons, All-push, All-weaker, All-filter, filter_passes}
use Rattle.std.proofs.lemmas.List.Quantifiers.{all_pairs_push}
use Rattle.std.specs.List.{list_all, list_any}
use Rattle.std.specs.Prelude.{if◌then◌else◌, codes}
use Rattle.std.specs.Str.{bytes_eq}
use Rattle.net_build.specs.Blocks.{node_blocks, block_name, names_of, title_at, word_of, has_states, has_agent, may_share, names_owners, named, is_string, is_string_list, is_label, leaves_of, tells_owners, owner_attributes, texts_or_agent, owner_texts, agents_of, first_sights, with_sight, with_sights}
use Rattle.first_fault.specs.Passes.{Pass, only, each, each_after}
use Rattle.net_build.specs.Passes.{Found}
use Rattle.net_build.specs.Stages.{with_owners}
use Rattle.net_build.specs.Table.{IsAgentTooMany, label_row, label_rows, states_rows, repeated_agent_row, agent_rows, sight_row, owner_rows, name_rows, node_rows, node_pass}
use Rattle.net_lexer.specs.Token.{text_value}
use Rattle.net_lexer.specs.declared.tokens.Token.{Token}
use Rattle.net_parser.specs.Owned.{leaves}
use Rattle.net_parser.specs.Trees.{AttributeTree, BlockTree}
use Rattle.net_parser.specs.declared.trees.BlockKind.{BlockKind}
use Rattle.net_parser.specs.declared.trees.BlockKind.TheVariants.{Net, Node, Decision, Utility, Potential}
use Rattle.net_build.proofs.AttributeLemmas.{and_left, and_right}
use Rattle.net_build.proofs.LabelLemmas.{one_leaf, some_leaf, not_false}
use Rattle.net_build.proofs.OwnerNames.{one_string, some_told, texts_told}
use Rattle.net_build.proofs.PlaceLemmas.{bytes_differ}
use Rattle.net_build.proofs.OwnerLemmas.{contains_any, sights_push}
use Rattle.net_build.proofs.NodeLemmas.{rows_behind}
use Rattle.net_build.proofs.SightLemmas.{agents_more}

-- what holds of no items, and of one more where its rows find nothing, holds of all
pub after_all : {X : Type 0} (P : List X → X → Pass Found) (Q : List X → Type 0) → ((earlier : List X) (x : X) → Q earlier → P earlier x None → Q (earlier ++ x ∷ [])) → (earlier xs : List X) → Q earlier → each_after P earlier xs None → Q (earlier ++ xs)
after_all P Q step earlier [] q h = subst Q (sym (append-nil earlier)) q
after_all P Q step earlier (x ∷ xs) q h = subst Q (append_assoc earlier (x ∷ []) xs) (after_all P Q step (earlier ++ x ∷ []) xs (step earlier x q h.0) h.1)

-- rows that find nothing find nothing at each item
pub each_all : {X : Type 0} (P : X → Pass Found) (xs : List X) → each P xs None → All (λ x. P x None) xs
each_all P [] h = All-nil (λ x. P x None)
each_all P (x ∷ xs) h = All-cons (λ y. P y None) x xs h.0 (each_all P xs h.1)

-- rows that count
pub only_on : (b : Bool) (P : Pass Found) → b ≡ true → only b P None → P None
only_on true P e h = h
only_on false P e h = absurd (false≢true e)

-- a node with states has one to 256 labels, all of a label's form
pub record HasLabels (text : List ℕ) (tokens : List Token) : Type 0 where
  pub some : 0 < length tokens
  pub few : length tokens ≤ 256
  pub plain : All (λ t. is_label (text_value text t) ≡ true) tokens

states_labels : (text : List ℕ) (block : BlockTree) (states : List AttributeTree) → states_rows text block states None → HasLabels text (leaves_of states)
unfolding states_rows label_rows
states_labels text block [] h = absurd (h tt)
states_labels text block (s ∷ rest) h = record {
  some = some_leaf s.value (not_false (is_string_list s.value) h.0);
  few = few (length (leaves s.value)) h.1.0;
  plain = All-weaker (λ t. label_row text t None) (λ t. is_label (text_value text t) ≡ true) (λ t nothing. not_false (is_label (text_value text t)) nothing) (leaves s.value) (each_all (label_row text) (leaves s.value) h.1.1);
} where
  few : (n : ℕ) → (256 < n → ⊥) → n ≤ 256
  few n many = grind arith

all_plain : (text : List ℕ) (ts : List Token) → list_all (λ t. is_label (text_value text t)) ts ≡ true → All (λ x. is_label x ≡ true) (map (text_value text) ts)
all_plain text [] e = All-nil (λ x. is_label x ≡ true)
all_plain text (t ∷ ts) e =
    All-cons (λ x. is_label x ≡ true) (text_value text t) (map (text_value text) ts) (and_left (is_label (text_value text t)) (list_all (λ t. is_label (text_value text t)) ts) e)
    (all_plain text ts (and_right (is_label (text_value text t)) (list_all (λ t. is_label (text_value text t)) ts) e))

-- no agent that a list names stands twice
none_twice : (text : List ℕ) (ts : List Token) → each_after (repeated_agent_row text) [] ts None → AllPairs (λ name later. name ≢ later) (map (text_value text) ts)
none_twice text ts h = after_all (repeated_agent_row text) (λ earlier. AllPairs (λ name later. name ≢ later) (map (text_value text) earlier))
    (λ earlier t apart new. rw (map-append (text_value text) earlier (t ∷ []))
    (all_pairs_push (λ name later. name ≢ later) (map (text_value text) earlier) (text_value text t) apart (λ k d within same. new (k, within, get_or_default (map (text_value text) earlier) k (text_value text t) d within ∙ same))))
    [] ts (λ i j d lt within. absurd (omega arith)) h

-- the owners of a decision or a utility: of a label's form, each once, and one alone unless several
-- may share the node
pub record HasOwnerNames (kind : BlockKind) (names : List (List ℕ)) : Type 0 where
  pub some : 0 < length names
  pub plain : All (λ name. is_label name ≡ true) names
  pub distinct : AllPairs (λ name later. name ≢ later) names
  pub one : may_share kind ≡ false → length names ≡ 1

agent_word : (kind : BlockKind) (word : List ℕ) → may_share kind ≡ false → names_owners kind word ≡ true → bytes_eq word (codes "agents") ≡ false
agent_word kind word alone names = bytes_differ word (codes "agents") (λ same. by_kind kind alone (ap (names_owners kind) (sym same) ∙ names)) where
  by_kind : (k : BlockKind) → may_share k ≡ false → names_owners k (codes "agents") ≡ true → ⊥
  by_kind Net a n = false≢true n
  by_kind Node a n = false≢true n
  by_kind Decision a n = false≢true n
  by_kind Utility a n = false≢true (sym a)
  by_kind Potential a n = false≢true n

told_owners : (text : List ℕ) (kind : BlockKind) (attributes : List AttributeTree) → All (λ a. names_owners kind (word_of text a) ≡ true) attributes → agent_rows text attributes None → HasOwnerNames kind (texts_or_agent text (leaves_of attributes))
unfolding agent_rows
told_owners text kind [] all h = record {
  some = omega arith;
  plain = All-cons (λ name. is_label name ≡ true) (codes "agent") [] refl (All-nil (λ name. is_label name ≡ true));
  distinct = λ i j d lt within. absurd (omega arith);
  one = λ alone. refl;
}
told_owners text kind (a ∷ rest) all h =
    let tells = not_false (tells_owners text a) h.0 in
    let all_are : list_all (λ t. is_label (text_value text t)) (leaves a.value) ≡ true = and_right (cond (bytes_eq (word_of text a) (codes "agents")) (is_string_list a.value) (is_string a.value)) (list_all (λ t. is_label (text_value text t)) (leaves a.value)) tells in
    let are = texts_told text a h.0 in
    let count : length (map (text_value text) (leaves a.value)) ≡ length (leaves a.value) = length-map (leaves a.value) (text_value text) in
    subst (HasOwnerNames kind) (sym are) (record {
      some = subst (λ n. 0 < n) (sym count) (some_told text a h.0);
      plain = all_plain text (leaves a.value) all_are;
      distinct = none_twice text (leaves a.value) h.1;
      one = λ alone. count ∙ one_leaf a.value (one_string text a (agent_word kind (word_of text a) alone (all 0 a (omega arith))) h.0);
    })

-- what holds of one block behind others
pub record IsGood (text : List ℕ) (block : BlockTree) : Type 0 where
  pub short : length (block_name text block) ≤ 255
  pub labels : has_states block.kind ≡ true → HasLabels text (leaves_of (named text (codes "states") block.attributes))
  pub owners : has_agent block.kind ≡ true → HasOwnerNames block.kind (owner_texts text block)

-- and of all
pub record AreGood (text : List ℕ) (nodes : List BlockTree) : Type 0 where
  pub few : length nodes ≤ 256
  pub distinct : AllPairs (λ name later. name ≢ later) (names_of text nodes)
  pub agents : length (agents_of text nodes) ≤ 16
  pub each : All (IsGood text) nodes

good_block : (text : List ℕ) (names agents : List (List ℕ)) (block : BlockTree) → node_rows text names agents block None → IsGood text block
unfolding node_rows name_rows owner_rows
good_block text names agents block h = record {
  short = short (length (block_name text block)) h.0.1.0;
  labels = λ e. states_labels text block _ (only_on (has_states block.kind) _ e h.1.1.0);
  owners = λ e. told_owners text block.kind (owner_attributes text block) (filter_passes (λ a. names_owners block.kind (word_of text a)) block.attributes) (only_on (has_agent block.kind) (owner_rows text agents block) e h.1.1.1).0;
} where
  short : (n : ℕ) → (255 < n → ⊥) → n ≤ 255
  short n long = grind arith

-- counts below a limit
under : (n m : ℕ) → (16 ≤ n → ⊥) → m ≡ n + 1 → m ≤ 16
under n m small e = grind arith

under256 : (n m : ℕ) → (256 ≤ n → ⊥) → m ≡ n + 1 → m ≤ 256
under256 n m small e = grind arith

-- the count of agents with one more
one_agent_more : (agents : List (List ℕ)) (agent : List ℕ) → length agents ≤ 16 → (IsAgentTooMany agents agent → ⊥) → length (with_sight agents agent) ≤ 16
one_agent_more agents agent few ok = by_sight (list_any (λ a. bytes_eq a agent) agents) refl where
  by_sight : (b : Bool) → list_any (λ a. bytes_eq a agent) agents ≡ b → length (with_sight agents agent) ≤ 16
  by_sight true e = rw (ap (λ b. if b then agents else agents ++ agent ∷ []) e) few
  by_sight false e =
      let lacks : Contains agents agent → ⊥ = λ has. false≢true (sym e ∙ contains_any agents agent has) in
      let small : 16 ≤ length agents → ⊥ = λ many. ok (many, lacks) in
      rw (ap (λ b. if b then agents else agents ++ agent ∷ []) e) (let l = length_push agents agent in under (length agents) _ small l)

-- and with a node's owners
few_agents : (agents names : List (List ℕ)) (at : ℕ) → length agents ≤ 16 → each_after (sight_row agents at) [] names None → length (with_sights agents names) ≤ 16
few_agents agents names at few h = after_all (sight_row agents at) (λ earlier. length (with_sights agents earlier) ≤ 16)
    (λ earlier x small room. rw (sights_push agents earlier x) (one_agent_more (with_sights agents earlier) x small room))
    [] names few h

few_with_owners : (text : List ℕ) (agents : List (List ℕ)) (block : BlockTree) → length agents ≤ 16 → (has_agent block.kind ≡ true → each_after (sight_row agents (title_at block)) [] (owner_texts text block) None) → length (with_owners text agents block) ≤ 16
few_with_owners text agents block few rows = by_test (has_agent block.kind) refl where
  by_test : (b : Bool) → has_agent block.kind ≡ b → length (with_owners text agents block) ≤ 16
  by_test true e = rw (ap (λ b. if b then with_sights agents (owner_texts text block) else agents) e) (few_agents agents (owner_texts text block) (title_at block) few (rows e))
  by_test false e = rw (ap (λ b. if b then with_sights agents (owner_texts text block) else agents) e) few

good_more : (text : List ℕ) (earlier : List BlockTree) (block : BlockTree) → AreGood text earlier → rows_behind text earlier block None → AreGood text (earlier ++ block ∷ [])
unfolding node_rows name_rows owner_rows
good_more text earlier block good h = record {
  few = let l = length_push earlier block in let n = length-map earlier (block_name text) in under256 (length earlier) _ (λ many. h.0.0 (rw n many)) l;
  distinct = rw (map-append (block_name text) earlier (block ∷ [])) (all_pairs_push (λ name later. name ≢ later) (names_of text earlier) (block_name text block) good.distinct (λ k d within same. h.0.1.1 (k, within, get_or_default (names_of text earlier) k (block_name text block) d within ∙ same)));
  agents = rw (agents_more text earlier block) (few_with_owners text (agents_of text earlier) block good.agents (λ e. (only_on (has_agent block.kind) (owner_rows text (agents_of text earlier) block) e h.1.1.1).1));
  each = All-push (IsGood text) earlier block good.each (good_block text (names_of text earlier) (agents_of text earlier) block h);
}

-- the node blocks of a text whose rows find nothing
pub nodes_are_good : (text : List ℕ) (blocks : List BlockTree) → node_pass text blocks None → AreGood text (node_blocks blocks)
unfolding node_pass
nodes_are_good text blocks h = after_all (rows_behind text) (AreGood text) (good_more text) [] (node_blocks blocks) (record { few = omega arith; distinct = λ i j d lt within. absurd (omega arith); agents = omega arith; each = All-nil (IsGood text) }) h

-- agents in order of first sight have a label's form
pub sights_all : (P : List ℕ → Type 0) (xs : List (List ℕ)) → All P xs → All P (first_sights xs)
sights_all P [] all = all
sights_all P (x ∷ xs) all = All-cons P x _ (all 0 x (omega arith)) (All-filter (λ y. not (bytes_eq x y)) P (first_sights xs) (sights_all P xs (λ k d h. all (suc k) d (omega arith))))
