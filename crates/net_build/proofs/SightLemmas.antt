-- Agents in order of first sight, one more agent on.
use Rattle.std.proofs.Common.{◌≡◌, ℕ, suc, ◌+◌, Bool, true, false, not, ◌||◌, cond, List, [], ◌∷◌, ◌++◌, map, filter, All, refl, ap, sym, subst, ◌∙◌, arith}
use Rattle.std.proofs.lemmas.Bool.{false≢true}
use Rattle.std.proofs.lemmas.List.{append-nil}
use Rattle.std.proofs.lemmas.Grind.{flat_map-append}
use Rattle.std.proofs.lemmas.List.Concat.{flat_map-cons}
use Rattle.std.proofs.lemmas.List.Elements.{filter-append}
use Rattle.std.specs.List.{flat_map}
use Rattle.std.specs.Prelude.{if◌then◌else◌}
use Rattle.std.specs.Str.{bytes_eq}
use Rattle.net_build.specs.Blocks.{first_sights, place_among, has_agent, owner_texts, agents_of, owner_numbers, with_sights}
pub use Rattle.finite_sums.proofs.Sights.{has, others, has_others, has-append, has-before, has_sight, has_sights, first_sights_all, sights_grow, sight_adds, sights_add}
use Rattle.net_build.specs.Stages.{with_owners}
use Rattle.net_parser.specs.Trees.{BlockTree}

-- the owners of the decisions and utilities among nodes
abbrev pub agents_among : List ℕ → List BlockTree → List (List ℕ)
agents_among text nodes = flat_map (owner_texts text) (filter (λ b. has_agent b.kind) nodes)

agents_among-append : (text : List ℕ) (nodes others : List BlockTree) → agents_among text (nodes ++ others) ≡ agents_among text nodes ++ agents_among text others
agents_among-append text nodes others =
    ap (flat_map (owner_texts text)) (filter-append (λ b. has_agent b.kind) nodes others)
    ∙ flat_map-append (owner_texts text) (filter (λ b. has_agent b.kind) nodes) (filter (λ b. has_agent b.kind) others)

-- those of one node
agents_alone : (text : List ℕ) (block : BlockTree) → has_agent block.kind ≡ true → agents_among text (block ∷ []) ≡ owner_texts text block
agents_alone text block e =
    ap (λ b. flat_map (owner_texts text) (cond b (block ∷ []) [])) e ∙ flat_map-cons (owner_texts text) block [] ∙ append-nil (owner_texts text block)

-- the agents of one more node
pub agents_more : (text : List ℕ) (nodes : List BlockTree) (block : BlockTree) → agents_of text (nodes ++ block ∷ []) ≡ with_owners text (agents_of text nodes) block
agents_more text nodes block = ap first_sights (agents_among-append text nodes (block ∷ [])) ∙ by_test (has_agent block.kind) refl where
  by_test : (b : Bool) → has_agent block.kind ≡ b → first_sights (agents_among text nodes ++ agents_among text (block ∷ [])) ≡ with_owners text (agents_of text nodes) block
  by_test true e =
      ap (λ zs. first_sights (agents_among text nodes ++ zs)) (agents_alone text block e)
      ∙ first_sights_all (agents_among text nodes) (owner_texts text block)
      ∙ sym (ap (λ b. if b then with_sights (agents_of text nodes) (owner_texts text block) else agents_of text nodes) e)
  by_test false e =
      ap (λ b. first_sights (agents_among text nodes ++ flat_map (owner_texts text) (cond b (block ∷ []) []))) e
      ∙ ap first_sights (append-nil (agents_among text nodes))
      ∙ sym (ap (λ b. if b then with_sights (agents_of text nodes) (owner_texts text block) else agents_of text nodes) e)

-- a name that is there keeps its place
pub place_grow : (xs zs : List (List ℕ)) (a : List ℕ) → has xs a ≡ true → place_among (xs ++ zs) a ≡ place_among xs a
place_grow [] zs a e = absurd (false≢true e)
place_grow (x ∷ xs) zs a e = by_test (bytes_eq x a) refl (λ k. place_grow xs zs a k) where
  by_test : (b : Bool) → bytes_eq x a ≡ b → (has xs a ≡ true → place_among (xs ++ zs) a ≡ place_among xs a) → place_among (x ∷ (xs ++ zs)) a ≡ place_among (x ∷ xs) a
  by_test true t rec = ap (λ b. cond (not b) (1 + place_among (xs ++ zs) a) 0) t ∙ sym (ap (λ b. cond (not b) (1 + place_among xs a) 0) t)
  by_test false t rec =
      ap (λ b. cond (not b) (1 + place_among (xs ++ zs) a) 0) t ∙ ap (λ n. 1 + n) (rec (ap (λ b. b || has xs a) (sym t) ∙ e))
      ∙ sym (ap (λ b. cond (not b) (1 + place_among xs a) 0) t)

-- names that are there keep their places
pub places_grow : (xs zs names : List (List ℕ)) → All (λ a. has xs a ≡ true) names → map (place_among (xs ++ zs)) names ≡ map (place_among xs) names
places_grow xs zs [] all = refl
places_grow xs zs (a ∷ names) all = λ j. place_grow xs zs a (all 0 a (omega arith)) j ∷ places_grow xs zs names (λ k d h. all (suc k) d (omega arith)) j

-- a node's owners are the places of their names among the agents up to it
pub owners_here : (text : List ℕ) (nodes front back : List BlockTree) (block : BlockTree) (agents : List (List ℕ)) → nodes ≡ (front ++ block ∷ []) ++ back → agents ≡ with_owners text (agents_of text front) block
    → (if has_agent block.kind then map (place_among agents) (owner_texts text block) else 0 ∷ []) ≡ owner_numbers text nodes block
owners_here text nodes front back block agents all are = by_test (has_agent block.kind) refl where
  by_test : (b : Bool) → has_agent block.kind ≡ b → (if has_agent block.kind then map (place_among agents) (owner_texts text block) else 0 ∷ []) ≡ owner_numbers text nodes block
  by_test false e =
      ap (λ b. if b then map (place_among agents) (owner_texts text block) else 0 ∷ []) e
      ∙ sym (ap (λ b. if b then map (place_among (agents_of text nodes)) (owner_texts text block) else 0 ∷ []) e)
  by_test true e =
      let grown = sights_grow (agents_among text (front ++ block ∷ [])) (agents_among text back) in
      let up_to = agents_more text front block in
      let seen : agents_of text (front ++ block ∷ []) ≡ with_sights (agents_of text front) (owner_texts text block) =
      up_to ∙ ap (λ b. if b then with_sights (agents_of text front) (owner_texts text block) else agents_of text front) e in
      let whole : agents_of text nodes ≡ agents_of text (front ++ block ∷ []) ++ grown.0 = ap (agents_of text) all ∙ ap first_sights (agents_among-append text (front ++ block ∷ []) back) ∙ grown.1 in
      ap (λ b. if b then map (place_among agents) (owner_texts text block) else 0 ∷ []) e
      ∙ ap (λ s. map (place_among s) (owner_texts text block)) (are ∙ sym up_to)
      ∙ sym (places_grow (agents_of text (front ++ block ∷ [])) grown.0 (owner_texts text block) (subst (λ s. All (λ a. has s a ≡ true) (owner_texts text block)) (sym seen) (has_sights (agents_of text front) (owner_texts text block))))
      ∙ ap (λ s. map (place_among s) (owner_texts text block)) (sym whole)
      ∙ sym (ap (λ b. if b then map (place_among (agents_of text nodes)) (owner_texts text block) else 0 ∷ []) e)
