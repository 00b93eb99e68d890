-- Each node's potential among those so far.
use Rattle.std.proofs.Common.{◌≡◌, ◌≢◌, ◌⊎◌, inl, inr, ℕ, zero, suc, ◌+◌, ◌<◌, ◌≤◌, Bool, true, false, not, cond, List, [], ◌∷◌, ◌++◌, length, get_or, set, map, take, filter, find, replicate, Option, None, Some, Result, refl, ap, sym, subst, ◌∙◌, arith}
use Rattle.std.proofs.lemmas.Bool.{false≢true, cases_lt}
use Rattle.std.proofs.lemmas.List.{get_or-map, get_or_default, length-map, get_or-set_same, get_or-set_other, map-set, same_lists}
use Rattle.std.proofs.Math.ListN.{length-set}
use Rattle.std.proofs.lemmas.List.Folds.{find-append}
use Rattle.std.proofs.lemmas.List.Sums.{prefix_len_stops}
use Rattle.std.proofs.lemmas.Slice.Eq.{bytes_eq-Decides}
use Rattle.std.specs.List.{AllPairs}
use Rattle.std.specs.Option.{IsSome, option_or, option_map_or}
use Rattle.std.specs.Str.{bytes_eq}
use Rattle.net_parser.specs.Trees.{BlockTree}
use Rattle.net_parser.specs.Grammar.{is_potential}
use Rattle.maid_model.specs.declared.diagrams.Kind.{Kind}
use Rattle.maid_model.specs.declared.diagrams.Kind.TheVariants.{Chance, Utility}
use Rattle.maid_model.specs.Nodes.{is_decision}
use Rattle.finite_sums.proofs.Sights.{bytes_same}
use Rattle.net_build.specs.declared.faults.BuildFault.{BuildFault}
use Rattle.net_build.specs.declared.nodes.Head.{Head}
use Rattle.net_build.specs.Blocks.{title, block_name, conditions, place_among}
use Rattle.net_build.specs.Linking.{borrowed_trees, node_named, potentials_among, parents_in, taken_row, absent_row, missing_at}
use Rattle.first_fault.specs.Passes.{only}
use Rattle.first_fault.specs.Answers.{Passes}
use Rattle.net_build.specs.Passes.{build_fault}
use Rattle.net_build.specs.Stages.{head_at, no_head}
use Rattle.first_fault.proofs.Leading.{filter_front_yes}
use Rattle.net_build.proofs.PlaceLemmas.{bytes_differ}

-- a place within the list holds the name that was sought
pub place_holds : (names : List (List ℕ)) (name : List ℕ) → place_among names name < length names → get_or names (place_among names name) [] ≡ name
place_holds names name h = (bytes_eq-Decides _ _).0 (by_not (bytes_eq (get_or names (place_among names name) []) name) (prefix_len_stops (λ other. not (bytes_eq other name)) names [] h)) where
  by_not : (b : Bool) → not b ≡ false → b ≡ true
  by_not true e = refl
  by_not false e = absurd (false≢true (sym e))

-- a node's own entry
pub among_at : (text : List ℕ) (names : List (List ℕ)) (blocks : List BlockTree) (v : ℕ) (d : Option BlockTree) → v < length names → get_or (potentials_among text names blocks) v d ≡ find (λ p. bytes_eq (block_name text p) (get_or names v [])) blocks
among_at text names blocks v d h = get_or-map (λ name. find (λ p. bytes_eq (block_name text p) name) blocks) names v [] d h

or_none : {X : Type 0} (o : Option X) → option_or o None ≡ o
or_none None = refl
or_none (Some x) = refl

-- one potential more, of that name and of another
found_last : (text : List ℕ) (name : List ℕ) (blocks : List BlockTree) (p : BlockTree) → find (λ q. bytes_eq (block_name text q) name) blocks ≡ None → block_name text p ≡ name → find (λ q. bytes_eq (block_name text q) name) (blocks ++ p ∷ []) ≡ Some p
found_last text name blocks p none is = find-append (λ q. bytes_eq (block_name text q) name) blocks (p ∷ [])
    ∙ ap (λ o. option_or o (find (λ q. bytes_eq (block_name text q) name) (p ∷ []))) none
    ∙ ap (λ b. option_or None (cond b (Some p) None)) (bytes_same (block_name text p) name is)

found_still : (text : List ℕ) (name : List ℕ) (blocks : List BlockTree) (p : BlockTree) → (block_name text p ≡ name → ⊥) → find (λ q. bytes_eq (block_name text q) name) (blocks ++ p ∷ []) ≡ find (λ q. bytes_eq (block_name text q) name) blocks
found_still text name blocks p other = find-append (λ q. bytes_eq (block_name text q) name) blocks (p ∷ [])
    ∙ ap (λ b. option_or (find (λ q. bytes_eq (block_name text q) name) blocks) (cond b (Some p) None)) (bytes_differ (block_name text p) name other)
    ∙ or_none (find (λ q. bytes_eq (block_name text q) name) blocks)

same_or_not : (k v : ℕ) → (k ≡ v) ⊎ (k ≢ v)
same_or_not k v = below (cases_lt k v) where
  second : v ≤ k → (v < k) ⊎ (k ≤ v) → (k ≡ v) ⊎ (k ≢ v)
  second le (inl lt) = inr (omega arith)
  second le (inr ge) = inl (omega arith)

  below : (k < v) ⊎ (v ≤ k) → (k ≡ v) ⊎ (k ≢ v)
  below (inl lt) = inr (omega arith)
  below (inr le) = second le (cases_lt v k)

-- two different places hold different names
places_differ : (names : List (List ℕ)) → AllPairs (λ a b. a ≢ b) names → (k v : ℕ) → k < length names → v < length names → k ≢ v → get_or names v [] ≡ get_or names k [] → ⊥
places_differ names distinct k v hk hv ne same = by_order (cases_lt k v) where
  by_order : (k < v) ⊎ (v ≤ k) → ⊥
  by_order (inl below) = distinct k v [] below hv (sym same)
  by_order (inr above) = distinct v k [] (omega arith) hk same

-- the node's entry is set
pub entered : (text : List ℕ) (names : List (List ℕ)) (blocks : List BlockTree) (p : BlockTree) (v : ℕ) → AllPairs (λ a b. a ≢ b) names → v < length names → get_or names v [] ≡ block_name text p → get_or (potentials_among text names blocks) v None ≡ None → set (potentials_among text names blocks) v (Some p) ≡ potentials_among text names (blocks ++ p ∷ [])
entered text names blocks p v distinct hv is none = same_lists (set (potentials_among text names blocks) v (Some p)) (potentials_among text names (blocks ++ p ∷ [])) lengths each where
  lengths : length (set (potentials_among text names blocks) v (Some p)) ≡ length (potentials_among text names (blocks ++ p ∷ []))
  lengths = simp (length-set, length-map)

  inside : (k : ℕ) → k < length (set (potentials_among text names blocks) v (Some p)) → k < length names
  inside k h = simp (length-set, length-map) at h

  by_place : (k : ℕ) (d : Option BlockTree) → k < length names → (k ≡ v) ⊎ (k ≢ v) → get_or (set (potentials_among text names blocks) v (Some p)) k d ≡ get_or (potentials_among text names (blocks ++ p ∷ [])) k d
  by_place k d h (inl e) = subst (λ (j : ℕ). get_or (set (potentials_among text names blocks) v (Some p)) j d ≡ get_or (potentials_among text names (blocks ++ p ∷ [])) j d) (sym e)
      (get_or-set_same (potentials_among text names blocks) v (Some p) d (rw length-map hv)
      ∙ sym (among_at text names (blocks ++ p ∷ []) v d hv ∙ found_last text (get_or names v []) blocks p (sym (among_at text names blocks v None hv) ∙ none) (sym is)))
  by_place k d h (inr ne) = get_or-set_other (potentials_among text names blocks) v k (Some p) d ne
      ∙ among_at text names blocks k d h
      ∙ sym (among_at text names (blocks ++ p ∷ []) k d h ∙ found_still text (get_or names k []) blocks p (λ e. places_differ names distinct k v h hv ne (is ∙ e)))

  each : (k : ℕ) (d : Option BlockTree) → k < length (set (potentials_among text names blocks) v (Some p)) → get_or (set (potentials_among text names blocks) v (Some p)) k d ≡ get_or (potentials_among text names (blocks ++ p ∷ [])) k d
  each k d h = by_place k d (inside k h) (same_or_not k v)

-- no entry as a test, and as an equation
pub none_from_not_some : {X : Type 0} (o : Option X) → (IsSome o → ⊥) → o ≡ None
none_from_not_some None h = refl
none_from_not_some (Some x) h = absurd (h refl)

-- a chance node or a utility is no decision
no_decision : (k : Kind) → (k ≡ Chance) ⊎ (k ≡ Utility) → not (is_decision k) ≡ true
no_decision k (inl e) = ap (λ j. not (is_decision j)) e
no_decision k (inr e) = ap (λ j. not (is_decision j)) e

-- its row is the pass's
pub present_passes : (heads : List Head) (potentials : List (Option BlockTree)) (v : ℕ) (r : Result Unit BuildFault) → v < length heads → ((get_or heads v record { at = 0; kind = Chance; owner = 0; states = 0 }).kind ≡ Chance) ⊎ ((get_or heads v record { at = 0; kind = Chance; owner = 0; states = 0 }).kind ≡ Utility) → Passes build_fault (absent_row (head_at heads v) potentials v) r → Passes build_fault (missing_at heads potentials v) r
present_passes heads potentials v r h kind passes =
    subst (λ (b : Bool). Passes build_fault (only b (absent_row (head_at heads v) potentials v)) r) (sym (no_decision (head_at heads v).kind (subst (λ (x : Head). (x.kind ≡ Chance) ⊎ (x.kind ≡ Utility)) (get_or_default heads v record { at = 0; kind = Chance; owner = 0; states = 0 } no_head h) kind))) passes

-- at first no node has a potential, or parents
pub no_trees : (n : ℕ) → borrowed_trees (replicate n None) ≡ replicate n None
no_trees zero = refl
no_trees (suc n) = ap (λ os. None ∷ os) (no_trees n)

pub none_among : (text : List ℕ) (names : List (List ℕ)) → replicate (length names) None ≡ potentials_among text names []
none_among text [] = refl
none_among text (name ∷ names) = ap (λ os. None ∷ os) (none_among text names)

pub none_in : (text : List ℕ) (names : List (List ℕ)) (n : ℕ) → replicate n [] ≡ parents_in text names (replicate n None)
none_in text names zero = refl
none_in text names (suc n) = ap (λ rows. [] ∷ rows) (none_in text names n)

-- the parents in the set entry
pub parents_set : (text : List ℕ) (names : List (List ℕ)) (potentials : List (Option BlockTree)) (v : ℕ) (p : BlockTree) (list : List ℕ) → list ≡ map (node_named text names) (conditions p) → set (parents_in text names potentials) v list ≡ parents_in text names (set potentials v (Some p))
parents_set text names potentials v p list is = ap (set (parents_in text names potentials) v) is ∙ sym (map-set (λ o. option_map_or (λ q. map (node_named text names) (conditions q)) o []) potentials v (Some p))

-- a potential of the text is entered
pub entered_from : (text : List ℕ) (names : List (List ℕ)) (blocks : List BlockTree) (i : ℕ) (x : BlockTree) (v : ℕ) (before now : List (Option BlockTree)) → i < length blocks → x ≡ get_or blocks i x → is_potential x.kind ≡ true → AllPairs (λ a b. a ≢ b) names → v < length names → v ≡ node_named text names (title x) → taken_row (potentials_among text names (filter (λ b. is_potential b.kind) (take i blocks))) (node_named text names (title x)) (title x) None → before ≡ potentials_among text names (filter (λ b. is_potential b.kind) (take i blocks)) → now ≡ set before v (Some x) → now ≡ potentials_among text names (filter (λ b. is_potential b.kind) (take (i + 1) blocks))
entered_from text names blocks i x v before now h is kept distinct hv at free so made = made
    ∙ ap (λ os. set os v (Some x)) so
    ∙ entered text names (filter (λ b. is_potential b.kind) (take i blocks)) x v distinct hv (ap (λ (w : ℕ). get_or names w []) at ∙ place_holds names (block_name text x) (subst (λ (w : ℕ). w < length names) at hv)) (none_from_not_some _ (subst (λ (w : ℕ). IsSome (get_or (potentials_among text names (filter (λ b. is_potential b.kind) (take i blocks))) w None) → ⊥) (sym at) free))
    ∙ ap (potentials_among text names) (sym (filter_front_yes (λ b. is_potential b.kind) blocks i x h is kept))

-- and its parents
pub parents_from : (text : List ℕ) (names : List (List ℕ)) (v : ℕ) (p : BlockTree) (list : List ℕ) (before now : List (Option BlockTree)) (rows new : List (List ℕ)) → list ≡ map (node_named text names) (conditions p) → rows ≡ parents_in text names before → now ≡ set before v (Some p) → new ≡ set rows v list → new ≡ parents_in text names now
parents_from text names v p list before now rows new is so made written = written ∙ ap (λ rs. set rs v list) so ∙ parents_set text names before v p list is ∙ ap (parents_in text names) (sym made)
