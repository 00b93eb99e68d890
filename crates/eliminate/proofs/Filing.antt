-- Slots filed under the first of their nodes that a run eliminates.
use Rattle.std.proofs.Common.{◌≡◌, ◌∙◌, ◌↔◌, ◌⊎◌, ℕ, zero, suc, ◌+◌, ◌<◌, ◌≤◌, Bool, true, false, not, ◌||◌, cond, eqb, List, [], ◌∷◌, ◌++◌, take, set, length, get_or, slice_index, slice_index_or, refl, sym, ap, subst, inl, inr, arith}
use Rattle.std.specs.List.{list_any}
use Rattle.std.specs.Prelude.{All}
use Rattle.std.proofs.lemmas.Grind.{get_or_default_zero}
use Rattle.std.proofs.lemmas.List.{get_or_past, take_more, take_more_set, length-take-le}
use Rattle.std.proofs.lemmas.Bool.{eq-eqb}
use Rattle.maid_model.specs.Views.{NodeView}
use Rattle.cell_rings.specs.Rings.{Ring}
use Rattle.ring_sums.proofs.Each.{Each, each_of, all_of, each_append, each_filter, each_map}
use Rattle.node_sets.specs.declared.sets.NodeSet.{NodeSet}
use Rattle.node_sets.specs.Sets.{holds, IsIn}
use Rattle.factor_core.specs.declared.slots.Slot.{Slot}
use Rattle.factor_core.specs.Slots.{WorkspaceView, tables_of}
use Rattle.eliminate.specs.Places.{slots_from, live_slots, scope_at, rank_of, IsRanking, AreApart, NoneBefore, IsFirstOf, Filed, IsBoardBy}
use Rattle.eliminate.specs.Steps.{slots_with, slots_without, GiveWay}
use Rattle.eliminate.proofs.Placing.{one_test, first_passes, second_passes, passes_not, from_nought}

-- no slot holds a node that is eliminated before the step of that number
abbrev pub AllLater : List ℕ → ℕ → ℕ → List Slot → Type 0
AllLater ranks count step slots = All (λ s. NoneBefore ranks count step (holds s.scope)) slots

-- a fact of the scope at a place, one slot more at the end: it is one of those before, or the last
scope_append : (P : (ℕ → Bool) → Type 0) → (P (λ v. false) → ⊥) → (xs : List Slot) (s : Slot) (k : ℕ) → P (scope_at (xs ++ s ∷ []) k) ↔ (P (scope_at xs k) ⊎ ((k ≡ length xs) × P (holds s.scope)))
scope_append P none [] s zero = ((λ h. inr (refl, h)), back)
  where
    back : (P (λ v. false) ⊎ ((zero ≡ zero) × P (holds s.scope))) → P (holds s.scope)
    back (inl h) = absurd (none h)
    back (inr e) = e.1
scope_append P none [] s (suc k) = ((λ h. inl h), back)
  where
    back : (P (λ v. false) ⊎ ((suc k ≡ zero) × P (holds s.scope))) → P (λ v. false)
    back (inl h) = h
    back (inr e) = absurd (omega (arith, e.0))
scope_append P none (x ∷ xs) s zero = ((λ h. inl h), back)
  where
    back : (P (holds x.scope) ⊎ ((zero ≡ suc (length xs)) × P (holds s.scope))) → P (holds x.scope)
    back (inl h) = h
    back (inr e) = absurd (omega (arith, e.0))
scope_append P none (x ∷ xs) s (suc k) = let h = scope_append P none xs s k in ((λ t. on (h.0 t)), (λ e. h.1 (off e)))
  where
    on : (P (scope_at xs k) ⊎ ((k ≡ length xs) × P (holds s.scope))) → (P (scope_at xs k) ⊎ ((suc k ≡ suc (length xs)) × P (holds s.scope)))
    on (inl h) = inl h
    on (inr e) = inr (ap suc e.0, e.1)

    off : (P (scope_at xs k) ⊎ ((suc k ≡ suc (length xs)) × P (holds s.scope))) → (P (scope_at xs k) ⊎ ((k ≡ length xs) × P (holds s.scope)))
    off (inl h) = inl h
    off (inr e) = inr (omega (arith, e.0), e.1)

-- a fact of the scopes of the slots at places that pass, at such a place
scope_here : (P : (ℕ → Bool) → Type 0) (p : ℕ → Bool) (i : ℕ) (xs : List Slot) → Each (λ s. P (holds s.scope)) (slots_from p i xs) → (k : ℕ) → k < length xs → p (i + k) ≡ true → P (scope_at xs k)
scope_here P p i [] e k l t = absurd (omega (arith, l))
scope_here P p i (x ∷ xs) e zero l t = first (p i) (ap p (let n : i ≡ i + 0 = omega arith in n) ∙ t) e
  where
    first : (b : Bool) → b ≡ true → Each (λ s. P (holds s.scope)) (cond b (x ∷ []) [] ++ slots_from p (suc i) xs) → P (holds x.scope)
    first true h r = r.0
    first false h r = absurd (let g = h in cc)
scope_here P p i (x ∷ xs) e (suc k) l t = scope_here P p (suc i) xs (rest (p i) e) k (omega (arith, l)) (ap p (let n : suc i + k ≡ i + suc k = omega arith in n) ∙ t)
  where
    rest : (b : Bool) → Each (λ s. P (holds s.scope)) (cond b (x ∷ []) [] ++ slots_from p (suc i) xs) → Each (λ s. P (holds s.scope)) (slots_from p (suc i) xs)
    rest true r = r.1
    rest false r = r

-- where the list has no position yet, no node has one
pub no_rank : (ranks : List ℕ) (count n : ℕ) → ((v : ℕ) → v < n → slice_index ranks v ≡ count) → length ranks ≤ n → (v : ℕ) → rank_of ranks count v ≡ count
no_rank ranks count n none all v = go (inside_or_past v (length ranks))
  where
    inside_or_past : (a b : ℕ) → (a < b) ⊎ (b ≤ a)
    inside_or_past a b = grind arith

    go : (v < length ranks) ⊎ (length ranks ≤ v) → rank_of ranks count v ≡ count
    go (inl l) = get_or_default_zero ranks v count l ∙ none v (omega (arith, l, all))
    go (inr l) = get_or_past ranks v count l

module _ (ranks : List ℕ) (count : ℕ) where
  -- ---- one slot more is filed
  filed_append : (at new : List NodeSet) (xs : List Slot) (s : Slot) (place : ℕ) → length new ≡ length at → length xs ≡ place → Filed ranks count at xs
      → ((v k : ℕ) (none : NodeSet) → v < length at → IsIn (slice_index_or new v none) k ↔ (IsIn (slice_index_or at v none) k ⊎ ((k ≡ place) × IsFirstOf ranks count (holds s.scope) v)))
      → Filed ranks count new (xs ++ s ∷ [])
  filed_append at new xs s place same is h e v k none within early = ((λ t. more.1 (forth ((e v k none l).0 t))), (λ t. (e v k none l).1 (back (more.0 t))))
    where
      more : IsFirstOf ranks count (scope_at (xs ++ s ∷ []) k) v ↔ (IsFirstOf ranks count (scope_at xs k) v ⊎ ((k ≡ length xs) × IsFirstOf ranks count (holds s.scope) v))
      more = scope_append (λ scope. IsFirstOf ranks count scope v) (λ f. absurd (let g = f.0 in cc)) xs s k

      l : v < length at
      l = omega (arith, within, same)

      forth : (IsIn (slice_index_or at v none) k ⊎ ((k ≡ place) × IsFirstOf ranks count (holds s.scope) v)) → (IsFirstOf ranks count (scope_at xs k) v ⊎ ((k ≡ length xs) × IsFirstOf ranks count (holds s.scope) v))
      forth (inl m) = inl ((h v k none l early).0 m)
      forth (inr m) = inr (m.0 ∙ sym is, m.1)

      back : (IsFirstOf ranks count (scope_at xs k) v ⊎ ((k ≡ length xs) × IsFirstOf ranks count (holds s.scope) v)) → (IsIn (slice_index_or at v none) k ⊎ ((k ≡ place) × IsFirstOf ranks count (holds s.scope) v))
      back (inl m) = inl ((h v k none l early).1 m)
      back (inr m) = inr (m.0 ∙ is, m.1)

  -- the next of a list
  pub filed_next : (at new : List NodeSet) (slots : List Slot) (d : Slot) (place : ℕ) → length new ≡ length at → place < length slots → Filed ranks count at (take place slots)
      → ((v k : ℕ) (none : NodeSet) → v < length at → IsIn (slice_index_or new v none) k ↔ (IsIn (slice_index_or at v none) k ⊎ ((k ≡ place) × IsFirstOf ranks count (holds (slice_index_or slots place d).scope) v)))
      → Filed ranks count new (take (place + 1) slots)
  filed_next at new slots d place same l h e =
      subst (λ xs. Filed ranks count new xs) (sym (take_more slots place d l)) (filed_append at new (take place slots) (get_or slots place d) place same (length-take-le place slots (omega arith)) h e)

  -- one that is put behind those made
  pub filed_behind : (at new : List NodeSet) (slots : List Slot) (s : Slot) (place : ℕ) → length new ≡ length at → place < length slots → Filed ranks count at (take place slots)
      → ((v k : ℕ) (none : NodeSet) → v < length at → IsIn (slice_index_or new v none) k ↔ (IsIn (slice_index_or at v none) k ⊎ ((k ≡ place) × IsFirstOf ranks count (holds s.scope) v)))
      → Filed ranks count new (take (place + 1) (set slots place s))
  filed_behind at new slots s place same l h e =
      subst (λ xs. Filed ranks count new xs) (sym (take_more_set slots place s l)) (filed_append at new (take place slots) s place same (length-take-le place slots (omega arith)) h e)

  -- tables hold no node that none of their slots holds
  any_late : {C : Type 0} (r : Ring C) (nodes : List NodeView) (cells : List C) (n : ℕ) (ss : List Slot) → Each (λ s. NoneBefore ranks count n (holds s.scope)) ss → NoneBefore ranks count n (λ v. list_any (λ t. t.holds v) (tables_of r nodes cells ss))
  any_late r nodes cells n [] e v t = absurd (let g = t in cc)
  any_late r nodes cells n (s ∷ ss) e v t = go (holds s.scope v) (e.0 v) (any_late r nodes cells n ss e.1 v) t
    where
      go : (b : Bool) → (b ≡ true → n ≤ rank_of ranks count v) → (list_any (λ t. t.holds v) (tables_of r nodes cells ss) ≡ true → n ≤ rank_of ranks count v)
          → (b || list_any (λ t. t.holds v) (tables_of r nodes cells ss)) ≡ true → n ≤ rank_of ranks count v
      go true h k m = h refl
      go false h k m = k m

-- ---- the order of a run's steps
module _ {ranks steps : List ℕ} {count : ℕ} (ranking : IsRanking ranks steps) (all : count ≡ length steps) where
  rank : (v : ℕ) → rank_of ranks count v ≡ rank_of ranks (length steps) v
  rank v = ap (λ n. rank_of ranks n v) all

  stands : (v : ℕ) → rank_of ranks count v < count → slice_index steps (rank_of ranks count v) ≡ v
  stands v l = ap (slice_index steps) (rank v) ∙ ranking.stands v (omega (arith, l, rank v, all))

  -- two nodes of one rank are both the node of the step there
  pub apart : AreApart ranks count
  apart u v same l = sym (stands u (omega (arith, same, l))) ∙ ap (slice_index steps) same ∙ stands v l

  -- at the start no step is over
  pub none_over : (slots : List Slot) → AllLater ranks count 0 slots
  none_over slots k d l v t = omega arith

  -- the slot's nodes are eliminated at that step or later
  abbrev Late : ℕ → Slot → Type 0
  Late n s = NoneBefore ranks count n (holds s.scope)

  module _ {i : ℕ} (l : i < length steps) where
    abbrev node : ℕ
    node = slice_index steps i

    early : rank_of ranks count node ≤ i
    early = omega (arith, rank node, ranking.first i l)

    -- of a scope without the nodes of earlier steps, which holds this step's node, that is the
    -- first
    first_here : (scope : ℕ → Bool) → NoneBefore ranks count i scope → scope node ≡ true → IsFirstOf ranks count scope node
    first_here scope none t = (t, omega (arith, early, l, all), λ v h. omega (arith, early, none v h))

    -- so, as no live slot holds the nodes of earlier steps, the live ones filed under it are those
    -- that hold it
    pub tells_holders : {at : List NodeSet} {slots : List Slot} {live : NodeSet} {made : ℕ} → IsBoardBy ranks count at slots live made → made ≤ length slots → node < length at → AllLater ranks count i (live_slots live made slots)
        → (k : ℕ) (none : NodeSet) → IsIn live k → holds (slice_index_or at node none) k ≡ scope_at (take made slots) k node
    tells_holders {at} {slots} {live} {made} board within small later k none t =
        one_test (holds (slice_index_or at node none) k) (scope_at (take made slots) k node)
        (λ h. ((board.filed node k none small has_rank).0 h).0)
        (λ h. (board.filed node k none small has_rank).1 (first_here (scope_at (take made slots) k) here h))
      where
        has_rank : rank_of ranks count node < count
        has_rank = omega (arith, early, l, all)

        here : NoneBefore ranks count i (scope_at (take made slots) k)
        here = scope_here (NoneBefore ranks count i) (holds live) 0 (take made slots) (each_of (λ s. NoneBefore ranks count i (holds s.scope)) (live_slots live made slots) later) k
            (omega (arith, board.within k t, length-take-le made slots within)) (ap (holds live) (from_nought k) ∙ t)

    -- ---- after the step
    -- a scope without its node as well is one without the nodes of the steps up to this
    past : (scope : ℕ → Bool) → NoneBefore ranks count i scope → (scope node ≡ true → ⊥) → NoneBefore ranks count (i + 1) scope
    past scope none without v h = next (same_or_more i (rank_of ranks count v) (none v h))
      where
        same_or_more : (m n : ℕ) → m ≤ n → (n ≡ m) ⊎ (m + 1 ≤ n)
        same_or_more m n = grind arith

        next : (rank_of ranks count v ≡ i) ⊎ (i + 1 ≤ rank_of ranks count v) → i + 1 ≤ rank_of ranks count v
        next (inr m) = m
        next (inl e) = absurd (without (ap scope (sym (ap (slice_index steps) e) ∙ stands v (omega (arith, e, l, all))) ∙ h))

    -- the slots without it stay, and the joined one holds only what those with it hold
    pub later_on : {C : Type 0} {r : Ring C} {nodes : List NodeView} {before after : WorkspaceView C} (old : List Slot) {new : List Slot} → AllLater ranks count i old → GiveWay r nodes before after old new node → AllLater ranks count (i + 1) new
    later_on {C} {r} {nodes} {before} {after} old {new} later gives =
        subst (λ ss. AllLater ranks count (i + 1) ss) (sym gives.slots)
        (all_of (Late (i + 1)) (slots_without node old ++ gives.slot ∷ []) (each_append (Late (i + 1)) (slots_without node old) (gives.slot ∷ [])
        (each_map (λ s. Late i s × (not (holds s.scope node) ≡ true)) (Late (i + 1)) (λ s m. past (holds s.scope) m.0 (λ t. passes_not (holds s.scope node) m.1 t)) (slots_without node old)
        (each_filter (Late i) (λ s. not (holds s.scope node)) old slots_late))
        (past (holds gives.slot.scope) joined_late (λ t. passes_not (eqb node node) (second_passes (list_any (λ t. t.holds node) (tables_of r nodes before.cells (slots_with node old))) (not (eqb node node)) (sym (gives.appends.table.holds node) ∙ t)) (eq-eqb node node refl)), tt)))
      where
        slots_late : Each (Late i) old
        slots_late = each_of (Late i) old later

        joined_late : NoneBefore ranks count i (holds gives.slot.scope)
        joined_late v t = any_late ranks count r nodes before.cells i (slots_with node old) (each_map (λ s. Late i s × (holds s.scope node ≡ true)) (Late i) (λ s m. m.0) (slots_with node old) (each_filter (Late i) (λ s. holds s.scope node) old slots_late)) v
            (first_passes (list_any (λ t. t.holds v) (tables_of r nodes before.cells (slots_with node old))) (not (eqb v node)) (sym (gives.appends.table.holds v) ∙ t))
