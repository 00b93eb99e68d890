-- The step from one choice of states of some nodes to the next one.
use Rattle.std.proofs.Common.{◌≡◌, ◌∙◌, ℕ, zero, suc, ◌+◌, ◌-◌, ◌*◌, ◌%◌, ◌<◌, ◌≤◌, List, [], ◌∷◌, length, get_or, set, drop, refl, sym, ap, subst, slice_index, arith}
use Rattle.std.specs.Prelude.{Contains}
use Rattle.std.proofs.Math.Nat.{mul_assoc, mod_self, mod-eq_of_lt}
use Rattle.std.proofs.Math.Seq.{drop-cons}
use Rattle.std.proofs.lemmas.List.{get_or_default, get_or-set_same, get_or-set_other}
use Rattle.finite_sums.specs.Members.{Among, Avoids}
use Rattle.finite_sums.proofs.Lists.{avoids}
use Rattle.finite_sums.specs.Sums.{World}
use Rattle.maid_model.specs.Graph.{AllDifferent}
use Rattle.maid_model.specs.Nodes.{states_of, counts_of, rows_under}
use Rattle.maid_model.specs.Tables.{row_from}
use Rattle.maid_model.specs.Views.{NodeView}
use Rattle.maid_model.specs.Worlds.{IsWorld, world_of}
use Rattle.maid_laws.proofs.Collapse.{Apart, agree_rows}
use Rattle.maid_laws.proofs.Members.{apart_of, contains_of, not_among}
use Rattle.rule_solver.proofs.WorldRows.{world_length, world_has, world_in_range, world_set, row_below}

-- ---- lists of different nodes
-- the rest of a list avoids what the list avoids
drop_avoids : (x : ℕ) (us : List ℕ) (k : ℕ) → Avoids x us → Avoids x (drop k us)
drop_avoids x us zero a = a
drop_avoids x [] (suc k) a = a
drop_avoids x (u ∷ us) (suc k) a = drop_avoids x us k a.1

-- and its nodes differ too
drop_apart : (us : List ℕ) (k : ℕ) → Apart us → Apart (drop k us)
drop_apart us zero a = a
drop_apart [] (suc k) a = a
drop_apart (u ∷ us) (suc k) a = drop_apart us k a.1

-- ---- the row of the next choice
-- all nodes behind were in their last states
abbrev pub IsLast : (ℕ → ℕ) → World → List ℕ → Type 0
IsLast count w us = (r : ℕ) → row_from count w r us + 1 ≡ (r + 1) * rows_under count us

-- all nodes behind are in their first states
abbrev pub IsFirst : (ℕ → ℕ) → World → List ℕ → Type 0
IsFirst count w us = (r : ℕ) → row_from count w r us ≡ r * rows_under count us

-- by induction over the nodes before the one that goes on
carried : (count : ℕ → ℕ) (old new : World) (us : List ℕ) (k : ℕ) → k < length us → Apart us
    → ((x : ℕ) → Avoids x (drop k us) → new x ≡ old x) → new (get_or us k 0) ≡ old (get_or us k 0) + 1
    → IsLast count old (drop (suc k) us) → IsFirst count new (drop (suc k) us)
    → (r : ℕ) → row_from count new r us ≡ row_from count old r us + 1
carried count old new [] k l a same more last first r = absurd (omega arith)
carried count old new (u ∷ us) zero l a same more last first r =
    first (r * count u + new u) ∙ ap (λ x. x * rows_under count us) (ap (λ x. r * count u + x) more ∙ next (r * count u) (old u)) ∙ sym (last (r * count u + old u))
  where
    next : (a b : ℕ) → a + (b + 1) ≡ a + b + 1
    next a b = omega arith
carried count old new (u ∷ us) (suc k) l a same more last first r =
    ap (λ x. row_from count new (r * count u + x) us) (same u (drop_avoids u us k a.0))
    ∙ carried count old new us k (omega arith) a.1 same more last first (r * count u + old u)

-- what `next_over` has done when the nodes from place i on have been set back
pub record SetBack (nodes : List NodeView) (us old now : List ℕ) (i : ℕ) : Type 0 where
  pub within : i ≤ length us
  pub world : IsWorld (counts_of nodes) now
  pub last : IsLast (states_of nodes) (world_of old) (drop i us)
  pub first : IsFirst (states_of nodes) (world_of now) (drop i us)
  pub others : (x : ℕ) → Avoids x (drop i us) → slice_index now x ≡ slice_index old x

-- the node at place k goes back from its last state to its first
back_at : (nodes : List NodeView) (us old now : List ℕ) (k v : ℕ) → Apart us → IsWorld (counts_of nodes) old
    → SetBack nodes us old now (suc k) → v ≡ get_or us k 0 → v < length nodes → states_of nodes v ≤ slice_index now v + 1
    → SetBack nodes us old (set now v 0) k
back_at nodes us old now k v apart w s is known end = record {
  within = omega (arith, s.within);
  world = world_set nodes now v 0 known (world_has nodes old w v) s.world;
  last = subst (IsLast (states_of nodes) (world_of old)) (sym split) last;
  first = subst (IsFirst (states_of nodes) (world_of (set now v 0))) (sym split) first;
  others = λ x a. others x (subst (Avoids x) split a);
}
  where
    split : drop k us ≡ v ∷ drop (suc k) us
    split = drop-cons us k 0 (let l : suc k ≤ length us = s.within in omega arith) ∙ ap (λ x. x ∷ drop (suc k) us) (sym is)

    avoided : Avoids v (drop (suc k) us)
    avoided = (subst Apart split (drop_apart us k apart)).0

    old_state : world_of old v + 1 ≡ states_of nodes v
    old_state =
        let e : slice_index now v ≡ slice_index old v = s.others v avoided in
        let l : world_of old v < states_of nodes v = (world_in_range nodes old w).state v in
        omega arith

    last : IsLast (states_of nodes) (world_of old) (v ∷ drop (suc k) us)
    last r =
        s.last (r * states_of nodes v + world_of old v)
        ∙ ap (λ x. x * rows_under (states_of nodes) (drop (suc k) us)) (whole r (states_of nodes v) (world_of old v) old_state)
        ∙ mul_assoc (r + 1) (states_of nodes v) (rows_under (states_of nodes) (drop (suc k) us))
      where
        whole : (r c x : ℕ) → x + 1 ≡ c → r * c + x + 1 ≡ (r + 1) * c
        whole r c x e = omega (arith, e)

    same_rest : (u : ℕ) → Among u (drop (suc k) us) → world_of (set now v 0) u ≡ world_of now u
    same_rest u m = get_or-set_other now v u 0 0 (λ e. not_among v (drop (suc k) us) avoided (subst (λ x. Among x (drop (suc k) us)) e m))

    first : IsFirst (states_of nodes) (world_of (set now v 0)) (v ∷ drop (suc k) us)
    first r =
        agree_rows (states_of nodes) (world_of (set now v 0)) (world_of now) (drop (suc k) us) (r * states_of nodes v + world_of (set now v 0) v) same_rest
        ∙ s.first (r * states_of nodes v + world_of (set now v 0) v)
        ∙ ap (λ x. (r * states_of nodes v + x) * rows_under (states_of nodes) (drop (suc k) us)) (get_or-set_same now v 0 0 (let l : length now ≡ length nodes = world_length nodes now s.world in omega arith))
        ∙ ap (λ x. x * rows_under (states_of nodes) (drop (suc k) us)) (none (r * states_of nodes v))
        ∙ mul_assoc r (states_of nodes v) (rows_under (states_of nodes) (drop (suc k) us))
      where
        none : (a : ℕ) → a + 0 ≡ a
        none a = omega arith

    others : (x : ℕ) → Avoids x (v ∷ drop (suc k) us) → slice_index (set now v 0) x ≡ slice_index old x
    others x a = get_or-set_other now v x 0 0 (λ e. a.0 (sym e)) ∙ s.others x a.1

-- what a call of `next_over` promises
pub record IsNextOver (nodes : List NodeView) (us old new : List ℕ) : Type 0 where
  pub world : IsWorld (counts_of nodes) new
  pub row : row_from (states_of nodes) (world_of new) 0 us ≡ (row_from (states_of nodes) (world_of old) 0 us + 1) % rows_under (states_of nodes) us
  pub others : (v : ℕ) → (Contains us v → ⊥) → slice_index new v ≡ slice_index old v

-- what stands at no place of the list is avoided
avoided_by : (us : List ℕ) (x : ℕ) → (Contains us x → ⊥) → Avoids x us
avoided_by us x n = avoids x us (λ m. n (contains_of x us m))

-- the node at place k goes on
more_at : (nodes : List NodeView) (us old now : List ℕ) (k v s : ℕ) → Apart us
    → SetBack nodes us old now (suc k) → v ≡ get_or us k 0 → v < length nodes → s ≡ slice_index now v + 1 → s < states_of nodes v
    → IsNextOver nodes us old (set now v s)
more_at nodes us old now k v s apart b is known state less = record {
  world = world;
  row = row ∙ sym (mod-eq_of_lt (subst (λ x. x < rows_under (states_of nodes) us) row (row_below (states_of nodes) (world_of (set now v s)) (world_in_range nodes (set now v s) world) us)));
  others = λ x n. others x (subst (Avoids x) split (drop_avoids x us k (avoided_by us x n)));
}
  where
    inside : k < length us
    inside = let l : suc k ≤ length us = b.within in omega arith

    split : drop k us ≡ v ∷ drop (suc k) us
    split = drop-cons us k 0 inside ∙ ap (λ x. x ∷ drop (suc k) us) (sym is)

    avoided : Avoids v (drop (suc k) us)
    avoided = (subst Apart split (drop_apart us k apart)).0

    world : IsWorld (counts_of nodes) (set now v s)
    world = world_set nodes now v s known less b.world

    others : (x : ℕ) → Avoids x (v ∷ drop (suc k) us) → slice_index (set now v s) x ≡ slice_index old x
    others x a = get_or-set_other now v x s 0 (λ e. a.0 (sym e)) ∙ b.others x a.1

    same_rest : (u : ℕ) → Among u (drop (suc k) us) → world_of (set now v s) u ≡ world_of now u
    same_rest u m = get_or-set_other now v u s 0 (λ e. not_among v (drop (suc k) us) avoided (subst (λ x. Among x (drop (suc k) us)) e m))

    first : IsFirst (states_of nodes) (world_of (set now v s)) (drop (suc k) us)
    first r = agree_rows (states_of nodes) (world_of (set now v s)) (world_of now) (drop (suc k) us) r same_rest ∙ b.first r

    more : slice_index (set now v s) v ≡ slice_index old v + 1
    more = get_or-set_same now v s 0 (let l : length now ≡ length nodes = world_length nodes now b.world in omega arith) ∙ state ∙ ap (λ x. x + 1) (b.others v avoided)

    row : row_from (states_of nodes) (world_of (set now v s)) 0 us ≡ row_from (states_of nodes) (world_of old) 0 us + 1
    row =
        carried (states_of nodes) (world_of old) (world_of (set now v s)) us k inside apart
        (λ x a. others x (subst (Avoids x) split a)) (subst (λ x. slice_index (set now v s) x ≡ slice_index old x + 1) is more) b.last first 0

-- all of them have been set back
all_back : (nodes : List NodeView) (us old now : List ℕ) → SetBack nodes us old now 0 → IsNextOver nodes us old now
all_back nodes us old now s = record {
  world = s.world;
  row = s.first 0 ∙ none (rows_under (states_of nodes) us) ∙ sym (ap (λ x. x % rows_under (states_of nodes) us) (s.last 0 ∙ one (rows_under (states_of nodes) us)) ∙ mod_self (rows_under (states_of nodes) us));
  others = λ x n. s.others x (avoided_by us x n);
}
  where
    none : (a : ℕ) → 0 * a ≡ 0
    none a = omega arith

    one : (a : ℕ) → (0 + 1) * a ≡ a
    one a = omega arith

-- ---- as the code has them
pub code_all : (nodes : List NodeView) (us old now : List ℕ) (i : ℕ) → SetBack nodes us old now i → i ≤ 0 → IsNextOver nodes us old now
code_all nodes us old now i s l = all_back nodes us old now (subst (SetBack nodes us old now) (let e : i ≡ 0 = omega arith in e) s)

module _ (nodes : List NodeView) (us old now : List ℕ) (i : ℕ) (known : (u : ℕ) → Contains us u → u < length nodes)
    (s : SetBack nodes us old now i) (some : 0 < i) where
  inside : i - 1 < length us
  inside = let l : i ≤ length us = s.within in omega arith

  back : SetBack nodes us old now (suc (i - 1))
  back = subst (SetBack nodes us old now) (let e : i ≡ suc (i - 1) = omega arith in e) s

  pub v_known : get_or us (i - 1) 0 < length nodes
  v_known = known (get_or us (i - 1) 0) (i - 1, inside, get_or_default us (i - 1) (get_or us (i - 1) 0) 0 inside)

  pub v_within : get_or us (i - 1) 0 < length now
  v_within = let l : length now ≡ length nodes = world_length nodes now s.world in let k : get_or us (i - 1) 0 < length nodes = v_known in omega arith

  module _ (c state : ℕ) (once : AllDifferent us) (c_is : c ≡ states_of nodes (get_or us (i - 1) 0)) (state_is : state ≡ get_or now (get_or us (i - 1) 0) state) where
    state_at : state ≡ slice_index now (get_or us (i - 1) 0)
    state_at = state_is ∙ get_or_default now (get_or us (i - 1) 0) state 0 v_within

    pub code_back : IsWorld (counts_of nodes) old → c - 1 ≤ state → SetBack nodes us old (set now (get_or us (i - 1) 0) 0) (i - 1)
    code_back w le = back_at nodes us old now (i - 1) (get_or us (i - 1) 0) (apart_of us once) w back refl v_known (let e : state ≡ slice_index now (get_or us (i - 1) 0) = state_at in omega arith)

    pub code_more : state < c - 1 → IsNextOver nodes us old (set now (get_or us (i - 1) 0) (state + 1))
    code_more lt = more_at nodes us old now (i - 1) (get_or us (i - 1) 0) (state + 1) (apart_of us once) back refl v_known (ap (λ x. x + 1) state_at) (omega arith)
