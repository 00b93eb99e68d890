-- The table of a plan that keeps one node x is over x alone.
use Rattle.std.proofs.Common.{◌≡◌, ◌∙◌, ◌↔◌, ℕ, zero, suc, ◌+◌, ◌<◌, ◌≤◌, Bool, true, false, cond, filter, List, [], ◌∷◌, Contains, length, refl, sym, ap, subst, inl, inr, arith}
use Rattle.std.specs.List.{range_with_len}
use Rattle.std.proofs.Math.Decide.{ℕ_discrete}
use Rattle.factor_core.specs.Slots.{nodes_in}
use Rattle.finite_sums.proofs.Members.{among_from_contains, contains_from_among}
use Rattle.maid_model.specs.Views.{NodeView}
use Rattle.node_sets.specs.declared.sets.NodeSet.{NodeSet}
use Rattle.node_sets.specs.Sets.{holds, IsIn}

-- nothing from k on passes
none_from : (q : ℕ → Bool) (k n : ℕ) → ((v : ℕ) → k ≤ v → q v ≡ true → ⊥) → filter q (range_with_len k n) ≡ []
none_from q k zero h = refl
none_from q k (suc n) h = go (q k) (λ e. h k (omega arith) e) (none_from q (k + 1) n (λ v l e. h v (omega (arith, l)) e))
  where
    go : (b : Bool) {rest : List ℕ} → (b ≡ true → ⊥) → rest ≡ [] → cond b (k ∷ rest) rest ≡ []
    go true f e = absurd (f refl)
    go false f e = e

-- only x passes
only_one : (q : ℕ → Bool) (x k n : ℕ) → ((v : ℕ) → q v ≡ true ↔ (v ≡ x)) → k ≤ x → x < k + n → filter q (range_with_len k n) ≡ x ∷ []
only_one q x k zero h a l = absurd (omega (arith, a, l))
only_one q x k (suc n) h a l = go (ℕ_discrete k x) (λ m. only_one q x (k + 1) n h (next k x a m) (omega (arith, l)))
  where
    later : (k v x : ℕ) → k + 1 ≤ v → v ≡ x → k ≡ x → ⊥
    later k v x h e f = omega (arith, h, e, f)

    next : (k x : ℕ) → k ≤ x → (k ≡ x → ⊥) → k + 1 ≤ x
    next k x h m = omega (arith, h)

    failing : (b : Bool) {rest : List ℕ} → (b ≡ true → ⊥) → rest ≡ x ∷ [] → cond b (k ∷ rest) rest ≡ x ∷ []
    failing true f e = absurd (f refl)
    failing false f e = e

    go : Dec (k ≡ x) → ((k ≡ x → ⊥) → filter q (range_with_len (k + 1) n) ≡ x ∷ []) → cond (q k) (k ∷ filter q (range_with_len (k + 1) n)) (filter q (range_with_len (k + 1) n)) ≡ x ∷ []
    go (yes e) r =
        ap (λ b. cond b (k ∷ filter q (range_with_len (k + 1) n)) (filter q (range_with_len (k + 1) n))) ((h k).1 e)
        ∙ (λ i. e i ∷ none_from q (k + 1) n (λ v m t. later k v x m ((h v).0 t) e) i)
    go (no m) r = failing (q k) (λ t. m ((h k).0 t)) (r m)

pub states_of_x : (nodes : List NodeView) (x : ℕ) (scope : NodeSet) (keep : List ℕ) → x < length nodes → keep ≡ x ∷ [] → ((v : ℕ) → IsIn scope v ↔ Contains keep v) → nodes_in nodes (holds scope) ≡ x ∷ []
states_of_x nodes x scope keep within is h = only_one (holds scope) x 0 (length nodes) one (omega arith) (omega (arith, within))
  where
    own : (v : ℕ) → Contains (x ∷ []) v → v ≡ x
    own v c = elim (among_from_contains (x ∷ []) v c) [ inl e ↦ e | inr m ↦ absurd m ]

    one : (v : ℕ) → holds scope v ≡ true ↔ (v ≡ x)
    one v = (
      (λ t. own v (subst (λ l. Contains l v) is ((h v).0 t))),
      (λ e. (h v).1 (subst (λ l. Contains l v) (sym is) (contains_from_among (x ∷ []) v (inl e)))),
    )
