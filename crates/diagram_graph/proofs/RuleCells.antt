-- The cells of all rules together, as a sum over all nodes, and what a change at one node does to
-- it.
use Rattle.std.proofs.Common.{◌≡◌, ◌≢◌, ◌⊎◌, ◌∙◌, ℕ, zero, suc, ◌+◌, Bool, true, false, cond, filter, List, [], ◌∷◌, refl, sym, ap, subst, inl, inr, arith}
use Rattle.std.specs.List.{range_with_len}
use Rattle.std.proofs.Math.Decide.{ℕ_discrete}
use Rattle.finite_sums.specs.Members.{Among}
use Rattle.finite_sums.specs.Sums.{nat_sum_over}
use Rattle.maid_laws.proofs.Collapse.{Apart}
use Rattle.maid_laws.proofs.Members.{not_among}
use Rattle.maid_laws.proofs.Rearranged.{range_apart}
use Rattle.maid_model.specs.Nodes.{node_at, is_decision, numbers_of}
use Rattle.maid_model.specs.Views.{NodeView}
use Rattle.diagram_graph.specs.Room.{cells_at, rule_cells, rule_cells_at}

-- a sum over those that pass a test
sum_picked : (f : ℕ → ℕ) (p : ℕ → Bool) (xs : List ℕ) → nat_sum_over f (filter p xs) ≡ nat_sum_over (λ v. cond (p v) (f v) 0) xs
sum_picked f p [] = refl
sum_picked f p (x ∷ xs) = go (p x) (sum_picked f p xs)
  where
    go : (b : Bool) → nat_sum_over f (filter p xs) ≡ nat_sum_over (λ v. cond (p v) (f v) 0) xs → nat_sum_over f (cond b (x ∷ filter p xs) (filter p xs)) ≡ cond b (f x) 0 + nat_sum_over (λ v. cond (p v) (f v) 0) xs
    go true e = ap (λ n. f x + n) e
    go false e = omega arith

pub rules_summed : (nodes : List NodeView) → rule_cells nodes ≡ nat_sum_over (rule_cells_at nodes) (numbers_of nodes)
rules_summed nodes = sum_picked (cells_at nodes) (λ v. is_decision (node_at nodes v).kind) (numbers_of nodes)

-- one number more
pub sum_more : (f : ℕ → ℕ) (n : ℕ) → nat_sum_over f (range_with_len 0 (n + 1)) ≡ nat_sum_over f (range_with_len 0 n) + f n
sum_more f n = ap (λ m. nat_sum_over f (range_with_len 0 m)) (one_more n) ∙ from 0 n ∙ ap (λ m. nat_sum_over f (range_with_len 0 n) + f m) (nought n)
  where
    one_more : (n : ℕ) → n + 1 ≡ suc n
    one_more n = omega arith

    nought : (n : ℕ) → 0 + n ≡ n
    nought n = omega arith

    from : (a n : ℕ) → nat_sum_over f (range_with_len a (suc n)) ≡ nat_sum_over f (range_with_len a n) + f (a + n)
    from a zero = let e : f (a + 0) ≡ f a = ap f (omega arith) in omega arith
    from a (suc n) = let h = from (a + 1) n in let e : f (a + suc n) ≡ f ((a + 1) + n) = ap f (omega arith) in omega arith

-- sums that differ at x alone
sum_same : (f g : ℕ → ℕ) (xs : List ℕ) → ((v : ℕ) → Among v xs → f v ≡ g v) → nat_sum_over f xs ≡ nat_sum_over g xs
sum_same f g [] h = refl
sum_same f g (x ∷ xs) h = let rest = sum_same f g xs (λ v m. h v (inr m)) in λ i. h x (inl refl) i + rest i

one_changed : (f g : ℕ → ℕ) (x : ℕ) (xs : List ℕ) → Apart xs → Among x xs → ((v : ℕ) → v ≢ x → f v ≡ g v) → nat_sum_over f xs + g x ≡ nat_sum_over g xs + f x
one_changed f g x [] a m h = absurd m
one_changed f g x (y ∷ xs) a m h = go (ℕ_discrete y x) m (λ k. one_changed f g x xs a.1 k h)
  where
    go : Dec (y ≡ x) → (x ≡ y) ⊎ Among x xs → (Among x xs → nat_sum_over f xs + g x ≡ nat_sum_over g xs + f x) → (f y + nat_sum_over f xs) + g x ≡ (g y + nat_sum_over g xs) + f x
    go (yes e) k r =
        let rest = sum_same f g xs (λ v k. h v (λ w. not_among y xs a.0 (subst (λ z. Among z xs) (w ∙ sym e) k))) in
        let p : f y ≡ f x = ap f e in
        let q : g y ≡ g x = ap g e in omega arith
    go (no n) (inl e) r = absurd (n (sym e))
    go (no n) (inr k) r = let p = r k in let q = h y n in omega arith

-- diagrams of as many nodes whose rules differ at one node alone
pub rules_changed : (nodes others : List NodeView) (x : ℕ) → numbers_of others ≡ numbers_of nodes → Among x (numbers_of nodes) → ((v : ℕ) → v ≢ x → rule_cells_at others v ≡ rule_cells_at nodes v)
    → rule_cells others + rule_cells_at nodes x ≡ rule_cells nodes + rule_cells_at others x
rules_changed nodes others x same m h =
    let e = rules_summed nodes in
    let f = rules_summed others ∙ ap (nat_sum_over (rule_cells_at others)) same in
    let g = one_changed (rule_cells_at others) (rule_cells_at nodes) x (numbers_of nodes) (range_apart 0 _) m h in omega arith
