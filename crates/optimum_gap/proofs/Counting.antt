-- What counts in an agent's scope: of two diagrams with the same utilities, the one with more arcs
-- and greater factors covers the other.
use Rattle.std.proofs.Common.{◌≡◌, ◌∙◌, ℕ, ◌*◌, ◌<◌, ◌≤◌, ◌^◌, Bool, true, false, cond, filter, List, [], ◌∷◌, length, max, refl, sym, ap, subst, arith, inl, inr}
use Rattle.std.proofs.lemmas.Nat.Gcd.{dvd_refl, le_of_dvd}
use Rattle.std.proofs.Math.Nat.{dvd-mul_left_of_dvd, mul-dvd-mul, mul-le-mul_left, mul-le-mul_right}
use Rattle.std.proofs.Math.Path.{fun_ext}
use Rattle.std.specs.Int.{◌∣◌}
use Rattle.std.specs.List.{range_with_len}
use Rattle.finite_sums.specs.Members.{Among}
use Rattle.finite_sums.specs.Sums.{nat_product_over}
use Rattle.finite_sums.proofs.Lists.{among_filter}
use Rattle.maid_laws.proofs.Basis.{among_filter_in}
use Rattle.maid_model.specs.Gains.{greatest_abs}
use Rattle.maid_model.specs.Graph.{Arc, IsPath, IsGraph}
use Rattle.maid_model.specs.Nodes.{node_at, numbers_of, is_utility_of}
use Rattle.maid_model.specs.Parts.{leads_to}
use Rattle.maid_model.specs.Scopes.{chance_factor, greatest_of, scope_bound_for, scope_product_for, utilities_for}
use Rattle.maid_model.specs.Tables.{HasChanceTables}
use Rattle.maid_model.specs.Views.{DiagramView}
use Rattle.maid_model.proofs.Weighing.{product_positive}
use Rattle.part_laws.proofs.NaturalSums.{same_sum}
use Rattle.part_laws.proofs.PartLaws.{kept_path, path_kept}
use Rattle.part_laws.proofs.ScopeBounds.{chances_positive}
use Rattle.part_laws.proofs.ScopeLaws.{utilities_inside}
use Rattle.optimum_gap.specs.Baselines.{CoversScope}

-- fewer factors, each of which divides
product_divides : (f h : ℕ → ℕ) (p q : ℕ → Bool) (vs : List ℕ) → ((v : ℕ) → Among v vs → p v ≡ true → q v ≡ true) → ((v : ℕ) → f v ∣ h v) → nat_product_over f (filter p vs) ∣ nat_product_over h (filter q vs)
product_divides f h p q [] i d = dvd_refl 1
product_divides f h p q (v ∷ vs) i d = go (p v) (q v) (i v (inl refl)) (product_divides f h p q vs (λ u m. i u (inr m)) d)
  where
    go : (a b : Bool) → (a ≡ true → b ≡ true) → nat_product_over f (filter p vs) ∣ nat_product_over h (filter q vs) → nat_product_over f (cond a (v ∷ filter p vs) (filter p vs)) ∣ nat_product_over h (cond b (v ∷ filter q vs) (filter q vs))
    go true true e r = mul-dvd-mul (f v) (nat_product_over f (filter p vs)) (d v) r
    go true false e r = absurd (no (e refl))
      where
        no : false ≡ true → ⊥
        no k = cc
    go false true e r = dvd-mul_left_of_dvd (nat_product_over f (filter p vs)) r (h v)
    go false false e r = r

-- P is above nought
pub product_some : (d : DiagramView) (agent : ℕ) → HasChanceTables d.nodes → 0 < scope_product_for d.nodes agent
product_some d agent c = product_positive (chance_factor d.nodes) (filter (leads_to d.nodes (utilities_for d.nodes agent)) (numbers_of d.nodes)) (chances_positive d.nodes c)

-- the two diagrams have as many nodes and the same utilities of the agent; each arc of the one is
-- one of the other, and each chance total of the one divides that of the other
pub record Counts (wide narrow : DiagramView) (agent : ℕ) : Type 0 where
  pub len : length narrow.nodes ≡ length wide.nodes
  pub utilities : (v : ℕ) → is_utility_of narrow.nodes agent v ≡ is_utility_of wide.nodes agent v
  pub path : (v u : ℕ) → IsPath (Arc narrow.nodes) v u → IsPath (Arc wide.nodes) v u
  pub factor : (v : ℕ) → chance_factor narrow.nodes v ∣ chance_factor wide.nodes v
  pub values : (v : ℕ) → is_utility_of wide.nodes agent v ≡ true → (node_at narrow.nodes v).cells ≡ (node_at wide.nodes v).cells
  pub decimals : narrow.decimals ≡ wide.decimals

pub covers : (wide narrow : DiagramView) (agent : ℕ) → IsGraph wide.nodes → IsGraph narrow.nodes → Counts wide narrow agent → CoversScope wide narrow agent
covers wide narrow agent g h c = record {
  product = subst (λ vs. scope_product_for narrow.nodes agent ∣ nat_product_over (chance_factor wide.nodes) (filter (leads_to wide.nodes (utilities_for wide.nodes agent)) vs)) numbers
      (product_divides (chance_factor narrow.nodes) (chance_factor wide.nodes) (leads_to narrow.nodes (utilities_for narrow.nodes agent)) (leads_to wide.nodes (utilities_for wide.nodes agent)) (numbers_of narrow.nodes) leads c.factor);
  utilities = equal_le (greatest_of narrow.nodes (utilities_for narrow.nodes agent)) (greatest_of wide.nodes (utilities_for wide.nodes agent)) (ap (greatest_of narrow.nodes) listed ∙ same_sum (λ u. greatest_abs (node_at narrow.nodes u).cells) (λ u. greatest_abs (node_at wide.nodes u).cells) (utilities_for wide.nodes agent) (λ u m. ap greatest_abs (c.values u (among_filter (is_utility_of wide.nodes agent) u (numbers_of wide.nodes) m).1)));
  decimals = c.decimals;
}
  where
    equal_le : (x y : ℕ) → x ≡ y → x ≤ y
    equal_le x y e = omega arith

    numbers : numbers_of narrow.nodes ≡ numbers_of wide.nodes
    numbers = ap (range_with_len 0) c.len

    listed : utilities_for narrow.nodes agent ≡ utilities_for wide.nodes agent
    listed = (λ i. filter (fun_ext c.utilities i) (numbers i))

    leads : (v : ℕ) → Among v (numbers_of narrow.nodes) → leads_to narrow.nodes (utilities_for narrow.nodes agent) v ≡ true → leads_to wide.nodes (utilities_for wide.nodes agent) v ≡ true
    leads v m e =
        let r = kept_path narrow.nodes (utilities_for narrow.nodes agent) h (utilities_inside narrow.nodes h agent) v (among_filter_in (leads_to narrow.nodes (utilities_for narrow.nodes agent)) v (numbers_of narrow.nodes) m e) in
        let k = path_kept wide.nodes (utilities_for wide.nodes agent) g (utilities_inside wide.nodes g agent) r.0 v (subst (Among r.0) listed r.1) (c.path v r.0 r.2) in
        (among_filter (leads_to wide.nodes (utilities_for wide.nodes agent)) v (numbers_of wide.nodes) k).1

-- what is covered has no greater bound
pub bound_covered : (wide narrow : DiagramView) (agent : ℕ) → HasChanceTables wide.nodes → CoversScope wide narrow agent → scope_bound_for narrow agent ≤ scope_bound_for wide agent
bound_covered wide narrow agent t c =
    subst (λ k. scope_product_for narrow.nodes agent * max (10 ^ k) (greatest_of narrow.nodes (utilities_for narrow.nodes agent)) ≤ scope_bound_for wide agent) (sym c.decimals)
    (grows (scope_product_for narrow.nodes agent) (scope_product_for wide.nodes agent) (10 ^ wide.decimals) (greatest_of narrow.nodes (utilities_for narrow.nodes agent)) (greatest_of wide.nodes (utilities_for wide.nodes agent)) (le_of_dvd (product_some wide agent t) c.product) c.utilities)
  where
    both : (p q m n : ℕ) → p ≤ q → m ≤ n → p * m ≤ q * n
    both p q m n h k = omega (arith, mul-le-mul_right m h, mul-le-mul_left q k)

    grows : (p q scale m n : ℕ) → p ≤ q → m ≤ n → p * max scale m ≤ q * max scale n
    grows p q scale m n h k = let l : max scale m ≤ max scale n = omega arith in both p q (max scale m) (max scale n) h l
