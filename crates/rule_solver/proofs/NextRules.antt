-- Which of a profile's rules is that of the next decision, as a loop goes over the nodes.
use Rattle.std.proofs.Common.{◌≡◌, ◌≢◌, ◌∙◌, ℕ, suc, ◌+◌, ◌-◌, ◌<◌, ◌≤◌, Bool, false, cond, filter, drop, List, ◌∷◌, map, length, get_or, refl, sym, ap, arith}
use Rattle.std.proofs.lemmas.List.{drop_more, length-drop, length-map}
use Rattle.std.specs.List.{range_with_len}
use Rattle.maid_model.specs.declared.diagrams.Kind.TheVariants.{Decision}
use Rattle.maid_model.specs.Nodes.{node_at, is_decision, decisions_of}
use Rattle.maid_model.specs.Tables.{rule_total}
use Rattle.maid_model.specs.Views.{NodeView, RuleView}
use Rattle.maid_model.proofs.Found.{eqb_yes, eqb_no}

-- the rules from the place on are those of the decisions from v on
pub record AreNext (nodes : List NodeView) (p : List RuleView) (v place : ℕ) : Type 0 where
  pub listed : map (λ r. r.decision) (drop place p) ≡ filter (λ u. is_decision (node_at nodes u).kind) (range_with_len v (length nodes - v))
  pub totals : (u : ℕ) → v ≤ u → rule_total (drop place p) u ≡ rule_total p u

-- all of them, before the first node
pub first_rules : (nodes : List NodeView) (p : List RuleView) → map (λ r. r.decision) p ≡ decisions_of nodes → AreNext nodes p 0 0
first_rules nodes p e = record {
  listed = e ∙ ap (λ n. filter (λ u. is_decision (node_at nodes u).kind) (range_with_len 0 n)) (all (length nodes));
  totals = λ u l. refl;
}
  where
    all : (n : ℕ) → n ≡ n - 0
    all n = omega arith

module _ (nodes : List NodeView) (p : List RuleView) (v place : ℕ) (s : AreNext nodes p v place) (l : v < length nodes) where
  abbrev test : ℕ → Bool
  test u = is_decision (node_at nodes u).kind

  abbrev later : List ℕ
  later = filter test (range_with_len (v + 1) (length nodes - (v + 1)))

  rest_next : range_with_len v (length nodes - v) ≡ v ∷ range_with_len (v + 1) (length nodes - (v + 1))
  rest_next = ap (range_with_len v) (one (length nodes) v l)
    where
      one : (n v : ℕ) → v < n → n - v ≡ suc (n - (v + 1))
      one n v l = omega arith

  listed_by : map (λ r. r.decision) (drop place p) ≡ cond (test v) (v ∷ later) later
  listed_by = s.listed ∙ ap (filter test) rest_next

  -- at another node they stay
  pub rules_stay : is_decision (node_at nodes v).kind ≡ false → AreNext nodes p (v + 1) place
  rules_stay other = record {
    listed = listed_by ∙ ap (λ b. cond b (v ∷ later) later) other;
    totals = λ u k. s.totals u (omega (arith, k));
  }

  module _ (e : (node_at nodes v).kind ≡ Decision) where
    listed_first : map (λ r. r.decision) (drop place p) ≡ v ∷ later
    listed_first = listed_by ∙ ap (λ k. cond (is_decision k) (v ∷ later) later) e

    -- at a decision the first of them is its own
    pub next_within : place < length p
    next_within = reach (sym (length-map (drop place p) (λ (r : RuleView). r.decision) ∙ length-drop place p) ∙ ap (λ (k : List ℕ). length k) listed_first)
      where
        reach : length p - place ≡ suc (length later) → place < length p
        reach h = omega (arith, h)

    opened : (d : RuleView) → drop place p ≡ get_or p place d ∷ drop (place + 1) p
    opened d = drop_more p place d next_within

    both : (d : RuleView) → (get_or p place d).decision ∷ map (λ r. r.decision) (drop (place + 1) p) ≡ v ∷ later
    both d = ap (map (λ r. r.decision)) (sym (opened d)) ∙ listed_first

    own : (d : RuleView) → (get_or p place d).decision ≡ v
    own d = ap (λ (k : List ℕ). get_or k 0 0) (both d)

    pub next_total : (d : RuleView) → (get_or p place d).total ≡ rule_total p v
    next_total d =
        sym (ap (λ b. cond b (get_or p place d).total (rule_total (drop (place + 1) p) v)) (eqb_yes (get_or p place d).decision v (own d)))
        ∙ ap (λ k. rule_total k v) (sym (opened d)) ∙ s.totals v (omega arith)

    pub rules_go_on : RuleView → AreNext nodes p (v + 1) (place + 1)
    rules_go_on d = record {
      listed = ap (λ (k : List ℕ). drop 1 k) (both d);
      totals = λ u k.
          sym (ap (λ b. cond b (get_or p place d).total (rule_total (drop (place + 1) p) u)) (eqb_no (get_or p place d).decision u (apart u k)))
          ∙ ap (λ k. rule_total k u) (sym (opened d)) ∙ s.totals u (omega (arith, k));
    }
      where
        apart : (u : ℕ) → v + 1 ≤ u → (get_or p place d).decision ≢ u
        apart u k is = omega (arith, k, is, own d)
