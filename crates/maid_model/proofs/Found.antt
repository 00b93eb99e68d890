-- A rule found in a profile, and another put in its place.
use Rattle.std.proofs.Common.{◌≡◌, ◌≢◌, ◌∙◌, ℕ, zero, suc, ◌<◌, ◌≤◌, List, [], ◌∷◌, map, length, get_or, set, eqb, true, false, cond, refl, sym, ap, subst, arith}
use Rattle.std.proofs.lemmas.Bool.Decides.{nat_tests}
use Rattle.std.proofs.Math.Decide.{ℕ_discrete}
use Rattle.std.proofs.lemmas.List.{length-map, get_or_default}
use Rattle.maid_model.specs.Nodes.{IsDecision}
use Rattle.maid_model.specs.Private.{IsFirstAt}
use Rattle.maid_model.specs.Profiles.{IsProfile, IsRule, HasRule, Replaces, no_rule}
use Rattle.maid_model.specs.Tables.{weights_of, rule_total}
use Rattle.maid_model.specs.Views.{NodeView, RuleView}

pub eqb_yes : (a b : ℕ) → a ≡ b → eqb a b ≡ true
eqb_yes a b e = grind (arith, nat_tests)

pub eqb_no : (a b : ℕ) → a ≢ b → eqb a b ≡ false
eqb_no a b n = grind (arith, nat_tests)

tail_at : (r : RuleView) (p : List RuleView) (v i : ℕ) → IsFirstAt (r ∷ p) v (suc i) → IsFirstAt p v i
tail_at r p v i h = record { within = (let l : suc i < length (r ∷ p) = h.within in omega arith); found = h.found; first = λ k l. h.first (suc k) (omega arith) }

pub weights_at : (p : List RuleView) (v i : ℕ) → IsFirstAt p v i → weights_of p v ≡ (get_or p i no_rule).weights
weights_at [] v i h = absurd (let l : i < 0 = h.within in omega arith)
weights_at (r ∷ p) v zero h = ap (λ b. cond b r.weights (weights_of p v)) (eqb_yes r.decision v h.found)
weights_at (r ∷ p) v (suc i) h = ap (λ b. cond b r.weights (weights_of p v)) (eqb_no r.decision v (h.first 0 (omega arith))) ∙ weights_at p v i (tail_at r p v i h)

pub total_at : (p : List RuleView) (v i : ℕ) → IsFirstAt p v i → rule_total p v ≡ (get_or p i no_rule).total
total_at [] v i h = absurd (let l : i < 0 = h.within in omega arith)
total_at (r ∷ p) v zero h = ap (λ b. cond b r.total (rule_total p v)) (eqb_yes r.decision v h.found)
total_at (r ∷ p) v (suc i) h = ap (λ b. cond b r.total (rule_total p v)) (eqb_no r.decision v (h.first 0 (omega arith))) ∙ total_at p v i (tail_at r p v i h)

-- ---- another rule put there
decisions_put : (p : List RuleView) (r : RuleView) (i : ℕ) → IsFirstAt p r.decision i → map (λ q. q.decision) (set p i r) ≡ map (λ q. q.decision) p
decisions_put [] r i h = absurd (let l : i < 0 = h.within in omega arith)
decisions_put (q ∷ p) r zero h = λ j. sym h.found j ∷ map (λ q. q.decision) p
decisions_put (q ∷ p) r (suc i) h = ap (λ l. q.decision ∷ l) (decisions_put p r i (tail_at q p r.decision i h))

weights_put : (p : List RuleView) (r : RuleView) (i : ℕ) → IsFirstAt p r.decision i → weights_of (set p i r) r.decision ≡ r.weights
weights_put [] r i h = absurd (let l : i < 0 = h.within in omega arith)
weights_put (q ∷ p) r zero h = ap (λ b. cond b r.weights (weights_of p r.decision)) (eqb_yes r.decision r.decision refl)
weights_put (q ∷ p) r (suc i) h = ap (λ b. cond b q.weights (weights_of (set p i r) r.decision)) (eqb_no q.decision r.decision (h.first 0 (omega arith))) ∙ weights_put p r i (tail_at q p r.decision i h)

total_put : (p : List RuleView) (r : RuleView) (i : ℕ) → IsFirstAt p r.decision i → rule_total (set p i r) r.decision ≡ r.total
total_put [] r i h = absurd (let l : i < 0 = h.within in omega arith)
total_put (q ∷ p) r zero h = ap (λ b. cond b r.total (rule_total p r.decision)) (eqb_yes r.decision r.decision refl)
total_put (q ∷ p) r (suc i) h = ap (λ b. cond b q.total (rule_total (set p i r) r.decision)) (eqb_no q.decision r.decision (h.first 0 (omega arith))) ∙ total_put p r i (tail_at q p r.decision i h)

other_weights : (p : List RuleView) (r : RuleView) (i v : ℕ) → IsFirstAt p r.decision i → v ≢ r.decision → weights_of (set p i r) v ≡ weights_of p v
other_weights [] r i v h n = absurd (let l : i < 0 = h.within in omega arith)
other_weights (q ∷ p) r zero v h n =
    ap (λ b. cond b r.weights (weights_of p v)) (eqb_no r.decision v (λ e. n (sym e)))
    ∙ ap (λ b. cond b q.weights (weights_of p v)) (sym (eqb_no q.decision v (λ e. n (sym e ∙ h.found))))
other_weights (q ∷ p) r (suc i) v h n = ap (λ l. cond (eqb q.decision v) q.weights l) (other_weights p r i v (tail_at q p r.decision i h) n)

other_total : (p : List RuleView) (r : RuleView) (i v : ℕ) → IsFirstAt p r.decision i → v ≢ r.decision → rule_total (set p i r) v ≡ rule_total p v
other_total [] r i v h n = absurd (let l : i < 0 = h.within in omega arith)
other_total (q ∷ p) r zero v h n =
    ap (λ b. cond b r.total (rule_total p v)) (eqb_no r.decision v (λ e. n (sym e)))
    ∙ ap (λ b. cond b q.total (rule_total p v)) (sym (eqb_no q.decision v (λ e. n (sym e ∙ h.found))))
other_total (q ∷ p) r (suc i) v h n = ap (λ l. cond (eqb q.decision v) q.total l) (other_total p r i v (tail_at q p r.decision i h) n)

pub replaces : (p : List RuleView) (r : RuleView) (i : ℕ) → IsFirstAt p r.decision i → Replaces p (set p i r) r
replaces p r i h = record {
  decisions = decisions_put p r i h;
  weights = weights_put p r i h;
  total = total_put p r i h;
  others = λ v n. record { weights = other_weights p r i v h n; total = other_total p r i v h n };
}

-- a profile with another rule is a profile
pub profile_put : (nodes : List NodeView) (p q : List RuleView) (r : RuleView) → Replaces p q r → IsProfile nodes p → IsRule nodes r → IsProfile nodes q
profile_put nodes p q r s is rule = record { decisions = s.decisions ∙ is.decisions; rule = λ v d. go v d (ℕ_discrete v r.decision) }
  where
    go : (v : ℕ) → IsDecision nodes v → Dec (v ≡ r.decision) → IsRule nodes (record { decision = v; total = rule_total q v; weights = weights_of q v })
    go v d (yes e) = subst (λ (x : RuleView). IsRule nodes x) (λ i. record { decision = sym e i; total = (sym s.total ∙ ap (rule_total q) (sym e)) i; weights = (sym s.weights ∙ ap (weights_of q) (sym e)) i }) rule
    go v d (no n) = subst (λ (x : RuleView). IsRule nodes x) (λ i. record { decision = v; total = sym ((s.others v n).total) i; weights = sym ((s.others v n).weights) i }) (is.rule v d)

-- a search that passed all rules saw the wanted one
pub none_passed : (p : List RuleView) (v i : ℕ) → HasRule p v → ((k : ℕ) → k < i → (get_or p k no_rule).decision ≢ v) → length p ≤ i → ⊥
none_passed p v i (k, l, e) h n = h k (let m : length (map (λ (r : RuleView). r.decision) p) ≡ length p = length-map p (λ r. r.decision) in omega arith) (at p k (let m : length (map (λ (r : RuleView). r.decision) p) ≡ length p = length-map p (λ r. r.decision) in omega arith) ∙ e)
  where
    at : (p : List RuleView) (k : ℕ) → k < length p → (get_or p k no_rule).decision ≡ get_or (map (λ r. r.decision) p) k v
    at [] k l = absurd (omega arith)
    at (r ∷ p) zero l = refl
    at (r ∷ p) (suc k) l = at p k (omega arith)

-- the rule that the code read there
pub read_total : (p items : List RuleView) (v i : ℕ) (r : RuleView) → items ≡ p → IsFirstAt items v i → r ≡ get_or items i r → r.total ≡ rule_total p v
read_total p items v i r e h f = ap (λ (x : RuleView). x.total) (f ∙ get_or_default items i r no_rule h.within) ∙ sym (total_at items v i h) ∙ ap (λ l. rule_total l v) e

pub read_weights : (p items : List RuleView) (v i : ℕ) (r : RuleView) → items ≡ p → IsFirstAt items v i → r ≡ get_or items i r → r.weights ≡ weights_of p v
read_weights p items v i r e h f = ap (λ (x : RuleView). x.weights) (f ∙ get_or_default items i r no_rule h.within) ∙ sym (weights_at items v i h) ∙ ap (λ l. weights_of l v) e

-- the list that the code wrote
pub written : (p items : List RuleView) (i : ℕ) (r : RuleView) → items ≡ p → IsFirstAt items r.decision i → Replaces p (set items i r) r
written p items i r e h = subst (λ l. Replaces l (set items i r) r) e (replaces items r i h)
