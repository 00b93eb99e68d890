-- A sum that goes from one list of choices to another, decision by decision.
use Rattle.std.proofs.Common.{◌≡◌, ◌≢◌, ◌∙◌, ℕ, zero, suc, ◌+◌, ◌-◌, ◌<◌, ◌≤◌, cond, List, [], ◌∷◌, drop, drop-drop, flat_map, get_or, length, take, refl, sym, ap, subst, arith, Contains}
use Rattle.std.proofs.Math.Decide.{ℕ_discrete}
use Rattle.finite_sums.specs.Members.{Among}
use Rattle.finite_sums.proofs.Lists.{decide_among}
use Rattle.maid_model.specs.Nodes.{IsDecision, decisions_of, rows_of, states_of}
use Rattle.maid_model.specs.Parts.{IsAncestral, part_of, place_in, rules_in}
use Rattle.maid_model.specs.Profiles.{IsProfile, IsRule, pure_row}
use Rattle.maid_model.specs.Tables.{rule_total, weights_of}
use Rattle.maid_model.specs.Views.{NodeView, RuleView}
use Rattle.maid_laws.proofs.Booleans.{eqb_yes, eqb_no}
use Rattle.maid_laws.proofs.Collapse.{Apart}
use Rattle.maid_laws.proofs.Members.{among_index, among_of, contains_of, index_of, not_among}
use Rattle.maid_laws.proofs.Rules.{among_decisions}
use Rattle.maid_laws.proofs.SameProfile.{decided, decisions_apart, same_profile}
use Rattle.part_laws.proofs.PartLaws.{profiles_law}
use Rattle.part_laws.proofs.PartLimits.{nodes_law, rules_law}
use Rattle.part_laws.proofs.PartNodes.{closed_of, kind_is, length_part}
use Rattle.part_laws.proofs.Places.{at_place, place_at}
use Rattle.reach_laws.specs.Equilibria.{choice_counts, rules_of}
use Rattle.tree_checker.specs.AgentSums.{IsAgentSum}
use Rattle.tree_checker.specs.declared.agent_sums.AgentSum.{AgentSum}
use Rattle.pure_search.proofs.Chosen.{rows_counted}
use Rattle.pure_search.specs.Following.{IsRuleOfDecision, TakesRule, TakesRuleIfKept, rule_taking}

-- ---- places
pub place_first : (xs : List ℕ) (v p : ℕ) → p < length xs → get_or xs p 0 ≡ v → ((k : ℕ) → k < p → get_or xs k 0 ≢ v) → Contains xs v × (p ≡ place_in xs v)
place_first xs v p l e n = (contains_of v xs (subst (λ u. Among u xs) e (among_index xs p l)), first xs p l e n)
  where
    first : (xs : List ℕ) (p : ℕ) → p < length xs → get_or xs p 0 ≡ v → ((k : ℕ) → k < p → get_or xs k 0 ≢ v) → p ≡ place_in xs v
    first [] p l e n = absurd (omega arith)
    first (x ∷ xs) zero l e n = sym (ap (λ b. cond b 0 (suc (place_in xs v))) (eqb_yes x v e))
    first (x ∷ xs) (suc p) l e n = ap suc (first xs p (omega arith) e (λ k h. n (suc k) (omega arith))) ∙ sym (ap (λ b. cond b 0 (suc (place_in xs v))) (eqb_no x v (n 0 (omega arith))))

apart_at : (xs : List ℕ) → Apart xs → (i j : ℕ) → i < length xs → j < length xs → get_or xs i 0 ≡ get_or xs j 0 → i ≡ j
apart_at xs a i j l k e = sym (place_at xs a i l) ∙ ap (place_in xs) e ∙ place_at xs a j k

-- ---- what is left of the choices behind the first decisions
abbrev pub rest_at : List NodeView → List ℕ → ℕ → List ℕ → List ℕ
rest_at nodes ds zero xs = xs
rest_at nodes [] (suc i) xs = xs
rest_at nodes (d ∷ ds) (suc i) xs = rest_at nodes ds i (drop (rows_of nodes d) xs)

rest_more : (nodes : List NodeView) (ds : List ℕ) (i : ℕ) (xs : List ℕ) → i < length ds → rest_at nodes ds (suc i) xs ≡ drop (rows_of nodes (get_or ds i 0)) (rest_at nodes ds i xs)
rest_more nodes [] i xs l = absurd (omega arith)
rest_more nodes (d ∷ ds) zero xs l = refl
rest_more nodes (d ∷ ds) (suc i) xs l = rest_more nodes ds i (drop (rows_of nodes d) xs) (omega arith)

-- the rule of a decision takes its choices
rule_at : (nodes : List NodeView) (ds : List ℕ) → Apart ds → (i : ℕ) (xs : List ℕ) → i < length ds
    → (weights_of (rules_of nodes ds xs) (get_or ds i 0) ≡ flat_map (pure_row (states_of nodes (get_or ds i 0))) (take (rows_of nodes (get_or ds i 0)) (rest_at nodes ds i xs)))
    × (rule_total (rules_of nodes ds xs) (get_or ds i 0) ≡ 1)
rule_at nodes [] a i xs l = absurd (omega arith)
rule_at nodes (d ∷ ds) a zero xs l =
    let rest = rules_of nodes ds (drop (rows_of nodes d) xs) in (
      ap (λ b. cond b (flat_map (pure_row (states_of nodes d)) (take (rows_of nodes d) xs)) (weights_of rest d)) (eqb_yes d d refl),
      ap (λ b. cond b 1 (rule_total rest d)) (eqb_yes d d refl),
    )
rule_at nodes (d ∷ ds) a (suc i) xs l =
    let k : i < length ds = omega arith in
    let v = get_or ds i 0 in
    let rest = rules_of nodes ds (drop (rows_of nodes d) xs) in
    let other = eqb_no d v (λ e. not_among d ds a.0 (subst (λ z. Among z ds) (sym e) (among_index ds i k))) in
    let r = rule_at nodes ds a.1 i (drop (rows_of nodes d) xs) k in (
      ap (λ b. cond b (flat_map (pure_row (states_of nodes d)) (take (rows_of nodes d) xs)) (weights_of rest v)) other ∙ r.0,
      ap (λ b. cond b 1 (rule_total rest v)) other ∙ r.1,
    )

-- ---- so far
-- the rule at v's place among the kept nodes is that of v
pub record HasRuleAt (kept : List ℕ) (p rules : List RuleView) (v : ℕ) : Type 0 where
  pub weights : weights_of rules (place_in kept v) ≡ weights_of p v
  pub total : rule_total rules (place_in kept v) ≡ rule_total p v

-- the first i decisions have the rules of the new choices, and the others those of the old
pub record FollowsSoFar (nodes : List NodeView) (agent : ℕ) (kept ds before choices : List ℕ) (i start : ℕ) (s : AgentSum) : Type 0 where
  pub ready : IsAgentSum (part_of nodes kept) s
  pub agent_is : s.agent ≡ agent
  pub done : (j : ℕ) → j < i → j < length ds → Contains kept (get_or ds j 0) → HasRuleAt kept (rules_of nodes ds choices) s.rules (get_or ds j 0)
  pub left : (j : ℕ) → i ≤ j → j < length ds → Contains kept (get_or ds j 0) → HasRuleAt kept (rules_of nodes ds before) s.rules (get_or ds j 0)
  pub old_rest : drop start before ≡ rest_at nodes ds i before
  pub new_rest : drop start choices ≡ rest_at nodes ds i choices
  pub count : start + length (choice_counts nodes (drop i ds)) ≡ length choices

module _ (nodes : List NodeView) (agent : ℕ) (kept : List ℕ) (anc : IsAncestral nodes kept) (ds : List ℕ) (whole : ds ≡ decisions_of nodes) where
  apart : Apart ds
  apart = subst Apart (sym whole) (decisions_apart nodes)

  is_one : (j : ℕ) → j < length ds → IsDecision nodes (get_or ds j 0)
  is_one j l = decided nodes (get_or ds j 0) (subst (Among (get_or ds j 0)) whole (among_index ds j l))

  -- kept nodes have places of their own
  place_apart : (u v : ℕ) → Contains kept u → Contains kept v → place_in kept u ≡ place_in kept v → u ≡ v
  place_apart u v a b e = sym (at_place kept u (among_of u kept a)) ∙ ap (λ k. get_or kept k 0) e ∙ at_place kept v (among_of v kept b)

  -- the profile's rules in the part stand at these places
  stands : (p rules : List RuleView) → rules ≡ rules_in nodes p kept → (v : ℕ) → IsDecision nodes v → Contains kept v → HasRuleAt kept p rules v
  stands p rules e v is m =
      let told = rules_law nodes p kept v anc is m in
      record { weights = ap (λ r. weights_of r (place_in kept v)) e ∙ told.0; total = ap (λ r. rule_total r (place_in kept v)) e ∙ told.1 }

  module _ (before choices : List ℕ) where
    -- nothing is exchanged yet
    pub follow_none : (s : AgentSum) → IsAgentSum (part_of nodes kept) s → s.agent ≡ agent → s.rules ≡ rules_in nodes (rules_of nodes ds before) kept → length (choice_counts nodes ds) ≡ length choices
        → FollowsSoFar nodes agent kept ds before choices 0 0 s
    follow_none s ready own e n = record {
      ready = ready;
      agent_is = own;
      done = λ j l k m. absurd (omega arith);
      left = λ j l k m. stands (rules_of nodes ds before) s.rules e (get_or ds j 0) (is_one j k) m;
      old_rest = refl;
      new_rest = refl;
      count = omega (arith, n);
    }

    -- all rules are those of the new choices
    pub follow_all : (i start : ℕ) (s : AgentSum) → FollowsSoFar nodes agent kept ds before choices i start s → length ds ≤ i → IsProfile nodes (rules_of nodes ds choices) → s.rules ≡ rules_in nodes (rules_of nodes ds choices) kept
    follow_all i start s so past is = same_profile (part_of nodes kept) s.rules (rules_in nodes (rules_of nodes ds choices) kept) so.ready.profile (profiles_law nodes (rules_of nodes ds choices) kept is anc) each
      where
        each : (k : ℕ) → IsDecision (part_of nodes kept) k → (weights_of s.rules k ≡ weights_of (rules_in nodes (rules_of nodes ds choices) kept) k) × (rule_total s.rules k ≡ rule_total (rules_in nodes (rules_of nodes ds choices) kept) k)
        each k d =
            let closed = closed_of nodes kept anc in
            let l : k < length kept = subst (λ n. k < n) (length_part nodes kept closed) d.within in
            let v = get_or kept k 0 in
            let m : Contains kept v = contains_of v kept (among_index kept k l) in
            let one : IsDecision nodes v = record { within = anc.within v m; kind = sym (kind_is nodes kept closed k l) ∙ d.kind } in
            let at : place_in kept v ≡ k = place_at kept closed.apart k l in
            let j = index_of v ds (subst (Among v) (sym whole) (among_decisions nodes v one)) in
            let bound : j.0 < i = let n : j.0 < length ds = j.1 in omega arith in
            let own : HasRuleAt kept (rules_of nodes ds choices) s.rules v = subst (HasRuleAt kept (rules_of nodes ds choices) s.rules) j.2 (so.done j.0 bound j.1 (subst (Contains kept) (sym j.2) m)) in
            let told = rules_law nodes (rules_of nodes ds choices) kept v anc one m in (
              ap (weights_of s.rules) (sym at) ∙ own.weights ∙ sym told.0 ∙ ap (weights_of (rules_in nodes (rules_of nodes ds choices) kept)) at,
              ap (rule_total s.rules) (sym at) ∙ own.total ∙ sym told.1 ∙ ap (rule_total (rules_in nodes (rules_of nodes ds choices) kept)) at,
            )

    module _ (i start count : ℕ) (s : AgentSum) (so : FollowsSoFar nodes agent kept ds before choices i start s) (l : i < length ds) (n : count ≡ rows_of nodes (get_or ds i 0)) where
      abbrev v : ℕ
      v = get_or ds i 0

      more : (xs : List ℕ) → drop start xs ≡ rest_at nodes ds i xs → drop (start + count) xs ≡ rest_at nodes ds (i + 1) xs
      more xs e = sym (drop-drop count start xs) ∙ (λ k. drop (n k) (e k)) ∙ sym (rest_more nodes ds i xs l) ∙ ap (λ k. rest_at nodes ds k xs) (sym (next i))
        where
          next : (i : ℕ) → i + 1 ≡ suc i
          next i = omega arith

      counted : start + count + length (choice_counts nodes (drop (i + 1) ds)) ≡ length choices
      counted = let c = rows_counted nodes ds i l in let e : start + length (choice_counts nodes (drop i ds)) ≡ length choices = so.count in omega (arith, c, e, n)

      -- the decision's rule takes its slice of the choices
      takes : (xs : List ℕ) → drop start xs ≡ rest_at nodes ds i xs → flat_map (pure_row (states_of nodes v)) (take (start + count - start) (drop start xs)) ≡ weights_of (rules_of nodes ds xs) v
      takes xs e = (λ k. flat_map (pure_row (states_of nodes v)) (take ((own ∙ n) k) (e k))) ∙ sym (rule_at nodes ds apart i xs l).0
        where
          own : start + count - start ≡ count
          own = omega arith

      -- the choices are the same: nothing is to be done
      pub follow_same : take (start + count - start) (drop start before) ≡ take (start + count - start) (drop start choices) → FollowsSoFar nodes agent kept ds before choices (i + 1) (start + count) s
      follow_same same = record {
        ready = so.ready;
        agent_is = so.agent_is;
        done = λ j b k m. done j b k m (ℕ_discrete j i);
        left = λ j b k m. so.left j (omega arith) k m;
        old_rest = more before so.old_rest;
        new_rest = more choices so.new_rest;
        count = counted;
      }
        where
          alike : weights_of (rules_of nodes ds before) v ≡ weights_of (rules_of nodes ds choices) v
          alike = sym (takes before so.old_rest) ∙ ap (flat_map (pure_row (states_of nodes v))) same ∙ takes choices so.new_rest

          done : (j : ℕ) → j < i + 1 → j < length ds → Contains kept (get_or ds j 0) → Dec (j ≡ i) → HasRuleAt kept (rules_of nodes ds choices) s.rules (get_or ds j 0)
          done j b k m (yes e) =
              let was = so.left i (reach i) l (subst (λ x. Contains kept (get_or ds x 0)) e m) in
              subst (λ x. HasRuleAt kept (rules_of nodes ds choices) s.rules (get_or ds x 0)) (sym e)
              (record { weights = was.weights ∙ alike; total = was.total ∙ (rule_at nodes ds apart i before l).1 ∙ sym (rule_at nodes ds apart i choices l).1 })
            where
              reach : (i : ℕ) → i ≤ i
              reach i = omega arith
          done j b k m (no f) = so.done j (omega arith) k m

      -- the rule is one of the part
      pub follow_rule : IsProfile nodes (rules_of nodes ds choices) → (states : ℕ) → states ≡ states_of nodes v → Contains kept v → IsRuleOfDecision (part_of nodes kept) (rule_taking (place_in kept v) states (take (start + count - start) (drop start choices)))
      follow_rule is states e m = record {
        decision = one;
        rule = subst (IsRule (part_of nodes kept)) (λ k. record { decision = place_in kept v; total = (told.1 ∙ (rule_at nodes ds apart i choices l).1) k; weights = (told.0 ∙ sym (takes choices so.new_rest) ∙ ap (λ x. flat_map (pure_row x) (take (start + count - start) (drop start choices))) (sym e)) k })
            ((profiles_law nodes (rules_of nodes ds choices) kept is anc).rule (place_in kept v) one);
      }
        where
          one : IsDecision (part_of nodes kept) (place_in kept v)
          one = let there = (nodes_law nodes kept v anc m).0 in record { within = there.within; kind = ap (λ (x : NodeView). x.kind) there.node ∙ (is_one i l).kind }

          told : (weights_of (rules_in nodes (rules_of nodes ds choices) kept) (place_in kept v) ≡ weights_of (rules_of nodes ds choices) v) × (rule_total (rules_in nodes (rules_of nodes ds choices) kept) (place_in kept v) ≡ rule_total (rules_of nodes ds choices) v)
          told = rules_law nodes (rules_of nodes ds choices) kept v anc (is_one i l) m

      -- the rule is put in, where the part has the decision
      pub follow_put : (states : ℕ) → states ≡ states_of nodes v → (t : AgentSum) → TakesRuleIfKept (part_of nodes kept) kept v (rule_taking (place_in kept v) states (take (start + count - start) (drop start choices))) s t
          → FollowsSoFar nodes agent kept ds before choices (i + 1) (start + count) t
      follow_put states e t put = by_place (decide_among v kept)
        where
          own : HasRuleAt kept (rules_of nodes ds choices) t.rules v → (j : ℕ) → j ≡ i → HasRuleAt kept (rules_of nodes ds choices) t.rules (get_or ds j 0)
          own h j f = subst (λ x. HasRuleAt kept (rules_of nodes ds choices) t.rules (get_or ds x 0)) (sym f) h

          -- other decisions keep their rules
          kept_rule : (p : List RuleView) (j : ℕ) → j < length ds → j ≢ i → Contains kept v → TakesRule (part_of nodes kept) (rule_taking (place_in kept v) states (take (start + count - start) (drop start choices))) s t
              → Contains kept (get_or ds j 0) → HasRuleAt kept p s.rules (get_or ds j 0) → HasRuleAt kept p t.rules (get_or ds j 0)
          kept_rule p j k f m taken q was =
              let other = taken.others (place_in kept (get_or ds j 0)) (λ g. f (apart_at ds apart j i k l (place_apart (get_or ds j 0) v q m g))) in
              record { weights = other.weights ∙ was.weights; total = other.total ∙ was.total }

          by_place : Dec (Among v kept) → FollowsSoFar nodes agent kept ds before choices (i + 1) (start + count) t
          by_place (yes a) =
              let m : Contains kept v = contains_of v kept a in
              let taken = put.within m in
              let here : HasRuleAt kept (rules_of nodes ds choices) t.rules v = record {
                weights = taken.weights ∙ ap (λ x. flat_map (pure_row x) (take (start + count - start) (drop start choices))) e ∙ takes choices so.new_rest;
                total = taken.total ∙ sym (rule_at nodes ds apart i choices l).1;
              } in
              record {
                ready = taken.sum;
                agent_is = taken.agent ∙ so.agent_is;
                done = λ j b k q. elim (ℕ_discrete j i) as (λ _. HasRuleAt kept (rules_of nodes ds choices) t.rules (get_or ds j 0)) [
                  | yes f ↦ own here j f
                  | no f ↦ kept_rule (rules_of nodes ds choices) j k f m taken q (so.done j (omega arith) k q)
                ];
                left = λ j b k q. kept_rule (rules_of nodes ds before) j k (λ f. absurd (omega arith)) m taken q (so.left j (omega arith) k q);
                old_rest = more before so.old_rest;
                new_rest = more choices so.new_rest;
                count = counted;
              }
          by_place (no a) =
              let same : t ≡ s = put.outside (λ m. a (among_of v kept m)) in
              subst (FollowsSoFar nodes agent kept ds before choices (i + 1) (start + count)) (sym same)
              (record {
                ready = so.ready;
                agent_is = so.agent_is;
                done = λ j b k q. elim (ℕ_discrete j i) as (λ _. HasRuleAt kept (rules_of nodes ds choices) s.rules (get_or ds j 0)) [
                  | yes f ↦ absurd (a (among_of v kept (subst (λ x. Contains kept (get_or ds x 0)) f q)))
                  | no f ↦ so.done j (omega arith) k q
                ];
                left = λ j b k q. so.left j (omega arith) k q;
                old_rest = more before so.old_rest;
                new_rest = more choices so.new_rest;
                count = counted;
              })
