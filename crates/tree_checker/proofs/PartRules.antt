-- The rules of a part, and the place of a kept node.
use Rattle.std.proofs.Common.{◌≡◌, ◌≢◌, ◌∙◌, ℕ, zero, suc, ◌+◌, ◌<◌, Bool, false, cond, List, [], ◌∷◌, ◌++◌, filter, map, length, get_or, slice_index, refl, sym, ap, arith}
use Rattle.std.proofs.lemmas.List.{map-append}
use Rattle.std.specs.List.{range_with_len}
use Rattle.maid_model.specs.declared.diagrams.Kind.{Kind}
use Rattle.maid_model.specs.declared.diagrams.Kind.TheVariants.{Chance, Decision, Utility}
use Rattle.maid_model.specs.Nodes.{is_decision, node_at}
use Rattle.maid_model.specs.Parts.{place_in, part_of, rule_in, rules_in, IsAncestral}
use Rattle.maid_model.specs.Views.{NodeView, RuleView}
use Rattle.maid_laws.proofs.Booleans.{eqb_yes, eqb_no}
use Rattle.part_laws.proofs.PartNodes.{closed_of, kind_is, length_part}
use Rattle.finite_sums.proofs.Ranges.{filter_yes, filter_no}

-- ---- places
pub place_first : (xs : List ℕ) (v p : ℕ) → p < length xs → get_or xs p 0 ≡ v → ((k : ℕ) → k < p → get_or xs k 0 ≢ v) → p ≡ place_in xs v
place_first [] v p l e n = absurd (omega arith)
place_first (x ∷ xs) v zero l e n = sym (ap (λ b. cond b 0 (suc (place_in xs v))) (eqb_yes x v e))
place_first (x ∷ xs) v (suc p) l e n = ap suc (place_first xs v p (omega arith) e (λ k h. n (suc k) (omega arith))) ∙ sym (ap (λ b. cond b 0 (suc (place_in xs v))) (eqb_no x v (n 0 (omega arith))))

-- ---- rules
-- the k-th kept node is a decision
abbrev pub is_kept_decision : List NodeView → List ℕ → ℕ → Bool
is_kept_decision nodes kept k = is_decision (node_at (part_of nodes kept) k).kind

-- the rules of the decisions among the first n kept nodes
abbrev pub rules_before : List NodeView → List RuleView → List ℕ → ℕ → List RuleView
rules_before nodes p kept n = map (rule_in p kept) (filter (is_kept_decision nodes kept) (range_with_len 0 n))

module _ (nodes : List NodeView) (p : List RuleView) (kept : List ℕ) (a : IsAncestral nodes kept) (n : ℕ) (l : n < length kept) where
  kind_there : (node_at (part_of nodes kept) n).kind ≡ (node_at nodes (slice_index kept n)).kind
  kind_there = kind_is nodes kept (closed_of nodes kept a) n l

  pub rules_more : (node_at nodes (slice_index kept n)).kind ≡ Decision → rules_before nodes p kept (n + 1) ≡ rules_before nodes p kept n ++ rule_in p kept n ∷ []
  rules_more k =
      ap (map (rule_in p kept)) (filter_yes (is_kept_decision nodes kept) n (ap is_decision (kind_there ∙ k)))
      ∙ map-append (rule_in p kept) (filter (is_kept_decision nodes kept) (range_with_len 0 n)) (n ∷ [])

  pub rules_same : ((node_at nodes (slice_index kept n)).kind ≢ Decision) → rules_before nodes p kept (n + 1) ≡ rules_before nodes p kept n
  rules_same m = ap (map (rule_in p kept)) (filter_no (is_kept_decision nodes kept) n (other (node_at (part_of nodes kept) n).kind (λ e. m (sym kind_there ∙ e))))
    where
      other : (k : Kind) → k ≢ Decision → is_decision k ≡ false
      other Chance n = refl
      other Decision n = absurd (n refl)
      other Utility n = refl

pub rules_whole : (nodes : List NodeView) (p : List RuleView) (kept : List ℕ) → IsAncestral nodes kept → (n : ℕ) → n ≡ length kept → rules_before nodes p kept n ≡ rules_in nodes p kept
rules_whole nodes p kept a n e = ap (rules_before nodes p kept) (e ∙ sym (length_part nodes kept (closed_of nodes kept a)))
