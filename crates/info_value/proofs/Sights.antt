-- What a decision may see: neither itself nor what descends from it.
use Rattle.std.proofs.Common.{◌≡◌, ◌∙◌, ◌⊎◌, ◌↔◌, ℕ, Bool, true, false, not, ◌&&◌, ◌==◌, List, refl, sym, ap, subst, inl, inr}
use Rattle.maid_laws.proofs.Booleans.{eqb_no, eqb_yes}
use Rattle.maid_model.specs.Graph.{Arc, Descends, Here, Along, IsPath, descends}
use Rattle.maid_model.specs.Laws.{TestsDescent}
use Rattle.maid_model.specs.declared.diagrams.Kind.{Kind}
use Rattle.maid_model.specs.declared.diagrams.Kind.TheVariants.{Chance, Decision}
use Rattle.maid_model.specs.Nodes.{is_utility}
use Rattle.maid_model.specs.Views.{NodeView}

-- a path is of no arc or of one and more
pub path_cases : (nodes : List NodeView) {to from : ℕ} → IsPath (Arc nodes) from to → (to ≡ from) ⊎ Descends (Arc nodes) from to
path_cases nodes Here = inl refl
path_cases nodes (Along {v = v} a p) = inr (v, a, p)

-- a mark of the nodes to which a path leads tells them
pub sight : (nodes : List NodeView) (d v : ℕ) (mark : Bool) → TestsDescent → (mark ≡ true) ↔ IsPath (Arc nodes) d v → not mark ≡ not (v == d) && not (descends nodes d v)
sight nodes d v true tests path = go (path_cases nodes (path.0 refl))
  where
    none : (b : Bool) → false ≡ b && false
    none true = refl
    none false = refl

    go : (v ≡ d) ⊎ Descends (Arc nodes) d v → false ≡ not (v == d) && not (descends nodes d v)
    go (inl e) = ap (λ b. not b && not (descends nodes d v)) (sym (eqb_yes v d e))
    go (inr p) = none (not (v == d)) ∙ ap (λ b. not (v == d) && not b) (sym ((tests nodes d v).1 p))
sight nodes d v false tests path =
    (λ i. not (sym (eqb_no v d other) i) && not (sym (above (descends nodes d v) refl) i))
  where
    differ : false ≡ true → ⊥
    differ e = cc

    other : v ≡ d → ⊥
    other e = differ (path.1 (subst (λ u. IsPath (Arc nodes) d u) (sym e) Here))

    above : (b : Bool) → descends nodes d v ≡ b → descends nodes d v ≡ false
    above true e = let h = (tests nodes d v).0 e in absurd (differ (path.1 (Along h.1 h.2)))
    above false e = e

-- what is no utility and is not marked may be seen
pub seen_by_kind : (k : Kind) (seen b : Bool) → (k ≡ Chance) ⊎ (k ≡ Decision) → seen ≡ b → seen ≡ not (is_utility k) && b
seen_by_kind k seen b (inl e) h = h ∙ (λ i. not (is_utility (sym e i)) && b)
seen_by_kind k seen b (inr e) h = h ∙ (λ i. not (is_utility (sym e i)) && b)
