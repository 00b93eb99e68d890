-- What a node is, by its kind, and who owns it, by looking at the first owner and then at the
-- others.
use Rattle.std.proofs.Common.{◌≡◌, ◌↔◌, ◌⊎◌, ◌==◌, ℕ, zero, suc, ◌<◌, Bool, true, false, ◌&&◌, List, ◌∷◌, length, get_or, Contains, IsTrue, refl, sym, ◌∙◌, ap, subst, inl, inr, arith}
use Rattle.std.proofs.lemmas.Bool.{false≢true}
use Rattle.std.proofs.lemmas.List.{get_or_default}
use Rattle.std.specs.List.{list_any}
use Rattle.maid_model.specs.declared.diagrams.Kind.{Kind}
use Rattle.maid_model.specs.declared.diagrams.Kind.TheVariants.{Chance, Decision, Utility}
use Rattle.maid_model.specs.Views.{NodeView}
use Rattle.maid_model.specs.Nodes.{no_node, node_at, owners_of, IsOwnedBy, owns, is_decision, is_utility, is_utility_of}
use Rattle.finite_sums.proofs.Members.{any_is}

owned_by : (nodes : List NodeView) (v agent : ℕ) → v < length nodes → ((node_at nodes v).kind ≡ Decision) ⊎ ((node_at nodes v).kind ≡ Utility)
    → ((node_at nodes v).owner ≡ agent → ⊥) → (b : Bool) → b ≡ list_any (λ a. a == agent) (node_at nodes v).more → IsTrue b ↔ IsOwnedBy nodes v agent
owned_by nodes v agent l kind other b e = (
  (λ t. let c = (any_is agent (node_at nodes v).more).0 (sym e ∙ t) in record { within = l; kind = kind; owner = (suc c.0, omega (arith, c.1), c.2) }),
  (λ o. e ∙ (any_is agent (node_at nodes v).more).1 (later o.owner)),
)
  where
    later : Contains ((node_at nodes v).owner ∷ (node_at nodes v).more) agent → Contains (node_at nodes v).more agent
    later (zero, m, f) = absurd (other f)
    later (suc k, m, f) = (k, omega arith, f)

pub owned_else : (nodes : List NodeView) (v agent : ℕ) → v < length nodes → (n : NodeView) → n ≡ node_at nodes v → (n.kind ≡ Decision) ⊎ (n.kind ≡ Utility)
    → (n.owner ≡ agent → ⊥) → (b : Bool) → b ≡ list_any (λ a. a == agent) n.more → IsTrue b ↔ IsOwnedBy nodes v agent
owned_else nodes v agent l n at kind other b e =
    owned_by nodes v agent l (subst (λ m. (m.kind ≡ Decision) ⊎ (m.kind ≡ Utility)) at kind) (λ f. other (ap (λ m. m.owner) at ∙ f)) b (e ∙ ap (λ m. list_any (λ a. a == agent) m.more) at)

pub utility_owned : (nodes : List NodeView) (v agent : ℕ) → v < length nodes → (node_at nodes v).kind ≡ Utility → (b : Bool) → (IsTrue b ↔ IsOwnedBy nodes v agent) → b ≡ is_utility_of nodes agent v
utility_owned nodes v agent l kind b told =
    same b (owns nodes agent v) (λ t. (any_is agent (owners_of nodes v)).1 (told.0 t).owner) (λ t. told.1 (record { within = l; kind = inr kind; owner = (any_is agent (owners_of nodes v)).0 t }))
    ∙ ap (λ x. x && owns nodes agent v) (sym (ap is_utility kind))
  where
    same : (b c : Bool) → (b ≡ true → c ≡ true) → (c ≡ true → b ≡ true) → b ≡ c
    same true c f g = sym (f refl)
    same false true f g = absurd (false≢true (g refl))
    same false false f g = refl

-- what stands at a node's place in the diagram's list is the node
pub node_read : (items nodes : List NodeView) (v : ℕ) (n : NodeView) → items ≡ nodes → v < length nodes → n ≡ get_or items v n → n ≡ node_at nodes v
node_read items nodes v n same l at = at ∙ ap (λ xs. get_or xs v n) same ∙ get_or_default nodes v n no_node l

pub no_decision : (k : Kind) (n : NodeView) → (k ≡ Chance) ⊎ (k ≡ Utility) → k ≡ n.kind → false ≡ is_decision n.kind
no_decision k n (inl chance) is = sym (ap is_decision (sym is ∙ chance))
no_decision k n (inr utility) is = sym (ap is_decision (sym is ∙ utility))
