-- Where no two decisions have different owners, one agent owns all of them.
use Rattle.std.proofs.Common.{◌≡◌, ◌∙◌, ℕ, zero, suc, ◌<◌, ◌≤◌, List, [], ◌∷◌, Contains, length, get_or, sym, ap, subst, inl, inr, refl, arith}
use Rattle.std.proofs.lemmas.List.{get_or_default}
use Rattle.std.proofs.Math.Decide.{ℕ_discrete}
use Rattle.finite_sums.specs.Members.{Among}
use Rattle.finite_sums.proofs.Members.{contains_from_among}
use Rattle.maid_model.specs.declared.diagrams.Kind.TheVariants.{Chance, Decision}
use Rattle.maid_model.specs.Diagrams.{HasOwners}
use Rattle.maid_model.specs.Nodes.{IsDecision, agent_of, decisions_of}
use Rattle.maid_model.specs.Subgames.{OwnsAll}
use Rattle.maid_model.specs.Views.{NodeView}
use Rattle.maid_laws.proofs.Rules.{among_decisions}
use Rattle.maid_laws.proofs.SameProfile.{decided}
use Rattle.policy_update.specs.Faults.{HasTwoOwners}

pub owns_of : (nodes : List NodeView) → (HasTwoOwners nodes → ⊥) → (d : ℕ) → IsDecision nodes d → OwnsAll nodes (agent_of nodes d)
owns_of nodes none d k v kv = go (ℕ_discrete (agent_of nodes v) (agent_of nodes d))
  where
    go : Dec (agent_of nodes v ≡ agent_of nodes d) → agent_of nodes v ≡ agent_of nodes d
    go (yes e) = e
    go (no n) = absurd (none (record { one = v; other = d; one_decides = kv; other_decides = k; differ = n }))

pub some_owner : (nodes : List NodeView) → (HasTwoOwners nodes → ⊥) → (agent : ℕ) × OwnsAll nodes agent
some_owner nodes none = go (decisions_of nodes) refl
  where
    go : (ds : List ℕ) → decisions_of nodes ≡ ds → (agent : ℕ) × OwnsAll nodes agent
    go [] e = (0, λ v k. absurd (subst (Among v) e (among_decisions nodes v k)))
    go (d ∷ ds) e = (agent_of nodes d, owns_of nodes none d (decided nodes d (subst (Among d) (sym e) (inl refl))))

-- ---- a list of the decisions
among_get : (xs : List ℕ) (i : ℕ) → i < length xs → Among (get_or xs i 0) xs
among_get [] i l = absurd (omega arith)
among_get (x ∷ xs) zero l = inl refl
among_get (x ∷ xs) (suc i) l = inr (among_get xs i (omega arith))

pub decision_at : (nodes : List NodeView) (ds : List ℕ) (i : ℕ) → ds ≡ decisions_of nodes → i < length ds → IsDecision nodes (get_or ds i 0)
decision_at nodes ds i e l = decided nodes (get_or ds i 0) (subst (Among (get_or ds i 0)) e (among_get ds i l))

-- where all have the owner of the first, no two have different owners
pub one_owner : (nodes : List NodeView) (ds : List ℕ) (n : ℕ) → ds ≡ decisions_of nodes → length ds ≤ n → ((k : ℕ) → k < n → agent_of nodes (get_or ds k 0) ≡ agent_of nodes (get_or ds 0 0)) → HasTwoOwners nodes → ⊥
one_owner nodes ds n e all same two = two.differ (first two.one two.one_decides ∙ sym (first two.other two.other_decides))
  where
    first : (v : ℕ) → IsDecision nodes v → agent_of nodes v ≡ agent_of nodes (get_or ds 0 0)
    first v k = go (contains_from_among ds v (subst (Among v) (sym e) (among_decisions nodes v k)))
      where
        go : Contains ds v → agent_of nodes v ≡ agent_of nodes (get_or ds 0 0)
        go (i, l, f) = ap (agent_of nodes) (sym f ∙ get_or_default ds i v 0 l) ∙ same i (omega (arith, l, all))

-- an owner is an agent of the diagram
pub owner_within : (nodes : List NodeView) (agents d : ℕ) → HasOwners nodes agents → IsDecision nodes d → agent_of nodes d < agents
owner_within nodes agents d h k = h.agent d (agent_of nodes d) k.within (λ e. apart (sym k.kind ∙ e)) (0, omega arith, refl)
  where
    apart : Decision ≡ Chance → ⊥
    apart e = cc

-- the owner of one decision owns all that one agent owns
pub owns_like : (nodes : List NodeView) (agent d : ℕ) → OwnsAll nodes agent → IsDecision nodes d → OwnsAll nodes (agent_of nodes d)
owns_like nodes agent d owns k v kv = owns v kv ∙ sym (owns d k)
