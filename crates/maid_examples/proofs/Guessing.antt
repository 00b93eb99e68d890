-- Walks between two coins and their common child, and which parents of the guess are requisite.
use Rattle.std.proofs.Common.{◌≡◌, ◌↔◌, ℕ, zero, suc, ◌<◌, [], ◌∷◌, refl, sym, subst, inl, inr, arith}
use Rattle.maid_model.specs.declared.diagrams.Kind.TheVariants.{Chance, Decision, Utility}
use Rattle.maid_model.specs.Nodes.{IsDecision, node_at}
use Rattle.maid_model.specs.Graph.{Arc, Here}
use Rattle.maid_model.specs.Walks.{IsJoined, IsCollider}
use Rattle.maid_model.specs.Relevance.{IsLive, IsInFamilyBut, IsGoal, IsRequisite}
use Rattle.maid_model.specs.Edits.{without_arc}
use Rattle.maid_model.specs.Trimming.{SeesRequisites, IsFirstToRemove, Done, Removed}
use Rattle.maid_examples.specs.TwoCoins.{told, untold, HasWalks, HasRequisites}
use Rattle.maid_examples.proofs.Members.{Among, among_of}
use Rattle.maid_examples.proofs.Reliance.{live}
use Rattle.maid_examples.proofs.Turning.{end_of_walk}

-- ---- walks
coin_0 : IsLive told 0
coin_0 = live told 0 (omega arith) (omega arith)

coin_1 : IsLive told 1
coin_1 = live told 1 (omega arith) (omega arith)

alike : IsLive told 2
alike = live told 2 (omega arith) (omega arith)

paid : IsLive told 4
paid = record { within = omega arith; states = inl refl }

to_alike_0 : Arc told 0 2
to_alike_0 = (0, omega arith, refl)

to_alike_1 : Arc told 1 2
to_alike_1 = (1, omega arith, refl)

to_pay : Arc told 1 4
to_pay = (0, omega arith, refl)

no_parent_1 : (v : ℕ) → Arc told v 1 → ⊥
no_parent_1 v a = among_of [] v a

pub walks : HasWalks
walks = record {
  opened = (coin_0, inl to_alike_0, ((λ m. refl), (λ e. (to_alike_0, to_alike_1))), (alike, inr to_alike_1, coin_1));
  blocked = λ a. a.2.0 (to_alike_0, to_alike_1);
  passed = (alike, inr to_alike_1, ((λ m. absurd (no_parent_1 2 m.0)), (λ f. absurd f)), (coin_1, inl to_pay, paid));
  stopped = λ a. no_parent_1 2 (a.2.1 refl).0;
}

-- ---- what the guess is told
abbrev TellsBut : ℕ → ℕ → Type 0
TellsBut x = IsInFamilyBut (Arc told) 3 x

is_goal : IsGoal told 3 4
is_goal = record { within = omega arith; kind = refl; owner = (0, omega arith, refl); below = (4, (1, omega arith, refl), Here) }

-- coin 1 isn't seen
coin_1_unseen : (x : ℕ) → TellsBut x 1 → ⊥
coin_1_unseen x (inl e) = omega arith
coin_1_unseen x (inr a) = unseen (among_of (0 ∷ 2 ∷ []) 1 a.0)
  where
    unseen : Among 1 (0 ∷ 2 ∷ []) → ⊥
    unseen (inl e) = omega arith
    unseen (inr (inl e)) = omega arith
    unseen (inr (inr m)) = m

coin_matters : IsRequisite told 3 0
coin_matters = record {
  live = coin_0;
  goal = 4;
  is_goal = is_goal;
  walk = record {
    rest = 2 ∷ 1 ∷ 4 ∷ [];
    active = (coin_0, inl to_alike_0, ((λ m. inr ((1, omega arith, refl), λ e. omega arith)), (λ g. (to_alike_0, to_alike_1))), (alike, inr to_alike_1, ((λ m. absurd (no_parent_1 2 m.0)), (λ g. absurd (coin_1_unseen 0 g))), (coin_1, inl to_pay, paid)));
    ends = refl;
  };
}

alike_matters : IsRequisite told 3 2
alike_matters = record {
  live = alike;
  goal = 4;
  is_goal = is_goal;
  walk = record {
    rest = 1 ∷ 4 ∷ [];
    active = (alike, inr to_alike_1, ((λ m. absurd (no_parent_1 2 m.0)), (λ g. absurd (coin_1_unseen 2 g))), (coin_1, inl to_pay, paid));
    ends = refl;
  };
}

both_matter : (d : ℕ) → IsDecision told d → SeesRequisites told d
both_matter zero k = let e = k.kind in absurd (cc)
both_matter (suc zero) k = let e = k.kind in absurd (cc)
both_matter (suc (suc zero)) k = let e = k.kind in absurd (cc)
both_matter (suc (suc (suc zero))) k = λ x a. one_of x (among_of (0 ∷ 2 ∷ []) x a)
  where
    one_of : (x : ℕ) → Among x (0 ∷ 2 ∷ []) → IsRequisite told 3 x
    one_of x (inl e) = subst (λ x. IsRequisite told 3 x) (sym e) coin_matters
    one_of x (inr (inl e)) = subst (λ x. IsRequisite told 3 x) (sym e) alike_matters
    one_of x (inr (inr m)) = absurd m
both_matter (suc (suc (suc (suc zero)))) k = let e = k.kind in absurd (cc)
both_matter (suc (suc (suc (suc (suc d))))) k = let e = k.kind in absurd (cc)

-- ---- coin 0 alone: walks lead to the common child, where they end, and to the guess and back
data Step : ℕ → ℕ → Type 0 where
  Beside : Step 0 2
  There : Step 0 3
  Back : Step 3 0

abbrev Seen : ℕ → Type 0
Seen = IsInFamilyBut (Arc untold) 3 0

child_of_coin : (z : ℕ) → Arc untold 0 z → Step 0 z
child_of_coin zero a = absurd (among_of [] 0 a)
child_of_coin (suc zero) a = absurd (among_of [] 0 a)
child_of_coin (suc (suc zero)) a = Beside
child_of_coin (suc (suc (suc zero))) a = There
child_of_coin (suc (suc (suc (suc zero)))) a = absurd (other (among_of (1 ∷ 3 ∷ []) 0 a))
  where
    other : Among 0 (1 ∷ 3 ∷ []) → ⊥
    other (inl e) = omega arith
    other (inr (inl e)) = omega arith
    other (inr (inr m)) = m
child_of_coin (suc (suc (suc (suc (suc z))))) a = absurd (among_of [] 0 a)

from_coin : (z : ℕ) → IsJoined (Arc untold) 0 z → Step 0 z
from_coin z (inl a) = child_of_coin z a
from_coin z (inr a) = absurd (among_of [] z a)

-- the common child has no children
no_child : (z : ℕ) → Arc untold 2 z → ⊥
no_child zero a = among_of [] 2 a
no_child (suc zero) a = among_of [] 2 a
no_child (suc (suc zero)) a = other (among_of (0 ∷ 1 ∷ []) 2 a)
  where
    other : Among 2 (0 ∷ 1 ∷ []) → ⊥
    other (inl e) = omega arith
    other (inr (inl e)) = omega arith
    other (inr (inr m)) = m
no_child (suc (suc (suc zero))) a = other (among_of (0 ∷ []) 2 a)
  where
    other : Among 2 (0 ∷ []) → ⊥
    other (inl e) = omega arith
    other (inr m) = m
no_child (suc (suc (suc (suc zero)))) a = other (among_of (1 ∷ 3 ∷ []) 2 a)
  where
    other : Among 2 (1 ∷ 3 ∷ []) → ⊥
    other (inl e) = omega arith
    other (inr (inl e)) = omega arith
    other (inr (inr m)) = m
no_child (suc (suc (suc (suc (suc z))))) a = among_of [] 2 a

-- it isn't seen, and neither is coin 0 itself
child_unseen : Seen 2 → ⊥
child_unseen (inl e) = omega arith
child_unseen (inr a) = other (among_of (0 ∷ []) 2 a.0)
  where
    other : Among 2 (0 ∷ []) → ⊥
    other (inl e) = omega arith
    other (inr m) = m

closed : (x y z : ℕ) → Step x y → IsJoined (Arc untold) y z → IsLive untold z → IsCollider (Arc untold) x y z ↔ Seen y → Step y z
closed x y z Beside (inl a) l m = absurd (no_child z a)
closed x y z Beside (inr a) l m = absurd (child_unseen (m.0 ((0, omega arith, refl), a)))
closed x y z There j l m = only z (among_of (0 ∷ []) z (m.1 (inl refl)).1)
  where
    only : (z : ℕ) → Among z (0 ∷ []) → Step 3 z
    only z (inl e) = subst (λ z. Step 3 z) (sym e) Back
    only z (inr m) = absurd m
closed x y z Back j l m = from_coin z j

no_goal : (goal u : ℕ) → Step u goal → IsGoal untold 3 goal → ⊥
no_goal goal u Beside g = let k : Chance ≡ Utility = g.kind in cc
no_goal goal u There g = let k : Decision ≡ Utility = g.kind in cc
no_goal goal u Back g = let k : Chance ≡ Utility = g.kind in cc

coin_alone : IsRequisite untold 3 0 → ⊥
coin_alone r = elim (end_of_walk (Arc untold) (IsLive untold) Seen Step closed 0 r.goal (λ y j l. from_coin y j) r.walk) [
  | inl e ↦ (let k : Chance ≡ Utility = subst (λ v. (node_at untold v).kind ≡ Utility) e r.is_goal.kind in cc)
  | inr t ↦ no_goal r.goal t.0 t.1 r.is_goal
]

first_to_go : IsFirstToRemove untold 0 3
first_to_go = record {
  decision = record { within = omega arith; kind = refl };
  place = 0;
  within = omega arith;
  there = refl;
  not_requisite = coin_alone;
  earlier_parents = λ k l. absurd (omega arith);
  earlier_decisions = earlier;
}
  where
    earlier : (e : ℕ) → e < 3 → IsDecision untold e → SeesRequisites untold e
    earlier zero l k = let e = k.kind in absurd (cc)
    earlier (suc zero) l k = let e = k.kind in absurd (cc)
    earlier (suc (suc zero)) l k = let e = k.kind in absurd (cc)
    earlier (suc (suc (suc e))) l k = absurd (omega arith)

none_left : (d : ℕ) → IsDecision (without_arc untold 0 3) d → SeesRequisites (without_arc untold 0 3) d
none_left zero k = let e = k.kind in absurd (cc)
none_left (suc zero) k = let e = k.kind in absurd (cc)
none_left (suc (suc zero)) k = let e = k.kind in absurd (cc)
none_left (suc (suc (suc zero))) k = λ x a. absurd (among_of [] x a)
none_left (suc (suc (suc (suc zero)))) k = let e = k.kind in absurd (cc)
none_left (suc (suc (suc (suc (suc d))))) k = let e = k.kind in absurd (cc)

pub requisites : HasRequisites
requisites = record {
  coin_matters = coin_matters;
  alike_matters = alike_matters;
  nothing_trimmed = Done both_matter;
  coin_alone = coin_alone;
  first_to_go = first_to_go;
  trimmed = Removed first_to_go (Done none_left);
}
