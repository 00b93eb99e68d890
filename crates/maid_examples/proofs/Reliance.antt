-- Who relies on whom in the small diagrams: a walk, or a closed set of steps without a goal.
use Rattle.std.proofs.Common.{◌≡◌, ◌≢◌, ◌⊎◌, ◌↔◌, ℕ, zero, suc, ◌<◌, List, [], ◌∷◌, length, refl, sym, subst, inl, inr, arith}
use Rattle.maid_model.specs.declared.diagrams.Kind.TheVariants.{Chance, Decision, Utility}
use Rattle.maid_model.specs.Views.{NodeView}
use Rattle.maid_model.specs.Nodes.{IsDecision, Owns, node_at, states_of}
use Rattle.maid_model.specs.Graph.{Arc, Here, Along, IsGraph}
use Rattle.maid_model.specs.Relevance.{IsLive, IsInFamily, IsGoal, ReliesOn}
use Rattle.maid_model.specs.Walks.{WithArc, WithNode, IsJoined, IsCollider}
use Rattle.maid_examples.specs.Samples.{leader, follower, leader_pay, follower_pay}
use Rattle.maid_examples.specs.FollowerLeader as seen
use Rattle.maid_examples.specs.CopySeen as copy
use Rattle.maid_examples.specs.NodeBetween as between
use Rattle.maid_examples.proofs.Members.{Among, among_of}
use Rattle.maid_examples.proofs.Turning.{end_of_walk}
use Rattle.finite_sums.proofs.Members.{one_member}

pub decision : (nodes : List NodeView) (v : ℕ) → v < length nodes → (node_at nodes v).kind ≡ Decision → IsDecision nodes v
decision nodes v l k = record { within = l; kind = k }

pub live : (nodes : List NodeView) (v : ℕ) → v < length nodes → 1 < states_of nodes v → IsLive nodes v
live nodes v l k = record { within = l; states = inr k }

-- the walk from the new parent of e through e to the utility
pub relies : (nodes : List NodeView) (d e goal : ℕ) → IsGraph nodes → d ≢ e → IsDecision nodes d → IsDecision nodes e → IsLive nodes d → IsLive nodes e → IsGoal nodes d goal → Arc nodes e goal → (Arc nodes e d → ⊥) → ReliesOn nodes d e
relies nodes d e goal g n kd ke ld le is arc unseen = record {
  apart = n;
  from_decision = kd;
  on_decision = ke;
  from_live = ld;
  on_live = le;
  goal = goal;
  is_goal = is;
  walk = record {
    rest = e ∷ (goal ∷ []);
    active = (inr refl, inl (inr (refl, refl)), ((λ m. absurd (heads m.1)), (λ f. absurd (given f))), (inl le, inl (inl arc), inl (record { within = is.within; states = inl is.kind })));
    ends = refl;
  };
}
  where
    heads : WithArc (Arc nodes) (length nodes) e goal e → ⊥
    heads (inl a) = g.no_utility_parent goal e a is.kind
    heads (inr h) = let l : goal < length nodes = is.within in let s : goal ≡ length nodes = h.0 in omega arith

    given : IsInFamily (Arc nodes) d e → ⊥
    given (inl f) = n (sym f)
    given (inr a) = unseen a

-- ---- a follower who sees the leader, whatever utilities stand behind them
-- the steps of walks from a new parent of the leader: to it and back
data Turn : ℕ → ℕ → Type 0 where
  There : Turn 4 0
  Back : Turn 0 4

module _ (first second : NodeView) where
  abbrev sight : List NodeView
  sight = leader ∷ follower (0 ∷ []) ∷ first ∷ second ∷ []

  -- the leader owns the first, which has an arrow from the follower
  pub seen_on_follower : IsGraph sight → first.kind ≡ Utility → Owns sight 0 2 → Arc sight 1 2 → ReliesOn sight 0 1
  seen_on_follower graph kind owned arc =
      relies sight 0 1 2 graph (λ e. omega arith) (decision sight 0 (omega arith) refl) (decision sight 1 (omega arith) refl)
      (live sight 0 (omega arith) (omega arith)) (live sight 1 (omega arith) (omega arith))
      (record { within = omega arith; kind = kind; owner = owned; below = (1, (0, omega arith, refl), Along arc Here) })
      arc (λ a. among_of [] 1 a)

  abbrev SeenArc : ℕ → ℕ → Type 0
  SeenArc = WithArc (Arc sight) 4 0

  -- the new parent has an arc to the leader alone
  seen_from_new : IsGraph sight → (z : ℕ) → IsJoined SeenArc 4 z → Turn 4 z
  seen_from_new graph z j = subst (λ x. Turn 4 x) (sym (leader z j)) There
    where
      leader : (z : ℕ) → IsJoined SeenArc 4 z → z ≡ 0
      leader z (inl (inl a)) = let l : 4 < 4 = graph.parents_known 4 z a in absurd (omega arith)
      leader z (inl (inr h)) = h.1
      leader z (inr (inl a)) = absurd (among_of [] z a)
      leader z (inr (inr h)) = let e : ◌≡◌ {A = ℕ} 4 0 = h.1 in absurd (omega arith)

  -- the leader is given, so the walk goes on to one of its parents
  seen_closed : IsGraph sight → (x y z : ℕ) → Turn x y → IsJoined SeenArc y z → WithNode (IsLive sight) 4 z → IsCollider SeenArc x y z ↔ IsInFamily (Arc sight) 1 y → Turn y z
  seen_closed graph x y z There j l m = parent z (m.1 (inr (0, omega arith, refl))).1
    where
      parent : (z : ℕ) → SeenArc z 0 → Turn 0 z
      parent z (inl a) = absurd (among_of [] z a)
      parent z (inr h) = subst (λ x. Turn 0 x) (sym h.0) Back
  seen_closed graph x y z Back j l m = seen_from_new graph z j

  seen_no_goal : (goal u : ℕ) → Turn u goal → IsGoal sight 1 goal → ⊥
  seen_no_goal goal u There g = let k : Decision ≡ Utility = g.kind in cc
  seen_no_goal goal u Back g = let l : 4 < 4 = g.within in omega arith

  pub seen_not_on_leader : IsGraph sight → ReliesOn sight 1 0 → ⊥
  seen_not_on_leader graph r = elim (end_of_walk SeenArc (WithNode (IsLive sight) 4) (IsInFamily (Arc sight) 1) Turn (seen_closed graph) 4 r.goal (λ y j l. seen_from_new graph y j) r.walk) [
    | inl e ↦ (let l : r.goal < 4 = r.is_goal.within in omega arith)
    | inr t ↦ seen_no_goal r.goal t.0 t.1 r.is_goal
  ]

pub seen_reliance : IsGraph seen.sight → seen.HasReliance
seen_reliance graph = record {
  on_follower = seen_on_follower (leader_pay 1) (follower_pay 0 1) graph refl (0, omega arith, refl) (1, omega arith, refl);
  not_on_leader = seen_not_on_leader (leader_pay 1) (follower_pay 0 1) graph;
}

-- ---- one who sees a copy
copied_on_follower : IsGraph copy.copied → ReliesOn copy.copied 0 2
copied_on_follower graph =
    relies copy.copied 0 2 3 graph (λ e. omega arith) (decision copy.copied 0 (omega arith) refl) (decision copy.copied 2 (omega arith) refl)
    (live copy.copied 0 (omega arith) (omega arith)) (live copy.copied 2 (omega arith) (omega arith))
    (record { within = omega arith; kind = refl; owner = (0, omega arith, refl); below = (3, (0, omega arith, refl), Here) })
    (1, omega arith, refl) (λ a. among_of [] 2 a)

copied_on_leader : IsGraph copy.copied → ReliesOn copy.copied 2 0
copied_on_leader graph =
    relies copy.copied 2 0 4 graph (λ e. omega arith) (decision copy.copied 2 (omega arith) refl) (decision copy.copied 0 (omega arith) refl)
    (live copy.copied 2 (omega arith) (omega arith)) (live copy.copied 0 (omega arith) (omega arith))
    (record { within = omega arith; kind = refl; owner = (0, omega arith, refl); below = (4, (1, omega arith, refl), Here) })
    (0, omega arith, refl) (λ a. unseen (among_of (1 ∷ []) 0 a))
  where
    unseen : Among 0 (1 ∷ []) → ⊥
    unseen (inl e) = omega arith
    unseen (inr m) = m

pub copied_reliance : IsGraph copy.copied → copy.HasReliance
copied_reliance graph = record { on_follower = copied_on_follower graph; on_leader = copied_on_leader graph }

-- ---- a node between
joined_on_follower : IsGraph between.joined → ReliesOn between.joined 0 2
joined_on_follower graph =
    relies between.joined 0 2 3 graph (λ e. omega arith) (decision between.joined 0 (omega arith) refl) (decision between.joined 2 (omega arith) refl)
    (live between.joined 0 (omega arith) (omega arith)) (live between.joined 2 (omega arith) (omega arith))
    (record { within = omega arith; kind = refl; owner = (0, omega arith, refl); below = (3, (0, omega arith, refl), Here) })
    (1, omega arith, refl) (λ a. among_of [] 2 a)

parted_on_follower : IsGraph between.parted → ReliesOn between.parted 0 2
parted_on_follower graph =
    relies between.parted 0 2 3 graph (λ e. omega arith) (decision between.parted 0 (omega arith) refl) (decision between.parted 2 (omega arith) refl)
    (live between.parted 0 (omega arith) (omega arith)) (live between.parted 2 (omega arith) (omega arith))
    (record { within = omega arith; kind = refl; owner = (0, omega arith, refl); below = (3, (0, omega arith, refl), Here) })
    (1, omega arith, refl) (λ a. among_of [] 2 a)

-- through the leader and the node between, neither of which is given
joined_on_leader : IsGraph between.joined → ReliesOn between.joined 2 0
joined_on_leader graph = record {
  apart = λ e. omega arith;
  from_decision = decision between.joined 2 (omega arith) refl;
  on_decision = decision between.joined 0 (omega arith) refl;
  from_live = live between.joined 2 (omega arith) (omega arith);
  on_live = live between.joined 0 (omega arith) (omega arith);
  goal = 4;
  is_goal = record { within = omega arith; kind = refl; owner = (0, omega arith, refl); below = (4, (1, omega arith, refl), Here) };
  walk = record {
    rest = 0 ∷ (1 ∷ (4 ∷ []));
    active = (
      inr refl,
      inl (inr (refl, refl)),
      ((λ m. absurd (at_leader m.1)), (λ f. absurd (leader_given f))),
      (inl (live between.joined 0 (omega arith) (omega arith)), inl (inl (0, omega arith, refl)), ((λ m. absurd (at_between m.1)), (λ f. absurd (between_given f))), (inl (live between.joined 1 (omega arith) (omega arith)), inl (inl (0, omega arith, refl)), inl (record { within = omega arith; states = inl refl }))),
    );
    ends = refl;
  };
}
  where
    at_leader : WithArc (Arc between.joined) 5 0 1 0 → ⊥
    at_leader (inl a) = among_of [] 1 a
    at_leader (inr h) = let e : ◌≡◌ {A = ℕ} 1 5 = h.0 in omega arith

    leader_given : IsInFamily (Arc between.joined) 2 0 → ⊥
    leader_given (inl e) = omega arith
    leader_given (inr a) = among_of [] 0 a

    at_between : WithArc (Arc between.joined) 5 0 4 1 → ⊥
    at_between (inl a) = graph.no_utility_parent 4 1 a refl
    at_between (inr h) = let e : ◌≡◌ {A = ℕ} 4 5 = h.0 in omega arith

    between_given : IsInFamily (Arc between.joined) 2 1 → ⊥
    between_given (inl e) = omega arith
    between_given (inr a) = among_of [] 1 a

not_live : IsLive between.parted 1 → ⊥
not_live l = one l.states
  where
    one : (Chance ≡ Utility) ⊎ (1 < 1) → ⊥
    one (inl e) = cc
    one (inr m) = omega arith

-- the steps of walks from a new parent of the leader: to it and back, and to the leader's utility
data Part : ℕ → ℕ → Type 0 where
  PartThere : Part 5 0
  PartBack : Part 0 5
  PartAside : Part 0 3

abbrev PartedArc : ℕ → ℕ → Type 0
PartedArc = WithArc (Arc between.parted) 5 0

-- the new parent has an arc to the leader alone
parted_from_new : IsGraph between.parted → (z : ℕ) → IsJoined PartedArc 5 z → Part 5 z
parted_from_new graph z j = subst (λ x. Part 5 x) (sym (leader z j)) PartThere
  where
    leader : (z : ℕ) → IsJoined PartedArc 5 z → z ≡ 0
    leader z (inl (inl a)) = let l : 5 < 5 = graph.parents_known 5 z a in absurd (omega arith)
    leader z (inl (inr h)) = h.1
    leader z (inr (inl a)) = absurd (among_of [] z a)
    leader z (inr (inr h)) = let e : ◌≡◌ {A = ℕ} 5 0 = h.1 in absurd (omega arith)

-- the leader's arcs lead to the node between, which is not live, and to the leader's utility
below_leader : (z : ℕ) → Arc between.parted 0 z → WithNode (IsLive between.parted) 5 z → Part 0 z
below_leader zero a l = absurd (among_of [] 0 a)
below_leader (suc zero) a (inl l) = absurd (not_live l)
below_leader (suc zero) a (inr e) = absurd (omega arith)
below_leader (suc (suc zero)) a l = absurd (among_of [] 0 a)
below_leader (suc (suc (suc zero))) a l = PartAside
below_leader (suc (suc (suc (suc zero)))) a l = absurd (other (among_of (1 ∷ 2 ∷ []) 0 a))
  where
    other : Among 0 (1 ∷ 2 ∷ []) → ⊥
    other (inl e) = omega arith
    other (inr (inl e)) = omega arith
    other (inr (inr m)) = m
below_leader (suc (suc (suc (suc (suc v))))) a l = absurd (among_of [] 0 a)

parted_closed : IsGraph between.parted → (x y z : ℕ) → Part x y → IsJoined PartedArc y z → WithNode (IsLive between.parted) 5 z → IsCollider PartedArc x y z ↔ IsInFamily (Arc between.parted) 2 y → Part y z
parted_closed graph x y z PartThere j l m = from_leader z j l
  where
    from_leader : (z : ℕ) → IsJoined PartedArc 0 z → WithNode (IsLive between.parted) 5 z → Part 0 z
    from_leader z (inl (inl a)) l = below_leader z a l
    from_leader z (inl (inr h)) l = let e : ◌≡◌ {A = ℕ} 0 5 = h.0 in absurd (omega arith)
    from_leader z (inr (inl a)) l = absurd (among_of [] z a)
    from_leader z (inr (inr h)) l = subst (λ x. Part 0 x) (sym h.0) PartBack
parted_closed graph x y z PartBack j l m = parted_from_new graph z j
parted_closed graph x y z PartAside j l m = absurd (stops z j m.0)
  where
    given : IsInFamily (Arc between.parted) 2 3 → ⊥
    given (inl e) = omega arith
    given (inr a) = among_of [] 3 a

    -- a utility has no arc onwards, and isn't given
    stops : (z : ℕ) → IsJoined PartedArc 3 z → (IsCollider PartedArc 0 3 z → IsInFamily (Arc between.parted) 2 3) → ⊥
    stops z (inl (inl a)) f = graph.no_utility_parent 3 z a refl
    stops z (inl (inr h)) f = let e : ◌≡◌ {A = ℕ} 3 5 = h.0 in omega arith
    stops z (inr a) f = given (f (inl (0, omega arith, refl), a))

parted_no_goal : (goal u : ℕ) → Part u goal → IsGoal between.parted 2 goal → ⊥
parted_no_goal goal u PartThere g = let k : Decision ≡ Utility = g.kind in cc
parted_no_goal goal u PartBack g = let l : 5 < 5 = g.within in omega arith
parted_no_goal goal u PartAside g = let o : ◌≡◌ {A = ℕ} 1 0 = one_member 1 0 [] refl g.owner in omega arith

parted_not_on_leader : IsGraph between.parted → ReliesOn between.parted 2 0 → ⊥
parted_not_on_leader graph r = elim (end_of_walk PartedArc (WithNode (IsLive between.parted) 5) (IsInFamily (Arc between.parted) 2) Part (parted_closed graph) 5 r.goal (λ y j l. parted_from_new graph y j) r.walk) [
  | inl e ↦ (let l : r.goal < 5 = r.is_goal.within in omega arith)
  | inr t ↦ parted_no_goal r.goal t.0 t.1 r.is_goal
]

pub between_reliance : IsGraph between.joined → IsGraph between.parted → between.HasReliance
between_reliance joined parted = record {
  live = live between.joined 1 (omega arith) (omega arith);
  on_follower = joined_on_follower joined;
  on_leader = joined_on_leader joined;
  not_live = not_live;
  still_on_follower = parted_on_follower parted;
  not_on_leader = parted_not_on_leader parted;
}
