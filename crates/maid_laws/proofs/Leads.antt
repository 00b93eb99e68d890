-- Active walks as steps, over any arcs, and the lemma that separates tables by them.
use Rattle.std.proofs.Common.{◌≡◌, ◌⊎◌, ◌↔◌, ◌∙◌, ℕ, Bool, true, false, sym, subst, inl, inr}

-- A walk to the goal that goes on actively from a node, entered by an arrow's head (true) or by its
-- tail (false).
pub data Leads (Arc : ℕ → ℕ → Type 0) (Live Given : ℕ → Type 0) (goal : ℕ) : Bool → ℕ → Type 0 where
  ends : Leads Arc Live Given goal true goal
  head_down : {x c : ℕ} → ¬ (Given x) → Arc x c → Live c → Leads Arc Live Given goal true c → Leads Arc Live Given goal true x
  head_up : {x z : ℕ} → Given x → Arc z x → Live z → Leads Arc Live Given goal false z → Leads Arc Live Given goal true x
  tail_down : {x c : ℕ} → ¬ (Given x) → Arc x c → Live c → Leads Arc Live Given goal true c → Leads Arc Live Given goal false x
  tail_up : {x z : ℕ} → ¬ (Given x) → Arc z x → Live z → Leads Arc Live Given goal false z → Leads Arc Live Given goal false x

-- A path of live nodes leads from the node to a given node or to the goal.
pub data Reaches (Arc : ℕ → ℕ → Type 0) (Live Given : ℕ → Type 0) (goal : ℕ) : ℕ → Type 0 where
  at_given : {x : ℕ} → Given x → Reaches Arc Live Given goal x
  at_goal : Reaches Arc Live Given goal goal
  onward : {x c : ℕ} → Arc x c → Live c → Reaches Arc Live Given goal c → Reaches Arc Live Given goal x

-- the table of x looks at z
abbrev pub InScope : (ℕ → ℕ → Type 0) → ℕ → ℕ → Type 0
InScope Arc z x = (z ≡ x) ⊎ Arc z x

module _ (Arc : ℕ → ℕ → Type 0) (Live Given : ℕ → Type 0) (goal : ℕ) (decide : (x : ℕ) → Dec (Given x)) (no_child : (c : ℕ) → ¬ (Arc goal c)) where
  -- from y a walk can go down to a given node and back, or down to the goal
  bounce : {y : ℕ} → Reaches Arc Live Given goal y → (z : ℕ) → Arc z y → Live z → Live y → Leads Arc Live Given goal false z → Leads Arc Live Given goal true y
  bounce (at_given g) z a lz ly t = head_up g a lz t
  bounce at_goal z a lz ly t = ends
  bounce {y} (onward {c = k} b lc r) z a lz ly t = go (decide y) (λ n. bounce r y b ly lc (tail_up n a lz t))
    where
      go : Dec (Given y) → (¬ (Given y) → Leads Arc Live Given goal true k) → Leads Arc Live Given goal true y
      go (yes g) h = head_up g a lz t
      go (no n) h = head_down n b lc (h n)

  -- at a node that is not given a walk goes on from a tail as from a head
  turn : {x : ℕ} → Leads Arc Live Given goal true x → ¬ (Given x) → (y : ℕ) → Arc x y → Leads Arc Live Given goal false x
  turn ends n y a = absurd (no_child y a)
  turn (head_down m b l h) n y a = tail_down m b l h
  turn (head_up g b l h) n y a = absurd (n g)

  -- Two tables that look at one live node that is not given: where a walk leads on from the one, it
  -- does from the other.
  pub separated : (x y z : ℕ) → Leads Arc Live Given goal true x → Live x → Live z → ¬ (Given z) → InScope Arc z x → InScope Arc z y → Live y → Reaches Arc Live Given goal y → Leads Arc Live Given goal true y
  separated x y z h lx lz nz (inl e) (inl f) ly r = subst (Leads Arc Live Given goal true) (sym e ∙ f) h
  separated x y z h lx lz nz (inl e) (inr b) ly r = bounce r z b lz ly (subst (Leads Arc Live Given goal false) (sym e) (turn h (λ g. nz (subst Given (sym e) g)) y (subst (λ v. Arc v y) e b)))
  separated x y z h lx lz nz (inr a) (inl f) ly r = subst (Leads Arc Live Given goal true) f (head_down nz a lx h)
  separated x y z h lx lz nz (inr a) (inr b) ly r = bounce r z b lz ly (tail_down nz a lx h)

-- a node that a path from d leads to
pub data Below (Arc : ℕ → ℕ → Type 0) (d : ℕ) : ℕ → Type 0 where
  child : {y : ℕ} → Arc d y → Below Arc d y
  further : {y c : ℕ} → Below Arc d y → Arc y c → Below Arc d c

-- where no node below d is given, a walk leads on from each node below d from which a path reaches
module _ (Arc : ℕ → ℕ → Type 0) (Live Given : ℕ → Type 0) (goal d : ℕ) (none_given : (x : ℕ) → Below Arc d x → ¬ (Given x)) where
  -- by induction over the path: downwards past nodes that are not given
  pub below_leads : {y : ℕ} → Reaches Arc Live Given goal y → Below Arc d y → Leads Arc Live Given goal true y
  below_leads {y} (at_given g) b = absurd (none_given y b g)
  below_leads at_goal b = ends
  below_leads {y} (onward a lc r) b = head_down (none_given y b) a lc (below_leads r (further b a))

-- steps in a graph are steps in one with more arcs and live nodes, and the same given nodes
pub more_arcs : (Arc More : ℕ → ℕ → Type 0) (Live Lives Given Fixed : ℕ → Type 0) (goal : ℕ) → ((x y : ℕ) → Arc x y → More x y) → ((x : ℕ) → Live x → Lives x) → ((x : ℕ) → Given x ↔ Fixed x)
    → {head : Bool} {x : ℕ} → Leads Arc Live Given goal head x → Leads More Lives Fixed goal head x
more_arcs Arc More Live Lives Given Fixed goal f g s ends = ends
more_arcs Arc More Live Lives Given Fixed goal f g s (head_down {x = x} n a l h) = head_down (λ k. n ((s x).1 k)) (f _ _ a) (g _ l) (more_arcs Arc More Live Lives Given Fixed goal f g s h)
more_arcs Arc More Live Lives Given Fixed goal f g s (head_up {x = x} n a l h) = head_up ((s x).0 n) (f _ _ a) (g _ l) (more_arcs Arc More Live Lives Given Fixed goal f g s h)
more_arcs Arc More Live Lives Given Fixed goal f g s (tail_down {x = x} n a l h) = tail_down (λ k. n ((s x).1 k)) (f _ _ a) (g _ l) (more_arcs Arc More Live Lives Given Fixed goal f g s h)
more_arcs Arc More Live Lives Given Fixed goal f g s (tail_up {x = x} n a l h) = tail_up (λ k. n ((s x).1 k)) (f _ _ a) (g _ l) (more_arcs Arc More Live Lives Given Fixed goal f g s h)
