-- Whether a decision relies on another can be told: walks are chains of steps between finitely many
-- places, and chains are told by which places they may pass.
use Rattle.std.proofs.Common.{◌≡◌, ◌≢◌, ◌⊎◌, ℕ, zero, suc, ◌<◌, Bool, true, false, List, [], ◌∷◌, length, refl, sym, ap, subst, inl, inr, arith}
use Rattle.std.proofs.Math.Decide.{ℕ_discrete, dec_lt}
use Rattle.maid_model.specs.declared.diagrams.Kind.{Kind}
use Rattle.maid_model.specs.declared.diagrams.Kind.TheVariants.{Chance, Decision, Utility}
use Rattle.maid_model.specs.Graph.{Arc, Descends, IsGraph, descends}
use Rattle.maid_model.specs.Nodes.{IsDecision, node_at, states_of, owns, Owns, agent_of, owners_of}
use Rattle.maid_model.specs.Relevance.{IsLive, IsInFamily, IsGoal, ReliesOn}
use Rattle.maid_model.specs.Views.{NodeView}
use Rattle.finite_sums.proofs.Members.{any_is}
use Rattle.maid_model.proofs.Descent.{path_from_test, test_from_path}
use Rattle.maid_laws.proofs.Booleans.{not_both}
use Rattle.maid_laws.proofs.Leads.{Leads, ends, head_down, head_up, tail_down, tail_up}
use Rattle.maid_laws.proofs.Notions.{IsParent}
use Rattle.maid_laws.proofs.Ordered.{setup_of}
use Rattle.maid_laws.proofs.Orders.{ordered, parent_dec}
use Rattle.maid_laws.proofs.Relies.{relies_of, steps_of_relies}
use Rattle.maid_laws.proofs.Tied.{dec_decision}

-- ---- telling facts of parts
both : {A B : Type 0} → Dec A → Dec B → Dec (A × B)
both (yes a) (yes b) = yes (a, b)
both (yes a) (no n) = no (λ h. n h.1)
both (no n) e = no (λ h. n h.0)

either : {A B : Type 0} → Dec A → Dec B → Dec (A ⊎ B)
either (yes a) e = yes (inl a)
either (no n) (yes b) = yes (inr b)
either {A} {B} (no n) (no m) = no none
  where
    none : A ⊎ B → ⊥
    none (inl a) = n a
    none (inr b) = m b

not : {A : Type 0} → Dec A → Dec (¬ A)
not (yes a) = no (λ n. n a)
not (no n) = yes n

along : {A B : Type 0} → (A → B) → (B → A) → Dec A → Dec B
along f g (yes a) = yes (f a)
along f g (no n) = no (λ b. n (g b))

-- a number below n with the property
some_below : (P : ℕ → Type 0) → ((v : ℕ) → Dec (P v)) → (n : ℕ) → Dec ((v : ℕ) × (v < n) × P v)
some_below P d zero = no (λ h. none h.0 h.1)
  where
    none : (v : ℕ) → v < 0 → ⊥
    none v l = omega arith
some_below P d (suc n) = go (d n) (some_below P d n)
  where
    more : (v n : ℕ) → v < n → v < suc n
    more v n l = omega arith

    last : (n : ℕ) → n < suc n
    last n = omega arith

    less : (v n : ℕ) → v < suc n → v ≢ n → v < n
    less v n l m = omega arith

    go : Dec (P n) → Dec ((v : ℕ) × (v < n) × P v) → Dec ((v : ℕ) × (v < suc n) × P v)
    go (yes p) e = yes (n, last n, p)
    go (no m) (yes h) = yes (h.0, more h.0 n h.1, h.2)
    go (no m) (no k) = no (λ h. k (h.0, less h.0 n h.1 (λ e. m (subst P e h.2)), h.2))

-- ---- chains
module _ (S : Type 0) (Step : S → S → Type 0) (told : (x y : S) → Dec (Step x y)) where
  -- a chain of one or more steps leads from x to y, and passes places of the list alone
  Through : List S → S → S → Type 0
  Through [] x y = Step x y
  Through (k ∷ ks) x y = Through ks x y ⊎ (Through ks x k × Through ks k y)

  through_told : (ks : List S) (x y : S) → Dec (Through ks x y)
  unfolding Through
  through_told [] x y = told x y
  through_told (k ∷ ks) x y = either (through_told ks x y) (both (through_told ks x k) (through_told ks k y))

  -- a place of the list
  Has : List S → S → Type 0
  Has [] z = ⊥
  Has (k ∷ ks) z = (z ≡ k) ⊎ Has ks z

  one_step : (ks : List S) (x y : S) → Step x y → Through ks x y
  unfolding Through
  one_step [] x y s = s
  one_step (k ∷ ks) x y s = inl (one_step ks x y s)

  -- to the place k, and from it, without passing it
  to_first : (k : S) (ks : List S) (x : S) → Through (k ∷ ks) x k → Through ks x k
  unfolding Through
  to_first k ks x (inl t) = t
  to_first k ks x (inr t) = t.0

  from_first : (k : S) (ks : List S) (y : S) → Through (k ∷ ks) k y → Through ks k y
  unfolding Through
  from_first k ks y (inl t) = t
  from_first k ks y (inr t) = t.1

  -- two chains that meet at a place of the list are one
  joined : (ks : List S) (z : S) → Has ks z → (x y : S) → Through ks x z → Through ks z y → Through ks x y
  unfolding Through Has
  joined [] z m x y a b = absurd m
  joined (k ∷ ks) z (inl e) x y a b = inr (to_first k ks x (subst (λ u. Through (k ∷ ks) x u) e a), from_first k ks y (subst (λ u. Through (k ∷ ks) u y) e b))
  joined (k ∷ ks) z (inr m) x y (inl a) (inl b) = inl (joined ks z m x y a b)
  joined (k ∷ ks) z (inr m) x y (inl a) (inr b) = inr (joined ks z m x k a b.0, b.1)
  joined (k ∷ ks) z (inr m) x y (inr a) (inl b) = inr (a.0, joined ks z m k y a.1 b)
  joined (k ∷ ks) z (inr m) x y (inr a) (inr b) = inr (a.0, b.1)

  -- what each step hands back a chain does
  handed : (P : S → Type 0) → ((x y : S) → Step x y → P y → P x) → (ks : List S) (x y : S) → Through ks x y → P y → P x
  unfolding Through
  handed P h [] x y t = h x y t
  handed P h (k ∷ ks) x y (inl t) = handed P h ks x y t
  handed P h (k ∷ ks) x y (inr t) = λ p. handed P h ks x k t.0 (handed P h ks k y t.1 p)

-- ---- walks
-- all places of a walk among n nodes: a node, entered by an arrow's head or by its tail
places : ℕ → List (Bool × ℕ)
places zero = []
places (suc n) = (true, n) ∷ ((false, n) ∷ places n)

module _ (Arc : ℕ → ℕ → Type 0) (Live Given : ℕ → Type 0) (arc : (x y : ℕ) → Dec (Arc x y)) (live : (x : ℕ) → Dec (Live x)) (given : (x : ℕ) → Dec (Given x)) (n : ℕ) (inside : (x : ℕ) → Live x → x < n) (goal : ℕ) where
  -- a walk's next place
  abbrev Onward : Bool × ℕ → Bool × ℕ → Type 0
  Onward (true, x) (true, y) = ¬ (Given x) × Arc x y × Live y
  Onward (true, x) (false, y) = Given x × Arc y x × Live y
  Onward (false, x) (true, y) = ¬ (Given x) × Arc x y × Live y
  Onward (false, x) (false, y) = ¬ (Given x) × Arc y x × Live y

  three : {A B C : Type 0} → Dec A → Dec B → Dec C → Dec (A × B × C)
  three a b c = along (λ h. (h.0, h.1.0, h.1.1)) (λ h. (h.0, (h.1, h.2))) (both a (both b c))

  onward_told : (s t : Bool × ℕ) → Dec (Onward s t)
  onward_told (true, x) (true, y) = three (not (given x)) (arc x y) (live y)
  onward_told (true, x) (false, y) = three (given x) (arc y x) (live y)
  onward_told (false, x) (true, y) = three (not (given x)) (arc x y) (live y)
  onward_told (false, x) (false, y) = three (not (given x)) (arc y x) (live y)

  abbrev Chain : Bool × ℕ → Bool × ℕ → Type 0
  Chain s t = Through (Bool × ℕ) Onward onward_told (places n) s t

  there : (b : Bool) (y m : ℕ) → y < m → Has (Bool × ℕ) Onward onward_told (places m) (b, y)
  unfolding Has places
  there b y zero l = absurd (omega arith)
  there b y (suc m) l = go b (ℕ_discrete y m) (there b y m)
    where
      less : (y m : ℕ) → y < suc m → y ≢ m → y < m
      less y m l n = omega arith

      go : (b : Bool) → Dec (y ≡ m) → (y < m → Has (Bool × ℕ) Onward onward_told (places m) (b, y)) → (◌≡◌ {A = Bool × ℕ} (b, y) (true, m)) ⊎ ((◌≡◌ {A = Bool × ℕ} (b, y) (false, m)) ⊎ Has (Bool × ℕ) Onward onward_told (places m) (b, y))
      go true (yes e) h = inl (λ i. (true, e i))
      go false (yes e) h = inr (inl (λ i. (false, e i)))
      go b (no k) h = inr (inr (h (less y m l k)))

  -- a place that is the end, or from which a chain leads there
  abbrev Arrives : Bool × ℕ → Type 0
  Arrives s = (s ≡ (true, goal)) ⊎ Chain s (true, goal)

  before : (s : Bool × ℕ) (b : Bool) (y : ℕ) → Live y → Onward s (b, y) → Arrives (b, y) → Arrives s
  before s b y l o (inl e) = inr (one_step (Bool × ℕ) Onward onward_told (places n) s (true, goal) (subst (Onward s) e o))
  before s b y l o (inr c) = inr (joined (Bool × ℕ) Onward onward_told (places n) (b, y) (there b y n (inside y l)) s (true, goal) (one_step (Bool × ℕ) Onward onward_told (places n) s (b, y) o) c)

  ends_of : {b : Bool} {x : ℕ} → Leads Arc Live Given goal b x → Arrives (b, x)
  ends_of ends = inl refl
  ends_of (head_down {x = x} {c = y} g a l h) = before (true, x) true y l (g, a, l) (ends_of h)
  ends_of (head_up {x = x} {z = y} g a l h) = before (true, x) false y l (g, a, l) (ends_of h)
  ends_of (tail_down {x = x} {c = y} g a l h) = before (false, x) true y l (g, a, l) (ends_of h)
  ends_of (tail_up {x = x} {z = y} g a l h) = before (false, x) false y l (g, a, l) (ends_of h)

  abbrev LeadsFrom : Bool × ℕ → Type 0
  LeadsFrom s = Leads Arc Live Given goal s.0 s.1

  back : (s t : Bool × ℕ) → Onward s t → LeadsFrom t → LeadsFrom s
  back (true, x) (true, y) o h = head_down o.0 o.1 o.2 h
  back (true, x) (false, y) o h = head_up o.0 o.1 o.2 h
  back (false, x) (true, y) o h = tail_down o.0 o.1 o.2 h
  back (false, x) (false, y) o h = tail_up o.0 o.1 o.2 h

  leads_of : (x : ℕ) → Arrives (true, x) → Leads Arc Live Given goal true x
  leads_of x (inl e) = subst LeadsFrom (sym e) ends
  leads_of x (inr c) = handed (Bool × ℕ) Onward onward_told LeadsFrom back (places n) (true, x) (true, goal) c ends

  pub leads_told : (x : ℕ) → Dec (Leads Arc Live Given goal true x)
  leads_told x = along (leads_of x) ends_of (either (along (λ e i. (true, e i)) (λ e. ap (λ s. s.1) e) (ℕ_discrete x goal)) (through_told (Bool × ℕ) Onward onward_told (places n) (true, x) (true, goal)))

-- ---- reliance
utility_told : (nodes : List NodeView) (v : ℕ) → Dec ((node_at nodes v).kind ≡ Utility)
utility_told nodes v = go (node_at nodes v).kind
  where
    go : (k : Kind) → Dec (k ≡ Utility)
    go Chance = no (λ e. cc)
    go Decision = no (λ e. cc)
    go Utility = yes refl

live_told : (nodes : List NodeView) (v : ℕ) → Dec (IsLive nodes v)
live_told nodes v = along (λ h. record { within = h.0; states = h.1 }) (λ h. (h.within, h.states)) (both (dec_lt v (length nodes)) (either (utility_told nodes v) (dec_lt 1 (states_of nodes v))))

module _ (nodes : List NodeView) (g : IsGraph nodes) where
  below_told : (d u : ℕ) → Dec (Descends (Arc nodes) d u)
  below_told d u = go (descends nodes d u) refl
    where
      go : (b : Bool) → descends nodes d u ≡ b → Dec (Descends (Arc nodes) d u)
      go true e = yes (path_from_test nodes d u e)
      go false e = no (λ h. not_both (descends nodes d u) (test_from_path nodes d u h) e)

  owner_told : (agent u : ℕ) → Dec (Owns nodes agent u)
  owner_told agent u = go (owns nodes agent u) refl
    where
      go : (b : Bool) → owns nodes agent u ≡ b → Dec (Owns nodes agent u)
      go true e = yes ((any_is agent (owners_of nodes u)).0 e)
      go false e = no (λ o. not_both (owns nodes agent u) ((any_is agent (owners_of nodes u)).1 o) e)

  goal_told : (d u : ℕ) → Dec (IsGoal nodes d u)
  goal_told d u =
      along (λ h. record { within = h.0.0; kind = h.0.1; owner = h.1.0; below = h.1.1 }) (λ h. ((h.within, h.kind), (h.owner, h.below)))
      (both (both (dec_lt u (length nodes)) (utility_told nodes u)) (both (owner_told (agent_of nodes d) u) (below_told d u)))

  family_told : (d x : ℕ) → Dec (IsInFamily (IsParent nodes) d x)
  family_told d x = either (ℕ_discrete x d) (parent_dec nodes x d)

  -- a goal to which steps lead from e
  LedTo : ℕ → ℕ → ℕ → Type 0
  LedTo d e u = IsGoal nodes d u × Leads (IsParent nodes) (IsLive nodes) (IsInFamily (IsParent nodes) d) u true e

  led_told : (d e u : ℕ) → Dec (LedTo d e u)
  unfolding LedTo
  led_told d e u = both (goal_told d u) (leads_told (IsParent nodes) (IsLive nodes) (IsInFamily (IsParent nodes) d) (parent_dec nodes) (live_told nodes) (family_told d) (length nodes) (λ x l. l.within) u e)

  -- the goal is one of the nodes
  pub relies_told : (d e : ℕ) → Dec (ReliesOn nodes d e)
  unfolding LedTo
  relies_told d e =
      along there back
      (both (both (not (ℕ_discrete d e)) (both (dec_decision nodes d) (dec_decision nodes e))) (both (both (live_told nodes d) (live_told nodes e)) (some_below (LedTo d e) (led_told d e) (length nodes))))
    where
      there : ((d ≢ e) × (IsDecision nodes d × IsDecision nodes e)) × ((IsLive nodes d × IsLive nodes e) × ((u : ℕ) × (u < length nodes) × LedTo d e u)) → ReliesOn nodes d e
      there h = relies_of nodes (ordered nodes g).order (setup_of nodes (ordered nodes g)) d h.1.1.0 e h.0.1.0 h.1.0.0 h.1.1.2.0 (λ f. h.0.0 (sym f)) h.0.1.1 h.1.0.1 h.1.1.2.1

      back : ReliesOn nodes d e → ((d ≢ e) × (IsDecision nodes d × IsDecision nodes e)) × ((IsLive nodes d × IsLive nodes e) × ((u : ℕ) × (u < length nodes) × LedTo d e u))
      back r = ((r.apart, (r.from_decision, r.on_decision)), ((r.from_live, r.on_live), (r.goal, r.is_goal.within, (r.is_goal, steps_of_relies nodes (ordered nodes g).order (setup_of nodes (ordered nodes g)) d e r))))
