-- The marks of the three rules are the active walks. Walks are listed here from the node where they
-- arrive.
use Rattle.std.proofs.Common.{◌≡◌, ℕ, List, [], ◌∷◌, ◌⊎◌, ◌↔◌, inl, inr, refl, subst, sym, ◌∙◌}
use Rattle.maid_model.specs.Walks.{IsJoined, IsCollider, IsActive, last_of, IsReached, WithArc, WithNode, IsReachedFromParent}
use Rattle.bayes_ball.specs.Flow.{Way, Up, Down, Flows, Begin, Forward, Back, Bounce, IsClosed, IsLiveArc}
use Rattle.bayes_ball.proofs.Turning.{first_live, reached_turn}

-- what spreads is in every closed set of marks that has the start
pub flows_marked : {Arc : ℕ → ℕ → Type 0} {Given : ℕ → Type 0} {Start Mark : Way → ℕ → Type 0} {w : Way} {v : ℕ} →
    IsClosed Arc Given Mark → ((w : Way) (v : ℕ) → Start w v → Mark w v) → Flows Arc Given Start w v → Mark w v
flows_marked c s (Begin h) = s _ _ h
flows_marked c s (Forward {w} a n f) = c.forward w _ _ a n (flows_marked c s f)
flows_marked c s (Back a n f) = c.back _ _ a n (flows_marked c s f)
flows_marked c s (Bounce a g f) = c.bounce _ _ a g (flows_marked c s f)

-- how the last step comes to b, whose walk is listed behind it
abbrev pub Comes : (ℕ → ℕ → Type 0) → Way → ℕ → List ℕ → Type 0
Comes Arc Up b [] = Unit {0}
Comes Arc Down b [] = ⊥
Comes Arc Up b (y ∷ rest) = Arc b y
Comes Arc Down b (y ∷ rest) = Arc y b

-- a walk from a node of the set that arrives at b in this way
abbrev pub HasWalk : (ℕ → ℕ → Type 0) → (ℕ → Type 0) → (ℕ → Type 0) → (ℕ → Type 0) → Way → ℕ → Type 0
HasWalk Arc Live Given Start w b =
    (rest : List ℕ) × IsActive Arc Live Given (b ∷ rest) × Start (last_of b rest) × Comes Arc w b rest

-- the marks with which a search from nodes of the set begins
abbrev pub FromNodes : (ℕ → Type 0) → Way → ℕ → Type 0
FromNodes Start w v = (w ≡ Up) × Start v

module _ (Arc : ℕ → ℕ → Type 0) (Live Given : ℕ → Type 0) (one_way : (a b : ℕ) → Arc a b → Arc b a → ⊥) where
  active_down : (p v : ℕ) (rest : List ℕ) → Arc p v → Live v → (Given p → ⊥) → IsActive Arc Live Given (p ∷ rest) → IsActive Arc Live Given (v ∷ (p ∷ rest))
  active_down p v [] a l n h = (l, inr a, h)
  active_down p v (z ∷ rest) a l n h = (l, inr a, ((λ m. absurd (one_way p v a m.0)), (λ g. absurd (n g))), h)

  active_up : (p v : ℕ) (rest : List ℕ) → Arc p v → Live p → (Given v → ⊥) → Comes Arc Up v rest → IsActive Arc Live Given (v ∷ rest) → IsActive Arc Live Given (p ∷ (v ∷ rest))
  active_up p v [] a l n c h = (l, inl a, h)
  active_up p v (z ∷ rest) a l n c h = (l, inl a, ((λ m. absurd (one_way v z c m.1)), (λ g. absurd (n g))), h)

  active_bounce : (p v : ℕ) (rest : List ℕ) → Arc p v → Live p → Given v → Comes Arc Down v rest → IsActive Arc Live Given (v ∷ rest) → IsActive Arc Live Given (p ∷ (v ∷ rest))
  active_bounce p v [] a l g c h = absurd c
  active_bounce p v (z ∷ rest) a l g c h = (l, inl a, ((λ _. g), (λ _. (a, c))), h)

  pub walks_closed : (Start : ℕ → Type 0) → IsClosed (IsLiveArc Arc Live) Given (HasWalk Arc Live Given Start)
  walks_closed Start = record {
    forward = λ w p v arc n h. (p ∷ h.0, active_down p v h.0 arc.0 arc.2 n h.1, h.2, arc.0);
    back = λ p v arc n h. (v ∷ h.0, active_up p v h.0 arc.0 arc.1 n h.3 h.1, h.2, arc.0);
    bounce = λ p v arc g h. (v ∷ h.0, active_bounce p v h.0 arc.0 arc.1 g h.3 h.1, h.2, arc.0);
  }

  -- how closed marks hold at the end of a walk
  abbrev MarkedBy : (Way → ℕ → Type 0) → ℕ → List ℕ → Type 0
  MarkedBy Mark b [] = Mark Up b
  MarkedBy Mark b (y ∷ rest) = (Arc b y × Mark Up b) ⊎ (Arc y b × Mark Down b)

  -- the step to b from y, where the walk came to y from z
  walk_step : (Mark : Way → ℕ → Type 0) → IsClosed (IsLiveArc Arc Live) Given Mark → (b y z : ℕ) → Live b → Live y →
      IsJoined Arc b y → (IsCollider Arc b y z ↔ Given y) → (Arc y z × Mark Up y) ⊎ (Arc z y × Mark Down y) →
      (Arc b y × Mark Up b) ⊎ (Arc y b × Mark Down b)
  walk_step Mark c b y z lb ly (inl up) m (inl h) = inl (up, c.back b y (up, lb, ly) (λ g. one_way y z h.0 (m.1 g).1) h.1)
  walk_step Mark c b y z lb ly (inl up) m (inr h) = inl (up, c.bounce b y (up, lb, ly) (m.0 (up, h.0)) h.1)
  walk_step Mark c b y z lb ly (inr dn) m (inl h) = inr (dn, c.forward Up y b (dn, ly, lb) (λ g. one_way y b dn (m.1 g).0) h.1)
  walk_step Mark c b y z lb ly (inr dn) m (inr h) = inr (dn, c.forward Down y b (dn, ly, lb) (λ g. one_way y b dn (m.1 g).0) h.1)

  walk_marked : (Mark : Way → ℕ → Type 0) → IsClosed (IsLiveArc Arc Live) Given Mark →
      (b : ℕ) (rest : List ℕ) → IsActive Arc Live Given (b ∷ rest) → (Given (last_of b rest) → ⊥) → Mark Up (last_of b rest) → MarkedBy Mark b rest
  walk_marked Mark c b [] h n s = s
  walk_marked Mark c b (y ∷ []) h n s = elim h.1 as (λ _. (Arc b y × Mark Up b) ⊎ (Arc y b × Mark Down b)) [
    | inl up ↦ inl (up, c.back b y (up, h.0, h.2) n s)
    | inr dn ↦ inr (dn, c.forward Up y b (dn, h.2, h.0) n s)
  ]
  walk_marked Mark c b (y ∷ (z ∷ rest)) h n s =
      walk_step Mark c b y z h.0 (first_live Arc Live Given y (z ∷ rest) h.3) h.1 h.2 (walk_marked Mark c y (z ∷ rest) h.3 n s)

  -- a node at the end of an active walk has a mark
  pub reached_marked : (Mark : Way → ℕ → Type 0) → IsClosed (IsLiveArc Arc Live) Given Mark → (b a : ℕ) → (Given a → ⊥) → Mark Up a →
      IsReached Arc Live Given b a → Mark Up b ⊎ Mark Down b
  reached_marked Mark c b a n s h = either_mark b h.rest (walk_marked Mark c b h.rest h.active (subst (λ x. Given x → ⊥) (sym h.ends) n) (subst (λ x. Mark Up x) (sym h.ends) s))
    where
      either_mark : (b : ℕ) (rest : List ℕ) → MarkedBy Mark b rest → Mark Up b ⊎ Mark Down b
      either_mark b [] m = inl m
      either_mark b (y ∷ rest) (inl m) = inl m.1
      either_mark b (y ∷ rest) (inr m) = inr m.1

  pub walk_reached : (Start : ℕ → Type 0) (w : Way) (b : ℕ) → HasWalk Arc Live Given Start w b → (a : ℕ) × Start a × IsReached Arc Live Given b a
  walk_reached Start w b h = (last_of b h.0, h.2, record { rest = h.0; active = h.1; ends = refl })

  -- from nodes: a walk for each mark
  pub flows_walk : (Start : ℕ → Type 0) → ((a : ℕ) → Start a → Live a) → (w : Way) (b : ℕ) → Flows (IsLiveArc Arc Live) Given (FromNodes Start) w b → HasWalk Arc Live Given Start w b
  flows_walk Start live w b f = flows_marked (walks_closed Start) (λ w v s. subst (λ x. HasWalk Arc Live Given Start x v) (sym s.0) ([], live v s.1, s.1, tt)) f

-- the graph with an extra parent `new` of v
module _ (Arc : ℕ → ℕ → Type 0) (Live Given : ℕ → Type 0) (one_way : (a b : ℕ) → Arc a b → Arc b a → ⊥)
    (new v : ℕ) (no_child : (b : ℕ) → Arc new b → ⊥) (no_parent : (a : ℕ) → Arc a new → ⊥) (apart : v ≡ new → ⊥) (not_given : Given new → ⊥) where
  abbrev More : ℕ → ℕ → Type 0
  More = WithArc Arc new v

  abbrev Lives : ℕ → Type 0
  Lives = WithNode Live new

  one_way_more : (a b : ℕ) → More a b → More b a → ⊥
  one_way_more a b (inl h) (inl k) = one_way a b h k
  one_way_more a b (inl h) (inr k) = no_parent a (subst (λ x. Arc a x) k.0 h)
  one_way_more a b (inr h) (inl k) = no_parent b (subst (λ x. Arc b x) h.0 k)
  one_way_more a b (inr h) (inr k) = apart (sym k.1 ∙ h.0)

  -- walks in the greater graph are closed under the rules of the smaller one
  walks_closed_below : (Start : ℕ → Type 0) → IsClosed (IsLiveArc Arc Live) Given (HasWalk More Lives Given Start)
  walks_closed_below Start =
      let all = walks_closed More Lives Given one_way_more Start in
      record {
        forward = λ w p q a n m. all.forward w p q (inl a.0, inl a.1, inl a.2) n m;
        back = λ p q a n m. all.back p q (inl a.0, inl a.1, inl a.2) n m;
        bounce = λ p q a g m. all.bounce p q (inl a.0, inl a.1, inl a.2) g m;
      }

  -- a mark of a search from the extra parent has a walk
  pub flows_reached_from_parent : Live v → (w : Way) (b : ℕ) → Flows (IsLiveArc Arc Live) Given (λ w x. (w ≡ Down) × (x ≡ v)) w b → IsReachedFromParent Arc Live Given new v b
  flows_reached_from_parent live w b f =
      let h = flows_marked (walks_closed_below (λ x. x ≡ new))
      (λ w x s. subst (λ y. HasWalk More Lives Given (λ x. x ≡ new) y x) (sym s.0) (subst (λ y. HasWalk More Lives Given (λ x. x ≡ new) Down y) (sym s.1)
      (new ∷ [], (inl live, inr (inr (refl, refl)), inr refl), refl, inr (refl, refl)))) f in
      reached_turn More Lives Given b new (record { rest = h.0; active = h.1; ends = h.2 })

  old_live : (p q : ℕ) → Arc p q → Lives p → Lives q → Live p × Live q
  old_live p q a (inl x) (inl y) = (x, y)
  old_live p q a (inr x) y = absurd (no_child q (subst (λ z. Arc z q) x a))
  old_live p q a (inl x) (inr y) = absurd (no_parent p (subst (λ z. Arc p z) y a))

  module _ (Mark : Way → ℕ → Type 0) (c : IsClosed (IsLiveArc Arc Live) Given Mark) where
    -- the marks, and the new node
    abbrev MarkOr : Way → ℕ → Type 0
    MarkOr w x = Mark w x ⊎ (x ≡ new)

    or_forward : Mark Down v → (w : Way) (p q : ℕ) → IsLiveArc More Lives p q → (Given p → ⊥) → MarkOr w p → MarkOr Down q
    or_forward s w p q (inl a, lp, lq) n (inl m) = let l = old_live p q a lp lq in inl (c.forward w p q (a, l.0, l.1) n m)
    or_forward s w p q (inl a, lp, lq) n (inr e) = absurd (no_child q (subst (λ z. Arc z q) e a))
    or_forward s w p q (inr h, lp, lq) n m = inl (subst (λ x. Mark Down x) (sym h.1) s)

    or_back : (p q : ℕ) → IsLiveArc More Lives p q → (Given q → ⊥) → MarkOr Up q → MarkOr Up p
    or_back p q (inl a, lp, lq) n (inl m) = let l = old_live p q a lp lq in inl (c.back p q (a, l.0, l.1) n m)
    or_back p q (inl a, lp, lq) n (inr e) = absurd (no_parent p (subst (λ z. Arc p z) e a))
    or_back p q (inr h, lp, lq) n m = inr h.0

    or_bounce : (p q : ℕ) → IsLiveArc More Lives p q → Given q → MarkOr Down q → MarkOr Up p
    or_bounce p q (inl a, lp, lq) g (inl m) = let l = old_live p q a lp lq in inl (c.bounce p q (a, l.0, l.1) g m)
    or_bounce p q (inl a, lp, lq) g (inr e) = absurd (no_parent p (subst (λ z. Arc p z) e a))
    or_bounce p q (inr h, lp, lq) g m = inr h.0

    -- a node to which an active walk leads from the extra parent has a mark
    pub reached_marked_from_parent : Mark Down v → (b : ℕ) → (b ≡ new → ⊥) → IsReachedFromParent Arc Live Given new v b → Mark Up b ⊎ Mark Down b
    reached_marked_from_parent s b ne h =
        strip (reached_marked More Lives Given one_way_more MarkOr (record { forward = or_forward s; back = or_back; bounce = or_bounce }) b new not_given (inr refl) (reached_turn More Lives Given new b h))
      where
        strip : MarkOr Up b ⊎ MarkOr Down b → Mark Up b ⊎ Mark Down b
        strip (inl (inl m)) = inl m
        strip (inr (inl m)) = inr m
        strip (inl (inr e)) = absurd (ne e)
        strip (inr (inr e)) = absurd (ne e)

    -- walks go on up from v
    abbrev GoesUp : Type 0
    GoesUp = (Given v × Mark Down v) ⊎ ((Given v → ⊥) × Mark Up v)

    -- the marks, the new node reached from v, and v reached back from the new node
    abbrev MarkTo : Way → ℕ → Type 0
    MarkTo w x = Mark w x ⊎ (((x ≡ new) × (w ≡ Up) × GoesUp) ⊎ ((x ≡ v) × (w ≡ Down) × GoesUp))

    module _ (unmarked_new : (w : Way) → Mark w new → ⊥) where
      to_forward : (w : Way) (p q : ℕ) → IsLiveArc More Lives p q → (Given p → ⊥) → MarkTo w p → MarkTo Down q
      to_forward w p q (inl a, lp, lq) n (inl m) = let l = old_live p q a lp lq in inl (c.forward w p q (a, l.0, l.1) n m)
      to_forward w p q (inl a, lp, lq) n (inr (inl h)) = absurd (no_child q (subst (λ z. Arc z q) h.0 a))
      to_forward w p q (inl a, lp, lq) n (inr (inr (e, d, inl k))) = absurd (n (subst Given (sym e) k.0))
      to_forward w p q (inl a, lp, lq) n (inr (inr (e, d, inr k))) =
          let l = old_live p q a lp lq in inl (c.forward Up p q (a, l.0, l.1) n (subst (λ x. Mark Up x) (sym e) k.1))
      to_forward w p q (inr h, lp, lq) n (inl m) = absurd (unmarked_new w (subst (λ x. Mark w x) h.0 m))
      to_forward w p q (inr h, lp, lq) n (inr (inl k)) = inr (inr (h.1, refl, k.2))
      to_forward w p q (inr h, lp, lq) n (inr (inr k)) = absurd (apart (sym k.0 ∙ h.0))

      to_back : (p q : ℕ) → IsLiveArc More Lives p q → (Given q → ⊥) → MarkTo Up q → MarkTo Up p
      to_back p q (inl a, lp, lq) n (inl m) = let l = old_live p q a lp lq in inl (c.back p q (a, l.0, l.1) n m)
      to_back p q (inl a, lp, lq) n (inr (inl h)) = absurd (no_parent p (subst (λ z. Arc p z) h.0 a))
      to_back p q (inr h, lp, lq) n (inl m) = inr (inl (h.0, refl, inr ((λ g. n (subst Given (sym h.1) g)), subst (λ x. Mark Up x) h.1 m)))
      to_back p q (inr h, lp, lq) n (inr (inl k)) = absurd (apart (sym h.1 ∙ k.0))
      to_back p q arc n (inr (inr (e, d, k))) = cc

      to_bounce : (p q : ℕ) → IsLiveArc More Lives p q → Given q → MarkTo Down q → MarkTo Up p
      to_bounce p q (inl a, lp, lq) g (inl m) = let l = old_live p q a lp lq in inl (c.bounce p q (a, l.0, l.1) g m)
      to_bounce p q (inl a, lp, lq) g (inr (inr (e, d, inl k))) = let l = old_live p q a lp lq in inl (c.bounce p q (a, l.0, l.1) g (subst (λ x. Mark Down x) (sym e) k.1))
      to_bounce p q (inl a, lp, lq) g (inr (inr (e, d, inr k))) = absurd (k.0 (subst Given e g))
      to_bounce p q (inr h, lp, lq) g (inl m) = inr (inl (h.0, refl, inl (subst Given h.1 g, subst (λ x. Mark Down x) h.1 m)))
      to_bounce p q (inr h, lp, lq) g (inr (inr k)) = inr (inl (h.0, refl, k.2))
      to_bounce p q arc g (inr (inl (e, u, k))) = cc

      -- where an active walk leads from the extra parent to a start, walks go on up from v
      pub reached_goes_up : (a : ℕ) → (Given a → ⊥) → Mark Up a → IsReachedFromParent Arc Live Given new v a → GoesUp
      reached_goes_up a n s h =
          strip (reached_marked More Lives Given one_way_more MarkTo (record { forward = to_forward; back = to_back; bounce = to_bounce }) new a n (inl s) h)
        where
          strip : MarkTo Up new ⊎ MarkTo Down new → GoesUp
          strip (inl (inl m)) = absurd (unmarked_new Up m)
          strip (inl (inr (inl h))) = h.2
          strip (inl (inr (inr (e, d, k)))) = cc
          strip (inr (inl m)) = absurd (unmarked_new Down m)
          strip (inr (inr (inl (e, u, k)))) = cc
          strip (inr (inr (inr h))) = absurd (apart (sym h.0))

  -- where walks from the set go on up from v, one leads from a node of the set to the extra parent
  pub goes_up_reached : Live v → (Start : ℕ → Type 0) → ((a : ℕ) → Start a → Live a) →
      (Given v × Flows (IsLiveArc Arc Live) Given (FromNodes Start) Down v) ⊎ ((Given v → ⊥) × Flows (IsLiveArc Arc Live) Given (FromNodes Start) Up v) →
      (a : ℕ) × Start a × IsReachedFromParent Arc Live Given new v a
  goes_up_reached live Start starts h =
      walk_reached More Lives Given one_way_more Start Up new (elim h as (λ _. HasWalk More Lives Given Start Up new) [ inl b ↦ all.bounce new v arc b.0 (walk Down b.1) | inr b ↦ all.back new v arc b.0 (walk Up b.1) ])
    where
      all : IsClosed (IsLiveArc More Lives) Given (HasWalk More Lives Given Start)
      all = walks_closed More Lives Given one_way_more Start

      arc : IsLiveArc More Lives new v
      arc = (inr (refl, refl), inr refl, inl live)

      walk : (w : Way) → Flows (IsLiveArc Arc Live) Given (FromNodes Start) w v → HasWalk More Lives Given Start w v
      walk w f = flows_marked (walks_closed_below Start) (λ w x s. subst (λ y. HasWalk More Lives Given Start y x) (sym s.0) ([], inl (starts x s.1), s.1, tt)) f
