-- Between walks as steps and walks written out as lists.
use Rattle.std.proofs.Common.{◌≡◌, ◌≢◌, ◌⊎◌, ◌↔◌, ◌∙◌, ℕ, Bool, true, false, List, [], ◌∷◌, refl, sym, subst, inl, inr}
use Rattle.std.proofs.Math.Decide.{ℕ_discrete}
use Rattle.maid_model.specs.Walks.{IsJoined, IsCollider, IsActive, last_of, WithArc, WithNode, IsReachedFromParent}
use Rattle.maid_laws.proofs.Leads.{Leads, ends, head_down, head_up, tail_down, tail_up, more_arcs}

-- an arrow between p and x, with its head at x, or its tail
abbrev pub Enters : (ℕ → ℕ → Type 0) → Bool → ℕ → ℕ → Type 0
Enters Arc true p x = Arc p x
Enters Arc false p x = Arc x p

-- the walk x ∷ rest goes on actively, from whichever node it was entered
pub record GoesOn (Arc : ℕ → ℕ → Type 0) (Live Given : ℕ → Type 0) (goal : ℕ) (head : Bool) (x : ℕ) : Type 0 where
  pub rest : List ℕ
  pub active : IsActive Arc Live Given (x ∷ rest)
  pub entered : (p : ℕ) → Live p → IsJoined Arc p x → Enters Arc head p x → IsActive Arc Live Given (p ∷ (x ∷ rest))
  pub ends : last_of x rest ≡ goal

module _ (Arc : ℕ → ℕ → Type 0) (Live Given : ℕ → Type 0) (goal : ℕ) (one_way : (x y : ℕ) → Arc x y → ¬ (Arc y x)) where
  -- by induction over the steps: at each node the arrows meet where it is given
  pub goes_on : {head : Bool} {x : ℕ} → Leads Arc Live Given goal head x → Live x → GoesOn Arc Live Given goal head x
  goes_on ends lx = record { rest = []; active = lx; entered = λ p lp j a. (lp, j, lx); ends = refl }
  goes_on {x = x} (head_down {c = c} n a lc h) lx =
      let g : GoesOn Arc Live Given goal true c = goes_on h lc in
      let on : IsActive Arc Live Given (x ∷ (c ∷ g.rest)) = g.entered x lx (inl a) a in
      record {
        rest = c ∷ g.rest;
        active = on;
        entered = λ p lp j e. (lp, j, ((λ m. absurd (one_way x c a m.1)), (λ k. absurd (n k))), on);
        ends = g.ends;
      }
  goes_on {x = x} (head_up {z = z} y a lz h) lx =
      let g : GoesOn Arc Live Given goal false z = goes_on h lz in
      let on : IsActive Arc Live Given (x ∷ (z ∷ g.rest)) = g.entered x lx (inr a) a in
      record {
        rest = z ∷ g.rest;
        active = on;
        entered = λ p lp j e. (lp, j, ((λ m. y), (λ k. (e, a))), on);
        ends = g.ends;
      }
  goes_on {x = x} (tail_down {c = c} n a lc h) lx =
      let g : GoesOn Arc Live Given goal true c = goes_on h lc in
      let on : IsActive Arc Live Given (x ∷ (c ∷ g.rest)) = g.entered x lx (inl a) a in
      record {
        rest = c ∷ g.rest;
        active = on;
        entered = λ p lp j e. (lp, j, ((λ m. absurd (one_way x c a m.1)), (λ k. absurd (n k))), on);
        ends = g.ends;
      }
  goes_on {x = x} (tail_up {z = z} n a lz h) lx =
      let g : GoesOn Arc Live Given goal false z = goes_on h lz in
      let on : IsActive Arc Live Given (x ∷ (z ∷ g.rest)) = g.entered x lx (inr a) a in
      record {
        rest = z ∷ g.rest;
        active = on;
        entered = λ p lp j e. (lp, j, ((λ m. absurd (one_way x p e m.0)), (λ k. absurd (n k))), on);
        ends = g.ends;
      }

-- an extra parent of v, under a number that no node has
module _ (Arc : ℕ → ℕ → Type 0) (Live Given : ℕ → Type 0) (new v goal : ℕ) (one_way : (x y : ℕ) → Arc x y → ¬ (Arc y x))
    (no_child_new : (y : ℕ) → Arc new y → ⊥) (no_parent_new : (x : ℕ) → Arc x new → ⊥) (fresh : new ≢ v) where
  -- with the extra parent
  abbrev More : ℕ → ℕ → Type 0
  More = WithArc Arc new v

  -- and it is live
  abbrev Lives : ℕ → Type 0
  Lives = WithNode Live new

  -- arcs still go one way
  more_one_way : (x y : ℕ) → WithArc Arc new v x y → ¬ (WithArc Arc new v y x)
  more_one_way x y (inl a) (inl b) = one_way x y a b
  more_one_way x y (inl a) (inr b) = no_parent_new x (subst (λ z. Arc x z) b.0 a)
  more_one_way x y (inr a) (inl b) = no_parent_new y (subst (λ z. Arc y z) a.0 b)
  more_one_way x y (inr a) (inr b) = fresh (sym a.0 ∙ b.1)

  -- steps from v are a walk from the extra parent
  pub leads_walk : Leads Arc Live Given goal true v → Live v → IsReachedFromParent Arc Live Given new v goal
  leads_walk h lv =
      let g : GoesOn More Lives Given goal true v =
      goes_on More Lives Given goal more_one_way (more_arcs Arc More Live Lives Given Given goal (λ x y a. inl a) (λ x l. inl l) (λ x. ((λ k. k), (λ k. k))) h) (inl lv) in
      record { rest = v ∷ g.rest; active = g.entered new (inr refl) (inl (inr (refl, refl))) (inr (refl, refl)); ends = g.ends }

  -- what a walk that came to x from p says: it passes the extra parent once more, or its steps go
  -- on from x
  abbrev Rest : ℕ → ℕ → Type 0
  Rest p x = Leads Arc Live Given goal true v ⊎ ((x ≢ new) × (Live x) × (More p x → Leads Arc Live Given goal true x) × (More x p → Leads Arc Live Given goal false x))

  -- any other live node was live
  old : (x : ℕ) → x ≢ new → Lives x → Live x
  old x n (inl l) = l
  old x n (inr e) = absurd (n e)

  -- and any other arc was one
  old_arc : (x y : ℕ) → x ≢ new → More x y → Arc x y
  old_arc x y n (inl a) = a
  old_arc x y n (inr e) = absurd (n e.0)

  -- the node after the extra parent is v
  after_new : (z : ℕ) → IsJoined More new z → (z ≡ v) × More new z
  after_new z (inl (inl a)) = absurd (no_child_new z a)
  after_new z (inl (inr e)) = (e.1, inr e)
  after_new z (inr (inl a)) = absurd (no_parent_new z a)
  after_new z (inr (inr e)) = absurd (fresh e.1)

  -- a walk begins with a live node
  first_live : (x : ℕ) (rest : List ℕ) → IsActive More Lives Given (x ∷ rest) → Lives x
  first_live x [] h = h
  first_live x (y ∷ []) h = h.0
  first_live x (y ∷ (z ∷ rest)) h = h.0

  module _ (goal_old : goal ≢ new) (no_child : (c : ℕ) → ¬ (Arc goal c)) where
    -- at the end of the walk
    last_step : (p x : ℕ) → Lives x → x ≡ goal → Rest p x
    last_step p x l e = inr (n, old x n l, (λ a. subst (Leads Arc Live Given goal true) (sym e) ends), λ a. absurd (no_child p (subst (λ z. Arc z p) e (old_arc x p n a))))
      where
        n : x ≢ new
        n f = goal_old (sym e ∙ f)

    -- one node more, in front
    step : (p x z : ℕ) → Lives x → IsJoined More x z → (IsCollider More p x z ↔ Given x) → Rest x z → Dec (x ≡ new) → Rest p x
    step p x z lx j m (inl h) dec = inl h
    step p x z lx j m (inr h) (yes e) =
        let k = after_new z (subst (λ y. IsJoined More y z) e j) in
        inl (subst (Leads Arc Live Given goal true) k.0 (h.2 (subst (λ y. More y z) (sym e) k.1)))
    step p x z lx (inl d) m (inr h) (no n) =
        let not_given : ¬ (Given x) = (λ g. more_one_way x z d (m.1 g).1) in
        inr (n, old x n lx, (λ a. head_down not_given (old_arc x z n d) h.1 (h.2 d)), (λ a. tail_down not_given (old_arc x z n d) h.1 (h.2 d)))
    step p x z lx (inr u) m (inr h) (no n) =
        inr (n, old x n lx, (λ a. head_up (m.0 (a, u)) (old_arc z x h.0 u) h.1 (h.3 u)), (λ a. tail_up (λ g. more_one_way x p a (m.1 g).0) (old_arc z x h.0 u) h.1 (h.3 u)))

    walk_rest : (p x : ℕ) (rest : List ℕ) → IsActive More Lives Given (p ∷ (x ∷ rest)) → last_of x rest ≡ goal → Rest p x
    walk_rest p x [] h e = last_step p x h.2 e
    walk_rest p x (z ∷ rest) h e = step p x z (first_live x (z ∷ rest) h.3) (joined x z rest h.3) h.2 (walk_rest x z rest h.3 e) (ℕ_discrete x new)
      where
        joined : (x z : ℕ) (rest : List ℕ) → IsActive More Lives Given (x ∷ (z ∷ rest)) → IsJoined More x z
        joined x z [] h = h.1
        joined x z (y ∷ rest) h = h.1

    -- a walk from the extra parent is, after its last visit there, steps from v
    pub walk_leads : IsReachedFromParent Arc Live Given new v goal → Leads Arc Live Given goal true v
    walk_leads r = go r.rest r.active r.ends
      where
        second : (x : ℕ) (rest : List ℕ) → IsActive More Lives Given (new ∷ (x ∷ rest)) → (x ≡ v) × More new x
        second x [] h = after_new x h.1
        second x (z ∷ rest) h = after_new x h.1

        from : (x : ℕ) → (x ≡ v) × More new x → Rest new x → Leads Arc Live Given goal true v
        from x k (inl h) = h
        from x k (inr h) = subst (Leads Arc Live Given goal true) k.0 (h.2 k.1)

        go : (rest : List ℕ) → IsActive More Lives Given (new ∷ rest) → last_of new rest ≡ goal → Leads Arc Live Given goal true v
        go [] h e = absurd (goal_old (sym e))
        go (x ∷ rest) h e = from x (second x rest h) (walk_rest new x rest h e)
