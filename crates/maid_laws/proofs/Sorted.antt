-- A finite graph without a cycle has a list in which each node stands after its parents: nodes are
-- inserted one by one, and what led through a node that is still to come counts as an arc.
use Rattle.std.proofs.Common.{◌≡◌, ◌⊎◌, ℕ, List, [], ◌∷◌, ◌++◌, refl, sym, ap, subst, inl, inr}
use Rattle.maid_model.specs.Graph.{IsPath, Here, Along, IsAcyclic}
use Rattle.finite_sums.specs.Members.{Among, Shuffled, none, put}

-- no node of the list has a later one as a parent
abbrev pub First : (ℕ → ℕ → Type 0) → List ℕ → Type 0
First R [] = Unit {0}
First R (v ∷ vs) = ((u : ℕ) → Among u vs → ¬ (R u v)) × First R vs

-- an arc, or two arcs through x
abbrev Through : (ℕ → ℕ → Type 0) → ℕ → ℕ → ℕ → Type 0
Through R x u v = R u v ⊎ (R u x × R x v)

-- such arcs can be told
through_dec : (R : ℕ → ℕ → Type 0) → ((u v : ℕ) → Dec (R u v)) → (x u v : ℕ) → Dec (Through R x u v)
through_dec R dec x u v = go (dec u v) (dec u x) (dec x v)
  where
    go : Dec (R u v) → Dec (R u x) → Dec (R x v) → Dec (Through R x u v)
    go (yes a) b c = yes (inl a)
    go (no a) (yes b) (yes c) = yes (inr (b, c))
    go (no a) (no b) c = no (λ h. elim h [ inl k ↦ a k | inr k ↦ b k.0 ])
    go (no a) (yes b) (no c) = no (λ h. elim h [ inl k ↦ a k | inr k ↦ c k.1 ])

-- a path by them is a path
through_path : (R : ℕ → ℕ → Type 0) (x : ℕ) {to v : ℕ} → IsPath (Through R x) v to → IsPath R v to
through_path R x Here = Here
through_path R x (Along (inl a) p) = Along a (through_path R x p)
through_path R x (Along (inr a) p) = Along a.0 (Along a.1 (through_path R x p))

-- so they make no cycle
through_acyclic : (R : ℕ → ℕ → Type 0) (x : ℕ) → IsAcyclic R → IsAcyclic (Through R x)
through_acyclic R x h v (next, inl a, p) = h v (next, a, through_path R x p)
through_acyclic R x h v (next, inr a, p) = h v (x, a.0, Along a.1 (through_path R x p))

-- and fewer arcs ask for less
through_first : (R : ℕ → ℕ → Type 0) (x : ℕ) (vs : List ℕ) → First (Through R x) vs → First R vs
through_first R x [] h = tt
through_first R x (v ∷ vs) h = ((λ u m a. h.0 u m (inl a)), through_first R x vs h.1)

-- x put in before the first node that it is a parent of
pub record Inserted (R : ℕ → ℕ → Type 0) (x : ℕ) (ys : List ℕ) : Type 0 where
  pub front : List ℕ
  pub back : List ℕ
  pub is : ys ≡ front ++ back
  pub first : First R (front ++ x ∷ back)

-- the one put in, or another
among_insert : (u x : ℕ) (front back : List ℕ) → Among u (front ++ x ∷ back) → (u ≡ x) ⊎ Among u (front ++ back)
among_insert u x [] back m = m
among_insert u x (y ∷ front) back (inl e) = inr (inl e)
among_insert u x (y ∷ front) back (inr m) = elim (among_insert u x front back m) [ inl e ↦ inl e | inr k ↦ inr (inr k) ]

-- all its parents stand before, since they are parents of that node too
insert : (R : ℕ → ℕ → Type 0) → ((u v : ℕ) → Dec (R u v)) → (x : ℕ) → ((u : ℕ) → R x u → ¬ (R u x)) → (ys : List ℕ) → First (Through R x) ys → Inserted R x ys
insert R dec x one_way [] h = record { front = []; back = []; is = refl; first = ((λ u m a. m), tt) }
insert R dec x one_way (y ∷ ys) h = go (dec x y) (insert R dec x one_way ys h.1)
  where
    go : Dec (R x y) → Inserted R x ys → Inserted R x (y ∷ ys)
    go (yes a) r = record {
      front = [];
      back = y ∷ ys;
      is = refl;
      first = (
        (λ u m b. elim m [ inl e ↦ one_way y a (subst (λ z. R z x) e b) | inr k ↦ h.0 u k (inr (b, a)) ]),
        through_first R x (y ∷ ys) h,
      );
    }
    go (no n) r = record {
      front = y ∷ r.front;
      back = r.back;
      is = ap (λ l. y ∷ l) r.is;
      first = (
        (λ u m b. elim (among_insert u x r.front r.back m) [
          | inl e ↦ n (subst (λ z. R z y) e b)
          | inr k ↦ h.0 u (subst (λ l. Among u l) (sym r.is) k) (inl b)
        ]),
        r.first,
      );
    }

-- by induction over the list
pub sorted : (R : ℕ → ℕ → Type 0) → ((u v : ℕ) → Dec (R u v)) → IsAcyclic R → (xs : List ℕ) → (ys : List ℕ) × Shuffled xs ys × First R ys
sorted R dec acyclic [] = ([], none, tt)
sorted R dec acyclic (x ∷ xs) =
    let r = sorted (Through R x) (through_dec R dec x) (through_acyclic R x acyclic) xs in
    let i : Inserted R x r.0 = insert R dec x (λ u a b. acyclic x (u, a, Along b Here)) r.0 r.2 in
    (i.front ++ x ∷ i.back, put i.front i.back (subst (λ l. Shuffled xs l) i.is r.1), i.first)
