-- The places of nodes in a list with parents first: arcs go from lower places to higher ones.
use Rattle.std.proofs.Common.{◌≡◌, ◌≢◌, ◌∙◌, ℕ, zero, suc, ◌<◌, ◌≤◌, cond, eqb, List, [], ◌∷◌, length, refl, sym, ap, subst, inl, inr, arith}
use Rattle.std.proofs.lemmas.Bool.Decides.{nat_tests}
use Rattle.std.proofs.Math.Decide.{ℕ_discrete, dec_lt}
use Rattle.maid_model.specs.Nodes.{node_at, no_node}
use Rattle.maid_model.specs.Relevance.{IsInFamily}
use Rattle.maid_model.specs.Views.{NodeView}
use Rattle.finite_sums.specs.Members.{Among}
use Rattle.maid_model.proofs.Setting.{ParentsFirst}
use Rattle.maid_laws.proofs.Notions.{IsParent}
use Rattle.maid_laws.proofs.Basis.{Setup}
use Rattle.maid_laws.proofs.Leads.{Below, child, further}

-- the first place of u in the list
abbrev pub place : ℕ → List ℕ → ℕ
place u [] = 0
place u (x ∷ xs) = cond (eqb x u) 0 (suc (place u xs))

-- at the head
place_here : (x u : ℕ) (xs : List ℕ) → x ≡ u → place u (x ∷ xs) ≡ 0
place_here x u xs e = grind (arith, nat_tests)

-- past the head
place_there : (x u : ℕ) (xs : List ℕ) → x ≢ u → place u (x ∷ xs) ≡ suc (place u xs)
place_there x u xs n = grind (arith, nat_tests)

-- by induction over the list: an arc into the head would come from a later node
pub place_less : (nodes : List NodeView) (order : List ℕ) → ParentsFirst nodes order → ((v : ℕ) → ¬ (IsParent nodes v v)) → (u v : ℕ) → Among u order → Among v order → IsParent nodes u v → place u order < place v order
place_less nodes [] h s u v mu mv a = absurd mu
place_less nodes (x ∷ xs) h s u v mu mv a = go (ℕ_discrete x v) (ℕ_discrete x u) (λ ku kv. place_less nodes xs h.1 s u v ku kv a)
  where
    rest : (w : ℕ) → Among w (x ∷ xs) → x ≢ w → Among w xs
    rest w (inl e) n = absurd (n (sym e))
    rest w (inr m) n = m

    parent_of_first : x ≡ v → Among u (x ∷ xs) → ⊥
    parent_of_first e (inl f) = s v (subst (λ z. IsParent nodes z v) (f ∙ e) a)
    parent_of_first e (inr m) = (h.0 u m).1 (subst (λ z. IsParent nodes u z) (sym e) a)

    go : Dec (x ≡ v) → Dec (x ≡ u) → (Among u xs → Among v xs → place u xs < place v xs) → place u (x ∷ xs) < place v (x ∷ xs)
    go (yes e) du r = absurd (parent_of_first e mu)
    go (no n) (yes f) r = let p : place u (x ∷ xs) ≡ 0 = place_here x u xs f in let q : place v (x ∷ xs) ≡ suc (place v xs) = place_there x v xs n in omega arith
    go (no n) (no m) r = let p : place u (x ∷ xs) ≡ suc (place u xs) = place_there x u xs m in let q : place v (x ∷ xs) ≡ suc (place v xs) = place_there x v xs n in let k : place u xs < place v xs = r (rest u mu m) (rest v mv n) in omega arith

-- past the last node stands the node that is none
pub past_end : (nodes : List NodeView) (v : ℕ) → length nodes ≤ v → node_at nodes v ≡ no_node
past_end [] v h = refl
past_end (n ∷ ns) zero h = absurd (omega arith)
past_end (n ∷ ns) (suc v) h = past_end ns v (omega arith)

-- it has no parents
pub no_parent_past : (nodes : List NodeView) (u v : ℕ) → length nodes ≤ v → ¬ (IsParent nodes u v)
no_parent_past nodes u v h a = subst (λ n. Among u n.parents) (past_end nodes v h) a

-- so arcs lead to nodes
pub arc_inside : (nodes : List NodeView) (u v : ℕ) → IsParent nodes u v → v < length nodes
arc_inside nodes u v a = go (dec_lt v (length nodes))
  where
    not_less : ¬ (v < length nodes) → length nodes ≤ v
    not_less n = omega arith

    go : Dec (v < length nodes) → v < length nodes
    go (yes l) = l
    go (no n) = absurd (no_parent_past nodes u v (not_less n) a)

module _ (nodes : List NodeView) (order : List ℕ) (setup : Setup nodes order) where
  -- arcs rise
  pub rank_less : (u v : ℕ) → IsParent nodes u v → place u order < place v order
  rank_less u v a = place_less nodes order setup.parents_first setup.not_own_parent u v (setup.all u (setup.parent_inside u v a)) (setup.all v (arc_inside nodes u v a)) a

  -- so none goes back
  pub one_way : (u v : ℕ) → IsParent nodes u v → ¬ (IsParent nodes v u)
  one_way u v a b = let k = rank_less u v a in let l = rank_less v u b in omega arith

  -- and what lies below stands later
  pub below_less : (d : ℕ) {x : ℕ} → Below (IsParent nodes) d x → place d order < place x order
  below_less d {x} (child a) = rank_less d x a
  below_less d {x} (further {y = y} b a) = let k : place d order < place y order = below_less d b in let l : place y order < place x order = rank_less y x a in omega arith

  -- so neither d nor its parents lie below d
  pub none_given : (d x : ℕ) → Below (IsParent nodes) d x → ¬ (IsInFamily (IsParent nodes) d x)
  none_given d x b (inl e) = let k : place d order < place x order = below_less d b in let f : place x order ≡ place d order = ap (λ z. place z order) e in omega arith
  none_given d x b (inr m) = let k : place d order < place x order = below_less d b in let l : place x order < place d order = rank_less x d m in omega arith
