-- From one list of choices to the next.
use Rattle.std.proofs.Common.{◌≡◌, ◌∙◌, ℕ, zero, suc, ◌+◌, ◌-◌, ◌<◌, ◌≤◌, List, [], ◌∷◌, ◌++◌, length, get_or, slice_index_or, take, drop, set, replicate, refl, sym, ap, subst, arith, add-one, Bool, true, false, All}
use Rattle.maid_model.specs.Nodes.{decisions_of, rows_of, states_of}
use Rattle.maid_model.specs.Views.{NodeView}
use Rattle.maid_model.specs.Worlds.{worlds, worlds_from, IsWorld}
use Rattle.maid_model.proofs.Next.{AllPositive, NextSoFar, IsWorld-tail, counts_positive, step_more, step_back}
use Rattle.maid_model.proofs.Adding.{some_rest}
use Rattle.reach_laws.specs.Equilibria.{choice_counts}
use Rattle.pure_search.specs.Games.{counts_for}

first_is : (cs : List ℕ) → AllPositive cs → (n : ℕ) → n ≡ length cs → IsWorld cs (replicate n 0)
first_is [] h n e = subst (λ k. IsWorld [] (replicate k 0)) (sym e) (record { len = refl; each = λ v l. absurd (omega arith) })
first_is (c ∷ cs) h n e = subst (λ k. IsWorld (c ∷ cs) (replicate k 0)) (sym e) (go (first_is cs h.1 (length cs) refl))
  where
    go : IsWorld cs (replicate (length cs) 0) → IsWorld (c ∷ cs) (0 ∷ replicate (length cs) 0)
    go w = record { len = omega (arith, w.len); each = λ v l. each w v l }
      where
        each : IsWorld cs (replicate (length cs) 0) → (v : ℕ) → v < suc (length {A = ℕ} (replicate (length cs) 0)) → get_or (0 ∷ replicate (length cs) 0) v 0 < get_or (c ∷ cs) v 0
        each w zero k = h.0
        each w (suc v) k = w.each v (omega arith)

-- by cases from the places
pub all_positive : (cs : List ℕ) → All (λ n. 0 < n) cs → AllPositive cs
all_positive [] h = tt
all_positive (c ∷ cs) h = (h 0 0 (omega arith), all_positive cs (λ i e l. h (suc i) e (omega arith)))

pub first_list : (cs : List ℕ) → AllPositive cs → IsWorld cs (replicate (length cs) 0)
first_list cs h = first_is cs h (length cs) refl

front_then_noughts : (cs old : List ℕ) (v : ℕ) → IsWorld cs old → AllPositive cs → IsWorld cs (take v old ++ replicate (length old - v) 0)
front_then_noughts cs old zero w h = first_is cs h (length old - 0) (omega (arith, w.len))
front_then_noughts [] [] (suc v) w h = subst (λ n. IsWorld [] (replicate n 0)) (none v) w
  where
    none : (v : ℕ) → 0 ≡ 0 - suc v
    none v = omega arith
front_then_noughts [] (x ∷ old) (suc v) w h = absurd (omega (arith, w.len))
front_then_noughts (c ∷ cs) [] (suc v) w h = absurd (omega (arith, w.len))
front_then_noughts (c ∷ cs) (x ∷ old) (suc v) w h =
    subst (λ n. IsWorld (c ∷ cs) (x ∷ (take v old ++ replicate n 0))) (less (length old) v) (more c x cs (take v old ++ replicate (length old - v) 0) (front_then_noughts cs old v (IsWorld-tail c x cs old w) h.1) (w.each 0 (omega arith)))
  where
    less : (n v : ℕ) → n - v ≡ suc n - suc v
    less n v = omega arith

    more : (c x : ℕ) (cs ys : List ℕ) → IsWorld cs ys → x < c → IsWorld (c ∷ cs) (x ∷ ys)
    more c x cs ys w l = record { len = omega (arith, w.len); each = each }
      where
        each : (v : ℕ) → v < suc (length ys) → get_or (x ∷ ys) v 0 < get_or (c ∷ cs) v 0
        each zero k = l
        each (suc v) k = w.each v (omega arith)

so_far_is : (cs old xs : List ℕ) (v : ℕ) → IsWorld cs old → NextSoFar cs old xs v → IsWorld cs xs
so_far_is cs old xs v w s = subst (IsWorld cs) (sym s.now) (front_then_noughts cs old v w (counts_positive cs old w))

set_is : (cs xs : List ℕ) (u y : ℕ) → IsWorld cs xs → y < get_or cs u 0 → IsWorld cs (set xs u y)
set_is cs [] u y w l = w
set_is [] (x ∷ xs) u y w l = absurd (omega (arith, w.len))
set_is (c ∷ cs) (x ∷ xs) zero y w l = record { len = w.len; each = each }
  where
    each : (v : ℕ) → v < suc (length xs) → get_or (y ∷ xs) v 0 < get_or (c ∷ cs) v 0
    each zero k = l
    each (suc v) k = w.each (suc v) k
set_is (c ∷ cs) (x ∷ xs) (suc u) y w l = more (set_is cs xs u y (IsWorld-tail c x cs xs w) l)
  where
    more : IsWorld cs (set xs u y) → IsWorld (c ∷ cs) (x ∷ set xs u y)
    more r = record { len = omega (arith, r.len); each = each }
      where
        each : (v : ℕ) → v < suc (length (set xs u y)) → get_or (x ∷ set xs u y) v 0 < get_or (c ∷ cs) v 0
        each zero k = w.each 0 (omega arith)
        each (suc v) k = r.each v (omega arith)

-- ---- one turn of the loop
module _ (cs old xs : List ℕ) (v : ℕ) (w : IsWorld cs old) (s : NextSoFar cs old xs v) (h : 0 < v) where
  pub turn_more : get_or xs (v - 1) 0 < get_or cs (v - 1) 0 - 1 → worlds_from cs old ≡ old ∷ worlds_from cs (set xs (v - 1) (get_or xs (v - 1) 0 + 1))
  turn_more lt = step_more cs old xs v (get_or xs (v - 1) 0) (get_or cs (v - 1) 0) w s h refl refl lt

  pub turn_back : get_or cs (v - 1) 0 - 1 ≤ get_or xs (v - 1) 0 → NextSoFar cs old (set xs (v - 1) 0) (v - 1)
  turn_back le = step_back cs old xs v (get_or xs (v - 1) 0) (get_or cs (v - 1) 0) w s h refl refl le

  pub turn_is : get_or xs (v - 1) 0 < get_or cs (v - 1) 0 - 1 → IsWorld cs (set xs (v - 1) (get_or xs (v - 1) 0 + 1))
  turn_is lt = set_is cs xs (v - 1) (get_or xs (v - 1) 0 + 1) (so_far_is cs old xs v w s) (omega (arith, lt))

-- ---- places of the list of all
pub at_front : (cs xs : List ℕ) (i : ℕ) → i < length (worlds cs) → drop i (worlds cs) ≡ worlds_from cs xs → (rest : List (List ℕ)) → worlds_from cs xs ≡ xs ∷ rest → xs ≡ slice_index_or (worlds cs) i []
at_front cs xs i l e rest f = sym (head (worlds cs) i xs rest (e ∙ f))
  where
    head : (ls : List (List ℕ)) (i : ℕ) (x : List ℕ) (rest : List (List ℕ)) → drop i ls ≡ x ∷ rest → slice_index_or ls i [] ≡ x
    head [] zero x rest e = cc
    head [] (suc i) x rest e = cc
    head (y ∷ ls) zero x rest e = cc
    head (y ∷ ls) (suc i) x rest e = head ls i x rest e

pub drop_step : (ls : List (List ℕ)) (i : ℕ) (x : List ℕ) (rest : List (List ℕ)) → drop i ls ≡ x ∷ rest → drop (suc i) ls ≡ rest
drop_step [] zero x rest e = cc
drop_step [] (suc i) x rest e = cc
drop_step (y ∷ ls) zero x rest e = cc
drop_step (y ∷ ls) (suc i) x rest e = drop_step ls i x rest e

-- the last one is followed by none
pub drop_last : (ls : List (List ℕ)) (i : ℕ) (x : List ℕ) → drop i ls ≡ x ∷ [] → length ls ≡ suc i
drop_last [] zero x e = cc
drop_last [] (suc i) x e = cc
drop_last (y ∷ ls) zero x e = let none : ls ≡ [] = cc in ap (λ l. suc (length l)) none
drop_last (y ∷ ls) (suc i) x e = ap suc (drop_last ls i x e)

-- ---- each row of a decision has a choice
positive_block : (r s : ℕ) (cs : List ℕ) → 0 < s → AllPositive cs → AllPositive (replicate r s ++ cs)
positive_block zero s cs h p = p
positive_block (suc r) s cs h p = (h, positive_block r s cs h p)

positive_counts : (nodes : List NodeView) → ((v : ℕ) → 0 < states_of nodes v) → (ds : List ℕ) → AllPositive (choice_counts nodes ds)
positive_counts nodes h [] = tt
positive_counts nodes h (d ∷ ds) = positive_block (rows_of nodes d) (states_of nodes d) (choice_counts nodes ds) (h d) (positive_counts nodes h ds)

all_of : (cs : List ℕ) → AllPositive cs → All (λ n. 0 < n) cs
all_of [] p i e l = absurd (omega arith)
all_of (c ∷ cs) p zero e l = p.0
all_of (c ∷ cs) p (suc i) e l = all_of cs p.1 i e (omega arith)

pub counts_some : (nodes : List NodeView) → ((v : ℕ) → 0 < states_of nodes v) → All (λ n. 0 < n) (counts_for nodes)
counts_some nodes h = all_of (counts_for nodes) (positive_counts nodes h (decisions_of nodes))

-- ---- what a call wrote into a vector
pub written : {X : Type 0} (n : ℕ) (new old : List X) → length new ≡ length old → n ≡ length old → take n (new ++ drop (length new) old) ≡ new
written n new old e f = ap (λ k. take k (new ++ drop (length new) old)) (f ∙ sym e) ∙ go new (drop (length new) old)
  where
    go : {X : Type 0} (xs ys : List X) → take (length xs) (xs ++ ys) ≡ xs
    go [] ys = refl
    go (x ∷ xs) ys = ap (λ l. x ∷ l) (go xs ys)

-- ---- the list at a place

pub placed : (cs xs : List ℕ) (place : ℕ) → IsWorld cs xs → place < length (worlds cs) → worlds_from cs xs ≡ drop place (worlds cs) → xs ≡ slice_index_or (worlds cs) place []
placed cs xs place w l e = let r = some_rest cs xs w in at_front cs xs place l (sym e) r.0 r.1

-- the next one stands at the next place
pub stepped : (cs xs next : List ℕ) (place : ℕ) (more : Bool) → worlds_from cs xs ≡ drop place (worlds cs) → place + 1 < length (worlds cs)
    → (more ≡ true → worlds_from cs xs ≡ xs ∷ worlds_from cs next) → (more ≡ false → worlds_from cs xs ≡ xs ∷ []) → worlds_from cs next ≡ drop (place + 1) (worlds cs)
stepped cs xs next place true e l m n = sym (ap (λ k. drop k (worlds cs)) (add-one place) ∙ drop_step (worlds cs) place xs (worlds_from cs next) (sym e ∙ m refl))
stepped cs xs next place false e l m n = absurd (let len = drop_last (worlds cs) place xs (sym e ∙ n refl) in omega (arith, l, len))
