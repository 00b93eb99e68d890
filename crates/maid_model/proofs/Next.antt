-- The step from a world to the next one in list order.
use Rattle.std.proofs.Common.{◌≡◌, ℕ, zero, suc, ◌+◌, ◌-◌, ◌<◌, ◌≤◌, List, [], ◌∷◌, ◌++◌, map, length, get_or, take, drop, set, replicate, flat_map, refl, sym, ap, subst, ◌∙◌, arith}
use Rattle.std.specs.List.{range_with_len}
use Rattle.std.proofs.Math.ListN.{length-append, length-take, length-replicate, length-map}
use Rattle.maid_model.specs.Nodes.{states_of, counts_of}
use Rattle.maid_model.specs.Views.{NodeView}
use Rattle.maid_model.specs.Worlds.{worlds, worlds_from, IsWorld, first_world}
use Rattle.maid_model.proofs.Views.{counts_at}

-- every node has a state
abbrev pub AllPositive : List ℕ → Type 0
AllPositive [] = Unit {0}
AllPositive (c ∷ cs) = (0 < c) × AllPositive cs

pub worlds_from-first : (cs : List ℕ) → AllPositive cs → worlds_from cs (replicate (length cs) 0) ≡ worlds cs
worlds_from-first [] h = refl
worlds_from-first (c ∷ cs) h =
    ap (λ x. map (λ ys. 0 ∷ ys) x ++ flat_map (λ s. map (λ ys. s ∷ ys) (worlds cs)) (range_with_len (0 + 1) (c - (0 + 1)))) (worlds_from-first cs h.1)
    ∙ ap (λ n. flat_map (λ s. map (λ ys. s ∷ ys) (worlds cs)) (range_with_len 0 n)) (one_more c h.0)
  where
    one_more : (c : ℕ) → 0 < c → suc (c - (0 + 1)) ≡ c
    one_more c h = omega arith

pub next_more : (cs xs : List ℕ) (v n : ℕ) → AllPositive cs → length xs ≡ length cs → n + suc v ≡ length xs → get_or xs v 0 + 1 < get_or cs v 0
    → worlds_from (drop (suc v) cs) (drop (suc v) xs) ≡ drop (suc v) xs ∷ []
    → worlds_from cs xs ≡ xs ∷ worlds_from cs (take v xs ++ (get_or xs v 0 + 1) ∷ replicate n 0)
next_more [] xs v n h len le lt done = absurd (omega (arith, len, le))
next_more (c ∷ cs) [] v n h len le lt done = absurd (omega (arith, len, le))
next_more (c ∷ cs) (x ∷ xs) zero n h len le lt done =
    ap (λ y. map (λ ys. x ∷ ys) y ++ flat_map (λ s. map (λ ys. s ∷ ys) (worlds cs)) (range_with_len (x + 1) (c - (x + 1)))) done
    ∙ ap (λ m. (x ∷ xs) ∷ flat_map (λ s. map (λ ys. s ∷ ys) (worlds cs)) (range_with_len (x + 1) m)) (fewer c x lt)
    ∙ ap (λ y. (x ∷ xs) ∷ (map (λ ys. (x + 1) ∷ ys) y ++ flat_map (λ s. map (λ ys. s ∷ ys) (worlds cs)) (range_with_len (x + 1 + 1) (c - (x + 1 + 1))))) (sym (worlds_from-first cs h.1) ∙ ap (λ m. worlds_from cs (replicate m 0)) (same (length xs) (length cs) n len le))
  where
    fewer : (c x : ℕ) → x + 1 < c → c - (x + 1) ≡ suc (c - (x + 1 + 1))
    fewer c x h = omega arith

    same : (a b n : ℕ) → suc a ≡ suc b → n + 1 ≡ suc a → b ≡ n
    same a b n h k = omega arith
next_more (c ∷ cs) (x ∷ xs) (suc v) n h len le lt done =
    ap (λ y. map (λ ys. x ∷ ys) y ++ flat_map (λ s. map (λ ys. s ∷ ys) (worlds cs)) (range_with_len (x + 1) (c - (x + 1))))
    (next_more cs xs v n h.1 (omega arith) (omega arith) lt done)

pub next_last : (cs xs : List ℕ) (v : ℕ) → length xs ≡ length cs → v < length xs → get_or cs v 0 ≡ get_or xs v 0 + 1
    → worlds_from (drop (suc v) cs) (drop (suc v) xs) ≡ drop (suc v) xs ∷ []
    → worlds_from (drop v cs) (drop v xs) ≡ drop v xs ∷ []
next_last [] xs v len le e done = absurd (omega (arith, len, le))
next_last (c ∷ cs) [] v len le e done = absurd (omega (arith, len, le))
next_last (c ∷ cs) (x ∷ xs) zero len le e done =
    ap (λ y. map (λ ys. x ∷ ys) y ++ flat_map (λ s. map (λ ys. s ∷ ys) (worlds cs)) (range_with_len (x + 1) (c - (x + 1)))) done
    ∙ ap (λ m. (x ∷ xs) ∷ flat_map (λ s. map (λ ys. s ∷ ys) (worlds cs)) (range_with_len (x + 1) m)) (none c x e)
  where
    none : (c x : ℕ) → c ≡ x + 1 → c - (x + 1) ≡ 0
    none c x h = omega arith
next_last (c ∷ cs) (x ∷ xs) (suc v) len le e done = next_last cs xs v (omega arith) (omega arith) e done

-- what `next` has done when the nodes from v on have been set back
pub record NextSoFar (cs old xs : List ℕ) (v : ℕ) : Type 0 where
  pub within : v ≤ length old
  pub now : xs ≡ take v old ++ replicate (length old - v) 0
  pub done : worlds_from (drop v cs) (drop v old) ≡ drop v old ∷ []

-- none is set back at the start
pub so_far_none : (cs old xs : List ℕ) (v : ℕ) → length old ≡ length cs → xs ≡ old → v ≡ length xs → NextSoFar cs old xs v
so_far_none cs old xs v len same all =
    let at : v ≡ length old = all ∙ ap length same in
    record { within = omega arith; now = same ∙ whole old v at; done = nothing cs old v at (sym len) }
  where
    less : (n v : ℕ) → n - v ≡ suc n - suc v
    less n v = omega arith

    whole : (old : List ℕ) (v : ℕ) → v ≡ length old → old ≡ take v old ++ replicate (length old - v) 0
    whole [] zero e = refl
    whole [] (suc v) e = absurd (omega (arith, e))
    whole (x ∷ old) zero e = absurd (omega (arith, e))
    whole (x ∷ old) (suc v) e = ap (λ xs. x ∷ xs) (whole old v (omega (arith, e))) ∙ ap (λ n. x ∷ (take v old ++ replicate n 0)) (less (length old) v)

    nothing : (cs old : List ℕ) (v : ℕ) → v ≡ length old → length cs ≡ length old → worlds_from (drop v cs) (drop v old) ≡ drop v old ∷ []
    nothing [] [] zero e f = refl
    nothing [] [] (suc v) e f = absurd (omega (arith, e))
    nothing [] (x ∷ old) v e f = absurd (omega (arith, f))
    nothing (c ∷ cs) [] v e f = absurd (omega (arith, f))
    nothing (c ∷ cs) (x ∷ old) zero e f = absurd (omega (arith, e))
    nothing (c ∷ cs) (x ∷ old) (suc v) e f = nothing cs old v (omega (arith, e)) (omega (arith, f))

pub IsWorld-tail : (c x : ℕ) (cs xs : List ℕ) → IsWorld (c ∷ cs) (x ∷ xs) → IsWorld cs xs
IsWorld-tail c x cs xs w = record { len = omega (arith, w.len); each = λ v l. w.each (suc v) (omega arith) }

pub counts_positive : (cs xs : List ℕ) → IsWorld cs xs → AllPositive cs
counts_positive [] xs w = tt
counts_positive (c ∷ cs) [] w = absurd (omega (arith, w.len))
counts_positive (c ∷ cs) (x ∷ xs) w = (let l : x < c = w.each 0 (omega arith) in omega arith, counts_positive cs xs (IsWorld-tail c x cs xs w))

set_front : (old : List ℕ) (u y : ℕ) (zs : List ℕ) → u < length old → set (take (suc u) old ++ zs) u y ≡ take u old ++ y ∷ zs
set_front [] u y zs h = absurd (omega arith)
set_front (x ∷ xs) zero y zs h = refl
set_front (x ∷ xs) (suc u) y zs h = ap (λ l. x ∷ l) (set_front xs u y zs (omega arith))

get_front : (old : List ℕ) (u : ℕ) (zs : List ℕ) → u < length old → get_or (take (suc u) old ++ zs) u 0 ≡ get_or old u 0
get_front [] u zs h = absurd (omega arith)
get_front (x ∷ xs) zero zs h = refl
get_front (x ∷ xs) (suc u) zs h = get_front xs u zs (omega arith)

more_at : (cs old xs : List ℕ) (u v state : ℕ) → v ≡ suc u → IsWorld cs old → NextSoFar cs old xs v → state ≡ get_or xs u 0 → state + 1 < get_or cs u 0
    → worlds_from cs old ≡ old ∷ worlds_from cs (set xs u (state + 1))
more_at cs old xs u v state e w s is lt =
    let now : xs ≡ take (suc u) old ++ replicate (length old - suc u) 0 = subst (λ x. xs ≡ take x old ++ replicate (length old - x) 0) e s.now in
    let done : worlds_from (drop (suc u) cs) (drop (suc u) old) ≡ drop (suc u) old ∷ [] = subst (λ x. worlds_from (drop x cs) (drop x old) ≡ drop x old ∷ []) e s.done in
    let within : suc u ≤ length old = subst (λ x. x ≤ length old) e s.within in
    let at : state ≡ get_or old u 0 = is ∙ ap (λ l. get_or l u 0) now ∙ get_front old u (replicate (length old - suc u) 0) within in
    next_more cs old u (length old - suc u) (counts_positive cs old w) w.len (omega arith) (subst (λ x. x + 1 < get_or cs u 0) at lt) done
    ∙ ap (λ l. old ∷ worlds_from cs l) (sym (ap (λ l. set l u (state + 1)) now ∙ set_front old u (state + 1) (replicate (length old - suc u) 0) within ∙ ap (λ x. take u old ++ (x + 1) ∷ replicate (length old - suc u) 0) at))

-- the node's state was not its last one
pub step_more : (cs old xs : List ℕ) (v state c : ℕ) → IsWorld cs old → NextSoFar cs old xs v → 0 < v → state ≡ get_or xs (v - 1) 0 → c ≡ get_or cs (v - 1) 0 → state < c - 1
    → worlds_from cs old ≡ old ∷ worlds_from cs (set xs (v - 1) (state + 1))
step_more cs old xs v state c w s h is e lt = more_at cs old xs (v - 1) v state (omega arith) w s is (subst (λ x. state + 1 < x) e (omega arith))

back_at : (cs old xs : List ℕ) (u v state : ℕ) → v ≡ suc u → IsWorld cs old → NextSoFar cs old xs v → state ≡ get_or xs u 0 → get_or cs u 0 ≤ state + 1
    → NextSoFar cs old (set xs u 0) u
back_at cs old xs u v state e w s is le =
    let now : xs ≡ take (suc u) old ++ replicate (length old - suc u) 0 = subst (λ x. xs ≡ take x old ++ replicate (length old - x) 0) e s.now in
    let done : worlds_from (drop (suc u) cs) (drop (suc u) old) ≡ drop (suc u) old ∷ [] = subst (λ x. worlds_from (drop x cs) (drop x old) ≡ drop x old ∷ []) e s.done in
    let within : suc u ≤ length old = subst (λ x. x ≤ length old) e s.within in
    let at : state ≡ get_or old u 0 = is ∙ ap (λ l. get_or l u 0) now ∙ get_front old u (replicate (length old - suc u) 0) within in
    let below : get_or old u 0 < get_or cs u 0 = w.each u within in
    let more : length old - u ≡ suc (length old - suc u) = omega arith in
    record {
      within = omega arith;
      now = ap (λ l. set l u 0) now ∙ set_front old u 0 (replicate (length old - suc u) 0) within ∙ ap (λ n. take u old ++ replicate n 0) (sym more);
      done = next_last cs old u w.len within (omega arith) done;
    }

-- the node's state was its last one
pub step_back : (cs old xs : List ℕ) (v state c : ℕ) → IsWorld cs old → NextSoFar cs old xs v → 0 < v → state ≡ get_or xs (v - 1) 0 → c ≡ get_or cs (v - 1) 0 → c - 1 ≤ state
    → NextSoFar cs old (set xs (v - 1) 0) (v - 1)
step_back cs old xs v state c w s h is e le = back_at cs old xs (v - 1) v state (omega arith) w s is (subst (λ x. x ≤ state + 1) e (omega arith))

get_or_any : (xs : List ℕ) (i d e : ℕ) → i < length xs → get_or xs i d ≡ get_or xs i e
get_or_any [] i d e h = absurd (omega arith)
get_or_any (x ∷ xs) zero d e h = refl
get_or_any (x ∷ xs) (suc i) d e h = get_or_any xs i d e (omega arith)

length-so_far : (cs old xs : List ℕ) (v : ℕ) → NextSoFar cs old xs v → length xs ≡ length old
length-so_far cs old xs v s = ap length s.now ∙ simp (length-append, length-take, length-replicate) (let h : v ≤ length old = s.within in omega arith)

first_is : (cs : List ℕ) → AllPositive cs → (n : ℕ) → n ≡ length cs → IsWorld cs (replicate n 0)
first_is [] h n e = subst (λ k. IsWorld [] (replicate k 0)) (sym e) (record { len = refl; each = λ v l. absurd (omega arith) })
first_is (c ∷ cs) h n e = subst (λ k. IsWorld (c ∷ cs) (replicate k 0)) (sym e) (go (first_is cs h.1 (length cs) refl))
  where
    go : IsWorld cs (replicate (length cs) 0) → IsWorld (c ∷ cs) (0 ∷ replicate (length cs) 0)
    go t = record { len = omega (arith, t.len); each = each }
      where
        each : (v : ℕ) → v < suc (length {A = ℕ} (replicate (length cs) 0)) → get_or (0 ∷ replicate (length cs) 0) v 0 < get_or (c ∷ cs) v 0
        each zero l = h.0
        each (suc v) l = t.each v (omega arith)

pub states_positive : (nodes : List NodeView) → ((v : ℕ) → 0 < states_of nodes v) → AllPositive (counts_of nodes)
states_positive [] h = tt
states_positive (n ∷ ns) h = (h 0, states_positive ns (λ v. h (suc v)))

pub first_is_world : (nodes : List NodeView) → ((v : ℕ) → 0 < states_of nodes v) → IsWorld (counts_of nodes) (first_world (length nodes))
first_is_world nodes h = first_is (counts_of nodes) (states_positive nodes h) (length nodes) (sym (length-map nodes (λ n. n.states)))

mixed : (cs old : List ℕ) (v : ℕ) → IsWorld cs old → AllPositive cs → IsWorld cs (take v old ++ replicate (length old - v) 0)
mixed cs old zero w h = first_is cs h (length old - 0) (omega (arith, w.len))
mixed [] [] (suc v) w h = subst (λ n. IsWorld [] (replicate n 0)) (none v) w
  where
    none : (v : ℕ) → 0 ≡ 0 - suc v
    none v = omega arith
mixed [] (x ∷ old) (suc v) w h = absurd (omega (arith, w.len))
mixed (c ∷ cs) [] (suc v) w h = absurd (omega (arith, w.len))
mixed (c ∷ cs) (x ∷ old) (suc v) w h = subst (λ n. IsWorld (c ∷ cs) (x ∷ (take v old ++ replicate n 0))) (less (length old) v) (more (mixed cs old v (IsWorld-tail c x cs old w) h.1) (w.each 0 (omega arith)))
  where
    less : (n v : ℕ) → n - v ≡ suc n - suc v
    less n v = omega arith

    more : {xs : List ℕ} → IsWorld cs xs → x < c → IsWorld (c ∷ cs) (x ∷ xs)
    more {xs} t l = record { len = omega (arith, t.len); each = each }
      where
        each : (u : ℕ) → u < suc (length xs) → get_or (x ∷ xs) u 0 < get_or (c ∷ cs) u 0
        each zero k = l
        each (suc u) k = t.each u (omega arith)

-- the world so far is a world
world_so_far : (cs old xs : List ℕ) (v : ℕ) → IsWorld cs old → NextSoFar cs old xs v → IsWorld cs xs
world_so_far cs old xs v w s = subst (IsWorld cs) (sym s.now) (mixed cs old v w (counts_positive cs old w))

world_set : (cs xs : List ℕ) (u y : ℕ) → IsWorld cs xs → y < get_or cs u 0 → IsWorld cs (set xs u y)
world_set cs [] u y w l = w
world_set [] (x ∷ xs) u y w l = absurd (omega (arith, w.len))
world_set (c ∷ cs) (x ∷ xs) zero y w l = record { len = w.len; each = each }
  where
    each : (v : ℕ) → v < suc (length xs) → get_or (y ∷ xs) v 0 < get_or (c ∷ cs) v 0
    each zero k = l
    each (suc v) k = w.each (suc v) k
world_set (c ∷ cs) (x ∷ xs) (suc u) y w l = more (world_set cs xs u y (IsWorld-tail c x cs xs w) l)
  where
    more : IsWorld cs (set xs u y) → IsWorld (c ∷ cs) (x ∷ set xs u y)
    more t = record { len = omega (arith, t.len); each = each }
      where
        each : (v : ℕ) → v < suc (length (set xs u y)) → get_or (x ∷ set xs u y) v 0 < get_or (c ∷ cs) v 0
        each zero k = w.each 0 (omega arith)
        each (suc v) k = t.each v (omega arith)

module _ (nodes : List NodeView) (old xs : List ℕ) (v state c : ℕ) (w : IsWorld (counts_of nodes) old) (s : NextSoFar (counts_of nodes) old xs v) (h : 0 < v)
    (is : state ≡ get_or xs (v - 1) state) (e : c ≡ states_of nodes (v - 1)) where
  in_world : v - 1 < length xs
  in_world = let k : v ≤ length old = s.within in let len : length xs ≡ length old = length-so_far (counts_of nodes) old xs v s in omega arith

  state_is : state ≡ get_or xs (v - 1) 0
  state_is = is ∙ get_or_any xs (v - 1) state 0 in_world

  count_is : c ≡ get_or (counts_of nodes) (v - 1) 0
  count_is = e ∙ counts_at nodes (v - 1) (let k : v ≤ length old = s.within in let len : length old ≡ length nodes = w.len ∙ length-map nodes (λ n. n.states) in omega arith)

  pub code_more : state < c - 1 → worlds_from (counts_of nodes) old ≡ old ∷ worlds_from (counts_of nodes) (set xs (v - 1) (state + 1))
  code_more lt = step_more (counts_of nodes) old xs v state c w s h state_is count_is lt

  pub code_back : c - 1 ≤ state → NextSoFar (counts_of nodes) old (set xs (v - 1) 0) (v - 1)
  code_back le = step_back (counts_of nodes) old xs v state c w s h state_is count_is le

  pub code_world : state < c - 1 → IsWorld (counts_of nodes) (set xs (v - 1) (state + 1))
  code_world lt = world_set (counts_of nodes) xs (v - 1) (state + 1) (world_so_far (counts_of nodes) old xs v w s) (subst (λ n. state + 1 < n) count_is (omega arith))
