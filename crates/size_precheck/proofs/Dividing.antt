-- The cells of a set that one node has left and to which others have come.
use Rattle.std.proofs.Common.{◌≡◌, ◌∙◌, ◌⊎◌, ◌↔◌, ℕ, zero, suc, ◌*◌, ◌/◌, ◌<◌, ◌≤◌, min, Bool, true, false, cond, List, length, get_or, refl, sym, ap, subst, inl, inr, arith}
use Rattle.std.proofs.Math.Decide.{ℕ_discrete}
use Rattle.std.proofs.Math.Path.{fun_ext}
use Rattle.std.proofs.Math.Nat.{mul-div_cancel_left, div-le_self}
use Rattle.std.proofs.lemmas.List.{get_or_default}
use Rattle.maid_model.specs.declared.limits.TheConstants.{COUNT_END}
use Rattle.maid_model.specs.Bounds.{stopped}
use Rattle.node_sets.specs.Sets.{holds, IsIn}
use Rattle.node_sets.specs.declared.sets.NodeSet.{NodeSet}
use Rattle.size_precheck.specs.Classes.{IsLess}
use Rattle.size_precheck.specs.Joints.{product_below, factor, counted_over}
use Rattle.size_precheck.proofs.Counting.{stop_first}
use Rattle.size_precheck.proofs.Somewhere.{same_test}
use Rattle.size_precheck.proofs.Classing.{but, but_less}

products_same : (f g : ℕ → ℕ) (n : ℕ) → ((x : ℕ) → x < n → f x ≡ g x) → product_below f n ≡ product_below g n
products_same f g zero h = refl
products_same f g (suc n) h = let a = products_same f g n (λ x l. h x (omega arith)) in let b = h n (omega arith) in cc

-- the factor of one number, taken out
product_without : (f g : ℕ → ℕ) (v n : ℕ) → v < n → g v ≡ 1 → ((x : ℕ) → (x ≡ v → ⊥) → g x ≡ f x) → product_below f n ≡ f v * product_below g n
product_without f g v zero l one same = absurd (omega arith)
product_without f g v (suc n) l one same = go (ℕ_discrete v n) (product_without f g v n)
  where
    apart : (x n : ℕ) → x < n → n ≡ x → ⊥
    apart x n l e = omega arith

    below : (v n : ℕ) → v < suc n → (v ≡ n → ⊥) → v < n
    below v n l m = omega arith

    last : (p q : ℕ) → p * q ≡ q * (p * 1)
    last p q = grind arith

    moved : (a p q : ℕ) → (a * p) * q ≡ a * (p * q)
    moved a p q = grind arith

    go : Dec (v ≡ n) → (v < n → g v ≡ 1 → ((x : ℕ) → (x ≡ v → ⊥) → g x ≡ f x) → product_below f n ≡ f v * product_below g n) → product_below f (suc n) ≡ f v * product_below g (suc n)
    go (yes is) rec =
        let front : product_below f n ≡ product_below g n = products_same f g n (λ x k. sym (same x (λ e. apart x n k (sym is ∙ sym e)))) in
        ap (λ p. p * f n) front ∙ last (product_below g n) (f n) ∙ ap (λ q. q * (product_below g n * 1)) (ap f (sym is)) ∙ ap (λ q. f v * (product_below g n * q)) (sym one ∙ ap g is)
    go (no n_is) rec =
        ap (λ p. p * f n) (rec (below v n l n_is) one same) ∙ moved (f v) (product_below g n) (f n) ∙ ap (λ q. f v * (product_below g n * q)) (sym (same n (λ e. n_is (sym e))))

divided : (e a p cells : ℕ) → 0 < a → cells ≡ min (a * p) e → cells < e → cells / a ≡ min p e
divided e a p cells some is few =
    let whole : cells ≡ a * p = omega arith in
    let small : p ≤ a * p = at_least a p some in
    let kept : min p e ≡ p = omega arith in
    ap (λ n. n / a) whole ∙ mul-div_cancel_left p some ∙ sym kept
  where
    at_least : (a p : ℕ) → 0 < a → p ≤ a * p
    at_least zero p l = absurd (omega arith)
    at_least (suc a) p l = omega arith

in_range : (v n : ℕ) → v < 256 → n ≡ 256 → v < n
in_range v n l e = omega arith

-- the states of a node that leaves are divided out
pub divided_out : (states : List ℕ) (before : NodeSet) (after : ℕ → Bool) (v cells : ℕ) → length states ≡ 256 → v < 256 → IsIn before v → ((x : ℕ) → (after x ≡ true) ↔ (IsIn before x × (x ≡ v → ⊥)))
    → 0 < get_or states v 0 → cells < COUNT_END → cells ≡ counted_over states (holds before) → cells / get_or states v 0 ≡ counted_over states after
unfolding counted_over
divided_out states before after v cells len small inside less some few counted =
    let own : factor states (holds before) v ≡ get_or states v 0 = ap (λ b. cond b (get_or states v 1) 1) inside ∙ get_or_default states v 1 0 (in_range v (length states) small len) in
    let whole : product_below (factor states (holds before)) 256 ≡ get_or states v 0 * product_below (factor states after) 256 =
    product_without (factor states (holds before)) (factor states after) v 256 small (ap (λ b. cond b (get_or states v 1) 1) gone) (λ x n. ap (λ b. cond b (get_or states x 1) 1) (same x n)) ∙ ap (λ q. q * product_below (factor states after) 256) own in
    divided COUNT_END (get_or states v 0) (product_below (factor states after) 256) cells some (counted ∙ ap (λ n. stopped n) whole) few
  where
    gone : after v ≡ false
    gone = false_of (after v) (λ m. ((less v).0 m).1 refl)
      where
        false_of : (b : Bool) → (b ≡ true → ⊥) → b ≡ false
        false_of true n = absurd (n refl)
        false_of false n = refl

    same : (x : ℕ) → (x ≡ v → ⊥) → after x ≡ holds before x
    same x n = same_test _ _ (λ m. ((less x).0 m).0) (λ m. (less x).1 (m, n))

pub divided_few : (cells a : ℕ) → cells < COUNT_END → cells / a ≤ COUNT_END
divided_few cells a l = let d = div-le_self cells a in few (cells / a) COUNT_END d l
  where
    few : (q e : ℕ) → q ≤ cells → cells < e → q ≤ e
    few q e d l = omega arith

-- ---- a set and the nodes that come to it
regroup : (a b c d : ℕ) → (a * b) * (c * d) ≡ (a * c) * (b * d)
regroup a b c d = grind arith

product_joined : (f g h : ℕ → ℕ) (n : ℕ) → ((x : ℕ) → f x ≡ g x * h x) → product_below f n ≡ product_below g n * product_below h n
product_joined f g h zero same = refl
product_joined f g h (suc n) same =
    ap (λ p. p * f n) (product_joined f g h n same) ∙ ap (λ q. (product_below g n * product_below h n) * q) (same n) ∙ regroup (product_below g n) (product_below h n) (g n) (h n)

stopped_both : (e p q left joined : ℕ) → left ≡ min p e → joined ≡ min q e → min (left * joined) e ≡ min (p * q) e
stopped_both e p q left joined is also =
    ap (λ a. min (a * joined) e) is ∙ stop_first e p joined ∙ ap (λ n. min n e) (swap p joined) ∙ ap (λ b. min (b * p) e) also ∙ stop_first e q p ∙ ap (λ n. min n e) (swap q p)
  where
    swap : (a b : ℕ) → a * b ≡ b * a
    swap a b = grind arith

once : (s : ℕ) → s ≡ s * 1
once s = omega arith

one : (s : ℕ) → s ≡ 1 * s
one s = omega arith

-- the factor of a number
both : (a r k : Bool) (s : ℕ) → ((k ≡ true) ↔ ((a ≡ true) × (r ≡ true → ⊥))) → (r ≡ true → a ≡ true) → cond a s 1 ≡ cond r s 1 * cond k s 1
both true true true s is in_it = absurd ((is.0 refl).1 refl)
both true true false s is in_it = once s
both true false true s is in_it = one s
both true false false s is in_it = absurd (let e = is.1 (refl, λ f. absurd (cc)) in cc)
both false true k s is in_it = absurd (let e = in_it refl in cc)
both false false true s is in_it = absurd (let e = (is.0 refl).0 in cc)
both false false false s is in_it = refl

-- the cells of both are multiplied
pub joined_to : (states : List ℕ) (rest : ℕ → Bool) (came after : NodeSet) (left joined : ℕ) → ((x : ℕ) → IsIn came x ↔ (IsIn after x × (rest x ≡ true → ⊥))) → ((x : ℕ) → rest x ≡ true → IsIn after x)
    → left ≡ counted_over states rest → joined ≡ counted_over states (holds came) → stopped (left * joined) ≡ counted_over states (holds after)
unfolding counted_over
joined_to states rest came after left joined came_is inside left_is joined_is =
    stopped_both COUNT_END (product_below (factor states rest) 256) (product_below (factor states (holds came)) 256) left joined left_is joined_is
    ∙ ap (λ n. stopped n) (sym (product_joined (factor states (holds after)) (factor states rest) (factor states (holds came)) 256 (λ x. both (holds after x) (rest x) (holds came x) (get_or states x 1) (came_is x) (inside x))))

-- a node leaves and those of a scope come
pub put_counted : (states : List ℕ) (before scope out came after : NodeSet) (v cells joined : ℕ) → length states ≡ 256 → v < 256 → IsIn before v → 0 < get_or states v 0 → cells < COUNT_END
    → ((x : ℕ) → IsIn out x ↔ (x ≡ v)) → ((x : ℕ) → IsIn came x ↔ (IsIn scope x × (IsIn before x → ⊥)))
    → ((u : ℕ) → IsIn after u ↔ ((IsIn before u ⊎ IsIn scope u) × (IsIn out u → ⊥)))
    → cells ≡ counted_over states (holds before) → joined ≡ counted_over states (holds came) → stopped ((cells / get_or states v 0) * joined) ≡ counted_over states (holds after)
put_counted states before scope out came after v cells joined len small inside some few out_is came_is after_is counted joined_is =
    joined_to states (but v (holds before)) came after (cells / get_or states v 0) joined
    (λ x. (
      (λ m. let h = (came_is x).0 m in ((after_is x).1 (inr h.0, λ o. h.1 (subst (IsIn before) (sym ((out_is x).0 o)) inside)), λ r. h.1 (rest_is x r).0)),
      (λ h. let k = (after_is x).0 h.0 in (came_is x).1 (from x k.0 k.1 h.1, λ b. h.1 (rest_of x b (λ e. k.1 ((out_is x).1 e))))),
    ))
    (λ x r. let h = rest_is x r in (after_is x).1 (inl h.0, λ o. h.1 ((out_is x).0 o)))
    (divided_out states before (but v (holds before)) v cells len small inside (λ x. (rest_is x, λ h. rest_of x h.0 h.1)) some few counted)
    joined_is
  where
    less : IsLess (holds before) (but v (holds before)) v
    less = but_less (holds before) v

    rest_is : (x : ℕ) → but v (holds before) x ≡ true → IsIn before x × (x ≡ v → ⊥)
    rest_is x r = let n : x ≡ v → ⊥ = (λ e. less.own (subst (λ y. but v (holds before) y ≡ true) e r)) in (sym (less.others x n) ∙ r, n)

    rest_of : (x : ℕ) → IsIn before x → (x ≡ v → ⊥) → but v (holds before) x ≡ true
    rest_of x m n = less.others x n ∙ m

    from : (x : ℕ) → IsIn before x ⊎ IsIn scope x → (IsIn out x → ⊥) → (but v (holds before) x ≡ true → ⊥) → IsIn scope x
    from x (inl b) o r = absurd (r (rest_of x b (λ e. o ((out_is x).1 e))))
    from x (inr s) o r = s

-- so they do in another set of the same nodes
pub put_anew : (states : List ℕ) (before scope out both again after : NodeSet) → ((x : ℕ) → IsIn both x ↔ (IsIn before x ⊎ IsIn scope x)) → ((x : ℕ) → IsIn again x ↔ (IsIn both x × (IsIn out x → ⊥)))
    → ((u : ℕ) → IsIn after u ↔ ((IsIn before u ⊎ IsIn scope u) × (IsIn out u → ⊥)))
    → counted_over states (holds again) ≡ counted_over states (holds after)
put_anew states before scope out both again after both_is again_is after_is =
    ap (λ (t : ℕ → Bool). counted_over states t) (fun_ext (λ x. same_test _ _
    (λ m. let h = (again_is x).0 m in (after_is x).1 ((both_is x).0 h.0, h.1))
    (λ m. let h = (after_is x).0 m in (again_is x).1 ((both_is x).1 h.0, h.1))))
