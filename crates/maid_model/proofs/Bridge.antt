-- A sum over the list of all worlds is the sum over the nodes.
use Rattle.std.proofs.Common.{◌≡◌, ℕ, zero, suc, ◌+◌, ◌<◌, List, [], ◌∷◌, ◌++◌, map, get_or, flat_map, ℤ, ◌+ℤ◌, refl, sym, ap, ◌∙◌, arith}
use Rattle.std.proofs.Math.Path.{fun_ext}
use Rattle.std.proofs.Math.IntN.{+ℤ_assoc, +ℤ_idl, +ℤ_idr}
use Rattle.std.specs.List.{range_with_len}
use Rattle.finite_sums.specs.Sums.{World, with_state, sum_below, sum_over}
use Rattle.maid_model.specs.Worlds.{sum_list, worlds, world_of}
use Rattle.finite_sums.proofs.Sums.{sum_below_cong, with_same, with_other}
use Rattle.finite_sums.proofs.Ranges.{range_push}

pub sum_list-append : {X : Type 0} (f : X → ℤ) (xs ys : List X) → sum_list f (xs ++ ys) ≡ sum_list f xs +ℤ sum_list f ys
sum_list-append f [] ys = sym (+ℤ_idl (sum_list f ys))
sum_list-append f (x ∷ xs) ys = ap (λ y. f x +ℤ y) (sum_list-append f xs ys) ∙ sym (+ℤ_assoc (f x) (sum_list f xs) (sum_list f ys))

pub sum_list-map : {X Y : Type 0} (f : Y → ℤ) (g : X → Y) (xs : List X) → sum_list f (map g xs) ≡ sum_list (λ x. f (g x)) xs
sum_list-map f g [] = refl
sum_list-map f g (x ∷ xs) = ap (λ y. f (g x) +ℤ y) (sum_list-map f g xs)

pub sum_list-flat_map : {X Y : Type 0} (f : Y → ℤ) (g : X → List Y) (xs : List X) → sum_list f (flat_map g xs) ≡ sum_list (λ x. sum_list f (g x)) xs
sum_list-flat_map f g [] = refl
sum_list-flat_map f g (x ∷ xs) = sum_list-append f (g x) (flat_map g xs) ∙ ap (λ y. sum_list f (g x) +ℤ y) (sum_list-flat_map f g xs)

pub sum_list-cong : {X : Type 0} (f g : X → ℤ) → ((x : X) → f x ≡ g x) → (xs : List X) → sum_list f xs ≡ sum_list g xs
sum_list-cong f g h xs = ap (λ k. sum_list k xs) (fun_ext h)

sum_list-range : (n : ℕ) (f : ℕ → ℤ) → sum_list f (range_with_len 0 n) ≡ sum_below n f
sum_list-range zero f = refl
sum_list-range (suc n) f =
    ap (sum_list f) (range_push 0 n) ∙ sum_list-append f (range_with_len 0 n) ((0 + n) ∷ [])
    ∙ ap (λ y. sum_list f (range_with_len 0 n) +ℤ y) (+ℤ_idr (f (0 + n)) ∙ ap f (z n)) ∙ ap (λ y. y +ℤ f n) (sum_list-range n f)
  where
    z : (n : ℕ) → 0 + n ≡ n
    z n = omega arith

-- the world w with the states xs at the nodes from k on
abbrev put : ℕ → List ℕ → World → World
put k [] w = w
put k (x ∷ xs) w = put (k + 1) xs (with_state w k x)

sum_worlds_from : (count : ℕ → ℕ) (k n : ℕ) (f : World → ℤ) (w : World) → sum_list (λ xs. f (put k xs w)) (worlds (map count (range_with_len k n))) ≡ sum_over count (range_with_len k n) f w
sum_worlds_from count k zero f w = +ℤ_idr (f w)
sum_worlds_from count k (suc n) f w =
    sum_list-flat_map (λ xs. f (put k xs w)) (λ s. map (λ xs. s ∷ xs) (worlds (map count (range_with_len (k + 1) n)))) (range_with_len 0 (count k))
    ∙ sum_list-range (count k) (λ s. sum_list (λ xs. f (put k xs w)) (map (λ xs. s ∷ xs) (worlds (map count (range_with_len (k + 1) n)))))
    ∙ sum_below_cong (count k) (λ s. sum_list (λ xs. f (put k xs w)) (map (λ xs. s ∷ xs) (worlds (map count (range_with_len (k + 1) n))))) (λ s. sum_over count (range_with_len (k + 1) n) f (with_state w k s))
    (λ s l. sum_list-map (λ xs. f (put k xs w)) (λ xs. s ∷ xs) (worlds (map count (range_with_len (k + 1) n))) ∙ sum_worlds_from count (k + 1) n f (with_state w k s))

put_before : (k : ℕ) (xs : List ℕ) (w : World) (u : ℕ) → u < k → put k xs w u ≡ w u
put_before k [] w u h = refl
put_before k (x ∷ xs) w u h = put_before (k + 1) xs (with_state w k x) u (omega (arith, h)) ∙ with_other w k x u (λ e. omega (arith, h, e))

put_at : (k : ℕ) (xs : List ℕ) (w : World) (j : ℕ) → put k xs w (k + j) ≡ get_or xs j (w (k + j))
put_at k [] w j = refl
put_at k (x ∷ xs) w zero =
    ap (put (k + 1) xs (with_state w k x)) (none k) ∙ put_before (k + 1) xs (with_state w k x) k (omega arith) ∙ with_same w k x
  where
    none : (k : ℕ) → k + 0 ≡ k
    none k = omega arith
put_at k (x ∷ xs) w (suc j) =
    ap (put (k + 1) xs (with_state w k x)) (shift k j) ∙ put_at (k + 1) xs (with_state w k x) j
    ∙ ap (get_or xs j) (with_other w k x (k + 1 + j) (λ e. omega (arith, e)) ∙ ap w (sym (shift k j)))
  where
    shift : (k j : ℕ) → k + suc j ≡ k + 1 + j
    shift k j = omega arith

put_is : (xs : List ℕ) → put 0 xs (λ v. 0) ≡ world_of xs
put_is xs = fun_ext (λ v. ap (put 0 xs (λ v. 0)) (z v) ∙ put_at 0 xs (λ v. 0) v)
  where
    z : (v : ℕ) → v ≡ 0 + v
    z v = omega arith

-- the bridge
pub sum_over_worlds : (count : ℕ → ℕ) (n : ℕ) (f : World → ℤ) → sum_list (λ xs. f (world_of xs)) (worlds (map count (range_with_len 0 n))) ≡ sum_over count (range_with_len 0 n) f (λ v. 0)
sum_over_worlds count n f =
    sum_list-cong (λ xs. f (world_of xs)) (λ xs. f (put 0 xs (λ v. 0))) (λ xs. ap f (sym (put_is xs))) (worlds (map count (range_with_len 0 n)))
    ∙ sum_worlds_from count 0 n f (λ v. 0)
