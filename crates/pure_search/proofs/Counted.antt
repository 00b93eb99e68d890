-- How many lists of choices there are.
use Rattle.std.proofs.Common.{◌≡◌, ◌∙◌, ℕ, zero, suc, ◌+◌, ◌*◌, ◌<◌, ◌≤◌, List, [], ◌∷◌, ◌++◌, map, length, take, slice_index, refl, sym, ap, arith, min, add-one}
use Rattle.std.proofs.Math.Nat.{mul-le-mul_right}
use Rattle.std.proofs.Math.Decide.{dec_lt}
use Rattle.std.proofs.lemmas.List.{length-map}
use Rattle.maid_model.specs.declared.limits.TheConstants.{COUNT_END}
use Rattle.maid_model.specs.Bounds.{stopped}
use Rattle.maid_model.specs.Worlds.{worlds}
use Rattle.reach_laws.proofs.Listed.{range_times}

-- one place more in front
pub worlds_step : (c : ℕ) (cs : List ℕ) → length (worlds (c ∷ cs)) ≡ c * length (worlds cs)
worlds_step c cs = range_times (λ s. map (λ xs. s ∷ xs) (worlds cs)) (length (worlds cs)) (λ s. length-map (worlds cs) (λ xs. s ∷ xs)) 0 c

-- and at the end
worlds_last : (cs : List ℕ) (c : ℕ) → length (worlds (cs ++ c ∷ [])) ≡ length (worlds cs) * c
worlds_last [] c = worlds_step c [] ∙ one c
  where
    one : (c : ℕ) → c * 1 ≡ 1 * c
    one c = omega arith
worlds_last (d ∷ cs) c = worlds_step d (cs ++ c ∷ []) ∙ ap (λ n. d * n) (worlds_last cs c) ∙ group d (length (worlds cs)) c ∙ ap (λ n. n * c) (sym (worlds_step d cs))
  where
    group : (a b c : ℕ) → a * (b * c) ≡ a * b * c
    group a b c = omega arith

take_more : (cs : List ℕ) (i : ℕ) → i < length cs → take (suc i) cs ≡ take i cs ++ slice_index cs i ∷ []
take_more [] i l = absurd (omega arith)
take_more (c ∷ cs) zero l = refl
take_more (c ∷ cs) (suc i) l = ap (λ k. c ∷ k) (take_more cs i (omega arith))

-- a count that stopped stays so
stops : (p n e : ℕ) → min e (min p e * n) ≡ min (p * n) e
stops p zero e = omega arith
stops p (suc n) e = go (dec_lt e p)
  where
    whole : (m : ℕ) → m ≤ m * suc n
    whole m = omega arith

    at_end : (x y : ℕ) → e ≤ x → e ≤ y → min e x ≡ min y e
    at_end x y h k = omega arith

    turn : (x : ℕ) → min e x ≡ min x e
    turn x = omega arith

    least : (p e : ℕ) → e ≤ p → min p e ≡ e
    least p e h = omega arith

    own : (p e : ℕ) → p ≤ e → min p e ≡ p
    own p e h = omega arith

    go : Dec (e < p) → min e (min p e * suc n) ≡ min (p * suc n) e
    go (yes l) =
        let w = whole e in
        let more : e * suc n ≤ p * suc n = mul-le-mul_right (suc n) (omega arith) in
        ap (λ m. min e (m * suc n)) (least p e (omega arith)) ∙ at_end (e * suc n) (p * suc n) w (omega (arith, w, more))
    go (no m) = ap (λ x. min e (x * suc n)) (own p e (omega arith)) ∙ turn (p * suc n)

count_next : (cs : List ℕ) (i count : ℕ) → i < length cs → count ≡ stopped (length (worlds (take i cs))) → min COUNT_END (count * slice_index cs i) ≡ stopped (length (worlds (take (suc i) cs)))
count_next cs i count l e =
    ap (λ n. min COUNT_END (n * slice_index cs i)) e
    ∙ stops (length (worlds (take i cs))) (slice_index cs i) COUNT_END
    ∙ ap stopped (sym (ap (λ k. length (worlds k)) (take_more cs i l) ∙ worlds_last (take i cs) (slice_index cs i)))

pub count_more : (cs : List ℕ) (i count : ℕ) → i < length cs → count ≡ stopped (length (worlds (take i cs))) → min COUNT_END (count * slice_index cs i) ≡ stopped (length (worlds (take (i + 1) cs)))
count_more cs i count l e = count_next cs i count l e ∙ ap (λ k. stopped (length (worlds (take k cs)))) (sym (add-one i))
