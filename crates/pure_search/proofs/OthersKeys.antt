-- Lists of choices have the same key exactly where they agree on the others' choices.
use Rattle.std.proofs.Common.{◌≡◌, ◌≢◌, ◌∙◌, ℕ, zero, suc, ◌+◌, ◌*◌, ◌<◌, ◌≤◌, Bool, true, false, cond, eqb, List, [], ◌∷◌, length, drop, slice_index, refl, sym, ap, subst, arith, drop-cons, add-one}
use Rattle.std.proofs.Math.Nat.{mul-le-mul_right}
use Rattle.std.proofs.Math.Decide.{dec_lt, ℕ_discrete}
use Rattle.maid_model.specs.Worlds.{IsWorld, worlds}
use Rattle.maid_model.proofs.Next.{AllPositive, counts_positive}
use Rattle.maid_laws.proofs.Booleans.{eqb_yes, eqb_no}
use Rattle.reach_laws.proofs.Listed.{Fits, fits_of}
use Rattle.pure_search.specs.Games.{key_from, unless_own}
use Rattle.pure_search.proofs.Counted.{worlds_step}

-- ---- one digit
smaller : (n a b x y : ℕ) → x < n → a < b → a * n + x ≡ b * n + y → ⊥
smaller n a b x y h l e =
    let more : suc a * n ≤ b * n = mul-le-mul_right n l in
    let next : suc a * n ≡ a * n + n = again a n in
    omega (arith, more, next, e, h)
  where
    again : (a n : ℕ) → suc a * n ≡ a * n + n
    again a n = omega arith

pub one_digit : (n a b x y : ℕ) → x < n → y < n → a * n + x ≡ b * n + y → (a ≡ b) × (x ≡ y)
one_digit n a b x y h k e = go (dec_lt a b) (dec_lt b a)
  where
    same : (a b : ℕ) → (a < b → ⊥) → (b < a → ⊥) → a ≡ b
    same a b m l = omega arith

    rest : (p q x y : ℕ) → p + x ≡ q + y → p ≡ q → x ≡ y
    rest p q x y e f = omega arith

    go : Dec (a < b) → Dec (b < a) → (a ≡ b) × (x ≡ y)
    go (yes l) d = absurd (smaller n a b x y h l e)
    go (no m) (yes l) = absurd (smaller n b a y x k l (sym e))
    go (no m) (no l) = let f : a ≡ b = same a b m l in (f, rest (a * n) (b * n) x y e (ap (λ c. c * n) f))

-- ---- what is not the agent's own
own_less : (agent o x n : ℕ) → x < n → unless_own agent o x < n
own_less agent o x n h = by_test (eqb o agent)
  where
    by_test : (b : Bool) → cond b 0 x < n
    by_test true = omega arith
    by_test false = h

pub own_nought : (agent o x : ℕ) → o ≡ agent → unless_own agent o x ≡ 0
own_nought agent o x e = ap (λ b. cond b 0 x) (eqb_yes o agent e)

pub others_kept : (agent o x : ℕ) → o ≢ agent → unless_own agent o x ≡ x
others_kept agent o x n = ap (λ b. cond b 0 x) (eqb_no o agent n)

-- ---- the key
pub same_key : (agent a b : ℕ) (cs os xs ys : List ℕ) → Fits cs xs → Fits cs ys → length os ≡ length cs → key_from agent a cs os xs ≡ key_from agent b cs os ys
    → (a ≡ b) × ((i : ℕ) → i < length xs → slice_index os i ≢ agent → slice_index ys i ≡ slice_index xs i)
same_key agent a b [] os [] [] f g len e = (e, λ i l n. absurd (omega arith))
same_key agent a b [] os [] (y ∷ ys) f g len e = absurd g
same_key agent a b [] os (x ∷ xs) ys f g len e = absurd f
same_key agent a b (n ∷ cs) [] xs ys f g len e = absurd (omega (arith, len))
same_key agent a b (n ∷ cs) (o ∷ os) [] ys f g len e = absurd f
same_key agent a b (n ∷ cs) (o ∷ os) (x ∷ xs) [] f g len e = absurd g
same_key agent a b (n ∷ cs) (o ∷ os) (x ∷ xs) (y ∷ ys) f g len e =
    let rest = same_key agent (a * n + unless_own agent o x) (b * n + unless_own agent o y) cs os xs ys f.1 g.1 (omega (arith, len)) e in
    let digit = one_digit n a b (unless_own agent o x) (unless_own agent o y) (own_less agent o x n f.0) (own_less agent o y n g.0) rest.0 in
    (digit.0, each digit.1 rest.1)
  where
    each : unless_own agent o x ≡ unless_own agent o y → ((i : ℕ) → i < length xs → slice_index os i ≢ agent → slice_index ys i ≡ slice_index xs i)
        → (i : ℕ) → i < suc (length xs) → slice_index (o ∷ os) i ≢ agent → slice_index (y ∷ ys) i ≡ slice_index (x ∷ xs) i
    each d h zero l m = sym (others_kept agent o y m) ∙ sym d ∙ others_kept agent o x m
    each d h (suc i) l m = h i (omega arith) m

pub key_of_same : (agent a : ℕ) (cs os xs ys : List ℕ) → Fits cs xs → Fits cs ys → length os ≡ length cs
    → ((i : ℕ) → i < length xs → slice_index os i ≢ agent → slice_index ys i ≡ slice_index xs i) → key_from agent a cs os xs ≡ key_from agent a cs os ys
key_of_same agent a [] os [] [] f g len h = refl
key_of_same agent a [] os [] (y ∷ ys) f g len h = absurd g
key_of_same agent a [] os (x ∷ xs) ys f g len h = absurd f
key_of_same agent a (n ∷ cs) [] xs ys f g len h = absurd (omega (arith, len))
key_of_same agent a (n ∷ cs) (o ∷ os) [] ys f g len h = absurd f
key_of_same agent a (n ∷ cs) (o ∷ os) (x ∷ xs) [] f g len h = absurd g
key_of_same agent a (n ∷ cs) (o ∷ os) (x ∷ xs) (y ∷ ys) f g len h =
    ap (λ d. key_from agent (a * n + d) cs os xs) (digit (ℕ_discrete o agent))
    ∙ key_of_same agent (a * n + unless_own agent o y) cs os xs ys f.1 g.1 (omega (arith, len)) (λ i l m. h (suc i) (omega arith) m)
  where
    digit : Dec (o ≡ agent) → unless_own agent o x ≡ unless_own agent o y
    digit (yes e) = own_nought agent o x e ∙ sym (own_nought agent o y e)
    digit (no m) = others_kept agent o x m ∙ sym (h 0 (omega arith) m) ∙ sym (others_kept agent o y m)

-- ---- the key has room
less_than : (n key u w : ℕ) → u < n → suc (key * n + u) * w ≤ suc key * (n * w)
less_than n key u w h =
    let more : suc (key * n + u) * w ≤ (key * n + n) * w = mul-le-mul_right w (omega (arith, h)) in
    let same : (key * n + n) * w ≡ suc key * (n * w) = group key n w in
    omega (arith, more, same)
  where
    group : (k n w : ℕ) → (k * n + n) * w ≡ suc k * (n * w)
    group k n w = omega arith

pub key_within : (agent key : ℕ) (cs os xs : List ℕ) → Fits cs xs → length os ≡ length cs → key_from agent key cs os xs < suc key * length (worlds cs)
key_within agent key [] os [] f len = omega arith
key_within agent key [] os (x ∷ xs) f len = absurd f
key_within agent key (n ∷ cs) [] xs f len = absurd (omega (arith, len))
key_within agent key (n ∷ cs) (o ∷ os) [] f len = absurd f
key_within agent key (n ∷ cs) (o ∷ os) (x ∷ xs) f len =
    let rest = key_within agent (key * n + unless_own agent o x) cs os xs f.1 (omega (arith, len)) in
    let more = less_than n key (unless_own agent o x) (length (worlds cs)) (own_less agent o x n f.0) in
    let whole : length (worlds (n ∷ cs)) ≡ n * length (worlds cs) = worlds_step n cs in
    subst (λ w. key_from agent (key * n + unless_own agent o x) cs os xs < suc key * w) (sym whole) (omega (arith, rest, more))

grows_step : (n key u : ℕ) → 0 < n → key ≤ key * n + u
grows_step n key u h = let more : key * 1 ≤ key * n = times key in omega (arith, more)
  where
    times : (k : ℕ) → k * 1 ≤ k * n
    times k = go n h
      where
        go : (n : ℕ) → 0 < n → k * 1 ≤ k * n
        go zero l = absurd (omega arith)
        go (suc n) l = omega arith

pub key_grows : (agent key : ℕ) (cs os xs : List ℕ) → AllPositive cs → key ≤ key_from agent key cs os xs
key_grows agent key [] os xs p = omega arith
key_grows agent key (n ∷ cs) [] xs p = omega arith
key_grows agent key (n ∷ cs) (o ∷ os) [] p = omega arith
key_grows agent key (n ∷ cs) (o ∷ os) (x ∷ xs) p =
    let rest = key_grows agent (key * n + unless_own agent o x) cs os xs p.1 in
    let one = grows_step n key (unless_own agent o x) p.0 in
    omega (arith, rest, one)

pub positive_drop : (i : ℕ) (cs : List ℕ) → AllPositive cs → AllPositive (drop i cs)
positive_drop zero cs p = p
positive_drop (suc i) [] p = tt
positive_drop (suc i) (c ∷ cs) p = positive_drop i cs p.1

-- ---- the loop over places
module _ (agent key place : ℕ) (cs os xs : List ℕ) (w : IsWorld cs xs) (len : length os ≡ length cs) (l : place < length cs) where
  digit : ℕ
  digit = unless_own agent (slice_index os place) (slice_index xs place)

  next : key_from agent key (drop place cs) (drop place os) (drop place xs) ≡ key_from agent (key * slice_index cs place + unless_own agent (slice_index os place) (slice_index xs place)) (drop (suc place) cs) (drop (suc place) os) (drop (suc place) xs)
  next =
      (λ i. key_from agent key (drop-cons cs place 0 l i) (drop-cons os place 0 (omega (arith, len, l)) i) (drop-cons xs place 0 (omega (arith, w.len, l)) i))

  pub next_digit : key_from agent (key * slice_index cs place + unless_own agent (slice_index os place) (slice_index xs place)) (drop (place + 1) cs) (drop (place + 1) os) (drop (place + 1) xs) ≡ key_from agent key (drop place cs) (drop place os) (drop place xs)
  next_digit = ap (λ p. key_from agent (key * slice_index cs place + unless_own agent (slice_index os place) (slice_index xs place)) (drop p cs) (drop p os) (drop p xs)) (add-one place) ∙ sym next

  pub digit_fits : (most : ℕ) → key_from agent key (drop place cs) (drop place os) (drop place xs) < most → key * slice_index cs place + unless_own agent (slice_index os place) (slice_index xs place) < most
  digit_fits most h =
      let grows = key_grows agent (key * slice_index cs place + unless_own agent (slice_index os place) (slice_index xs place)) (drop (suc place) cs) (drop (suc place) os) (drop (suc place) xs) (positive_drop (suc place) cs (counts_positive cs xs w)) in
      omega (arith, grows, h, next)

pub no_more : (agent key place : ℕ) (cs os xs : List ℕ) → length cs ≤ place → key_from agent key (drop place cs) os xs ≡ key
no_more agent key place [] os xs l = by_place place
  where
    by_place : (p : ℕ) → key_from agent key (drop p []) os xs ≡ key
    by_place zero = refl
    by_place (suc p) = refl
no_more agent key zero (c ∷ cs) os xs l = absurd (omega arith)
no_more agent key (suc place) (c ∷ cs) os xs l = no_more agent key place cs os xs (omega arith)

pub key_small : (agent : ℕ) (cs os xs : List ℕ) → IsWorld cs xs → length os ≡ length cs → key_from agent 0 cs os xs < length (worlds cs)
key_small agent cs os xs w len = let h = key_within agent 0 cs os xs (fits_of cs xs w) len in omega (arith, h)
