-- The greatest entries of each key, entry by entry, and the marks that stay.
use Rattle.std.proofs.Common.{◌≡◌, ◌≢◌, ◌∙◌, ◌↔◌, ℕ, suc, ◌+◌, ◌<◌, ◌≤◌, Bool, true, false, List, length, set, slice_index, slice_index_or, refl, sym, ap, subst, arith, add-one, not, T, FitsSigned, ℤ, pos, ◌≤ℤ◌, ◌<ℤ◌}
use Rattle.std.proofs.lemmas.Int.{ints}
use Rattle.std.specs.Int.{w128}
use Rattle.std.specs.Int.Signed.{lt_z, lt_z_no, lt_z_yes}
use Rattle.std.proofs.lemmas.List.{get_or-set_same, get_or-set_other, length-set}
use Rattle.std.proofs.Math.Decide.{ℕ_discrete}
use Rattle.pure_search.specs.Games.{AreGreatest, IsGreatest, KeepsGreatest, least_signed}

-- a signed number is at least the least
pub least_is : (z : ℤ) → FitsSigned w128 z → least_signed ≤ℤ z
least_is z h = grind (arith, ints)

-- tests of signed numbers
pub less_told : (a b : ℤ) → lt_z a b ≡ true → a <ℤ b
less_told a b e = lt_z_yes (subst T (sym e) tt)

pub not_less_told : (a b : ℤ) → lt_z a b ≡ false → b ≤ℤ a
not_less_told a b e = lt_z_no (subst (λ t. T (not t)) (sym e) tt)

trans : (a b c : ℤ) → a ≤ℤ b → b ≤ℤ c → a ≤ℤ c
trans a b c h k = omega (arith, ints)

weaken : (a b : ℤ) → a <ℤ b → a ≤ℤ b
weaken a b h = omega (arith, ints)

upto : (a b : ℤ) → a ≡ b → a ≤ℤ b
upto a b e = omega (arith, ints)

clash : (a b : ℤ) → a <ℤ b → b ≤ℤ a → ⊥
clash a b h k = omega (arith, ints)

up_to_last : (j n : ℕ) → j < suc n → j ≢ n → j < n
up_to_last j n l m = omega arith

below_next : (j n : ℕ) → j < n → j < suc n
below_next j n l = omega arith

-- nothing was seen yet
pub none_seen : (keys : List ℕ) (gains best : List ℤ) → length best ≡ length gains → ((key : ℕ) → key < length gains → slice_index_or best key (pos 0) ≡ least_signed) → AreGreatest keys gains 0 best
none_seen keys gains best len all = record {
  len = len;
  upper = λ j l. absurd (omega arith);
  least = λ key z l h k. subst (λ x. x ≤ℤ z) (sym (all key l)) h;
}

module _ (keys : List ℕ) (gains best : List ℤ) (n key : ℕ) (gain : ℤ) (so : AreGreatest keys gains n best) (l : key < length gains)
    (k_is : key ≡ slice_index keys n) (g_is : gain ≡ slice_index_or gains n (pos 0)) where
  -- the entry is greater than those before it
  greater : slice_index_or best key (pos 0) <ℤ gain → AreGreatest keys gains (suc n) (set best key gain)
  greater h = record { len = length-set best key gain ∙ so.len; upper = λ j m. upper j m (ℕ_discrete j n); least = λ q z m a b. least q z m a b (ℕ_discrete q key) }
    where
      own : slice_index_or (set best key gain) key (pos 0) ≡ gain
      own = get_or-set_same best key gain (pos 0) (subst (λ m. key < m) (sym so.len) l)

      upper : (j : ℕ) → j < suc n → Dec (j ≡ n) → slice_index_or gains j (pos 0) ≤ℤ slice_index_or (set best key gain) (slice_index keys j) (pos 0)
      upper j m (yes e) =
          let place : slice_index keys j ≡ key = ap (slice_index keys) e ∙ sym k_is in
          upto (slice_index_or gains j (pos 0)) (slice_index_or (set best key gain) (slice_index keys j) (pos 0))
          (ap (λ i. slice_index_or gains i (pos 0)) e ∙ sym g_is ∙ sym own ∙ ap (λ q. slice_index_or (set best key gain) q (pos 0)) (sym place))
      upper j m (no d) = by_key (ℕ_discrete (slice_index keys j) key) (so.upper j (up_to_last j n m d))
        where
          by_key : Dec (slice_index keys j ≡ key) → slice_index_or gains j (pos 0) ≤ℤ slice_index_or best (slice_index keys j) (pos 0) → slice_index_or gains j (pos 0) ≤ℤ slice_index_or (set best key gain) (slice_index keys j) (pos 0)
          by_key (yes e) u =
              subst (λ q. slice_index_or gains j (pos 0) ≤ℤ slice_index_or (set best key gain) q (pos 0)) (sym e)
              (subst (λ x. slice_index_or gains j (pos 0) ≤ℤ x) (sym own)
              (trans (slice_index_or gains j (pos 0)) (slice_index_or best key (pos 0)) gain (subst (λ q. slice_index_or gains j (pos 0) ≤ℤ slice_index_or best q (pos 0)) e u) (weaken (slice_index_or best key (pos 0)) gain h)))
          by_key (no m) u = subst (λ x. slice_index_or gains j (pos 0) ≤ℤ x) (sym (get_or-set_other best key (slice_index keys j) gain (pos 0) m)) u

      least : (q : ℕ) (z : ℤ) → q < length gains → least_signed ≤ℤ z → ((j : ℕ) → j < suc n → slice_index keys j ≡ q → slice_index_or gains j (pos 0) ≤ℤ z) → Dec (q ≡ key) → slice_index_or (set best key gain) q (pos 0) ≤ℤ z
      least q z m a b (yes e) =
          subst (λ x. x ≤ℤ z) (sym (ap (λ i. slice_index_or (set best key gain) i (pos 0)) e ∙ own))
          (subst (λ x. x ≤ℤ z) (sym g_is) (b n (omega arith) (sym k_is ∙ sym e)))
      least q z m a b (no d) = subst (λ x. x ≤ℤ z) (sym (get_or-set_other best key q gain (pos 0) d)) (so.least q z m a (λ j i. b j (below_next j n i)))

  pub seen_greater : slice_index_or best key (pos 0) <ℤ gain → AreGreatest keys gains (n + 1) (set best key gain)
  seen_greater h = subst (λ m. AreGreatest keys gains m (set best key gain)) (sym (add-one n)) (greater h)

  -- the entry is not
  less : gain ≤ℤ slice_index_or best key (pos 0) → AreGreatest keys gains (suc n) best
  less h = record { len = so.len; upper = λ j m. upper j m (ℕ_discrete j n); least = λ q z m a b. so.least q z m a (λ j i. b j (below_next j n i)) }
    where
      upper : (j : ℕ) → j < suc n → Dec (j ≡ n) → slice_index_or gains j (pos 0) ≤ℤ slice_index_or best (slice_index keys j) (pos 0)
      upper j m (yes e) =
          subst (λ i. slice_index_or gains i (pos 0) ≤ℤ slice_index_or best (slice_index keys i) (pos 0)) (sym e)
          (subst (λ q. slice_index_or gains n (pos 0) ≤ℤ slice_index_or best q (pos 0)) k_is
          (subst (λ g. g ≤ℤ slice_index_or best key (pos 0)) g_is h))
      upper j m (no d) = so.upper j (up_to_last j n m d)

  pub seen_less : gain ≤ℤ slice_index_or best key (pos 0) → AreGreatest keys gains (n + 1) best
  seen_less h = subst (λ m. AreGreatest keys gains m best) (sym (add-one n)) (less h)

-- ---- the marks
-- the marks before a place were looked at, and the others are as they were
pub record KeptSoFar (keys : List ℕ) (gains : List ℤ) (old now : List Bool) (place : ℕ) : Type 0 where
  pub len : length now ≡ length old
  pub before : (k : ℕ) → k < place → k < length old → (slice_index_or now k false ≡ true) ↔ ((slice_index_or old k false ≡ true) × IsGreatest keys gains k)
  pub behind : (k : ℕ) → place ≤ k → slice_index_or now k false ≡ slice_index_or old k false

pub none_kept : (keys : List ℕ) (gains : List ℤ) (old : List Bool) → KeptSoFar keys gains old old 0
none_kept keys gains old = record { len = refl; before = λ k l m. absurd (omega arith); behind = λ k l. refl }

pub all_kept : (keys : List ℕ) (gains : List ℤ) (old now : List Bool) (place : ℕ) → length old ≤ place → KeptSoFar keys gains old now place → KeepsGreatest keys gains old now
all_kept keys gains old now place h so = record { len = so.len; each = λ k l. so.before k (let m = l in omega (arith, m, h)) l }

module _ (keys : List ℕ) (gains best : List ℤ) (old now : List Bool) (place : ℕ) (a : AreGreatest keys gains (length gains) best) (l : place < length gains) (len : length old ≡ length gains)
    (within : slice_index keys place < length gains) (signed : least_signed ≤ℤ slice_index_or gains place (pos 0)) (so : KeptSoFar keys gains old now place) where
  -- a greater one has its key
  took : slice_index_or gains place (pos 0) <ℤ slice_index_or best (slice_index keys place) (pos 0) → KeptSoFar keys gains old (set now place false) (suc place)
  took h = record { len = length-set now place false ∙ so.len; before = λ k m i. before k m i (ℕ_discrete k place); behind = λ k m. behind k m }
    where
      own : slice_index_or (set now place false) place false ≡ false
      own = get_or-set_same now place false false (let e = so.len in omega (arith, l, len, e))

      not_greatest : IsGreatest keys gains place → ⊥
      not_greatest g = clash (slice_index_or gains place (pos 0)) (slice_index_or best (slice_index keys place) (pos 0)) h (a.least (slice_index keys place) (slice_index_or gains place (pos 0)) within signed (λ j i e. g j i e))

      before : (k : ℕ) → k < suc place → k < length old → Dec (k ≡ place) → (slice_index_or (set now place false) k false ≡ true) ↔ ((slice_index_or old k false ≡ true) × IsGreatest keys gains k)
      before k m i (yes e) =
          let here : slice_index_or (set now place false) k false ≡ false = ap (λ q. slice_index_or (set now place false) q false) e ∙ own in
          ((λ t. absurd (no_two (sym here ∙ t))), (λ g. absurd (not_greatest (subst (IsGreatest keys gains) e g.1))))
        where
          no_two : false ≡ true → ⊥
          no_two e = cc
      before k m i (no d) =
          let same : slice_index_or (set now place false) k false ≡ slice_index_or now k false = get_or-set_other now place k false false d in
          let old_one = so.before k (up_to_last k place m d) i in
          ((λ t. old_one.0 (sym same ∙ t)), (λ g. same ∙ old_one.1 g))

      behind : (k : ℕ) → suc place ≤ k → slice_index_or (set now place false) k false ≡ slice_index_or old k false
      behind k m = get_or-set_other now place k false false (λ e. absurd (omega (arith, m, e))) ∙ so.behind k (omega arith)

  pub taken : slice_index_or gains place (pos 0) <ℤ slice_index_or best (slice_index keys place) (pos 0) → KeptSoFar keys gains old (set now place false) (place + 1)
  taken h = subst (KeptSoFar keys gains old (set now place false)) (sym (add-one place)) (took h)

  -- none has
  stays : slice_index_or best (slice_index keys place) (pos 0) ≤ℤ slice_index_or gains place (pos 0) → KeptSoFar keys gains old now (suc place)
  stays h = record { len = so.len; before = λ k m i. before k m i (ℕ_discrete k place); behind = λ k m. so.behind k (omega arith) }
    where
      greatest : IsGreatest keys gains place
      greatest j i e =
          trans (slice_index_or gains j (pos 0)) (slice_index_or best (slice_index keys j) (pos 0)) (slice_index_or gains place (pos 0)) (a.upper j i)
          (subst (λ q. slice_index_or best q (pos 0) ≤ℤ slice_index_or gains place (pos 0)) (sym e) h)

      before : (k : ℕ) → k < suc place → k < length old → Dec (k ≡ place) → (slice_index_or now k false ≡ true) ↔ ((slice_index_or old k false ≡ true) × IsGreatest keys gains k)
      before k m i (yes e) =
          let same = so.behind place (omega arith) in (
            (λ t. (ap (λ q. slice_index_or old q false) e ∙ sym same ∙ ap (λ q. slice_index_or now q false) (sym e) ∙ t, subst (IsGreatest keys gains) (sym e) greatest)),
            (λ g. ap (λ q. slice_index_or now q false) e ∙ same ∙ ap (λ q. slice_index_or old q false) (sym e) ∙ g.0),
          )
      before k m i (no d) = so.before k (up_to_last k place m d) i

  pub stayed : slice_index_or best (slice_index keys place) (pos 0) ≤ℤ slice_index_or gains place (pos 0) → KeptSoFar keys gains old now (place + 1)
  stayed h = subst (KeptSoFar keys gains old now) (sym (add-one place)) (stays h)
