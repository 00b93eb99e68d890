-- An answer is made along an order of solving: each base is put together from the rules answered
-- before, and each row takes its first best state.
use Rattle.std.proofs.Common.{◌≡◌, ◌≢◌, ◌⊎◌, ◌∙◌, ℕ, zero, suc, ◌+◌, ◌*◌, ◌^◌, ◌<◌, ◌≤◌, cond, eqb, List, [], ◌∷◌, All, flat_map, map, take, length, get_or, slice_index, refl, sym, ap, subst, inl, inr, arith, ℤ, pos, ◌≤ℤ◌, ◌<ℤ◌, nat_abs, Some, None}
use Rattle.std.proofs.lemmas.Int.{ints}
use Rattle.std.proofs.lemmas.List.{get_or-take, get_or_default, length-take}
use Rattle.std.proofs.lemmas.List.Elements.{All-map, All-from_get_or}
use Rattle.std.proofs.lemmas.List.FromFn.{length-map-range_with_len, get_or-map-range_with_len}
use Rattle.std.proofs.Math.Decide.{ℕ_discrete}
use Rattle.std.specs.List.{range_with_len}
use Rattle.std.specs.Prelude.{Contains, IfSome}
use Rattle.maid_model.specs.declared.answers.Ratio.{Ratio}
use Rattle.maid_model.specs.declared.answers.Row.{Row}
use Rattle.maid_model.specs.Answers.{IsAnswer, IsAnswerAt, IsAnswerRow, IsBase, IsFirstBest, IsReduced, IsExpectedUtility, FitsAnswer, pure_profile, rows_at, no_row}
use Rattle.maid_model.specs.Gains.{gain_at, mass_at, gain_of, mass}
use Rattle.maid_model.specs.Graph.{IsGraph, AllDifferent}
use Rattle.maid_model.specs.Nodes.{IsDecision, states_of, rows_of}
use Rattle.maid_model.specs.Placing.{IsRelianceOrder}
use Rattle.maid_model.specs.Profiles.{IsProfile, IsRule, uniform_profile, pure_row}
use Rattle.maid_model.specs.Relevance.{ReliesOn}
use Rattle.maid_model.specs.Tables.{HasChanceTables, weights_of, rule_total}
use Rattle.maid_model.specs.Views.{NodeView, RuleView, AnswerView, SolvedView}
use Rattle.maid_model.proofs.Pure.{pure_is_profile, pure_is_rule}
use Rattle.finite_sums.specs.Members.{Among}
use Rattle.maid_model.proofs.Uniform.{uniform_is_profile}
use Rattle.maid_laws.specs.Answers.{AnswerExists}
use Rattle.maid_laws.proofs.Booleans.{eqb_yes, eqb_no}
use Rattle.maid_laws.proofs.Choices.{made, made_at, made_profile}
use Rattle.maid_laws.proofs.Fractions.{fraction_of}
use Rattle.maid_laws.proofs.Members.{among_of, among_index, index_of}
use Rattle.maid_laws.proofs.OneAnswer.{scaled}
use Rattle.maid_laws.proofs.Optima.{scale_positive}
use Rattle.maid_laws.proofs.PureRules.{pure_weights, pure_total}
use Rattle.maid_laws.proofs.RelianceTold.{relies_told}
use Rattle.maid_laws.proofs.Rules.{among_decisions}
use Rattle.maid_laws.proofs.Tied.{tables_of}

-- ---- lists by place
-- a list of n items, each with its property
listed : {A : Type 0} (P : ℕ → A → Type 0) (n : ℕ) → ((i : ℕ) → (a : A) × P i a) → (xs : List A) × (length xs ≡ n) × ((i : ℕ) (d : A) → i < n → P i (get_or xs i d))
listed P n f = (
  map (λ i. (f i).0) (range_with_len 0 n),
  length-map-range_with_len (λ i. (f i).0) 0 n,
  λ i d l. subst (P i) (sym (get_or-map-range_with_len (λ i. (f i).0) 0 n i i d l (from_nought i))) (f i).1,
)
  where
    from_nought : (i : ℕ) → 0 + i ≡ i
    from_nought i = omega arith

-- different at different places
different_at : (xs : List ℕ) → ((i j : ℕ) → i < j → j < length xs → slice_index xs i ≢ slice_index xs j) → AllDifferent xs
different_at [] h = tt
different_at (x ∷ xs) h = (first, different_at xs (λ i j l m. h (suc i) (suc j) (omega arith) (omega arith)))
  where
    first : Contains xs x → ⊥
    first c = let f = index_of x xs (among_of x xs c) in h 0 (suc f.0) (omega arith) (let l : f.0 < length xs = f.1 in omega arith) (sym f.2)

-- the rows found at an answered decision
rows_found : (f : ℕ → List Row) (vs : List ℕ) (v : ℕ) → Among v vs → rows_at (map (λ v. record { decision = v; rows = f v }) vs) v ≡ f v
rows_found f [] v m = absurd m
rows_found f (u ∷ vs) v m = go (ℕ_discrete u v) m (rows_found f vs v)
  where
    go : Dec (u ≡ v) → (v ≡ u) ⊎ Among v vs → (Among v vs → rows_at (map (λ v. record { decision = v; rows = f v }) vs) v ≡ f v) → cond (eqb u v) (f u) (rows_at (map (λ v. record { decision = v; rows = f v }) vs) v) ≡ f v
    go (yes e) m r = ap (λ b. cond b (f u) (rows_at (map (λ v. record { decision = v; rows = f v }) vs) v)) (eqb_yes u v e) ∙ ap f e
    go (no n) (inl e) r = absurd (n (sym e))
    go (no n) (inr m) r = ap (λ b. cond b (f u) (rows_at (map (λ v. record { decision = v; rows = f v }) vs) v)) (eqb_no u v n) ∙ r m

followed : (f : ℕ → List Row) (vs : List ℕ) → map (λ (a : AnswerView). a.decision) (map (λ v. record { decision = v; rows = f v }) vs) ≡ vs
followed f [] = refl
followed f (v ∷ vs) = ap (λ l. v ∷ l) (followed f vs)

-- ---- one row
-- the first state with the greatest gain
first_best : (gain : ℕ → ℤ) (n : ℕ) → 0 < n → (x : ℕ) × IsFirstBest gain n x
first_best gain zero h = absurd (omega arith)
first_best gain (suc zero) h = (0, record { within = omega arith; greatest = λ s l. subst (λ s. gain s ≤ℤ gain 0) (nought s l) (same (gain 0)); first = λ s l. absurd (omega arith) })
  where
    nought : (s : ℕ) → s < 1 → 0 ≡ s
    nought s l = omega arith

    same : (a : ℤ) → a ≤ℤ a
    same a = omega (arith, ints)
first_best gain (suc (suc n)) h = go (first_best gain (suc n) (omega arith))
  where
    compare : (a b : ℤ) → (a <ℤ b) ⊎ (b ≤ℤ a)
    compare a b = grind (arith, ints)

    below : (a b c : ℤ) → a ≤ℤ b → b <ℤ c → a ≤ℤ c
    below a b c l m = omega (arith, ints)

    under : (a b c : ℤ) → a ≤ℤ b → b <ℤ c → a <ℤ c
    under a b c l m = omega (arith, ints)

    same : (a : ℤ) → a ≤ℤ a
    same a = omega (arith, ints)

    last : (s m : ℕ) → s < suc m → (s < m → ⊥) → m ≡ s
    last s m l k = omega arith

    inside : (x m : ℕ) → x < m → x < suc m
    inside x m l = omega arith

    at : (s m : ℕ) → (s < m) ⊎ (s < m → ⊥)
    at s m = grind arith

    go : (x : ℕ) × IsFirstBest gain (suc n) x → (x : ℕ) × IsFirstBest gain (suc (suc n)) x
    go (x, b) = pick (compare (gain x) (gain (suc n)))
      where
        pick : (gain x <ℤ gain (suc n)) ⊎ (gain (suc n) ≤ℤ gain x) → (x : ℕ) × IsFirstBest gain (suc (suc n)) x
        pick (inl l) = (suc n, record { within = omega arith; greatest = λ s m. most s m (at s (suc n)); first = λ s m. under (gain s) (gain x) (gain (suc n)) (b.greatest s m) l })
          where
            most : (s : ℕ) → s < suc (suc n) → (s < suc n) ⊎ (s < suc n → ⊥) → gain s ≤ℤ gain (suc n)
            most s m (inl k) = below (gain s) (gain x) (gain (suc n)) (b.greatest s k) l
            most s m (inr k) = subst (λ s. gain s ≤ℤ gain (suc n)) (last s (suc n) m k) (same (gain (suc n)))
        pick (inr l) = (x, record { within = inside x (suc n) b.within; greatest = λ s m. most s m (at s (suc n)); first = b.first })
          where
            most : (s : ℕ) → s < suc (suc n) → (s < suc n) ⊎ (s < suc n → ⊥) → gain s ≤ℤ gain x
            most s m (inl k) = b.greatest s k
            most s m (inr k) = subst (λ s. gain s ≤ℤ gain x) (last s (suc n) m k) l

-- an answered row, with a choice in range and a reduced worth
record IsMadeRow (nodes : List NodeView) (decimals : ℕ) (base : List RuleView) (d row : ℕ) (r : Row) : Type 0 where
  pub answer : IsAnswerRow nodes decimals base d row r
  pub choice : r.choice < states_of nodes d
  pub worth : IfSome r.worth IsReduced

made_row : (nodes : List NodeView) (decimals : ℕ) (base : List RuleView) (d row : ℕ) → 0 < states_of nodes d → (r : Row) × IsMadeRow nodes decimals base d row r
made_row nodes decimals base d row has = go (compare (pos 0) (mass_at nodes base d row))
  where
    compare : (a b : ℤ) → (a <ℤ b) ⊎ (b ≤ℤ a)
    compare a b = grind (arith, ints)

    clash : (a b : ℤ) → a <ℤ b → b ≤ℤ a → ⊥
    clash a b l m = omega (arith, ints)

    none : (m : ℤ) → pos 0 <ℤ m → m ≡ pos 0 → ⊥
    none m l e = omega (arith, ints)

    go : (pos 0 <ℤ mass_at nodes base d row) ⊎ (mass_at nodes base d row ≤ℤ pos 0) → (r : Row) × IsMadeRow nodes decimals base d row r
    go (inl m) =
        let c = first_best (λ s. gain_at nodes base d s row) (states_of nodes d) has in
        let w = fraction_of (gain_at nodes base d c.0 row) (nat_abs (mass_at nodes base d row) * 10 ^ decimals) (scaled (mass_at nodes base d row) decimals m) in (
          record { choice = c.0; worth = Some w.0 },
          record {
            answer = record { best = λ h. c.1; worth = λ h. (w.0, refl, w.1); never = λ e. absurd (none (mass_at nodes base d row) m e) };
            choice = c.1.within;
            worth = w.1.reduced;
          },
        )
    go (inr l) = (
      record { choice = 0; worth = None },
      record {
        answer = record { best = λ h. absurd (clash (pos 0) (mass_at nodes base d row) h l); worth = λ h. absurd (clash (pos 0) (mass_at nodes base d row) h l); never = λ e. (refl, refl) };
        choice = has;
        worth = tt;
      },
    )

-- ---- along the order
module _ (nodes : List NodeView) (decimals : ℕ) (g : IsGraph nodes) (order : List ℕ) where
  -- the base's rule of e: the answered one where d relies on e, else a uniform one
  total_in : (d e : ℕ) → Dec (ReliesOn nodes d e) → ℕ
  total_in d e (yes r) = 1
  total_in d e (no n) = rule_total (uniform_profile nodes) e

  weights_in : (ℕ → List Row) → (d e : ℕ) → Dec (ReliesOn nodes d e) → List ℕ
  weights_in found d e (yes r) = flat_map (pure_row (states_of nodes e)) (map (λ (r : Row). r.choice) (found e))
  weights_in found d e (no n) = weights_of (uniform_profile nodes) e

  base_in : (ℕ → List Row) → ℕ → List RuleView
  base_in found d = made nodes (λ e. total_in d e (relies_told nodes g d e)) (λ e. weights_in found d e (relies_told nodes g d e))

  rows_in : (found : ℕ → List Row) (d : ℕ)
      → (rows : List Row) × (length rows ≡ rows_of nodes d) × ((row : ℕ) (r : Row) → row < rows_of nodes d → IsMadeRow nodes decimals (base_in found d) d row (get_or rows row r))
  rows_in found d = listed (λ row r. IsMadeRow nodes decimals (base_in found d) d row r) (rows_of nodes d) (λ row. made_row nodes decimals (base_in found d) d row (g.has_state d))

  -- the rows of each decision once the first k are answered
  found : ℕ → ℕ → List Row
  found zero v = []
  found (suc k) v = cond (eqb v (slice_index order k)) (rows_in (found k) v).0 (found k v)

  found_new : (k : ℕ) → found (suc k) (slice_index order k) ≡ (rows_in (found k) (slice_index order k)).0
  unfolding found
  found_new k = ap (λ b. cond b (rows_in (found k) (slice_index order k)).0 (found k (slice_index order k))) (eqb_yes (slice_index order k) (slice_index order k) refl)

  found_old : (k v : ℕ) → v ≢ slice_index order k → found (suc k) v ≡ found k v
  unfolding found
  found_old k v n = ap (λ b. cond b (rows_in (found k) v).0 (found k v)) (eqb_no v (slice_index order k) n)

  module _ (is : IsRelianceOrder nodes order) where
    differ : (i j : ℕ) → i < j → j < length order → slice_index order i ≢ slice_index order j
    differ i j l m e =
        (is.placing j m).0.0.1
        (i, (let t = length-take j order in omega arith), get_or-take j order i (slice_index order j) l ∙ get_or_default order i (slice_index order j) 0 (omega arith) ∙ e)

    -- what is answered stays
    found_stays : (k j : ℕ) → j < k → k ≤ length order → found k (slice_index order j) ≡ found (suc j) (slice_index order j)
    found_stays zero j l m = absurd (omega arith)
    found_stays (suc k) j l m = go (ℕ_discrete j k) (found_stays k j)
      where
        less : (j k : ℕ) → j < suc k → j ≢ k → j < k
        less j k l n = omega arith

        go : Dec (j ≡ k) → (j < k → k ≤ length order → found k (slice_index order j) ≡ found (suc j) (slice_index order j)) → found (suc k) (slice_index order j) ≡ found (suc j) (slice_index order j)
        go (yes e) r = ap (λ i. found (suc i) (slice_index order j)) (sym e)
        go (no n) r = let h = less j k l n in found_old k (slice_index order j) (differ j k h (omega arith)) ∙ r h (omega arith)

    -- the rows of the decision at a place
    rows_there : (j : ℕ) → j < length order → found (length order) (slice_index order j) ≡ (rows_in (found j) (slice_index order j)).0
    rows_there j l = found_stays (length order) j l (omega arith) ∙ found_new j

    -- they fit, and so do those of each stage
    rows_fit : (k j : ℕ) → j < k → k ≤ length order → (length (found k (slice_index order j)) ≡ rows_of nodes (slice_index order j)) × All (λ (r : Row). r.choice < states_of nodes (slice_index order j)) (found k (slice_index order j)) × All (λ (r : Row). IfSome r.worth IsReduced) (found k (slice_index order j))
    rows_fit k j l m =
        let v = slice_index order j in
        let rows = rows_in (found j) v in
        subst (λ xs. (length xs ≡ rows_of nodes (slice_index order j)) × All (λ (r : Row). r.choice < states_of nodes (slice_index order j)) xs × All (λ (r : Row). IfSome r.worth IsReduced) xs) (sym (found_stays k j l m ∙ found_new j)) (
          rows.1,
          All-from_get_or (λ (r : Row). r.choice < states_of nodes v) rows.0 no_row (λ i h. (rows.2 i no_row (subst (λ n. i < n) rows.1 h)).choice),
          All-from_get_or (λ (r : Row). IfSome r.worth IsReduced) rows.0 no_row (λ i h. (rows.2 i no_row (subst (λ n. i < n) rows.1 h)).worth),
        )

    -- a decision relied on stands before
    place_before : (j e : ℕ) → j < length order → ReliesOn nodes (slice_index order j) e → (i : ℕ) × (i < j) × (slice_index order i ≡ e)
    place_before j e l r =
        let f = index_of e (take j order) (among_of e (take j order) ((is.placing j l).0.1 e r)) in
        let h : f.0 < j = let t : length (take j order) ≤ j = (let w = length-take j order in omega arith) in let u : f.0 < length (take j order) = f.1 in omega arith in
        (f.0, h, sym (get_or-take j order f.0 0 h) ∙ f.2)

    -- ---- the answers
    abbrev answers : List AnswerView
    answers = map (λ v. record { decision = v; rows = found (length order) v }) order

    place_of : (v : ℕ) → IsDecision nodes v → (j : ℕ) × (j < length order) × (slice_index order j ≡ v)
    place_of v k = index_of v order (among_of v order (is.complete v k))

    rows_are : (j : ℕ) → j < length order → rows_at answers (slice_index order j) ≡ found (length order) (slice_index order j)
    rows_are j l = rows_found (found (length order)) order (slice_index order j) (among_index order j l)

    answers_fit : (v : ℕ) → IsDecision nodes v → (length (rows_at answers v) ≡ rows_of nodes v) × All (λ (r : Row). r.choice < states_of nodes v) (rows_at answers v)
    answers_fit v k = go (place_of v k)
      where
        go : (j : ℕ) × (j < length order) × (slice_index order j ≡ v) → (length (rows_at answers v) ≡ rows_of nodes v) × All (λ (r : Row). r.choice < states_of nodes v) (rows_at answers v)
        go (j, l, e) =
            let f = rows_fit (length order) j l (omega arith) in
            subst (λ v. (length (rows_at answers v) ≡ rows_of nodes v) × All (λ (r : Row). r.choice < states_of nodes v) (rows_at answers v)) e
            (subst (λ xs. (length xs ≡ rows_of nodes (slice_index order j)) × All (λ (r : Row). r.choice < states_of nodes (slice_index order j)) xs) (sym (rows_are j l)) (f.0, f.1))

    -- ---- the base of the decision at a place
    module _ (j : ℕ) (l : j < length order) where
      abbrev d : ℕ
      d = slice_index order j

      abbrev base : List RuleView
      base = base_in (found j) d

      base_at : (e : ℕ) → IsDecision nodes e → (weights_of base e ≡ weights_in (found j) d e (relies_told nodes g d e)) × (rule_total base e ≡ total_in d e (relies_told nodes g d e))
      unfolding base_in
      base_at e k = made_at nodes (λ e. total_in d e (relies_told nodes g d e)) (λ e. weights_in (found j) d e (relies_told nodes g d e)) e (among_decisions nodes e k)

      rule_fits : (e : ℕ) → IsDecision nodes e → (c : Dec (ReliesOn nodes d e)) → IsRule nodes (record { decision = e; total = total_in d e c; weights = weights_in (found j) d e c })
      unfolding total_in weights_in
      rule_fits e k (yes r) = go (place_before j e l r)
        where
          go : (i : ℕ) × (i < j) × (slice_index order i ≡ e) → IsRule nodes (record { decision = e; total = 1; weights = flat_map (pure_row (states_of nodes e)) (map (λ (r : Row). r.choice) (found j e)) })
          go (i, h, f) =
              let w = rows_fit j i h (omega arith) in
              pure_is_rule nodes e (found j e) (subst (λ e. length (found j e) ≡ rows_of nodes e) f w.0) (subst (λ e. All (λ (r : Row). r.choice < states_of nodes e) (found j e)) f w.1)
      rule_fits e k (no n) = (uniform_is_profile nodes g).rule e k

      -- the rows that e had are those that it has
      rows_kept : (e : ℕ) → ReliesOn nodes d e → found j e ≡ rows_at answers e
      rows_kept e r = go (place_before j e l r)
        where
          go : (i : ℕ) × (i < j) × (slice_index order i ≡ e) → found j e ≡ rows_at answers e
          go (i, h, f) = subst (λ e. found j e ≡ rows_at answers e) f (found_stays j i h (omega arith) ∙ sym (found_stays (length order) i (omega arith) (omega arith)) ∙ sym (rows_are i (omega arith)))

      weights_relied : (e : ℕ) → ReliesOn nodes d e → (c : Dec (ReliesOn nodes d e)) → weights_in (found j) d e c ≡ flat_map (pure_row (states_of nodes e)) (map (λ (r : Row). r.choice) (rows_at answers e))
      unfolding weights_in
      weights_relied e r (yes q) = ap (λ rows. flat_map (pure_row (states_of nodes e)) (map (λ (r : Row). r.choice) rows)) (rows_kept e r)
      weights_relied e r (no n) = absurd (n r)

      total_relied : (e : ℕ) → ReliesOn nodes d e → (c : Dec (ReliesOn nodes d e)) → total_in d e c ≡ 1
      unfolding total_in
      total_relied e r (yes q) = refl
      total_relied e r (no n) = absurd (n r)

      weights_else : (e : ℕ) → (ReliesOn nodes d e → ⊥) → (c : Dec (ReliesOn nodes d e)) → weights_in (found j) d e c ≡ weights_of (uniform_profile nodes) e
      unfolding weights_in
      weights_else e n (yes r) = absurd (n r)
      weights_else e n (no m) = refl

      total_else : (e : ℕ) → (ReliesOn nodes d e → ⊥) → (c : Dec (ReliesOn nodes d e)) → total_in d e c ≡ rule_total (uniform_profile nodes) e
      unfolding total_in
      total_else e n (yes r) = absurd (n r)
      total_else e n (no m) = refl

      base_profile : IsProfile nodes base
      unfolding base_in
      base_profile = made_profile nodes (λ e. total_in d e (relies_told nodes g d e)) (λ e. weights_in (found j) d e (relies_told nodes g d e)) (λ e k. rule_fits e k (relies_told nodes g d e))

      -- it is the base in the answered profile
      is_base : IsBase nodes (pure_profile nodes answers) d base
      is_base = record {
        profile = base_profile;
        relied = λ e r. record {
          weights = (base_at e r.on_decision).0 ∙ weights_relied e r (relies_told nodes g d e) ∙ sym (pure_weights nodes answers e r.on_decision);
          total = (base_at e r.on_decision).1 ∙ total_relied e r (relies_told nodes g d e) ∙ sym (pure_total nodes answers e r.on_decision);
        };
        others = λ e k n. record { weights = (base_at e k).0 ∙ weights_else e n (relies_told nodes g d e); total = (base_at e k).1 ∙ total_else e n (relies_told nodes g d e) };
      }

      answered_there : IsAnswerAt nodes decimals (pure_profile nodes answers) d (rows_at answers d)
      answered_there = record {
        base = base;
        is_base = is_base;
        each = λ row h. subst (λ rows. IsAnswerRow nodes decimals base d row (get_or rows row no_row)) (sym (rows_are j l ∙ rows_there j l)) ((rows_in (found j) d).2 row no_row h).answer;
      }

      answer_fits : FitsAnswer nodes (record { decision = d; rows = found (length order) d })
      answer_fits = let f = rows_fit (length order) j l (omega arith) in record { decision = (is.placing j l).0.0.0; rows = f.0; choices = f.1; worths = f.2 }

    -- ---- the whole answer
    answered_at : (v : ℕ) → IsDecision nodes v → IsAnswerAt nodes decimals (pure_profile nodes answers) v (rows_at answers v)
    answered_at v k = go (place_of v k)
      where
        go : (j : ℕ) × (j < length order) × (slice_index order j ≡ v) → IsAnswerAt nodes decimals (pure_profile nodes answers) v (rows_at answers v)
        go (j, l, e) = subst (λ v. IsAnswerAt nodes decimals (pure_profile nodes answers) v (rows_at answers v)) e (answered_there j l)

    all_fit : All (FitsAnswer nodes) answers
    all_fit = All-map (FitsAnswer nodes) (λ v. record { decision = v; rows = found (length order) v }) order
        (All-from_get_or (λ v. FitsAnswer nodes (record { decision = v; rows = found (length order) v })) order 0 (λ j l. answer_fits j l))

    module _ (c : HasChanceTables nodes) (agents : ℕ) where
      plan_profile : IsProfile nodes (pure_profile nodes answers)
      plan_profile = pure_is_profile nodes answers answers_fit

      gains : (rs : List Ratio) × (length rs ≡ agents) × ((agent : ℕ) (r : Ratio) → agent < agents → IsExpectedUtility nodes (10 ^ decimals) (pure_profile nodes answers) agent (get_or rs agent r))
      gains = listed (λ agent r. IsExpectedUtility nodes (10 ^ decimals) (pure_profile nodes answers) agent r) agents
          (λ agent. fraction_of (gain_of nodes (pure_profile nodes answers) agent) (mass nodes (pure_profile nodes answers) * 10 ^ decimals) (scale_positive nodes (pure_profile nodes answers) decimals (tables_of nodes (pure_profile nodes answers) g c plan_profile)))

      pub solved : SolvedView
      solved = record { order = order; answers = answers; gains = gains.0 }

      pub is_answer : IsAnswer (record { nodes = nodes; agents = agents; decimals = decimals }) solved
      unfolding solved
      is_answer = record {
        fits = record {
          follow = followed (found (length order)) order;
          answers = all_fit;
          all = is.complete;
          once = different_at order differ;
          gains = gains.1;
          reduced = All-from_get_or IsReduced gains.0 (record { num = pos 0; den = 1 }) (λ agent l. (gains.2 agent (record { num = pos 0; den = 1 }) (subst (λ n. agent < n) gains.1 l)).reduced);
        };
        order = is;
        answers = answered_at;
        gains = record { each = gains.2 };
      }

-- for every diagram
pub exists_law : AnswerExists
exists_law d g c order = (solved d.nodes d.decimals g order.0 order.1 c d.agents, is_answer d.nodes d.decimals g order.0 order.1 c d.agents)
