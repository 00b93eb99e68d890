-- A diagram has one answer: the order is settled place by place, and with it each base, each row
-- and each gain.
use Rattle.std.proofs.Common.{◌≡◌, ◌≢◌, ◌⊎◌, ◌∙◌, ℕ, zero, suc, ◌+◌, ◌*◌, ◌^◌, ◌<◌, ◌≤◌, cond, List, [], ◌∷◌, flat_map, map, take, length, get_or, slice_index, refl, sym, ap, subst, inl, inr, arith, ℤ, pos, negsuc, ◌*ℤ◌, ◌≤ℤ◌, ◌<ℤ◌, nat_abs, Some}
use Rattle.std.proofs.lemmas.Int.{ints}
use Rattle.std.proofs.lemmas.List.{ext_get_or, take_more_same, get_or-take, length-take}
use Rattle.std.proofs.Math.Decide.{ℕ_discrete, dec_lt}
use Rattle.std.proofs.Math.Nat.{mul-pos, one-le-pow}
use Rattle.std.proofs.Math.Seq.{take-length}
use Rattle.std.specs.Prelude.{Contains}
use Rattle.maid_model.specs.declared.answers.Ratio.{Ratio}
use Rattle.maid_model.specs.declared.answers.Row.{Row}
use Rattle.maid_model.specs.Answers.{IsAnswer, IsAnswerRow, IsBase, IsFirstBest, answered, rows_at, no_row}
use Rattle.maid_model.specs.Gains.{gain_at, mass_at, gain_of, mass}
use Rattle.maid_model.specs.Graph.{IsGraph}
use Rattle.maid_model.specs.Nodes.{IsDecision, states_of, rows_of}
use Rattle.maid_model.specs.Placing.{IsLeast, CanPlace, IsOrder}
use Rattle.maid_model.specs.Profiles.{SameRule, pure_row}
use Rattle.maid_model.specs.Relevance.{ReliesOn}
use Rattle.maid_model.specs.Tables.{HasChanceTables, weights_of, rule_total}
use Rattle.maid_model.specs.Views.{NodeView, RuleView, AnswerView, DiagramView, SolvedView}
use Rattle.finite_sums.specs.Members.{Among}
use Rattle.maid_laws.specs.Answers.{OneAnswer}
use Rattle.maid_laws.proofs.AnswerLaws.{answers_fit, positive_or_none, profile}
use Rattle.maid_laws.proofs.Booleans.{eqb_yes, eqb_no}
use Rattle.maid_laws.proofs.Collapse.{Apart}
use Rattle.maid_laws.proofs.Decided.{not_not_dec}
use Rattle.maid_laws.proofs.Fractions.{same_fraction}
use Rattle.maid_laws.proofs.Members.{among_of, apart_of, index_of, not_among}
use Rattle.maid_laws.proofs.Optima.{scale_positive}
use Rattle.maid_laws.proofs.PureRules.{pure_weights, pure_total}
use Rattle.maid_laws.proofs.RowLaws.{mass_at_least}
use Rattle.maid_laws.proofs.SameProfile.{same_profile}
use Rattle.maid_laws.proofs.Tied.{tables_of}

-- ---- one order
-- two least numbers are one
least_one : (P : ℕ → Type 0) (x y : ℕ) → IsLeast P x → IsLeast P y → x ≡ y
least_one P x y a b = go (dec_lt x y) (dec_lt y x)
  where
    go : Dec (x < y) → Dec (y < x) → x ≡ y
    go (yes l) e = absurd (b.1 x l a.0)
    go (no m) (yes l) = absurd (a.1 y l b.0)
    go (no m) (no n) = omega arith

module _ (Item : ℕ → Type 0) (Needs : ℕ → ℕ → Type 0) (xs ys : List ℕ) (a : IsOrder Item Needs xs) (b : IsOrder Item Needs ys) where
  -- what is placed first is the same
  same_first : (k : ℕ) → k ≤ length xs → k ≤ length ys → take k xs ≡ take k ys
  same_first zero l m = first xs ys
    where
      first : (xs ys : List ℕ) → take 0 xs ≡ take 0 ys
      first [] [] = refl
      first [] (y ∷ ys) = refl
      first (x ∷ xs) [] = refl
      first (x ∷ xs) (y ∷ ys) = refl
  same_first (suc k) l m =
      let before : take k xs ≡ take k ys = same_first k (omega arith) (omega arith) in
      subst (λ n. take n xs ≡ take n ys) (one k)
      (take_more_same xs ys k 0 (omega arith) (omega arith) before
      (least_one (CanPlace Item Needs (take k ys)) (slice_index xs k) (slice_index ys k) (subst (λ p. IsLeast (CanPlace Item Needs p) (slice_index xs k)) before (a.placing k (omega arith))) (b.placing k (omega arith))))
    where
      one : (k : ℕ) → k + 1 ≡ suc k
      one k = omega arith

-- no order stops before another
not_shorter : (Item : ℕ → Type 0) (Needs : ℕ → ℕ → Type 0) (xs ys : List ℕ) → IsOrder Item Needs xs → IsOrder Item Needs ys → length xs < length ys → ⊥
not_shorter Item Needs xs ys a b l =
    let next = (b.placing (length xs) l).0.0 in
    next.1 (subst (λ p. Contains p (slice_index ys (length xs))) (sym (take-length xs) ∙ same_first Item Needs xs ys a b (length xs) (omega arith) (omega arith)) (a.complete (slice_index ys (length xs)) next.0))

pub order_one : (Item : ℕ → Type 0) (Needs : ℕ → ℕ → Type 0) (xs ys : List ℕ) → IsOrder Item Needs xs → IsOrder Item Needs ys → xs ≡ ys
order_one Item Needs xs ys a b = go (dec_lt (length xs) (length ys)) (dec_lt (length ys) (length xs))
  where
    go : Dec (length xs < length ys) → Dec (length ys < length xs) → xs ≡ ys
    go (yes l) e = absurd (not_shorter Item Needs xs ys a b l)
    go (no m) (yes l) = absurd (not_shorter Item Needs ys xs b a l)
    go (no m) (no n) =
        let e : length xs ≡ length ys = omega arith in
        sym (take-length xs) ∙ same_first Item Needs xs ys a b (length xs) (omega arith) (omega arith) ∙ ap (λ k. take k ys) e ∙ take-length ys

-- ---- one base
-- lists of numbers are the same or differ
pub list_dec : (xs ys : List ℕ) → Dec (xs ≡ ys)
list_dec [] [] = yes refl
list_dec [] (y ∷ ys) = no (λ e. cc)
list_dec (x ∷ xs) [] = no (λ e. cc)
list_dec (x ∷ xs) (y ∷ ys) = go (ℕ_discrete x y) (list_dec xs ys)
  where
    go : Dec (x ≡ y) → Dec (xs ≡ ys) → Dec (x ∷ xs ≡ y ∷ ys)
    go (yes e) (yes f) = yes (λ i. e i ∷ f i)
    go (yes e) (no n) = no (λ g. n cc)
    go (no n) d = no (λ g. n cc)

-- what may be decided may be shown by way of contradiction
stable : {A : Type 0} → Dec A → (¬ ¬ A) → A
stable (yes a) h = a
stable (no n) h = absurd (h n)

base_one : (nodes : List NodeView) (d : ℕ) (s t p q : List RuleView) → IsBase nodes s d p → IsBase nodes t d q → ((e : ℕ) → ReliesOn nodes d e → SameRule s t e) → p ≡ q
base_one nodes d s t p q a b same = same_profile nodes p q a.profile b.profile rules
  where
    rule : (v : ℕ) → IsDecision nodes v → Dec (ReliesOn nodes d v) → (weights_of p v ≡ weights_of q v) × (rule_total p v ≡ rule_total q v)
    rule v k (yes r) = ((a.relied v r).weights ∙ (same v r).weights ∙ sym (b.relied v r).weights, (a.relied v r).total ∙ (same v r).total ∙ sym (b.relied v r).total)
    rule v k (no n) = ((a.others v k n).weights ∙ sym (b.others v k n).weights, (a.others v k n).total ∙ sym (b.others v k n).total)

    rules : (v : ℕ) → IsDecision nodes v → (weights_of p v ≡ weights_of q v) × (rule_total p v ≡ rule_total q v)
    rules v k = (
      stable (list_dec (weights_of p v) (weights_of q v)) (λ n. not_not_dec (ReliesOn nodes d v) (λ r. n (rule v k r).0)),
      stable (ℕ_discrete (rule_total p v) (rule_total q v)) (λ n. not_not_dec (ReliesOn nodes d v) (λ r. n (rule v k r).1)),
    )

-- ---- one row
first_best_one : (gain : ℕ → ℤ) (states x y : ℕ) → IsFirstBest gain states x → IsFirstBest gain states y → x ≡ y
first_best_one gain states x y a b = go (dec_lt x y) (dec_lt y x)
  where
    clash : (a b : ℤ) → a <ℤ b → b ≤ℤ a → ⊥
    clash a b l m = omega (arith, ints)

    go : Dec (x < y) → Dec (y < x) → x ≡ y
    go (yes l) e = absurd (clash (gain x) (gain y) (b.first x l) (a.greatest y b.within))
    go (no m) (yes l) = absurd (clash (gain y) (gain x) (a.first y l) (b.greatest x a.within))
    go (no m) (no n) = omega arith

-- the scale of a row with mass
pub scaled : (m : ℤ) (decimals : ℕ) → pos 0 <ℤ m → 0 < nat_abs m * 10 ^ decimals
scaled m decimals h = mul-pos (size m h) (power decimals)
  where
    size : (m : ℤ) → pos 0 <ℤ m → 0 < nat_abs m
    size (pos n) h = omega (arith, ints)
    size (negsuc n) h = absurd (omega (arith, ints))

    power : (k : ℕ) → 0 < 10 ^ k
    power k = let h : 1 ≤ 10 ^ k = one-le-pow k 10 (omega arith) in omega arith

row_one : (nodes : List NodeView) (decimals : ℕ) (base : List RuleView) (d row : ℕ) (r s : Row) → pos 0 ≤ℤ mass_at nodes base d row → IsAnswerRow nodes decimals base d row r → IsAnswerRow nodes decimals base d row s → r ≡ s
row_one nodes decimals base d row r s h a b = go (positive_or_none (mass_at nodes base d row) h)
  where
    together : r.choice ≡ s.choice → r.worth ≡ s.worth → r ≡ s
    together e f = λ i. record { choice = e i; worth = f i }

    go : (mass_at nodes base d row ≡ pos 0) ⊎ (pos 0 <ℤ mass_at nodes base d row) → r ≡ s
    go (inl e) = together ((a.never e).0 ∙ sym (b.never e).0) ((a.never e).1 ∙ sym (b.never e).1)
    go (inr m) =
        let c : r.choice ≡ s.choice = first_best_one (λ s. gain_at nodes base d s row) (states_of nodes d) r.choice s.choice (a.best m) (b.best m) in
        let v = a.worth m in
        let w = b.worth m in
        let n = scaled (mass_at nodes base d row) decimals m in
        let e : v.0 ≡ w.0 = same_fraction v.0 w.0 (gain_at nodes base d r.choice row) (gain_at nodes base d s.choice row) (nat_abs (mass_at nodes base d row) * 10 ^ decimals) (nat_abs (mass_at nodes base d row) * 10 ^ decimals) n n v.2 w.2
        (ap (λ x. gain_at nodes base d x row *ℤ pos (nat_abs (mass_at nodes base d row) * 10 ^ decimals)) c) in
        together c (v.1 ∙ ap Some e ∙ sym w.1)

-- ---- one list of answers
-- answers at different decisions are settled by the rows found
answers_one : (xs ys : List AnswerView) → map (λ (a : AnswerView). a.decision) xs ≡ map (λ (a : AnswerView). a.decision) ys → Apart (map (λ (a : AnswerView). a.decision) xs)
    → ((v : ℕ) → Among v (map (λ (a : AnswerView). a.decision) xs) → rows_at xs v ≡ rows_at ys v) → xs ≡ ys
answers_one [] [] e a h = refl
answers_one [] (y ∷ ys) e a h = cc
answers_one (x ∷ xs) [] e a h = cc
answers_one (x ∷ xs) (y ∷ ys) e a h =
    let ed : x.decision ≡ y.decision = cc in
    let es : map (λ (a : AnswerView). a.decision) xs ≡ map (λ (a : AnswerView). a.decision) ys = cc in
    let rows : x.rows ≡ y.rows = sym (ap (λ b. cond b x.rows (rows_at xs x.decision)) (eqb_yes x.decision x.decision refl)) ∙ h x.decision (inl refl) ∙ ap (λ b. cond b y.rows (rows_at ys x.decision)) (eqb_yes y.decision x.decision (sym ed)) in
    (λ i. record { decision = ed i; rows = rows i } ∷ answers_one xs ys es a.1 (λ v m. off ed v m (λ f. not_among x.decision (map (λ (a : AnswerView). a.decision) xs) a.0 (subst (λ z. Among z (map (λ (a : AnswerView). a.decision) xs)) (sym f) m))) i)
  where
    off : x.decision ≡ y.decision → (v : ℕ) → Among v (map (λ (a : AnswerView). a.decision) xs) → x.decision ≢ v → rows_at xs v ≡ rows_at ys v
    off ed v m n =
        sym (ap (λ b. cond b x.rows (rows_at xs v)) (eqb_no x.decision v n)) ∙ h v (inr m) ∙ ap (λ b. cond b y.rows (rows_at ys v)) (eqb_no y.decision v (λ f. n (ed ∙ f)))

-- ---- two answers of a diagram
module _ (d : DiagramView) (one other : SolvedView) (g : IsGraph d.nodes) (c : HasChanceTables d.nodes) (a : IsAnswer d one) (b : IsAnswer d other) where
  orders : one.order ≡ other.order
  orders = order_one (IsDecision d.nodes) (ReliesOn d.nodes) one.order other.order a.order b.order

  -- the same rows make the same rule
  rule_same : (v : ℕ) → IsDecision d.nodes v → rows_at one.answers v ≡ rows_at other.answers v → SameRule (answered d one) (answered d other) v
  rule_same v k e = record {
    weights = pure_weights d.nodes one.answers v k ∙ ap (λ rows. flat_map (pure_row (states_of d.nodes v)) (map (λ (r : Row). r.choice) rows)) e ∙ sym (pure_weights d.nodes other.answers v k);
    total = pure_total d.nodes one.answers v k ∙ sym (pure_total d.nodes other.answers v k);
  }

  -- where the decisions relied on have the same rules, the rows are the same
  rows_same : (v : ℕ) → IsDecision d.nodes v → ((e : ℕ) → ReliesOn d.nodes v e → SameRule (answered d one) (answered d other) e) → rows_at one.answers v ≡ rows_at other.answers v
  rows_same v k same =
      let x = a.answers v k in
      let y = b.answers v k in
      let lx : length (rows_at one.answers v) ≡ rows_of d.nodes v = (answers_fit d one g c a.fits v k).0 in
      let ly : length (rows_at other.answers v) ≡ rows_of d.nodes v = (answers_fit d other g c b.fits v k).0 in
      let bases : y.base ≡ x.base = sym (base_one d.nodes v (answered d one) (answered d other) x.base y.base x.is_base y.is_base same) in
      ext_get_or no_row (rows_at one.answers v) (rows_at other.answers v) (lx ∙ sym ly)
      (λ row l. row_one d.nodes d.decimals x.base v row (get_or (rows_at one.answers v) row no_row) (get_or (rows_at other.answers v) row no_row) (mass_at_least d.nodes x.base v row g (tables_of d.nodes x.base g c x.is_base.profile) k.within)
      (x.each row (subst (λ n. row < n) lx l)) (subst (λ p. IsAnswerRow d.nodes d.decimals p v row (get_or (rows_at other.answers v) row no_row)) bases (y.each row (subst (λ n. row < n) lx l))))

  -- one decision after the other
  rows_at_place : (n i : ℕ) → i < n → i < length one.order → rows_at one.answers (slice_index one.order i) ≡ rows_at other.answers (slice_index one.order i)
  rows_at_place zero i l m = absurd (omega arith)
  rows_at_place (suc n) i l m = rows_same (slice_index one.order i) (a.order.placing i m).0.0.0 (λ e r. rule_same e r.on_decision (earlier (rows_at_place n) e (index_of e (take i one.order) (among_of e (take i one.order) ((a.order.placing i m).0.1 e r)))))
    where
      earlier : ((j : ℕ) → j < n → j < length one.order → rows_at one.answers (slice_index one.order j) ≡ rows_at other.answers (slice_index one.order j)) → (e : ℕ) → (k : ℕ) × (k < length (take i one.order)) × (slice_index (take i one.order) k ≡ e) → rows_at one.answers e ≡ rows_at other.answers e
      earlier before e f =
          let less : f.0 < i = let t : length (take i one.order) ≤ i = (let w = length-take i one.order in omega arith) in let u : f.0 < length (take i one.order) = f.1 in omega arith in
          let is : slice_index one.order f.0 ≡ e = sym (get_or-take i one.order f.0 0 less) ∙ f.2 in
          subst (λ v. rows_at one.answers v ≡ rows_at other.answers v) is (before f.0 (omega arith) (omega arith))

  answers_same : one.answers ≡ other.answers
  answers_same =
      answers_one one.answers other.answers (a.fits.follow ∙ orders ∙ sym b.fits.follow) (subst Apart (sym a.fits.follow) (apart_of one.order a.fits.once))
      (λ v m. listed v (index_of v one.order (subst (λ l. Among v l) a.fits.follow m)))
    where
      listed : (v : ℕ) → (k : ℕ) × (k < length one.order) × (slice_index one.order k ≡ v) → rows_at one.answers v ≡ rows_at other.answers v
      listed v f = subst (λ v. rows_at one.answers v ≡ rows_at other.answers v) f.2 (rows_at_place (suc f.0) f.0 (omega arith) f.1)

  gains_same : one.gains ≡ other.gains
  gains_same =
      let nothing : Ratio = record { num = pos 0; den = 1 } in
      ext_get_or nothing one.gains other.gains (a.fits.gains ∙ sym b.fits.gains)
      (λ agent l. let h : agent < d.agents = subst (λ n. agent < n) a.fits.gains l in
      same_fraction (get_or one.gains agent nothing) (get_or other.gains agent nothing) (gain_of d.nodes (answered d one) agent) (gain_of d.nodes (answered d other) agent)
      (mass d.nodes (answered d one) * 10 ^ d.decimals) (mass d.nodes (answered d other) * 10 ^ d.decimals)
      (scale_positive d.nodes (answered d one) d.decimals (tables_of d.nodes (answered d one) g c (profile d one g c a.fits))) (scale_positive d.nodes (answered d other) d.decimals (tables_of d.nodes (answered d other) g c (profile d other g c b.fits)))
      (a.gains.each agent nothing h) (b.gains.each agent nothing h)
      (λ i. gain_of d.nodes (plans i) agent *ℤ pos (mass d.nodes (sym plans i) * 10 ^ d.decimals)))
    where
      plans : answered d one ≡ answered d other
      plans = ap (λ answers. answered d (record { order = one.order; answers = answers; gains = one.gains })) answers_same

  pub answer_one : one ≡ other
  answer_one = λ i. record { order = orders i; answers = answers_same i; gains = gains_same i }

-- for every diagram
pub one_law : OneAnswer
one_law d one other g c a b = answer_one d one other g c a b
