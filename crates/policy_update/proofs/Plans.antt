-- The profile of a list of choices, as the choices of one decision are put in the place of others.
use Rattle.std.proofs.Common.{◌≡◌, ◌≢◌, ◌⊎◌, ◌∙◌, ℕ, zero, suc, ◌+◌, ◌*◌, ◌<◌, cond, eqb, List, [], ◌∷◌, All, map, length, replicate, get_or, set, slice_index_or, flat_map, None, IfSome, refl, sym, ap, subst, inl, inr, arith}
use Rattle.std.proofs.lemmas.List.{ext_get_or, length-map, length-replicate, get_or-set_same, get_or_default}
use Rattle.std.proofs.lemmas.List.Elements.{All-cons, All-map, All-nil, All-replicate, All-set}
use Rattle.std.proofs.Math.Decide.{ℕ_discrete}
use Rattle.finite_sums.specs.Members.{Among}
use Rattle.maid_model.specs.declared.answers.Row.{Row}
use Rattle.maid_model.specs.Answers.{AreChoices, FitsAnswer, FitsAnswers, HasNoWorths, IsReduced, no_row, pure_profile, rows_at}
use Rattle.maid_model.specs.Gains.{gain_at}
use Rattle.maid_model.specs.Graph.{IsGraph}
use Rattle.maid_model.specs.Nodes.{IsDecision, decisions_of, rows_of, states_of}
use Rattle.maid_model.specs.Profiles.{IsProfile, Replaces, SameRule, pure_rule, pure_row}
use Rattle.maid_model.specs.Tables.{rule_total, weights_of}
use Rattle.maid_model.specs.Views.{NodeView, RuleView, AnswerView}
use Rattle.maid_laws.specs.Optimum.{IsPure}
use Rattle.maid_laws.proofs.Booleans.{eqb_yes, eqb_no}
use Rattle.maid_laws.proofs.Collapse.{Apart}
use Rattle.maid_laws.proofs.Members.{not_among}
use Rattle.maid_laws.proofs.Rules.{among_decisions, weights_map}
use Rattle.maid_laws.proofs.SameProfile.{decided, decisions_apart, same_profile}
use Rattle.reach_laws.specs.Equilibria.{ChoicesOfAnswers}
use Rattle.reach_laws.specs.Updates.{IsImproved, IsStep, start_profile}
use Rattle.reach_laws.proofs.Listed.{below_of, same_choices}
use Rattle.policy_update.specs.Steps.{AreImproved, AreSameChoices, IsProfileOf, KeepsRows, first_choices}

-- ---- the rows found at a decision
abbrev pub decided_by : List AnswerView → List ℕ
decided_by answers = map (λ (a : AnswerView). a.decision) answers

among_at : (answers : List AnswerView) (i : ℕ) (e : AnswerView) → i < length answers → Among (get_or answers i e).decision (decided_by answers)
among_at [] i e l = absurd (omega arith)
among_at (a ∷ answers) zero e l = inl refl
among_at (a ∷ answers) (suc i) e l = inr (among_at answers i e (omega arith))

-- those of the answer at a place
pub rows_own : (answers : List AnswerView) (i : ℕ) (e : AnswerView) → Apart (decided_by answers) → i < length answers → rows_at answers (get_or answers i e).decision ≡ (get_or answers i e).rows
rows_own [] i e a l = absurd (omega arith)
rows_own (x ∷ answers) zero e a l = ap (λ b. cond b x.rows (rows_at answers x.decision)) (eqb_yes x.decision x.decision refl)
rows_own (x ∷ answers) (suc i) e a l =
    let m = among_at answers i e (omega arith) in
    ap (λ b. cond b x.rows (rows_at answers (get_or answers i e).decision)) (eqb_no x.decision (get_or answers i e).decision (λ f. not_among x.decision (decided_by answers) a.0 (subst (λ v. Among v (decided_by answers)) (sym f) m)))
    ∙ rows_own answers i e a.1 (omega arith)

-- another answer for the decision changes no other rows
rows_else : (answers : List AnswerView) (i : ℕ) (a : AnswerView) → i < length answers → a.decision ≡ (get_or answers i a).decision → (v : ℕ) → v ≢ a.decision → rows_at (set answers i a) v ≡ rows_at answers v
rows_else [] i a l e v n = absurd (omega arith)
rows_else (x ∷ answers) zero a l e v n =
    ap (λ b. cond b a.rows (rows_at answers v)) (eqb_no a.decision v (λ f. n (sym f))) ∙ sym (ap (λ b. cond b x.rows (rows_at answers v)) (eqb_no x.decision v (λ f. n (sym f ∙ sym e))))
rows_else (x ∷ answers) (suc i) a l e v n = ap (cond (eqb x.decision v) x.rows) (rows_else answers i a (omega arith) e v n)

decided_put : (answers : List AnswerView) (i : ℕ) (a : AnswerView) → i < length answers → a.decision ≡ (get_or answers i a).decision → decided_by (set answers i a) ≡ decided_by answers
decided_put [] i a l e = absurd (omega arith)
decided_put (x ∷ answers) zero a l e = ap (λ d. d ∷ decided_by answers) e
decided_put (x ∷ answers) (suc i) a l e = ap (λ ds. x.decision ∷ ds) (decided_put answers i a (omega arith) e)

-- what holds of each answer holds of the rows found
rows_found : (P : ℕ → List Row → Type 0) (answers : List AnswerView) → All (λ (a : AnswerView). P a.decision a.rows) answers → (v : ℕ) → Among v (decided_by answers) → P v (rows_at answers v)
rows_found P [] all v m = absurd m
rows_found P (a ∷ answers) all v m = go (ℕ_discrete a.decision v) m (rows_found P answers (λ k e l. all (suc k) e (omega arith)) v)
  where
    here : P a.decision a.rows
    here = all 0 a (omega arith)

    go : Dec (a.decision ≡ v) → (v ≡ a.decision) ⊎ Among v (decided_by answers) → (Among v (decided_by answers) → P v (rows_at answers v)) → P v (cond (eqb a.decision v) a.rows (rows_at answers v))
    go (yes e) m r = subst (λ b. P v (cond b a.rows (rows_at answers v))) (sym (eqb_yes a.decision v e)) (subst (λ u. P u a.rows) e here)
    go (no n) (inl e) r = absurd (n (sym e))
    go (no n) (inr k) r = subst (λ b. P v (cond b a.rows (rows_at answers v))) (sym (eqb_no a.decision v n)) (r k)

-- ---- choices
module _ (nodes : List NodeView) (answers : List AnswerView) (h : AreChoices nodes answers) where
  listed : (v : ℕ) → IsDecision nodes v → Among v (decided_by answers)
  listed v k = subst (Among v) (sym h.follow) (among_decisions nodes v k)

  pub apart : Apart (decided_by answers)
  apart = subst Apart (sym h.follow) (decisions_apart nodes)

  pub choices_fit : FitsAnswers nodes answers
  choices_fit v k = rows_found (λ u rows. (length rows ≡ rows_of nodes u) × All (λ (r : Row). r.choice < states_of nodes u) rows) answers (λ i e l. ((h.fits i e l).rows, (h.fits i e l).choices)) v (listed v k)

  pub choices_worthless : (v : ℕ) → IsDecision nodes v → All (λ (r : Row). r.worth ≡ None) (rows_at answers v)
  choices_worthless v k = rows_found (λ u rows. All (λ (r : Row). r.worth ≡ None) rows) answers h.worthless v (listed v k)

  pub put_choices : (i : ℕ) (a : AnswerView) → i < length answers → a.decision ≡ (get_or answers i a).decision → FitsAnswer nodes a → HasNoWorths a → AreChoices nodes (set answers i a)
  put_choices i a l e fits none = record {
    follow = decided_put answers i a l e ∙ h.follow;
    fits = All-set (FitsAnswer nodes) answers i a fits h.fits;
    worthless = All-set HasNoWorths answers i a none h.worthless;
  }

  pub put_own : (i : ℕ) (a : AnswerView) → i < length answers → a.decision ≡ (get_or answers i a).decision → AreChoices nodes (set answers i a) → rows_at (set answers i a) a.decision ≡ a.rows
  put_own i a l e new =
      let same : get_or (set answers i a) i a ≡ a = get_or-set_same answers i a a l in
      ap (λ (x : AnswerView). rows_at (set answers i a) x.decision) (sym same)
      ∙ rows_own (set answers i a) i a (subst Apart (sym (decided_put answers i a l e)) apart) (subst (λ n. i < n) (sym (set_length answers i a)) l)
      ∙ ap (λ (x : AnswerView). x.rows) same
    where
      set_length : (xs : List AnswerView) (i : ℕ) (a : AnswerView) → length (set xs i a) ≡ length xs
      set_length [] i a = refl
      set_length (x ∷ xs) zero a = refl
      set_length (x ∷ xs) (suc i) a = ap suc (set_length xs i a)

-- rows without worth are settled by their choices
pub same_rows : (xs ys : List Row) → All (λ (r : Row). r.worth ≡ None) xs → All (λ (r : Row). r.worth ≡ None) ys → map (λ (r : Row). r.choice) xs ≡ map (λ (r : Row). r.choice) ys → xs ≡ ys
same_rows [] [] a b e = refl
same_rows [] (y ∷ ys) a b e = cc
same_rows (x ∷ xs) [] a b e = cc
same_rows (x ∷ xs) (y ∷ ys) a b e =
    let head : x.choice ≡ y.choice = cc in
    let tail : map (λ (r : Row). r.choice) xs ≡ map (λ (r : Row). r.choice) ys = cc in
    let worth : x.worth ≡ y.worth = a 0 x (omega arith) ∙ sym (b 0 y (omega arith)) in
    (λ i. record { choice = head i; worth = worth i } ∷ same_rows xs ys (λ k d l. a (suc k) d (omega arith)) (λ k d l. b (suc k) d (omega arith)) tail i)

pub same_listed : (xs ys : List Row) → length xs ≡ length ys → All (λ (r : Row). r.worth ≡ None) xs → All (λ (r : Row). r.worth ≡ None) ys → AreSameChoices xs ys → xs ≡ ys
same_listed xs ys len a b h = ext_get_or no_row xs ys len (λ row l i. record { choice = h row (subst (λ n. row < n) len l) i; worth = (a row no_row l ∙ sym (b row no_row (subst (λ n. row < n) len l))) i })

-- ---- the rule of a decision in the profile of choices
abbrev rule_at : List NodeView → List AnswerView → ℕ → RuleView
rule_at nodes answers v = pure_rule nodes v (map (λ (r : Row). r.choice) (rows_at answers v))

pub weights_there : (nodes : List NodeView) (answers : List AnswerView) (v : ℕ) → IsDecision nodes v → weights_of (pure_profile nodes answers) v ≡ (rule_at nodes answers v).weights
weights_there nodes answers v k = weights_map (rule_at nodes answers) (λ u. refl) (decisions_of nodes) v (among_decisions nodes v k)

module _ (nodes : List NodeView) (law : ChoicesOfAnswers) where
  pub plan_pure : (answers : List AnswerView) (p : List RuleView) → IsProfileOf nodes answers p → IsPure nodes p
  plan_pure answers p h = subst (IsPure nodes) (sym h.rules) (law nodes answers (choices_fit nodes answers h.choices)).0

  -- choices that differ make profiles that differ
  pub same_choices_at : (answers others : List AnswerView) (p q : List RuleView) → IsProfileOf nodes answers p → IsProfileOf nodes others q → (d : ℕ) → IsDecision nodes d → p ≡ q → rows_at answers d ≡ rows_at others d
  same_choices_at answers others p q h j d k e =
      let fits = choices_fit nodes answers h.choices d k in
      let more = choices_fit nodes others j.choices d k in
      same_rows (rows_at answers d) (rows_at others d) (choices_worthless nodes answers h.choices d k) (choices_worthless nodes others j.choices d k)
      (same_choices (states_of nodes d) (map (λ (r : Row). r.choice) (rows_at answers d)) (map (λ (r : Row). r.choice) (rows_at others d))
      (length-map (rows_at answers d) (λ (r : Row). r.choice) ∙ fits.0 ∙ sym more.0 ∙ sym (length-map (rows_at others d) (λ (r : Row). r.choice)))
      (below_of (states_of nodes d) (map (λ (r : Row). r.choice) (rows_at answers d)) (λ i l. All-map (λ c. c < states_of nodes d) (λ (r : Row). r.choice) (rows_at answers d) fits.1 i 0 l))
      (sym (weights_there nodes answers d k) ∙ ap (λ r. weights_of r d) (sym h.rules ∙ e ∙ j.rules) ∙ weights_there nodes others d k))

  -- the plan with another rule at one decision
  pub put_plan : (answers : List AnswerView) (p q : List RuleView) → IsProfileOf nodes answers p → (i : ℕ) (a : AnswerView) → i < length answers → a.decision ≡ (get_or answers i a).decision → FitsAnswer nodes a → HasNoWorths a
      → IsProfile nodes q → Replaces p q (pure_rule nodes a.decision (map (λ (r : Row). r.choice) a.rows)) → IsProfileOf nodes (set answers i a) q
  put_plan answers p q h i a l e fits none is put = record {
    choices = new;
    rules = same_profile nodes q (pure_profile nodes (set answers i a)) is (law nodes (set answers i a) (choices_fit nodes (set answers i a) new)).0.profile (λ v k. go v k (ℕ_discrete v a.decision));
  }
    where
      new : AreChoices nodes (set answers i a)
      new = put_choices nodes answers h.choices i a l e fits none

      pure : IsPure nodes (pure_profile nodes (set answers i a))
      pure = (law nodes (set answers i a) (choices_fit nodes (set answers i a) new)).0

      go : (v : ℕ) → IsDecision nodes v → Dec (v ≡ a.decision) → (weights_of q v ≡ weights_of (pure_profile nodes (set answers i a)) v) × (rule_total q v ≡ rule_total (pure_profile nodes (set answers i a)) v)
      go v k (yes f) = (
        ap (weights_of q) f ∙ put.weights ∙ ap (λ rows. flat_map (pure_row (states_of nodes a.decision)) (map (λ (r : Row). r.choice) rows)) (sym (put_own nodes answers h.choices i a l e new))
            ∙ ap (λ u. (rule_at nodes (set answers i a) u).weights) (sym f) ∙ sym (weights_there nodes (set answers i a) v k),
        ap (rule_total q) f ∙ put.total ∙ sym (pure.total v k),
      )
      go v k (no n) =
          let s : SameRule q p v = put.others v n in (
            s.weights ∙ ap (λ r. weights_of r v) h.rules ∙ weights_there nodes answers v k
                ∙ ap (λ rows. flat_map (pure_row (states_of nodes v)) (map (λ (r : Row). r.choice) rows)) (sym (rows_else answers i a l e v n)) ∙ sym (weights_there nodes (set answers i a) v k),
            s.total ∙ (plan_pure answers p h).total v k ∙ sym (pure.total v k),
          )

  -- rows that are improved at one decision make a step
  pub step_of : (answers others : List AnswerView) (p q : List RuleView) → IsProfileOf nodes answers p → IsProfileOf nodes others q → (d : ℕ) → IsDecision nodes d → ((v : ℕ) → IsDecision nodes v → v ≢ d → SameRule q p v)
      → ((row : ℕ) → row < rows_of nodes d → IsImproved (λ s. gain_at nodes p d s row) (states_of nodes d) (slice_index_or (rows_at answers d) row no_row).choice (slice_index_or (rows_at others d) row no_row).choice)
      → IsStep nodes p d q
  step_of answers others p q h j d k same rows = record {
    pure = plan_pure others q j;
    others = same;
    rows = λ row l. record {
      before = (slice_index_or (rows_at answers d) row no_row).choice;
      after = (slice_index_or (rows_at others d) row no_row).choice;
      chosen = ap (λ r. get_or (weights_of r d) (row * states_of nodes d + (slice_index_or (rows_at answers d) row no_row).choice) 0) h.rules
          ∙ ((law nodes answers (choices_fit nodes answers h.choices)).1 d (slice_index_or (rows_at answers d) row no_row).choice row k (rows row l).was l).1 refl;
      taken = ap (λ r. get_or (weights_of r d) (row * states_of nodes d + (slice_index_or (rows_at others d) row no_row).choice) 0) j.rules
          ∙ ((law nodes others (choices_fit nodes others j.choices)).1 d (slice_index_or (rows_at others d) row no_row).choice row k (rows row l).within l).1 refl;
      improved = rows row l;
    };
  }

-- ---- the decision at a place, improved
pub decided_get : (answers : List AnswerView) (i : ℕ) (e : AnswerView) → i < length answers → get_or (decided_by answers) i 0 ≡ (get_or answers i e).decision
decided_get [] i e l = absurd (omega arith)
decided_get (a ∷ answers) zero e l = refl
decided_get (a ∷ answers) (suc i) e l = decided_get answers i e (omega arith)

-- there is an answer for each decision, and the one at a place is for the decision that stands
-- there
pub places : (nodes : List NodeView) (answers : List AnswerView) → AreChoices nodes answers → length answers ≡ length (decisions_of nodes)
places nodes answers h = sym (length-map answers (λ (a : AnswerView). a.decision)) ∙ ap length h.follow

pub place_is : (nodes : List NodeView) (answers : List AnswerView) → AreChoices nodes answers → (i : ℕ) (e : AnswerView) → i < length answers → (get_or answers i e).decision ≡ get_or (decisions_of nodes) i 0
place_is nodes answers h i e l = sym (decided_get answers i e l) ∙ ap (λ ds. get_or ds i 0) h.follow

-- these rows improve those of the answer at the place
pub record IsImprovement (nodes : List NodeView) (answers : List AnswerView) (p : List RuleView) (i : ℕ) (a : AnswerView) (after : List Row) : Type 0 where
  pub plan : IsProfileOf nodes answers p
  pub within : i < length answers
  pub here : a ≡ get_or answers i a
  pub improved : AreImproved (gain_at nodes p a.decision) (states_of nodes a.decision) a.rows after

pub improvement_is : (nodes : List NodeView) (answers : List AnswerView) (p : List RuleView) (i : ℕ) (a e : AnswerView) (after : List Row) → IsProfileOf nodes answers p → i < length answers → a ≡ get_or answers i e
    → AreImproved (gain_at nodes p (get_or answers i e).decision) (states_of nodes (get_or answers i e).decision) (get_or answers i e).rows after → IsImprovement nodes answers p i a after
improvement_is nodes answers p i a e after plan l is improved = record {
  plan = plan;
  within = l;
  here = is ∙ get_or_default answers i e a l;
  improved = subst (λ (x : AnswerView). AreImproved (gain_at nodes p x.decision) (states_of nodes x.decision) x.rows after) (sym is) improved;
}

-- rows that all keep their choices improve themselves
pub keeping_is : (nodes : List NodeView) (answers : List AnswerView) (p : List RuleView) (i : ℕ) (a e : AnswerView) → IsProfileOf nodes answers p → i < length answers → a ≡ get_or answers i e
    → KeepsRows nodes p (get_or answers i e) → IsImprovement nodes answers p i a a.rows
keeping_is nodes answers p i a e plan l is keeps = improvement_is nodes answers p i a e a.rows plan l is (subst (λ (x : AnswerView). AreImproved (gain_at nodes p x.decision) (states_of nodes x.decision) x.rows a.rows) is record {
  count = refl;
  each = subst (λ (x : AnswerView). KeepsRows nodes p x) (sym is) keeps;
  worthless = subst HasNoWorths (sym is) (plan.choices.worthless i e l);
})

-- this rule has the rows' choices, and replaces the decision's rule
pub record IsPut (nodes : List NodeView) (p q : List RuleView) (a : AnswerView) (after : List Row) : Type 0 where
  pub profile : IsProfile nodes q
  pub replaces : Replaces p q (pure_rule nodes a.decision (map (λ (r : Row). r.choice) after))

module _ (nodes : List NodeView) (law : ChoicesOfAnswers) (answers : List AnswerView) (p : List RuleView) (i : ℕ) (a : AnswerView) (after : List Row) (h : IsImprovement nodes answers p i a after) where
  decision_here : a.decision ≡ get_or (decisions_of nodes) i 0
  decision_here = ap (λ (x : AnswerView). x.decision) h.here ∙ sym (decided_get answers i a h.within) ∙ ap (λ ds. get_or ds i 0) h.plan.choices.follow

  rows_here : rows_at answers a.decision ≡ a.rows
  rows_here = ap (λ (x : AnswerView). rows_at answers x.decision) h.here ∙ rows_own answers i a (apart nodes answers h.plan.choices) h.within ∙ ap (λ (x : AnswerView). x.rows) (sym h.here)

  pub fits_here : FitsAnswer nodes a
  fits_here = subst (FitsAnswer nodes) (sym h.here) (h.plan.choices.fits i a h.within)

  abbrev new : AnswerView
  new = record { decision = a.decision; rows = after }

  row_within : (row : ℕ) → row < rows_of nodes a.decision → row < length a.rows
  row_within row m = subst (λ n. row < n) (sym fits_here.rows) m

  pub count_new : length after ≡ rows_of nodes a.decision
  count_new = h.improved.count ∙ fits_here.rows

  pub choices_new : All (λ (r : Row). r.choice < states_of nodes a.decision) after
  choices_new row e m = subst (λ (r : Row). r.choice < states_of nodes a.decision) (get_or_default after row no_row e m) (h.improved.each row (subst (λ n. row < n) h.improved.count m)).within

  fits_new : FitsAnswer nodes new
  fits_new = record {
    decision = fits_here.decision;
    rows = count_new;
    choices = choices_new;
    worths = λ row e m. subst (λ w. IfSome w IsReduced) (sym (h.improved.worthless row e m)) tt;
  }

  rows_same : AreSameChoices after a.rows → after ≡ a.rows
  rows_same same = same_listed after a.rows h.improved.count h.improved.worthless (subst (λ (x : AnswerView). HasNoWorths x) (sym h.here) (h.plan.choices.worthless i a h.within)) same

  -- rows of the decision in two plans that stand for those before and after
  step_between : (others : List AnswerView) (q : List RuleView) → IsProfileOf nodes others q → ((v : ℕ) → IsDecision nodes v → v ≢ a.decision → SameRule q p v) → rows_at others a.decision ≡ after → IsStep nodes p (get_or (decisions_of nodes) i 0) q
  step_between others q j same rows = subst (λ d. IsStep nodes p d q) decision_here
      (step_of nodes law answers others p q h.plan j a.decision fits_here.decision same
      (λ row m. subst (λ (xs : List Row). IsImproved (λ s. gain_at nodes p a.decision s row) (states_of nodes a.decision) (slice_index_or xs row no_row).choice (slice_index_or (rows_at others a.decision) row no_row).choice) (sym rows_here)
      (subst (λ (xs : List Row). IsImproved (λ s. gain_at nodes p a.decision s row) (states_of nodes a.decision) (slice_index_or a.rows row no_row).choice (slice_index_or xs row no_row).choice) (sym rows) (h.improved.each row (row_within row m)))))

  -- a decision whose choices stay makes a step to the same profile
  pub step_same : AreSameChoices after a.rows → IsStep nodes p (get_or (decisions_of nodes) i 0) p
  step_same same = step_between answers p h.plan (λ v k n. record { weights = refl; total = refl }) (rows_here ∙ sym (rows_same same))

  module _ (q : List RuleView) (put : IsPut nodes p q a after) where
    same_decision : new.decision ≡ (get_or answers i new).decision
    same_decision = decision_here ∙ ap (λ ds. get_or ds i 0) (sym h.plan.choices.follow) ∙ decided_get answers i new h.within

    pub plan_new : IsProfileOf nodes (set answers i new) q
    plan_new = put_plan nodes law answers p q h.plan i new h.within same_decision fits_new h.improved.worthless put.profile put.replaces

    rows_new : rows_at (set answers i new) a.decision ≡ after
    rows_new = put_own nodes answers h.plan.choices i new h.within same_decision plan_new.choices

    -- else to the profile with the new rule
    pub step_new : IsStep nodes p (get_or (decisions_of nodes) i 0) q
    step_new = step_between (set answers i new) q plan_new (λ v k n. put.replaces.others v n) rows_new

    -- which differs
    pub changed_new : (AreSameChoices after a.rows → ⊥) → p ≡ q → ⊥
    changed_new differ e = differ (λ row m. ap (λ (rows : List Row). (slice_index_or rows row no_row).choice) (sym rows_new ∙ sym (same_choices_at nodes law answers (set answers i new) p q h.plan plan_new a.decision fits_here.decision e) ∙ rows_here))

-- ---- the start
abbrev first_answer : List NodeView → ℕ → AnswerView
first_answer nodes v = record { decision = v; rows = replicate (rows_of nodes v) no_row }

pub map_like : (f g : ℕ → RuleView) (vs : List ℕ) → ((v : ℕ) → Among v vs → f v ≡ g v) → map f vs ≡ map g vs
map_like f g [] h = refl
map_like f g (v ∷ vs) h = λ i. h v (inl refl) i ∷ map_like f g vs (λ u m. h u (inr m)) i

all_first : (nodes : List NodeView) (P : AnswerView → Type 0) (vs : List ℕ) → ((v : ℕ) → Among v vs → P (first_answer nodes v)) → All P (map (first_answer nodes) vs)
all_first nodes P [] h = All-nil P
all_first nodes P (v ∷ vs) h = All-cons P (first_answer nodes v) (map (first_answer nodes) vs) (h v (inl refl)) (all_first nodes P vs (λ u m. h u (inr m)))

follow_first : (nodes : List NodeView) (vs : List ℕ) → decided_by (map (first_answer nodes) vs) ≡ vs
follow_first nodes [] = refl
follow_first nodes (v ∷ vs) = ap (λ l. v ∷ l) (follow_first nodes vs)

module _ (nodes : List NodeView) (g : IsGraph nodes) where
  first_are_choices : AreChoices nodes (first_choices nodes)
  first_are_choices = record {
    follow = follow_first nodes (decisions_of nodes);
    fits = all_first nodes (FitsAnswer nodes) (decisions_of nodes) (λ v m. record {
      decision = decided nodes v m;
      rows = length-replicate (rows_of nodes v) no_row;
      choices = All-replicate (λ (r : Row). r.choice < states_of nodes v) (rows_of nodes v) no_row (g.has_state v);
      worths = All-replicate (λ (r : Row). IfSome r.worth IsReduced) (rows_of nodes v) no_row tt;
    });
    worthless = all_first nodes HasNoWorths (decisions_of nodes) (λ v m. All-replicate (λ (r : Row). r.worth ≡ None) (rows_of nodes v) no_row refl);
  }

  first_rows : (v : ℕ) → Among v (decisions_of nodes) → rows_at (first_choices nodes) v ≡ replicate (rows_of nodes v) no_row
  first_rows v m = rows_found (λ u rows. rows ≡ replicate (rows_of nodes u) no_row) (first_choices nodes) (all_first nodes (λ a. a.rows ≡ replicate (rows_of nodes a.decision) no_row) (decisions_of nodes) (λ u k. refl)) v
      (subst (Among v) (sym (follow_first nodes (decisions_of nodes))) m)

  -- the profile of the first choices is the one at which updating starts
  pub first_start : pure_profile nodes (first_choices nodes) ≡ start_profile nodes
  first_start = map_like (rule_at nodes (first_choices nodes)) (λ v. pure_rule nodes v (replicate (rows_of nodes v) 0)) (decisions_of nodes)
      (λ v m. ap (pure_rule nodes v) (ap (map (λ (r : Row). r.choice)) (first_rows v m) ∙ zeros (rows_of nodes v)))
    where
      zeros : (n : ℕ) → map (λ (r : Row). r.choice) (replicate n no_row) ≡ replicate n 0
      zeros zero = refl
      zeros (suc n) = ap (λ l. 0 ∷ l) (zeros n)

  pub first_plan : (answers : List AnswerView) (p : List RuleView) → answers ≡ first_choices nodes → p ≡ pure_profile nodes answers → IsProfileOf nodes answers p
  first_plan answers p e f = record { choices = subst (AreChoices nodes) (sym e) first_are_choices; rules = f }
