-- The answers of a list of choices have its profile.
use Rattle.std.proofs.Common.{◌≡◌, ◌≢◌, ◌∙◌, ℕ, zero, suc, ◌<◌, cond, eqb, List, [], ◌∷◌, map, take, drop, refl, sym, ap, subst, arith, All, inl, inr, None, IfSome}
use Rattle.std.proofs.lemmas.List.{length-map}
use Rattle.maid_model.specs.declared.answers.Row.{Row}
use Rattle.maid_model.specs.Answers.{FitsAnswer, HasNoWorths, pure_profile, rows_at, IsReduced}
use Rattle.maid_model.specs.Nodes.{IsDecision, decisions_of, rows_of, states_of}
use Rattle.maid_model.specs.Profiles.{pure_rule}
use Rattle.maid_model.specs.Views.{NodeView, AnswerView, RuleView}
use Rattle.maid_model.specs.Worlds.{IsWorld}
use Rattle.finite_sums.specs.Members.{Among}
use Rattle.maid_laws.specs.Optimum.{IsPure}
use Rattle.maid_laws.proofs.Booleans.{eqb_yes, eqb_no}
use Rattle.maid_laws.proofs.Collapse.{Apart}
use Rattle.maid_laws.proofs.Members.{not_among}
use Rattle.maid_laws.proofs.SameProfile.{decisions_apart}
use Rattle.reach_laws.specs.Equilibria.{choice_counts, profile_of, rules_of}
use Rattle.reach_laws.proofs.Listed.{Below, Fits, fits_of, fits_take, pure_of}
use Rattle.pure_search.specs.Games.{answers_of, counts_for, unpriced}

pub choices_back : (cs : List ℕ) → map (λ (r : Row). r.choice) (map unpriced cs) ≡ cs
choices_back [] = refl
choices_back (c ∷ cs) = ap (λ l. c ∷ l) (choices_back cs)

-- the rules of the answers of some decisions, looked up one by one
looked_up : List NodeView → List ℕ → List AnswerView → List RuleView
looked_up nodes vs answers = map (λ v. pure_rule nodes v (map (λ (r : Row). r.choice) (rows_at answers v))) vs

-- an answer of another decision isn't looked at
unseen : (nodes : List NodeView) (d : ℕ) (rows : List Row) (vs : List ℕ) (answers : List AnswerView) → ((v : ℕ) → Among v vs → d ≢ v)
    → looked_up nodes vs (record { decision = d; rows = rows } ∷ answers) ≡ looked_up nodes vs answers
unfolding looked_up
unseen nodes d rows [] answers apart = refl
unseen nodes d rows (v ∷ vs) answers apart =
    (λ i. pure_rule nodes v (map (λ (r : Row). r.choice) (cond (eqb_no d v (apart v (inl refl)) i) rows (rows_at answers v))) ∷ unseen nodes d rows vs answers (λ u m. apart u (inr m)) i)

looked_all : (nodes : List NodeView) (ds choices : List ℕ) → Apart ds → looked_up nodes ds (answers_of nodes ds choices) ≡ rules_of nodes ds choices
unfolding looked_up
looked_all nodes [] choices a = refl
looked_all nodes (d ∷ ds) choices a =
    let own : map (λ (r : Row). r.choice) (cond (eqb d d) (map unpriced (take (rows_of nodes d) choices)) (rows_at (answers_of nodes ds (drop (rows_of nodes d) choices)) d)) ≡ take (rows_of nodes d) choices =
    ap (λ b. map (λ (r : Row). r.choice) (cond b (map unpriced (take (rows_of nodes d) choices)) (rows_at (answers_of nodes ds (drop (rows_of nodes d) choices)) d))) (eqb_yes d d refl) ∙ choices_back (take (rows_of nodes d) choices) in
    let rest = unseen nodes d (map unpriced (take (rows_of nodes d) choices)) ds (answers_of nodes ds (drop (rows_of nodes d) choices)) (λ v m e. not_among d ds a.0 (subst (λ z. Among z ds) (sym e) m))
    ∙ looked_all nodes ds (drop (rows_of nodes d) choices) a.1 in
    (λ i. pure_rule nodes d (own i) ∷ rest i)

pub answered_profile : (nodes : List NodeView) (choices : List ℕ) → pure_profile nodes (answers_of nodes (decisions_of nodes) choices) ≡ profile_of nodes choices
unfolding looked_up
answered_profile nodes choices = looked_all nodes (decisions_of nodes) choices (decisions_apart nodes)

pub pure_choices : (nodes : List NodeView) (choices : List ℕ) → IsWorld (counts_for nodes) choices → IsPure nodes (profile_of nodes choices)
pure_choices nodes choices w = pure_of nodes choices (fits_of (counts_for nodes) choices w)

-- ---- what fits
pub follow : (nodes : List NodeView) (ds choices : List ℕ) → map (λ (a : AnswerView). a.decision) (answers_of nodes ds choices) ≡ ds
follow nodes [] choices = refl
follow nodes (d ∷ ds) choices = ap (λ l. d ∷ l) (follow nodes ds (drop (rows_of nodes d) choices))

all_cons : {X : Type 0} (P : X → Type 0) (x : X) (xs : List X) → P x → All P xs → All P (x ∷ xs)
all_cons P x xs h k zero e l = h
all_cons P x xs h k (suc i) e l = k i e (omega arith)

below_choices : (s : ℕ) (cs : List ℕ) → Below s cs → All (λ (r : Row). r.choice < s) (map unpriced cs)
below_choices s [] b = λ i e l. absurd (omega arith)
below_choices s (c ∷ cs) b = all_cons (λ (r : Row). r.choice < s) (unpriced c) (map unpriced cs) b.0 (below_choices s cs b.1)

priced_nowhere : (cs : List ℕ) → All (λ (r : Row). r.worth ≡ None) (map unpriced cs)
priced_nowhere [] = λ i e l. absurd (omega arith)
priced_nowhere (c ∷ cs) = all_cons (λ (r : Row). r.worth ≡ None) (unpriced c) (map unpriced cs) refl (priced_nowhere cs)

reduced_all : (cs : List ℕ) → All (λ (r : Row). IfSome r.worth IsReduced) (map unpriced cs)
reduced_all [] = λ i e l. absurd (omega arith)
reduced_all (c ∷ cs) = all_cons (λ (r : Row). IfSome r.worth IsReduced) (unpriced c) (map unpriced cs) tt (reduced_all cs)

pub answers_fit : (nodes : List NodeView) (ds choices : List ℕ) → ((v : ℕ) → Among v ds → IsDecision nodes v) → Fits (choice_counts nodes ds) choices → All (FitsAnswer nodes) (answers_of nodes ds choices)
answers_fit nodes [] choices known f = λ i e l. absurd (omega arith)
answers_fit nodes (d ∷ ds) choices known f =
    let t = fits_take (rows_of nodes d) (states_of nodes d) (choice_counts nodes ds) choices f in
    all_cons (FitsAnswer nodes) (record { decision = d; rows = map unpriced (take (rows_of nodes d) choices) }) (answers_of nodes ds (drop (rows_of nodes d) choices))
    (record {
      decision = known d (inl refl);
      rows = length-map (take (rows_of nodes d) choices) unpriced ∙ t.0;
      choices = below_choices (states_of nodes d) (take (rows_of nodes d) choices) t.1;
      worths = reduced_all (take (rows_of nodes d) choices);
    })
    (answers_fit nodes ds (drop (rows_of nodes d) choices) (λ v m. known v (inr m)) t.2)

pub no_worths : (nodes : List NodeView) (ds choices : List ℕ) → All HasNoWorths (answers_of nodes ds choices)
no_worths nodes [] choices = λ i e l. absurd (omega arith)
no_worths nodes (d ∷ ds) choices = all_cons HasNoWorths (record { decision = d; rows = map unpriced (take (rows_of nodes d) choices) }) (answers_of nodes ds (drop (rows_of nodes d) choices)) (priced_nowhere (take (rows_of nodes d) choices)) (no_worths nodes ds (drop (rows_of nodes d) choices))
