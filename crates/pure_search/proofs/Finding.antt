-- The first mark is at the first pure equilibrium, and where there is no mark there is none.
use Rattle.std.proofs.Common.{◌≡◌, ◌≢◌, ◌∙◌, ℕ, ◌+◌, ◌<◌, Bool, true, false, List, [], ◌∷◌, ◌++◌, map, length, get_or, slice_index_or, refl, sym, ap, subst, arith, length-append, All}
use Rattle.std.proofs.lemmas.List.{length-map, get_or-map, get_or_default, get_or_append_left}
use Rattle.std.proofs.Math.Decide.{ℕ_discrete}
use Rattle.maid_model.specs.declared.answers.Ratio.{Ratio}
use Rattle.maid_model.specs.Answers.{FitsAnswer, HasNoWorths, IsGains, pure_profile}
use Rattle.maid_model.specs.Views.{AnswerView, DiagramView, NodeView, RuleView}
use Rattle.maid_model.specs.Worlds.{IsWorld}
use Rattle.maid_model.proofs.Listing.{lists_worlds}
use Rattle.reach_laws.specs.Equilibria.{IsEquilibrium, IsFirstPure, IsPureEquilibrium, profile_of, pure_profiles, rules_of}
use Rattle.maid_laws.proofs.SameProfile.{decided}
use Rattle.reach_laws.proofs.Listed.{choices_of, fits_of, world_from}
use Rattle.std.specs.Prelude.{Contains}
use Rattle.maid_laws.specs.Optimum.{IsPure}
use Rattle.maid_model.specs.Nodes.{decisions_of}
use Rattle.pure_search.specs.Found.{IsPureFound, PureView, found_profile}
use Rattle.pure_search.specs.Games.{IsFirstMark, MarksStable, answers_of, choice_lists, choices_at, counts_for}
use Rattle.pure_search.proofs.Answered.{answered_profile, answers_fit, follow, no_worths, pure_choices}
use Rattle.pure_search.proofs.Marking.{listed}

no_two : false ≡ true → ⊥
no_two e = cc

-- the list of pure profiles has the profiles of all lists of choices
pub as_many_profiles : (nodes : List NodeView) → length (pure_profiles nodes) ≡ length (choice_lists nodes)
as_many_profiles nodes = length-map (choice_lists nodes) (rules_of nodes (decisions_of nodes))

pub profile_there : (nodes : List NodeView) (k : ℕ) → k < length (choice_lists nodes) → slice_index_or (pure_profiles nodes) k [] ≡ profile_of nodes (choices_at nodes k)
profile_there nodes k l = get_or-map (rules_of nodes (decisions_of nodes)) (choice_lists nodes) k [] [] l

module _ (nodes : List NodeView) (marks : List Bool) (stable : MarksStable nodes marks) where
  pub first_is : (place : ℕ) → IsFirstMark marks place → IsFirstPure nodes place
  first_is place f = record {
    within = subst (λ n. place < n) (sym (as_many_profiles nodes)) inside;
    stays = subst (IsEquilibrium nodes) (sym (profile_there nodes place inside)) ((stable.each place f.within).0 f.marked);
    first = λ k l e. before k l e;
  }
    where
      inside : place < length (choice_lists nodes)
      inside = subst (λ n. place < n) stable.len f.within

      less : (k n : ℕ) → k < place → place < n → k < n
      less k n l m = omega arith

      before : (k : ℕ) → k < place → IsEquilibrium nodes (slice_index_or (pure_profiles nodes) k []) → ⊥
      before k l e = no_two (sym (f.before k l) ∙ (stable.each k (less k (length marks) l f.within)).1 (subst (IsEquilibrium nodes) (profile_there nodes k (less k (length (choice_lists nodes)) l inside)) e))

  pub none_is : ((k : ℕ) → k < length marks → slice_index_or marks k false ≡ false) → (s : List RuleView) → IsPureEquilibrium nodes s → ⊥
  none_is h s is =
      let r = choices_of nodes s is.pure in
      let w : IsWorld (counts_for nodes) r.0 = world_from (counts_for nodes) r.0 r.1 in
      at ((lists_worlds.all (counts_for nodes) r.0).0 w) r.2
    where
      at : {cs : List ℕ} → Contains (choice_lists nodes) cs → s ≡ rules_of nodes (decisions_of nodes) cs → ⊥
      at {cs} (k, l, e) same =
          let inside : k < length marks = subst (λ n. k < n) (sym stable.len) l in
          let there : choices_at nodes k ≡ cs = get_or_default (choice_lists nodes) k [] cs l ∙ e in
          no_two (sym (h k inside) ∙ (stable.each k inside).1 (subst (IsEquilibrium nodes) (same ∙ ap (rules_of nodes (decisions_of nodes)) (sym there)) is.stays))

-- the profile at the first place is a pure equilibrium
pub found_one : (nodes : List NodeView) (place : ℕ) → IsFirstPure nodes place → IsPureEquilibrium nodes (slice_index_or (pure_profiles nodes) place [])
found_one nodes place f =
    let inside : place < length (choice_lists nodes) = subst (λ n. place < n) (as_many_profiles nodes) f.within in
    record { pure = subst (IsPure nodes) (sym (profile_there nodes place inside)) (pure_choices nodes (choices_at nodes place) (listed nodes place inside)); stays = f.stays }

-- ---- what is found of each agent so far, and of one more
pub one_more_worth : (P : ℕ → Ratio → Type 0) (gains gains' : List Ratio) (x : Ratio) (n : ℕ) → gains' ≡ gains ++ x ∷ [] → length gains ≡ n → ((a : ℕ) (r : Ratio) → a < n → P a (get_or gains a r)) → P n x
    → (length gains' ≡ n + 1) × ((a : ℕ) (r : Ratio) → a < n + 1 → P a (get_or gains' a r))
one_more_worth P gains gains' x n e len all one = (
  ap length e ∙ length-append gains (x ∷ []) ∙ ap (λ k. k + 1) len,
  λ a r l. subst (λ g. P a (get_or g a r)) (sym e) (by_agent a r l (ℕ_discrete a n)),
)
  where
    less : (a n : ℕ) → a < n + 1 → a ≢ n → a < n
    less a n l m = omega arith

    last : (xs : List Ratio) (r : Ratio) → get_or (xs ++ x ∷ []) (length xs) r ≡ x
    last [] r = refl
    last (y ∷ ys) r = last ys r

    by_agent : (a : ℕ) (r : Ratio) → a < n + 1 → Dec (a ≡ n) → P a (get_or (gains ++ x ∷ []) a r)
    by_agent a r l (yes f) = subst (λ b. P b (get_or (gains ++ x ∷ []) b r)) (sym f) (subst (λ b. P n (get_or (gains ++ x ∷ []) b r)) len (subst (P n) (sym (last gains r)) one))
    by_agent a r l (no m) = subst (P a) (sym (get_or_append_left gains (x ∷ []) r a (subst (λ k. a < k) (sym len) (less a n l m)))) (all a r (less a n l m))

-- ---- the answer
pub what_is_found : (d : DiagramView) (place : ℕ) (found : PureView) → IsFirstPure d.nodes place → found.answers ≡ answers_of d.nodes (decisions_of d.nodes) (choices_at d.nodes place)
    → length found.gains ≡ d.agents → IsGains d (profile_of d.nodes (choices_at d.nodes place)) found.gains → IsPureFound d found
what_is_found d place found f answers count gains =
    let inside : place < length (choice_lists d.nodes) = subst (λ n. place < n) (as_many_profiles d.nodes) f.within in
    let w : IsWorld (counts_for d.nodes) (choices_at d.nodes place) = listed d.nodes place inside in
    let profile : found_profile d found ≡ profile_of d.nodes (choices_at d.nodes place) = ap (pure_profile d.nodes) answers ∙ answered_profile d.nodes (choices_at d.nodes place) in
    record {
      choices = record {
        follow = ap (map (λ (a : AnswerView). a.decision)) answers ∙ follow d.nodes (decisions_of d.nodes) (choices_at d.nodes place);
        fits = subst (All (FitsAnswer d.nodes)) (sym answers) (answers_fit d.nodes (decisions_of d.nodes) (choices_at d.nodes place) (decided d.nodes) (fits_of (counts_for d.nodes) (choices_at d.nodes place) w));
        worthless = subst (All HasNoWorths) (sym answers) (no_worths d.nodes (decisions_of d.nodes) (choices_at d.nodes place));
      };
      first = record { place = place; first = f; stands = profile_there d.nodes place inside ∙ sym profile };
      count = count;
      gains = subst (λ p. IsGains d p found.gains) (sym profile) gains;
    }
