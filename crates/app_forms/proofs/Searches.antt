-- The stages of a search for an equilibrium and of updating, one behind another.
use Rattle.std.proofs.Common.{◌≡◌, ◌∙◌, ℕ, List, inl, inr, refl, ap, Option, None, Some}
use Rattle.maid_model.specs.Names.{NamesView}
use Rattle.maid_model.specs.Views.{DiagramView}
use Rattle.maid_model.specs.declared.answers.Ratio.{Ratio}
use Rattle.policy_update.specs.Faults.{HasTwoOwners, update_pass}
use Rattle.policy_update.specs.Faults as updating
use Rattle.pure_search.specs.Faults.{pure_pass}
use Rattle.pure_search.specs.Faults as search
use Rattle.pure_search.specs.declared.faults.PureFault.TheVariants as faults
use Rattle.app_forms.specs.Diagrams.{NamedDiagram}
use Rattle.app_forms.specs.Lines.{bound_line, no_equilibrium_line, not_one_agent_line, profiles_line, rounds_line, too_large_line}
use Rattle.app_forms.specs.Outcome.{refused}
use Rattle.app_forms.specs.Pure.{search_stages}
use Rattle.app_forms.specs.Reading.{found_by}
use Rattle.app_forms.specs.Update.{update_stages}
use Rattle.app_forms.specs.declared.forms.update.TheConstants.{MOST_ROUNDS}
use Rattle.app_forms.specs.declared.status.Status.TheVariants.{NotOneAgent, NoPure, RoundsSpent, TooLarge, WeightBound}
use Rattle.app_forms.proofs.SolveRefusals.{IsPassed, passed_told}

-- ---- the search
passed_in_search : (d : DiagramView) (at : Option ℕ) → search.search_bound_pass d (Some (faults.WeightBound at)) → IsPassed d at
passed_in_search d None h = h
passed_in_search d (Some v) h = h

pub search_passed : (d : DiagramView) (at : Option ℕ) → pure_pass d (Some (faults.WeightBound at)) → IsPassed d at
search_passed d at (inl h) = passed_in_search d at h
search_passed d at (inr (keeps, inl h)) = absurd h
search_passed d at (inr (keeps, inr (small, h))) = absurd h

module _ (d : DiagramView) (names : NamesView) (told : List ℕ) where
  pub search_bound : (at : Option ℕ) → pure_pass d (Some (faults.WeightBound at)) → told ≡ bound_line names at → found_by d names search_stages (Some (refused WeightBound told))
  search_bound at h says name bytes is =
      let x : NamedDiagram = record { d = d; names = names } in
      inl (x, is, (refl, passed_told d names at told (search_passed d at h) says))

  pub search_size : (profiles leaves : ℕ) → pure_pass d (Some (faults.TooLarge profiles leaves)) → told ≡ profiles_line profiles leaves → found_by d names search_stages (Some (refused TooLarge told))
  search_size profiles leaves (inl h) says name bytes is = absurd h
  search_size profiles leaves (inr (keeps, inl h)) says name bytes is =
      let x : NamedDiagram = record { d = d; names = names } in
      inr ((x, is, keeps), inl (x, is, (refl, record { profiles = profiles; leaves = leaves; is_size = h; says = says })))
  search_size profiles leaves (inr (keeps, inr (small, h))) says name bytes is = absurd h

  pub search_none : (profiles : ℕ) → pure_pass d (Some (faults.NoPure profiles)) → told ≡ no_equilibrium_line profiles → found_by d names search_stages (Some (refused NoPure told))
  search_none profiles (inl h) says name bytes is = absurd h
  search_none profiles (inr (keeps, inl h)) says name bytes is = absurd h
  search_none profiles (inr (keeps, inr (small, h))) says name bytes is =
      let x : NamedDiagram = record { d = d; names = names } in
      inr ((x, is, keeps), inr ((x, is, small), inl (x, is, (refl, record { none = λ some. h.0 some.0 some.1; says = says ∙ ap no_equilibrium_line h.1 }))))

-- ---- updating
passed_in_update : (d : DiagramView) (at : Option ℕ) → updating.update_bound_pass d (Some (updating.WeightBound at)) → IsPassed d at
passed_in_update d None h = h
passed_in_update d (Some v) h = h

pub update_passed : (d : DiagramView) (at : Option ℕ) → update_pass d MOST_ROUNDS (Some (updating.WeightBound at)) → (HasTwoOwners d.nodes → ⊥) × IsPassed d at
update_passed d at (inl h) = let e = h.1 in absurd cc
update_passed d at (inr (one, inl h)) = (one, passed_in_update d at h)
update_passed d at (inr (one, inr (keeps, inl h))) = absurd h
update_passed d at (inr (one, inr (keeps, inr (small, h)))) = absurd h

module _ (d : DiagramView) (names : NamesView) (told : List ℕ) where
  pub update_owners : update_pass d MOST_ROUNDS (Some updating.NotOneAgent) → told ≡ not_one_agent_line → found_by d names update_stages (Some (refused NotOneAgent told))
  update_owners (inl h) says name bytes is = let x : NamedDiagram = record { d = d; names = names } in inl (x, is, (refl, record { two = h.0; says = says }))
  update_owners (inr (one, inl h)) says name bytes is = absurd h
  update_owners (inr (one, inr (keeps, inl h))) says name bytes is = absurd h
  update_owners (inr (one, inr (keeps, inr (small, h)))) says name bytes is = absurd h

  pub update_bound : (at : Option ℕ) → update_pass d MOST_ROUNDS (Some (updating.WeightBound at)) → told ≡ bound_line names at → found_by d names update_stages (Some (refused WeightBound told))
  update_bound at h says name bytes is =
      let x : NamedDiagram = record { d = d; names = names } in
      let found = update_passed d at h in
      inr ((x, is, found.0), inl (x, is, (refl, passed_told d names at told found.1 says)))

  pub update_size : (cells work : ℕ) → update_pass d MOST_ROUNDS (Some (updating.TooLarge cells work)) → told ≡ too_large_line cells work → found_by d names update_stages (Some (refused TooLarge told))
  update_size cells work (inl h) says name bytes is = let e = h.1 in absurd cc
  update_size cells work (inr (one, inl h)) says name bytes is = absurd h
  update_size cells work (inr (one, inr (keeps, inl h))) says name bytes is =
      let x : NamedDiagram = record { d = d; names = names } in
      inr ((x, is, one), inr ((x, is, keeps), inl (x, is, (refl, record { cells = cells; work = work; is_size = h; says = says }))))
  update_size cells work (inr (one, inr (keeps, inr (small, h)))) says name bytes is = absurd h

  pub update_rounds : (rounds : ℕ) (gain : Ratio) → update_pass d MOST_ROUNDS (Some (updating.RoundsSpent rounds gain)) → told ≡ rounds_line rounds → found_by d names update_stages (Some (refused RoundsSpent told))
  update_rounds rounds gain (inl h) says name bytes is = let e = h.1 in absurd cc
  update_rounds rounds gain (inr (one, inl h)) says name bytes is = absurd h
  update_rounds rounds gain (inr (one, inr (keeps, inl h))) says name bytes is = absurd h
  update_rounds rounds gain (inr (one, inr (keeps, inr (small, h)))) says name bytes is =
      let x : NamedDiagram = record { d = d; names = names } in
      inr ((x, is, one), inr ((x, is, keeps), inr ((x, is, small), inl (x, is, (refl, record { all_raise = (h.1.profile, h.1.reached); says = says ∙ ap rounds_line h.0 })))))
