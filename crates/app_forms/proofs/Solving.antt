-- The stages of solving one behind another: each counts where those before it find nothing.
use Rattle.std.proofs.Common.{◌≡◌, ℕ, List, [], ◌∷◌, ◌++◌, inl, inr, refl, None, Some, Ok}
use Rattle.first_fault.specs.Passes.{each}
use Rattle.maid_model.specs.Names.{NamesView}
use Rattle.maid_model.specs.Placing.{HasRelianceOrder, IsRelianceCycle}
use Rattle.maid_model.specs.Scopes.{KeepsScopedBounds}
use Rattle.maid_model.specs.Views.{DiagramView}
use Rattle.rule_solver.specs.Faults.{IsTooLarge}
use Rattle.app_forms.specs.Diagrams.{NamedDiagram}
use Rattle.app_forms.specs.Lines.{cycle_line, too_large_line}
use Rattle.app_forms.specs.Outcome.{refused, done_with}
use Rattle.app_forms.specs.Reading.{comes_for, found_by}
use Rattle.app_forms.specs.Solve.{IsSolvable, solver_stages}
use Rattle.app_forms.specs.Stages.{Stage, Finds, TellsBound, text_fault}
use Rattle.app_forms.specs.Tasks.{text_task}
use Rattle.app_forms.proofs.Refusals.{stages_give}
use Rattle.app_forms.specs.declared.status.Status.TheVariants.{Cycle, WeightBound, TooLarge}

module _ (d : DiagramView) (names : NamesView) (told : List ℕ) where
  pub cycle_found : (cycle : List ℕ) → (HasRelianceOrder d.nodes → ⊥) → IsRelianceCycle d.nodes cycle → told ≡ cycle_line names cycle → found_by d names solver_stages (Some (refused Cycle told))
  cycle_found cycle no_order is_cycle says name bytes is =
      let x : NamedDiagram = record { d = d; names = names } in
      inl (x, is, (refl, record { no_order = no_order; cycle = cycle; is_cycle = is_cycle; says = says }))

  pub bound_found : HasRelianceOrder d.nodes → TellsBound d names told → found_by d names solver_stages (Some (refused WeightBound told))
  bound_found order tells name bytes is =
      let x : NamedDiagram = record { d = d; names = names } in
      inr ((x, is, order), inl (x, is, (refl, tells)))

  pub size_found : (cells work : ℕ) → HasRelianceOrder d.nodes → KeepsScopedBounds d → IsTooLarge d cells work → told ≡ too_large_line cells work → found_by d names solver_stages (Some (refused TooLarge told))
  size_found cells work order keeps is_size says name bytes is =
      let x : NamedDiagram = record { d = d; names = names } in
      inr ((x, is, order), inr ((x, is, keeps), inl (x, is, (refl, record { cells = cells; work = work; is_size = is_size; says = says }))))

-- they find nothing in a diagram that can be solved
pub none_found : (d : DiagramView) (names : NamesView) → IsSolvable d → found_by d names solver_stages None
none_found d names can name bytes is =
    let x : NamedDiagram = record { d = d; names = names } in ((x, is, can.order), ((x, is, can.bound), ((x, is, can.small), tt)))

clear_behind : (name bytes : List ℕ) (front back : List Stage) → each (λ s. Finds s (name, bytes)) front None → each (λ s. Finds s (name, bytes)) back None → each (λ s. Finds s (name, bytes)) (front ++ back) None
clear_behind name bytes [] back clear rest = rest
clear_behind name bytes (s ∷ front) back clear rest = (clear.0, clear_behind name bytes front back clear.1 rest)

-- so a task of these stages, behind others that find nothing, gives its text
pub solved_given : (d : DiagramView) (names : NamesView) (front : List Stage) (IsTextOf : DiagramView → NamesView → List ℕ → Type 0) (told : List ℕ) → found_by d names front None → IsSolvable d → IsTextOf d names told
    → comes_for (text_task (text_fault ∷ front ++ solver_stages) IsTextOf) d names (Ok (done_with told))
solved_given d names front IsTextOf told clear can text =
    stages_give d names (front ++ solver_stages) IsTextOf told (λ name bytes is. clear_behind name bytes front solver_stages (clear name bytes is) (none_found d names can name bytes is)) text
