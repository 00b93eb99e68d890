-- What refuses the question how far a probability may move: the weight bound of the changed
-- diagrams, and the stages one behind another.
use Rattle.std.proofs.Common.{◌≡◌, ◌<◌, ◌-◌, ◌/◌, ◌*ℤ◌, ℕ, ℤ, pos, map, List, [], ◌∷◌, ◌++◌, length, inl, inr, refl, Option, None, Some, IfSome, Ok, sym, subst}
use Rattle.std.proofs.lemmas.List.{length-set}
use Rattle.first_fault.specs.Answers.{IsFoundIfAny}
use Rattle.first_fault.specs.Passes.{over}
use Rattle.maid_model.specs.Names.{NamesView, NamesFit}
use Rattle.maid_model.specs.Nodes.{node_at}
use Rattle.maid_model.specs.Tables.{chance_total}
use Rattle.maid_model.specs.Views.{DiagramView, NodeView}
use Rattle.threshold.specs.Faults.{IsCommonMultiple, WeightBound, node_with, span_pass, total_pass, with_cells, with_total}
use Rattle.app_forms.specs.Chances.{IsStatePlace}
use Rattle.app_forms.specs.Diagrams.{NamedDiagram}
use Rattle.app_forms.specs.Lines.{bound_line}
use Rattle.app_forms.specs.Outcome.{Refused, refused, done_with}
use Rattle.app_forms.specs.Reading.{TellsFor, TellsFound, comes_for, found_by}
use Rattle.app_forms.specs.Refusal.{refused_as}
use Rattle.app_forms.specs.Solve.{IsSolvable, solver_stages}
use Rattle.app_forms.specs.Stages.{Stage, moved_bound, name_stages, no_others, unknown_row}
use Rattle.app_forms.specs.Threshold.{HasThreshold, moved_pass, moving, row_pass}
use Rattle.app_forms.specs.declared.forms.chances.StatePlace.{StatePlace}
use Rattle.app_forms.specs.declared.refusal.Refusal.{Refusal}
use Rattle.app_forms.specs.declared.status.Status.TheVariants as statuses
use Rattle.app_forms.proofs.Refusals.{before, behind, found_too, stages_give, stages_refuse}
use Rattle.app_forms.proofs.SolveRefusals.{place_within}
use Rattle.app_forms.proofs.Solving.{none_found}

-- ---- the weight bound
-- where other states have weight it is the bound that is passed
pub bound_passed : (d : DiagramView) (x state row : ℕ) (at : Option ℕ) → span_pass d x state row (Some (WeightBound at)) → over (IsCommonMultiple d.nodes x state row) (total_pass d x) (Some (WeightBound at))
bound_passed d x state row at (inl h) = let e = h.1 in absurd cc
bound_passed d x state row at (inr h) = h.1

same_place : (v x : ℕ) → WeightBound (Some v) ≡ WeightBound (Some x) → v ≡ x
same_place v x e = cc

with_as_many : (nodes : List NodeView) (x : ℕ) (cells : List ℤ) → length (with_cells nodes x cells) ≡ length nodes
with_as_many nodes x cells = length-set nodes x (node_with (node_at nodes x) cells)

-- the place is the moved node, or one of a diagram with as many nodes
place_in : (d : DiagramView) (x total : ℕ) (at : Option ℕ) → x < length d.nodes → total_pass d x total (Some (WeightBound at)) → IfSome at (λ v. v < length d.nodes)
place_in d x total None l h = tt
place_in d x total (Some v) l (inl h) = subst (λ n. n < length d.nodes) (sym (same_place v x h.1)) l
place_in d x total (Some v) l (inr h) = subst (λ n. v < n) (with_as_many d.nodes x (map (λ w. w *ℤ pos (total / chance_total d.nodes x)) (node_at d.nodes x).cells)) (place_within (with_total d x total) v h.1)

-- so it has a name
pub bound_named : (d : DiagramView) (names : NamesView) (x state row : ℕ) (at : Option ℕ) → NamesFit d names → x < length d.nodes → span_pass d x state row (Some (WeightBound at)) → IfSome at (λ v. v < length names.nodes)
bound_named d names x state row at fit l h =
    let passed = bound_passed d x state row at h in
    subst (λ n. IfSome at (λ v. v < n)) (sym fit.nodes) (place_in d x passed.0 at l passed.2)

-- and the line tells it
pub bound_told : (d : DiagramView) (names : NamesView) (place : StatePlace) (row : ℕ) (at : Option ℕ) (told : List ℕ) → span_pass d place.node place.state (row - 1) (Some (WeightBound at)) → told ≡ bound_line names at
    → moved_pass d names place row (Some (refused statuses.WeightBound told))
bound_told d names place row at told h says = (refl, record { at = at; passes = bound_passed d place.node place.state (row - 1) at h; says = says })

-- ---- the stages one behind another
-- the stages of the row, and those behind them
abbrev pub row_stages : List ℕ → ℕ → List ℕ → List Stage
row_stages node row state = unknown_row node row state ∷ no_others node row state ∷ []

abbrev pub late_stages : List ℕ → ℕ → List ℕ → List Stage
late_stages node row state = solver_stages ++ moved_bound node row state ∷ []

module _ (d : DiagramView) (names : NamesView) (node : List ℕ) (row : ℕ) (state : List ℕ) where
  -- all but the text's fault
  abbrev stages : List Stage
  stages = name_stages node state ++ row_stages node row state ++ late_stages node row state

  refuses : (refusal : Refusal) → TellsFound d names stages refusal → TellsFor (moving node row state) d names refusal
  refuses refusal = stages_refuse d names (moving node row state) stages refusal refl

  -- a name or a label that is not there
  pub names_refuse : (refusal : Refusal) → TellsFound d names (name_stages node state) refusal → TellsFor (moving node row state) d names refusal
  names_refuse refusal h = refuses refusal (before d names (name_stages node state) (row_stages node row state ++ late_stages node row state) refusal h)

  module _ (place : StatePlace) (is_place : IsStatePlace d names node state place) where
    row_found : (f : Refused) → row_pass d place row node (Some f) → found_by d names (row_stages node row state) (Some f)
    row_found f (inl h) name bytes is = let x : NamedDiagram = record { d = d; names = names } in inl (x, is, (place, is_place, h))
    row_found f (inr (c, h)) name bytes is =
        let x : NamedDiagram = record { d = d; names = names } in
        inr ((x, is, (place, is_place, c)), inl (x, is, (place, is_place, h)))

    moved_found : (f : Refused) → moved_pass d names place row (Some f) → found_by d names (moved_bound node row state ∷ []) (Some f)
    moved_found f h name bytes is = let x : NamedDiagram = record { d = d; names = names } in inl (x, is, (place, is_place, h))

    names_clear : found_by d names (name_stages node state) None
    names_clear name bytes is = let x : NamedDiagram = record { d = d; names = names } in ((x, is, (place.node, is_place.node)), ((x, is, (place, is_place)), tt))

    place_clear : row_pass d place row node None → found_by d names (name_stages node state ++ row_stages node row state) None
    place_clear c name bytes is =
        let x : NamedDiagram = record { d = d; names = names } in
        ((x, is, (place.node, is_place.node)), ((x, is, (place, is_place)), ((x, is, (place, is_place, c.0)), ((x, is, (place, is_place, c.1)), tt))))

    solver_clear : row_pass d place row node None → IsSolvable d → found_by d names (name_stages node state ++ row_stages node row state ++ solver_stages) None
    solver_clear c can name bytes is =
        let p = place_clear c name bytes is in
        (p.0, (p.1.0, (p.1.1.0, (p.1.1.1.0, none_found d names can name bytes is))))

    -- the row
    pub row_refuses : (refusal : Refusal) → IsFoundIfAny (row_pass d place row node) (refused_as refusal) → TellsFor (moving node row state) d names refusal
    row_refuses refusal h =
        refuses refusal
        (behind d names (name_stages node state) (row_stages node row state ++ late_stages node row state) refusal names_clear
        (before d names (row_stages node row state) (late_stages node row state) refusal (found_too (row_pass d place row node) (found_by d names (row_stages node row state)) row_found (refused_as refusal) h)))

    -- the solver
    pub solver_refuses : (refusal : Refusal) → row_pass d place row node None → TellsFound d names solver_stages refusal → TellsFor (moving node row state) d names refusal
    solver_refuses refusal c h =
        refuses refusal
        (behind d names (name_stages node state ++ row_stages node row state) (late_stages node row state) refusal (place_clear c)
        (before d names solver_stages (moved_bound node row state ∷ []) refusal h))

    -- the changed diagrams
    pub moved_refuses : (refusal : Refusal) → row_pass d place row node None → IsSolvable d → IsFoundIfAny (moved_pass d names place row) (refused_as refusal) → TellsFor (moving node row state) d names refusal
    moved_refuses refusal c can h =
        refuses refusal
        (behind d names (name_stages node state ++ row_stages node row state ++ solver_stages) (moved_bound node row state ∷ []) refusal (solver_clear c can)
        (found_too (moved_pass d names place row) (found_by d names (moved_bound node row state ∷ [])) moved_found (refused_as refusal) h))

    -- or nothing does, and the interval is told
    pub moved_given : (printed : List ℕ) → row_pass d place row node None → IsSolvable d → moved_pass d names place row None → HasThreshold node row state d names printed
        → comes_for (moving node row state) d names (Ok (done_with printed))
    moved_given printed c can keeps =
        stages_give d names stages (HasThreshold node row state) printed
        (λ name bytes is.
        let x : NamedDiagram = record { d = d; names = names } in
        let p = solver_clear c can name bytes is in
        (p.0, (p.1.0, (p.1.1.0, (p.1.1.1.0, (p.1.1.1.1.0, (p.1.1.1.1.1.0, (p.1.1.1.1.1.1.0, ((x, is, (place, is_place, keeps)), tt)))))))))
