-- What holds of each answer of a diagram holds of an answer that is given.
use Rattle.std.proofs.Common.{Result, Ok, Err, IfOk}
use Rattle.maid_model.specs.Answers.{IsAnswer}
use Rattle.maid_model.specs.Diagrams.{IsDiagram}
use Rattle.maid_model.specs.Views.{DiagramView, SolvedView}

pub both : {E : Type 0} (d : DiagramView) (r : Result SolvedView E) (Q : SolvedView → Type 0) → ((solved : SolvedView) → IsDiagram d → IsAnswer d solved → Q solved) → IfOk r (λ solved. IsDiagram d) → IfOk r (IsAnswer d) → IfOk r Q
both d (Ok solved) Q law is h = law solved is h
both d (Err e) Q law is h = h
