-- Where bytes stand for a diagram that the request can answer, no stage finds anything.
use Rattle.std.proofs.Common.{ℕ, List, None}
use Rattle.first_fault.specs.Passes.{each}
use Rattle.maid_model.specs.Names.{NamesView}
use Rattle.maid_model.specs.Views.{DiagramView}
use Rattle.app_forms.specs.Answers.{FindsNothing, CanAnswer}
use Rattle.app_forms.specs.Asking.{CanBeAsked, asking_stages}
use Rattle.app_forms.specs.Diagrams.{NamedDiagram, IsDiagramOf}
use Rattle.app_forms.specs.Request.{Request, solve, check, judge, graph, print, trim, pure, update, info, control, evidence, threshold, demo}
use Rattle.app_forms.specs.Stages.{Finds}

-- an agent is asked about that a node has
asked_clear : (agent bytes : List ℕ) (d : DiagramView) (names : NamesView) (name : List ℕ) → IsDiagramOf bytes d names → CanBeAsked agent d names → each (λ s. Finds s (name, bytes)) (asking_stages agent) None
asked_clear agent bytes d names name is can =
    let x : NamedDiagram = record { d = d; names = names } in
    let solvable = can.solvable in ((x, is), ((x, is, can.is_agent), ((x, is, solvable.order), ((x, is, solvable.bound), ((x, is, solvable.small), tt)))))

pub nothing_found : (request : Request) (bytes : List ℕ) (d : DiagramView) (names : NamesView) → IsDiagramOf bytes d names → CanAnswer request d names → FindsNothing request bytes
nothing_found (solve name) bytes d names is can =
    let x : NamedDiagram = record { d = d; names = names } in ((x, is), ((x, is, can.order), ((x, is, can.bound), ((x, is, can.small), tt))))
nothing_found (check name report) bytes d names is can =
    let x : NamedDiagram = record { d = d; names = names } in ((x, is), ((x, is, can.bound), ((x, is, can.few), tt)))
nothing_found (judge text report) bytes d names is can = absurd can
nothing_found (graph name) bytes d names is can = ((record { d = d; names = names }, is), tt)
nothing_found (print name) bytes d names is can = ((record { d = d; names = names }, is), tt)
nothing_found (trim name) bytes d names is can = ((record { d = d; names = names }, is), tt)
nothing_found (pure name) bytes d names is can =
    let x : NamedDiagram = record { d = d; names = names } in ((x, is), ((x, is, can.bound), ((x, is, can.small), ((x, is, can.some), tt))))
nothing_found (update name) bytes d names is can =
    let x : NamedDiagram = record { d = d; names = names } in ((x, is), ((x, is, can.one_owner), ((x, is, can.bound), ((x, is, can.small), ((x, is, can.settles), tt)))))
nothing_found (info name agent) bytes d names is can = asked_clear agent bytes d names name is can
nothing_found (control name agent) bytes d names is can = asked_clear agent bytes d names name is can
nothing_found (evidence name node state) bytes d names is can =
    let x : NamedDiagram = record { d = d; names = names } in
    let at = can.is_place in (
      (x, is),
      (
        (x, is, (can.place.node, at.node)),
        (
          (x, is, (can.place, at)),
          (
            (x, is, (can.place, at, can.not_below)),
            (
              (x, is, (can.place, at, can.rules)),
              (
                (x, is, (can.place, at, can.order)),
                ((x, is, (can.place, at, can.bounds)), ((x, is, (can.place, at, can.small)), ((x, is, (can.place, at, can.possible)), tt))),
              ),
            ),
          ),
        ),
      ),
    )
nothing_found (threshold name node row state) bytes d names is can =
    let x : NamedDiagram = record { d = d; names = names } in
    let at = can.is_place in
    let solvable = can.solvable in (
      (x, is),
      (
        (x, is, (can.place.node, at.node)),
        (
          (x, is, (can.place, at)),
          (
            (x, is, (can.place, at, can.has_row)),
            (
              (x, is, (can.place, at, can.others)),
              ((x, is, solvable.order), ((x, is, solvable.bound), ((x, is, solvable.small), ((x, is, (can.place, at, can.bound)), tt)))),
            ),
          ),
        ),
      ),
    )
nothing_found (demo k) bytes d names is can =
    let x : NamedDiagram = record { d = d; names = names } in ((x, is), ((x, is, can.order), ((x, is, can.bound), ((x, is, can.small), tt))))
