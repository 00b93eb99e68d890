use Rattle.app_forms.proofs.forms.solve.solve_by_graph.Goals as goal

-- what the solver finds refuses nothing
pub returns-in-Ok-clause-solvable : goal.returns-in-Ok-clause-solvable
returns-in-Ok-clause-solvable c =
    let solved = c.in-Ok.ensures in
    record { order = solved.rows.0; bound = solved.rows.1.0; small = solved.rows.1.1 }

-- its answer keeps what it promises
pub returns-in-Ok-clause-ok : goal.returns-in-Ok-clause-ok
returns-in-Ok-clause-ok c =
    let solved = c.in-Ok.ensures in
    record {
      is_answer = solved.ok;
      subgame_perfect = solved.subgame_perfect;
      optimal = solved.optimal;
      optimum = solved.optimum;
      worth = solved.worth;
    }
