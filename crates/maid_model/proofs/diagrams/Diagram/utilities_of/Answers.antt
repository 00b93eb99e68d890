use Rattle.maid_model.proofs.Below.{equal_tests, utility_is}
use Rattle.maid_model.proofs.diagrams.Diagram.utilities_of.Goals as goal

pub returns-clause-utilities : goal.returns-clause-utilities
returns-clause-utilities c v =
    let are = c.utilities_among.ensures v in
    ((λ t. (are.0 t).1), (λ u. are.1 ((c.utilities.ensures.nodes v).1 (record { within = u.within; kind = u.kind }), u)))

pub returns-clause-tested : goal.returns-clause-tested
returns-clause-tested c v l =
    let are = c.utilities_among.ensures v in
    let is = utility_is c.args.self.now.nodes c.args.agent v in
    equal_tests _ _ (λ t. let u = (are.0 t).1 in is.1 (u.kind, u.owner))
    (λ t. let u = is.0 t in are.1 ((c.utilities.ensures.nodes v).1 (record { within = l; kind = u.0 }), record { within = l; kind = u.0; owner = u.1 }))
