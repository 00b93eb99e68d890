use Rattle.std.proofs.Common.{◌∷◌, refl, ◌∙◌, arith}
use Rattle.std.proofs.lemmas.Result.{err_from_is_err_and}
use Rattle.net_parser.specs.Reading.{name, given}
use Rattle.net_parser.proofs.Heads.{potential_names}
use Rattle.net_parser.proofs.reader.Reader.potential_head.Goals as goal

pub returns-in_err-title-clause-follows : goal.returns-in_err-title-clause-follows
returns-in_err-title-clause-follows c = λ after.
    let p = err_from_is_err_and c.from_residual-in_err-title.result c.from_residual-in_err-title.ensures.1 in
    rw (p.1, p.2, c.in_ok-expect.ensures.follows (name ∷ given ∷ after)) (c.in_err-title.ensures.follows (given ∷ after))

pub returns-in_err-names-clause-follows : goal.returns-in_err-names-clause-follows
returns-in_err-names-clause-follows c = λ after.
    let p = err_from_is_err_and c.from_residual-in_err-names.result c.from_residual-in_err-names.ensures.1 in
    let front = c.in_ok-expect.ensures.follows (name ∷ given ∷ after) ∙ c.in_ok-title.ensures.follows (given ∷ after) in
    rw (p.1, p.2, front) (c.in_err-names.ensures.follows after)

pub returns-clause-rule : goal.returns-clause-rule
returns-clause-rule c =
    let read = c.in_ok-names.ensures.rule in
    (refl, potential_names c.in_ok-names.names.items _ read.0 c.in_ok-title.title c.args.self.now c.expect.new.self c.name.new.self c.given_names.new.self c.in_ok-vec.ensures.items read.1 c.in_ok-expect.ensures.rule c.in_ok-title.ensures.rule read.2)

pub returns-clause-follows : goal.returns-clause-follows
returns-clause-follows c = λ after.
    c.in_ok-expect.ensures.follows (name ∷ given ∷ after) ∙ c.in_ok-title.ensures.follows (given ∷ after) ∙ c.in_ok-names.ensures.follows after

pub returns-clause-shorter : goal.returns-clause-shorter
returns-clause-shorter c = omega (arith, c.in_ok-expect.ensures.shorter, c.in_ok-title.ensures.shorter, c.in_ok-names.ensures.shorter)
