use Rattle.std.proofs.Common.{sym, subst, refl, ◌∙◌, arith}
use Rattle.std.proofs.lemmas.List.{get_or_default}
use Rattle.std.proofs.lemmas.List.Elements.{Contains-get_or}
use Rattle.diagram_graph.specs.Free.{IsFree}
use Rattle.diagram_graph.proofs.rounds.first_in.Goals as goal

pub is_free-requires-clause-within : goal.is_free-requires-clause-within
is_free-requires-clause-within c = c.requires.within _ (Contains-get_or _ _ 0 c.loop-e-test.true)

pub returns-then-is_free : goal.returns-then-is_free
returns-then-is_free c = (c.loop-e.e-index, c.loop-e-test.true, refl, c.is_free.ensures.0 c.if-is_free.true, c.loop-e.invariant)

pub returns : goal.returns
returns c e h f = let l = h.1 in
    c.loop-e.invariant h.0 (omega arith) (subst (λ x. IsFree c.args.items.now c.args.placed.now x) (sym (get_or_default c.args.list.now h.0 0 e h.1 ∙ h.2)) f)
