use Rattle.std.proofs.Common.{◌<◌, ◌∙◌, subst, sym, List, ℕ}
use Rattle.diagram_graph.specs.Free.{IsFree}
use Rattle.diagram_graph.specs.Rounds.{IsFirstLeft}
use Rattle.std.specs.Prelude.{Contains}
use Rattle.diagram_graph.proofs.Placings.{in_unless_free, in_within}
use Rattle.diagram_graph.proofs.rounds.next_needed.Goals as goal

pub unreachable-requires : goal.unreachable-requires
unreachable-requires g c =
    c.requires.stuck c.args.v (
      c.requires.free,
      λ e n. in_unless_free c.args.items.now c.args.placed.now e (c.requires.needs c.args.v e n)
          (c.in-None.ensures e (subst (λ (xs : List ℕ). Contains xs e) (sym c.needs.ensures) n)),
    )

pub first_in-requires-clause-within : goal.first_in-requires-clause-within
first_in-requires-clause-within g c e h = in_within c.args.items.now e (c.requires.needs c.args.v e (subst (λ (xs : List ℕ). Contains xs e) c.needs.ensures h))

pub needs-requires : goal.needs-requires
needs-requires g c = subst (λ n. c.args.v < n) c.requires.items_len (in_within c.args.items.now c.args.v c.requires.free.0)

pub first_in-requires-clause-same_len : goal.first_in-requires-clause-same_len
first_in-requires-clause-same_len g c = c.requires.placed_len ∙ sym c.requires.items_len

pub returns : goal.returns
returns g c = subst (λ (xs : List ℕ). IsFirstLeft (IsFree c.args.items.now c.args.placed.now) xs c.in-Some.e) c.needs.ensures c.in-Some.ensures
