use Rattle.std.proofs.Common.{subst, sym, ◌<◌, List, ℕ}
use Rattle.std.specs.Prelude.{Contains}
use Rattle.diagram_graph.proofs.placing.is_ready.Goals as goal

pub all_placed-requires : goal.all_placed-requires
all_placed-requires g c e h = subst (λ x. e < x) (sym c.requires.placed_len) (c.requires.needs c.args.v e (subst (λ (xs : List ℕ). Contains xs e) c.needs.ensures h))

pub returns-then-is_free : goal.returns-then-is_free
returns-then-is_free g c = (
  (λ t. (c.is_free.ensures.0 c.if-is_free.true, λ e n. c.all_placed.ensures.0 t e (subst (λ (xs : List ℕ). Contains xs e) (sym c.needs.ensures) n))),
  (λ r. c.all_placed.ensures.1 (λ e h. r.1 e (subst (λ (xs : List ℕ). Contains xs e) c.needs.ensures h))),
)
