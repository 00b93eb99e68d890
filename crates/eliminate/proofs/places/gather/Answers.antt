use Rattle.std.proofs.Common.{rules, ◌∙◌, sym, arith}
use Rattle.node_sets.specs.Sets.{holds}
use Rattle.eliminate.proofs.Placing.{not_true, from_front, gather_more}
use Rattle.eliminate.proofs.places.gather.Goals as goal

pub places-preserved : goal.places-preserved
places-preserved c =
    let first = c.in-Some.ensures in
    let place = c.requires.within c.in-Some.place first.inside in
    let small = first.not_before in (
      gather_more (holds c.args.places.now) c.places.n c.places.next c.in-Some.place c.args.slots.now c.places.found _ (omega (arith, c.places.invariant.1, c.places.invariant.3, c.requires.room)) first.not_before place
          (λ k a b. not_true (holds c.args.places.now k) (first.first k a b)) first.inside c.places.invariant.0,
      omega (arith, c.places.invariant.1),
      omega (arith, place),
      search rules,
    )

pub returns-clause-list : goal.returns-clause-list
returns-clause-list c =
    c.places.invariant.0 ∙ sym (from_front (holds c.args.places.now) c.places.next c.args.slots.now c.places.invariant.2 (λ k a b. not_true (holds c.args.places.now k) (c.in_default.ensures k a)))
