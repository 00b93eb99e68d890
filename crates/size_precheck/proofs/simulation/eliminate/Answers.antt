use Rattle.std.proofs.Common.{◌≡◌, ◌↔◌, ℕ, ◌≤◌, ◌^◌, refl, sym, subst, inr}
use Rattle.node_sets.specs.Sets.{holds, IsIn}
use Rattle.size_precheck.specs.declared.joints.Counted.{Counted}
use Rattle.size_precheck.specs.Joints.{IsCounted}
use Rattle.size_precheck.proofs.Counting.{stopped_few}
use Rattle.size_precheck.proofs.Placed.{others_kept, placed_less}
use Rattle.size_precheck.proofs.Stepping.{step_right}
use Rattle.size_precheck.proofs.simulation.eliminate.Goals as goal

pub returns-clause-step : goal.returns-clause-step
returns-clause-step c nodes live are stands =
    let held : Counted = c.counted_of.result.now in
    let v_counted : IsCounted c.args.states.now held.joint held.cells =
    subst (λ (h : Counted). IsCounted c.args.states.now h.joint h.cells) (sym c.counted_of.ensures) (stands.counted c.args.v (inr refl)) in
    let scope_is : (x : ℕ) → IsIn c.difference-scope.result x ↔ (IsIn held.joint.set x × (x ≡ c.args.v → ⊥)) = (λ x. (
      (λ m. let h = (c.difference-scope.ensures x).0 m in (h.0, λ e. h.1 ((c.of-own.ensures x).1 e))),
      (λ h. (c.difference-scope.ensures x).1 (h.0, λ o. h.1 ((c.of-own.ensures x).0 o))),
    )) in
    step_right nodes c.args.states.now c.args.waiting.now c.args.v live c.args.known.now c.put_made.new.known held c.difference-scope.result c.intersection-at.result c.of-own.result _ _ _ are
    (record {
      small = c.requires.small;
      apart = c.requires.apart;
      held_is = c.counted_of.ensures;
      scope_is = scope_is;
      at_is = c.intersection-at.ensures;
      out_is = c.of-own.ensures;
      put = c.in_ok-put_made.ensures.put;
      counted = c.in_ok-put_made.ensures.counted;
      same = others_kept (IsIn c.args.waiting.now) c.intersection-at.result c.args.known.now c.put_made.new.known c.requires.places (λ y m. ((c.intersection-at.ensures y).0 m).1) c.put_made.ensures.same;
    })
    stands c.count_members-tables.ensures c.multiply.ensures (c.count_less.ensures.counted scope_is v_counted)

pub counted_of-requires : goal.counted_of-requires
counted_of-requires c = c.requires.here

pub of-own-requires : goal.of-own-requires
of-own-requires c = c.requires.small

pub put_made-requires-clause-states : goal.put_made-requires-clause-states
put_made-requires-clause-states c = c.requires.states

pub put_made-requires-clause-tag : goal.put_made-requires-clause-tag
put_made-requires-clause-tag c = c.requires.small

pub put_made-requires-clause-out : goal.put_made-requires-clause-out
put_made-requires-clause-out c = c.of-own.ensures

pub put_made-requires-clause-places : goal.put_made-requires-clause-places
put_made-requires-clause-places c = placed_less (IsIn c.args.waiting.now) (IsIn c.intersection-at.result) c.args.known.now (λ y m. ((c.intersection-at.ensures y).0 m).1) c.requires.places

pub count_less-requires-clause-len : goal.count_less-requires-clause-len
count_less-requires-clause-len c = c.requires.states

pub count_less-requires-clause-small : goal.count_less-requires-clause-small
count_less-requires-clause-small c = c.requires.small

pub returns-clause-places : goal.returns-clause-places
returns-clause-places c = c.put_made.ensures.places

pub returns-clause-few : goal.returns-clause-few
returns-clause-few c = c.count_less.ensures.few

pub returns-clause-little : goal.returns-clause-little
returns-clause-little c = subst (λ (n : ℕ). n ≤ 10 ^ 18) (sym c.multiply.ensures) (stopped_few _)

pub returns-clause-classes : goal.returns-clause-classes
returns-clause-classes c = c.in_ok-put_made.ensures.classes (holds c.args.waiting.now) (λ y m. ((c.intersection-at.ensures y).0 m).1) c.requires.places
