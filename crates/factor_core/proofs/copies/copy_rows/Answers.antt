use Rattle.std.proofs.Common.{◌≡◌, ◌∙◌, ◌+◌, ◌*◌, [], ◌∷◌, ℕ, take, length, refl, sym, ap, arith}
use Rattle.std.proofs.lemmas.List.{append-nil}
use Rattle.factor_core.specs.Copies.{gathered}
use Rattle.factor_core.proofs.Copying.{can_next, here_fits, copied_turn, copied_all}
use Rattle.factor_core.proofs.copies.copy_rows.Goals as goal

pub loop-init : goal.loop-init
loop-init g c = record {
  here = omega arith;
  place = omega arith;
  len = refl;
  copied = sym (append-nil (take c.args.at c.args.out.now));
}

pub copy_run-place-requires : goal.copy_run-place-requires
copy_run-place-requires g c =
    let n = length (g.S.Source.cells c.args.source.now) in
    let Fit = g.S.Source.is_fit c.args.source.now in
    let place : c.loop.place ≡ c.args.at + c.loop.counter * (c.args.inner.states * 1) = omega (arith, c.loop.invariant.place, ap (λ k. c.loop.counter * k) (let one : c.args.inner.states * 1 ≡ c.args.inner.states = omega arith in one)) in
    can_next Fit n c.args.step (c.args.inner ∷ []) c.args.from (length c.args.out.now) c.args.at c.requires c.loop.counter c.loop.here c.loop.place (length c.loop.out) c.loop-test.true c.loop.invariant.here place c.loop.invariant.len

pub overflow_add-here : goal.overflow_add-here
overflow_add-here g c =
    let n = length (g.S.Source.cells c.args.source.now) in
    let Fit = g.S.Source.is_fit c.args.source.now in
    omega (arith, here_fits Fit n c.args.step (c.args.inner ∷ []) c.args.from (length c.args.out.now) c.args.at c.requires c.loop.counter c.loop.here c.loop-test.true c.loop.invariant.here)

pub loop-smaller : goal.loop-smaller
loop-smaller g c = omega (arith, c.loop-test.true)

pub loop-preserved : goal.loop-preserved
loop-preserved g c =
    let read = λ (from : ℕ). gathered g.C.Cell.ring (g.S.Source.cells c.args.source.now) (c.args.inner ∷ []) from in
    record {
      here = omega (arith, c.loop.invariant.here);
      place = omega (arith, c.loop.invariant.place, c.copy_run-place.ensures.next);
      len = c.copy_run-place.auto.out ∙ c.loop.invariant.len;
      copied = copied_turn read c.args.from c.args.step.stride c.loop.counter c.loop.here (take c.args.at c.args.out.now) (take c.loop.place c.loop.out) (take c.copy_run-place.result c.copy_run-place.new.out) c.loop.invariant.here c.loop.invariant.copied c.copy_run-place.ensures.out;
    }

pub returns-clause-next : goal.returns-clause-next
returns-clause-next g c =
    let all : c.loop.counter ≡ c.args.step.states = omega (arith, c.loop-test.false, c.loop.auto.counter-end) in
    omega (arith, c.loop.invariant.place, ap (λ k. k * c.args.inner.states) all)

pub returns-clause-out : goal.returns-clause-out
returns-clause-out g c =
    let turn = λ (s : ℕ). gathered g.C.Cell.ring (g.S.Source.cells c.args.source.now) (c.args.inner ∷ []) (c.args.from + s * c.args.step.stride) in
    copied_all turn c.args.step.states c.loop.counter (take c.args.at c.args.out.now) (take c.loop.place c.loop.out) (omega (arith, c.loop-test.false, c.loop.auto.counter-end)) c.loop.invariant.copied
