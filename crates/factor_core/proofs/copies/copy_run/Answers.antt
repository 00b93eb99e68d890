use Rattle.std.proofs.Common.{◌∙◌, ◌+◌, ◌*◌, ◌<◌, [], ◌∷◌, ℕ, take, set, length, refl, sym, arith}
use Rattle.std.proofs.lemmas.List.{append-nil, length-set}
use Rattle.cell_rings.specs.Sums.{cell_at}
use Rattle.factor_core.proofs.Copying.{can_next, here_fits, copied_turn, copied_all, copied_cell}
use Rattle.factor_core.proofs.copies.copy_run.Goals as goal

pub loop-init : goal.loop-init
loop-init g c = record {
  here = omega arith;
  place = omega arith;
  len = refl;
  copied = sym (append-nil (take c.args.at c.args.out.now));
}

pub read-requires-clause-fit : goal.read-requires-clause-fit
read-requires-clause-fit g c = c.requires.fit

pub read-requires-clause-within : goal.read-requires-clause-within
read-requires-clause-within g c =
    let n = length (g.S.Source.cells c.args.source.now) in
    let Fit = g.S.Source.is_fit c.args.source.now in
    let next = can_next Fit n c.args.step [] c.args.from (length c.args.out.now) c.args.at c.requires c.loop.counter c.loop.here c.loop.place (length c.loop.out) c.loop-test.true c.loop.invariant.here (omega (arith, c.loop.invariant.place)) c.loop.invariant.len in
    next.reads

pub bounds-out-place : goal.bounds-out-place
bounds-out-place g c = omega (arith, c.requires.room, c.loop.invariant.place, c.loop.invariant.len, c.loop-test.true)

pub overflow_add-here : goal.overflow_add-here
overflow_add-here g c =
    let n = length (g.S.Source.cells c.args.source.now) in
    let Fit = g.S.Source.is_fit c.args.source.now in
    omega (arith, here_fits Fit n c.args.step [] c.args.from (length c.args.out.now) c.args.at c.requires c.loop.counter c.loop.here c.loop-test.true c.loop.invariant.here)

pub loop-smaller : goal.loop-smaller
loop-smaller g c = omega (arith, c.loop-test.true)

pub loop-preserved : goal.loop-preserved
loop-preserved g c =
    let read = λ (from : ℕ). cell_at g.C.Cell.ring (g.S.Source.cells c.args.source.now) from ∷ [] in
    let within : c.loop.place < length c.loop.out = omega (arith, c.requires.room, c.loop.invariant.place, c.loop.invariant.len, c.loop-test.true) in
    record {
      here = omega (arith, c.loop.invariant.here);
      place = omega (arith, c.loop.invariant.place);
      len = length-set c.loop.out c.loop.place c.read.result ∙ c.loop.invariant.len;
      copied = copied_turn read c.args.from c.args.step.stride c.loop.counter c.loop.here (take c.args.at c.args.out.now) (take c.loop.place c.loop.out) (take (c.loop.place + 1) (set c.loop.out c.loop.place c.read.result)) c.loop.invariant.here c.loop.invariant.copied (copied_cell c.loop.out c.loop.place c.read.result (cell_at g.C.Cell.ring (g.S.Source.cells c.args.source.now) c.loop.here) within c.read.ensures);
    }

pub returns-clause-next : goal.returns-clause-next
returns-clause-next g c = omega (arith, c.loop.invariant.place, c.loop-test.false, c.loop.auto.counter-end)

pub returns-clause-out : goal.returns-clause-out
returns-clause-out g c =
    let turn = λ (s : ℕ). cell_at g.C.Cell.ring (g.S.Source.cells c.args.source.now) (c.args.from + s * c.args.step.stride) ∷ [] in
    copied_all turn c.args.step.states c.loop.counter (take c.args.at c.args.out.now) (take c.loop.place c.loop.out) (omega (arith, c.loop-test.false, c.loop.auto.counter-end)) c.loop.invariant.copied
