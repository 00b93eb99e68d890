use Rattle.std.proofs.Common.{rules, ◌≡◌, ◌+◌, ◌*◌, ◌<◌, ◌==◌, ◌∷◌, ℕ, Bool, true, false, take, set, length, refl, sym, ap, subst, ◌∙◌, arith}
use Rattle.std.proofs.lemmas.List.{append-nil, drop_all, length-drop}
use Rattle.std.proofs.lemmas.Bool.Decides.{nat_tests}
use Rattle.cell_rings.specs.Sums.{cell_at}
use Rattle.factor_core.specs.Copies.{gathered, count_of_steps, CanCopy, Gathers, ReadsBefore}
use Rattle.factor_core.proofs.Copying.{first_of, split, one_step, two_steps, can_next, here_fits, copied_turn, copied_all, copied_cell}
use Rattle.factor_core.proofs.copies.+copy_walk.Goals as goal

-- what the test of an empty list tells of its length
is_none : (b : Bool) (n : ℕ) → b ≡ (n == 0) → b ≡ true → n ≡ 0
is_none b n h e = grind (arith, nat_tests)

is_some : (b : Bool) (n : ℕ) → b ≡ (n == 0) → b ≡ false → 0 < n
is_some b n h e = grind (arith, nat_tests)

pub read-requires-clause-fit : goal.read-requires-clause-fit
read-requires-clause-fit g t c = c.requires.fit

pub read-requires-clause-within : goal.read-requires-clause-within
read-requires-clause-within g t c =
    let none = drop_all 0 c.args.steps.now (omega (arith, is_none _ _ c.is_empty.ensures c.if-is_empty.true)) in
    subst (λ l. ReadsBefore (length (g.S.Source.cells c.args.source.now)) l c.args.from) none c.requires.reads

pub bounds-out-at : goal.bounds-out-at
bounds-out-at g t c =
    let none = drop_all 0 c.args.steps.now (omega (arith, is_none _ _ c.is_empty.ensures c.if-is_empty.true)) in
    omega (arith, c.requires.room, ap count_of_steps none)

pub returns-then-is_empty-clause-next : goal.returns-then-is_empty-clause-next
returns-then-is_empty-clause-next g t c =
    let none = drop_all 0 c.args.steps.now (omega (arith, is_none _ _ c.is_empty.ensures c.if-is_empty.true)) in
    omega (arith, ap count_of_steps none)

pub returns-then-is_empty-clause-cells : goal.returns-then-is_empty-clause-cells
returns-then-is_empty-clause-cells g t c =
    let cells = g.S.Source.cells c.args.source.now in
    let out = c.args.out.now in
    let none = drop_all 0 c.args.steps.now (omega (arith, is_none _ _ c.is_empty.ensures c.if-is_empty.true)) in
    let within : c.args.at < length out = omega (arith, c.requires.room, ap count_of_steps none) in
    subst (λ l. Gathers g.C.Cell.ring cells l c.args.from out c.args.at (set out c.args.at c.read.result) (c.args.at + 1)) (sym none) (copied_cell out c.args.at c.read.result (cell_at g.C.Cell.ring cells c.args.from) within c.read.ensures)

pub bounds-steps-0 : goal.bounds-steps-0
bounds-steps-0 g t c = is_some _ _ c.is_empty.ensures c.if-is_empty.false

pub copy_run-requires : goal.copy_run-requires
copy_run-requires g t c = subst (λ l. CanCopy (g.S.Source.is_fit c.args.source.now) (length (g.S.Source.cells c.args.source.now)) l c.args.from (length c.args.out.now) c.args.at) (one_step c.args.steps.now c.if-steps-eq1.true) c.requires

pub returns-then-steps-eq1-clause-next : goal.returns-then-steps-eq1-clause-next
returns-then-steps-eq1-clause-next g t c = omega (arith, c.copy_run.ensures.next, ap count_of_steps (one_step c.args.steps.now c.if-steps-eq1.true))

pub returns-then-steps-eq1-clause-cells : goal.returns-then-steps-eq1-clause-cells
returns-then-steps-eq1-clause-cells g t c = subst (λ l. Gathers g.C.Cell.ring (g.S.Source.cells c.args.source.now) l c.args.from c.args.out.now c.args.at c.copy_run.new.out c.copy_run.result) (sym (one_step c.args.steps.now c.if-steps-eq1.true)) c.copy_run.ensures.out

pub bounds-steps-1 : goal.bounds-steps-1
bounds-steps-1 g t c = omega (arith, c.if-steps-eq2.true)

pub copy_rows-requires : goal.copy_rows-requires
copy_rows-requires g t c = subst (λ l. CanCopy (g.S.Source.is_fit c.args.source.now) (length (g.S.Source.cells c.args.source.now)) l c.args.from (length c.args.out.now) c.args.at) (two_steps c.args.steps.now c.if-steps-eq2.true) c.requires

pub returns-then-steps-eq2-clause-next : goal.returns-then-steps-eq2-clause-next
returns-then-steps-eq2-clause-next g t c = c.copy_rows.ensures.next ∙ ap (λ l. c.args.at + count_of_steps l) (sym (two_steps c.args.steps.now c.if-steps-eq2.true))

pub returns-then-steps-eq2-clause-cells : goal.returns-then-steps-eq2-clause-cells
returns-then-steps-eq2-clause-cells g t c = subst (λ l. Gathers g.C.Cell.ring (g.S.Source.cells c.args.source.now) l c.args.from c.args.out.now c.args.at c.copy_rows.new.out c.copy_rows.result) (sym (two_steps c.args.steps.now c.if-steps-eq2.true)) c.copy_rows.ensures.out

pub after-rest-requires : goal.after-rest-requires
after-rest-requires g t c = omega (arith, is_some _ _ c.is_empty.ensures c.if-is_empty.false)

pub loop-init : goal.loop-init
loop-init g t c = record {
  here = omega arith;
  place = omega arith;
  len = refl;
  copied = sym (append-nil (take c.args.at c.args.out.now));
}

pub copy_walk-place-requires : goal.copy_walk-place-requires
copy_walk-place-requires g t c κs within =
    let some = is_some _ _ c.is_empty.ensures c.if-is_empty.false in
    let n = length (g.S.Source.cells c.args.source.now) in
    let Fit = g.S.Source.is_fit c.args.source.now in
    let whole = split c.args.steps.now some ∙ ap (λ l. first_of c.args.steps.now ∷ l) (sym c.after-rest.ensures) in
    let can = subst (λ l. CanCopy Fit n l c.args.from (length c.args.out.now) c.args.at) whole c.requires in
    let shorter : length c.after-rest.result.now < length c.args.steps.now = omega (arith, ap length c.after-rest.ensures, length-drop 1 c.args.steps.now, some) in
    let next = can_next Fit n (first_of c.args.steps.now) c.after-rest.result.now c.args.from (length c.args.out.now) c.args.at can c.loop.counter c.loop.here c.loop.place (length c.loop.out) c.loop-test.true c.loop.invariant.here c.loop.invariant.place c.loop.invariant.len in
    (search rules, (search rules, (search rules, next)))

pub overflow_add-here : goal.overflow_add-here
overflow_add-here g t c =
    let n = length (g.S.Source.cells c.args.source.now) in
    let Fit = g.S.Source.is_fit c.args.source.now in
    let whole = split c.args.steps.now (is_some _ _ c.is_empty.ensures c.if-is_empty.false) ∙ ap (λ l. first_of c.args.steps.now ∷ l) (sym c.after-rest.ensures) in
    let can = subst (λ l. CanCopy Fit n l c.args.from (length c.args.out.now) c.args.at) whole c.requires in
    omega (arith, here_fits Fit n (first_of c.args.steps.now) c.after-rest.result.now c.args.from (length c.args.out.now) c.args.at can c.loop.counter c.loop.here c.loop-test.true c.loop.invariant.here)

pub loop-smaller : goal.loop-smaller
loop-smaller g t c = omega (arith, c.loop-test.true)

pub loop-preserved : goal.loop-preserved
loop-preserved g t c =
    let read = λ (from : ℕ). gathered g.C.Cell.ring (g.S.Source.cells c.args.source.now) c.after-rest.result.now from in
    record {
      here = omega (arith, c.loop.invariant.here);
      place = omega (arith, c.loop.invariant.place, c.copy_walk-place.ensures.next);
      len = c.copy_walk-place.auto.out ∙ c.loop.invariant.len;
      copied = copied_turn read c.args.from (first_of c.args.steps.now).stride c.loop.counter c.loop.here (take c.args.at c.args.out.now) (take c.loop.place c.loop.out) (take c.copy_walk-place.result c.copy_walk-place.new.out) c.loop.invariant.here c.loop.invariant.copied c.copy_walk-place.ensures.cells;
    }

pub returns-clause-next : goal.returns-clause-next
returns-clause-next g t c =
    let whole = split c.args.steps.now (is_some _ _ c.is_empty.ensures c.if-is_empty.false) ∙ ap (λ l. first_of c.args.steps.now ∷ l) (sym c.after-rest.ensures) in
    let all : c.loop.counter ≡ (first_of c.args.steps.now).states = omega (arith, c.loop-test.false, c.loop.auto.counter-end) in
    omega (arith, c.loop.invariant.place, ap count_of_steps whole, ap (λ k. k * count_of_steps c.after-rest.result.now) all)

pub returns-clause-cells : goal.returns-clause-cells
returns-clause-cells g t c =
    let cells = g.S.Source.cells c.args.source.now in
    let whole = split c.args.steps.now (is_some _ _ c.is_empty.ensures c.if-is_empty.false) ∙ ap (λ l. first_of c.args.steps.now ∷ l) (sym c.after-rest.ensures) in
    let turn = λ (s : ℕ). gathered g.C.Cell.ring cells c.after-rest.result.now (c.args.from + s * (first_of c.args.steps.now).stride) in
    let copied = copied_all turn (first_of c.args.steps.now).states c.loop.counter (take c.args.at c.args.out.now) (take c.loop.place c.loop.out) (omega (arith, c.loop-test.false, c.loop.auto.counter-end)) c.loop.invariant.copied in
    subst (λ l. Gathers g.C.Cell.ring cells l c.args.from c.args.out.now c.args.at c.loop.out c.loop.place) (sym whole) copied
