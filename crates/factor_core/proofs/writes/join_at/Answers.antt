use Rattle.std.proofs.Common.{rules, ◌≡◌, length, take, arith, sym, ap, subst, le_of_eq, ◌∙◌}
use Rattle.std.proofs.lemmas.List.{length-take-le, take-append-le, take_all}
use Rattle.factor_core.specs.Tables.{CanJoin, join_cell}
use Rattle.factor_core.proofs.Parts.{world_between}
use Rattle.factor_core.proofs.writes.join_at.Goals as goal

pub join_into-requires-clause-can : goal.join_into-requires-clause-can
join_into-requires-clause-can g c =
    let r = g.C.Cell.ring in
    let front : c.split_at_mut-cells.result.0.now ≡ take c.args.start c.args.all.now = c.split_at_mut-cells.ensures.front in
    let long : length (take c.args.start c.args.all.now) ≡ c.args.start = length-take-le c.args.start c.args.all.now (omega (arith, c.requires.within)) in
    let out_len : length c.set_zero.new.cells ≡ c.args.len = search rules in
    subst (λ cells. CanJoin r cells c.args.counts.now c.args.slots.now c.args.node c.args.scope.now c.set_zero.new.cells) (sym front) (record {
      are_counts = c.requires.can.are_counts;
      node = c.requires.can.node;
      live = c.requires.can.live;
      small = c.requires.can.small;
      is_joined = c.requires.scope;
      few_cells = omega (arith, long, c.requires.within, c.requires.short);
      size = out_len ∙ c.requires.len;
      short_out = omega (arith, out_len, c.requires.within, c.requires.short);
      nought = c.set_zero.ensures;
      fits = c.requires.can.fits;
    })

pub returns-clause-cells : goal.returns-clause-cells
returns-clause-cells g c = λ w ok.
    let r = g.C.Cell.ring in
    let counts = c.args.counts.now in
    let front : c.split_at_mut-cells.result.0.now ≡ take c.args.start c.args.all.now = c.split_at_mut-cells.ensures.front in
    let out_len : length c.join_into.new.out ≡ c.args.len = search rules in
    world_between r counts c.args.scope.now c.args.all.now c.join_into.new.out c.split_at_mut-out.result.1.now c.args.start (omega (arith, c.requires.within)) front (out_len ∙ c.requires.len) w ok
    ∙ c.join_into.ensures w ok
    ∙ ap (λ cells. join_cell r cells counts c.args.slots.now c.args.node w) front

pub returns-clause-kept : goal.returns-clause-kept
returns-clause-kept g c =
    let front = c.split_at_mut-cells.result.0.now in
    let long = c.split_at_mut-cells.ensures.front_len in
    take-append-le c.args.start front _ (le_of_eq (sym long)) ∙ take_all c.args.start front (le_of_eq long) ∙ c.split_at_mut-cells.ensures.front
