use Rattle.std.proofs.Common.{rules, ◌≡◌, ◌+◌, ◌++◌, take, subst}
use Rattle.factor_core.specs.Copies.{gathered, count_of_steps, steps_in}
use Rattle.factor_core.proofs.tables.copy_listed.Goals as goal

pub returns-then-is_same : goal.returns-then-is_same
returns-then-is_same g c =
    let counts = c.args.counts.now in
    let list = c.args.list.now in
    let r = g.C.Cell.ring in
    let cells = g.S.Source.cells c.args.source.now in
    subst (λ order. take (c.args.at + count_of_steps (steps_in counts list order)) c.copy_straight.new.all ≡ take c.args.at c.args.all.now ++ gathered r cells (steps_in counts list order) 0) (c.is_same.ensures.0 (search rules)) c.copy_straight.ensures

pub copy_straight-requires : goal.copy_straight-requires
copy_straight-requires g c = record {
  counts = c.requires.counts;
  list = c.requires.list;
  once = c.requires.once;
  fits = c.requires.fits;
  at = c.requires.at;
  fit = c.requires.fit;
  cells = c.requires.cells;
  room = c.requires.room;
}

pub set_list_steps-requires : goal.set_list_steps-requires
set_list_steps-requires g c = record {
  counts = c.requires.counts;
  list = c.requires.list;
  order = c.requires.order;
  room = search (rules, c.requires.few);
  fits = c.requires.fits;
}
