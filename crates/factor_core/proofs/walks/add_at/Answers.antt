use Rattle.std.proofs.Common.{◌+◌, ◌≤◌, ap, sym, subst, ◌∙◌}
use Rattle.std.proofs.lemmas.List.{get_or_read}
use Rattle.cell_rings.proofs.Runs.{put_adds}
use Rattle.factor_core.proofs.walks.add_at.Goals as goal

pub bounds-out-at : goal.bounds-out-at
bounds-out-at g c = c.requires.at

pub add-requires : goal.add-requires
add-requires g c =
    let r = g.C.Cell.ring in
    let read = get_or_read c.args.out.now c.args.at c.index-out-at.result c.requires.at c.index-out-at.is r.nought in
    subst (λ x. r.size x + r.size c.args.cell ≤ r.most) (sym read) c.requires.fits

pub bounds-out-at-2 : goal.bounds-out-at-2
bounds-out-at-2 g c = c.requires.at

pub returns : goal.returns
returns g c =
    let r = g.C.Cell.ring in
    let m = g.met.C.Cell in
    let read = get_or_read c.args.out.now c.args.at c.index-out-at.result c.requires.at c.index-out-at.is r.nought in
    put_adds m.laws m.sizes c.args.out.now c.args.at c.add.result c.args.cell c.requires.at (c.add.ensures ∙ ap (λ x. r.plus x c.args.cell) read)
