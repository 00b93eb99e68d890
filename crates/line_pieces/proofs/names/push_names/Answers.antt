use Rattle.std.proofs.Common.{ap, ◌++◌, ◌∙◌}
use Rattle.maid_model.specs.Names.{name_of}
use Rattle.line_pieces.proofs.Appending.{spaced_more}
use Rattle.std.proofs.lemmas.Result.{err_from_is_err_and}
use Rattle.line_pieces.proofs.names.push_names.Goals as goal

pub loop-node-preserved : goal.loop-node-preserved
loop-node-preserved c =
    spaced_more (name_of c.args.names.now) c.args.list.now c.loop-node.node-index 0 c.args.out.now.items c.loop-node.out.items c.push.new.self.items c.extend_from_slice.new.self.items c.loop-node-test.true c.loop-node.invariant c.in_ok-push.ensures.items
    (c.in_ok-extend_from_slice.ensures.items ∙ ap (λ xs. c.push.new.self.items ++ xs) c.name.ensures)

pub returns-in_err-push : goal.returns-in_err-push
returns-in_err-push c = rw (err_from_is_err_and c.from_residual.result c.from_residual.ensures.1).1 tt

pub returns-in_err-extend_from_slice : goal.returns-in_err-extend_from_slice
returns-in_err-extend_from_slice c = rw (err_from_is_err_and c.from_residual-in_err-extend_from_slice.result c.from_residual-in_err-extend_from_slice.ensures.1).1 tt
