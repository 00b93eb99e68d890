use Rattle.std.proofs.Common.{List}
use Rattle.size_precheck.specs.declared.classes.Class.{Class}
use Rattle.size_precheck.proofs.Classing.{moved}
use Rattle.size_precheck.proofs.classes.move_node.Goals as goal

pub returns : goal.returns
returns c counts recounted waits waiting new are =
    let old : List Class = c.args.classes.now.items in
    moved counts recounted waits old c.take_node.new.classes.items c.put_node.new.classes.items c.args.v c.args.before c.args.after
    c.take_node.ensures c.in_ok-put_node.ensures waiting new are
