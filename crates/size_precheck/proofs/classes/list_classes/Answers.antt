use Rattle.std.proofs.Common.{◌+◌, List, ap, subst, sym, arith}
use Rattle.size_precheck.specs.declared.classes.Class.{Class}
use Rattle.size_precheck.specs.declared.joints.Counted.{Counted}
use Rattle.size_precheck.specs.Classes.{AreClasses}
use Rattle.size_precheck.specs.Joints.{cells_in}
use Rattle.size_precheck.proofs.Classing.{walked_less, walked_here, walked_all, before_number, no_classes}
use Rattle.size_precheck.proofs.classes.list_classes.Goals as goal

pub nodes-preserved : goal.nodes-preserved
nodes-preserved c = record {
  within = let a = c.in-Some.ensures.small in omega arith;
  classes = c.in_ok-put_node.ensures (cells_in c.args.known.now) (before_number c.args.nodes.now (c.in-Some.v + 1)) (before_number c.args.nodes.now c.nodes.from) (walked_less c.args.nodes.now c.nodes.from c.in-Some.v c.in-Some.ensures) (walked_here c.args.nodes.now c.in-Some.v c.in-Some.ensures.inside) (ap (λ (h : Counted). h.cells) (sym c.counted_of.ensures)) c.nodes.invariant.classes;
}

pub returns : goal.returns
returns c = walked_all (cells_in c.args.known.now) c.args.nodes.now c.nodes.from c.nodes.classes.items c.in_default.ensures c.nodes.invariant.classes

pub nodes-init : goal.nodes-init
nodes-init c = record {
  within = omega arith;
  classes = subst (λ (cs : List Class). AreClasses (cells_in c.args.known.now) (before_number c.args.nodes.now 0) cs) (sym c.in_ok-classes.ensures.items) (no_classes (cells_in c.args.known.now) c.args.nodes.now);
}

pub counted_of-requires : goal.counted_of-requires
counted_of-requires c = c.requires.each c.in-Some.v c.in-Some.ensures.inside

pub put_node-requires : goal.put_node-requires
put_node-requires c = c.in-Some.ensures.small

pub overflow_add-from : goal.overflow_add-from
overflow_add-from c = let l = c.in-Some.ensures.small in omega arith

pub nodes-smaller : goal.nodes-smaller
nodes-smaller c = let l = c.in-Some.ensures.small in let n = c.in-Some.ensures.not_before in omega arith
