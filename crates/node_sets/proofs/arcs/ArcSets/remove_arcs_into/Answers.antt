use Rattle.std.proofs.Common.{◌≡◌, length, refl, rules, arith}
use Rattle.node_sets.specs.Arcs.{HasChild}
use Rattle.node_sets.proofs.Parting.{loses_none, loses_more}
use Rattle.node_sets.proofs.arcs.ArcSets.remove_arcs_into.Goals as goal

pub parents-init : goal.parents-init
parents-init c = record { within = omega arith; parents = refl; children = loses_none c.args.self.now.children _ c.args.v }

pub parents-preserved : goal.parents-preserved
parents-preserved c =
    let all : length c.parents.self.children ≡ 256 = search rules in
    let low = c.in-Some.ensures.small in
    record {
      within = omega arith;
      parents = c.parents.invariant.parents;
      children = loses_more (HasChild c.args.self.now) _ c.parents.from c.in-Some.u c.args.v c.parents.self.children c.remove.new.self (omega arith) c.in-Some.ensures c.remove.ensures c.parents.invariant.children;
    }
