use Rattle.std.proofs.Common.{◌≡◌, ℕ, ◌<◌, List, length, get_or, refl, subst, sym, rules, arith}
use Rattle.std.proofs.lemmas.List.{take_all}
use Rattle.std.proofs.lemmas.List.Elements.{Contains-get_or}
use Rattle.node_sets.specs.declared.sets.NodeSet.{NodeSet}
use Rattle.node_sets.specs.Sets.{IsIn, no_nodes}
use Rattle.node_sets.specs.Arcs.{HasChild}
use Rattle.node_sets.proofs.Joining.{GainsFrom, gains_none, gains_more, one_gains}
use Rattle.node_sets.proofs.arcs.ArcSets.add_arcs_into.Goals as goal

pub loop-u-init : goal.loop-u-init
loop-u-init c = record { parents = refl; children = gains_none c.args.self.now.children c.args.list.now c.args.v }

pub offset_bounds-self-u : goal.offset_bounds-self-u
offset_bounds-self-u c = let l = c.requires.list _ (Contains-get_or c.args.list.now c.loop-u.u-index 0 c.loop-u-test.true) in search (rules, arith)

pub bounds-self-u : goal.bounds-self-u
bounds-self-u c = c.requires.list _ (Contains-get_or c.args.list.now c.loop-u.u-index 0 c.loop-u-test.true)

pub offset_bounds-self-u-in-loop-u : goal.offset_bounds-self-u-in-loop-u
offset_bounds-self-u-in-loop-u c = let l = c.requires.list _ (Contains-get_or c.args.list.now c.loop-u.u-index 0 c.loop-u-test.true) in search (rules, arith)

pub bounds-self-u-in-loop-u : goal.bounds-self-u-in-loop-u
bounds-self-u-in-loop-u c = c.requires.list _ (Contains-get_or c.args.list.now c.loop-u.u-index 0 c.loop-u-test.true)

pub loop-u-preserved : goal.loop-u-preserved
loop-u-preserved c =
    let l = c.requires.list _ (Contains-get_or c.args.list.now c.loop-u.u-index 0 c.loop-u-test.true) in
    let all : length c.loop-u.self.children ≡ 256 = search rules in
    record {
      parents = c.loop-u.invariant.parents;
      children = gains_more (HasChild c.args.self.now) c.args.list.now c.loop-u.u-index c.args.v c.loop-u.self.children c.insert.new.self _ c.loop-u-test.true (omega arith) c.insert.ensures c.loop-u.invariant.children;
    }

pub returns-clause-parents : goal.returns-clause-parents
returns-clause-parents c u w =
    let all : length c.args.self.now.parents ≡ 256 = search rules in
    let small : c.args.v < length c.args.self.now.parents = let l = c.requires.node in omega arith in
    let gained = one_gains c.args.self.now.parents c.args.v c.args.list.now c.insert_all.new.self _ small c.insert_all.ensures u w in
    let same = c.loop-u.invariant.parents in (
      (λ m. gained.0 (subst (λ (sets : List NodeSet). IsIn (get_or sets w no_nodes) u) same m)),
      (λ h. subst (λ (sets : List NodeSet). IsIn (get_or sets w no_nodes) u) (sym same) (gained.1 h)),
    )

pub returns-clause-children : goal.returns-clause-children
returns-clause-children c =
    subst (λ (list : List ℕ). GainsFrom (HasChild c.args.self.now) list c.args.v c.loop-u.self.children) (take_all _ c.args.list.now c.loop-u-test.false) c.loop-u.invariant.children
