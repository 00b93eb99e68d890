use Rattle.std.proofs.Common.{◌+◌, ◌∙◌, ℕ, sym, subst, arith}
use Rattle.std.proofs.lemmas.Bool.{false≢true}
use Rattle.node_sets.specs.declared.sets.NodeSet.{NodeSet}
use Rattle.node_sets.specs.Sets.{IsIn}
use Rattle.maid_model.specs.Nodes.{IsUtilityOf}
use Rattle.maid_model.proofs.Indexes.{MembersBelow, member_on, member_more, member_skip, member_end}
use Rattle.maid_model.proofs.diagrams.Diagram.utilities_among.Goals.{then-is_utility_of, else-is_utility_of}
use Rattle.maid_model.proofs.diagrams.Diagram.utilities_among.Goals as goal

pub nodes-init : goal.nodes-init
nodes-init c = record {
  within = omega arith;
  members = λ u. ((λ m. absurd (c.empty-among.ensures u m)), (λ h. let l = h.0 in absurd (omega arith)));
}

pub is_utility_of-requires : goal.is_utility_of-requires
is_utility_of-requires c = ((c.utilities.ensures.nodes c.in-Some.v).0 ((c.intersection-utilities.ensures c.in-Some.v).0 c.in-Some.ensures.inside).1).within

pub nodes-preserved : goal.nodes-preserved
nodes-preserved c =
    let v = c.in-Some.v in
    let Is : ℕ → Type 0 = λ u. IsIn c.args.nodes.now u × IsUtilityOf c.args.self.now.nodes c.args.agent u in
    let first = c.in-Some.ensures in
    let there = (c.intersection-utilities.ensures v).0 first.inside in
    let on = member_on Is c.nodes.from v (IsIn c.nodes.among) first.not_before (λ w l k is. first.first w l k ((c.intersection-utilities.ensures w).1 (is.0, (c.utilities.ensures.nodes w).1 (record { within = is.1.within; kind = is.1.kind }))))
    c.nodes.invariant.members in
    record {
      within = let l = first.small in omega arith;
      members = elim c.if-is_utility_of.branch [
        | then-is_utility_of w ↦
            subst (λ (s : NodeSet). MembersBelow Is (v + 1) (IsIn s)) (sym w.among-is)
            (member_more Is v (IsIn c.nodes.among) (IsIn w.insert.new.self) (there.0, c.is_utility_of.ensures.utility.0 w.if-is_utility_of.true) w.insert.ensures.all on)
        | else-is_utility_of w ↦
            subst (λ (s : NodeSet). MembersBelow Is (v + 1) (IsIn s)) (sym w.among-is)
            (member_skip Is v (IsIn c.nodes.among) (λ is. false≢true (sym w.if-is_utility_of.false ∙ c.is_utility_of.ensures.utility.1 is.1)) on)
      ];
    }

pub returns : goal.returns
returns c =
    member_end (λ u. IsIn c.args.nodes.now u × IsUtilityOf c.args.self.now.nodes c.args.agent u) c.nodes.from (IsIn c.nodes.among)
    (λ w l is. c.in_default.ensures w l ((c.intersection-utilities.ensures w).1 (is.0, (c.utilities.ensures.nodes w).1 (record { within = is.1.within; kind = is.1.kind })))) c.nodes.invariant.members
