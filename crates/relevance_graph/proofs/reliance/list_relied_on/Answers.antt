use Rattle.std.proofs.Common.{◌+◌, List, ℕ, Vec, Global, subst, sym, ap, ◌∙◌}
use Rattle.std.proofs.lemmas.Bool.{both_ways}
use Rattle.maid_model.specs.Relevance.{ReliesOn}
use Rattle.relevance_graph.specs.Steps.{ListsBelow}
use Rattle.relevance_graph.proofs.Listing.{lists_push, lists_skip}
use Rattle.relevance_graph.proofs.reliance.list_relied_on.Goals as goal
use Rattle.relevance_graph.proofs.reliance.list_relied_on.Goals.{then-relies_on+in_ok-push, else-relies_on}

pub loop-on-preserved : goal.loop-on-preserved
loop-on-preserved c =
    let P : ℕ → Type 0 = ReliesOn c.args.diagram.now.nodes c.args.decision in
    elim c.if-relies_on.branch [
      | then-relies_on+in_ok-push w ↦
          let e = ap (λ (v : Vec ℕ Global). v.items) w.list-is ∙ w.in_ok-push.ensures.items in
          subst (λ (xs : List ℕ). ListsBelow P (c.loop-on.on + 1) xs) (sym e) (lists_push P c.loop-on.on c.loop-on.list.items c.loop-on.invariant (c.relies_on.ensures.0 w.if-relies_on.true))
      | else-relies_on w ↦
          let e = ap (λ (v : Vec ℕ Global). v.items) w.list-is in
          subst (λ (xs : List ℕ). ListsBelow P (c.loop-on.on + 1) xs) (sym e)
          (lists_skip P c.loop-on.on c.loop-on.list.items c.loop-on.invariant (λ r. both_ways c.relies_on.result w.if-relies_on.false (c.relies_on.ensures.1 r)))
    ]
