-- What is found where the agent decides alone is what the lines promise of the whole diagram.
use Rattle.std.proofs.Common.{rules, Vec, Global, ◌<◌, ◌≡◌, ◌∙◌, ◌⊎◌, ℕ, Bool, true, false, List, [], ◌∷◌, ◌++◌, length, arith, refl, sym, ap, subst, inl, inr, pos, ◌≤ℤ◌}
use Rattle.std.proofs.lemmas.Int.{ints}
use Rattle.std.proofs.lemmas.List.{length-set}
use Rattle.std.proofs.Math.Decide.{ℕ_discrete}
use Rattle.std.specs.declared.alloc.AllocError.{AllocError}
use Rattle.std.specs.Prelude.{All, IfOk, slice_index_or, Result, Ok, Err, IfSome, IsTrue, IsSome}
use Rattle.arc_laws.specs.Worths.{nought_ratio}
use Rattle.arc_laws.proofs.Alone as others
use Rattle.arc_laws.proofs.Alone.{LeavesTo, leaves, one_agent_law}
use Rattle.arc_laws.proofs.ArcLaws.{kept_law}
use Rattle.arc_laws.proofs.LostArc as lost
use Rattle.arc_laws.proofs.LostArc.{loses_added, set_at, set_else}
use Rattle.arc_laws.proofs.SameArcs.{arc_back, arc_there, graph_alike}
use Rattle.arc_laws.proofs.WorthLaws.{exists_value_law, seen_law, unseen_law}
use Rattle.first_fault.specs.Outcomes.{◌▸▸◌, gives}
use Rattle.first_fault.specs.Passes.{Pass}
use Rattle.maid_model.specs.declared.answers.Ratio.{Ratio}
use Rattle.maid_model.specs.declared.diagrams.Kind.TheVariants.{Decision, Utility}
use Rattle.maid_model.specs.Answers.{FitsAnswers}
use Rattle.maid_model.specs.Edits.{one_agent, with_arc, without_arc}
use Rattle.maid_model.specs.Graph.{Arc, IsGraph}
use Rattle.maid_model.specs.Nodes.{IsDecision, node_at, parents_of, states_of}
use Rattle.maid_model.specs.Relevance.{IsRequisite}
use Rattle.maid_model.specs.Tables.{HasChanceTables}
use Rattle.maid_model.specs.Values.{IsDecisionOf, IsDifferenceOfOptima, IsValueOfSeen, IsValueOfUnseen}
use Rattle.maid_model.specs.Views.{NodeView, DiagramView, AnswerView}
use Rattle.optimum_gap.specs.declared.found.Found.{Found}
use Rattle.optimum_gap.specs.declared.found.Found.TheVariants as found
use Rattle.optimum_gap.specs.Found.{Reason, TooLarge, Worthless, found_of, worth_of}
use Rattle.info_value.specs.declared.lines.InfoLine.{InfoLine}
use Rattle.info_value.specs.Alone.{IsInfoFoundAlone, IsInfoLineAlone}
use Rattle.info_value.specs.Finding.{of_seen, of_unseen}
use Rattle.optimum_gap.specs.Baselines.{alone}
use Rattle.info_value.specs.Lines.{IsFound, IsInfoLine, IsInfoValue, TellsWorth}
use Rattle.info_value.proofs.Added.{owns_with, owns_without}

-- what is given may be said otherwise
gives_more : (P : Pass Reason) (Q R : Ratio → Type 0) (x : Result Ratio Reason) → ((r : Ratio) → x ≡ Ok r → Q r → R r) → (P ▸▸ gives Q) x → (P ▸▸ gives R) x
gives_more P Q R (Ok r) f h = (h.0, f r refl h.1)
gives_more P Q R (Err reason) f (inl h) = inl h
gives_more P Q R (Err reason) f (inr h) = absurd h.1

-- what holds of each line
pub ok_lines : (r : Result (Vec InfoLine Global) AllocError) (P Q : InfoLine → Type 0) → ((line : InfoLine) → P line → Q line) → IfOk r (λ v. All P v.items) → IfOk r (λ v. All Q v.items)
ok_lines (Ok v) P Q f h = λ k line l. f (slice_index_or v.items k line) (h k line l)
ok_lines (Err e) P Q f h = tt

-- a value tells a worth
value_told : (f : Found) (r : Ratio) → found_of f ≡ Ok r → IsSome (worth_of f)
value_told (found.Value v) r e = search rules
value_told found.Worthless r e = cc
value_told (found.Cycle list) r e = cc
value_told found.Bound r e = cc
value_told found.TooLarge r e = cc

module _ (d : DiagramView) (answers : List AnswerView) (agent : ℕ) (g : IsGraph d.nodes) (c : HasChanceTables d.nodes) (fits : FitsAnswers d.nodes answers) where
  abbrev only : List NodeView
  only = one_agent d.nodes agent answers

  left : LeavesTo d.nodes only agent answers
  left = leaves d.nodes agent answers

  states_at : (v : ℕ) → states_of only v ≡ states_of d.nodes v
  states_at = others.states_at d.nodes only agent answers left

  parents_at : (v : ℕ) → parents_of only v ≡ parents_of d.nodes v
  parents_at = others.parents_at d.nodes only agent answers left

  -- the diagram with the arc is one, since it is where only the agent decides
  graph_there : (x to : ℕ) → IsDecision d.nodes to → IsGraph (with_arc only x to) → IsGraph (with_arc d.nodes x to)
  graph_there x to k h = graph_alike (with_arc only x to) (with_arc d.nodes x to) lengths states parents utilities h
    where
      here : to < length only
      here = subst (λ n. to < n) (sym left.len) k.within

      sees : List NodeView → NodeView
      sees nodes = record { kind = (node_at nodes to).kind; owner = (node_at nodes to).owner; more = (node_at nodes to).more; states = (node_at nodes to).states; parents = (node_at nodes to).parents ++ x ∷ []; cells = (node_at nodes to).cells }

      lengths : length (with_arc d.nodes x to) ≡ length (with_arc only x to)
      lengths = length-set d.nodes to (sees d.nodes) ∙ sym left.len ∙ sym (length-set only to (sees only))

      at : {A : Type 0} (f : NodeView → A) → f (sees d.nodes) ≡ f (sees only) → ((v : ℕ) → f (node_at d.nodes v) ≡ f (node_at only v)) → (v : ℕ) → Dec (v ≡ to) → f (node_at (with_arc d.nodes x to) v) ≡ f (node_at (with_arc only x to) v)
      at f same each v (yes e) =
          ap (λ u. f (node_at (with_arc d.nodes x to) u)) e ∙ ap f (set_at d.nodes to (sees d.nodes) k.within) ∙ same
          ∙ sym (ap (λ u. f (node_at (with_arc only x to) u)) e ∙ ap f (set_at only to (sees only) here))
      at f same each v (no n) = ap f (set_else d.nodes to (sees d.nodes) v n) ∙ each v ∙ sym (ap f (set_else only to (sees only) v n))

      states : (v : ℕ) → states_of (with_arc d.nodes x to) v ≡ states_of (with_arc only x to) v
      states v = at (λ n. n.states) (sym (states_at to)) (λ u. sym (states_at u)) v (ℕ_discrete v to)

      parents : (v : ℕ) → parents_of (with_arc d.nodes x to) v ≡ parents_of (with_arc only x to) v
      parents v = at (λ n. n.parents) (ap (λ ps. ps ++ x ∷ []) (sym (parents_at to))) (λ u. sym (parents_at u)) v (ℕ_discrete v to)

      decision_utility : Decision ≡ Utility → ⊥
      decision_utility e = cc

      utility_decision : Utility ≡ Decision → ⊥
      utility_decision e = cc

      utility : (v : ℕ) → Dec (v ≡ to) → (node_at (with_arc d.nodes x to) v).kind ≡ Utility → (node_at (with_arc only x to) v).kind ≡ Utility
      utility v (yes e) u = absurd (decision_utility (sym k.kind ∙ sym (ap (λ w. (node_at (with_arc d.nodes x to) w).kind) e ∙ ap (λ n. n.kind) (set_at d.nodes to (sees d.nodes) k.within)) ∙ u))
      utility v (no n) u =
          let was : (node_at d.nodes v).kind ≡ Utility = sym (ap (λ m. m.kind) (set_else d.nodes to (sees d.nodes) v n)) ∙ u in
          ap (λ m. m.kind) (set_else only to (sees only) v n) ∙ ap (λ m. m.kind) (left.own v (λ f. absurd (utility_decision (sym was ∙ f)))) ∙ was

      utilities : (v : ℕ) → (node_at (with_arc d.nodes x to) v).kind ≡ Utility → (node_at (with_arc only x to) v).kind ≡ Utility
      utilities v u = utility v (ℕ_discrete v to) u

  module _ (line : InfoLine) (l : IsInfoLineAlone (alone d answers agent) agent line) where
    own : IsDecisionOf d.nodes line.to agent
    own = let h = (one_agent_law d.nodes agent answers g c fits).3 line.to in record { decision = (h.0 l.decision).0; owner = (h.0 l.decision).1 }

    has_there : IsTrue line.has → Arc d.nodes line.from line.to
    has_there t = arc_back d.nodes only left.len states_at parents_at line.from line.to (l.has.0 t)

    has_back : Arc d.nodes line.from line.to → IsTrue line.has
    has_back a = l.has.1 (arc_there d.nodes only left.len states_at parents_at line.from line.to a)

    differ : true ≡ false → ⊥
    differ e = cc

    graph_of : line.has ≡ false → IsSome (worth_of line.found) → IsGraph (with_arc only line.from line.to)
    graph_of e s = l.graph e s

    found_there : (b : Bool) → line.has ≡ b → IsInfoFoundAlone (alone d answers agent) agent line.from line.to b line.found → IsFound d answers agent line.from line.to b line.found
    found_there true e h =
        gives_more (of_seen (alone d answers agent) line.from line.to) (IsDifferenceOfOptima only (without_arc only line.from line.to) d.decimals agent) (IsValueOfSeen d.nodes d.decimals answers agent line.from line.to) (found_of line.found)
        (λ r is v. record { own = own; seen = has_there e; value = v }) h
    found_there false e h =
        gives_more (of_unseen (alone d answers agent) line.from line.to) (IsDifferenceOfOptima (with_arc only line.from line.to) only d.decimals agent) (IsValueOfUnseen d.nodes d.decimals answers agent line.from line.to) (found_of line.found)
        (λ r is v. record {
          own = own;
          unseen = λ a. differ (sym (has_back a) ∙ e);
          can_see = graph_there line.from line.to own.decision (graph_of e (value_told line.found r is));
          value = v;
        }) h

    pub line_there : IsInfoLine d answers agent line
    line_there = record { has = (has_there, has_back); found = found_there line.has refl l.found }

    -- ---- what it is worth
    abbrev Worth : Ratio → Type 0
    Worth r = IsInfoValue d answers agent line.from line.to r × (pos 0 ≤ℤ r.num)

    graph : IsGraph only
    graph = (one_agent_law d.nodes agent answers g c fits).0

    tables : HasChanceTables only
    tables = (one_agent_law d.nodes agent answers g c fits).1

    nothing : pos 0 ≤ℤ pos 0
    nothing = omega (arith, ints)

    -- an arc that is there
    seen_worth : line.has ≡ true → (f : Found) → IsFound d answers agent line.from line.to true f → IfSome (worth_of f) Worth
    seen_worth e (found.Value r) h = (inl h.1, (seen_law only line.from line.to d.decimals agent r graph tables l.decision h.1.value).0)
    seen_worth e found.Worthless (inl (inl h)) =
        let less = kept_law only line.from line.to graph tables l.decision in
        let owns = (one_agent_law d.nodes agent answers g c fits).2 in
        let v = exists_value_law only (without_arc only line.from line.to) d.decimals agent graph tables less.0 less.1 owns (owns_without only line.from line.to agent l.decision owns) in
        let is = (seen_law only line.from line.to d.decimals agent v.0 graph tables l.decision v.1).1 (l.has.0 e) h.0 in
        (inl (record { own = own; seen = has_there e; value = subst (IsDifferenceOfOptima only (without_arc only line.from line.to) d.decimals agent) is v.1 }), nothing)
    seen_worth e found.Worthless (inl (inr h)) = absurd h.1
    seen_worth e found.Worthless (inr h) = absurd h.1
    seen_worth e (found.Cycle list) h = tt
    seen_worth e found.Bound h = tt
    seen_worth e found.TooLarge h = tt

    -- one that is not
    unseen_worth : line.has ≡ false → (f : Found) → line.found ≡ f → IsFound d answers agent line.from line.to false f → IfSome (worth_of f) Worth
    unseen_worth e (found.Value r) is h =
        let more = graph_of e (value_told line.found r (ap found_of is)) in
        (inr h.1, (unseen_law only line.from line.to d.decimals agent r graph tables more l.decision h.1.value).0)
    unseen_worth e found.Worthless is (inl (inl h)) = absurd (no_reason h.1)
      where
        no_reason : Worthless ≡ TooLarge → ⊥
        no_reason p = cc
    unseen_worth e found.Worthless is (inl (inr h)) = at h.1
      where
        at : ((IsRequisite (with_arc only line.from line.to) line.to line.from → ⊥) × (Worthless ≡ Worthless)) ⊎ (IsRequisite (with_arc only line.from line.to) line.to line.from × ⊥) → Worth nought_ratio
        at (inr k) = absurd k.1
        at (inl k) =
            let more = graph_of e (subst (λ f. IsSome (worth_of f)) (sym is) (search rules)) in
            let lose = loses_added only line.from line.to l.decision.within more in
            let wide = lost.tables_back (with_arc only line.from line.to) only line.from line.to lose (lost.decision_back (with_arc only line.from line.to) only line.from line.to lose line.to l.decision) tables in
            let owns = (one_agent_law d.nodes agent answers g c fits).2 in
            let v = exists_value_law (with_arc only line.from line.to) only d.decimals agent more wide graph tables (owns_with only line.from line.to agent l.decision more owns) owns in
            let none = (unseen_law only line.from line.to d.decimals agent v.0 graph tables more l.decision v.1).1 k.0 in (
              inr (record {
                own = own;
                unseen = λ a. differ (sym (has_back a) ∙ e);
                can_see = graph_there line.from line.to own.decision more;
                value = subst (IsDifferenceOfOptima (with_arc only line.from line.to) only d.decimals agent) none v.1;
              }),
              nothing,
            )
    unseen_worth e found.Worthless is (inr h) = absurd h.1
    unseen_worth e (found.Cycle list) is h = tt
    unseen_worth e found.Bound is h = tt
    unseen_worth e found.TooLarge is h = tt

    worth_at : (b : Bool) → line.has ≡ b → IsFound d answers agent line.from line.to b line.found → TellsWorth d answers agent line
    worth_at true e h = seen_worth e line.found h
    worth_at false e h = unseen_worth e line.found refl h

    pub worth_there : TellsWorth d answers agent line
    worth_there = worth_at line.has refl (found_there line.has refl l.found)
