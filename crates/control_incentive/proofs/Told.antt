-- What is found where the agent decides alone is what the lines promise of the whole diagram.
use Rattle.std.proofs.Common.{◌≡◌, ◌∙◌, ◌↔◌, ◌⊎◌, ◌<◌, ℕ, Bool, true, List, length, map, Vec, Global, arith, sym, ap, subst, inl, inr, pos, ◌≤ℤ◌}
use Rattle.std.proofs.lemmas.Int.{ints}
use Rattle.std.proofs.lemmas.List.{get_or-map, length-map}
use Rattle.std.specs.declared.alloc.AllocError.{AllocError}
use Rattle.std.specs.Prelude.{All, IfOk, Ok, Err, Result, IfSome, IsTrue, slice_index_or}
use Rattle.arc_laws.specs.Worths.{nought_ratio}
use Rattle.arc_laws.proofs.Alone.{one_agent_law}
use Rattle.arc_laws.proofs.ControlLaws.{kept_as_decision}
use Rattle.arc_laws.proofs.WorthLaws.{control_value_law, exists_value_law}
use Rattle.first_fault.specs.Outcomes.{◌▸▸◌, gives}
use Rattle.first_fault.specs.Passes.{◌▸◌, rule}
use Rattle.maid_model.specs.declared.answers.Ratio.{Ratio}
use Rattle.maid_model.specs.declared.diagrams.Kind.TheVariants.{Chance, Decision, Utility}
use Rattle.maid_model.specs.declared.limits.TheConstants.{MOST_RULE_CELLS}
use Rattle.maid_model.specs.Answers.{FitsAnswers}
use Rattle.maid_model.specs.Edits.{as_decision, one_agent}
use Rattle.maid_model.specs.Graph.{Along, IsGraph}
use Rattle.maid_model.specs.Nodes.{node_at}
use Rattle.maid_model.specs.Tables.{HasChanceTables}
use Rattle.maid_model.specs.Values.{IsDifferenceOfOptima, IsUnreached, IsValueOfControl}
use Rattle.maid_model.specs.Views.{NodeView, DiagramView, AnswerView}
use Rattle.node_sets.specs.Sets.{holds}
use Rattle.diagram_graph.specs.Room.{rule_cells}
use Rattle.optimum_gap.specs.declared.found.Found.{Found}
use Rattle.optimum_gap.specs.declared.found.Found.TheVariants as found
use Rattle.optimum_gap.specs.Found.{TooLarge, Worthless, found_of, reason_pass, worth_of}
use Rattle.control_incentive.specs.declared.lines.ControlLine.{ControlLine}
use Rattle.control_incentive.specs.declared.paths.Paths.{Paths}
use Rattle.optimum_gap.specs.Baselines.{alone}
use Rattle.control_incentive.specs.Lines.{IsControlLine, IsTrimmedAlone, TellsControl, chance_nodes, controlling, line_node, of_control}
use Rattle.control_incentive.specs.Paths.{IsInstrumental, LeadsToOwn}
use Rattle.control_incentive.specs.Steps.{HasPaths, IsControlLineAlone}
use Rattle.control_incentive.proofs.Deciding.{chance_there, listed_chance, needed, owns_made}
use Rattle.finite_sums.proofs.Members.{all_among}

-- what holds of each node that the lines name
each_line : (P : ℕ → Type 0) (lines : List ControlLine) (nodes : List ℕ) → map line_node lines ≡ nodes → All P nodes → All (λ line. P line.node) lines
each_line P lines nodes e h k line l =
    subst P (get_or-map line_node lines k line (line_node line) l)
    (subst (λ ns. P (slice_index_or ns k (line_node line))) (sym e) (h k (line_node line) (subst (λ n. k < n) (sym (length-map lines line_node) ∙ ap length e) l)))

-- a test in other words
as_test : (b c : Bool) (A : Type 0) → b ≡ c → (c ≡ true) ↔ A → IsTrue b ↔ A
as_test b c A e h = ((λ t. h.0 (sym e ∙ t)), (λ a. e ∙ h.1 a))

module _ (d : DiagramView) (answers : List AnswerView) (agent : ℕ) (g : IsGraph d.nodes) (c : HasChanceTables d.nodes) (fits : FitsAnswers d.nodes answers) (trimmed : List NodeView) (cut : IsTrimmedAlone d answers agent trimmed) (paths : Paths) (has : HasPaths (one_agent d.nodes agent answers) trimmed agent paths) where
  abbrev only : List NodeView
  only = one_agent d.nodes agent answers

  module _ (line : ControlLine) (chance : (node_at d.nodes line.node).kind ≡ Chance) (l : IsControlLineAlone (alone d answers agent) agent paths line) where
    pub line_there : IsControlLine d answers agent trimmed line
    line_there = record {
      response = as_test line.response (holds paths.respond line.node) (LeadsToOwn trimmed Decision agent line.node) l.response (has.respond line.node);
      instrumental = as_test line.instrumental (holds paths.instruments line.node) (IsInstrumental only agent line.node) l.instrumental (has.instruments line.node);
      found = needed (IsTrue (holds paths.matter line.node)) (LeadsToOwn trimmed Utility agent line.node) Worthless
          (rule (MOST_RULE_CELLS < rule_cells (as_decision only agent line.node)) TooLarge ▸ reason_pass (controlling (alone d answers agent) agent line.node))
          (IsDifferenceOfOptima (as_decision only agent line.node) only d.decimals agent) (IsValueOfControl d.nodes d.decimals answers agent line.node) (found_of line.found)
          (has.matter line.node) (λ r v. record { chance = chance; value = v }) l.found;
    }

    abbrev Worth : Ratio → Type 0
    Worth r = IsValueOfControl d.nodes d.decimals answers agent line.node r × (pos 0 ≤ℤ r.num)

    graph : IsGraph only
    graph = (one_agent_law d.nodes agent answers g c fits).0

    tables : HasChanceTables only
    tables = (one_agent_law d.nodes agent answers g c fits).1

    kind : (node_at only line.node).kind ≡ Chance
    kind = chance_there d.nodes agent answers line.node chance

    nothing : pos 0 ≤ℤ pos 0
    nothing = omega (arith, ints)

    -- where no path leads to a utility, control is worth nothing
    unreached : (LeadsToOwn trimmed Utility agent line.node → ⊥) → IsUnreached trimmed agent line.node
    unreached n u l k o p = n (u, (record { within = l; kind = inr k; owner = o }, k), Along p.1 p.2)

    worthless : (LeadsToOwn trimmed Utility agent line.node → ⊥) → Worth nought_ratio
    worthless n =
        let made = kept_as_decision only agent line.node graph tables kind in
        let owns = (one_agent_law d.nodes agent answers g c fits).2 in
        let v = exists_value_law (as_decision only agent line.node) only d.decimals agent made.0 made.1 graph tables (owns_made only agent line.node kind owns) owns in
        let none = (control_value_law only line.node d.decimals agent v.0 graph tables kind v.1).1 trimmed cut.removed cut.is (unreached n) in
        (record { chance = chance; value = subst (IsDifferenceOfOptima (as_decision only agent line.node) only d.decimals agent) none v.1 }, nothing)

    worth : (f : Found) → (of_control (alone d answers agent) agent line.node (LeadsToOwn trimmed Utility agent line.node) ▸▸ gives (IsValueOfControl d.nodes d.decimals answers agent line.node)) (found_of f) → IfSome (worth_of f) Worth
    worth (found.Value r) h = (h.1, (control_value_law only line.node d.decimals agent r graph tables kind h.1.value).0)
    worth found.Worthless (inl (inl h)) = worthless h.0
    worth found.Worthless (inl (inr h)) = at h.1
      where
        no_reason : Worthless ≡ TooLarge → ⊥
        no_reason p = cc

        at : ((MOST_RULE_CELLS < rule_cells (as_decision only agent line.node)) × (Worthless ≡ TooLarge)) ⊎ (((MOST_RULE_CELLS < rule_cells (as_decision only agent line.node)) → ⊥) × ⊥) → Worth nought_ratio
        at (inl k) = absurd (no_reason k.1)
        at (inr k) = absurd k.1
    worth found.Worthless (inr h) = absurd h.1
    worth (found.Cycle list) h = tt
    worth found.Bound h = tt
    worth found.TooLarge h = tt

    pub worth_there : TellsControl d answers agent line
    worth_there = worth line.found line_there.found

  -- so of all lines
  module _ (r : Result (Vec ControlLine Global) AllocError) (nodes : IfOk r (λ v. map line_node v.items ≡ chance_nodes d.nodes)) (lines : IfOk r (λ v. All (IsControlLineAlone (alone d answers agent) agent paths) v.items)) where
    chances : All (λ v. (node_at d.nodes v).kind ≡ Chance) (chance_nodes d.nodes)
    chances = all_among (λ v. (node_at d.nodes v).kind ≡ Chance) (chance_nodes d.nodes) (λ x m. (listed_chance d.nodes x m).1)

    pub lines_there : IfOk r (λ v. (t : List NodeView) × IsTrimmedAlone d answers agent t × All (IsControlLine d answers agent t) v.items)
    lines_there = go r nodes lines
      where
        go : (x : Result (Vec ControlLine Global) AllocError) → IfOk x (λ v. map line_node v.items ≡ chance_nodes d.nodes) → IfOk x (λ v. All (IsControlLineAlone (alone d answers agent) agent paths) v.items)
            → IfOk x (λ v. (t : List NodeView) × IsTrimmedAlone d answers agent t × All (IsControlLine d answers agent t) v.items)
        go (Ok v) e h = (trimmed, cut, λ k line l. line_there (slice_index_or v.items k line) (each_line (λ u. (node_at d.nodes u).kind ≡ Chance) v.items (chance_nodes d.nodes) e chances k line l) (h k line l))
        go (Err x) e h = tt

    pub worths_there : IfOk r (λ v. All (TellsControl d answers agent) v.items)
    worths_there = go r nodes lines
      where
        go : (x : Result (Vec ControlLine Global) AllocError) → IfOk x (λ v. map line_node v.items ≡ chance_nodes d.nodes) → IfOk x (λ v. All (IsControlLineAlone (alone d answers agent) agent paths) v.items)
            → IfOk x (λ v. All (TellsControl d answers agent) v.items)
        go (Ok v) e h = λ k line l. worth_there (slice_index_or v.items k line) (each_line (λ u. (node_at d.nodes u).kind ≡ Chance) v.items (chance_nodes d.nodes) e chances k line l) (h k line l)
        go (Err x) e h = tt
