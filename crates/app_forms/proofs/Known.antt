-- All that a line of `info` or `control` names are nodes of the diagram, which have names.
use Rattle.std.proofs.Common.{◌≡◌, ◌∙◌, inl, inr, ℕ, zero, suc, ◌+◌, ◌≤◌, ◌<◌, List, [], ◌∷◌, All, length, map, filter, get_or, Bool, true, false, Some, sym, ap, subst, arith}
use Rattle.std.specs.List.{flat_map, range_with_len}
use Rattle.std.specs.Prelude.{Contains}
use Rattle.std.proofs.lemmas.List.{length-map, length-set}
use Rattle.std.proofs.lemmas.List.Elements.{All-nil, All-cons, All-append, All-filter, All-map, Contains-get_or}
use Rattle.std.proofs.Math.ListN.{get_or-map}
use Rattle.arc_laws.proofs.Alone.{leaves}
use Rattle.control_incentive.specs.Paths.{LeadsToOwn}
use Rattle.control_incentive.specs.Lines.{IsControlLine, chance_nodes, controlling, line_node, of_control}
use Rattle.control_incentive.specs.declared.lines.ControlLine.{ControlLine}
use Rattle.first_fault.specs.Outcomes.{◌▸▸◌, gives}
use Rattle.first_fault.specs.Passes.{Pass}
use Rattle.info_value.specs.Finding.{of_seen, of_unseen, diagram_with_arc, missing}
use Rattle.info_value.specs.Lines.{IsFound, IsInfoLine, arc_of, arcs_into, asked_arcs, decides, may_see}
use Rattle.info_value.specs.declared.lines.InfoLine.{InfoLine}
use Rattle.maid_model.specs.Names.{IsFirstPlace}
use Rattle.maid_model.specs.Nodes.{is_chance, node_at, numbers_of}
use Rattle.maid_model.specs.Values.{IsValueOfControl, IsValueOfSeen, IsValueOfUnseen}
use Rattle.maid_model.specs.Views.{NodeView, DiagramView, AnswerView}
use Rattle.maid_model.specs.declared.diagrams.Kind.TheVariants.{Utility}
use Rattle.maid_model.specs.declared.answers.Ratio.{Ratio}
use Rattle.optimum_gap.specs.Baselines.{alone}
use Rattle.optimum_gap.specs.Found.{Reason, Cycle, Worthless, TooLarge, found_of, reason_pass}
use Rattle.optimum_gap.specs.declared.found.Found.{Found}
use Rattle.optimum_gap.specs.declared.found.Found.TheVariants as found
use Rattle.app_forms.specs.Control.{control_nodes}
use Rattle.app_forms.specs.Found.{AreKnown, cycle_told}
use Rattle.app_forms.specs.Info.{info_nodes}
use Rattle.app_forms.proofs.Nodes.{cycle_within}
use Rattle.app_forms.proofs.SolveRefusals.{cycle_of}

-- a name at a place is one of the names
pub place_listed : (names : List (List ℕ)) (name : List ℕ) (place : ℕ) → IsFirstPlace names name place → Contains names name
place_listed names name place is = subst (Contains names) is.here (Contains-get_or names place [] is.within)

-- ---- lists of numbers
range_known : (k n m : ℕ) → k + n ≤ m → AreKnown m (range_with_len k n)
range_known k zero m l = All-nil (λ v. v < m)
range_known k (suc n) m l = All-cons (λ v. v < m) k (range_with_len (k + 1) n) (omega (arith, l)) (range_known (k + 1) n m (omega (arith, l)))

numbers_known : (nodes : List NodeView) → AreKnown (length nodes) (numbers_of nodes)
numbers_known nodes = range_known 0 (length nodes) (length nodes) (omega arith)

picked_known : (nodes : List NodeView) (test : ℕ → Bool) → AreKnown (length nodes) (filter test (numbers_of nodes))
picked_known nodes test = All-filter test (λ v. v < length nodes) (numbers_of nodes) (numbers_known nodes)

-- both ends of an arc are nodes
abbrev AreEnds : ℕ → ℕ × ℕ → Type 0
AreEnds count arc = (arc.0 < count) × (arc.1 < count)

arcs_known : (nodes : List NodeView) (d : ℕ) → d < length nodes → All (AreEnds (length nodes)) (arcs_into nodes d)
arcs_known nodes d l =
    All-map (AreEnds (length nodes)) (λ x. (x, d)) (filter (may_see nodes d) (numbers_of nodes)) (λ k e h. (picked_known nodes (may_see nodes d) k e h, l))

joined_known : (nodes : List NodeView) (ds : List ℕ) → AreKnown (length nodes) ds → All (AreEnds (length nodes)) (flat_map (arcs_into nodes) ds)
joined_known nodes [] known = All-nil (AreEnds (length nodes))
joined_known nodes (d ∷ ds) known =
    All-append (AreEnds (length nodes)) (arcs_into nodes d) (flat_map (arcs_into nodes) ds) (arcs_known nodes d (known 0 0 (omega arith))) (joined_known nodes ds (λ k e h. known (suc k) e (omega (arith, h))))

-- ---- cycles that are told
-- an edited diagram with as many nodes, refused for a cycle
solving_known : (edited : DiagramView) (n : ℕ) (list : List ℕ) → length edited.nodes ≡ n → reason_pass edited (Some (Cycle list)) → AreKnown n list
solving_known edited n list same h = subst (λ n. AreKnown n list) same (cycle_within edited.nodes list (cycle_of edited list h).1)

-- only the solver tells a cycle
abbrev TellsCyclesOf : Pass Reason → DiagramView → Type 0
TellsCyclesOf P edited = (list : List ℕ) → P (Some (Cycle list)) → reason_pass edited (Some (Cycle list))

told_known : (P : Pass Reason) (edited : DiagramView) (R : Ratio → Type 0) (n : ℕ) (f : Found) → TellsCyclesOf P edited → length edited.nodes ≡ n → (P ▸▸ gives R) (found_of f) → AreKnown n (cycle_told f)
told_known P edited R n (found.Value r) tells same h = All-nil (λ v. v < n)
told_known P edited R n found.Worthless tells same h = All-nil (λ v. v < n)
told_known P edited R n found.Bound tells same h = All-nil (λ v. v < n)
told_known P edited R n found.TooLarge tells same h = All-nil (λ v. v < n)
told_known P edited R n (found.Cycle list) tells same (inl h) = solving_known edited n list.items same (tells list.items h)
told_known P edited R n (found.Cycle list) tells same (inr h) = absurd h.1

cycle_worthless : {A : Type 0} (list : List ℕ) → Cycle list ≡ Worthless → A
cycle_worthless list e = absurd cc

cycle_large : {A : Type 0} (list : List ℕ) → Cycle list ≡ TooLarge → A
cycle_large list e = absurd cc

module _ (d : DiagramView) (answers : List AnswerView) (agent : ℕ) where
  alone_known : length (alone d answers agent).nodes ≡ length d.nodes
  alone_known = (leaves d.nodes agent answers).len

  seen_tells : (x to : ℕ) → TellsCyclesOf (of_seen (alone d answers agent) x to) (missing (alone d answers agent) x to)
  seen_tells x to list (inl h) = cycle_worthless list h.1
  seen_tells x to list (inr h) = h.1

  unseen_tells : (x to : ℕ) → TellsCyclesOf (of_unseen (alone d answers agent) x to) (diagram_with_arc (alone d answers agent) x to)
  unseen_tells x to list (inl h) = cycle_large list h.1
  unseen_tells x to list (inr (large, inl h)) = cycle_worthless list h.1
  unseen_tells x to list (inr (large, inr h)) = h.1

  info_cycle : (x to : ℕ) (has : Bool) (f : Found) → IsFound d answers agent x to has f → AreKnown (length d.nodes) (cycle_told f)
  info_cycle x to true f h = told_known (of_seen (alone d answers agent) x to) (missing (alone d answers agent) x to) (IsValueOfSeen d.nodes d.decimals answers agent x to) (length d.nodes) f (seen_tells x to) (length-set (alone d answers agent).nodes to _ ∙ alone_known) h
  info_cycle x to false f h = told_known (of_unseen (alone d answers agent) x to) (diagram_with_arc (alone d answers agent) x to) (IsValueOfUnseen d.nodes d.decimals answers agent x to) (length d.nodes) f (unseen_tells x to) (length-set (alone d answers agent).nodes to _ ∙ alone_known) h

  control_tells : (x : ℕ) (Matters : Type 0) → TellsCyclesOf (of_control (alone d answers agent) agent x Matters) (controlling (alone d answers agent) agent x)
  control_tells x Matters list (inl h) = cycle_worthless list h.1
  control_tells x Matters list (inr (matters, inl h)) = cycle_large list h.1
  control_tells x Matters list (inr (matters, inr h)) = h.1

  -- ---- lines
  pub info_known : (lines : List InfoLine) → map arc_of lines ≡ asked_arcs d.nodes agent → All (IsInfoLine d answers agent) lines → All (λ told. AreKnown (length d.nodes) (info_nodes told)) lines
  info_known lines asked is k e h =
      let n = length d.nodes in
      let told = get_or lines k e in
      let count : length (asked_arcs d.nodes agent) ≡ length lines = ap length (sym asked) ∙ length-map lines arc_of in
      let ends = joined_known d.nodes (filter (decides d.nodes agent) (numbers_of d.nodes)) (picked_known d.nodes (decides d.nodes agent)) k (arc_of e) (subst (λ m. k < m) (sym count) h) in
      let same : get_or (asked_arcs d.nodes agent) k (arc_of e) ≡ arc_of told = ap (λ arcs. get_or arcs k (arc_of e)) (sym asked) ∙ get_or-map arc_of lines k e in
      let both : AreEnds n (arc_of told) = subst (AreEnds n) same ends in
      All-cons (λ v. v < n) told.from (told.to ∷ cycle_told told.found) both.0
      (All-cons (λ v. v < n) told.to (cycle_told told.found) both.1 (info_cycle told.from told.to told.has told.found (is k e h).found))

  pub control_known : (trimmed : List NodeView) (lines : List ControlLine) → map line_node lines ≡ chance_nodes d.nodes → All (IsControlLine d answers agent trimmed) lines
      → All (λ told. AreKnown (length d.nodes) (control_nodes told)) lines
  control_known trimmed lines asked is k e h =
      let n = length d.nodes in
      let told = get_or lines k e in
      let count : length (chance_nodes d.nodes) ≡ length lines = ap length (sym asked) ∙ length-map lines line_node in
      let matters = LeadsToOwn trimmed Utility agent told.node in
      let here = picked_known d.nodes (λ v. is_chance (node_at d.nodes v).kind) k (line_node e) (subst (λ m. k < m) (sym count) h) in
      let same : get_or (chance_nodes d.nodes) k (line_node e) ≡ line_node told = ap (λ nodes. get_or nodes k (line_node e)) (sym asked) ∙ get_or-map line_node lines k e in
      All-cons (λ v. v < n) told.node (cycle_told told.found) (subst (λ v. v < n) same here)
      (told_known (of_control (alone d answers agent) agent told.node matters) (controlling (alone d answers agent) agent told.node) (IsValueOfControl d.nodes d.decimals answers agent told.node) n told.found (control_tells told.node matters) (length-set (alone d answers agent).nodes told.node _ ∙ alone_known) (is k e h).found)
