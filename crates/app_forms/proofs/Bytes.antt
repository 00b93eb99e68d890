-- Bytes come to one status: they stand for one diagram or have a fault, and each stage is clear or
-- refuses with its status, never both.
use Rattle.std.proofs.Common.{◌≡◌, inl, inr, ℕ, ◌-◌, List, None, ap, subst, sym, ◌∙◌, arith, Err}
use Rattle.first_fault.specs.Passes.{each}
use Rattle.first_fault.proofs.Ends.{staged_alike}
use Rattle.first_fault.proofs.Kept.{IsOneBy, over_one, each_one}
use Rattle.maid_io.specs.Device.{File}
use Rattle.maid_model.specs.Names.{NamesView}
use Rattle.maid_model.specs.Placing.{HasRelianceOrder}
use Rattle.maid_model.specs.Scopes.{KeepsScopedBounds}
use Rattle.maid_model.specs.Views.{DiagramView}
use Rattle.net_build.specs.Building.{StandsFor}
use Rattle.net_build.specs.Laws as building
use Rattle.net_build.specs.Table.{all_passes}
use Rattle.evidence.specs.Conditional.{IsImpossible}
use Rattle.evidence.specs.Rules.{IsBelowDecision, KeepsRules}
use Rattle.evidence.specs.Sizes.{IsSmallEnoughGiven}
use Rattle.policy_update.specs.Faults.{HasTwoOwners}
use Rattle.policy_update.specs.Faults as updating
use Rattle.pure_search.specs.Faults as search
use Rattle.reach_laws.specs.Evidence.{all_seeing, all_seeing_diagram}
use Rattle.report_text.specs.Laws as reading
use Rattle.threshold.specs.Faults.{OthersWeighNought}
use Rattle.tree_checker.specs.Laws as checking
use Rattle.tree_checker.specs.Verdicts.{IsVerdict}
use Rattle.net_lexer.specs.Laws as lexer
use Rattle.net_parser.specs.Faults as grammar
use Rattle.net_parser.specs.Grammar.{Spells}
use Rattle.net_parser.specs.Laws as parser
use Rattle.net_parser.specs.Lexemes.{lexemes}
use Rattle.net_parser.specs.Trees.{BlockTree}
use Rattle.rule_solver.specs.Faults.{IsSmallEnough}
use Rattle.app_forms.specs.Answers.{Answers, FindsNothing, task_of}
use Rattle.app_forms.specs.Chances.{HasChanceNode, HasState, IsStatePlace, at_state}
use Rattle.app_forms.specs.Check.{HasVerdict, status_after}
use Rattle.app_forms.specs.Diagrams.{NamedDiagram, IsTreeOf, IsDiagramOf, of_diagram}
use Rattle.app_forms.specs.Evidence.{KeepsAllBounds, TellsBelow, TellsBoundGiven, TellsImpossible, TellsRules, TellsTooLargeGiven}
use Rattle.app_forms.specs.Faults.{TellsFault, IsTextFault}
use Rattle.app_forms.specs.Laws.{OneStatus}
use Rattle.app_forms.specs.Moved.{HasRow, KeepsMovedBound, TellsMovedBound, TellsNoOthers, TellsUnknownRow}
use Rattle.app_forms.specs.Outcome.{Written, Refused, status_with}
use Rattle.app_forms.specs.Request.{Request, solve, check, judge, graph, print, trim, pure, update, info, control, evidence, threshold, demo, file_name}
use Rattle.app_forms.specs.Stages.{Stage, text_fault, unknown_agent, relevance_cycle, weight_bound, too_large, too_many_profiles, no_equilibrium, several_owners, update_too_large, rounds_spent, unknown_node, unknown_state, below_decision, rules_given, cycle_given, bound_given, size_given, impossible, unknown_row, no_others, moved_bound, too_many_leaves, bad_line, Finds, IsText, IsAgent, IsReport, HasFewLeaves, HasPureEquilibrium, AllRoundsRaise, stage, TellsUnknownNode, TellsUnknownState, TellsUnknownAgent, TellsProfiles, TellsNoEquilibrium, TellsOwners, TellsUpdateTooLarge, TellsRounds, TellsRelianceCycle, TellsBound, TellsTooLarge, TellsLeaves, TellsBadLine}
use Rattle.app_forms.specs.Tasks.{Task, comes_of}
use Rattle.app_forms.proofs.OnePlace.{not_kept, same_state, not_kept_given, not_moved}
use Rattle.app_forms.proofs.TellApart.{told_apart}
use Rattle.app_forms.specs.declared.status.Status.{Status}
use Rattle.app_forms.specs.declared.status.Status.TheVariants.{TextFault, UnknownAgent, Cycle, WeightBound, TooLarge, NoPure, NotOneAgent, RoundsSpent, UnknownNode, UnknownState, BelowDecision, Impossible, UnknownRow, NoOthers}

-- the laws of the layers below
pub record Laws : Type 0 where
  pub tokens_or_fault : lexer.Exclusive
  pub one_list : lexer.OneList
  pub tree_or_fault : parser.Exclusive
  pub one_tree : parser.OneTree
  pub diagram_or_fault : building.Exclusive
  pub some_diagram : building.SomeDiagram
  pub one_diagram : building.OneDiagram
  pub report_or_fault : reading.Exclusive
  pub one_value : reading.OneValue
  pub one_verdict : checking.OneVerdict

same_tree : Laws → (bytes : List ℕ) (tree other : List BlockTree) → IsTreeOf bytes tree → IsTreeOf bytes other → tree ≡ other
same_tree laws bytes tree other is is' =
    let same = laws.one_list bytes is.tokens is'.tokens is.is_tokens is'.is_tokens in
    laws.one_tree (lexemes bytes is'.tokens) tree other (subst (λ tokens. Spells tree (lexemes bytes tokens)) same is.spells) is'.spells

-- bytes that stand for a diagram have no fault
no_fault : Laws → (bytes : List ℕ) (d : DiagramView) (names : NamesView) (at : ℕ) (words : List ℕ) → IsDiagramOf bytes d names → IsTextFault bytes at words → ⊥
no_fault laws bytes d names at words has (inl is) = laws.tokens_or_fault bytes is.fault (has.is_tree.tokens, has.is_tree.is_tokens) is.is_fault
no_fault laws bytes d names at words has (inr (inl is)) =
    let same = laws.one_list bytes is.token_list has.is_tree.tokens is.is_tokens has.is_tree.is_tokens in
    laws.tree_or_fault bytes has.is_tree.tokens is.fault (has.tree, has.is_tree.spells) (subst (λ tokens. grammar.IsFault bytes tokens is.fault) same is.is_fault)
no_fault laws bytes d names at words has (inr (inr is)) =
    let same = same_tree laws bytes has.tree is.tree has.is_tree is.is_tree in
    laws.diagram_or_fault bytes is.tree is.fault (subst (λ tree. all_passes bytes tree None) same has.clear) is.is_fault

same_both : (x y : NamedDiagram) → x.d ≡ y.d → x.names ≡ y.names → x ≡ y
same_both x y e e' =
    let made : DiagramView → NamesView → NamedDiagram = λ d names. record { d = d; names = names } in
    ap (λ d. made d x.names) e ∙ ap (made y.d) e'

-- bytes stand for one diagram, with one list of names
same_diagram : Laws → (bytes : List ℕ) (x y : NamedDiagram) → IsDiagramOf bytes x.d x.names → IsDiagramOf bytes y.d y.names → x ≡ y
same_diagram laws bytes x y has has' =
    let same = same_tree laws bytes has.tree has'.tree has.is_tree has'.is_tree in
    let both = laws.one_diagram bytes has'.tree x.d y.d x.names y.names has'.clear (subst (λ tree. StandsFor bytes tree x.d x.names) same has.stands) has'.stands in
    same_both x y both.0 both.1

-- what a refusal looks like here: its status
abbrev Status1 : Refused → Status
Status1 refusal = status_with (Err refusal)

-- a stage whose tale excludes that it is clear
stage_one : (status : Status) (IsClear : Type 0) (SaysWhy : List ℕ → Type 0) → ((told : List ℕ) → IsClear → SaysWhy told → ⊥) → IsOneBy Status1 (stage status IsClear SaysWhy)
stage_one status IsClear SaysWhy apart = record {
  exclusive = λ f clear found. apart f.told clear found.1;
  one = λ f g h k. h.0 ∙ sym k.0;
}

module _ (laws : Laws) where
  -- and one over the diagram of the bytes
  of_diagram_one : (bytes : List ℕ) (status : Status) (IsClear : DiagramView → NamesView → Type 0) (SaysWhy : DiagramView → NamesView → List ℕ → Type 0)
      → ((d : DiagramView) (names : NamesView) (told : List ℕ) → IsClear d names → SaysWhy d names told → ⊥) → IsOneBy Status1 (of_diagram bytes (λ d names. stage status (IsClear d names) (SaysWhy d names)))
  of_diagram_one bytes status IsClear SaysWhy apart =
      over_one (λ (x : NamedDiagram). IsDiagramOf bytes x.d x.names) (λ x. stage status (IsClear x.d x.names) (SaysWhy x.d x.names)) (same_diagram laws bytes)
      (λ x is. stage_one status (IsClear x.d x.names) (SaysWhy x.d x.names) (apart x.d x.names))

  -- and one over a state of a chance node in it
  at_state_one : (node state bytes : List ℕ) (status : Status) (IsClear : DiagramView → NamesView → ℕ → ℕ → Type 0) (SaysWhy : DiagramView → NamesView → ℕ → ℕ → List ℕ → Type 0)
      → ((d : DiagramView) (names : NamesView) (x s : ℕ) (told : List ℕ) → IsClear d names x s → SaysWhy d names x s told → ⊥)
      → IsOneBy Status1 (of_diagram bytes (λ d names. at_state d names node state (λ x s. stage status (IsClear d names x s) (SaysWhy d names x s))))
  at_state_one node state bytes status IsClear SaysWhy apart =
      over_one (λ (y : NamedDiagram). IsDiagramOf bytes y.d y.names) (λ y. at_state y.d y.names node state (λ x s. stage status (IsClear y.d y.names x s) (SaysWhy y.d y.names x s))) (same_diagram laws bytes)
      (λ y is. over_one (IsStatePlace y.d y.names node state) (λ place. stage status (IsClear y.d y.names place.node place.state) (SaysWhy y.d y.names place.node place.state)) (same_state y.d y.names node state)
      (λ place at. stage_one status (IsClear y.d y.names place.node place.state) (SaysWhy y.d y.names place.node place.state) (apart y.d y.names place.node place.state)))

  -- each stage is clear or refuses, never both, and refuses with one status
  finds_one : (s : Stage) (file : File) → IsOneBy Status1 (Finds s file)
  finds_one text_fault file = stage_one TextFault (IsText file.1) (TellsFault file.0 file.1) (λ told clear fault. no_fault laws file.1 clear.0.d clear.0.names fault.at fault.words clear.1 fault.is_fault)
  finds_one (unknown_agent agent) file = of_diagram_one file.1 UnknownAgent (λ d names. IsAgent names agent) (λ d names. TellsUnknownAgent names agent) (λ d names told is tells. tells.unknown is)
  finds_one relevance_cycle file = of_diagram_one file.1 Cycle (λ d names. HasRelianceOrder d.nodes) TellsRelianceCycle (λ d names told order tells. tells.no_order order)
  finds_one weight_bound file = of_diagram_one file.1 WeightBound (λ d names. KeepsScopedBounds d) TellsBound (λ d names told keeps tells. not_kept d names told keeps tells)
  finds_one too_large file = of_diagram_one file.1 TooLarge (λ d names. IsSmallEnough d) TellsTooLarge (λ d names told small tells. tells.is_size.1 (small _ tells.is_size.0))
  finds_one too_many_profiles file = of_diagram_one file.1 TooLarge (λ d names. search.IsSmall d) TellsProfiles (λ d names told small tells. tells.is_size.passes small)
  finds_one no_equilibrium file = of_diagram_one file.1 NoPure (λ d names. HasPureEquilibrium d) TellsNoEquilibrium (λ d names told some tells. tells.none some)
  finds_one several_owners file = of_diagram_one file.1 NotOneAgent (λ d names. HasTwoOwners d.nodes → ⊥) TellsOwners (λ d names told one tells. one tells.two)
  finds_one update_too_large file = of_diagram_one file.1 TooLarge (λ d names. updating.IsSmallEnoughForUpdate d) TellsUpdateTooLarge (λ d names told small tells. tells.is_size.1 (small _ tells.is_size.0))
  finds_one rounds_spent file = of_diagram_one file.1 RoundsSpent (λ d names. AllRoundsRaise d → ⊥) TellsRounds (λ d names told settles tells. settles tells.all_raise)
  finds_one (unknown_node node) file = of_diagram_one file.1 UnknownNode (λ d names. HasChanceNode d names node) (λ d names. TellsUnknownNode d names node) (λ d names told has tells. tells.unknown has)
  finds_one (unknown_state node state) file = of_diagram_one file.1 UnknownState (λ d names. HasState d names node state) (λ d names. TellsUnknownState d names node state) (λ d names told has tells. tells.unknown has)
  finds_one (below_decision node state) file = at_state_one node state file.1 BelowDecision (λ d names x s. IsBelowDecision d.nodes x → ⊥) (λ d names x s. TellsBelow d x node) (λ d names x s told clear tells. clear tells.below)
  finds_one (rules_given node state) file = at_state_one node state file.1 TooLarge (λ d names x s. KeepsRules (all_seeing d.nodes x)) (λ d names x s. TellsRules (all_seeing d.nodes x)) (λ d names x s told keeps tells. tells.passes keeps)
  finds_one (cycle_given node state) file = at_state_one node state file.1 Cycle (λ d names x s. HasRelianceOrder (all_seeing d.nodes x)) (λ d names x s. TellsRelianceCycle (all_seeing_diagram d x) names) (λ d names x s told order tells. tells.no_order order)
  finds_one (bound_given node state) file = at_state_one node state file.1 WeightBound (λ d names x s. KeepsAllBounds (all_seeing_diagram d x) x) (λ d names x s. TellsBoundGiven (all_seeing_diagram d x) x names) (λ d names x s told keeps tells. not_kept_given (all_seeing_diagram d x) x names told keeps tells)
  finds_one (size_given node state) file = at_state_one node state file.1 TooLarge (λ d names x s. IsSmallEnoughGiven (all_seeing_diagram d x) x) (λ d names x s. TellsTooLargeGiven (all_seeing_diagram d x) x) (λ d names x s told small tells. tells.is_size.1 (small _ tells.is_size.0))
  finds_one (impossible node state) file = at_state_one node state file.1 Impossible (λ d names x s. IsImpossible (all_seeing d.nodes x) x s → ⊥) (λ d names x s. TellsImpossible (all_seeing d.nodes x) x s node state) (λ d names x s told possible tells. possible tells.impossible)
  finds_one (unknown_row node row state) file = at_state_one node state file.1 UnknownRow (λ d names x s. HasRow d x row) (λ d names x s. TellsUnknownRow d x row) (λ d names x s told has tells. tells.unknown has)
  finds_one (no_others node row state) file = at_state_one node state file.1 NoOthers (λ d names x s. OthersWeighNought d.nodes x s (row - 1) → ⊥) (λ d names x s. TellsNoOthers d x s row node) (λ d names x s told others tells. others tells.nought)
  finds_one (moved_bound node row state) file = at_state_one node state file.1 WeightBound (λ d names x s. KeepsMovedBound d x s row) (λ d names x s. TellsMovedBound d x s row names) (λ d names x s told keeps tells. not_moved d x s row names told keeps tells)
  finds_one too_many_leaves file = of_diagram_one file.1 TooLarge (λ d names. HasFewLeaves d) TellsLeaves (λ d names told few tells. omega (arith, few, tells.many))
  finds_one (bad_line text) file = of_diagram_one text TextFault (λ d names. IsReport d names file.1) (TellsBadLine file) (λ d names told is tells. laws.report_or_fault d names file.1 tells.at is tells.is_bad)

  -- the names in a text are told apart
  is_told : (bytes : List ℕ) (d : DiagramView) (names : NamesView) → IsDiagramOf bytes d names → reading.IsToldApart d names
  is_told bytes d names is =
      let has = laws.some_diagram bytes is.is_tree.tokens is.tree is.is_tree.is_tokens is.is_tree.spells is.clear in
      let same = laws.one_diagram bytes is.tree has.diagram d has.names names is.clear has.stands is.stands in
      subst (λ e. reading.IsToldApart e names) same.0 (subst (λ n. reading.IsToldApart has.diagram n) same.1 (record { diagram = has.within; fit = has.fit; told = told_apart has.diagram has.names has.form }))

  -- so a text is the report of one value, which has one verdict
  same_verdict : (d : DiagramView) (names : NamesView) (bytes : List ℕ) (x y : Written) → reading.IsToldApart d names → HasVerdict d names bytes x → HasVerdict d names bytes y → x.status ≡ y.status
  same_verdict d names bytes x y told h k =
      let same = laws.one_value d names bytes k.solved h.solved told k.is_report h.is_report in
      let verdict = laws.one_verdict d h.solved h.verdict k.verdict h.is_report.value.fits h.is_verdict (subst (λ solved. IsVerdict d solved k.verdict) same k.is_verdict) in
      h.ends ∙ ap status_after verdict ∙ sym k.ends

  -- what a task gives ends with one status
  gives_one : (request : Request) (bytes : List ℕ) (x y : Written) → (task_of request).Gives (file_name request, bytes) x → (task_of request).Gives (file_name request, bytes) y → x.status ≡ y.status
  gives_one (solve file) bytes x y h k = h.0 ∙ sym k.0
  gives_one (check file report) bytes x y h k = absurd h
  gives_one (judge text report) bytes x y h k =
      let same = same_diagram laws text k.0 h.0 k.1 h.1 in
      same_verdict h.0.d h.0.names bytes x y (is_told text h.0.d h.0.names h.1) h.2 (subst (λ (z : NamedDiagram). HasVerdict z.d z.names bytes y) same k.2)
  gives_one (graph file) bytes x y h k = h.0 ∙ sym k.0
  gives_one (print file) bytes x y h k = h.0 ∙ sym k.0
  gives_one (trim file) bytes x y h k = h.0 ∙ sym k.0
  gives_one (evidence file node state) bytes x y h k = h.0 ∙ sym k.0
  gives_one (threshold file node row state) bytes x y h k = h.0 ∙ sym k.0
  gives_one (pure file) bytes x y h k = h.0 ∙ sym k.0
  gives_one (update file) bytes x y h k = h.0 ∙ sym k.0
  gives_one (info file agent) bytes x y h k = h.0 ∙ sym k.0
  gives_one (control file agent) bytes x y h k = h.0 ∙ sym k.0
  gives_one (demo n) bytes x y h k = h.0 ∙ sym k.0

  pub one_status : OneStatus
  unfolding Answers comes_of
  one_status request bytes =
      let file : File = (file_name request, bytes) in
      staged_alike status_with Finds (task_of request).stages (task_of request).Gives file (λ s. finds_one s file) (gives_one request bytes)

  -- where no stage finds anything, none refuses
  task_clear : (task : Task) (name bytes : List ℕ) (refusal : Refused) → each (λ s. Finds s (name, bytes)) task.stages None → comes_of task name bytes (Err refusal) → ⊥
  unfolding comes_of
  task_clear task name bytes refusal clear (inl h) = (each_one (λ s. finds_one s (name, bytes)) task.stages).exclusive refusal clear h
  task_clear task name bytes refusal clear (inr h) = h.1

  pub not_refused : (request : Request) (bytes : List ℕ) (refusal : Refused) → FindsNothing request bytes → Answers request bytes (Err refusal) → ⊥
  unfolding Answers
  not_refused request bytes refusal clear h = task_clear (task_of request) (file_name request) bytes refusal clear h
