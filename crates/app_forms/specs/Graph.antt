-- What `graph` writes: who relies on whom, and then the order of solving or the relevance cycle.
use Rattle.std.specs.Prelude.{◌≡◌, ◌↔◌, ◌<◌, ◌++◌, ℕ, List, [], ◌∷◌, length, Contains, slice_index, codes}
use Rattle.std.specs.List.{flat_map}
use Rattle.maid_model.specs.Names.{NamesView, name_of}
use Rattle.maid_model.specs.Nodes.{IsDecision, decisions_of}
use Rattle.maid_model.specs.Placing.{IsRelianceOrder, IsRelianceCycle}
use Rattle.maid_model.specs.Relevance.{ReliesOn}
use Rattle.maid_model.specs.Reports.{names_line}
use Rattle.maid_model.specs.Views.{NodeView, DiagramView}
use Rattle.app_forms.specs.Stages.{text_fault}
use Rattle.app_forms.specs.Tasks.{Task, text_task}

-- the decisions on which d relies, in text order
pub record IsReliedOn (nodes : List NodeView) (d : ℕ) (list : List ℕ) : Type 0 where
  pub each : (e : ℕ) → Contains list e ↔ ReliesOn nodes d e
  pub rising : (i j : ℕ) → i < j → j < length list → slice_index list i < slice_index list j

-- a decision's line: its name, and those on which it relies
abbrev pub relies_line : NamesView → ℕ → List ℕ → List ℕ
relies_line names d list = names_line (codes "relies " ++ name_of names d ++ codes ":") names list

-- the last line: the order of solving, or where there is none the relevance cycle
pub data IsLastLine (nodes : List NodeView) (names : NamesView) (told : List ℕ) : Type 0 where
  OfOrder : (order : List ℕ) → IsRelianceOrder nodes order
      → told ≡ names_line (codes "order:") names order → IsLastLine nodes names told
  OfCycle : (cycle : List ℕ) → IsRelianceCycle nodes cycle
      → ((order : List ℕ) → IsRelianceOrder nodes order → ⊥)
      → told ≡ names_line (codes "cycle:") names cycle → IsLastLine nodes names told

-- a line for each decision in text order, and the last line
pub record IsGraphText (d : DiagramView) (names : NamesView) (printed : List ℕ) : Type 0 where
  pub relied_on : ℕ → List ℕ
  pub lists : (v : ℕ) → IsDecision d.nodes v → IsReliedOn d.nodes v (relied_on v)
  pub last : List ℕ
  pub is_last : IsLastLine d.nodes names last
  pub is :
      printed ≡ flat_map (λ v. relies_line names v (relied_on v)) (decisions_of d.nodes) ++ last

-- the text's fault, and else the lines of the relevance graph
abbrev pub graphing : Task
graphing = text_task (text_fault ∷ []) IsGraphText
