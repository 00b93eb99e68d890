-- The reports of the small diagram fit it.
use Rattle.std.proofs.Common.{◌≡◌, ℕ, zero, suc, ◌<◌, [], ◌∷◌, refl, arith}
use Rattle.std.proofs.lemmas.List.Elements.{All-cons, All-nil}
use Rattle.std.specs.Prelude.{Contains, IfSome}
use Rattle.maid_model.specs.declared.answers.Ratio.{Ratio}
use Rattle.maid_model.specs.declared.answers.Row.{Row}
use Rattle.maid_model.specs.declared.diagrams.Kind.{Kind}
use Rattle.maid_model.specs.declared.diagrams.Kind.TheVariants.{Decision, Utility}
use Rattle.maid_model.specs.Answers.{FitsAnswer, FitsDiagram, IsReduced}
use Rattle.maid_model.specs.Nodes.{IsDecision, node_at}
use Rattle.form_tests.specs.Checking.{reply_diagram, reply_report}

-- a row of two states, in lowest terms
pub record IsFitRow (r : Row) : Type 0 where
  pub choice : r.choice < 2
  pub worth : IfSome r.worth IsReduced

plan_there : IsDecision reply_diagram.nodes 0
plan_there = record { within = omega arith; kind = refl }

reply_there : IsDecision reply_diagram.nodes 1
reply_there = record { within = omega arith; kind = refl }

listed : (v : ℕ) → IsDecision reply_diagram.nodes v → Contains (1 ∷ 0 ∷ []) v
listed zero k = (1, omega arith, refl)
listed (suc zero) k = (0, omega arith, refl)
listed (suc (suc v)) k = absurd (utility (node_at reply_diagram.nodes (suc (suc v))).kind (all v) k.kind)
  where
    all : (v : ℕ) → (node_at reply_diagram.nodes (suc (suc v))).kind ≡ Utility
    all zero = refl
    all (suc v) = refl

    utility : (k : Kind) → k ≡ Utility → k ≡ Decision → ⊥
    utility k e f = cc

apart : Contains {X = ℕ} (0 ∷ []) 1 → ⊥
apart (zero, l, e) = absurd (omega arith)
apart (suc k, l, e) = absurd (omega arith)

pub fits : (first second plan : Row) (gain : Ratio) → IsFitRow first → IsFitRow second → IsFitRow plan → IsReduced gain → FitsDiagram reply_diagram (reply_report first second plan gain)
fits first second plan gain a b c g = record {
  follow = refl;
  answers = All-cons (FitsAnswer reply_diagram.nodes) (record { decision = 1; rows = first ∷ second ∷ [] }) (record { decision = 0; rows = plan ∷ [] } ∷ []) reply_fits (All-cons (FitsAnswer reply_diagram.nodes) (record { decision = 0; rows = plan ∷ [] }) [] plan_fits (All-nil (FitsAnswer reply_diagram.nodes)));
  all = listed;
  once = (apart, ((λ d. omega (arith, d.1)), tt));
  gains = refl;
  reduced = All-cons IsReduced gain [] g (All-nil IsReduced);
}
  where
    reply_fits : FitsAnswer reply_diagram.nodes (record { decision = 1; rows = first ∷ second ∷ [] })
    reply_fits = record {
      decision = reply_there;
      rows = refl;
      choices = All-cons (λ (r : Row). r.choice < 2) first (second ∷ []) a.choice (All-cons (λ (r : Row). r.choice < 2) second [] b.choice (All-nil (λ (r : Row). r.choice < 2)));
      worths = All-cons (λ (r : Row). IfSome r.worth IsReduced) first (second ∷ []) a.worth (All-cons (λ (r : Row). IfSome r.worth IsReduced) second [] b.worth (All-nil (λ (r : Row). IfSome r.worth IsReduced)));
    }

    plan_fits : FitsAnswer reply_diagram.nodes (record { decision = 0; rows = plan ∷ [] })
    plan_fits = record {
      decision = plan_there;
      rows = refl;
      choices = All-cons (λ (r : Row). r.choice < 2) plan [] c.choice (All-nil (λ (r : Row). r.choice < 2));
      worths = All-cons (λ (r : Row). IfSome r.worth IsReduced) plan [] c.worth (All-nil (λ (r : Row). IfSome r.worth IsReduced));
    }
