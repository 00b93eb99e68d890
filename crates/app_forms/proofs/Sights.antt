-- What a decision sees in a row, parent by parent.
use Rattle.std.proofs.Common.{◌≡◌, ◌≢◌, ◌∙◌, ℕ, zero, suc, ◌+◌, ◌*◌, ◌/◌, ◌%◌, ◌<◌, Bool, true, false, not, ◌&&◌, ◌==◌, cond, refl, List, [], ◌∷◌, ◌++◌, All, arith, length, get_or, drop, slice_index_or, sym, ap, subst, add-one, drop-cons}
use Rattle.std.proofs.Math.Nat.{mul-div_cancel_left, mod-lt}
use Rattle.std.specs.List.{list_any}
use Rattle.std.proofs.Math.ListN.{get_or-map}
use Rattle.std.proofs.lemmas.List.{length-map}
use Rattle.maid_laws.proofs.Booleans.{eqb_yes, eqb_no}
use Rattle.maid_model.specs.Answers.{FitsDiagram}
use Rattle.maid_model.specs.Names.{NamesView, NamesFit}
use Rattle.maid_model.specs.Nodes.{is_decision, no_node, node_at, rows_under, states_of}
use Rattle.maid_model.specs.Views.{NodeView, DiagramView, AnswerView, SolvedView}
use Rattle.reach_laws.specs.Evidence.{all_seeing, all_seeing_diagram, seeing}
use Rattle.app_forms.specs.Given.{shows}

pub front : (xs : List ℕ) (i : ℕ) → i < length xs → drop i xs ≡ slice_index_or xs i 0 ∷ drop (i + 1) xs
front xs i h = drop-cons xs i 0 h ∙ ap (λ k. slice_index_or xs i 0 ∷ drop k xs) (sym (add-one i))

some_below : (c below row : ℕ) → row < c * below → 0 < below
some_below c zero row h = absurd (none (zero_right c))
  where
    zero_right : (c : ℕ) → c * 0 ≡ 0
    zero_right c = omega arith

    none : c * 0 ≡ 0 → ⊥
    none e = omega arith
some_below c (suc below) row h = omega arith

module _ (count : ℕ → ℕ) (u : ℕ) (us : List ℕ) (rest before x state : ℕ) (some : 0 < count u) (e : before ≡ rows_under count (u ∷ us)) (h : rest < before) where
  pub under : before / count u ≡ rows_under count us
  under = ap (λ n. n / count u) e ∙ mul-div_cancel_left (rows_under count us) some

  pub rest_under : rest % (before / count u) < before / count u
  rest_under = mod-lt rest (subst (λ n. 0 < n) (sym under) (some_below (count u) (rows_under count us) rest (subst (λ n. rest < n) e h)))

  -- the parent is the node, and its state is told
  pub shown : u ≡ x → shows count (u ∷ us) rest x state ≡ (rest / (before / count u) == state)
  shown same = ap (λ b. cond b (rest / rows_under count us == state) (shows count us (rest % rows_under count us) x state)) (eqb_yes u x same) ∙ ap (λ n. rest / n == state) (sym under)

  -- or another parent may be
  pub passed : u ≢ x → shows count (u ∷ us) rest x state ≡ shows count us (rest % (before / count u)) x state
  passed differ = ap (λ b. cond b (rest / rows_under count us == state) (shows count us (rest % rows_under count us) x state)) (eqb_no u x differ) ∙ ap (λ n. shows count us (rest % n) x state) (sym under)

-- the order of a report has nodes alone
pub order_known : (d : DiagramView) (solved : SolvedView) → FitsDiagram d solved → All (λ v. v < length d.nodes) solved.order
order_known d solved fits k e h =
    let none : AnswerView = record { decision = e; rows = [] } in
    let same : get_or solved.order k e ≡ (get_or solved.answers k none).decision = ap (λ order. get_or order k e) (sym fits.follow) ∙ get_or-map (λ (a : AnswerView). a.decision) solved.answers k none in
    let within : k < length solved.answers = subst (λ n. k < n) (ap length (sym fits.follow) ∙ length-map solved.answers (λ (a : AnswerView). a.decision)) h in
    subst (λ v. v < length d.nodes) (sym same) (fits.answers k none within).decision.within

-- where every decision sees x, the nodes keep their kinds and states, so the names fit
kind_by : (x : ℕ) (n : NodeView) (b : Bool) → (cond b (record { kind = n.kind; owner = n.owner; more = n.more; states = n.states; parents = n.parents ++ x ∷ []; cells = n.cells }) n).kind ≡ n.kind
kind_by x n true = refl
kind_by x n false = refl

states_by : (x : ℕ) (n : NodeView) (b : Bool) → (cond b (record { kind = n.kind; owner = n.owner; more = n.more; states = n.states; parents = n.parents ++ x ∷ []; cells = n.cells }) n).states ≡ n.states
states_by x n true = refl
states_by x n false = refl

module _ (d : DiagramView) (names : NamesView) (x : ℕ) (fit : NamesFit d names) where
  at : (v : ℕ) → node_at (all_seeing d.nodes x) v ≡ seeing x (node_at d.nodes v)
  at v = get_or-map (seeing x) d.nodes v no_node

  many : length (all_seeing d.nodes x) ≡ length d.nodes
  many = length-map d.nodes (seeing x)

  kind_at : (v : ℕ) → (node_at (all_seeing d.nodes x) v).kind ≡ (node_at d.nodes v).kind
  kind_at v = ap (λ n. n.kind) (at v) ∙ kind_by x (node_at d.nodes v) (is_decision (node_at d.nodes v).kind && not (list_any (λ u. u == x) (node_at d.nodes v).parents))

  states_at : (v : ℕ) → states_of (all_seeing d.nodes x) v ≡ states_of d.nodes v
  states_at v = ap (λ n. n.states) (at v) ∙ states_by x (node_at d.nodes v) (is_decision (node_at d.nodes v).kind && not (list_any (λ u. u == x) (node_at d.nodes v).parents))

  pub fit_seeing : NamesFit (all_seeing_diagram d x) names
  fit_seeing = record {
    nodes = fit.nodes ∙ sym many;
    labels = fit.labels ∙ sym many;
    states = λ v l h. fit.states v (subst (λ n. v < n) many l) (λ is. h (kind_at v ∙ is)) ∙ sym (states_at v);
    agents = fit.agents;
  }
