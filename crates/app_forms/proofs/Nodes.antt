-- Lists of decisions name nodes, and lines of decisions are those of all nodes.
use Rattle.std.proofs.Common.{◌≡◌, ◌∙◌, ℕ, zero, suc, ◌+◌, ◌-◌, ◌<◌, List, [], ◌∷◌, ◌++◌, Bool, true, false, All, IfOk, Vec, Global, length, get_or, drop, refl, sym, ap, subst, arith, add-one, codes}
use Rattle.std.proofs.lemmas.List.{append-nil, get_or-drop, get_or_default, length-drop}
use Rattle.std.proofs.lemmas.List.Elements.{Contains-get_or}
use Rattle.std.proofs.lemmas.Grind.{flat_map-append}
use Rattle.std.specs.Prelude.{filter, Ok, Err, Result}
use Rattle.std.specs.List.{flat_map, range_with_len}
use Rattle.finite_sums.proofs.Ranges.{range_push}
use Rattle.maid_model.specs.Names.{NamesView}
use Rattle.maid_model.specs.Nodes.{IsDecision, node_at, is_decision}
use Rattle.maid_model.specs.Placing.{IsRelianceCycle, IsTrail, Remains}
use Rattle.maid_model.specs.Relevance.{ReliesOn}
use Rattle.maid_model.specs.Reports.{names_line}
use Rattle.maid_model.specs.Views.{NodeView}
use Rattle.relevance_graph.specs.Relevant.{IsRelevance, IsOutcome}
use Rattle.relevance_graph.specs.Views.{RelevanceView, relied_on_by}
use Rattle.app_forms.specs.Graph.{relies_line, IsLastLine, OfOrder, OfCycle}
use Rattle.app_forms.specs.GraphLines.{relies_line_of}

trail_within : (nodes : List NodeView) (placed trail : List ℕ) → IsTrail (Remains (IsDecision nodes) placed) (ReliesOn nodes) trail → (k : ℕ) → k < length trail → get_or trail k 0 < length nodes
trail_within nodes placed trail is zero h = (is.first h).0.0.within
trail_within nodes placed trail is (suc k) h = subst (λ n. get_or trail n 0 < length nodes) (add-one k) ((is.next k (omega (arith, h))).0.1.0.within)

-- and so has a relevance cycle
pub cycle_within : (nodes : List NodeView) (cycle : List ℕ) → IsRelianceCycle nodes cycle → All (λ v. v < length nodes) cycle
cycle_within nodes cycle is k d h =
    let trail = is.round.trail in
    let back = is.round.back in
    let e : cycle ≡ drop back trail = is.round.is in
    let left : k < length trail - back = subst (λ n. k < n) (ap length e ∙ length-drop back trail) h in
    let within : back + k < length trail = omega (arith, left) in
    subst (λ v. v < length nodes) (sym (ap (λ xs. get_or xs k d) e ∙ get_or-drop back trail k d ∙ get_or_default trail (back + k) d 0 within))
    (trail_within nodes is.placed trail is.round.is_trail (back + k) within)

-- those on which a node relies
pub relied_within : (nodes : List NodeView) (view : RelevanceView) (v : ℕ) → IsRelevance nodes view → All (λ e. e < length nodes) (relied_on_by view v)
relied_within nodes view v is k d h = ((is.pairs v (get_or (relied_on_by view v) k d)).0 (Contains-get_or (relied_on_by view v) k d h)).on_decision.within

lines_step : (nodes : List NodeView) (names : NamesView) (view : RelevanceView) (v : ℕ) (numbers : List ℕ) (is : Bool) → is_decision (node_at nodes v).kind ≡ is
    → flat_map (relies_line_of nodes names view) numbers ≡ flat_map (λ u. relies_line names u (relied_on_by view u)) (filter (λ u. is_decision (node_at nodes u).kind) numbers)
    → flat_map (relies_line_of nodes names view) (v ∷ numbers) ≡ flat_map (λ u. relies_line names u (relied_on_by view u)) (filter (λ u. is_decision (node_at nodes u).kind) (v ∷ numbers))
lines_step nodes names view v numbers true e rest = rw e (ap (λ bytes. relies_line names v (relied_on_by view v) ++ bytes) rest)
lines_step nodes names view v numbers false e rest = rw e rest

-- the lines of the decisions, node by node
pub lines_are : (nodes : List NodeView) (names : NamesView) (view : RelevanceView) (numbers : List ℕ)
    → flat_map (relies_line_of nodes names view) numbers ≡ flat_map (λ u. relies_line names u (relied_on_by view u)) (filter (λ u. is_decision (node_at nodes u).kind) numbers)
lines_are nodes names view [] = refl
lines_are nodes names view (v ∷ numbers) = lines_step nodes names view v numbers (is_decision (node_at nodes v).kind) refl (lines_are nodes names view numbers)

-- one more number behind a range
pub one_more : {A : Type 0} (f : ℕ → List A) (n : ℕ) → flat_map f (range_with_len 0 (n + 1)) ≡ flat_map f (range_with_len 0 n) ++ f n
one_more f n =
    ap (λ k. flat_map f (range_with_len 0 k)) (add-one n) ∙ ap (flat_map f) (range_push 0 n) ∙ flat_map-append f (range_with_len 0 n) ((0 + n) ∷ [])
    ∙ ap (λ xs. flat_map f (range_with_len 0 n) ++ xs) (append-nil (f (0 + n)) ∙ ap f (omega arith))

-- the last line is that of the outcome
pub last_of_order : {E : Type 0} (nodes : List NodeView) (names : NamesView) (view : RelevanceView) (order : List ℕ) (r : Result (Vec ℕ Global) E) → IsRelevance nodes view → view.outcome ≡ Ok order
    → IfOk r (λ t. t.items ≡ names_line (codes "order:") names order) → IfOk r (λ t. IsLastLine nodes names t.items)
last_of_order nodes names view order (Ok t) is e h = OfOrder order (subst (IsOutcome nodes) e is.outcome) h
last_of_order nodes names view order (Err x) is e h = tt

pub last_of_cycle : {E : Type 0} (nodes : List NodeView) (names : NamesView) (view : RelevanceView) (cycle : List ℕ) (r : Result (Vec ℕ Global) E) → IsRelevance nodes view → view.outcome ≡ Err cycle
    → IfOk r (λ t. t.items ≡ names_line (codes "cycle:") names cycle) → IfOk r (λ t. IsLastLine nodes names t.items)
last_of_cycle nodes names view cycle (Ok t) is e h = let blocked = subst (IsOutcome nodes) e is.outcome in OfCycle cycle blocked.is_cycle blocked.no_order h
last_of_cycle nodes names view cycle (Err x) is e h = tt

pub cycle_members : (nodes : List NodeView) (view : RelevanceView) (cycle : List ℕ) → IsRelevance nodes view → view.outcome ≡ Err cycle → All (λ v. v < length nodes) cycle
cycle_members nodes view cycle is e = let blocked = subst (IsOutcome nodes) e is.outcome in cycle_within nodes cycle blocked.is_cycle
