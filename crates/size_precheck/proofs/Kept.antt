-- Plans that were made and kept, place by place.
use Rattle.std.proofs.Common.{◌≡◌, ◌∙◌, ◌↔◌, ℕ, zero, suc, ◌+◌, ◌<◌, ◌≤◌, max, Bool, true, false, cond, filter, List, [], ◌∷◌, ◌++◌, map, length, take, get_or, refl, sym, ap, subst, arith}
use Rattle.std.specs.Prelude.{flat_map}
use Rattle.std.specs.List.{AllZip, range_with_len}
use Rattle.std.proofs.lemmas.List.{take_more}
use Rattle.ring_sums.proofs.Same.{map_append}
use Rattle.ring_sums.proofs.Each.{zip_append}
use Rattle.maid_model.specs.Bounds.{stopped}
use Rattle.maid_model.specs.Laws.{TestsDescent}
use Rattle.maid_model.specs.Relevance.{IsGoal}
use Rattle.maid_model.specs.Views.{NodeView}
use Rattle.node_sets.specs.declared.sets.NodeSet.{NodeSet}
use Rattle.node_sets.specs.Sets.{IsIn}
use Rattle.plan_sums.specs.Plans.{PlanView, gain_plan, row_plan}
use Rattle.size_precheck.specs.declared.decisions.DecisionPlans.{DecisionPlans}
use Rattle.size_precheck.specs.declared.sizes.Size.{Size}
use Rattle.size_precheck.specs.Decisions.{AreDecisionPlans, ArePlans}
use Rattle.size_precheck.specs.Joints.{SomeOf, IsListOf}
use Rattle.size_precheck.specs.Runs.{Includes}
use Rattle.size_precheck.specs.Sizes.{SizedPlan, IsPlanned, goal_list, is_goal}
use Rattle.size_precheck.proofs.Lists.{each_at, some_at}
use Rattle.size_precheck.proofs.Measuring.{filter_more, goal_tested, include_made, include_row, include_list, include_then}
use Rattle.size_precheck.proofs.Planning.{rising_filter, rising_range}
use Rattle.size_precheck.proofs.Putting.{contains_some, rising_same, some_contains}
use Rattle.size_precheck.proofs.Starting.{in_numbers}

pub zip_long : {A B : Type 0} (R : A → B → Type 0) (xs : List A) (ys : List B) → AllZip R xs ys → length ys ≡ length xs
zip_long R [] [] z = refl
zip_long R [] (y ∷ ys) z = absurd z
zip_long R (x ∷ xs) [] z = absurd z
zip_long R (x ∷ xs) (y ∷ ys) z = let e = zip_long R xs ys z.1 in omega arith

pub zip_at : {A B : Type 0} (R : A → B → Type 0) (xs : List A) (ys : List B) (k : ℕ) (d : A) (e : B) → AllZip R xs ys → k < length ys → R (get_or xs k d) (get_or ys k e)
zip_at R [] [] k d e z h = absurd (omega arith)
zip_at R [] (y ∷ ys) k d e z h = absurd z
zip_at R (x ∷ xs) [] k d e z h = absurd z
zip_at R (x ∷ xs) (y ∷ ys) zero d e z h = z.0
zip_at R (x ∷ xs) (y ∷ ys) (suc k) d e z h = zip_at R xs ys k d e z.1 (omega arith)

-- one more, along the first list
pub zip_next : {A B C : Type 0} (R : C → B → Type 0) (f : A → C) (xs : List A) (ys : List B) (k : ℕ) (d : A) (y : B) → k < length xs → AllZip R (map f (take k xs)) ys → R (f (get_or xs k d)) y → AllZip R (map f (take (k + 1) xs)) (ys ++ y ∷ [])
zip_next R f xs ys k d y h z r =
    subst (λ l. AllZip R l (ys ++ y ∷ [])) (sym (ap (λ l. map f l) (take_more xs k d h) ∙ map_append f (take k xs) (get_or xs k d ∷ []))) (zip_append R (map f (take k xs)) (f (get_or xs k d) ∷ []) ys (y ∷ []) z (r, tt))

-- one number more, where it passes the test and where it does not
pub zip_passed : {B C : Type 0} (R : C → B → Type 0) (p : ℕ → Bool) (f : ℕ → C) (n : ℕ) (ys : List B) (y : B) → p n ≡ true → AllZip R (map f (filter p (range_with_len 0 n))) ys → R (f n) y → AllZip R (map f (filter p (range_with_len 0 (n + 1)))) (ys ++ y ∷ [])
zip_passed R p f n ys y e z r =
    subst (λ l. AllZip R l (ys ++ y ∷ [])) (sym (filter_more p f n))
    (zip_append R (map f (filter p (range_with_len 0 n))) (map f (filter p (n ∷ []))) ys (y ∷ []) z (subst (λ (b : Bool). AllZip R (map f (cond b (n ∷ []) [])) (y ∷ [])) (sym e) (r, tt)))

pub zip_failed : {B C : Type 0} (R : C → B → Type 0) (p : ℕ → Bool) (f : ℕ → C) (n : ℕ) (ys : List B) → p n ≡ false → AllZip R (map f (filter p (range_with_len 0 n))) ys → AllZip R (map f (filter p (range_with_len 0 (n + 1)))) ys
zip_failed {C = C} R p f n ys e z =
    subst (λ l. AllZip R l ys) (sym (filter_more p f n ∙ ap (λ (b : Bool). map f (filter p (range_with_len 0 n)) ++ map f (cond b (n ∷ []) [])) e ∙ append_none (map f (filter p (range_with_len 0 n))))) z
  where
    append_none : (l : List C) → l ++ [] ≡ l
    append_none [] = refl
    append_none (x ∷ xs) = ap (λ (l : List C). x ∷ l) (append_none xs)

pub take_whole : {X : Type 0} (xs : List X) (k : ℕ) → length xs ≤ k → take k xs ≡ xs
take_whole [] zero h = refl
take_whole [] (suc k) h = refl
take_whole (x ∷ xs) zero h = absurd (omega arith)
take_whole {X = X} (x ∷ xs) (suc k) h = ap (λ (l : List X). x ∷ l) (take_whole xs k (omega arith))

-- ---- counted in

-- one plan more of a list
pub include_plan : (nodes : List NodeView) (asked : List PlanView) (plans : List SizedPlan) (i : ℕ) (plan : SizedPlan) (a b size c : Size) → AllZip (IsPlanned nodes) asked plans → i < length plans → plan ≡ get_or plans i plan → size ≡ plan.size
    → c ≡ record { cells = max b.cells size.cells; work = stopped (b.work + size.work) } → Includes nodes (take i asked) a b → Includes nodes (take (i + 1) asked) a c
include_plan nodes asked plans i plan a b size c z h at is joined so =
    let within : i < length asked = let e = zip_long (IsPlanned nodes) asked plans z in omega arith in
    let here : IsPlanned nodes (get_or asked i plan.plan) plan = subst (IsPlanned nodes (get_or asked i plan.plan)) (sym at) (zip_at (IsPlanned nodes) asked plans i plan.plan plan z h) in
    subst (λ l. Includes nodes l a c) (sym (take_more asked i plan.plan within)) (include_then nodes (take i asked) (get_or asked i plan.plan ∷ []) a b c so (include_made nodes (get_or asked i plan.plan) plan b size c here.made is joined))

-- the plans of one decision more
pub plans_next : (nodes : List NodeView) (order : List ℕ) (plans : List DecisionPlans) (i : ℕ) (plan : DecisionPlans) → i < length order → ArePlans nodes (take i order) plans → AreDecisionPlans nodes (get_or order i 0) plan → ArePlans nodes (take (i + 1) order) (plans ++ plan ∷ [])
plans_next nodes order plans i plan h z r =
    subst (λ l. ArePlans nodes l (plans ++ plan ∷ [])) (sym (take_more order i 0 h)) (zip_append (AreDecisionPlans nodes) (take i order) (get_or order i 0 ∷ []) plans (plan ∷ []) z (r, tt))

-- the plan of one decision's rows more
pub include_rows_of : (nodes : List NodeView) (order : List ℕ) (plans : List DecisionPlans) (i : ℕ) (plan : DecisionPlans) (a b size c : Size) → ArePlans nodes order plans → i < length plans → plan ≡ get_or plans i plan → size ≡ plan.rows.size
    → c ≡ record { cells = max b.cells size.cells; work = stopped (b.work + size.work) } → Includes nodes (map (λ d. row_plan nodes d) (take i order)) a b → Includes nodes (map (λ d. row_plan nodes d) (take (i + 1) order)) a c
include_rows_of nodes order plans i plan a b size c z h at is joined so =
    let within : i < length order = let e = zip_long (AreDecisionPlans nodes) order plans z in omega arith in
    let here : AreDecisionPlans nodes (get_or order i 0) plan = subst (AreDecisionPlans nodes (get_or order i 0)) (sym at) (zip_at (AreDecisionPlans nodes) order plans i 0 plan z h) in
    include_row nodes (λ d. row_plan nodes d) order i (get_or order i 0) a b c within refl so (include_made nodes (row_plan nodes (get_or order i 0)) plan.rows b size c here.of_rows.made is joined)

-- the plans of one decision's states more
pub include_goals_of : (nodes : List NodeView) (order : List ℕ) (plans : List DecisionPlans) (i : ℕ) (plan : DecisionPlans) (a b c : Size) → ArePlans nodes order plans → i < length plans → plan ≡ get_or plans i plan
    → ((asked : List PlanView) → AllZip (IsPlanned nodes) asked plan.goals.items → Includes nodes asked b c)
    → Includes nodes (flat_map (λ d. map (λ u. gain_plan nodes d u) (goal_list nodes d)) (take i order)) a b → Includes nodes (flat_map (λ d. map (λ u. gain_plan nodes d u) (goal_list nodes d)) (take (i + 1) order)) a c
include_goals_of nodes order plans i plan a b c z h at counted so =
    let within : i < length order = let e = zip_long (AreDecisionPlans nodes) order plans z in omega arith in
    let here : AreDecisionPlans nodes (get_or order i 0) plan = subst (AreDecisionPlans nodes (get_or order i 0)) (sym at) (zip_at (AreDecisionPlans nodes) order plans i 0 plan z h) in
    include_list nodes (λ d. map (λ u. gain_plan nodes d u) (goal_list nodes d)) order i (get_or order i 0) a b c within refl so (counted _ here.of_goals)

-- ---- goals
-- the set of the goals, listed
pub goals_listed : (nodes : List NodeView) (d : ℕ) (set : NodeSet) (list : List ℕ) → TestsDescent → ((v : ℕ) → IsIn set v ↔ IsGoal nodes d v) → IsListOf set list → list ≡ goal_list nodes d
goals_listed nodes d set list tested goals listed = rising_same list (goal_list nodes d) listed.rising (rising_filter (is_goal nodes d) _ (rising_range 0 (length nodes))) there back
  where
    there : (v : ℕ) → SomeOf (λ x. x ≡ v) list → SomeOf (λ x. x ≡ v) (goal_list nodes d)
    there v s =
        let a = some_at v list s in
        let goal : IsGoal nodes d v = (goals v).0 (subst (IsIn set) a.2 (each_at (IsIn set) list a.0 0 listed.inside a.1)) in
        contains_some v (goal_list nodes d) ((in_numbers (is_goal nodes d) (length nodes) v).1 (goal.within, (goal_tested nodes d v tested goal.within).0 goal))

    back : (v : ℕ) → SomeOf (λ x. x ≡ v) (goal_list nodes d) → SomeOf (λ x. x ≡ v) list
    back v s =
        let m = (in_numbers (is_goal nodes d) (length nodes) v).0 (some_contains v (goal_list nodes d) s) in
        listed.all v ((goals v).1 ((goal_tested nodes d v tested m.0).1 m.1))
