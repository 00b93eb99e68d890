-- The lines of a report: each answer begins below the one before it, so that a line has one row at
-- most.
use Rattle.std.proofs.Common.{◌≡◌, ◌≢◌, ◌∙◌, ℕ, zero, suc, ◌+◌, ◌*◌, ◌<◌, ◌≤◌, cond, eqb, true, false, Bool, ◌||◌, List, [], ◌∷◌, map, take, length, get_or, slice_index, refl, sym, ap, subst, inl, inr, arith}
use Rattle.std.proofs.Math.Decide.{ℕ_discrete}
use Rattle.std.proofs.Math.Nat.{mul-le-mul_left}
use Rattle.std.proofs.lemmas.Bool.Decides.{Decides-eqb}
use Rattle.std.proofs.lemmas.List.{get_or_default, length-map, take-take}
use Rattle.std.proofs.lemmas.List.Sums.{sum_by_more, sum_by-take-le}
use Rattle.std.proofs.lemmas.Map.Made.{IsDistinct-from_AllPairs}
use Rattle.std.proofs.lemmas.Map.Steps.{length-le_from_distinct_below}
use Rattle.std.specs.List.{IsDistinct, list_any}
use Rattle.std.specs.Prelude.{AllPairs, Contains, sum_by}
use Rattle.finite_sums.specs.Members.{Among}
use Rattle.maid_model.specs.Answers.{FitsAnswer, FitsDiagram, rows_at}
use Rattle.maid_model.specs.Graph.{AllDifferent}
use Rattle.maid_model.specs.declared.limits.TheConstants.{MOST_CELLS}
use Rattle.node_sets.specs.declared.sets.TheConstants.{MOST_NODES}
use Rattle.maid_model.specs.Diagrams.{IsDiagram}
use Rattle.maid_model.specs.Nodes.{IsDecision, rows_of, states_of}
use Rattle.maid_model.specs.Views.{AnswerView, DiagramView, SolvedView}
use Rattle.maid_laws.proofs.Booleans.{eqb_yes, eqb_no}
use Rattle.maid_laws.proofs.Collapse.{Apart}
use Rattle.maid_laws.proofs.Members.{apart_of, among_of, among_index, contains_of, index_of}
use Rattle.maid_laws.proofs.OrderLaws.{one_place}
use Rattle.tree_checker.specs.Verdicts.{line_count, line_of_answer, line_of_row, line_of_gain}

-- what stands for an answer that there is not
abbrev pub no_answer : AnswerView
no_answer = record { decision = 0; rows = [] }

-- the answer at a place
abbrev pub placed : SolvedView → ℕ → AnswerView
placed solved place = get_or solved.answers place no_answer

-- ---- answers by place
decision_in : (answers : List AnswerView) (i : ℕ) → i < length answers → get_or (map (λ (a : AnswerView). a.decision) answers) i 0 ≡ (get_or answers i no_answer).decision
decision_in [] i l = absurd (omega arith)
decision_in (a ∷ answers) zero l = refl
decision_in (a ∷ answers) (suc i) l = decision_in answers i (omega arith)

-- where decisions differ, the rows at an answer's decision are its own
own_rows : (answers : List AnswerView) (i : ℕ) → AllDifferent (map (λ (a : AnswerView). a.decision) answers) → i < length answers → rows_at answers (get_or answers i no_answer).decision ≡ (get_or answers i no_answer).rows
own_rows [] i n l = absurd (omega arith)
own_rows (a ∷ answers) zero n l = ap (λ b. cond b a.rows (rows_at answers a.decision)) (eqb_yes a.decision a.decision refl)
own_rows (a ∷ answers) (suc i) n l =
    ap (λ b. cond b a.rows (rows_at answers (get_or answers i no_answer).decision)) (eqb_no a.decision (get_or answers i no_answer).decision apart)
    ∙ own_rows answers i n.1 (omega arith)
  where
    inside : i < length (map (λ (a : AnswerView). a.decision) answers)
    inside = subst (λ k. i < k) (sym (length-map answers (λ (a : AnswerView). a.decision))) (omega arith)

    apart : a.decision ≢ (get_or answers i no_answer).decision
    apart e = n.0 (contains_of a.decision (map (λ (a : AnswerView). a.decision) answers)
        (subst (λ v. Among v (map (λ (a : AnswerView). a.decision) answers)) (decision_in answers i (omega arith) ∙ sym e) (among_index (map (λ (a : AnswerView). a.decision) answers) i inside)))

-- ---- numbers that differ and are below n are at most n
distinct : (xs : List ℕ) → Apart xs → IsDistinct eqb xs
distinct xs h = IsDistinct-from_AllPairs (λ a b. Decides-eqb a b) xs pairs
  where
    pairs : AllPairs (λ x y. x ≢ y) xs
    pairs i j n l m e =
        let same : i ≡ j = one_place xs h i j (omega arith) m (get_or_default xs i 0 n (omega arith) ∙ e ∙ sym (get_or_default xs j 0 n m)) in
        omega (arith, same)

below : (xs : List ℕ) (n : ℕ) → ((v : ℕ) → Among v xs → v < n) → (q : ℕ) → list_any (eqb q) xs ≡ true → q < n
below [] n h q e = absurd (none e)
  where
    none : false ≡ true → ⊥
    none e = cc
below (x ∷ xs) n h q e = go (ℕ_discrete q x) (below xs n (λ v k. h v (inr k)) q)
  where
    rest : (b : Bool) → b ≡ false → (b || list_any (eqb q) xs) ≡ true → list_any (eqb q) xs ≡ true
    rest true f g = absurd (cc)
    rest false f g = g

    go : Dec (q ≡ x) → (list_any (eqb q) xs ≡ true → q < n) → q < n
    go (yes f) r = h q (inl f)
    go (no m) r = r (rest (eqb q x) (eqb_no q x m) e)

pub few : (xs : List ℕ) (n : ℕ) → AllDifferent xs → ((v : ℕ) → Contains xs v → v < n) → length xs ≤ n
few xs n a h = length-le_from_distinct_below xs n (distinct xs (apart_of xs a)) (below xs n (λ v m. h v (contains_of v xs m)))

module _ (d : DiagramView) (solved : SolvedView) (f : FitsDiagram d solved) where
  pub counts : length solved.answers ≡ length solved.order
  counts = sym (length-map solved.answers (λ (a : AnswerView). a.decision)) ∙ ap length f.follow

  -- the answer at a place is that of the decision there
  pub decides : (place : ℕ) → place < length solved.order → (placed solved place).decision ≡ slice_index solved.order place
  decides place l = sym (decision_in solved.answers place (subst (λ n. place < n) (sym counts) l)) ∙ ap (λ xs. get_or xs place 0) f.follow

  pub fits_at : (place : ℕ) → place < length solved.order → FitsAnswer d.nodes (placed solved place)
  fits_at place l = f.answers place no_answer (subst (λ n. place < n) (sym counts) l)

  pub decided : (place : ℕ) → place < length solved.order → IsDecision d.nodes (slice_index solved.order place)
  decided place l = subst (IsDecision d.nodes) (decides place l) (fits_at place l).decision

  pub rows_there : (place : ℕ) → place < length solved.order → rows_at solved.answers (slice_index solved.order place) ≡ (placed solved place).rows
  rows_there place l =
      ap (rows_at solved.answers) (sym (decides place l))
      ∙ own_rows solved.answers place (subst AllDifferent (sym f.follow) f.once) (subst (λ n. place < n) (sym counts) l)

  pub rows_count : (place : ℕ) → place < length solved.order → length (placed solved place).rows ≡ rows_of d.nodes (slice_index solved.order place)
  rows_count place l = (fits_at place l).rows ∙ ap (rows_of d.nodes) (decides place l)

  -- the members of the order are decisions
  pub members_decided : (v : ℕ) → Contains solved.order v → IsDecision d.nodes v
  members_decided v c = go (index (among_of v solved.order c))
    where
      index : Among v solved.order → (k : ℕ) × (k < length solved.order) × (slice_index solved.order k ≡ v)
      index m = index_of v solved.order m

      go : (k : ℕ) × (k < length solved.order) × (slice_index solved.order k ≡ v) → IsDecision d.nodes v
      go (k, l, e) = subst (IsDecision d.nodes) e (decided k l)

  -- ---- lines
  pub line_next : (place : ℕ) → place < length solved.order → line_of_answer solved (place + 1) ≡ line_of_answer solved place + 1 + rows_of d.nodes (slice_index solved.order place)
  line_next place l =
      let step : sum_by line_count (take (place + 1) solved.answers) ≡ sum_by line_count (take place solved.answers) + line_count (placed solved place) = sum_by_more line_count solved.answers place no_answer (subst (λ n. place < n) (sym counts) l) in
      let rows = rows_count place l in
      omega (arith, step, rows)

  pub line_grows : (p q : ℕ) → p ≤ q → line_of_answer solved p ≤ line_of_answer solved q
  line_grows p q l =
      let part : sum_by line_count (take p (take q solved.answers)) ≤ sum_by line_count (take q solved.answers) = sum_by-take-le line_count (take q solved.answers) p in
      let same : sum_by line_count (take p (take q solved.answers)) ≡ sum_by line_count (take p solved.answers) = ap (sum_by line_count) (take-take p q solved.answers l) in
      omega (arith, part, same)

  -- a row stands before the answers below it, and before the agents
  pub row_before : (p q row : ℕ) → p < q → p < length solved.order → row < rows_of d.nodes (slice_index solved.order p) → line_of_row solved p row < line_of_answer solved q
  row_before p q row l m n =
      let next = line_next p m in
      let grows = line_grows (p + 1) q (omega arith) in
      omega (arith, next, grows)

  pub row_before_gains : (p row agent : ℕ) → p < length solved.order → row < rows_of d.nodes (slice_index solved.order p) → line_of_row solved p row < line_of_gain solved agent
  row_before_gains p row agent m n =
      let next = line_next p m in
      let all : sum_by line_count (take (p + 1) solved.answers) ≤ sum_by line_count solved.answers = sum_by-take-le line_count solved.answers (p + 1) in
      omega (arith, next, all)

  -- ---- room
  -- there are no more decisions than nodes
  pub order_few : IsDiagram d → length solved.order ≤ MOST_NODES
  order_few is = let all = few solved.order (length d.nodes) f.once (λ v c. (members_decided v c).within) in let most = is.limits.nodes in omega (arith, all, most)

  rows_few : IsDiagram d → (v : ℕ) → v < length d.nodes → rows_of d.nodes v ≤ MOST_CELLS
  rows_few is v l = chain (rows_of d.nodes v) (states_of d.nodes v) (mul-le-mul_left (rows_of d.nodes v) (is.graph.has_state v)) (is.limits.cells v l)
    where
      chain : (r s : ℕ) → r * 1 ≤ r * s → r * s ≤ MOST_CELLS → r ≤ MOST_CELLS
      chain r s h k = omega arith

  pub rows_small : IsDiagram d → (place : ℕ) → place < length solved.order → rows_of d.nodes (slice_index solved.order place) ≤ MOST_CELLS
  rows_small is place l = rows_few is (slice_index solved.order place) (decided place l).within

  -- a line's number is small
  pub lines_small : IsDiagram d → (place : ℕ) → place ≤ length solved.order → line_of_answer solved place ≤ 3 + place * 65537
  lines_small is zero l = subst (λ n. 3 + n ≤ 3 + 0 * 65537) (nothing solved.answers) (omega arith)
    where
      nothing : (xs : List AnswerView) → 0 ≡ sum_by line_count (take 0 xs)
      nothing [] = refl
      nothing (x ∷ xs) = refl
  lines_small is (suc place) l =
      let before = lines_small is place (omega arith) in
      let next = line_next place (omega arith) in
      let rows = rows_small is place (omega arith) in
      let same : line_of_answer solved (suc place) ≡ line_of_answer solved (place + 1) = ap (line_of_answer solved) (one place) in
      omega (arith, before, next, rows, same)
    where
      one : (n : ℕ) → suc n ≡ n + 1
      one n = omega arith
