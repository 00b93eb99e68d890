-- Choices of one decision after another, and that in the end they are an optimum.
use Rattle.std.proofs.Common.{◌≡◌, ◌∙◌, ℕ, zero, suc, ◌+◌, ◌^◌, ◌<◌, List, [], ◌∷◌, ◌++◌, All, Contains, IfSome, length, map, take, get_or, slice_index, refl, sym, ap, subst, arith, ℤ, pos, ◌≤ℤ◌, length-append}
use Rattle.std.proofs.lemmas.List.{get_or_append_left, take_more}
use Rattle.std.proofs.lemmas.List.Elements.{All-push}
use Rattle.std.proofs.Math.Decide.{ℕ_discrete}
use Rattle.std.proofs.Math.Seq.{get_or-append_seam}
use Rattle.maid_laws.specs.Answers.{ChoicesAreBest, HasBestChoices}
use Rattle.maid_laws.specs.Exchange.{Exchange, OneAgent}
use Rattle.maid_model.specs.declared.answers.Ratio.{Ratio}
use Rattle.maid_model.specs.declared.answers.Row.{Row}
use Rattle.maid_model.specs.Answers.{FitsAnswer, FitsAnswers, FitsDiagram, IsBase, IsExpectedUtility, IsReduced, no_row, pure_profile, rows_at}
use Rattle.maid_model.specs.Graph.{IsGraph}
use Rattle.maid_model.specs.Nodes.{IsDecision, rows_of, states_of}
use Rattle.maid_model.specs.Placing.{IsRelianceOrder}
use Rattle.maid_model.specs.Relevance.{ReliesOn}
use Rattle.maid_model.specs.Scopes.{scope_of}
use Rattle.maid_model.specs.Subgames.{OwnsAll}
use Rattle.maid_model.specs.Tables.{HasChanceTables}
use Rattle.maid_model.specs.Values.{IsOptimum}
use Rattle.maid_model.specs.Views.{NodeView, DiagramView, RuleView, AnswerView, SolvedView}
use Rattle.maid_model.specs.Gains.{gain_in}
use Rattle.part_laws.specs.PartLaws.{DecidesAlike}
use Rattle.rule_solver.specs.Optima.{ChoosesAll, ChoosesRows, IsChosenAt, IsChosenBy}
use Rattle.rule_solver.specs.Sums.{IsRowGains, scope_gain}
use Rattle.rule_solver.proofs.AnswerLemmas.{listed, rows_found}
use Rattle.rule_solver.proofs.AnsweredRules.{rule_stays}
use Rattle.rule_solver.proofs.BaseLemmas.{decided, same_then}
use Rattle.rule_solver.proofs.Orders.{IsClosed, first_closed, relied_before, order_differs, placed_decision}

-- ---- the rows of a decision
-- one more chosen row
pub chosen-push : (gain : ℕ → ℕ → ℤ) (states number : ℕ) (rows : List Row) (r : Row) → ChoosesRows gain states number rows → ((s : ℕ) → s < states → gain s number ≤ℤ gain r.choice number) → r.choice < states → IfSome r.worth IsReduced
    → ChoosesRows gain states (number + 1) (rows ++ r ∷ [])
chosen-push gain states number rows r a best inside reduced = record {
  count = length-append rows (r ∷ []) ∙ ap (λ n. n + 1) a.count;
  best = λ s row l k. go s row l k (ℕ_discrete row number);
  choices = All-push (λ x. x.choice < states) rows r a.choices inside;
  worths = All-push (λ x. IfSome x.worth IsReduced) rows r a.worths reduced;
}
  where
    smaller : (row : ℕ) → row < number + 1 → (row ≡ number → ⊥) → row < number
    smaller row k n = omega arith

    go : (s row : ℕ) → s < states → row < number + 1 → Dec (row ≡ number) → gain s row ≤ℤ gain (get_or (rows ++ r ∷ []) row no_row).choice row
    go s row l k (yes e) = subst (λ i. gain s i ≤ℤ gain (get_or (rows ++ r ∷ []) i no_row).choice i) (sym e) (subst (λ (x : Row). gain s number ≤ℤ gain x.choice number) (sym last) (best s l))
      where
        last : get_or (rows ++ r ∷ []) number no_row ≡ r
        last = subst (λ i. get_or (rows ++ r ∷ []) i no_row ≡ r) a.count (get_or-append_seam rows r [] no_row)
    go s row l k (no n) =
        let h : row < length rows = subst (λ i. row < i) (sym a.count) (smaller row k n) in
        subst (λ (x : Row). gain s row ≤ℤ gain x.choice row) (sym (get_or_append_left rows (r ∷ []) no_row row h)) (a.best s row l (smaller row k n))

-- choices that are best in the part of the scope are best in the whole, where both decide alike
pub chosen_by : (nodes : List NodeView) (base : List RuleView) (d : ℕ) (gains : List ℤ) (rows : List Row) → ((row : ℕ) → DecidesAlike nodes base (scope_of nodes d) d row)
    → IsRowGains nodes base d gains → ChoosesRows (gain_in gains (states_of nodes d)) (states_of nodes d) (rows_of nodes d) rows
    → IsChosenBy nodes base d rows
chosen_by nodes base d gains rows alike sums a = record {
  count = a.count;
  best = λ s row l k.
      let choice : ℕ = (get_or rows row no_row).choice in
      let inside : choice < states_of nodes d = a.choices row no_row (subst (λ n. row < n) (sym a.count) k) in
      ((alike row).best s choice).1
      (subst (λ z. scope_gain nodes base d s row ≤ℤ z) (there choice row inside k)
      (subst (λ z. z ≤ℤ gain_in gains (states_of nodes d) choice row) (there s row l k) (a.best s row l k)));
  choices = a.choices;
  worths = a.worths;
}
  where
    there : (state row : ℕ) → state < states_of nodes d → row < rows_of nodes d → gain_in gains (states_of nodes d) state row ≡ scope_gain nodes base d state row
    there state row h k = sums.gain state row h k

-- ---- decision by decision
-- a choice stays best when more is chosen, since the rules on which it relies stay
chosen_stays : (nodes : List NodeView) (answers : List AnswerView) (a : AnswerView) (v : ℕ) (rows : List Row) → ((e : ℕ) → ReliesOn nodes v e → Contains (decided answers) e)
    → IsChosenAt nodes (pure_profile nodes answers) v rows → IsChosenAt nodes (pure_profile nodes (answers ++ a ∷ [])) v rows
chosen_stays nodes answers a v rows relied h = record {
  base = h.base;
  is_base = record {
    profile = h.is_base.profile;
    relied = λ e r. same_then h.base (pure_profile nodes answers) (pure_profile nodes (answers ++ a ∷ [])) e (h.is_base.relied e r) (rule_stays nodes answers a e r.on_decision (relied e r));
    others = h.is_base.others;
  };
  chosen = h.chosen;
}

-- one more decision
pub chosen-push-all : (nodes : List NodeView) (order : List ℕ) (i : ℕ) (answers : List AnswerView) (base : List RuleView) (rows : List Row) → IsRelianceOrder nodes order → i < length order → ChoosesAll nodes (take i order) answers
    → IsBase nodes (pure_profile nodes answers) (slice_index order i) base → IsChosenBy nodes base (slice_index order i) rows
    → ChoosesAll nodes (take (i + 1) order) (answers ++ record { decision = slice_index order i; rows = rows } ∷ [])
chosen-push-all nodes order i answers base rows is_order h so is_base is = record {
  follow = map_more answers ∙ ap (λ l. l ++ slice_index order i ∷ []) so.follow ∙ sym (take_more order i 0 h);
  fits = All-push (FitsAnswer nodes) answers new so.fits (record { decision = placed_decision nodes order is_order i h; rows = is.count; choices = is.choices; worths = is.worths });
  each = All-push (λ (x : AnswerView). IsChosenAt nodes (pure_profile nodes (answers ++ new ∷ [])) x.decision x.rows) answers new
      (λ k e l. chosen_stays nodes answers new (get_or answers k e).decision (get_or answers k e).rows (λ u r. closed (get_or answers k e).decision u (listed answers k e l) r) (so.each k e l))
      (chosen_stays nodes answers new (slice_index order i) rows (λ u r. subst (λ l. Contains l u) (sym so.follow) (relied_before nodes order is_order i h u r)) (record { base = base; is_base = is_base; chosen = is }));
}
  where
    new : AnswerView
    new = record { decision = slice_index order i; rows = rows }

    closed : IsClosed nodes (decided answers)
    closed = subst (IsClosed nodes) (sym so.follow) (first_closed nodes order is_order i)

    map_more : (answers : List AnswerView) → map (λ a. a.decision) (answers ++ record { decision = slice_index order i; rows = rows } ∷ []) ≡ map (λ a. a.decision) answers ++ slice_index order i ∷ []
    map_more [] = refl
    map_more (x ∷ answers) = ap (λ l. x.decision ∷ l) (map_more answers)

-- at first nothing is chosen
pub chosen-none : (nodes : List NodeView) (order : List ℕ) → ChoosesAll nodes (take 0 order) []
chosen-none nodes order = record { follow = none order; fits = λ k e h. absurd (omega arith); each = λ k e h. absurd (omega arith) }
  where
    none : (xs : List ℕ) → [] ≡ take 0 xs
    none [] = refl
    none (x ∷ xs) = refl

pub chosen_fit : (nodes : List NodeView) (order : List ℕ) (answers : List AnswerView) → IsRelianceOrder nodes order → ChoosesAll nodes order answers → FitsAnswers nodes answers
chosen_fit nodes order answers is_order h v is =
    rows_found (λ u rows. (length rows ≡ rows_of nodes u) × All (λ r. r.choice < states_of nodes u) rows) answers (λ k e l. ((h.fits k e l).rows, (h.fits k e l).choices)) v (subst (λ list. Contains list v) (sym h.follow) (is_order.complete v is))

-- ---- the worths of nodes
-- one number more
pub one_longer : (n : ℕ) (worths more : List ℤ) (x : ℤ) → more ≡ worths ++ x ∷ [] → length worths ≡ n → length more ≡ n + 1
one_longer n worths more x is len = ap (λ (l : List ℤ). length l) is ∙ length-append worths (x ∷ []) ∙ ap (λ k. k + 1) len

-- what holds of the number of each node so far, and of the next one's
pub worths-push : (P : ℕ → ℤ → Type 0) (n : ℕ) (worths : List ℤ) (x : ℤ) → length worths ≡ n → ((u : ℕ) → u < n → P u (get_or worths u (pos 0))) → P n x → (u : ℕ) → u < n + 1 → P u (get_or (worths ++ x ∷ []) u (pos 0))
worths-push P n worths x len so p u l = go (ℕ_discrete u n)
  where
    smaller : u < n + 1 → (u ≡ n → ⊥) → u < n
    smaller h m = omega arith

    go : Dec (u ≡ n) → P u (get_or (worths ++ x ∷ []) u (pos 0))
    go (yes e) = subst (λ i. P i (get_or (worths ++ x ∷ []) i (pos 0))) (sym e) (subst (P n) (sym last) p)
      where
        last : get_or (worths ++ x ∷ []) n (pos 0) ≡ x
        last = subst (λ i. get_or (worths ++ x ∷ []) i (pos 0) ≡ x) len (get_or-append_seam worths x [] (pos 0))
    go (no m) =
        let h = smaller l m in
        subst (P u) (sym (get_or_append_left worths (x ∷ []) (pos 0) u (subst (λ k. u < k) (sym len) h))) (so u h)

-- ---- the optimum
-- a fraction so many times
many : ℕ → Ratio → List Ratio
many zero r = []
many (suc n) r = r ∷ many n r

many_long : (n : ℕ) (r : Ratio) → length (many n r) ≡ n
unfolding many
many_long zero r = refl
many_long (suc n) r = let e = many_long n r in omega (arith, e)

many_each : (P : Ratio → Type 0) (n : ℕ) (r : Ratio) → P r → All P (many n r)
unfolding many
many_each P zero r p i e h = absurd (omega arith)
many_each P (suc n) r p zero e h = p
many_each P (suc n) r p (suc i) e h = many_each P n r p i e (omega arith)

-- the chosen rules are best in their bases, so no profile is worth more to the agent
pub is_optimum : (d : DiagramView) (agent : ℕ) (profile : List RuleView) (order : List ℕ) (answers : List AnswerView) (r : Ratio) → IsGraph d.nodes → HasChanceTables d.nodes → ChoicesAreBest → Exchange → OneAgent → OwnsAll d.nodes agent
    → profile ≡ pure_profile d.nodes answers → IsRelianceOrder d.nodes order → ChoosesAll d.nodes order answers → IsExpectedUtility d.nodes (10 ^ d.decimals) profile agent r → IsOptimum d.nodes d.decimals agent r
is_optimum d agent profile order answers r g t choices exchange one owns pure is_order h worth = record {
  alone = owns;
  best = pure_profile d.nodes answers;
  optimal = one d.nodes (pure_profile d.nodes answers) agent g (exchange d.nodes (pure_profile d.nodes answers) g t (choices d solved g t fits (λ i e l x. relied_before d.nodes order is_order i l e x) best)) owns;
  worth = subst (λ p. IsExpectedUtility d.nodes (10 ^ d.decimals) p agent r) pure worth;
}
  where
    solved : SolvedView
    solved = record { order = order; answers = answers; gains = many d.agents r }

    fits : FitsDiagram d solved
    fits = record {
      follow = h.follow;
      answers = h.fits;
      all = λ v is. is_order.complete v is;
      once = order_differs d.nodes order is_order;
      gains = many_long d.agents r;
      reduced = many_each IsReduced d.agents r worth.reduced;
    }

    best : (v : ℕ) → IsDecision d.nodes v → HasBestChoices d solved v
    best v is =
        let at : IsChosenAt d.nodes (pure_profile d.nodes answers) v (rows_at answers v) = rows_found (IsChosenAt d.nodes (pure_profile d.nodes answers)) answers h.each v (subst (λ list. Contains list v) (sym h.follow) (is_order.complete v is)) in
        record { base = at.base; is_base = at.is_base; best = λ state row l k m. at.chosen.best state row l k }
