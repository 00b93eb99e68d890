-- A table of tests finds what a search finds: by induction over its rows.
use Rattle.std.proofs.Common.{◌≡◌, ◌≢◌, ◌⊎◌, ℕ, Bool, true, false, cond, inl, inr, List, [], ◌∷◌, Option, None, Some, Result, Ok, Err, refl, sym, ◌∙◌, ap}
use Rattle.std.specs.Prelude.{◌↔◌, IsTrue, find, nat_lt}
use Rattle.std.specs.Option.{option_map}
use Rattle.std.specs.Result.{result_ok, result_err}
use Rattle.std.proofs.lemmas.Bool.{false≢true}
use Rattle.std.proofs.lemmas.Option.{none-some, same_Some}
use Rattle.first_fault.specs.Passes.{Pass, rule, ◌▸◌, each}
use Rattle.first_fault.specs.Outcomes.{gives, ◌▸▸◌, refusals}
use Rattle.first_fault.specs.Tables.{Row, rows_in_turn, first_fault, FindsTheFirst, CountsWhere, TellsTheFirst, AnswersWithoutFault, StagesInTurn, ResultsTell, TablesAreCovered, TablesAreExclusive, TablesHaveOneFault, StagesEndAlike, refusal_or_value, bound_row, first_passed}
use Rattle.first_fault.specs.Answers.{IsFaultOrNoMemory}
use Rattle.first_fault.proofs.Kept.{IsOne, rule_covered, each_covered, rule_one, each_one}
use Rattle.first_fault.proofs.Ends.{staged_alike}

-- a row before the rest, of which the property holds
row_first : (test : Bool) (fault : ℕ) (P : Pass ℕ) (later : Option ℕ) → ((o : Option ℕ) → P o ↔ (o ≡ later)) → (o : Option ℕ) → (rule (IsTrue test) fault ▸ P) o ↔ (o ≡ cond test (Some fault) later)
row_first true fault P later h None = ((λ n. absurd (n.0 refl)), (λ e. absurd (none-some fault e)))
row_first true fault P later h (Some f) = (to, (λ e. inl (refl, same_Some f fault e))) where
  to : (rule (IsTrue true) fault ▸ P) (Some f) → Some f ≡ Some fault
  to (inl k) = ap Some k.1
  to (inr k) = absurd (k.0 refl)
row_first false fault P later h None = ((λ n. (h None).0 n.1), (λ e. (false≢true, (h None).1 e)))
row_first false fault P later h (Some f) = (to, (λ e. inr (false≢true, (h (Some f)).1 e))) where
  to : (rule (IsTrue false) fault ▸ P) (Some f) → Some f ≡ later
  to (inl k) = absurd (false≢true k.0)
  to (inr k) = (h (Some f)).0 k.1

module _ {A : Type 0} (test : A → Bool) (fault : A → ℕ) where
  turn : (b : Bool) (x : A) (rest : Option A) → cond b (Some (fault x)) (option_map fault rest) ≡ option_map fault (cond b (Some x) rest)
  turn true x rest = refl
  turn false x rest = refl

  finds : (xs : List A) (o : Option ℕ) → each (λ x. rule (IsTrue (test x)) (fault x)) xs o ↔ (o ≡ option_map fault (find test xs))
  finds [] None = ((λ h. refl), (λ e. tt))
  finds [] (Some f) = ((λ h. absurd h), (λ e. absurd (none-some f (sym e))))
  finds (x ∷ xs) o =
      let here = row_first (test x) (fault x) (each (λ x. rule (IsTrue (test x)) (fault x)) xs) (option_map fault (find test xs)) (finds xs) o in
      ((λ h. here.0 h ∙ turn (test x) x (find test xs)), (λ e. here.1 (e ∙ sym (turn (test x) x (find test xs)))))

pub finds_the_first : FindsTheFirst
finds_the_first rows o = finds (λ (row : Row). row.test) (λ row. row.fault) rows o

pub counts_where : CountsWhere
counts_where true test fault outcome = ((λ h. h), (λ h. h))
counts_where false test fault None = ((λ h. false≢true), (λ h. tt))
counts_where false test fault (Some f) = ((λ h. absurd h), (λ h. absurd (false≢true h.0)))

pub tells_the_first : TellsTheFirst
tells_the_first rows None = ((λ h. inl refl), (λ h. tt))
tells_the_first rows (Some f) = ((λ h. inr ((finds_the_first rows (Some f)).0 h)), from) where
  from : (Some f ≡ None) ⊎ (Some f ≡ first_fault rows) → rows_in_turn rows (Some f)
  from (inl e) = absurd (none-some f (sym e))
  from (inr e) = (finds_the_first rows (Some f)).1 e

pub answers_without_fault : AnswersWithoutFault
answers_without_fault rows answer = ((λ h. sym ((finds_the_first rows None).0 h)), (λ e. (finds_the_first rows None).1 (sym e)))

-- the pass of the stages, and then the value
staged_is : (P : Pass ℕ) (first : Option ℕ) → ((o : Option ℕ) → P o ↔ (o ≡ first)) → (value : ℕ) (outcome : Result ℕ ℕ) → (P ▸▸ gives (λ given. given ≡ value)) outcome ↔ (outcome ≡ refusal_or_value first value)
staged_is P None h value (Ok x) = ((λ k. ap Ok k.1), (λ e. ((h None).1 refl, same_Some x value (ap result_ok e))))
staged_is P (Some n) h value (Ok x) = ((λ k. absurd (none-some n ((h None).0 k.0))), (λ e. absurd (none-some x (sym (ap result_ok e)))))
staged_is P None h value (Err f) = (to, (λ e. absurd (none-some value (ap result_ok e)))) where
  to : (P ▸▸ gives (λ given. given ≡ value)) (Err f) → ◌≡◌ {A = Result ℕ ℕ} (Err f) (Ok value)
  to (inl k) = absurd (none-some f (sym ((h (Some f)).0 k)))
  to (inr k) = absurd k.1
staged_is P (Some n) h value (Err f) = (to, (λ e. inl ((h (Some f)).1 (ap result_err e)))) where
  to : (P ▸▸ gives (λ given. given ≡ value)) (Err f) → ◌≡◌ {A = Result ℕ ℕ} (Err f) (Err n)
  to (inl k) = ap Err (same_Some f n ((h (Some f)).0 k))
  to (inr k) = absurd k.1

itself : (o : Option ℕ) → option_map (λ n. n) o ≡ o
itself None = refl
itself (Some n) = refl

-- what the bounds find
bounds_find : (bounds : List ℕ) (value : ℕ) (o : Option ℕ) → each (λ bound. bound_row bound value) bounds o ↔ (o ≡ first_passed bounds value)
bounds_find bounds value o =
    let Test : ℕ → Bool = λ bound. nat_lt bound value in
    let h = finds Test (λ n. n) bounds o in
    ((λ k. h.0 k ∙ itself (find Test bounds)), (λ e. h.1 (e ∙ sym (itself (find Test bounds)))))

pub stages_in_turn : StagesInTurn
stages_in_turn bounds value outcome = staged_is (each (λ bound. bound_row bound value) bounds) (first_passed bounds value) (bounds_find bounds value) value outcome

told_is : (P : Pass ℕ) (first : Option ℕ) → ((o : Option ℕ) → P o ↔ (o ≡ first)) → (value : ℕ) (told : Option ℕ) → IsFaultOrNoMemory (λ t. t) (refusals (P ▸▸ gives (λ given. given ≡ value))) told ↔ ((told ≡ None) ⊎ ((told ≡ first) × (first ≢ None)))
told_is P first h value None = ((λ k. inl refl), (λ k. tt))
told_is P first h value (Some f) = (to, from) where
  by_first : P (Some f) → (Some f ≡ None) ⊎ ((Some f ≡ first) × (first ≢ None))
  by_first k = inr ((h (Some f)).0 k, (λ e. none-some f (sym e ∙ sym ((h (Some f)).0 k))))

  to : (P ▸▸ gives (λ given. given ≡ value)) (Err f) → (Some f ≡ None) ⊎ ((Some f ≡ first) × (first ≢ None))
  to (inl k) = by_first k
  to (inr k) = absurd k.1

  from : (Some f ≡ None) ⊎ ((Some f ≡ first) × (first ≢ None)) → (P ▸▸ gives (λ given. given ≡ value)) (Err f)
  from (inl e) = absurd (none-some f (sym e))
  from (inr e) = inl ((h (Some f)).1 e.0)

pub results_tell : ResultsTell
results_tell bounds value (Ok given) = ((λ k. (k.1, sym ((bounds_find bounds value None).0 k.0))), (λ k. ((bounds_find bounds value None).1 (sym k.1), k.0)))
results_tell bounds value (Err told) = told_is (each (λ bound. bound_row bound value) bounds) (first_passed bounds value) (bounds_find bounds value) value told

-- a row's test is decided
decided : (b : Bool) → Dec (IsTrue b)
decided true = yes refl
decided false = no false≢true

pub tables_are_covered : TablesAreCovered
tables_are_covered rows = each_covered (λ (row : Row). rule (IsTrue row.test) row.fault) (λ row. rule_covered (IsTrue row.test) row.fault (decided row.test)) rows

table_one : (rows : List Row) → IsOne (rows_in_turn rows)
table_one rows = each_one {P = λ (row : Row). rule (IsTrue row.test) row.fault} (λ row. rule_one (IsTrue row.test) row.fault) rows

pub tables_are_exclusive : TablesAreExclusive
tables_are_exclusive rows = (table_one rows).exclusive

pub tables_have_one_fault : TablesHaveOneFault
tables_have_one_fault rows = (table_one rows).one

pub stages_end_alike : StagesEndAlike
stages_end_alike bounds value = staged_alike (λ outcome. outcome) bound_row bounds (λ v given. given ≡ v) value (λ bound. rule_one (IsTrue (nat_lt bound value)) bound) (λ x y h k. ap Ok (h ∙ sym k))
