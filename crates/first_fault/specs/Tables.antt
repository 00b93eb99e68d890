-- What the words come to where each row is a test: the pass finds what a search of the list finds.
use Rattle.std.specs.Prelude.{◌≡◌, ◌≢◌, ◌⊎◌, ◌↔◌, ◌&&◌, ℕ, Bool, List, [], ◌∷◌, ◌++◌, Option, None, Some, Result, Ok, Err, Contains, AllPairs, IsTrue, find, nat_lt}
use Rattle.std.specs.Option.{option_map}
use Rattle.first_fault.specs.Passes.{Pass, rule, always, only, each, each_after, over}
use Rattle.first_fault.specs.Outcomes.{Outcomes, staged}
use Rattle.first_fault.specs.Answers.{IsFaultOrNoMemory, Passes, ComesOf}
use Rattle.first_fault.specs.Properties.{IsCovered, IsExclusive, HasOneFault, EndsAlike}

-- a row: the fault where the test holds
pub record Row : Type 0 where
  pub test : Bool
  pub fault : ℕ

-- the rows in turn
abbrev pub rows_in_turn : List Row → Pass ℕ
rows_in_turn rows = each (λ row. rule (IsTrue row.test) row.fault) rows

-- the fault of the first row whose test holds, if there is one
abbrev pub first_fault : List Row → Option ℕ
first_fault rows = option_map (λ row. row.fault) (find (λ row. row.test) rows)

-- a table finds that and nothing else
abbrev pub FindsTheFirst : Type 0
FindsTheFirst =
    (rows : List Row) (outcome : Option ℕ) → rows_in_turn rows outcome ↔ (outcome ≡ first_fault rows)

-- a number that stands among those before it
abbrev pub repeats : List ℕ → Pass ℕ
repeats numbers = each_after (λ earlier n. rule (Contains earlier n) n) [] numbers

-- no repeat is found where all differ
abbrev pub FindsNoRepeat : Type 0
FindsNoRepeat = (numbers : List ℕ) → repeats numbers None ↔ AllPairs (λ n later. n ≢ later) numbers

-- the first number that stands among those before it
pub record IsFirstRepeat (numbers : List ℕ) (n : ℕ) : Type 0 where
  pub before : List ℕ
  pub after : List ℕ
  pub is : numbers ≡ before ++ n ∷ after
  pub differ : AllPairs (λ n later. n ≢ later) before
  pub repeated : Contains before n

-- a repeat is found exactly where it is the first
abbrev pub FindsTheRepeat : Type 0
FindsTheRepeat = (numbers : List ℕ) (n : ℕ) → repeats numbers (Some n) ↔ IsFirstRepeat numbers n

-- a row that counts where a test holds is a row of both tests
abbrev pub CountsWhere : Type 0
CountsWhere = (counts test : Bool) (fault : ℕ) (outcome : Option ℕ)
    → only counts (rule (IsTrue test) fault) outcome ↔ rule (IsTrue (counts && test)) fault outcome

-- a row over the one value is that row of the value
abbrev pub LooksAtTheValue : Type 0
LooksAtTheValue = (test : ℕ → Bool) (value : ℕ) (outcome : Option ℕ)
    → over (λ n. n ≡ value) (λ n. rule (IsTrue (test n)) n) outcome
    ↔ rule (IsTrue (test value)) value outcome

-- what is always found is found
abbrev pub FindsAlways : Type 0
FindsAlways = (fault : ℕ) (outcome : Option ℕ) → always fault outcome ↔ (outcome ≡ Some fault)

-- an error tells want of memory, or the first fault
abbrev pub TellsTheFirst : Type 0
TellsTheFirst = (rows : List Row) (told : Option ℕ)
    → IsFaultOrNoMemory (λ t. t) (rows_in_turn rows) told ↔ ((told ≡ None) ⊎ (told ≡ first_fault rows))

-- an answer tells that no test holds
abbrev pub AnswersWithoutFault : Type 0
AnswersWithoutFault = (rows : List Row) (answer : ℕ)
    → Passes (λ (t : Option ℕ). t) (rows_in_turn rows) (Ok answer) ↔ (first_fault rows ≡ None)

-- the refusal, or else the value
abbrev pub refusal_or_value : Option ℕ → ℕ → Result ℕ ℕ
refusal_or_value None value = Ok value
refusal_or_value (Some n) value = Err n

-- the bound, where the value is greater
abbrev pub bound_row : ℕ → ℕ → Pass ℕ
bound_row bound value = rule (IsTrue (nat_lt bound value)) bound

-- a bound in turn behind a bound, and then the value itself
abbrev pub bounded : List ℕ → ℕ → Outcomes ℕ ℕ
bounded bounds value = staged bound_row bounds (λ v given. given ≡ v) value

-- the first of the bounds that the value is greater than
abbrev pub first_passed : List ℕ → ℕ → Option ℕ
first_passed bounds value = find (λ bound. nat_lt bound value) bounds

-- the first bound that is passed comes of it, or else the value
abbrev pub StagesInTurn : Type 0
StagesInTurn = (bounds : List ℕ) (value : ℕ) (outcome : Result ℕ ℕ)
    → bounded bounds value outcome ↔ (outcome ≡ refusal_or_value (first_passed bounds value) value)

-- a result tells the value where no bound is passed, and else the first that is or want of memory
abbrev pub IsTold : List ℕ → ℕ → Result ℕ (Option ℕ) → Type 0
IsTold bounds value (Ok given) = (given ≡ value) × (first_passed bounds value ≡ None)
IsTold bounds value (Err told) =
    (told ≡ None) ⊎ ((told ≡ first_passed bounds value) × (first_passed bounds value ≢ None))

-- what comes of bounds in turn is what a result tells
abbrev pub ResultsTell : Type 0
ResultsTell = (bounds : List ℕ) (value : ℕ) (result : Result ℕ (Option ℕ))
    → ComesOf (λ told. told) (bounded bounds value) result ↔ IsTold bounds value result

-- a table finds nothing or a fault
abbrev pub TablesAreCovered : Type 0
TablesAreCovered = (rows : List Row) → IsCovered (rows_in_turn rows)

-- no table finds both nothing and a fault
abbrev pub TablesAreExclusive : Type 0
TablesAreExclusive = (rows : List Row) → IsExclusive (rows_in_turn rows)

-- a table finds one fault at most
abbrev pub TablesHaveOneFault : Type 0
TablesHaveOneFault = (rows : List Row) → HasOneFault (rows_in_turn rows)

-- only one thing comes of bounds in turn
abbrev pub StagesEndAlike : Type 0
StagesEndAlike =
    (bounds : List ℕ) (value : ℕ) → EndsAlike (λ outcome. outcome) (bounded bounds value)
