-- Counts that stop at a limit.
use Rattle.std.proofs.Common.{◌≡◌, ◌⊎◌, inl, inr, ℕ, zero, suc, ◌+◌, ◌*◌, ◌<◌, ◌≤◌, min, Bool, true, false, cond, List, [], ◌∷◌, ◌++◌, map, filter, None, refl, ap, sym, subst, ◌∙◌, arith}
use Rattle.std.proofs.lemmas.Bool.{cases_lt}
use Rattle.std.proofs.lemmas.List.{map-append}
use Rattle.std.proofs.lemmas.List.Elements.{filter-append}
use Rattle.std.proofs.lemmas.List.Sums.{sum_by-append}
use Rattle.std.proofs.Math.Nat.{mul-le-mul_left}
use Rattle.std.specs.List.{range_with_len, sum}
use Rattle.maid_model.specs.declared.diagrams.Kind.TheVariants.{Decision}
use Rattle.maid_model.specs.Nodes.{is_decision}
use Rattle.net_build.specs.declared.faults.BuildFault.{BuildFault}
use Rattle.net_build.specs.declared.nodes.Head.{Head}
use Rattle.net_build.specs.Linking.{cells_row, rules_row, size_rows_over, rules_before}
use Rattle.first_fault.specs.Passes.{only}
use Rattle.first_fault.specs.Answers.{IsFaultOrNoMemory}
use Rattle.net_build.specs.Passes.{build_fault}
use Rattle.net_build.specs.Stages.{head_at, cells_of_head_over, cells_of_head}
use Rattle.first_fault.proofs.Leading.{refused_later}
use Rattle.net_build.proofs.LinkLemmas.{range_more}

-- a count that stopped at the limit, times a number, stops as the count would
pub capped : (limit a r : ℕ) → min (min a limit * r) limit ≡ min (a * r) limit
capped limit a zero = omega arith
capped limit a (suc r) = by_order (cases_lt limit a) where
  by_order : (limit < a) ⊎ (a ≤ limit) → min (min a limit * suc r) limit ≡ min (a * suc r) limit
  by_order (inr low) = ap (λ m. min (m * suc r) limit) (let e : min a limit ≡ a = omega arith in e)
  by_order (inl high) = let e : min a limit ≡ limit = omega arith in let big : limit * 1 ≤ limit * suc r = mul-le-mul_left limit (omega arith) in let bigger : a * 1 ≤ a * suc r = mul-le-mul_left a (omega arith) in rw e (omega arith)

-- one factor more
pub counted_on : (limit rows states rest whole new : ℕ) → new ≡ min (rows * states) limit → min (rows * (states * rest)) limit ≡ whole → min (new * rest) limit ≡ whole
counted_on limit rows states rest whole new is so = ap (λ n. min (n * rest) limit) is ∙ capped limit (rows * states) rest ∙ ap (λ n. min n limit) (let e : rows * states * rest ≡ rows * (states * rest) = omega arith in e) ∙ so

pub sum_append : (xs ys : List ℕ) → sum (xs ++ ys) ≡ sum xs + sum ys
sum_append xs ys = sum_by-append (λ x. x) xs ys

-- a decision whose rules are too many, and one whose rules are not
pub size_refused : (heads : List Head) (parents : List ℕ) (v rules cells : ℕ) (head : Head) (fault : BuildFault) → cells ≡ cells_of_head_over heads parents v → cells_row heads parents v None → head ≡ head_at heads v → head.kind ≡ Decision → IsFaultOrNoMemory build_fault (rules_row head (rules + cells)) fault → IsFaultOrNoMemory build_fault (size_rows_over heads parents v rules) fault
size_refused heads parents v rules cells head fault is nothing same kind h =
    refused_later (cells_row heads parents v) (only (is_decision (head_at heads v).kind) (rules_row (head_at heads v) (rules + cells_of_head_over heads parents v))) (build_fault fault) nothing
    (subst (λ (b : Bool). IsFaultOrNoMemory build_fault (only b (rules_row (head_at heads v) (rules + cells_of_head_over heads parents v))) fault) (sym (ap (λ (x : Head). is_decision x.kind) (sym same) ∙ ap is_decision kind))
    (subst (λ (x : Head). IsFaultOrNoMemory build_fault (rules_row x (rules + cells_of_head_over heads parents v)) fault) same
    (subst (λ (n : ℕ). IsFaultOrNoMemory build_fault (rules_row head (rules + n)) fault) is h)))

pub size_kept : (heads : List Head) (parents : List ℕ) (v rules cells : ℕ) (head : Head) → cells ≡ cells_of_head_over heads parents v → cells_row heads parents v None → head ≡ head_at heads v → head.kind ≡ Decision → rules_row head (rules + cells) None → size_rows_over heads parents v rules None
size_kept heads parents v rules cells head is nothing same kind h = (
  nothing,
  subst (λ (b : Bool). only b (rules_row (head_at heads v) (rules + cells_of_head_over heads parents v)) None) (sym (ap (λ (x : Head). is_decision x.kind) (sym same) ∙ ap is_decision kind))
      (subst (λ (x : Head). rules_row x (rules + cells_of_head_over heads parents v) None) same
      (subst (λ (n : ℕ). rules_row head (rules + n) None) is h)),
)

-- the cells of the rules, one node on
pub rules_more : (heads : List Head) (parents : List (List ℕ)) (n : ℕ) → rules_before heads parents (n + 1) ≡ rules_before heads parents n + cond (is_decision (head_at heads n).kind) (cells_of_head heads parents n) 0
rules_more heads parents n = ap (λ vs. sum (map (cells_of_head heads parents) (filter (λ v. is_decision (head_at heads v).kind) vs))) (range_more 0 n n (omega arith))
    ∙ ap (λ vs. sum (map (cells_of_head heads parents) vs)) (filter-append (λ v. is_decision (head_at heads v).kind) (range_with_len 0 n) (n ∷ []))
    ∙ ap sum (map-append (cells_of_head heads parents) (filter (λ v. is_decision (head_at heads v).kind) (range_with_len 0 n)) (filter (λ v. is_decision (head_at heads v).kind) (n ∷ [])))
    ∙ sum_append (map (cells_of_head heads parents) (filter (λ v. is_decision (head_at heads v).kind) (range_with_len 0 n))) (map (cells_of_head heads parents) (filter (λ v. is_decision (head_at heads v).kind) (n ∷ [])))
    ∙ ap (λ m. rules_before heads parents n + m) (last (is_decision (head_at heads n).kind)) where
      last : (b : Bool) → sum (map (cells_of_head heads parents) (cond b (n ∷ []) [])) ≡ cond b (cells_of_head heads parents n) 0
      last true = omega arith
      last false = refl
