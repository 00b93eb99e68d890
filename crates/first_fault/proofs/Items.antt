-- How a loop tries each item in turn: what the items still to come find, the whole pass finds.
use Rattle.std.proofs.Common.{◌≡◌, ℕ, zero, suc, ◌+◌, ◌<◌, ◌≤◌, inl, inr, List, [], ◌∷◌, length, get_or, drop, All, Option, None, Some, sym, ◌∙◌, subst, arith}
use Rattle.std.specs.List.{range_with_len}
use Rattle.std.proofs.lemmas.List.{drop_all, get_or_default}
use Rattle.std.proofs.lemmas.List.Elements.{All-cons}
use Rattle.std.proofs.lemmas.List.FromFn.{length-range_with_len, get_or-range_with_len}
use Rattle.first_fault.specs.Passes.{Pass, ◌▸◌, each}
use Rattle.first_fault.specs.Answers.{IsFoundIfAny}
use Rattle.first_fault.specs.Properties.{IsExclusive}
use Rattle.first_fault.proofs.Leading.{Leads, leads_on, leads_end, leads_refused, refused_first, drop_item}

-- what the items from place i on find
abbrev pub EachFrom : {X Fault : Type 0} → (X → Pass Fault) → List X → ℕ → Pass Fault
EachFrom P xs i = each P (drop i xs)

-- an item whose rows find nothing
pub each_step : {X Fault : Type 0} (P : X → Pass Fault) (xs : List X) (W : Pass Fault) (i : ℕ) (x : X) → i < length xs → x ≡ get_or xs i x → Leads (EachFrom P xs i) W → P x None → Leads (EachFrom P xs (i + 1)) W
each_step P xs W i x h is lead nothing = leads_on (P x) (each P (drop (i + 1) xs)) W (rw (drop_item xs i x h is) at lead) nothing

-- an item whose rows find a fault
pub each_refused : {X Fault : Type 0} (P : X → Pass Fault) (xs : List X) (W : Pass Fault) (i : ℕ) (x : X) (told : Option Fault) → i < length xs → x ≡ get_or xs i x → Leads (EachFrom P xs i) W → IsFoundIfAny (P x) told → IsFoundIfAny W told
each_refused P xs W i x told h is lead here = leads_refused (P x ▸ each P (drop (i + 1) xs)) W told (rw (drop_item xs i x h is) at lead) (refused_first (P x) (each P (drop (i + 1) xs)) told here)

-- no item is left
pub each_end : {X Fault : Type 0} (P : X → Pass Fault) (xs : List X) (W : Pass Fault) (i : ℕ) → length xs ≤ i → Leads (EachFrom P xs i) W → W None
each_end P xs W i h lead = leads_end W (λ outcome nothing. lead outcome (rw (drop_all i xs h) nothing))

-- where each item finds nothing, none does
pub each_none : {X Fault : Type 0} (P : X → Pass Fault) (Q : X → Type 0) → ((x : X) → P x None → Q x) → (xs : List X) → each P xs None → All Q xs
each_none P Q f [] h = λ k d within. absurd (omega arith)
each_none P Q f (x ∷ xs) h = All-cons Q x xs (f x h.0) (each_none P Q f xs h.1)

-- two outcomes of one row are not both found
each_apart : {X Fault : Type 0} (P : X → Pass Fault) → ((x : X) → IsExclusive (P x)) → (xs : List X) → IsExclusive (each P xs)
each_apart P clash [] f nothing h = h
each_apart P clash (x ∷ xs) f nothing (inl here) = clash x f nothing.0 here
each_apart P clash (x ∷ xs) f nothing (inr later) = each_apart P clash xs f nothing.1 later.1

-- so that only want of memory refuses where nothing is found
pub each_refuses_none : {X Fault : Type 0} (P : X → Pass Fault) (W : Pass Fault) → ((x : X) → IsExclusive (P x)) → (xs : List X) (told : Option Fault) → each P xs None → IsFoundIfAny (each P xs) told → IsFoundIfAny W told
each_refuses_none P W clash xs None nothing h = tt
each_refuses_none P W clash xs (Some f) nothing h = absurd (each_apart P clash xs f nothing h)

-- the same at a place, whatever stands for an item that isn't there
pub each_step_at : {X Fault : Type 0} (P : X → Pass Fault) (xs : List X) (W : Pass Fault) (i : ℕ) (x : X) → i < length xs → Leads (EachFrom P xs i) W → P (get_or xs i x) None → Leads (EachFrom P xs (i + 1)) W
each_step_at P xs W i x h lead nothing = each_step P xs W i (get_or xs i x) h (get_or_default xs i x (get_or xs i x) h) lead nothing

pub each_refused_at : {X Fault : Type 0} (P : X → Pass Fault) (xs : List X) (W : Pass Fault) (i : ℕ) (x : X) (told : Option Fault) → i < length xs → Leads (EachFrom P xs i) W → IsFoundIfAny (P (get_or xs i x)) told → IsFoundIfAny W told
each_refused_at P xs W i x told h lead here = each_refused P xs W i (get_or xs i x) told h (get_or_default xs i x (get_or xs i x) h) lead here

-- no item finds anything
pub each_all : {X Fault : Type 0} (P : X → Pass Fault) (xs : List X) (d : X) → ((k : ℕ) → k < length xs → P (get_or xs k d) None) → each P xs None
each_all P [] d h = tt
each_all P (x ∷ xs) d h = (h 0 (omega arith), each_all P xs d (λ k within. h (suc k) (omega arith)))

-- the item at a place is the first that finds something
pub each_first : {X Fault : Type 0} (P : X → Pass Fault) (xs : List X) (d : X) (i : ℕ) (f : Fault) → i < length xs → ((k : ℕ) → k < i → P (get_or xs k d) None) → P (get_or xs i d) (Some f) → each P xs (Some f)
each_first P [] d i f within before here = absurd (omega arith)
each_first P (x ∷ xs) d zero f within before here = inl here
each_first P (x ∷ xs) d (suc i) f within before here = inr (before 0 (omega arith), each_first P xs d i f (omega arith) (λ k h. before (suc k) (omega arith)) here)

-- Things tried by their numbers below n.
module _ {Fault : Type 0} (R : ℕ → Pass Fault) (n : ℕ) (W : Pass Fault) (v : ℕ) (lead : Leads (EachFrom R (range_with_len 0 n) v) W) where
  within : v < n → v < length (range_with_len 0 n)
  within h = omega (arith, h, length-range_with_len 0 n)

  here : v < n → get_or (range_with_len 0 n) v 0 ≡ v
  here h = get_or-range_with_len 0 n v 0 h ∙ plain v where
    plain : (k : ℕ) → 0 + k ≡ k
    plain k = omega arith

  pub number_step : v < n → R v None → Leads (EachFrom R (range_with_len 0 n) (v + 1)) W
  number_step h nothing = each_step_at R (range_with_len 0 n) W v 0 (within h) lead (subst (λ k. R k None) (sym (here h)) nothing)

  pub number_refused : (told : Option Fault) → v < n → IsFoundIfAny (R v) told → IsFoundIfAny W told
  number_refused told h refuses = each_refused_at R (range_with_len 0 n) W v 0 told (within h) lead (subst (λ k. IsFoundIfAny (R k) told) (sym (here h)) refuses)

  pub number_end : n ≤ v → W None
  number_end h = each_end R (range_with_len 0 n) W v (omega (arith, h, length-range_with_len 0 n)) lead
