-- How the parts of a pass make the whole of it. In a loop the rows that are still to come lead to
-- the whole pass: whatever they find, it finds.
use Rattle.std.proofs.Common.{◌≡◌, ℕ, ◌+◌, ◌<◌, ◌≤◌, Bool, true, false, cond, inl, inr, List, [], ◌∷◌, ◌++◌, length, get_or, take, drop, filter, Option, None, Some, Result, Ok, Err, sym, ◌∙◌, ap}
use Rattle.std.proofs.lemmas.List.{drop_more, take_more, append-nil, drop_all}
use Rattle.std.proofs.lemmas.List.Elements.{filter-append}
use Rattle.first_fault.specs.Passes.{Pass, clear, ◌▸◌, each_after}
use Rattle.first_fault.specs.Answers.{IsFoundIfAny, Passes}

-- what the rest finds, the whole pass finds
abbrev pub Leads : {Fault : Type 0} → Pass Fault → Pass Fault → Type 0
Leads {Fault = Fault} rest whole = (outcome : Option Fault) → rest outcome → whole outcome

pub leads_all : {Fault : Type 0} (P : Pass Fault) → Leads P P
leads_all P outcome h = h

-- the first row found nothing, so that those behind it lead on
pub leads_on : {Fault : Type 0} (P Q W : Pass Fault) → Leads (P ▸ Q) W → P None → Leads Q W
leads_on P Q W lead nothing None rest = lead None (nothing, rest)
leads_on P Q W lead nothing (Some f) rest = lead (Some f) (inr (nothing, rest))

-- no row is left
pub leads_end : {Fault : Type 0} (W : Pass Fault) → Leads clear W → W None
leads_end W lead = lead None tt

-- the whole pass refuses what the rows to come refuse
pub leads_refused : {Fault : Type 0} (P W : Pass Fault) (told : Option Fault) → Leads P W → IsFoundIfAny P told → IsFoundIfAny W told
leads_refused P W None lead h = tt
leads_refused P W (Some f) lead h = lead _ h

-- the first row refuses
pub refused_first : {Fault : Type 0} (P Q : Pass Fault) (told : Option Fault) → IsFoundIfAny P told → IsFoundIfAny (P ▸ Q) told
refused_first P Q None h = tt
refused_first P Q (Some f) h = inl h

-- the first row finds nothing, and those behind it refuse
pub refused_later : {Fault : Type 0} (P Q : Pass Fault) (told : Option Fault) → P None → IsFoundIfAny Q told → IsFoundIfAny (P ▸ Q) told
refused_later P Q None nothing h = tt
refused_later P Q (Some f) nothing h = inr (nothing, h)

-- the first row finds nothing, and those behind it give the answer
pub passes_on : {A E Fault : Type 0} (view : E → Option Fault) (P Q : Pass Fault) (result : Result A E) → P None → Passes view Q result → Passes view (P ▸ Q) result
passes_on view P Q (Ok x) nothing h = (nothing, h)
passes_on view P Q (Err fault) nothing h = refused_later P Q (view fault) nothing h

-- what the items from place i on find, those before having found nothing
abbrev pub AfterPass : {X Fault : Type 0} → (List X → X → Pass Fault) → (X → Bool) → List X → ℕ → Pass Fault
AfterPass P p xs i = each_after P (filter p (take i xs)) (filter p (drop i xs))

-- the list from place i on begins with the item there
pub drop_item : {X : Type 0} (xs : List X) (i : ℕ) (x : X) → i < length xs → x ≡ get_or xs i x → drop i xs ≡ x ∷ drop (i + 1) xs
drop_item xs i x h is = drop_more xs i x h ∙ ap (λ y. y ∷ drop (i + 1) xs) (sym is)

-- and the list up to behind it ends with it
pub take_item : {X : Type 0} (xs : List X) (i : ℕ) (x : X) → i < length xs → x ≡ get_or xs i x → take (i + 1) xs ≡ take i xs ++ x ∷ []
take_item xs i x h is = take_more xs i x h ∙ ap (λ y. take i xs ++ y ∷ []) (sym is)

-- an item that the filter keeps stands first in the rest, and last in the front
pub filter_rest_yes : {X : Type 0} (p : X → Bool) (xs : List X) (i : ℕ) (x : X) → i < length xs → x ≡ get_or xs i x → p x ≡ true → filter p (drop i xs) ≡ x ∷ filter p (drop (i + 1) xs)
filter_rest_yes p xs i x h is kept = ap (filter p) (drop_item xs i x h is) ∙ ap (λ b. cond b (x ∷ filter p (drop (i + 1) xs)) (filter p (drop (i + 1) xs))) kept

pub filter_front_yes : {X : Type 0} (p : X → Bool) (xs : List X) (i : ℕ) (x : X) → i < length xs → x ≡ get_or xs i x → p x ≡ true → filter p (take (i + 1) xs) ≡ filter p (take i xs) ++ x ∷ []
filter_front_yes p xs i x h is kept = ap (filter p) (take_item xs i x h is) ∙ filter-append p (take i xs) (x ∷ []) ∙ ap (λ b. filter p (take i xs) ++ cond b (x ∷ []) []) kept

-- an item that the filter leaves out changes neither
pub filter_rest_no : {X : Type 0} (p : X → Bool) (xs : List X) (i : ℕ) (x : X) → i < length xs → x ≡ get_or xs i x → p x ≡ false → filter p (drop i xs) ≡ filter p (drop (i + 1) xs)
filter_rest_no p xs i x h is left = ap (filter p) (drop_item xs i x h is) ∙ ap (λ b. cond b (x ∷ filter p (drop (i + 1) xs)) (filter p (drop (i + 1) xs))) left

pub filter_front_no : {X : Type 0} (p : X → Bool) (xs : List X) (i : ℕ) (x : X) → i < length xs → x ≡ get_or xs i x → p x ≡ false → filter p (take (i + 1) xs) ≡ filter p (take i xs)
filter_front_no p xs i x h is left = ap (filter p) (take_item xs i x h is) ∙ filter-append p (take i xs) (x ∷ []) ∙ ap (λ b. filter p (take i xs) ++ cond b (x ∷ []) []) left ∙ append-nil (filter p (take i xs))

module _ {X Fault : Type 0} (P : List X → X → Pass Fault) (p : X → Bool) (xs : List X) (W : Pass Fault) where
  -- an item that is left out
  pub after_skip : (i : ℕ) (x : X) → i < length xs → x ≡ get_or xs i x → p x ≡ false → Leads (AfterPass P p xs i) W → Leads (AfterPass P p xs (i + 1)) W
  after_skip i x h is left lead = rw (filter_front_no p xs i x h is left, ← filter_rest_no p xs i x h is left) lead

  -- an item whose rows find nothing
  pub after_step : (i : ℕ) (x : X) → i < length xs → x ≡ get_or xs i x → p x ≡ true → Leads (AfterPass P p xs i) W → P (filter p (take i xs)) x None → Leads (AfterPass P p xs (i + 1)) W
  after_step i x h is kept lead nothing = rw (filter_front_yes p xs i x h is kept) (leads_on (P (filter p (take i xs)) x) (each_after P (filter p (take i xs) ++ x ∷ []) (filter p (drop (i + 1) xs))) W (rw (filter_rest_yes p xs i x h is kept) at lead) nothing)

  -- an item whose rows find a fault
  pub after_refused : (i : ℕ) (x : X) (told : Option Fault) → i < length xs → x ≡ get_or xs i x → p x ≡ true → Leads (AfterPass P p xs i) W → IsFoundIfAny (P (filter p (take i xs)) x) told → IsFoundIfAny W told
  after_refused i x told h is kept lead here = leads_refused (P (filter p (take i xs)) x ▸ each_after P (filter p (take i xs) ++ x ∷ []) (filter p (drop (i + 1) xs))) W told (rw (filter_rest_yes p xs i x h is kept) at lead) (refused_first (P (filter p (take i xs)) x) (each_after P (filter p (take i xs) ++ x ∷ []) (filter p (drop (i + 1) xs))) told here)

  -- no item is left
  pub after_end : (i : ℕ) → length xs ≤ i → Leads (AfterPass P p xs i) W → W None
  after_end i h lead = leads_end W (λ outcome nothing. lead outcome (rw (drop_all i xs h) nothing))
