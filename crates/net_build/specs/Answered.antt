-- What a call's answer holds, as plain lists.
use Rattle.std.specs.Prelude.{◌≡◌, ℕ, List, Option, Result, IfOk, IfSome, IfNone}
use Rattle.std.specs.Global.{Vec}
use Rattle.maid_model.specs.Names.{list_of}

-- these texts of a vector
abbrev pub texts_in : Vec (Vec ℕ) → List (List ℕ)
texts_in texts = list_of texts.items

-- the answer, if there is one, is this list
abbrev pub AnswersList : {A E : Type 0} → Result (Vec A) E → List A → Type 0
AnswersList result list = IfOk result (λ answer. answer.items ≡ list)

-- the answer, if there is one, is this list of texts
abbrev pub AnswersTexts : {E : Type 0} → Result (Vec (Vec ℕ)) E → List (List ℕ) → Type 0
AnswersTexts result texts = IfOk result (λ answer. texts_in answer ≡ texts)

-- of what the answer found, if it found something
abbrev pub IfFound : {A E : Type 0} → Result (Option A) E → (A → Type 0) → Type 0
IfFound result is = IfOk result (λ answer. IfSome answer is)

-- of an answer that found nothing
abbrev pub IfNotFound : {A E : Type 0} → Result (Option A) E → Type 0 → Type 0
IfNotFound result is = IfOk result (λ answer. IfNone answer is)
