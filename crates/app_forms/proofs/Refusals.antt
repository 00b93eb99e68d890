-- A refusal tells what was wanted, or that memory ran out.
use Rattle.std.proofs.Common.{◌≡◌, ℕ, List, [], ◌∷◌, ◌++◌, inl, inr, IfOk, IfErr, Vec, Global, Option, None, Some, Result, Ok, Err, MatchResult, refl, sym, subst}
use Rattle.std.proofs.lemmas.Result.{err_from_is_err_and}
use Rattle.std.specs.Result.{IsErr, IsErrAnd}
use Rattle.first_fault.specs.Answers.{IsFoundIfAny}
use Rattle.first_fault.specs.Outcomes.{refusals as refusals_of}
use Rattle.first_fault.specs.Passes.{Pass, always, each}
use Rattle.app_forms.specs.Diagrams.{IsDiagramOf, NamedDiagram}
use Rattle.app_forms.specs.Outcome.{Refused, refused, done_with}
use Rattle.app_forms.specs.Reading.{TellsLine, TellsTextFault, TellsFor, TellsFound, TellsOf, comes_for, found_by}
use Rattle.app_forms.specs.Refusal.{refused_as}
use Rattle.app_forms.specs.Stages.{Stage, Finds, text_fault}
use Rattle.app_forms.specs.Tasks.{Task, text_task, comes_of}
use Rattle.app_forms.specs.declared.refusal.Refusal.{Refusal}
use Rattle.app_forms.specs.declared.refusal.Refusal.TheVariants as refusals
use Rattle.app_forms.specs.declared.status.Status.{Status}
use Rattle.maid_model.specs.Names.{NamesView}
use Rattle.maid_model.specs.Views.{DiagramView}

-- what one pass finds, another does
pub found_too : {Fault : Type 0} (P Q : Pass Fault) → ((f : Fault) → P (Some f) → Q (Some f)) → (told : Option Fault) → IsFoundIfAny P told → IsFoundIfAny Q told
found_too P Q f None h = tt
found_too P Q f (Some x) h = f x h

-- a pass that finds the wanted refusal finds what is told
pub tells_found : (P : Pass Refused) (status : Status) (line : List ℕ) (refusal : Refusal) → P (Some (refused status line)) → TellsLine status line refusal → IsFoundIfAny P (refused_as refusal)
tells_found P status line refusal is tells = found_too (always (refused status line)) P (λ f h. subst (λ r. P (Some r)) (sym h.1) is) (refused_as refusal) tells

-- what is found with a line is told, if there is memory for the line
pub told_gives : {E : Type 0} (P : Pass Refused) (status : Status) (wanted : List ℕ) (line : Result (Vec ℕ Global) E) (refusal : Refusal) → ((told : List ℕ) → told ≡ wanted → P (Some (refused status told)))
    → IfOk line (λ t. t.items ≡ wanted) → MatchResult line (λ t. TellsLine status t.items refusal) (λ _. refusal ≡ refusals.NoMemory) → IsFoundIfAny P (refused_as refusal)
told_gives P status wanted (Ok t) refusal found is h = tells_found P status t.items refusal (found t.items is) h
told_gives P status wanted (Err e) refusal found is h = subst (λ r. IsFoundIfAny P (refused_as r)) (sym h) tt

pub if_ok_then : {A E : Type 0} (r : Result A E) (P Q : A → Type 0) → ((x : A) → P x → Q x) → IfOk r P → IfOk r Q
if_ok_then (Ok x) P Q f h = f x h
if_ok_then (Err e) P Q f h = tt

pub if_err_then : {A E : Type 0} (r : Result A E) (P Q : E → Type 0) → ((e : E) → P e → Q e) → IfErr r P → IfErr r Q
if_err_then (Ok x) P Q f h = tt
if_err_then (Err e) P Q f h = f e h

-- the refusal that a `?` hands on is as it was
pub err_handed : {A E : Type 0} (r : Result A E) (fault : E) (P : E → Type 0) → IsErr r × IsErrAnd r (λ y. y ≡ fault) → P fault → IfErr r P
err_handed r fault P is h = let p = err_from_is_err_and r is.1 in rw (p.1, p.2) h

-- a task that looks for the text's fault first refuses with it
pub text_refused : (task : Task) (stages : List Stage) (name bytes : List ℕ) (refusal : Refusal) → task.stages ≡ text_fault ∷ stages
    → TellsTextFault name bytes refusal → TellsOf (comes_of task name bytes) refusal
unfolding comes_of
text_refused task stages name bytes refusal e h =
    found_too (Finds text_fault (name, bytes)) (refusals_of (comes_of task name bytes)) (λ f found. inl (subst (λ list. each (λ s. Finds s (name, bytes)) list (Some f)) (sym e) (inl found))) (refused_as refusal) h

-- what a later stage finds counts where those before it find nothing
found_behind : (name bytes : List ℕ) (front back : List Stage) (f : Refused) → each (λ s. Finds s (name, bytes)) front None → each (λ s. Finds s (name, bytes)) back (Some f)
    → each (λ s. Finds s (name, bytes)) (front ++ back) (Some f)
found_behind name bytes [] back f clear found = found
found_behind name bytes (s ∷ front) back f clear found = inr (clear.0, found_behind name bytes front back f clear.1 found)

-- and what an earlier one finds counts in any case
found_before : (name bytes : List ℕ) (front back : List Stage) (f : Refused) → each (λ s. Finds s (name, bytes)) front (Some f) → each (λ s. Finds s (name, bytes)) (front ++ back) (Some f)
found_before name bytes [] back f found = absurd found
found_before name bytes (s ∷ front) back f (inl found) = inl found
found_before name bytes (s ∷ front) back f (inr found) = inr (found.0, found_before name bytes front back f found.1)

module _ (d : DiagramView) (names : NamesView) where
  pub before : (front back : List Stage) (refusal : Refusal) → TellsFound d names front refusal → TellsFound d names (front ++ back) refusal
  before front back refusal h =
      found_too (found_by d names front) (found_by d names (front ++ back)) (λ f found name bytes is. found_before name bytes front back f (found name bytes is)) (refused_as refusal) h

  pub behind : (front back : List Stage) (refusal : Refusal) → found_by d names front None → TellsFound d names back refusal → TellsFound d names (front ++ back) refusal
  behind front back refusal clear h =
      found_too (found_by d names back) (found_by d names (front ++ back)) (λ f found name bytes is. found_behind name bytes front back f (clear name bytes is) (found name bytes is)) (refused_as refusal) h

  -- what the stages behind the text's fault find in a diagram, a task refuses it with
  pub stages_refuse : (task : Task) (stages : List Stage) (refusal : Refusal) → task.stages ≡ text_fault ∷ stages → TellsFound d names stages refusal → TellsFor task d names refusal
  unfolding comes_of
  stages_refuse task stages refusal e h =
      let x : NamedDiagram = record { d = d; names = names } in
      found_too (found_by d names stages) (refusals_of (comes_for task d names)) (λ f found name bytes is. inl (subst (λ list. each (λ s. Finds s (name, bytes)) list (Some f)) (sym e) (inr ((x, is), found name bytes is)))) (refused_as refusal) h

  -- and where they find nothing, it gives its text
  pub stages_give : (stages : List Stage) (IsTextOf : DiagramView → NamesView → List ℕ → Type 0) (printed : List ℕ) → found_by d names stages None → IsTextOf d names printed
      → comes_for (text_task (text_fault ∷ stages) IsTextOf) d names (Ok (done_with printed))
  unfolding comes_of
  stages_give stages IsTextOf printed clear text name bytes is = let x : NamedDiagram = record { d = d; names = names } in (((x, is), clear name bytes is), (refl, (x, is, text)))

  -- as it does where there are none
  pub text_given : (IsTextOf : DiagramView → NamesView → List ℕ → Type 0) (printed : List ℕ) → IsTextOf d names printed → comes_for (text_task (text_fault ∷ []) IsTextOf) d names (Ok (done_with printed))
  text_given IsTextOf printed text = stages_give [] IsTextOf printed (λ name bytes is. tt) text

  -- what comes of any file of the diagram, comes of this one
  pub refused_here : (task : Task) (name bytes : List ℕ) (refusal : Refusal) → IsDiagramOf bytes d names → TellsFor task d names refusal → TellsOf (comes_of task name bytes) refusal
  refused_here task name bytes refusal is h = found_too (refusals_of (comes_for task d names)) (refusals_of (comes_of task name bytes)) (λ f found. found name bytes is) (refused_as refusal) h
