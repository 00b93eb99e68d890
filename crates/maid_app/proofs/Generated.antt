-- How the end of a run on words that ask for a generated text follows from that text.
use Rattle.std.proofs.Common.{◌≡◌, inl, inr, ℕ, List, Option, Some, Ok, Err, refl, subst}
use Rattle.app_lines.specs.Demo.{demo_text}
use Rattle.maid_io.specs.Device.{File}
use Rattle.app_forms.specs.Answers.{Answers, FindsNothing}
use Rattle.app_forms.specs.Outcome.{Refused, written, refused}
use Rattle.app_forms.specs.Request.{Request, demo}
use Rattle.maid_app.specs.Steps.{RequestLaws}
use Rattle.maid_app.specs.Told.{OfRequest, HasNoBytes, HasText, WritesText, Refuses, Says, IsOfReading, IsOneOf}
use Rattle.app_forms.specs.declared.status.Status.{Status}
use Rattle.app_forms.specs.declared.status.Status.TheVariants.{Done, Usage, Absent, ReadFault, TextTooLong, TextFault, Cycle, WeightBound, TooLarge, WriteFault, NoMemory, Rejected, UnknownAgent, NoPure, NotOneAgent, RoundsSpent, UnknownNode, UnknownState, BelowDecision, Impossible, UnknownRow, NoOthers}
use Rattle.maid_app.proofs.Ends.{of_bytes, apart}

-- such words lead to no other request
own : (list : Option (List File)) (k : ℕ) (P : Request → Type 0) → OfRequest list (Some (demo k)) P → P (demo k)
own list k P (request, inl e, h) = subst P e h
own list k P (request, inr j, h) = let e = j.asks in absurd cc

-- why a run on generated text ended before its text was written
data Failed (k : ℕ) : Status → Type 0 where
  unwritten : Failed k WriteFault
  memory : Failed k NoMemory
  refused_so : (s : Status) (t : List ℕ) → Answers (demo k) (demo_text k) (Err (refused s t)) → Failed k s

module _ (list : Option (List File)) (k given : ℕ) where
  -- the request comes to what it comes to on that text
  refused_here : (s : Status) (t : List ℕ) → OfRequest list (Some (demo k)) (λ request. Refuses list request given s t) → Failed k s
  refused_here s t h =
      let is = own list k (λ request. Refuses list request given s t) h in
      refused_so s t (subst (λ b. Answers (demo k) b (Err (refused s t))) is.is_text is.answers)

  why : (s : Status) (t : List ℕ) → Says list (Some (demo k)) given s t → Failed k s
  why Usage t h = let e = h.0 in absurd cc
  why Absent t h = absurd (own list k (λ request. HasNoBytes list request given Absent t) h).0
  why ReadFault t h = absurd (own list k (λ request. HasNoBytes list request given ReadFault t) h).0
  why TextTooLong t h = absurd (own list k (λ request. HasNoBytes list request given TextTooLong t) h).0
  why WriteFault t h = unwritten
  why NoMemory t h = memory
  why Done t h = refused_here Done t h
  why TextFault t h = refused_here TextFault t h
  why Cycle t h = refused_here Cycle t h
  why WeightBound t h = refused_here WeightBound t h
  why TooLarge t h = refused_here TooLarge t h
  why Rejected t h = refused_here Rejected t h
  why UnknownAgent t h = refused_here UnknownAgent t h
  why NoPure t h = refused_here NoPure t h
  why NotOneAgent t h = refused_here NotOneAgent t h
  why RoundsSpent t h = refused_here RoundsSpent t h
  why UnknownNode t h = refused_here UnknownNode t h
  why UnknownState t h = refused_here UnknownState t h
  why BelowDecision t h = refused_here BelowDecision t h
  why Impossible t h = refused_here Impossible t h
  why UnknownRow t h = refused_here UnknownRow t h
  why NoOthers t h = refused_here NoOthers t h

-- A run on words that ask for a generated text.
module _ (list : Option (List File)) (requested : Option Request) (given : ℕ) (k : ℕ) (asks : requested ≡ Some (demo k)) where
  told_why : (s : Status) (t : List ℕ) → Says list requested given s t → Failed k s
  told_why s t says = why list k given s t (subst (λ r. Says list r given s t) asks says)

  -- the text that was taken is what comes of the generated text
  told_text : (A : List ℕ → Type 0) (status : Status) → WritesText list requested given A status → (printed : List ℕ) × Answers (demo k) (demo_text k) (Ok (written status printed))
  told_text A status text =
      let has = own list k (λ request. (printed : List ℕ) × HasText list request given status printed × A printed) (subst (λ r. WritesText list r given A status) asks text) in
      (has.0, subst (λ b. Answers (demo k) b (Ok (written status has.0))) has.1.is_text has.1.answers)

  -- it never ends with a status of reading
  pub own_not_reading : RequestLaws → (s : Status) (t : List ℕ) → Says list requested given s t → IsOfReading s → ⊥
  own_not_reading laws s t says = not_reading s (told_why s t says) where
    not_reading : (s : Status) → Failed k s → IsOfReading s → ⊥
    not_reading s unwritten h = h
    not_reading s memory h = h
    not_reading s (refused_so _ t is) h = (of_bytes s (laws.refused (demo k) (demo_text k) (refused s t) is)).1 h

  pub own_well : RequestLaws → (A : List ℕ → Type 0) (status : Status) → WritesText list requested given A status → IsOneOf status Done
  own_well laws A status text = let has = told_text A status text in inl (laws.written (demo k) (demo_text k) (written status has.0) has.1)

  pub own_not_written_reading : RequestLaws → (A : List ℕ → Type 0) (status : Status) → WritesText list requested given A status → IsOfReading status → ⊥
  own_not_written_reading laws A status text h = by (own_well laws A status text) where
    by : IsOneOf status Done → ⊥
    by (inl e) = subst IsOfReading e h
    by (inr e) = subst IsOfReading e h

  pub done_own_refused : RequestLaws → (A : List ℕ → Type 0) (status : Status) → WritesText list requested given A status → (refusal : Refused) → Answers (demo k) (demo_text k) (Err refusal) → ⊥
  done_own_refused laws A status text refusal is = let has = told_text A status text in apart laws (demo k) (demo_text k) (written status has.0) refusal has.1 is

  pub own_refused : RequestLaws → (s : Status) (t : List ℕ) (A : List ℕ → Type 0) → Says list requested given s t → (s ≡ WriteFault → (status : Status) × WritesText list requested given A status)
      → (refusal : Refused) → Answers (demo k) (demo_text k) (Err refusal) → IsOneOf s refusal.status
  own_refused laws s t A says part refusal is = by s (told_why s t says) part where
    by : (s : Status) → Failed k s → (s ≡ WriteFault → (status : Status) × WritesText list requested given A status) → IsOneOf s refusal.status
    by s unwritten part = let text = part refl in absurd (done_own_refused laws A text.0 text.1 refusal is)
    by s memory part = inr refl
    by s (refused_so _ t h) part = inl (laws.one (demo k) (demo_text k) (Err (refused s t)) (Err refusal) h is)

  pub own_done : RequestLaws → (s : Status) (t : List ℕ) → Says list requested given s t → (s ≡ WriteFault → ⊥) → FindsNothing (demo k) (demo_text k) → IsOneOf s Done
  own_done laws s t says no_write clear = by s (told_why s t says) no_write where
    by : (s : Status) → Failed k s → (s ≡ WriteFault → ⊥) → IsOneOf s Done
    by s unwritten no_write = absurd (no_write refl)
    by s memory no_write = inr refl
    by s (refused_so _ t h) no_write = absurd (laws.clear (demo k) (demo_text k) (refused s t) clear h)
