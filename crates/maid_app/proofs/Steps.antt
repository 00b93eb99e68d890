-- The steps of a run: what they come to is what the words lead to.
use Rattle.std.proofs.Common.{◌≡◌, inl, inr, ℕ, List, Option, Some, Ok, Err, sym, subst, arith}
use Rattle.maid_io.specs.Device.{File}
use Rattle.app_forms.specs.Answers.{Answers}
use Rattle.app_forms.specs.Outcome.{written, refused}
use Rattle.app_forms.specs.Laws.{IsOfBytes}
use Rattle.app_forms.specs.Refusal.{status_of, line_of}
use Rattle.app_forms.specs.Request.{Request, file_name, IsOfFile}
use Rattle.maid_app.specs.Steps.{HasNoText, IsOfOutput, LeadsToText, LeadsToRefusal, RefusesAs}
use Rattle.maid_app.specs.Told.{limit_of, IsFileText, IsTextFor, IsUnread, KeepsLimit, KeepsFileLimits, LeadsTo, OfRequest, Refuses, Says, WritesText, IsAfterWriting, IsOfReading}
use Rattle.app_forms.specs.declared.output.Output.{Output}
use Rattle.app_forms.specs.declared.refusal.Refusal.{Refusal}
use Rattle.app_forms.specs.declared.status.Status.{Status}
use Rattle.app_forms.specs.declared.status.Status.TheVariants.{Done, Usage, Absent, ReadFault, TextTooLong, TextFault, Cycle, WeightBound, TooLarge, WriteFault, NoMemory, Rejected, UnknownAgent, NoPure, NotOneAgent, RoundsSpent, UnknownNode, UnknownState, BelowDecision, Impossible, UnknownRow, NoOthers}
use Rattle.maid_app.proofs.Ends.{of_bytes}
use Rattle.maid_app.proofs.Leading.{file_text}

-- a file whose bytes were read keeps its limit, whatever the run ends with
kept : (list : Option (List File)) (name : List ℕ) (limit given : ℕ) (bytes : List ℕ) (status : Status) → IsFileText list name limit given bytes → (status ≡ Absent → ⊥) → KeepsLimit limit status given
kept list name limit given bytes status is there = record {
  most = let e = is.counted in let f = is.fits in omega (arith, e, f);
  one_more = λ more. let e = is.counted in let f = is.fits in absurd (omega (arith, more, e, f));
  absent = λ e. absurd (there e);
}

module _ (list : Option (List File)) (asked own : Request) (given : ℕ) (leads : LeadsTo list asked own) where
  module _ (bytes : List ℕ) (is : IsTextFor list own given bytes) where
    pub kept_all : (status : Status) → (status ≡ Absent → ⊥) → KeepsFileLimits list (Some asked) status given
    kept_all status there = (own, leads, λ of. kept list (file_name own) (limit_of own) given bytes status (file_text list own given bytes of is) there)

    -- what is written for the request's bytes
    pub text_made : (output : Output) → Answers own bytes (Ok (written output.status output.text.items)) → IsAfterWriting output.status → LeadsToText list asked given output
    text_made output answers after = record {
      request = own;
      leads = leads;
      text = record { bytes = bytes; is_text = is; answers = answers };
      after = after;
      bounded = kept_all;
    }

    refuses : (status : Status) (told : List ℕ) → Answers own bytes (Err (refused status told)) → OfRequest list (Some asked) (λ request. Refuses list request given status told)
    refuses status told h = (own, leads, record { bytes = bytes; is_text = is; answers = h })

    refused_so : (status : Status) (told : List ℕ) → IsOfBytes status → Answers own bytes (Err (refused status told)) → Says list (Some asked) given status told
    refused_so Done told of h = absurd of
    refused_so Usage told of h = absurd of
    refused_so Absent told of h = absurd of
    refused_so ReadFault told of h = absurd of
    refused_so TextTooLong told of h = absurd of
    refused_so WriteFault told of h = absurd of
    refused_so NoMemory told of h = absurd of
    refused_so Rejected told of h = absurd of
    refused_so TextFault told of h = refuses TextFault told h
    refused_so Cycle told of h = refuses Cycle told h
    refused_so WeightBound told of h = refuses WeightBound told h
    refused_so TooLarge told of h = refuses TooLarge told h
    refused_so UnknownAgent told of h = refuses UnknownAgent told h
    refused_so NoPure told of h = refuses NoPure told h
    refused_so NotOneAgent told of h = refuses NotOneAgent told h
    refused_so RoundsSpent told of h = refuses RoundsSpent told h
    refused_so UnknownNode told of h = refuses UnknownNode told h
    refused_so UnknownState told of h = refuses UnknownState told h
    refused_so BelowDecision told of h = refuses BelowDecision told h
    refused_so Impossible told of h = refuses Impossible told h
    refused_so UnknownRow told of h = refuses UnknownRow told h
    refused_so NoOthers told of h = refuses NoOthers told h

    says_bytes : (status : Status) (told : List ℕ) → RefusesAs (Answers own bytes) status told → Says list (Some asked) given status told
    says_bytes status told (inl h) = subst (λ s. Says list (Some asked) given s told) (sym h.0) h.1
    says_bytes status told (inr h) = refused_so status told h.0 h.1

    not_read : (status : Status) (told : List ℕ) → RefusesAs (Answers own bytes) status told → IsOfOutput status × (IsOfReading status → ⊥)
    not_read status told (inl h) = subst (λ s. IsOfOutput s × (IsOfReading s → ⊥)) (sym h.0) (tt, λ reading. reading)
    not_read status told (inr h) = of_bytes status h.0

    -- and never with a status of reading
    pub not_reading : (refusal : Refusal) → RefusesAs (Answers own bytes) (status_of refusal) (line_of refusal) → IsOfReading (status_of refusal) → ⊥
    not_reading refusal h = (not_read (status_of refusal) (line_of refusal) h).1

    -- what refuses the request's bytes
    pub bytes_refused : (refusal : Refusal) → RefusesAs (Answers own bytes) (status_of refusal) (line_of refusal) → LeadsToRefusal list asked given refusal
    bytes_refused refusal h =
        let of = not_read (status_of refusal) (line_of refusal) h in
        record { says = says_bytes (status_of refusal) (line_of refusal) h; before = of.0; bounded = kept_all (status_of refusal) (λ e. of.1 (subst IsOfReading (sym e) tt)) }

  says_unread : (status : Status) (told : List ℕ) → HasNoText list own given status told → Says list (Some asked) given status told
  says_unread Absent told h = (own, leads, h)
  says_unread ReadFault told h = (own, leads, h)
  says_unread TextTooLong told h = (own, leads, h)
  says_unread NoMemory told h = h
  says_unread Done told h = absurd h.1
  says_unread Usage told h = absurd h.1
  says_unread WriteFault told h = absurd h.1
  says_unread Rejected told h = absurd h.1
  says_unread TextFault told h = absurd h.1
  says_unread Cycle told h = absurd h.1
  says_unread WeightBound told h = absurd h.1
  says_unread TooLarge told h = absurd h.1
  says_unread UnknownAgent told h = absurd h.1
  says_unread NoPure told h = absurd h.1
  says_unread NotOneAgent told h = absurd h.1
  says_unread RoundsSpent told h = absurd h.1
  says_unread UnknownNode told h = absurd h.1
  says_unread UnknownState told h = absurd h.1
  says_unread BelowDecision told h = absurd h.1
  says_unread Impossible told h = absurd h.1
  says_unread UnknownRow told h = absurd h.1
  says_unread NoOthers told h = absurd h.1

  of_unread : (status : Status) (told : List ℕ) → HasNoText list own given status told → IsOfOutput status
  of_unread Absent told h = tt
  of_unread ReadFault told h = tt
  of_unread TextTooLong told h = tt
  of_unread NoMemory told h = tt
  of_unread Done told h = absurd h.1
  of_unread Usage told h = absurd h.1
  of_unread WriteFault told h = absurd h.1
  of_unread Rejected told h = absurd h.1
  of_unread TextFault told h = absurd h.1
  of_unread Cycle told h = absurd h.1
  of_unread WeightBound told h = absurd h.1
  of_unread TooLarge told h = absurd h.1
  of_unread UnknownAgent told h = absurd h.1
  of_unread NoPure told h = absurd h.1
  of_unread NotOneAgent told h = absurd h.1
  of_unread RoundsSpent told h = absurd h.1
  of_unread UnknownNode told h = absurd h.1
  of_unread UnknownState told h = absurd h.1
  of_unread BelowDecision told h = absurd h.1
  of_unread Impossible told h = absurd h.1
  of_unread UnknownRow told h = absurd h.1
  of_unread NoOthers told h = absurd h.1

  -- what refuses the request before its bytes are had
  pub file_refused : (refusal : Refusal) → HasNoText list own given (status_of refusal) (line_of refusal) → (IsOfFile own → KeepsLimit (limit_of own) (status_of refusal) given) → LeadsToRefusal list asked given refusal
  file_refused refusal h keeps = record {
    says = says_unread (status_of refusal) (line_of refusal) h;
    before = of_unread (status_of refusal) (line_of refusal) h;
    bounded = (own, leads, keeps);
  }

-- a file's bytes were not had
pub no_text : (list : Option (List File)) (own : Request) (given : ℕ) (status : Status) (told : List ℕ) → IsOfFile own → IsUnread list (file_name own) (limit_of own) given status told → HasNoText list own given status told
no_text list own given Absent told of h = (of, h)
no_text list own given ReadFault told of h = (of, h)
no_text list own given TextTooLong told of h = (of, h)
no_text list own given NoMemory told of h = h
no_text list own given Done told of h = absurd h
no_text list own given Usage told of h = absurd h
no_text list own given WriteFault told of h = absurd h
no_text list own given Rejected told of h = absurd h
no_text list own given TextFault told of h = absurd h
no_text list own given Cycle told of h = absurd h
no_text list own given WeightBound told of h = absurd h
no_text list own given TooLarge told of h = absurd h
no_text list own given UnknownAgent told of h = absurd h
no_text list own given NoPure told of h = absurd h
no_text list own given NotOneAgent told of h = absurd h
no_text list own given RoundsSpent told of h = absurd h
no_text list own given UnknownNode told of h = absurd h
no_text list own given UnknownState told of h = absurd h
no_text list own given BelowDecision told of h = absurd h
no_text list own given Impossible told of h = absurd h
no_text list own given UnknownRow told of h = absurd h
no_text list own given NoOthers told of h = absurd h

-- The words ask for this.
module _ (list : Option (List File)) (requested : Option Request) (asked : Request) (given : ℕ) (asks : Some asked ≡ requested) where
  pub wrote : (A : List ℕ → Type 0) (output : Output) → LeadsToText list asked given output → A output.text.items → WritesText list requested given A output.status
  wrote A output is taken = subst (λ r. WritesText list r given A output.status) asks (is.request, is.leads, (output.text.items, is.text, taken))

  pub says : (refusal : Refusal) → LeadsToRefusal list asked given refusal → Says list requested given (status_of refusal) (line_of refusal)
  says refusal is = subst (λ r. Says list r given (status_of refusal) (line_of refusal)) asks is.says

  pub keeps : (status : Status) → KeepsFileLimits list (Some asked) status given → KeepsFileLimits list requested status given
  keeps status is = subst (λ r. KeepsFileLimits list r status given) asks is
