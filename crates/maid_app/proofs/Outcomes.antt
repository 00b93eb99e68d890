-- How the end of a run follows from what it read.
use Rattle.std.proofs.Common.{◌≡◌, ◌<◌, ◌≤◌, inl, inr, ◌⊎◌, ℕ, List, length, Option, None, Some, IsSomeAnd, Ok, Err, refl, sym, subst, ap, ◌∙◌, arith}
use Rattle.maid_io.specs.Device.{File, file_of}
use Rattle.app_forms.specs.Answers.{Answers, FindsNothing}
use Rattle.app_forms.specs.Outcome.{Written, Refused, written, refused}
use Rattle.app_forms.specs.Request.{Request, solve, check, judge, graph, print, trim, pure, update, info, control, evidence, threshold, demo, file_name}
use Rattle.app_forms.specs.declared.status.Status.{Status}
use Rattle.app_forms.specs.declared.status.Status.TheVariants.{Done, Usage, Absent, ReadFault, TextTooLong, TextFault, Cycle, WeightBound, TooLarge, WriteFault, NoMemory, Rejected, UnknownAgent, NoPure, NotOneAgent, RoundsSpent, UnknownNode, UnknownState, BelowDecision, Impossible, UnknownRow, NoOthers}
use Rattle.maid_app.specs.Steps.{RequestLaws}
use Rattle.maid_app.specs.Told.{limit_of, IsTextFor, LeadsTo, IsTooLong, HasNoBytes, HasText, WritesText, Refuses, Says, HasFile, LacksFile, IsOneOf, EndsWell}
use Rattle.maid_app.proofs.Ends.{apart, gives_well}
use Rattle.maid_app.proofs.Leading.{IsPassed, file_text, of_request, passed_not_absent, passed_not_too_long, passed_not_refused, passed_gives_nothing}

-- want of memory ends a run well
memory_ends : (request : Request) → EndsWell request NoMemory
memory_ends (solve file) = inr refl
memory_ends (check file report) = tt
memory_ends (judge text report) = inl (inr refl)
memory_ends (graph file) = inr refl
memory_ends (print file) = inr refl
memory_ends (trim file) = inr refl
memory_ends (evidence file node state) = inr refl
memory_ends (threshold file node row state) = inr refl
memory_ends (pure file) = inr refl
memory_ends (update file) = inr refl
memory_ends (info file agent) = inr refl
memory_ends (control file agent) = inr refl
memory_ends (demo k) = inr refl

passed_ends : (files : List File) (request : Request) (s : Status) → IsPassed files request → EndsWell request s
passed_ends files request s p = subst (λ r. EndsWell r s) (sym p.is) tt

-- why a run over a told file ended before its text was written
data Failed (files : List File) (request : Request) (given : ℕ) : Status → Type 0 where
  absent : file_of files (file_name request) ≡ None → Failed files request given Absent
  unread : Failed files request given ReadFault
  longer : IsTooLong (Some files) (file_name request) (limit_of request) given → Failed files request given TextTooLong
  unwritten : Failed files request given WriteFault
  memory : Failed files request given NoMemory
  refused_so : (s : Status) (t : List ℕ) → Refuses (Some files) request given s t → Failed files request given s

-- the text that a run over a told file wrote
abbrev Wrote : List File → Request → ℕ → Status → Type 0
Wrote files request given status = (printed : List ℕ) × HasText (Some files) request given status printed

module _ (laws : RequestLaws) (files : List File) (asked request : Request) (leads : LeadsTo (Some files) asked request) (given : ℕ) where
  here_or_passed : {P Q : Type 0} → (P → Q) → P ⊎ IsPassed files request → Q ⊎ IsPassed files request
  here_or_passed f (inl h) = inl (f h)
  here_or_passed f (inr p) = inr p

  refused_here : (s : Status) (t : List ℕ) → (own : Request) × LeadsTo (Some files) asked own × Refuses (Some files) own given s t → Failed files request given s ⊎ IsPassed files request
  refused_here s t h =
      here_or_passed (refused_so s t)
      (of_request files asked request (λ own. Refuses (Some files) own given s t) leads (λ own p k. passed_not_refused files own p laws given s t k) h)

  -- what the run says, of the request to which the words lead
  why : (s : Status) (t : List ℕ) → Says (Some files) (Some asked) given s t → Failed files request given s ⊎ IsPassed files request
  why Usage t h = let e = h.0 in absurd cc
  why Absent t h =
      here_or_passed (λ k. absent k.1.0) (of_request files asked request (λ own. HasNoBytes (Some files) own given Absent t) leads (λ own p k. passed_not_absent files own p k.1.0) h)
  why ReadFault t h = inl unread
  why TextTooLong t h =
      here_or_passed (λ k. longer k.1.0) (of_request files asked request (λ own. HasNoBytes (Some files) own given TextTooLong t) leads (λ own p k. passed_not_too_long files own p given k.1.0) h)
  why WriteFault t h = inl unwritten
  why NoMemory t h = inl memory
  why Done t h = refused_here Done t h
  why TextFault t h = refused_here TextFault t h
  why Cycle t h = refused_here Cycle t h
  why WeightBound t h = refused_here WeightBound t h
  why TooLarge t h = refused_here TooLarge t h
  why Rejected t h = refused_here Rejected t h
  why UnknownAgent t h = refused_here UnknownAgent t h
  why NoPure t h = refused_here NoPure t h
  why NotOneAgent t h = refused_here NotOneAgent t h
  why RoundsSpent t h = refused_here RoundsSpent t h
  why UnknownNode t h = refused_here UnknownNode t h
  why UnknownState t h = refused_here UnknownState t h
  why BelowDecision t h = refused_here BelowDecision t h
  why Impossible t h = refused_here Impossible t h
  why UnknownRow t h = refused_here UnknownRow t h
  why NoOthers t h = refused_here NoOthers t h

  -- what it wrote, of that request
  wrote : (A : List ℕ → Type 0) (status : Status) → WritesText (Some files) (Some asked) given A status → Wrote files request given status ⊎ IsPassed files request
  wrote A status h =
      here_or_passed (λ k. (k.0, k.1))
      (of_request files asked request (λ own. (printed : List ℕ) × HasText (Some files) own given status printed × A printed) leads (λ own p k. passed_gives_nothing files own p laws k.1.bytes (written status k.0) k.1.answers) h)

-- A run over a shelf that tells its list.
module _ (laws : RequestLaws) (list : Option (List File)) (requested : Option Request) (given : ℕ) where
  module _ (asked request : Request) (files : List File) (asks : requested ≡ Some asked) (leads : LeadsTo list asked request) (told : list ≡ Some files) where
    told_leads : LeadsTo (Some files) asked request
    told_leads = subst (λ l. LeadsTo l asked request) told leads

    told_why : (s : Status) (t : List ℕ) → Says list requested given s t → Failed files request given s ⊎ IsPassed files request
    told_why s t says = why laws files asked request told_leads given s t (subst (λ l. Says l (Some asked) given s t) told (subst (λ r. Says list r given s t) asks says))

    told_text : (A : List ℕ → Type 0) (status : Status) → WritesText list requested given A status → Wrote files request given status ⊎ IsPassed files request
    told_text A status h = wrote laws files asked request told_leads given A status (subst (λ l. WritesText l (Some asked) given A status) told (subst (λ r. WritesText list r given A status) asks h))

  -- A file that the shelf lacks.
  module _ (lacks : LacksFile list requested) where
    no_text : (bytes : List ℕ) → IsTextFor (Some lacks.files) lacks.request given bytes → ⊥
    no_text bytes is = let e = sym (file_text (Some lacks.files) lacks.request given bytes lacks.of_file is).told ∙ lacks.absent in absurd cc

    not_wrote : (status : Status) → Wrote lacks.files lacks.request given status ⊎ IsPassed lacks.files lacks.request → ⊥
    not_wrote status (inl h) = no_text h.1.bytes h.1.is_text
    not_wrote status (inr p) = passed_not_absent lacks.files lacks.request p lacks.absent

    pub done_not_absent : (A : List ℕ → Type 0) (status : Status) → WritesText list requested given A status → ⊥
    done_not_absent A status h = not_wrote status (told_text lacks.asked lacks.request lacks.files lacks.asks lacks.leads lacks.told A status h)

    pub only_absent : (s : Status) (t : List ℕ) (A : List ℕ → Type 0) → Says list requested given s t → (s ≡ ReadFault → ⊥)
        → (s ≡ WriteFault → (status : Status) × WritesText list requested given A status) → IsOneOf s Absent
    only_absent s t A says no_read part = by s (told_why lacks.asked lacks.request lacks.files lacks.asks lacks.leads lacks.told s t says) no_read part where
      by : (s : Status) → Failed lacks.files lacks.request given s ⊎ IsPassed lacks.files lacks.request → (s ≡ ReadFault → ⊥) → (s ≡ WriteFault → (status : Status) × WritesText list requested given A status) → IsOneOf s Absent
      by s (inr p) no_read part = absurd (passed_not_absent lacks.files lacks.request p lacks.absent)
      by s (inl (absent h)) no_read part = inl refl
      by s (inl unread) no_read part = absurd (no_read refl)
      by s (inl (longer h)) no_read part = absurd (subst (λ found. IsSomeAnd found (λ bytes. limit_of lacks.request < length bytes)) lacks.absent h.told)
      by s (inl unwritten) no_read part = let has = part refl in absurd (done_not_absent A has.0 has.1)
      by s (inl memory) no_read part = inr refl
      by s (inl (refused_so _ t h)) no_read part = absurd (no_text h.bytes h.is_text)

  -- A file that the shelf has.
  module _ (request : Request) (bytes : List ℕ) (has : HasFile list requested request bytes) where
    -- the bytes read are the file's
    same : (read : List ℕ) → IsTextFor (Some has.files) request given read → read ≡ bytes
    same read is = let e = sym (file_text (Some has.files) request given read has.of_file is).told ∙ has.there in cc

    fits_read : (read : List ℕ) → IsTextFor (Some has.files) request given read → length bytes ≤ limit_of request
    fits_read read is = let e = ap length (same read is) in let fits = (file_text (Some has.files) request given read has.of_file is).fits in omega (arith, e, fits)

    passed_same : (p : IsPassed has.files request) → p.text ≡ bytes
    passed_same p = let e = sym p.there ∙ has.there in cc

    here : (s : Status) (t : List ℕ) → Says list requested given s t → Failed has.files request given s ⊎ IsPassed has.files request
    here s t says = told_why has.asked request has.files has.asks has.leads has.told s t says

    text_here : (A : List ℕ → Type 0) (status : Status) → WritesText list requested given A status → Wrote has.files request given status ⊎ IsPassed has.files request
    text_here A status h = told_text has.asked request has.files has.asks has.leads has.told A status h

    module _ (long : limit_of request < length bytes) where
      passed_not_long : IsPassed has.files request → ⊥
      passed_not_long p = let e = ap length (passed_same p) in omega (arith, e, p.fits, long)

      wrote_not_long : (status : Status) → Wrote has.files request given status ⊎ IsPassed has.files request → ⊥
      wrote_not_long status (inl h) = let fits = fits_read h.1.bytes h.1.is_text in omega (arith, fits, long)
      wrote_not_long status (inr p) = passed_not_long p

      pub done_not_too_long : (A : List ℕ → Type 0) (status : Status) → WritesText list requested given A status → ⊥
      done_not_too_long A status h = wrote_not_long status (text_here A status h)

      pub only_too_long : (s : Status) (t : List ℕ) (A : List ℕ → Type 0) → Says list requested given s t → (s ≡ ReadFault → ⊥)
          → (s ≡ WriteFault → (status : Status) × WritesText list requested given A status) → IsOneOf s TextTooLong
      only_too_long s t A says no_read part = by s (here s t says) no_read part where
        by : (s : Status) → Failed has.files request given s ⊎ IsPassed has.files request → (s ≡ ReadFault → ⊥) → (s ≡ WriteFault → (status : Status) × WritesText list requested given A status) → IsOneOf s TextTooLong
        by s (inr p) no_read part = absurd (passed_not_long p)
        by s (inl (absent h)) no_read part = let e = sym has.there ∙ h in absurd cc
        by s (inl unread) no_read part = absurd (no_read refl)
        by s (inl (longer h)) no_read part = inl refl
        by s (inl unwritten) no_read part = let text = part refl in absurd (done_not_too_long A text.0 text.1)
        by s (inl memory) no_read part = inr refl
        by s (inl (refused_so _ t h)) no_read part = let fits = fits_read h.bytes h.is_text in absurd (omega (arith, fits, long))

    -- what is written for bytes, it is for the file's
    at_bytes : (status : Status) (text : Wrote has.files request given status) → Answers request bytes (Ok (written status text.0))
    at_bytes status text = subst (λ b. Answers request b (Ok (written status text.0))) (same text.1.bytes text.1.is_text) text.1.answers

    module _ (fits : length bytes ≤ limit_of request) where
      -- an end of bytes within the limit, but for causes of reading and writing: what their refusal
      -- comes to
      by_bytes : (Goal : Status → Type 0) (s : Status) (t : List ℕ) → Says list requested given s t → (IsPassed has.files request → Goal s) → ((t : List ℕ) → Answers request bytes (Err (refused s t)) → Goal s)
          → Goal NoMemory → (s ≡ ReadFault → ⊥) → (s ≡ WriteFault → Goal WriteFault) → Goal s
      by_bytes Goal s t says passed of memory_too no_read no_write = by s (here s t says) passed of no_read no_write where
        by : (s : Status) → Failed has.files request given s ⊎ IsPassed has.files request → (IsPassed has.files request → Goal s) → ((t : List ℕ) → Answers request bytes (Err (refused s t)) → Goal s)
            → (s ≡ ReadFault → ⊥) → (s ≡ WriteFault → Goal WriteFault) → Goal s
        by s (inr p) passed of no_read no_write = passed p
        by s (inl (absent h)) passed of no_read no_write = let e = sym has.there ∙ h in absurd cc
        by s (inl unread) passed of no_read no_write = absurd (no_read refl)
        by s (inl (longer h)) passed of no_read no_write =
            let long : limit_of request < length bytes = subst (λ found. IsSomeAnd found (λ read. limit_of request < length read)) has.there h.told in absurd (omega (arith, long, fits))
        by s (inl unwritten) passed of no_read no_write = no_write refl
        by s (inl memory) passed of no_read no_write = memory_too
        by s (inl (refused_so _ t h)) passed of no_read no_write = of t (subst (λ b. Answers request b (Err (refused s t))) (same h.bytes h.is_text) h.answers)

      pub only_refused : (s : Status) (t : List ℕ) (A : List ℕ → Type 0) → Says list requested given s t → (s ≡ ReadFault → ⊥)
          → (s ≡ WriteFault → (status : Status) × WritesText list requested given A status) → (refusal : Refused) → Answers request bytes (Err refusal) → IsOneOf s refusal.status
      only_refused s t A says no_read part refusal is =
          by_bytes (λ s. IsOneOf s refusal.status) s t says passed (λ t h. inl (laws.one request bytes (Err (refused s t)) (Err refusal) h is)) (inr refl) no_read (λ e. absurd (unwritten_not (part e))) where
            passed : IsPassed has.files request → IsOneOf s refusal.status
            passed p = absurd (laws.clear request bytes refusal (subst (FindsNothing request) (passed_same p) p.clear) is)

            by_text : (status : Status) → Wrote has.files request given status ⊎ IsPassed has.files request → ⊥
            by_text status (inl text) = apart laws request bytes (written status text.0) refusal (at_bytes status text) is
            by_text status (inr p) = laws.clear request bytes refusal (subst (FindsNothing request) (passed_same p) p.clear) is

            unwritten_not : (status : Status) × WritesText list requested given A status → ⊥
            unwritten_not text = by_text text.0 (text_here A text.0 text.1)

      pub only_done : (s : Status) (t : List ℕ) → Says list requested given s t → (s ≡ ReadFault → ⊥) → (s ≡ WriteFault → ⊥) → FindsNothing request bytes → EndsWell request s
      only_done s t says no_read no_write clear =
          by_bytes (EndsWell request) s t says (passed_ends has.files request s) (λ t h. absurd (laws.clear request bytes (refused s t) clear h)) (memory_ends request) no_read (λ e. absurd (no_write e))

      pub only_written : (s : Status) (t : List ℕ) → Says list requested given s t → (s ≡ ReadFault → ⊥) → (s ≡ WriteFault → ⊥)
          → (output : Written) → Answers request bytes (Ok output) → IsOneOf s output.status
      only_written s t says no_read no_write output is =
          by_bytes (λ s. IsOneOf s output.status) s t says (λ p. absurd (passed_gives_nothing has.files request p laws bytes output is))
          (λ t h. absurd (apart laws request bytes output (refused s t) is h)) (inr refl) no_read (λ e. absurd (no_write e))

    -- A run that ended well.
    module _ (A : List ℕ → Type 0) (status : Status) (h : WritesText list requested given A status) where
      pub done_refused : (refusal : Refused) → Answers request bytes (Err refusal) → ⊥
      done_refused refusal is = by (text_here A status h) where
        by : Wrote has.files request given status ⊎ IsPassed has.files request → ⊥
        by (inl text) = apart laws request bytes (written status text.0) refusal (at_bytes status text) is
        by (inr p) = laws.clear request bytes refusal (subst (FindsNothing request) (passed_same p) p.clear) is

      pub done_well : EndsWell request status
      done_well = by (text_here A status h) where
        by : Wrote has.files request given status ⊎ IsPassed has.files request → EndsWell request status
        by (inl text) = gives_well laws request bytes (written status text.0) (at_bytes status text)
        by (inr p) = passed_ends has.files request status p

      pub done_written : (output : Written) → Answers request bytes (Ok output) → IsOneOf status output.status
      done_written output is = by (text_here A status h) where
        by : Wrote has.files request given status ⊎ IsPassed has.files request → IsOneOf status output.status
        by (inl text) = inl (laws.one request bytes (Ok (written status text.0)) (Ok output) (at_bytes status text) is)
        by (inr p) = absurd (passed_gives_nothing has.files request p laws bytes output is)
