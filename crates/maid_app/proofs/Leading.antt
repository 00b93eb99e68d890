-- Where the words lead: to the request that they name, or behind the first file of a check to its
-- report.
use Rattle.std.proofs.Common.{◌≡◌, ◌<◌, ◌≤◌, inl, inr, ◌⊎◌, ℕ, List, length, Option, None, Some, IsSomeAnd, Ok, sym, subst, ap, ◌∙◌, arith}
use Rattle.maid_io.specs.Device.{File, file_of}
use Rattle.app_forms.specs.Answers.{Answers, FindsNothing}
use Rattle.app_forms.specs.Laws.{IsOfText}
use Rattle.app_forms.specs.Outcome.{Written, refused}
use Rattle.app_forms.specs.Request.{Request, solve, check, judge, graph, print, trim, pure, update, info, control, evidence, threshold, demo, file_name, IsOfFile}
use Rattle.maid_app.specs.Steps.{RequestLaws}
use Rattle.maid_app.specs.Told.{limit_of, IsFileText, IsTextFor, IsJudging, LeadsTo, OfRequest, IsTooLong, Refuses}
use Rattle.app_forms.specs.declared.status.Status.{Status}

-- the text of a request that names a file is the file's
pub file_text : (list : Option (List File)) (request : Request) (given : ℕ) (bytes : List ℕ) → IsOfFile request → IsTextFor list request given bytes
    → IsFileText list (file_name request) (limit_of request) given bytes
file_text list (solve file) given bytes of h = h
file_text list (check file report) given bytes of h = h
file_text list (judge text report) given bytes of h = h
file_text list (graph file) given bytes of h = h
file_text list (print file) given bytes of h = h
file_text list (trim file) given bytes of h = h
file_text list (evidence file node state) given bytes of h = h
file_text list (threshold file node row state) given bytes of h = h
file_text list (pure file) given bytes of h = h
file_text list (update file) given bytes of h = h
file_text list (info file agent) given bytes of h = h
file_text list (control file agent) given bytes of h = h
file_text list (demo k) given bytes of h = absurd of

-- Nothing is found in the first file of a check, which is told and keeps its limit.
pub record IsPassed (files : List File) (request : Request) : Type 0 where
  pub file : List ℕ
  pub report : List ℕ
  pub text : List ℕ
  pub is : request ≡ check file report
  pub there : file_of files (file_name request) ≡ Some text
  pub fits : length text ≤ limit_of request
  pub clear : FindsNothing request text

passed : (files : List File) (asked own request : Request) → IsJudging (Some files) asked own → request ≡ asked → IsPassed files request
passed files asked own request j e =
    let is : request ≡ check j.file j.report = e ∙ j.asks in
    record {
      file = j.file;
      report = j.report;
      text = j.text;
      is = is;
      there = subst (λ r. file_of files (file_name r) ≡ Some j.text) (sym is) j.there;
      fits = subst (λ r. length j.text ≤ limit_of r) (sym is) j.fits;
      clear = subst (λ r. FindsNothing r j.text) (sym is) j.clear;
    }

-- a check has one report and, where the files are told, one text
same_judged : (files : List File) (asked own request : Request) → IsJudging (Some files) asked own → IsJudging (Some files) asked request → own ≡ request
same_judged files asked own request j k =
    let e : check j.file j.report ≡ check k.file k.report = sym j.asks ∙ k.asks in
    let file : j.file ≡ k.file = cc in
    let report : j.report ≡ k.report = cc in
    let there : Some j.text ≡ Some k.text = sym j.there ∙ ap (file_of files) file ∙ k.there in
    let text : j.text ≡ k.text = cc in
    j.judges ∙ ap (λ t. judge t j.report) text ∙ ap (judge k.text) report ∙ sym k.judges

-- two requests to which the same words lead are one, or one of them is a check whose first file was
-- passed
meet : (files : List File) (asked own request : Request) → LeadsTo (Some files) asked own → LeadsTo (Some files) asked request → (own ≡ request) ⊎ (IsPassed files request ⊎ IsPassed files own)
meet files asked own request (inl e) (inl f) = inl (e ∙ sym f)
meet files asked own request (inr j) (inr k) = inl (same_judged files asked own request j k)
meet files asked own request (inr j) (inl f) = inr (inl (passed files asked own request j f))
meet files asked own request (inl e) (inr k) = inr (inr (passed files asked request own k e))

-- What holds of the run's own request holds of another to which the words lead, unless that is a
-- check that was passed; and of a check that was passed it does not hold.
pub of_request : (files : List File) (asked request : Request) (P : Request → Type 0) → LeadsTo (Some files) asked request → ((own : Request) → IsPassed files own → P own → ⊥)
    → OfRequest (Some files) (Some asked) P → P request ⊎ IsPassed files request
of_request files asked request P leads not_passed has = by (meet files asked has.0 request has.1 leads) where
  by : (has.0 ≡ request) ⊎ (IsPassed files request ⊎ IsPassed files has.0) → P request ⊎ IsPassed files request
  by (inl e) = inl (subst P e has.2)
  by (inr (inl p)) = inr p
  by (inr (inr p)) = absurd (not_passed has.0 p has.2)

-- a check names a file
of_file : (request : Request) (file report : List ℕ) → request ≡ check file report → IsOfFile request
of_file request file report e = subst IsOfFile (sym e) tt

module _ (files : List File) (request : Request) (p : IsPassed files request) where
  -- its bytes are those that the shelf tells
  same_text : (given : ℕ) (bytes : List ℕ) → IsTextFor (Some files) request given bytes → bytes ≡ p.text
  same_text given bytes is =
      let e = sym (file_text (Some files) request given bytes (of_file request p.file p.report p.is) is).told ∙ p.there in cc

  pub passed_not_absent : file_of files (file_name request) ≡ None → ⊥
  passed_not_absent absent = let e = sym p.there ∙ absent in absurd cc

  pub passed_not_too_long : (given : ℕ) → IsTooLong (Some files) (file_name request) (limit_of request) given → ⊥
  passed_not_too_long given long =
      let more : limit_of request < length p.text = subst (λ found. IsSomeAnd found (λ bytes. limit_of request < length bytes)) p.there long.told in omega (arith, more, p.fits)

  pub passed_not_refused : RequestLaws → (given : ℕ) (s : Status) (t : List ℕ) → Refuses (Some files) request given s t → ⊥
  passed_not_refused laws given s t h =
      laws.clear request h.bytes (refused s t) (subst (FindsNothing request) (sym (same_text given h.bytes h.is_text)) p.clear) h.answers

  pub passed_gives_nothing : RequestLaws → (bytes : List ℕ) (output : Written) → Answers request bytes (Ok output) → ⊥
  passed_gives_nothing laws bytes output h = subst (λ r. IsOfText r output.status) p.is (laws.written request bytes output h)
