use Rattle.std.proofs.Common.{inl, refl, subst, Ok}
use Rattle.app_forms.specs.Answers.{Answers}
use Rattle.app_forms.specs.Form.{text_request}
use Rattle.app_forms.specs.Outcome.{done_with}
use Rattle.app_forms.specs.Refusal.{status_of, line_of}
use Rattle.maid_app.specs.Steps.{RefusesAs}
use Rattle.maid_app.proofs.HandedOn.{err_handed}
use Rattle.maid_app.proofs.Steps.{text_made, bytes_refused, file_refused}
use Rattle.maid_app.proofs.running.text_output.Goals as goal

-- the bytes are not had
pub returns-in_err-bytes-clause-err : goal.returns-in_err-bytes-clause-err
returns-in_err-bytes-clause-err g c =
    let own = text_request c.args.form in
    let refusal = c.in_err-bytes.field-0.0 in
    err_handed c.from_residual.result refusal _ c.from_residual.ensures
    (file_refused (g.H.Shelf.list c.args.shelf.now) own own (g.H.Shelf.given c.bytes_for.new.shelf) (inl refl) refusal c.in_err-bytes.ensures.err c.in_err-bytes.ensures.bounded)

-- a stage refuses the bytes
pub returns-in_err-text-clause-err : goal.returns-in_err-text-clause-err
returns-in_err-text-clause-err g c =
    let own = text_request c.args.form in
    let list = g.H.Shelf.list c.args.shelf.now in
    let given = g.H.Shelf.given c.bytes_for.new.shelf in
    let refusal = c.in_err-text.field-0.0 in
    err_handed c.from_residual-in_err-text.result refusal _ c.from_residual-in_err-text.ensures
    (bytes_refused list own own given (inl refl) c.in_ok-bytes.bytes.items c.in_ok-bytes.ensures.ok refusal (subst (λ b. RefusesAs (Answers own b) (status_of refusal) (line_of refusal)) c.deref.ensures.value c.in_err-text.ensures.err))

-- or the text is written
pub returns-clause-ok : goal.returns-clause-ok
returns-clause-ok g c =
    let own = text_request c.args.form in
    let list = g.H.Shelf.list c.args.shelf.now in
    let given = g.H.Shelf.given c.bytes_for.new.shelf in
    text_made list own own given (inl refl) c.in_ok-bytes.bytes.items c.in_ok-bytes.ensures.ok _ (subst (λ b. Answers own b (Ok (done_with c.in_ok-text.text.items))) c.deref.ensures.value c.in_ok-text.ensures.ok) tt
