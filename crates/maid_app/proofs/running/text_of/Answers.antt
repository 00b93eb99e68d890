use Rattle.app_forms.specs.Form.{text_request}
use Rattle.maid_app.proofs.Ends.{refuses_if_err}
use Rattle.maid_app.proofs.running.text_of.Goals as goal

-- what the stages find has a status of bytes
pub returns-clause-err : goal.returns-clause-err
returns-clause-err c = refuses_if_err c.request_laws.ensures (text_request c.args.form) c.args.bytes.now c.text.result c.text.ensures.err
