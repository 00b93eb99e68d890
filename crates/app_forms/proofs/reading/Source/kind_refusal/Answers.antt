use Rattle.std.proofs.Common.{◌∙◌}
use Rattle.net_build.specs.Passes.{found, kind_view}
use Rattle.app_forms.proofs.Tells.{tells_build}
use Rattle.app_forms.proofs.reading.Source.kind_refusal.Goals as goal

-- the line tells the first fault of the passes
pub returns-in-Ok : goal.returns-in-Ok
returns-in-Ok c = tells_build c.args.self.name.now c.args.self.bytes.now _ (found c.args.at (kind_view c.args.kind.now)) c.deref.result.now c.fault.result
    (record { tokens = _; is_tokens = c.requires.tokens; spells = c.requires.spells }) c.requires.fault (c.deref.ensures.value ∙ c.in-Ok.ensures) c.fault.ensures
