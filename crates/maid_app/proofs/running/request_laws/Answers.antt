use Rattle.maid_app.proofs.running.request_laws.Goals as goal

pub returns : goal.returns
returns c = record {
  one = c.one_status.ensures.one;
  clear = c.one_status.ensures.clear;
  refused = c.outcomes_have_their_statuses.ensures.refused;
  written = c.outcomes_have_their_statuses.ensures.written;
  answered = c.answered_diagrams_are_clear.ensures;
}
