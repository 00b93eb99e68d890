-- An accepted report is best in its bases, and so by the exchange subgame-perfect.
use Rattle.std.proofs.Common.{◌^◌, ℕ}
use Rattle.maid_model.specs.Accepted.{IsAccepted}
use Rattle.maid_model.specs.Answers.{answered, answer_at}
use Rattle.maid_model.specs.Graph.{IsGraph}
use Rattle.maid_model.specs.Profiles.{IsProfile}
use Rattle.maid_model.specs.Subgames.{IsOptimal, IsSubgamePerfect, OwnsAll}
use Rattle.maid_model.specs.Tables.{HasChanceTables}
use Rattle.maid_model.specs.Views.{DiagramView, SolvedView}
use Rattle.maid_laws.proofs.AnswerLaws.{choices_law, mass_in_base, profile, same_fraction}
use Rattle.maid_laws.proofs.ExchangeLaws.{exchange_law}
use Rattle.maid_laws.proofs.OneAgent.{one_agent_law}
use Rattle.tree_checker.specs.Laws.{AcceptedIsSound}

module _ (d : DiagramView) (solved : SolvedView) (g : IsGraph d.nodes) (c : HasChanceTables d.nodes) (a : IsAccepted d solved) where
  perfect : IsSubgamePerfect d.nodes (answered d solved)
  perfect =
      exchange_law d.nodes (answered d solved) g c
      (choices_law d solved g c a.fits a.order (λ v k. record { base = (a.rows v k).base; is_base = (a.rows v k).is_base; best = λ state row n l p. ((a.rows v k).each row l).best p state n }))

  optimal : (agent : ℕ) → OwnsAll d.nodes agent → IsOptimal d.nodes (answered d solved) agent
  optimal agent owns = one_agent_law d.nodes (answered d solved) agent g perfect owns

pub sound_law : AcceptedIsSound
sound_law d solved g c a =
    let hs : IsProfile d.nodes (answered d solved) = profile d solved g c a.fits in
    record {
      subgame_perfect = perfect d solved g c a;
      optimal = optimal d solved g c a;
      optimum = λ agent r l owns. record { alone = owns; best = answered d solved; optimal = optimal d solved g c a agent owns; worth = a.gains.each agent r l };
      worth = λ v row k live l reached.
          let at = a.rows v k in
          let w = (at.each row l).worth (mass_in_base d.nodes (answered d solved) at.base v g c hs k at.is_base row reached) in
          (w.0, w.1, same_fraction d.nodes (answered d solved) at.base v g c hs k at.is_base (answer_at solved v row).choice row (10 ^ d.decimals) w.0 live reached w.2);
    }
