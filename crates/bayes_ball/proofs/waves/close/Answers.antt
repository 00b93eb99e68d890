use Rattle.std.proofs.lemmas.Bool.{or_parts}
use Rattle.bayes_ball.specs.Flow.{Begin}
use Rattle.bayes_ball.proofs.Spreading.{closed_at_end, down_falls, falls_or, up_falls, waves_keep, waves_then}
use Rattle.bayes_ball.proofs.waves.close.Goals as goal

pub waves-init : goal.waves-init
waves-init c = record {
  kept = λ w v m. m;
  spreads = record {
    sound = λ w v m. Begin m;
    handed_down = λ p v m. absurd (c.empty-followed_down.ensures p m);
    handed_up = λ p v m. absurd (c.empty-followed_up.ensures v m);
  };
}

pub waves-preserved : goal.waves-preserved
waves-preserved c = record {
  kept = λ w v m. waves_keep _ _ _ _ _ _ _ _ _ _ _ _ c.go_down.ensures c.go_up.ensures w v (c.waves.invariant.kept w v m);
  spreads = waves_then _ _ _ _ _ _ _ _ _ _ _ _ c.go_down.ensures c.go_up.ensures _ c.waves.invariant.spreads;
}

pub waves-smaller : goal.waves-smaller
waves-smaller c = (falls_or _ _ _ _ _ _ (down_falls _ _ _ _ _ _ _ _ c.go_down.ensures) (up_falls _ _ _ _ _ _ _ _ c.go_up.ensures)).fewer c.waves-test.true

pub returns : goal.returns
returns c =
    let none = or_parts _ _ c.waves-test.false in
    record {
      kept = λ w v m. waves_keep _ _ _ _ _ _ _ _ _ _ _ _ c.go_down.ensures c.go_up.ensures w v (c.waves.invariant.kept w v m);
      sound = (waves_then _ _ _ _ _ _ _ _ _ _ _ _ c.go_down.ensures c.go_up.ensures _ c.waves.invariant.spreads).sound;
      closed = closed_at_end _ _ _ _ _ _ _ _ _ _ _ _ c.go_down.ensures c.go_up.ensures _ none.0 none.1 c.waves.invariant.spreads;
    }
