use Rattle.std.proofs.Common.{refl}
use Rattle.vbi_near.specs.LevelledLines.{swing_of, levelled_sample, levelled_each, smoothed, smoothed_after}
use Rattle.vbi_near.proofs.levelled_laws.worked_waves.Goals as goal

pub returns : goal.returns
unfolding swing_of levelled_sample levelled_each smoothed smoothed_after
returns c = record {
  swing = refl;
  pal_swing = refl;
  each = refl;
  levelled = refl;
  pal_levelled = refl;
  climbing = refl;
}
