use Rattle.std.proofs.Common.{refl}
use Rattle.vbi_near.specs.LevelledLines.{levelled_sample, smoothed, smoothed_after}
use Rattle.vbi_near.proofs.levelled_laws.worked_samples.Goals as goal

pub returns : goal.returns
unfolding levelled_sample smoothed smoothed_after
returns c = record {
  mean = refl;
  white = refl;
  black = refl;
  above = refl;
  below = refl;
  most = refl;
  least = refl;
  smoothed = refl;
  smoothed_alone = refl;
  filled = refl;
}
