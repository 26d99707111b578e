use Rattle.std.proofs.Common.{refl}
use Rattle.vbi_near.proofs.Common.{lowest_bits, drawn_halves, picture_of, most_of, row_distance, distance_of}
use Rattle.vbi_near.proofs.Common.{begun_earlier, ended_later}
use Rattle.vbi_near.proofs.laws.worked_near.Goals as goal

pub returns : goal.returns
unfolding lowest_bits drawn_halves picture_of most_of row_distance distance_of begun_earlier ended_later
returns c = record {
  last_start = refl;
  first_start = refl;
  begun_earlier = refl;
  ended_later = refl;
  none = refl;
  starts = (refl, refl);
  apart = (refl, refl);
  most = refl;
  samples = refl;
  distance = refl;
  erased = refl;
  at_most = refl;
}
