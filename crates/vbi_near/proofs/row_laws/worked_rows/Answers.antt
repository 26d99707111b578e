use Rattle.std.proofs.Common.{refl}
use Rattle.vbi_near.proofs.Common.{lowest_bits, drawn_halves, row_of_halves, halves_with, stretched_picture}
use Rattle.vbi_near.proofs.row_laws.worked_rows.Goals as goal

pub returns : goal.returns
unfolding lowest_bits drawn_halves row_of_halves halves_with stretched_picture
returns c = record {
  two_later = refl;
  one_later = refl;
  one_earlier = refl;
  two_earlier = refl;
  longest = refl;
  shortest = refl;
  lengths = (refl, refl);
}
