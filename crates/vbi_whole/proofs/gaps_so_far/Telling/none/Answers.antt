use Rattle.std.proofs.Common.{[], refl, arith}
use Rattle.vbi_whole.specs.Tallies.{last_still, stills_of}
use Rattle.vbi_whole.proofs.Telling.{none_written}
use Rattle.vbi_whole.proofs.gaps_so_far.Telling.none.Goals as goal

pub returns : goal.returns
unfolding last_still stills_of
returns c = λ rule old. record {
  settled = [];
  goes_on = λ more. refl;
  told = record { comes_to = grind (arith, c.default.ensures); written = none_written old };
}
