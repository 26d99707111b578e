use Rattle.std.proofs.Common.{arith, refl}
use Rattle.vbi_side.specs.Beliefs.{weight_below}
use Rattle.vbi_side.specs.WorkedChapters.{said_by_10, opposed_by_9}
use Rattle.vbi_side.proofs.KnownWeights.{alone}
use Rattle.vbi_side.proofs.chapter_laws.worked_misread.Goals as goal

pub returns : goal.returns
unfolding weight_below
returns c = record {
  nine = refl;
  right = alone opposed_by_9 4 7 10 9 refl refl refl (omega arith) (omega arith);
  ten = refl;
  wrong = alone said_by_10 0 7 10 0 refl refl refl (omega arith) (omega arith);
}
