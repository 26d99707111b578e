use Rattle.std.proofs.Common.{refl, arith}
use Rattle.vbi_whole.specs.Gaps.{since_end}
use Rattle.vbi_whole.proofs.verdict.since_end.Goals as goal

pub loop-place-init : goal.loop-place-init
unfolding since_end
loop-place-init c = record { is = refl; few = omega arith }
