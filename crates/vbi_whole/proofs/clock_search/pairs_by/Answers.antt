use Rattle.std.proofs.Common.{arith}
use Rattle.vbi_whole.proofs.Pairing.{none_yet}
use Rattle.vbi_whole.proofs.clock_search.pairs_by.Goals as goal

pub loop-field-init : goal.loop-field-init
loop-field-init c = record {
  last = λ j l less. absurd (omega (arith, less));
  value = none_yet c.args.clock c.args.rule c.args.numbers.now;
  explained = omega arith;
  opposed = omega arith;
}
