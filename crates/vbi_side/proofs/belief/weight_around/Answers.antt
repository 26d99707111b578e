use Rattle.std.proofs.Common.{sym, arith}
use Rattle.vbi_side.specs.Ahead.{fits_as}
use Rattle.vbi_side.proofs.Weights.{weight_below_zero}
use Rattle.vbi_side.proofs.belief.weight_around.Goals as goal

pub loop-offset-init : goal.loop-offset-init
loop-offset-init c = record {
  weight = sym (weight_below_zero (fits_as c.args.fit c.args.field c.args.number) c.args.fields.now c.args.field);
  bound = omega arith;
}
