use Rattle.std.proofs.Common.{◌∙◌, ap, arith, sym}
use Rattle.vbi_seek.specs.Spots.{three_quarters}
use Rattle.vbi_seek.proofs.Steps.{left_first, left_more, quarters_of_a_million}
use Rattle.vbi_seek.proofs.number_search.steps_of.Goals as goal

pub loop-steps-init : goal.loop-steps-init
loop-steps-init c = record { is = sym (left_first three_quarters c.args.count); fewer = omega arith }

pub loop-steps-preserved : goal.loop-steps-preserved
loop-steps-preserved c = record {
  is = ap three_quarters c.loop-steps.invariant.is
      ∙ sym (left_more three_quarters c.args.count c.loop-steps.steps);
  fewer = omega arith;
}

pub returns-clause-enough : goal.returns-clause-enough
returns-clause-enough c = λ few. quarters_of_a_million c.args.count few
