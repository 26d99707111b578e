use Rattle.std.proofs.Common.{refl, arith, ◌∙◌}
use Rattle.vbi_whole.specs.AsideNumbers.{row_weight}
use Rattle.vbi_whole.proofs.SetAside.{weight_more, counts_alike}
use Rattle.vbi_whole.proofs.aside_numbers.row_weight.Goals as goal

pub loop-field-init : goal.loop-field-init
unfolding row_weight
loop-field-init c = record { is = refl; few = omega arith }

pub loop-field-preserved : goal.loop-field-preserved
loop-field-preserved c =
    record {
      is = c.counted-weight.ensures.value
          ∙ counts_alike _ _ _ _ c.has_of_row.ensures c.loop-field.invariant.is
          ∙ weight_more c.args.rule c.args.numbers.now c.args.here c.loop-field.field c.loop-field-test.true;
      few = omega arith;
    }
