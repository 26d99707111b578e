use Rattle.std.proofs.Common.{◌+◌, ◌*◌, arith, refl, sym}
use Rattle.vbi_side.specs.Beliefs.{reach}
use Rattle.vbi_side.specs.Ahead.{fits_as}
use Rattle.vbi_side.proofs.Weights.{weight_below_zero, weight_below_more, weight_below-grows}
use Rattle.vbi_side.proofs.belief.reaches.Goals as goal

pub loop-offset-init : goal.loop-offset-init
loop-offset-init c = record {
  weight = sym (weight_below_zero (fits_as c.args.fit c.args.field c.args.number) c.args.fields.now c.args.field);
  bound = omega arith;
  short = omega (arith, c.requires.some);
}

pub returns-then-weight-wanted : goal.returns-then-weight-wanted
returns-then-weight-wanted c =
    let test = fits_as c.args.fit c.args.field c.args.number in
    let offset = c.loop-offset.offset in
    let more = weight_below_more test c.args.fields.now c.args.field offset in
    let grows = weight_below-grows test c.args.fields.now c.args.field (offset + 1) (2 * reach + 1)
    (omega (arith, c.loop-offset-test.true)) in (
      λ e. omega (
        arith,
        c.loop-offset.invariant.weight,
        c.weight_of_other-weight.ensures.value,
        more,
        grows,
        c.if-weight-wanted.true,
      ),
      λ e. refl,
    )

pub loop-offset-preserved : goal.loop-offset-preserved
loop-offset-preserved c =
    let more = weight_below_more (fits_as c.args.fit c.args.field c.args.number) c.args.fields.now c.args.field
    c.loop-offset.offset in
    record {
      weight = omega (arith, c.loop-offset.invariant.weight, c.weight_of_other-weight.ensures.value, more);
      bound = omega (arith, c.loop-offset.invariant.bound, c.weight_of_other-weight.ensures.range);
      short = omega (arith, c.if-weight-wanted.false);
    }
