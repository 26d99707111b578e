use Rattle.std.proofs.Common.{ap, arith}
use Rattle.std.proofs.lemmas.Option.{slice_get-get_or}
use Rattle.vbi_side.specs.Beliefs.{field_weight}
use Rattle.vbi_seek.specs.Targets.{fits_in}
use Rattle.vbi_seek.proofs.Running.{sum_below_more}
use Rattle.vbi_seek.proofs.Seen.{nothing_shown}
use Rattle.vbi_seek.proofs.spots.weight_together.Goals as goal

pub loop-other-preserved : goal.loop-other-preserved
loop-other-preserved c =
    let test = fits_in c.args.kind c.args.field c.args.number in
    let other = c.loop-other.other in
    let seen = c.args.seen.now in
    let here = ap (field_weight (test other)) (slice_get-get_or seen other nothing_shown (omega arith)) in
    record {
      weight = omega (arith, sum_below_more test seen other, here);
      bound = omega arith;
    }
