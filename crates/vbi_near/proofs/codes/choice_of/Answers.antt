use Rattle.std.proofs.Common.{get_or, refl}
use Rattle.vbi_near.proofs.codes.choice_of.Goals as goal

pub loop-value-preserved : goal.loop-value-preserved
loop-value-preserved c =
    c.with_value-choice.ensures (λ v. get_or c.args.costs.now v 0) c.args.from refl c.loop-value.invariant
