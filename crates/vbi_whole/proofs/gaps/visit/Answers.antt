use Rattle.std.proofs.Common.{◌≡◌, suc, ◌+◌, refl, subst, arith}
use Rattle.vbi_whole.specs.Tallies.{IsTelling, stage_of}
use Rattle.vbi_whole.proofs.Telling.{told_free}
use Rattle.vbi_whole.proofs.gaps.visit.Goals as goal
use Rattle.vbi_whole.specs.Gaps.{judged_in}

pub returns-in_default : goal.returns-in_default
returns-in_default c = λ old since told.
    let judged = judged_in c.args.side.now in
    let field = c.args.walk.at.field in
    let at = stage_of c.args.walk.telling in
    let next : suc field ≡ field + 1 = omega arith in
    subst (λ k. IsTelling judged k at old c.args.out.now) next
    (told_free judged field at old c.args.out.now (c.in_default.ensures.none refl) told)
