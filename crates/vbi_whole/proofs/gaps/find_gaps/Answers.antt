use Rattle.std.proofs.Common.{◌≡◌, [], refl, arith, subst, length}
use Rattle.vbi_whole.specs.Gaps.{since_end, AreGaps, judged_in}
use Rattle.vbi_whole.proofs.Telling.{told_few}
use Rattle.vbi_whole.proofs.gaps.find_gaps.Goals as goal
use Rattle.vbi_whole.specs.Tallies.{stage_of}

pub loop-field-init : goal.loop-field-init
unfolding since_end AreGaps
loop-field-init c = record {
  told = let rule = c.args.side.now.rule in record {
    gaps = [];
    unread = 0;
    all = (refl, refl);
    telling = c.none-telling.ensures rule c.args.out.now;
  };
  last = λ j l less. absurd (omega (arith, less));
  since = refl;
  few = omega arith;
}

pub visit-telling-requires-clause-few : goal.visit-telling-requires-clause-few
visit-telling-requires-clause-few c =
    told_few (judged_in c.args.side.now) c.loop-field.field
    (stage_of c.loop-field.telling) c.args.out.now c.loop-field.out c.loop-field.invariant.told

pub ended-requires : goal.ended-requires
ended-requires c = record {
  few = omega (
    arith,
    told_few (judged_in c.args.side.now) c.loop-field.field
        (stage_of c.loop-field.telling) c.args.out.now c.loop-field.out c.loop-field.invariant.told,
  );
}

pub returns : goal.returns
returns c =
    let judged = judged_in c.args.side.now in
    let told = c.loop-field.invariant.told in
    let end : c.loop-field.field ≡ length c.args.side.now.numbers.now = omega arith in
    record {
      gaps = told.gaps;
      unread = told.unread;
      all = subst (λ k. AreGaps judged k told.gaps told.unread) end told.all;
      told = c.ended.ensures told.gaps told.unread c.args.out.now told.telling;
    }
