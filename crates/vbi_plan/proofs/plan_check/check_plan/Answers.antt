use Rattle.std.proofs.Common.{◌≡◌, ◌<◌, refl, arith}
use Rattle.std.specs.Prelude.{slice_index_or, slice_get, Some, length}
use Rattle.std.proofs.lemmas.Option.{slice_get-get_or}
use Rattle.vbi_plan.specs.declared.plan.Stretch.{Stretch}
use Rattle.vbi_plan.specs.Plans.{out_at, plan_of}
use Rattle.vbi_plan.proofs.Checking.{reached_first, out_more, good_more}
use Rattle.vbi_plan.proofs.plan_check.check_plan.Goals as goal

pub loop-at-init : goal.loop-at-init
unfolding out_at
loop-at-init c = record {
  good = λ k less. absurd (omega (arith, less));
  out = refl;
  few = omega arith;
  reached = reached_first (plan_of c.args.plan.now) c.first_stand-last.result.field c.first_stand-last.result.rank
      c.first_stand-last.ensures.field c.first_stand-last.ensures.rank;
}

pub loop-at-preserved : goal.loop-at-preserved
loop-at-preserved c =
    let stretches = c.args.plan.now.stretches.now in
    let nothing : Stretch = record { field = 0; fields = 0; capture = 0; number = 0; padding = 0 } in
    let stretch = slice_index_or stretches c.loop-at.at nothing in
    let less : c.loop-at.at < length stretches = omega arith in
    let there : slice_get stretches c.loop-at.at ≡ Some stretch
    = slice_get-get_or stretches c.loop-at.at nothing less in
    record {
      good = good_more (plan_of c.args.plan.now) c.loop-at.at c.loop-at.invariant.good c.in-Ok.ensures.ok.0;
      out = omega (
        arith,
        out_more stretches c.loop-at.at stretch there,
        c.loop-at.invariant.out,
        c.out_after-out.ensures.value,
      );
      few = omega (arith, c.loop-at.invariant.few, c.out_after-out.ensures.most);
      reached = c.in-Ok.ensures.ok.1;
    }
