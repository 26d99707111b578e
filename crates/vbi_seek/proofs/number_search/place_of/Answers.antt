use Rattle.std.proofs.Common.{◌+◌, ◌<◌, arith, ap, sym, subst}
use Rattle.vbi_seek.specs.declared.narrowing.Between.{Between}
use Rattle.vbi_seek.specs.declared.search.Target.{Target}
use Rattle.vbi_seek.specs.declared.search.Target.TheVariants.{Number}
use Rattle.vbi_seek.specs.declared.search.Looked.{Looked}
use Rattle.vbi_seek.specs.ChapterSearch.{IsBetween}
use Rattle.vbi_seek.specs.NumberSearch.{left_most}
use Rattle.vbi_seek.proofs.Leading.{begun, begun_part}
use Rattle.vbi_seek.proofs.Steps.{IsAsNear, near_first, near_more, near_still, placed}
use Rattle.vbi_seek.proofs.number_search.place_of.Goals as goal
use Rattle.vbi_seek.proofs.number_search.place_of.Goals.{then-between-gt-LEFT, else-between-gt-LEFT}

pub loop-step-init : goal.loop-step-init
loop-step-init c =
    let all = c.whole-between.result in
    let new = c.begin.new.between in
    let is = c.begin.ensures in
    let part = begun_part _ c.begin.result all new c.whole-between.ensures is.narrowed is.kept in
    record {
      part = part;
      few = omega arith;
      leads = λ t a b few leads. near_first (Number c.args.wanted.now.judging) t a b c.args.wanted.now.side.count new
          (begun _ c.begin.result all new c.whole-between.ensures is.narrowed t a b is.silent leads) part.1;
    }

pub loop-step-preserved : goal.loop-step-preserved
loop-step-preserved c =
    let count = c.args.wanted.now.side.count in
    let kind : Target = Number c.args.wanted.now.judging in
    elim c.if-between-gt-LEFT.branch [
      | then-between-gt-LEFT w ↦ record {
        part = subst (IsBetween count) (sym w.between-is) w.halve.ensures.part;
        few = omega (arith, ap (λ (l : Looked). l.fields) w.looked-is, ap (λ (l : Looked). l.spare) w.looked-is);
        leads = λ t a b few leads.
            let before = c.loop-step.invariant.leads t a b few leads in
            let wide : c.loop-step.between.low + left_most < c.loop-step.between.high = omega arith in
            subst (λ (n : Between). IsAsNear kind t a b count n (c.loop-step.step + 1)) (sym w.between-is)
            (near_more kind t a b count c.loop-step.step c.loop-step.between w.halve.new.between before wide
            (w.halve.ensures.halved t a b leads before.begun.within before.begun.told));
      }
      | else-between-gt-LEFT w ↦ record {
        part = subst (IsBetween count) (sym w.between-is) c.loop-step.invariant.part;
        few = omega (arith, ap (λ (l : Looked). l.fields) w.looked-is, ap (λ (l : Looked). l.spare) w.looked-is);
        leads = λ t a b few leads.
            let before = c.loop-step.invariant.leads t a b few leads in
            subst (λ (n : Between). IsAsNear kind t a b count n (c.loop-step.step + 1)) (sym w.between-is)
            (near_still kind t a b count c.loop-step.step c.loop-step.between before (omega arith));
      }
    ]

pub returns-clause-leads : goal.returns-clause-leads
returns-clause-leads c = λ t a b few leads.
    let kind : Target = Number c.args.wanted.now.judging in
    placed kind t a b c.args.wanted.now.side.count c.steps_of-steps.result c.loop-step.between
    (subst (IsAsNear kind t a b c.args.wanted.now.side.count c.loop-step.between) (omega arith)
    (c.loop-step.invariant.leads t a b few leads)) (c.steps_of-steps.ensures.enough few)
