use Rattle.std.proofs.Common.{◌+◌, ◌<◌, ap, arith, inl, inr, subst, sym}
use Rattle.vbi_seek.specs.declared.search.Target.TheVariants.{Chapter}
use Rattle.vbi_seek.specs.declared.search.Looked.{Looked}
use Rattle.vbi_seek.specs.ChapterSearch.{IsBetween}
use Rattle.vbi_seek.specs.NumberSearch.{left_most}
use Rattle.vbi_seek.proofs.Leading.{begun, begun_part}
use Rattle.vbi_seek.proofs.Steps.{halved_enough, near_first, near_so, near_more, near_still}
use Rattle.vbi_seek.proofs.Leading.{nowhere}
use Rattle.vbi_seek.proofs.Steps.{placed, stopped}
use Rattle.vbi_seek.proofs.chapter_search.place_of.Goals as goal
use Rattle.vbi_seek.proofs.chapter_search.place_of.Goals.{then-between-gt-LEFT+then-may_read, else-between-gt-LEFT}
use Rattle.vbi_seek.proofs.chapter_search.place_of.Goals.{else-between-gt-LEFT-via-else-between-gt-LEFT}
use Rattle.vbi_seek.proofs.chapter_search.place_of.Goals.{else-between-gt-LEFT-via-then-between-gt-LEFT+else-may_read}

pub loop-step-init : goal.loop-step-init
loop-step-init c =
    let part = begun_part _ c.sweep.result c.whole-between.result c.sweep.new.between c.whole-between.ensures
    c.sweep.ensures.narrowed c.sweep.ensures.kept in
    record {
      part = part;
      few = omega arith;
      leads = λ t a b few leads. (
        near_first Chapter t a b c.args.side.now.count c.sweep.new.between
            (begun _ c.sweep.result c.whole-between.result c.sweep.new.between c.whole-between.ensures
            c.sweep.ensures.narrowed t a b
            (λ none part less k n most inside.
            c.sweep.ensures.silent none part less k n (omega (arith, most)) inside) leads)
            part.1,
        inr (omega arith),
      );
    }

pub loop-step-preserved : goal.loop-step-preserved
loop-step-preserved c =
    let count = c.args.side.now.count in
    let step = c.loop-step.step in
    elim c.if-between-gt-LEFT.branch [
      | then-between-gt-LEFT+then-may_read w ↦ record {
        part = subst (IsBetween count) (sym w.between-is) w.halve.ensures.part;
        few = omega (
          arith,
          ap (λ (l : Looked). l.fields) w.looked-is,
          ap (λ (l : Looked). l.spare) w.looked-is,
          w.halve.ensures.few,
        );
        leads = λ t a b small leads.
            let (near, read) = c.loop-step.invariant.leads t a b small leads in
            let wide : c.loop-step.between.low + left_most < c.loop-step.between.high = omega arith in
            near_so t a b count (step + 1) _ _ _ _ w.between-is w.looked-is (
              near_more Chapter t a b count step c.loop-step.between w.halve.new.between near wide
                  (w.halve.ensures.halved t a b leads near.begun.within near.begun.told),
              elim read [
                | inl less ↦ absurd (omega (arith, less, wide))
                | inr less ↦ inr (omega (arith, less, w.halve.ensures.spent t a b leads near.begun.within))
              ],
            );
      }
      | else-between-gt-LEFT w ↦ record {
        part = subst (IsBetween count) (sym w.between-is) c.loop-step.invariant.part;
        few = omega (arith, ap (λ (l : Looked). l.fields) w.looked-is, ap (λ (l : Looked). l.spare) w.looked-is);
        leads = λ t a b small leads.
            let (near, read) = c.loop-step.invariant.leads t a b small leads in
            let few = stopped t a b count step c.loop-step.between c.loop-step.looked small near read
            (elim w.else-between-gt-LEFT.branch [
              | else-between-gt-LEFT-via-then-between-gt-LEFT+else-may_read v ↦
                  inr (v.may_read.ensures.many v.if-may_read.false)
              | else-between-gt-LEFT-via-else-between-gt-LEFT v ↦ inl (omega arith)
            ]) in
            near_so t a b count (step + 1) _ _ _ _ w.between-is w.looked-is (
              near_still Chapter t a b count step c.loop-step.between near few,
              inl few,
            );
      }
    ]

pub returns-after-loop-step-clause-leads : goal.returns-after-loop-step-clause-leads
returns-after-loop-step-clause-leads c = λ t a b small leads.
    placed Chapter t a b c.args.side.now.count c.loop-step.step c.loop-step.between
    (c.loop-step.invariant.leads t a b small leads).0
    (halved_enough c.args.side.now.count c.loop-step.step small (omega arith))

pub returns-else-sweep-clause-leads : goal.returns-else-sweep-clause-leads
returns-else-sweep-clause-leads c = λ t a b small leads.
    absurd (nowhere _ c.sweep.result c.whole-between.result c.sweep.new.between c.whole-between.ensures
    c.sweep.ensures.narrowed t a b
    (λ none part less k n most inside. c.sweep.ensures.silent none part less k n (omega (arith, most)) inside) leads
    c.if-sweep.false)
