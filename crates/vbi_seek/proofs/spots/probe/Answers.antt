use Rattle.std.proofs.Common.{◌≡◌, ◌+◌, arith, inl, inr, refl, subst, sym}
use Rattle.std.proofs.Math.ListN.{length-set}
use Rattle.std.proofs.lemmas.Bool.Decides.{leb_tells}
use Rattle.vbi_seek.specs.Searches.{shows, TellsAt}
use Rattle.vbi_seek.specs.Targets.{Tell}
use Rattle.vbi_seek.proofs.Seen.{seen_more}
use Rattle.vbi_seek.proofs.Shown.{shown_more, counted_more}
use Rattle.vbi_seek.proofs.spots.probe.Goals as goal

pub returns-in-Some-clause-told : goal.returns-in-Some-clause-told
returns-in-Some-clause-told c =
    let made = shown_more (shows c.args.search.now) c.loop-i.seen c.args.field c.loop-i.i
    c.shown_at.result (omega arith) c.loop-i.invariant.made c.shown_at.ensures.shown in
    subst (λ seen. Tell c.args.search.now.kind seen c.in-Some.number) made c.in-Some.ensures.some

-- k fields are no more than those before, or one more than these
pub loop-i-preserved : goal.loop-i-preserved
loop-i-preserved c =
    let i = c.loop-i.i in
    let made = shown_more (shows c.args.search.now) c.loop-i.seen c.args.field i
    c.shown_at.result (omega arith) c.loop-i.invariant.made c.shown_at.ensures.shown in
    record {
      long = simp length-set c.loop-i.invariant.long;
      made = made;
      shown = λ before. seen_more c.args.search.now c.args.field i c.loop-i.seen c.shown_at.result (omega arith)
          (omega arith) c.shown_at.ensures.shown (c.loop-i.invariant.shown before);
      counted = counted_more c.args.looked.now c.loop-i.looked c.shown_at.new.looked i c.loop-i.invariant.counted
          c.shown_at.ensures.counted;
      silent = λ k n few tells. elim (leb_tells k i) [
        | inl less ↦ c.loop-i.invariant.silent k n less.1 tells
        | inr more ↦
            let same : k ≡ i + 1 = omega (arith, more.1, few) in
            let all = subst (λ j. TellsAt c.args.search.now c.args.field j n) same tells in
            c.in_default.ensures.none refl n (subst (λ seen. Tell c.args.search.now.kind seen n) (sym made) all)
      ];
    }

pub returns-clause-silent : goal.returns-clause-silent
returns-clause-silent c = λ none k n few tells. c.loop-i.invariant.silent k n (omega (arith, few)) tells

pub returns-in-Some-clause-seen : goal.returns-in-Some-clause-seen
returns-in-Some-clause-seen c =
    shown_more (shows c.args.search.now) c.loop-i.seen c.args.field c.loop-i.i c.shown_at.result
    (omega arith) c.loop-i.invariant.made c.shown_at.ensures.shown

pub returns-in-Some-clause-first : goal.returns-in-Some-clause-first
returns-in-Some-clause-first c = λ k n less tells. c.loop-i.invariant.silent k n (omega (arith, less)) tells

pub returns-in-Some-clause-shown : goal.returns-in-Some-clause-shown
returns-in-Some-clause-shown c = λ before.
    seen_more c.args.search.now c.args.field c.loop-i.i c.loop-i.seen c.shown_at.result (omega arith) (omega arith)
    c.shown_at.ensures.shown (c.loop-i.invariant.shown before)
