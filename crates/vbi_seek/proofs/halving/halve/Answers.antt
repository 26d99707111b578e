use Rattle.std.proofs.Common.{sym, subst, arith}
use Rattle.vbi_seek.specs.declared.narrowing.Between.{Between}
use Rattle.vbi_seek.specs.Searches.{AreSeenFrom, IsSilent, IsHalved, middle_in}
use Rattle.vbi_seek.proofs.Leading.{never_led, told_in_middle}
use Rattle.vbi_seek.proofs.Narrowed.{by_both}
use Rattle.vbi_seek.proofs.Seen.{none_seen}
use Rattle.vbi_seek.proofs.halving.halve.Goals as goal

pub returns-then-narrow-clause-halved : goal.returns-then-narrow-clause-halved
returns-then-narrow-clause-halved c =
    told_in_middle c.args.search.now c.args.between.now c.narrow.new.between c.requires.wide
    (c.narrow.ensures.narrowed c.if-narrow.true)

pub returns-in-Number-clause-halved : goal.returns-in-Number-clause-halved
returns-in-Number-clause-halved c = λ t a b leads within told.
    absurd (never_led c.args.search.now c.in-Some-lower.lower c.in-Some.higher t a b c.args.between.now
    c.narrow.new.between c.requires.part (c.narrow.ensures.kept c.if-narrow.false)
    (λ k n few. c.narrow.ensures.silent c.if-narrow.false k n (omega (arith, few))) c.in-Some-lower.is c.in-Some.is
    leads within)

pub returns-in-Chapter-clause-halved : goal.returns-in-Chapter-clause-halved
returns-in-Chapter-clause-halved c = λ t a b leads within told.
    absurd (never_led c.args.search.now c.in-Some-lower.lower c.in-Some.higher t a b c.args.between.now
    c.narrow.new.between c.requires.part (c.narrow.ensures.kept c.if-narrow.false)
    (λ k n few. c.narrow.ensures.silent c.if-narrow.false k n (omega (arith, few))) c.in-Some-lower.is c.in-Some.is
    leads within)

pub returns-in-Chapter-clause-spent : goal.returns-in-Chapter-clause-spent
returns-in-Chapter-clause-spent c = λ t a b leads within.
    absurd (never_led c.args.search.now c.in-Some-lower.lower c.in-Some.higher t a b c.args.between.now
    c.narrow.new.between c.requires.part (c.narrow.ensures.kept c.if-narrow.false)
    (λ k n few. c.narrow.ensures.silent c.if-narrow.false k n (omega (arith, few))) c.in-Some-lower.is c.in-Some.is
    leads within)

pub narrow_in_silence-requires-clause-silent : goal.narrow_in_silence-requires-clause-silent
narrow_in_silence-requires-clause-silent c =
    subst (λ (n : Between). IsSilent c.args.search.now (middle_in n)) (sym (c.narrow.ensures.kept c.if-narrow.false))
    (λ k n few. c.narrow.ensures.silent c.if-narrow.false k n (omega (arith, few)))

pub returns-in-None-clause-halved : goal.returns-in-None-clause-halved
returns-in-None-clause-halved c =
    subst (λ (n : Between). IsHalved c.args.search.now n c.narrow_in_silence.new.between)
    (c.narrow.ensures.kept c.if-narrow.false) c.narrow_in_silence.ensures.halved

pub narrow_in_silence-requires-in-None-lower-clause-silent : goal.narrow_in_silence-requires-in-None-lower-clause-silent
narrow_in_silence-requires-in-None-lower-clause-silent c =
    subst (λ (n : Between). IsSilent c.args.search.now (middle_in n)) (sym (c.narrow.ensures.kept c.if-narrow.false))
    (λ k n few. c.narrow.ensures.silent c.if-narrow.false k n (omega (arith, few)))

pub returns-in-None-lower-clause-halved : goal.returns-in-None-lower-clause-halved
returns-in-None-lower-clause-halved c =
    subst (λ (n : Between). IsHalved c.args.search.now n c.narrow_in_silence-in-None-lower.new.between)
    (c.narrow.ensures.kept c.if-narrow.false) c.narrow_in_silence-in-None-lower.ensures.halved

pub narrow_between-requires-clause-seen : goal.narrow_between-requires-clause-seen
narrow_between-requires-clause-seen c =
    subst (λ (n : Between). AreSeenFrom c.args.search.now (middle_in n) c.narrow.new.seen)
    (sym (c.narrow.ensures.kept c.if-narrow.false))
    (c.narrow.ensures.seen (none_seen c.args.search.now (middle_in c.args.between.now) 144))

pub returns-in-Number-clause-by_both : goal.returns-in-Number-clause-by_both
returns-in-Number-clause-by_both c = λ judging is told lower higher.
    by_both c.args.search.now told (record { lower = c.in-Some-lower.lower; higher = c.in-Some.higher })
    c.narrow.new.looked.spare c.narrow.new.seen c.args.between.now c.narrow.new.between
    c.narrow_between.new.between (c.narrow.ensures.kept c.if-narrow.false) c.in-Some-lower.is c.in-Some.is lower higher
    (c.narrow.ensures.seen (none_seen c.args.search.now (middle_in c.args.between.now) 144))
    c.narrow_between.ensures.narrowed
