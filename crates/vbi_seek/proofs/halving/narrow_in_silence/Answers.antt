use Rattle.std.proofs.Common.{ap, subst}
use Rattle.vbi_seek.specs.declared.halving.End.{End}
use Rattle.vbi_seek.specs.declared.halving.End.TheVariants.{First, Last}
use Rattle.vbi_seek.specs.declared.narrowing.Between.{Between}
use Rattle.vbi_seek.specs.Searches.{IsAlone, middle_in}
use Rattle.vbi_seek.proofs.Leading.{silent_halves}
use Rattle.vbi_seek.proofs.halving.narrow_in_silence.Goals as goal

pub returns-then-narrow_beyond-clause-halved : goal.returns-then-narrow_beyond-clause-halved
returns-then-narrow_beyond-clause-halved c = c.narrow_beyond.ensures.halved c.if-narrow_beyond.true

pub returns-in-First-clause-halved : goal.returns-in-First-clause-halved
returns-in-First-clause-halved c =
    let old = c.args.between.now in
    silent_halves c.args.search.now First old _ c.requires.wide c.requires.silent
    (subst (λ (end : End). IsAlone end old) c.in-First.is c.requires.alone)
    (ap (λ (n : Between). record n { high = middle_in old })
    (c.narrow_beyond.ensures.kept c.if-narrow_beyond.false))

pub returns-in-Last-clause-halved : goal.returns-in-Last-clause-halved
returns-in-Last-clause-halved c =
    let old = c.args.between.now in
    silent_halves c.args.search.now Last old _ c.requires.wide c.requires.silent
    (subst (λ (end : End). IsAlone end old) c.in-Last.is c.requires.alone)
    (ap (λ (n : Between). record n { low = middle_in old })
    (c.narrow_beyond.ensures.kept c.if-narrow_beyond.false))
