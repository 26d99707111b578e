use Rattle.std.proofs.lemmas.Bool.{not-true, not-false}
use Rattle.std.proofs.Common.{◌≡◌, ◌∙◌, true, false, sym, subst}
use Rattle.vbi_whole.specs.Drifts.{IsSpanBefore}
use Rattle.vbi_whole.proofs.Drifting.{drift_found, no_drift_on}
use Rattle.vbi_whole.proofs.drift.drifts_at.Goals.{then-goes_on-2, else-goes_on-2}
use Rattle.vbi_whole.proofs.drift.drifts_at.Goals as goal

pub returns-after-goes_on-2-clause-drifts : goal.returns-after-goes_on-2-clause-drifts
returns-after-goes_on-2-clause-drifts c = λ e.
    let on = c.in-Some-span.on in
    let found = drift_found c.args.rule c.args.numbers.now c.args.field _ on in
    let span = subst (IsSpanBefore c.args.rule c.args.numbers.now c.args.field) c.in-Some-span.is c.requires.span in
    let near = sym (rw c.in-Some.ensures.some.0 at c.goes_on.ensures) ∙ c.if-goes_on.true in
    elim c.if-goes_on-2.branch [
      | then-goes_on-2 w ↦ found on.high span c.in-Some.ensures.some.1 near span.high span.high_inside span.high_before
          (sym (rw c.in-Some.ensures.some.0 at w.goes_on-then-goes_on-2.ensures) ∙ sym w.result-is
          ∙ not-true c.if-goes_on-2.result e)
      | else-goes_on-2 w ↦ found on.low span c.in-Some.ensures.some.1 near span.low span.low_inside span.low_before
          (sym (rw c.in-Some.ensures.some.0 at c.goes_on-then-goes_on.ensures) ∙ w.if-goes_on-2.false)
    ]

pub returns-after-goes_on-2-clause-none : goal.returns-after-goes_on-2-clause-none
returns-after-goes_on-2-clause-none c = λ e.
    let span = subst (IsSpanBefore c.args.rule c.args.numbers.now c.args.field) c.in-Some-span.is c.requires.span in
    let both = not-false c.if-goes_on-2.result e in
    elim c.if-goes_on-2.branch [
      | then-goes_on-2 w ↦ no_drift_on c.args.rule c.args.numbers.now c.args.field _ c.in-Some-span.on span
          c.in-Some.ensures.some.1
          (sym (rw c.in-Some.ensures.some.0 at c.goes_on-then-goes_on.ensures) ∙ w.if-goes_on-2.true)
          (sym (rw c.in-Some.ensures.some.0 at w.goes_on-then-goes_on-2.ensures) ∙ sym w.result-is ∙ both)
      | else-goes_on-2 w ↦ let clash : true ≡ false = sym both ∙ w.result-is ∙ w.if-goes_on-2.false in absurd cc
    ]
