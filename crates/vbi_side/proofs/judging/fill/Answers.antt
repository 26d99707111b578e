use Rattle.std.proofs.Common.{◌+◌, ap, arith, subst, sym, ◌∙◌}
use Rattle.std.specs.Prelude.{slice_set}
use Rattle.vbi_side.proofs.Filling.{Filling, filling_due, filling_kept, filling_ends}
use Rattle.vbi_side.proofs.judging.fill.Goals.{in-Some, in_default}
use Rattle.vbi_side.proofs.judging.fill.Goals as goal

pub loop-field-preserved : goal.loop-field-preserved
loop-field-preserved c =
    let pace = c.args.pace in
    let fields = c.args.fields.now in
    let numbers = c.loop-field.numbers in
    let i = c.loop-field.field in
    elim c.match-number_due.branch [
      | in-Some w ↦ subst (λ x. Filling pace fields x (i + 1))
          (sym (w.numbers-is ∙ ap (slice_set numbers i) w.due.ensures))
          (filling_due pace fields numbers i w.in-Some.number
          ((c.number_due.ensures w.in-Some.number).0 w.in-Some.is) c.loop-field.invariant)
      | in_default w ↦ subst (λ x. Filling pace fields x (i + 1)) (sym w.numbers-is)
          (filling_kept pace fields numbers i
          (λ n d. w.in_default.not-Some n ((c.number_due.ensures n).1 d)) c.loop-field.invariant)
    ]

pub returns : goal.returns
returns c =
    filling_ends c.args.pace c.args.fields.now c.loop-field.numbers c.loop-field.field
    (omega (arith, c.loop-field-test.false)) c.loop-field.invariant
