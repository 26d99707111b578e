use Rattle.vbi_field.proofs.Common.{◌≡◌, arith, longest_row}
use Rattle.vbi_field.proofs.RowSteps.{newline_came, bad_newline_came, too_long}
use Rattle.vbi_field.proofs.row_intake.RowIntake.next_row.Goals as goal

pub returns-in-Some : goal.returns-in-Some
returns-in-Some g c =
    newline_came c.loop-held.invariant c.loop-held-test.true c.in-Byte.ensures
    c.if-byte-eq10.true
    c.in-Some.words c.in-Some.ensures

pub returns-in-None : goal.returns-in-None
returns-in-None g c =
    bad_newline_came c.loop-held.invariant c.loop-held-test.true c.in-Byte.ensures
    c.if-byte-eq10.true
    c.in-None.ensures

pub returns : goal.returns
returns g c =
    let whole : c.loop-held.held ≡ longest_row = omega arith in
    too_long (rw whole at c.loop-held.invariant)
