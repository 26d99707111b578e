use Rattle.vbi_field.proofs.WordRowLemmas.{one_part, two_parts, three_parts, four_parts}
use Rattle.vbi_field.proofs.word_row.read_word_row.Goals as goal

pub returns-in_err-first : goal.returns-in_err-first
returns-in_err-first c = rw c.from_residual.ensures (one_part c.args.row.now c.in_err-first.ensures)

pub returns-in_err-second : goal.returns-in_err-second
returns-in_err-second c = rw c.from_residual-in_err-second.ensures
    (two_parts c.args.row.now c.in_ok-first.first.now c.in_ok-first.rest.now c.in_ok-first.ensures
    c.in_err-second.ensures)

pub returns-in-Some : goal.returns-in-Some
returns-in-Some c =
    let cut = c.in-Some.field-0 in
    four_parts c.args.row.now c.in_ok-first.first.now c.in_ok-first.rest.now c.in_ok-second.second.now
    c.in_ok-second.third.now cut.0.now cut.1.now c.in_ok-first.ensures c.in_ok-second.ensures c.in-Some.ensures

pub returns-in-None : goal.returns-in-None
returns-in-None c =
    let whole = three_parts c.args.row.now c.in_ok-first.first.now c.in_ok-first.rest.now c.in_ok-second.second.now
    c.in_ok-second.third.now c.in_ok-first.ensures c.in_ok-second.ensures c.in-None.ensures in
    cc
