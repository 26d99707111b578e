use Rattle.std.proofs.Common.{◌≡◌, None, arith, rules}
use Rattle.vbi_words.specs.Drawn.{drawn_line_of}
use Rattle.vbi_field.proofs.DrawEnds.{bad_row, row_read_failed, byte_read_failed, too_many}
use Rattle.vbi_field.proofs.DrawSteps.{start, row_failed, row_drawn, last_row_failed, last_row_drawn}
use Rattle.vbi_field.proofs.drawing.draw.Goals as goal

pub loop-done-init : goal.loop-done-init
loop-done-init g c =
    let config = c.args.config.now in
    let black : c.draw_line.new.line ≡ drawn_line_of config.system config.levels None = cc in
    start _ _ config _ _ c.draw_line.new.line c.requires.rows c.requires.outlet black

pub loop-done-preserved : goal.loop-done-preserved
loop-done-preserved g c =
    let e = c.in_ok-put_field-in-Row.ensures in
    row_drawn c.loop-done.invariant c.next_row.new.self c.in-Row.words c.in-Row.ensures
    (omega (arith, c.max_fields-done-end.ensures.value)) c.put_field.new.outlet
    c.put_field.new.line e.ok e.serves.no_error e.serves.same e.most e.black

pub returns-in_err-put_field-in-Row-clause-run : goal.returns-in_err-put_field-in-Row-clause-run
returns-in_err-put_field-in-Row-clause-run g c =
    let e = c.in_err-put_field-in-Row.ensures in
    row_failed c.loop-done.invariant c.next_row.new.self c.in-Row.words c.in-Row.ensures
    (omega (arith, c.max_fields-done-end.ensures.value)) c.put_field.new.outlet _ e.part e.serves.failed (search rules)

pub returns-in_err-put_field-in-LastRow-clause-run : goal.returns-in_err-put_field-in-LastRow-clause-run
returns-in_err-put_field-in-LastRow-clause-run g c =
    let e = c.in_err-put_field-in-LastRow.ensures in
    last_row_failed c.loop-done.invariant c.next_row.new.self c.in-LastRow.words c.in-LastRow.ensures
    (omega (arith, c.max_fields-done-end.ensures.value)) c.put_field-in-LastRow.new.outlet _ e.part e.serves.failed
    (search rules)

pub returns-in-LastRow-clause-run : goal.returns-in-LastRow-clause-run
returns-in-LastRow-clause-run g c =
    let e = c.in_ok-put_field-in-LastRow.ensures in
    last_row_drawn c.loop-done.invariant c.next_row.new.self c.in-LastRow.words c.in-LastRow.ensures
    (omega (arith, c.max_fields-done-end.ensures.value)) c.put_field-in-LastRow.new.outlet e.ok e.serves.no_error

pub returns-in-Malformed-clause-run : goal.returns-in-Malformed-clause-run
returns-in-Malformed-clause-run g c =
    bad_row c.loop-done.invariant c.next_row.new.self c.in-Malformed.ensures
    (omega (arith, c.max_fields-done-end.ensures.value))

pub returns-in-Failed-clause-run : goal.returns-in-Failed-clause-run
returns-in-Failed-clause-run g c =
    row_read_failed c.loop-done.invariant c.next_row.new.self c.in-Failed.ensures
    (omega (arith, c.max_fields-done-end.ensures.value))

pub returns-in-Byte-clause-run : goal.returns-in-Byte-clause-run
returns-in-Byte-clause-run g c =
    too_many c.loop-done.invariant c.next_byte.new.self c.in-Byte.field-0 c.in-Byte.ensures
    (omega (arith, c.max_fields-done-end.ensures.value))

pub returns-in-Failed-next_byte-clause-run : goal.returns-in-Failed-next_byte-clause-run
returns-in-Failed-next_byte-clause-run g c =
    let max = c.max_fields-in-Failed-next_byte.ensures in
    byte_read_failed c.loop-done.invariant c.next_byte.new.self c.in-Failed-next_byte.ensures _
    max.value
    (omega (arith, c.max_fields-done-end.ensures.value, max.value))
