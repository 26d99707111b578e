use Rattle.vbi_field.proofs.Common.{◌+◌, cond, refl, ap, ◌∙◌, arith, rules, width_of}
use Rattle.vbi_field.proofs.FeedSteps.{too_many, not_full, stand_next, fed_inside, fed_row, fed_in_part}
use Rattle.vbi_field.proofs.feeder.take_bytes.Goals as goal

pub returns-then-progress-max_fields-clause-step : goal.returns-then-progress-max_fields-clause-step
returns-then-progress-max_fields-clause-step g c = λ z at.
    too_many g.W.Write.contents c.requires.stand at c.args.outlet.now c.args.bytes.now c.requires.some
    (c.if-progress-max_fields.true ∙ c.max_fields.ensures.value)

pub returns-else-is_full-clause-step : goal.returns-else-is_full-clause-step
returns-else-is_full-clause-step g c =
    let st = c.requires.stand in
    let copied = c.copy_in-count.ensures in
    λ z at.
    fed_inside g.W.Write.contents st at _ _ copied.held copied.fits
    (omega (arith, st.few, c.if-progress-max_fields.false, c.max_fields.ensures.value)) c.copy_in-count.new.line
    c.args.outlet.now refl copied.rest.system (not_full _ _ c.is_full.ensures c.if-is_full.false)

pub returns-in_ok-add_row-clause-step : goal.returns-in_ok-add_row-clause-step
returns-in_ok-add_row-clause-step g c =
    let st = c.requires.stand in
    let copied = c.copy_in-count.ensures in
    let read = rw c.levels.ensures at c.take_reading-reading.ensures in
    λ z at.
    fed_row g.W.Write.contents st at _ _ copied.held copied.fits
    (omega (arith, st.few, c.if-progress-max_fields.false, c.max_fields.ensures.value)) copied.rest.system
    (c.is_full.ensures.0 c.if-is_full.true) c.is_selected.ensures read.shows
    c.take_reading-reading.new.line c.add_row.new.self c.args.outlet.now c.add_row.new.outlet read.held
    (λ z b at row. c.in_ok-add_row.ensures.adds z b at row (λ keeps last. cc))

pub returns-in_err-add_row-clause-step : goal.returns-in_err-add_row-clause-step
returns-in_err-add_row-clause-step g c =
    let st = c.requires.stand in
    let copied = c.copy_in-count.ensures in
    let read = rw c.levels.ensures at c.take_reading-reading.ensures in
    λ z at.
    fed_in_part g.W.Write.contents st at _ _ copied.held copied.fits
    (omega (arith, st.few, c.if-progress-max_fields.false, c.max_fields.ensures.value)) copied.rest.system
    (c.is_full.ensures.0 c.if-is_full.true) c.is_selected.ensures read.shows
    c.take_reading-reading.new.line c.add_row.new.self c.args.outlet.now c.add_row.new.outlet
    (λ z b at row. c.in_err-add_row.ensures.adds z b at row (λ keeps last. cc))
    c.args.bytes.now c.copy_in-count.result c.add_row.new.outlet.written c.from_residual.result refl (search rules)

pub returns-in_ok-add_row-clause-stand : goal.returns-in_ok-add_row-clause-stand
returns-in_ok-add_row-clause-stand g c =
    let st = c.requires.stand in
    let read = c.take_reading-reading.ensures in
    let same = c.copy_in-count.ensures.rest.system ∙ st.system in
    let system = read.system ∙ same in
    let last = c.if-progress-max_fields.false in
    let few = st.few in
    let most = c.max_fields.ensures in
    stand_next c.args.config.now c.args.line.now c.take_reading-reading.new.line c.args.progress.now c.add_row.new.self
    c.is_selected.result
    c.is_selected.ensures st system read.cursors read.held c.in_ok-add_row.ensures.inside c.in_ok-add_row.ensures.next
    (omega (arith, most.value)) (omega (arith, most.value, most.few))
    (read.looked
    ∙ ap (λ n. n + cond c.is_selected.result (width_of c.copy_in-count.new.line.system) 0)
    c.copy_in-count.ensures.rest.looked
    ∙ ap (λ s. c.args.line.now.looked + cond c.is_selected.result (width_of s) 0) same)
