use Rattle.vbi_field.proofs.Common.{sym, ap, Recovered, as_readings, FieldReadings, List}
use Rattle.vbi_field.proofs.OneShown.{sure_rows, is_shown}
use Rattle.vbi_field.specs.RecoveredRows.{recovery_of}
use Rattle.vbi_field.proofs.recovered_rows.shown_lines.Goals as goal

pub returns-then-is_sure-3 : goal.returns-then-is_sure-3
returns-then-is_sure-3 c = λ e.
    let system = c.args.config.now.system in
    let levels = c.args.config.now.levels in
    let marks = c.args.erased.now in
    let rows = c.args.rows.now in
    let was = c.args.readings.now in
    let same = sure_rows system levels rows marks (recovery_of system levels rows marks) was.first was.second was.third
    (is_shown system levels rows marks) (ap (λ (r : FieldReadings). r.first) e) (ap (λ (r : FieldReadings). r.second) e)
    (ap (λ (r : FieldReadings). r.third) e) (c.is_sure.ensures c.if-is_sure.true)
    (c.is_sure-then-is_sure.ensures c.if-is_sure-2.true) (c.is_sure-then-is_sure-2.ensures c.if-is_sure-3.true) in
    sym (ap (λ (l : List Recovered). as_readings l) same)
