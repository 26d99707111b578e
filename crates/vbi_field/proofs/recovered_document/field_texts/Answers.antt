use Rattle.std.proofs.Common.{◌≡◌, List, ℕ, ap, ◌∙◌, sym}
use Rattle.vbi_field.specs.RecoveredDocument.{cause_lines, nears_text_of, recovered_without, record_with}
use Rattle.vbi_field.specs.RecoveredRows.{as_readings, recovery_of}
use Rattle.vbi_field.specs.Stream.{FieldReadings, rows_in}
use Rattle.vbi_field.proofs.HeldRows.{joined_in}
use Rattle.vbi_field.proofs.recovered_document.field_texts.Goals as goal

pub returns : goal.returns
returns c = λ e number.
    let system = c.args.config.now.system in
    let levels = c.args.config.now.levels in
    let marks = c.args.erased.now in
    let field = recovered_without system levels (rows_in system c.args.rows.now) marks in
    let lines : c.shown_lines-lines.result ≡ as_readings field.shown = c.shown_lines-lines.ensures e
    ∙ ap (λ (l : List ℕ). as_readings (recovery_of system levels l marks))
    (sym (joined_in system c.args.rows.now c.requires.rows)) in
    ap (λ (n : List ℕ). record_with number c.shown_lines-lines.result c.cause_lines-causes.result n)
    c.nears_text-nears.ensures
    ∙ ap (λ (r : FieldReadings). record_with number c.shown_lines-lines.result r
    (nears_text_of levels c.shown_lines-lines.result field)) (c.cause_lines-causes.ensures
    ∙ ap (cause_lines c.shown_lines-lines.result) e)
    ∙ ap (λ (l : FieldReadings). record_with number l (cause_lines l field.readings)
    (nears_text_of levels l field)) lines
