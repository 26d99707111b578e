use Rattle.vbi_field.proofs.Common.{ℕ, ◌+◌, ap, ◌∙◌, sym, refl, ◌==◌, none_erased, as_readings, joined_rows}
use Rattle.vbi_field.proofs.Common.{readings_of, Bool, List}
use Rattle.vbi_field.specs.Report.{recovered_entry_of}
use Rattle.vbi_field.specs.RecoveredRows.{recovery_of}
use Rattle.vbi_field.proofs.Entries.{no_joint}
use Rattle.vbi_field.proofs.HeldRows.{joined_in}
use Rattle.vbi_field.proofs.report.RecoveredReportKind.entry.Goals as goal

pub returns : goal.returns
returns c = λ rows reads kept.
    let cfg = c.args.config.now in
    let same = sym (joined_in cfg.system c.args.held.now (c.requires.held refl)) ∙ ap joined_rows (kept refl) in
    let lines = c.shown_lines-lines.ensures (reads ∙ ap (readings_of cfg) (sym (kept refl)))
    ∙ ap (λ (marks : List Bool). as_readings (recovery_of cfg.system cfg.levels c.args.held.now marks))
    c.none_erased.ensures
    ∙ ap (λ (l : List ℕ). as_readings (recovery_of cfg.system cfg.levels l (none_erased cfg.system))) same in
    c.entry_text.ensures
    ∙ ap (recovered_entry_of (c.args.before + 1)) lines
    ∙ sym (no_joint (c.args.before == 0) _)
