use Rattle.vbi_field.proofs.Common.{[], ◌++◌, ◌+◌, Bool, List, ℕ, ap, ◌∙◌, sym, refl, codes, ◌==◌, if◌then◌else◌}
use Rattle.vbi_field.specs.RecoveredDocument.{recovered_record_of, recovered_without}
use Rattle.vbi_field.specs.Stream.{readings_of, rows_in}
use Rattle.vbi_field.specs.Texts.{joined_entry_of, recovered_document}
use Rattle.vbi_field.proofs.recovered_document.RecoveredDocumentKind.entry.Goals as goal

pub returns : goal.returns
returns c = λ rows reads kept.
    let cfg = c.args.config.now in
    let before = c.args.before in
    let joint : List ℕ = if before == 0 then [] else codes ",\n" in
    c.record_with.ensures
    ∙ ap (λ (text : List ℕ). joint ++ text)
    (c.field_texts-field.ensures (reads ∙ ap (readings_of cfg) (sym (kept refl))) (before + 1))
    ∙ ap (λ (marks : List Bool). joint ++ recovered_record_of cfg.levels (before + 1)
    (recovered_without cfg.system cfg.levels (rows_in cfg.system c.args.held.now) marks)) c.none_erased.ensures
    ∙ ap (joined_entry_of recovered_document cfg before) (kept refl)
