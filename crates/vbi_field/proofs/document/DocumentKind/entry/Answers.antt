use Rattle.vbi_field.proofs.Common.{[], ◌++◌, ◌+◌, List, ℕ, ap, ◌∙◌, codes, ◌==◌, if◌then◌else◌}
use Rattle.vbi_field.specs.Document.{record_of}
use Rattle.vbi_field.specs.RecoveredDocument.{record_with}
use Rattle.vbi_field.proofs.Entries.{plain_record}
use Rattle.vbi_field.proofs.document.DocumentKind.entry.Goals as goal

pub returns : goal.returns
returns c = λ rows reads kept.
    let number = c.args.before + 1 in
    let readings = c.args.readings.now in
    let joint : List ℕ = if c.args.before == 0 then [] else codes ",\n" in
    c.record_with.ensures
    ∙ ap (λ (nears : List ℕ). joint ++ record_with number readings readings nears) c.new.ensures
    ∙ ap (λ (text : List ℕ). joint ++ text) (plain_record number readings ∙ ap (record_of number) reads)
