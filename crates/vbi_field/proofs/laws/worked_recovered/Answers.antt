use Rattle.std.proofs.Common.{refl}
use Rattle.std.specs.Fmt.{digits}
use Rattle.vbi_words.specs.Codes.{code_of}
use Rattle.vbi_words.specs.Formats.{format_of_lines}
use Rattle.vbi_field.specs.Document.{lines_of}
use Rattle.vbi_field.specs.RecoveredDocument.{near_text_of, nears_text_of, record_with}
use Rattle.vbi_field.specs.Report.{field_lines_of, marked_of, shown_of}
use Rattle.vbi_field.proofs.laws.worked_recovered.Goals as goal

pub returns : goal.returns
unfolding digits code_of format_of_lines lines_of near_text_of nears_text_of record_with field_lines_of marked_of
    shown_of
returns c = record { record_is = refl; fallen = refl; report_is = refl }
