use Rattle.std.proofs.Common.{refl}
use Rattle.std.specs.Fmt.{digits}
use Rattle.vbi_words.specs.Codes.{code_of}
use Rattle.vbi_words.specs.Formats.{format_of_lines}
use Rattle.vbi_field.specs.Document.{parameters_of, lines_of, record_of, tail_of}
use Rattle.vbi_field.specs.Report.{report_head_of, field_lines_of, report_tail_of, shown_of}
use Rattle.vbi_field.proofs.laws.worked_texts.Goals as goal

pub returns : goal.returns
unfolding digits code_of format_of_lines parameters_of lines_of record_of tail_of report_head_of field_lines_of
    report_tail_of shown_of
returns c = record {
  heads = (refl, refl);
  records = (refl, refl, refl, refl, refl);
  tails = (refl, refl);
  report_ends = (refl, refl, refl, refl);
  report_fields = (refl, refl, refl, refl);
}
