use Rattle.vbi_field.proofs.Common.{ap, ◌∙◌, as_readings}
use Rattle.vbi_field.proofs.OneShown.{only_shown, has_three}
use Rattle.vbi_field.proofs.recovered_rows.recovered_lines.Goals as goal

pub returns : goal.returns
returns c =
    let rows = c.args.rows.now in
    let marks = c.args.erased.now in
    let shown = c.recover_rows.ensures.recovered in
    (λ j. record {
      first = c.reading_as.ensures j;
      second = c.reading_as-2.ensures j;
      third = c.reading_as-3.ensures j;
    })
    ∙ has_three c.args.system c.args.levels rows marks c.recover_rows.result c.index-recover_rows-0.result
    c.index-recover_rows-1.result c.index-recover_rows-2.result shown
    ∙ ap as_readings (only_shown c.args.system c.args.levels rows marks c.recover_rows.result shown)
