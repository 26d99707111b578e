use Rattle.vbi_field.proofs.Common.{ap, ◌∙◌, width_of}
use Rattle.vbi_field.proofs.OneShown.{nothing_erased}
use Rattle.vbi_field.proofs.recovered_rows.none_erased.Goals as goal

pub returns : goal.returns
returns c =
    nothing_erased c.args.config.now.system c.width.result (c.width.ensures ∙ ap width_of c.system.ensures)
