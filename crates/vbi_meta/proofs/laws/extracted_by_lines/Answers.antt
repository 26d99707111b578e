use Rattle.vbi_meta.proofs.DocumentReadings as laws
use Rattle.vbi_meta.proofs.laws.extracted_by_lines.Goals as goal

pub returns : goal.returns
returns g c = λ config i0 i o0 o summary numbers ran.
    let came = ran.says.came in (
      ran.z,
      ran.text,
      came.at_end,
      ran.consumed,
      ran.appended,
      laws.extracted_by_lines config ran.z ran.text (record { config = numbers; within = came.within }) came.document,
    )
