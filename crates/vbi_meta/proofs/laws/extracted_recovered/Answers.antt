use Rattle.vbi_meta.proofs.DocumentReadings as laws
use Rattle.vbi_meta.proofs.laws.extracted_recovered.Goals as goal

pub returns : goal.returns
returns _ = λ c input z text summary numbers ran.
    laws.extracted_recovered c z text (record { config = numbers; within = ran.within }) ran.document
