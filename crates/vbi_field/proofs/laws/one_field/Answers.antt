use Rattle.vbi_field.proofs.OneRecoveredDocument as laws
use Rattle.vbi_field.proofs.laws.one_field.Goals as goal

pub returns : goal.returns
returns c = laws.one_field
