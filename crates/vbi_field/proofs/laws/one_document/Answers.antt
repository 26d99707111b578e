use Rattle.vbi_field.proofs.OneDocument as laws
use Rattle.vbi_field.proofs.laws.one_document.Goals as goal

pub returns : goal.returns
returns c = laws.one_document
