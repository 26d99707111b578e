use Rattle.vbi_field.proofs.OneShown as laws
use Rattle.vbi_field.proofs.laws.one_shown.Goals as goal

pub returns : goal.returns
returns c = laws.one_shown
