use Rattle.vbi_whole.proofs.SetAside.{all_aside}
use Rattle.vbi_whole.proofs.aside_laws.aside_all.Goals as goal

pub returns : goal.returns
returns c = all_aside
