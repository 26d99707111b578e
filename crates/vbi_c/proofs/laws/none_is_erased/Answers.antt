use Rattle.std.proofs.Common.{sym}
use Rattle.vbi_c.proofs.Marks.{erased_of-empty}
use Rattle.vbi_c.proofs.laws.none_is_erased.Goals as goal

pub returns-clause-columns : goal.returns-clause-columns
returns-clause-columns c system field = sym (erased_of-empty system field)
