use Rattle.std.proofs.Common.{◌+◌, arith}
use Rattle.vbi_whole.proofs.WholeSides.{blank_not_yes}
use Rattle.vbi_whole.proofs.reason_laws.blank_is_told.Goals as goal

pub returns-clause-never : goal.returns-clause-never
returns-clause-never c = blank_not_yes

pub returns-clause-limit : goal.returns-clause-limit
returns-clause-limit c rule answers i m n on = (i + 102, record { m = m; n = n; on = on; many = omega arith })

pub returns-clause-fewer : goal.returns-clause-fewer
returns-clause-fewer c rule answers i k blank = omega (arith, blank.many)
