use Rattle.std.proofs.Common.{None, arith}
use Rattle.vbi_whole.specs.Detours.{detoured_from}
use Rattle.vbi_whole.proofs.Detouring.{no_detour, a_detour, detoured_length}
use Rattle.vbi_whole.proofs.DetourLaws.{each_told, other_told}
use Rattle.vbi_whole.proofs.detour_laws.detours_told.Goals as goal

pub returns-clause-count : goal.returns-clause-count
returns-clause-count c = λ rule gaps. omega (arith, detoured_length rule None gaps)

pub returns-clause-each : goal.returns-clause-each
returns-clause-each c = each_told

pub returns-clause-others : goal.returns-clause-others
returns-clause-others c = other_told

pub returns-clause-pair : goal.returns-clause-pair
unfolding detoured_from
returns-clause-pair c = λ rule a b gaps kind is. a_detour rule a b gaps kind is

pub returns-clause-alone : goal.returns-clause-alone
unfolding detoured_from
returns-clause-alone c = λ rule a b gaps none. no_detour rule a b gaps none
