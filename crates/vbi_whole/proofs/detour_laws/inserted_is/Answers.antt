use Rattle.std.proofs.Common.{inl}
use Rattle.vbi_whole.proofs.Costless.{inserted_is_no}
use Rattle.vbi_whole.proofs.DetourLaws.{is_left, out_of_order}
use Rattle.vbi_whole.proofs.detour_laws.inserted_is.Goals as goal

pub returns-clause-left : goal.returns-clause-left
returns-clause-left c disc place numbering a b right begin between end =
    is_left disc place numbering a b right.counts right.is begin between end right.from right.to

pub returns-clause-out_of_order : goal.returns-clause-out_of_order
returns-clause-out_of_order c disc place numbering a b right begin between end =
    out_of_order disc place numbering a b right.counts right.is begin between end right.from right.to

pub returns-clause-verdict : goal.returns-clause-verdict
returns-clause-verdict c judged may_end finding old new is some away =
    inserted_is_no judged may_end finding old new is some (inl away)
