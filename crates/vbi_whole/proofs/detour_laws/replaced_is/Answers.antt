use Rattle.vbi_whole.specs.Gaps.{IsGap}
use Rattle.vbi_whole.proofs.DetourLaws.{cancels, one_run, misread}
use Rattle.vbi_whole.proofs.GapLaws.{as_video}
use Rattle.vbi_whole.proofs.detour_laws.replaced_is.Goals as goal

pub returns-clause-cancels : goal.returns-clause-cancels
returns-clause-cancels c disc place numbering a b right order =
    cancels disc place numbering a b right.counts right.is order right.from right.to

pub returns-clause-in_order : goal.returns-clause-in_order
returns-clause-in_order c disc place numbering a b right order =
    one_run disc place numbering a b right.counts right.is order right.from right.to

pub returns-clause-misread : goal.returns-clause-misread
returns-clause-misread c disc place judged a b video right one other between =
    misread disc place judged.rule.numbering judged.seen judged.numbers judged.ends a b right.counts
    (as_video (λ judged. IsGap judged a) judged video one)
    (as_video (λ judged. IsGap judged b) judged video other)
    between right.is right.from right.to
