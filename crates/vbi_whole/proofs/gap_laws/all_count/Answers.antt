use Rattle.std.proofs.Common.{[]}
use Rattle.vbi_whole.specs.Gaps.{AreGaps}
use Rattle.vbi_whole.proofs.GapLaws.{all_count, as_video}
use Rattle.vbi_whole.proofs.gap_laws.all_count.Goals as goal

pub returns : goal.returns
returns c judged k unread i m j n video all =
    all_count judged.rule.numbering judged.seen judged.numbers judged.ends k unread
    (as_video (λ judged. AreGaps judged k [] unread) judged video all) i m j n
