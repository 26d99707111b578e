use Rattle.std.proofs.Common.{◌∙◌, sym}
use Rattle.vbi_whole.proofs.Telling.{since_none, since_more}
use Rattle.vbi_whole.proofs.gaps.since_at.Goals as goal

pub returns-then-is_end-clause-since : goal.returns-then-is_end-clause-since
returns-then-is_end-clause-since c =
    since_none c.args.ends.now c.args.field _ c.requires.inside (sym c.is_end.ensures ∙ c.if-is_end.true)

pub returns-else-is_end-clause-since : goal.returns-else-is_end-clause-since
returns-else-is_end-clause-since c =
    since_more c.args.ends.now c.args.field c.args.since _ c.requires.inside
    (sym c.is_end.ensures ∙ c.if-is_end.false) c.requires.since
