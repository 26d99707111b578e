use Rattle.std.proofs.Common.{◌+◌, ◌*◌, ◌-◌}
use Rattle.vbi_c.proofs.ChaptersRead.{chapters_lead, first_of}
use Rattle.vbi_c.proofs.whole_laws.chapters_read_lead.Goals as goal

pub returns-clause-leads : goal.returns-clause-leads
returns-clause-leads c side chapter begin last p run large low first =
    chapters_lead side chapter begin last run p low first large

pub returns-clause-found : goal.returns-clause-found
returns-clause-found c side chapter begin last p place run large low first few complete =
    complete (begin + 2 * p) (begin - 21) (begin + 2 * last - 2) few
    (first_of side chapter begin last run p low first)
    (chapters_lead side chapter begin last run p low first large)
