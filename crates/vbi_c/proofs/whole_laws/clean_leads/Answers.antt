use Rattle.std.proofs.Common.{◌+◌, ◌*◌, ◌-◌}
use Rattle.vbi_c.proofs.CleanLeading.{clean_leads}
use Rattle.vbi_c.proofs.CleanSought.{first_known}
use Rattle.vbi_c.specs.Types.{Video}
use Rattle.vbi_c.proofs.whole_laws.clean_leads.Goals as goal

pub returns-clause-leads : goal.returns-clause-leads
returns-clause-leads c numbers clock number begin last p run large low =
    clean_leads numbers clock number begin last run p low large

pub returns-clause-found : goal.returns-clause-found
returns-clause-found c numbers clock number begin last p sought run large low asks few complete =
    complete (begin + 2 * p) (begin - 9) (begin + 2 * last - 2) Video few
    (first_known numbers clock number begin last run p low asks)
    (clean_leads numbers clock number begin last run p low large)
