use Rattle.std.proofs.Common.{rules}
use Rattle.vbi_cli.proofs.Jobs.{did_document, did_recovered}
use Rattle.vbi_cli.proofs.job.text_job.Goals as goal

pub returns-in-Document-clause-did : goal.returns-in-Document-clause-did
returns-in-Document-clause-did g c = rw c.in-Document.is (search (rules, did_document))

pub returns-in-RecoveredDocument-clause-did : goal.returns-in-RecoveredDocument-clause-did
returns-in-RecoveredDocument-clause-did g c = rw c.in-RecoveredDocument.is (search (rules, did_recovered))
