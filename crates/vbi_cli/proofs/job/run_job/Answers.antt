use Rattle.std.proofs.Common.{rules}
use Rattle.vbi_cli.specs.Jobs.{counts_of}
use Rattle.vbi_cli.proofs.Jobs.{did_under}
use Rattle.vbi_cli.proofs.job.run_job.Goals as goal

pub returns-clause-did : goal.returns-clause-did
returns-clause-did g c =
    did_under _ _ c.in_ok-config.config _ _ _ _
    (counts_of c.do_command-answer.new.source c.do_command-answer.new.outlet) _ _ _ _ _
    (search rules) c.new-source.ensures.verb c.new-source.ensures.recover (search rules)
