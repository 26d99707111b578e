use Rattle.std.proofs.Common.{◌≡◌, false}
use Rattle.clap.specs.declared.builder.command.Command.TheViews.{out-Command as fields_of}
use Rattle.vbi_cli.proofs.commands.program.Given as goal

-- no option of the program is shared by its commands
abbrev pub invariant-loop-texts : goal.invariant-loop-texts
invariant-loop-texts l = (fields_of l.program).has_globals ≡ false
