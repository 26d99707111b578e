use Rattle.std.proofs.Common.{◌≡◌, false}
use Rattle.clap.specs.declared.builder.command.Command.TheViews.{out-Command as fields_of}
use Rattle.vbi_cli.proofs.commands.command.Given as goal

-- no option of the command is shared with commands below it
abbrev pub invariant-loop-option_texts : goal.invariant-loop-option_texts
invariant-loop-option_texts l = (fields_of l.command).has_globals ≡ false
