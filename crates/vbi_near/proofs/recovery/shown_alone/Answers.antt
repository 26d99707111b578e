use Rattle.std.proofs.Common.{◌∙◌, rules}
use Rattle.std.specs.Prelude.{IsTrue}
use Rattle.vbi_near.specs.{Recovery.is_open, Recovery.alone, Lines.line_in}
use Rattle.vbi_near.proofs.AskedLines.{open-near, open-shows}
use Rattle.vbi_near.proofs.recovery.shown_alone.Goals as goal

pub returns-then-is_open : goal.returns-then-is_open
returns-then-is_open c seen both is =
    let line = line_in c.args.line.now in
    let opened : IsTrue (is_open c.args.own.outcome) = search rules in
    let near = open-near line c.args.own c.requires seen is opened in
    c.recovered_as.ensures
    ∙ open-shows line c.args.own c.requires alone seen both c.recovered_alone.result is opened
    (c.recovered_alone.ensures seen.near near)
