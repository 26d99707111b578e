use Rattle.std.proofs.Common.{sym, ◌∙◌}
use Rattle.vbi_line.proofs.Ending.{shows, blank, unfinished}
use Rattle.vbi_line.proofs.decoder.Decoder.end.Goals as goal

pub returns-in-Some : goal.returns-in-Some
returns-in-Some c = λ levels e.
    let some = c.in-Some.ensures.some in
    shows c.args.system levels c.args.self e c.in-Some.word some.0 some.1

pub returns-in-None : goal.returns-in-None
returns-in-None c = λ levels e.
    blank c.args.system levels c.args.self e (sym c.is_lead.ensures ∙ c.if-is_lead.true)

pub returns-in-None-2 : goal.returns-in-None-2
returns-in-None-2 c = λ levels e.
    unfinished c.args.system levels c.args.self e c.in-None.ensures.none (sym c.is_lead.ensures ∙ c.if-is_lead.false)
