use Rattle.std.proofs.Common.{subst}
use Rattle.std.specs.Prelude.{Option}
use Rattle.vbi_whole.specs.declared.detour.Waiting.{Waiting}
use Rattle.vbi_whole.specs.Tallies.{AreTelling, waiting, listed, stage}
use Rattle.vbi_whole.proofs.Detouring.{none_waits, last_told}
use Rattle.vbi_whole.proofs.gaps_so_far.Telling.ended.Goals as goal

pub returns-in-None : goal.returns-in-None
returns-in-None c = λ gaps unread old telling.
    let rule = c.args.rule in
    let tally = c.args.self.tally in
    none_waits rule gaps unread tally old c.args.out.now
    (subst (λ (last : Option Waiting). AreTelling rule (listed gaps unread)
    (stage (waiting last) tally) old c.args.out.now) c.in-None.is telling)

pub returns-in-Some : goal.returns-in-Some
returns-in-Some c = λ gaps unread old telling.
    let rule = c.args.rule in
    let tally = c.args.self.tally in
    let now = subst (λ (last : Option Waiting). AreTelling rule (listed gaps unread)
    (stage (waiting last) tally) old c.args.out.now) c.in-Some.is telling in
    last_told rule gaps unread tally c.with_written.result old
    c.args.out.now c.with_written.new.out c.in-Some.last.gap now
    (c.with_written.ensures.told now.settled unread old now.told)
