use Rattle.std.proofs.Common.{List, ◌∙◌, ◌++◌, ◌∷◌, [], sym, subst, ap}
use Rattle.std.specs.Prelude.{Option}
use Rattle.vbi_whole.specs.declared.detour.Waiting.{Waiting}
use Rattle.vbi_whole.specs.Types.{Gap}
use Rattle.vbi_whole.specs.Detours.{turned, fields_by}
use Rattle.vbi_whole.specs.Tallies.{AreTold, AreTelling, waiting, listed, stage}
use Rattle.vbi_whole.proofs.Detouring.{one_waits, one_told, two_told}
use Rattle.vbi_whole.proofs.gaps_so_far.Telling.with_gap.Goals as goal

pub returns-in_default : goal.returns-in_default
returns-in_default c = λ gaps unread old telling.
    let rule = c.args.rule in
    let tally = c.args.self.tally in
    one_waits rule gaps unread tally old c.args.out.now
    c.args.gap.gap
    (subst (λ (last : Option Waiting). AreTelling rule (listed gaps unread)
    (stage (waiting last) tally) old c.args.out.now) c.in_default.is telling)

pub returns-in-None : goal.returns-in-None
returns-in-None c = λ gaps unread old telling.
    let rule = c.args.rule in
    let tally = c.args.self.tally in
    let now = subst (λ (last : Option Waiting). AreTelling rule (listed gaps unread)
    (stage (waiting last) tally) old c.args.out.now) c.in-Some.is telling in
    one_told rule gaps unread tally c.with_written.result old
    c.args.out.now c.with_written.new.out c.in-Some.first.gap c.args.gap.gap
    (sym c.in-None.ensures) now (c.with_written.ensures.told now.settled unread old now.told)

pub returns-in-Some-detour : goal.returns-in-Some-detour
returns-in-Some-detour c = λ gaps unread old telling.
    let rule = c.args.rule in
    let tally = c.args.self.tally in
    let a = c.in-Some.first.gap in
    let b = c.args.gap.gap in
    let kind = c.in-Some-detour.kind in
    let now = subst (λ (last : Option Waiting). AreTelling rule (listed gaps unread)
    (stage (waiting last) tally) old c.args.out.now) c.in-Some.is telling in
    let first = c.turned.ensures ∙ ap (λ fields. turned kind fields a) c.fields_by-fields.ensures in
    let second = c.with_written-in-Some-detour in
    let both = second.ensures.told (now.settled ++ c.turned.result.gap ∷ []) unread old
    (c.with_written-tally.ensures.told now.settled unread old now.told) in
    let Tallies : List Gap → Type 0
    = λ settled. AreTold rule.numbering.clock (listed settled unread) second.result old second.new.out in
    two_told rule gaps unread tally second.result old c.args.out.now second.new.out a b kind
    (sym c.in-Some-detour.ensures) now
    (subst (λ (y : Gap). Tallies ((now.settled ++ turned kind (fields_by rule kind a b) a ∷ []) ++ y ∷ []))
    c.turned-in-Some-detour.ensures
    (subst (λ (x : Gap). Tallies ((now.settled ++ x ∷ []) ++ c.turned-in-Some-detour.result.gap ∷ [])) first both))
