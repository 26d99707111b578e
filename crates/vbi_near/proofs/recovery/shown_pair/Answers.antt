use Rattle.std.proofs.Common.{◌≡◌, true, false, ◌∙◌, rules}
use Rattle.std.specs.Prelude.{◌&&◌}
use Rattle.vbi_near.proofs.{Common.unit_of, AskedLines.pair-open, AskedLines.pair-shows, AskedLines.stands-alone}
use Rattle.vbi_near.specs.{Lines.line_in, Recovery.is_open, Recovery.shown_in}
use Rattle.vbi_near.proofs.recovery.shown_pair.Goals as goal

pub returns-then-is_open-2 : goal.returns-then-is_open-2
returns-then-is_open-2 c second third both is are pair =
    let lines = c.args.pair.now in
    let line = line_in lines.second in
    let other = line_in lines.third in
    let own = c.own-own_second in
    let beside = c.own-own_third in
    let opened : (is_open own.result.outcome && is_open beside.result.outcome) ≡ true = search rules in
    let common = pair (pair-open line other lines.levels own.result beside.result own.ensures beside.ensures second
    third is are opened) in
    let shows = pair-shows line other lines.levels own.result beside.result own.ensures beside.ensures second third is
    are both c.said_by_both-said.result.0 c.said_by_both-said.result.1 opened
    (λ near again p q. c.said_by_both-said.ensures near again both p q common) in
    (c.recovered_as.ensures ∙ shows.0, c.recovered_as-then-is_open-2.ensures ∙ shows.1)

pub returns : goal.returns
returns c second third both is are pair =
    let lines = c.args.pair.now in
    let own = c.own-own_second in
    let beside = c.own-own_third in
    let closed : (is_open own.result.outcome && is_open beside.result.outcome) ≡ false = search rules in
    let stands = stands-alone (line_in lines.second) (line_in lines.third) lines.levels own.result beside.result
    own.ensures beside.ensures second third is are both closed in (
      c.shown_alone.ensures second both is
          ∙ (λ j. shown_in (stands j) (unit_of lines.second.levels) second both),
      c.shown_alone-2.ensures third both are
          ∙ (λ j. shown_in (stands j) (unit_of (lines.levels j)) third both),
    )
