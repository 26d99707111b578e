use Rattle.std.proofs.Common.{sym}
use Rattle.std.specs.Prelude.{length}
use Rattle.vbi_near.proofs.{Common.unit_of, PiledRows.said-by, PiledRows.rows-many}
use Rattle.vbi_near.specs.{Candidates.Candidates, Candidates.candidates, PileRule.rows_in}
use Rattle.vbi_near.proofs.pile_rule.recover_pile.Goals as goal

pub returns : goal.returns
returns c =
    let rows = rows_in c.args.system c.args.lines.now c.args.erased.now c.args.count in
    let near : Candidates = candidates c.levelled_near_of_all-levelled.result c.near_of_all-given.result in (
      near,
      record { levelled = c.levelled_near_of_all-levelled.ensures; given = c.near_of_all-given.ensures },
      said-by (unit_of c.args.levels) c.unit_of-unit.result (length rows) c.args.count c.args.known
          c.pile_margins-margins.result near c.recovered_by-first.result c.recovered_by-second.result
          c.or.result
          c.unit_of-unit.ensures.value c.pile_margins-margins.ensures
          (sym (rows-many c.args.system c.args.lines.now c.args.erased.now c.args.count)) c.recovered_by-first.ensures
          c.recovered_by-second.ensures c.or.ensures,
    )
