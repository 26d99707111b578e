use Rattle.std.proofs.Common.{◌≡◌, map}
use Rattle.vbi_near.specs.{Candidates.given_samples, PileRule.rows_in, Pile.IsPileOf}
use Rattle.vbi_near.proofs.pile_rule.near_of_all.Given as goal

abbrev pub invariant-loop-line : goal.invariant-loop-line
invariant-loop-line l = record {
  pile : IsPileOf l.rows.system l.rows.levels
      (map given_samples (rows_in l.rows.system l.rows.bytes.now l.rows.erased.now l.line)) l.pile;
  count : l.pile.count ≡ l.line;
}
