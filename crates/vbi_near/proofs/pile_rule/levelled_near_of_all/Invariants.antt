use Rattle.std.proofs.Common.{◌≡◌, ℕ, ◌<◌, length, map, take, true}
use Rattle.vbi_near.proofs.Common.{line_bytes}
use Rattle.vbi_near.specs.Candidates.{levelled_samples, has_swing, swing_in}
use Rattle.vbi_near.specs.{Lines.row_at, PileRule.rows_in, LevelledLines.levelled_slicing, Pile.IsPileOf}
use Rattle.vbi_near.proofs.pile_rule.levelled_near_of_all.Given as goal

abbrev pub invariant-loop-line : goal.invariant-loop-line
invariant-loop-line l = record {
  levelled_room : length l.levelled ≡ line_bytes l.rows.system;
  swings : take l.line l.swings ≡ map (swing_in l.rows.system l.rows.levels)
      (rows_in l.rows.system l.rows.bytes.now l.rows.erased.now l.line);
  swings_room : length l.swings ≡ 28;
  system : l.pile.system ≡ l.rows.system;
  pile : ((i : ℕ) → i < l.line → has_swing l.rows.system l.rows.levels (row_at l.rows i) ≡ true)
      → IsPileOf l.rows.system levelled_slicing (map (levelled_samples l.rows.system l.rows.levels)
      (rows_in l.rows.system l.rows.bytes.now l.rows.erased.now l.line)) l.pile;
  count : l.pile.count ≡ l.line;
}
