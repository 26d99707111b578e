use Rattle.std.proofs.Common.{◌≡◌, ℕ, ◌+◌, ◌∷◌, [], ◌++◌, List, map, subst, ap, sym, ◌∙◌, arith}
use Rattle.vbi_near.proofs.{Common.Samples, PiledRows.rows-next}
use Rattle.vbi_near.specs.Candidates.{Line, given_samples, HasNear, some_lines}
use Rattle.vbi_near.specs.{Lines.row_in, PileRule.rows_in, Pile.IsPileOf}
use Rattle.vbi_near.proofs.pile_rule.near_of_all.Goals as goal

pub loop-line-preserved : goal.loop-line-preserved
loop-line-preserved c =
    let rows = c.args.rows.now in
    let line = c.loop-line.line in
    let old = map given_samples (rows_in rows.system rows.bytes.now rows.erased.now line) in
    let same : old ++ given_samples (row_in c.line-row.result) ∷ []
    ≡ map given_samples (rows_in rows.system rows.bytes.now rows.erased.now (line + 1))
    = ap (λ (l : Line). old ++ given_samples l.row ∷ []) c.line-row.ensures
    ∙ sym (rows-next given_samples rows.system rows.bytes.now rows.erased.now line) in
    record {
      pile = subst (λ (lines : List Samples). IsPileOf rows.system rows.levels lines c.add.new.self) same
          (c.add.ensures.line rows.system rows.levels old c.loop-line.invariant.pile);
      count = omega (arith, c.add.ensures.count, c.loop-line.invariant.count);
    }

pub returns : goal.returns
returns c =
    let rows = c.args.rows.now in
    let e : c.loop-line.line ≡ rows.count = omega (arith, c.loop-line-test.false, c.loop-line.auto.line-end) in
    subst (λ (n : ℕ). HasNear (some_lines rows.system c.args.number rows.levels
    (map given_samples (rows_in rows.system rows.bytes.now rows.erased.now n))) c.nears.result) e
    (c.nears.ensures rows.system rows.levels
    (map given_samples (rows_in rows.system rows.bytes.now rows.erased.now c.loop-line.line))
    c.loop-line.invariant.pile)
