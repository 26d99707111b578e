use Rattle.std.proofs.Common.{◌≡◌, length, subst, ◌∙◌, arith}
use Rattle.vbi_near.proofs.Levelling.{WrittenTo, filled_at, filled_all}
use Rattle.vbi_near.proofs.levelled_lines.fill.Goals as goal

pub returns-clause-filled : goal.returns-clause-filled
returns-clause-filled c =
    let e : c.loop-column.column ≡ length c.args.erased.now
    = omega (arith, c.loop-column-test.false, c.loop-column.auto.column-end) in
    filled_all c.args.levels c.args.erased.now c.args.row.now c.loop-column.out c.requires.row
    (c.loop-column.invariant.long ∙ c.copy_from_slice.ensures.len ∙ c.requires.out)
    (subst (WrittenTo (filled_at c.args.levels c.args.erased.now c.args.row.now) c.loop-column.out) e
    c.loop-column.invariant.filled.below)
