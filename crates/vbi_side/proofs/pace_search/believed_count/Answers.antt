use Rattle.std.proofs.Common.{◌+◌, arith, subst, sym, ◌∙◌}
use Rattle.vbi_side.specs.PaceSearch.{IsCount}
use Rattle.vbi_side.proofs.Counts.{one_more, no_more}
use Rattle.vbi_side.proofs.pace_search.believed_count.Goals.{then-is_some, else-is_some}
use Rattle.vbi_side.proofs.pace_search.believed_count.Goals as goal

pub loop-field-preserved : goal.loop-field-preserved
loop-field-preserved c =
    let before = c.loop-field.invariant in
    let counts = IsCount c.args.pace c.args.fields.now (c.loop-field.field + 1) in
    elim c.if-is_some.branch [
      | then-is_some w ↦ record {
        counted = subst counts (sym w.count-is) (one_more _ _ _ c.loop-field.count c.judge_field.result
            c.judge_field.ensures (sym c.is_some.ensures ∙ w.if-is_some.true) before.counted);
        bound = omega (arith, before.bound, w.count-is);
      }
      | else-is_some w ↦ record {
        counted = subst counts (sym w.count-is) (no_more _ _ _ c.loop-field.count c.judge_field.result
            c.judge_field.ensures (sym c.is_some.ensures ∙ w.if-is_some.false) before.counted);
        bound = omega (arith, before.bound, w.count-is);
      }
    ]
