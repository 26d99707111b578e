use Rattle.std.proofs.Common.{arith, subst, inl, inr}
use Rattle.std.proofs.lemmas.Bool.Decides.{eqb_tells}
use Rattle.std.proofs.lemmas.Option.{slice_get_within}
use Rattle.vbi_side.specs.Numbers.{believed}
use Rattle.vbi_whole.specs.Drifts.{IsDrift}
use Rattle.vbi_whole.proofs.drift.has_drift.Goals as goal

pub loop-field-preserved : goal.loop-field-preserved
loop-field-preserved c = record {
  span = c.span_after-span.ensures;
  none = λ j less drift. elim (eqb_tells j c.loop-field.field) [
    | inl (t, same) ↦ c.drifts_at.ensures.none c.if-drifts_at.false
        (subst (IsDrift c.args.rule c.args.numbers.now) same drift)
    | inr (f, other) ↦ c.loop-field.invariant.none j (omega (arith, less, other)) drift
  ];
}

pub returns : goal.returns
returns c = λ j drift. c.loop-field.invariant.none j (omega (
  arith,
  slice_get_within c.args.numbers.now j (believed drift.n) drift.there,
)) drift
