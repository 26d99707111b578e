use Rattle.std.proofs.Common.{◌≡◌, ◌<◌, length, arith, ap, inl, inr}
use Rattle.std.proofs.lemmas.Bool.{cases_eq}
use Rattle.vbi_story.specs.declared.reading.NumberReading.{NumberReading}
use Rattle.vbi_story.specs.Story.{reading_at}
use Rattle.vbi_story.proofs.Chains.{weight_more}
use Rattle.vbi_story.proofs.chain.chain_from.Goals as goal

pub loop-end-preserved : goal.loop-end-preserved
loop-end-preserved c =
    let told = c.args.told.now in
    let end = c.loop-end.end in
    let was = c.loop-end.invariant in
    let inside : end < length told = omega arith in
    let here : c.reading_at-weight-in-loop-end.result.weight ≡ (reading_at told end).weight
    = ap (λ (r : NumberReading). r.weight) c.reading_at-weight-in-loop-end.ensures in
    record {
      some = omega (arith, was.some);
      inside = omega arith;
      steps = λ i after before. elim (cases_eq i end) [
        | inl e ↦ rw e (omega (arith, c.step_to.ensures, c.if-step_to-most.true))
        | inr ne ↦ was.steps i after (omega arith)
      ];
      weight = omega (arith, here, was.weight, weight_more told c.args.begin end (omega (arith, was.some)) inside);
      few = omega (arith, here, was.few, c.requires.light end inside);
    }
