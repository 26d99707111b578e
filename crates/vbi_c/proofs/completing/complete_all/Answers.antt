use Rattle.std.proofs.Common.{◌≡◌, Some, subst, arith}
use Rattle.std.specs.Prelude.{slice_get}
use Rattle.std.proofs.lemmas.Option.{get_or_from_slice_get, slice_get_within}
use Rattle.std.proofs.lemmas.List.{length-set}
use Rattle.vbi_c.specs.Types.{LdvbiFieldReadings}
use Rattle.vbi_c.specs.Completing.{IsCompletedField}
use Rattle.vbi_c.proofs.CompletedTimes.{are_completed}
use Rattle.vbi_c.proofs.Placed.{each_set}
use Rattle.vbi_c.proofs.completing.complete_all.Goals as goal

pub loop-i-preserved : goal.loop-i-preserved
loop-i-preserved c =
    let readings = c.args.readings.now in
    let seen = c.args.seen.now in
    let i = c.loop-i.i in
    let system = c.args.system in
    let after = c.completed_field.result in
    let each = each_set
    (λ k x. (before : LdvbiFieldReadings) → slice_get readings k ≡ Some before
    → IsCompletedField system seen k before x)
    c.loop-i.completed i after (λ k x less there before here. c.loop-i.invariant.each k before x less here there)
    (λ before here. subst (λ f. IsCompletedField system seen i f after) (get_or_from_slice_get readings i before _ here)
    c.completed_field.ensures) in
    record {
      count = omega (arith, c.loop-i.invariant.count, length-set c.loop-i.completed i after);
      each = λ j before x less here there. each j x less there before here;
    }

pub returns : goal.returns
returns c =
    are_completed c.args.system c.args.readings.now c.args.seen.now c.loop-i.completed c.loop-i.invariant.count
    (λ j before x here there. c.loop-i.invariant.each j before x
    (omega (arith, slice_get_within c.args.readings.now j before here)) here there)
