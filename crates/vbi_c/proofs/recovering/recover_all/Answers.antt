use Rattle.std.proofs.Common.{◌≡◌, ◌∙◌, ℕ, List, Bool, ap, subst}
use Rattle.vbi_c.specs.Types.{LdvbiFieldReadings}
use Rattle.vbi_c.specs.Erased.{erased_of}
use Rattle.vbi_c.specs.Readings.{field_in}
use Rattle.vbi_c.specs.Recovering.{AreRecovered, code_bytes}
use Rattle.vbi_c.proofs.Placed.{each_set}
use Rattle.vbi_c.proofs.recovering.recover_all.Goals as goal

pub loop-i-preserved : goal.loop-i-preserved
loop-i-preserved c =
    let setup = c.args.setup.now in
    let field : List ℕ = field_in setup.system c.args.stream.now c.loop-i.i in
    let rows : c.code_bytes.result.now ≡ code_bytes setup.system field
    = c.code_bytes.ensures.rows ∙ ap (code_bytes setup.system) c.field_in-field.ensures.field in
    let marks_of = erased_of c.args.erased.now setup.system in
    let here : AreRecovered setup (code_bytes setup.system field) (marks_of c.loop-i.i) c.recover_three.result
    = subst (λ (bytes : List ℕ). AreRecovered setup bytes (marks_of c.loop-i.i) c.recover_three.result) rows
    (subst (λ (marks : List Bool). AreRecovered setup c.code_bytes.result.now marks c.recover_three.result)
    c.mark_field-place.ensures.marks c.recover_three.ensures) in
    record {
      recovered = each_set (λ (k : ℕ) (readings : LdvbiFieldReadings). AreRecovered setup
          (code_bytes setup.system (field_in setup.system c.args.stream.now k)) (marks_of k) readings)
          c.loop-i.readings c.loop-i.i c.recover_three.result c.loop-i.invariant.recovered here;
      inside = c.mark_field-place.ensures.place;
      begins = c.mark_field-place.ensures.begins;
    }
