use Rattle.std.proofs.Common.{subst}
use Rattle.vbi_seek.specs.FieldLines.{Side}
use Rattle.vbi_seek.specs.Neighbours.{AreBesideIn}
use Rattle.vbi_seek.specs.NumberLeads.{IsCompleteIn}
use Rattle.vbi_seek.specs.NumberSearch.{Numbers}
use Rattle.vbi_seek.proofs.Beside.{led_to}
use Rattle.vbi_seek.proofs.number_search.seek_number.Goals as goal

pub returns-clause-complete : goal.returns-clause-complete
returns-clause-complete c =
    let numbers : Side → Numbers = λ side. record { side = side; judging = c.args.seek.judging } in
    subst (λ (side : Side). IsCompleteIn (numbers side) c.args.number c.look_around.result) c.new.ensures
    (λ t a b pace few known leads.
    c.look_around.ensures.complete t pace known (c.place_of.ensures.leads t a b few leads))

pub returns-clause-neighbours : goal.returns-clause-neighbours
returns-clause-neighbours c =
    let numbers : Side → Numbers = λ side. record { side = side; judging = c.args.seek.judging } in
    let (span, looked, placed) = c.look_around.ensures.beside in
    subst (λ (side : Side). AreBesideIn (numbers side) c.args.number c.look_around.result) c.new.ensures (
      span,
      looked,
      λ t a b few leads. led_to _ c.args.number c.look_around.result span t looked
          (placed t (c.place_of.ensures.leads t a b few leads)),
    )
