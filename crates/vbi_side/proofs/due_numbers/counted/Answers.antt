use Rattle.std.proofs.Common.{arith, ap, refl}
use Rattle.std.specs.Prelude.{Some, unwrap_or}
use Rattle.vbi_side.proofs.Around.{nothing_there}
use Rattle.vbi_side.proofs.DueLemmas.{counted_some, counted_none}
use Rattle.vbi_side.proofs.due_numbers.counted.Goals as goal

pub returns-then-number-pictures : goal.returns-then-number-pictures
returns-then-number-pictures c n =
    let a = c.args in
    let p = counted_some a.pace a.before.field a.before.number a.field a.after.field a.after.number c.pictures.result
    c.pictures-2.result _ n c.requires.first c.requires.last c.pictures.ensures.counted
    c.pictures-2.ensures.counted (omega (arith, c.from.ensures))
    (omega (arith, c.from-2.ensures, c.if-number-pictures.true)) in
    (λ e. p.0 (ap (λ o. unwrap_or o n) e), λ both. ap Some (p.1 both))

pub returns-else-number-pictures : goal.returns-else-number-pictures
returns-else-number-pictures c n =
    let a = c.args in
    nothing_there _ n refl (counted_none a.pace a.before.field a.before.number a.field a.after.field a.after.number
    c.pictures.result c.pictures-2.result n c.requires.first c.requires.last c.pictures.ensures.counted
    c.pictures-2.ensures.counted
    (λ e. absurd (omega (arith, e, c.from.ensures, c.from-2.ensures, c.if-number-pictures.false))))
