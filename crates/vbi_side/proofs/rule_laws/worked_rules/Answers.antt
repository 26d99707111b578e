use Rattle.std.proofs.Common.{◌≡◌, ℕ, refl, ap, arith}
use Rattle.std.specs.Prelude.{Option, unwrap_or}
use Rattle.vbi_side.specs.Types.{Sightings}
use Rattle.vbi_side.specs.Worked.{blank, field_of, instead_of}
use Rattle.vbi_side.proofs.rule_laws.worked_rules.Goals as goal

at_instead : Option Sightings → ℕ
at_instead o = (unwrap_or o blank).instead

at_weight : Option Sightings → ℕ
at_weight o = (unwrap_or o blank).line_17.weight

at_other : Option Sightings → ℕ
at_other o = (unwrap_or o blank).line_18.weight

at_number : Option Sightings → ℕ
at_number o = (unwrap_or o blank).line_17.number

at_second : Option Sightings → ℕ
at_second o = (unwrap_or o blank).line_18.number

pub returns-clause-instead : goal.returns-clause-instead
unfolding at_instead
returns-clause-instead c = (
  (instead_of 0 0 0 0, refl, omega arith),
  λ (field, at, more). let e : 0 ≡ field.instead = ap at_instead at in omega (arith, e, more),
)

pub returns-clause-twice : goal.returns-clause-twice
unfolding at_weight at_other at_number at_second
returns-clause-twice c = (
  (field_of 5 2 5 2, refl, omega arith, omega arith, refl),
  λ (field, at, more, other, same).
      let a : 5 ≡ field.line_17.number = ap at_number at in
      let b : 6 ≡ field.line_18.number = ap at_second at in omega (arith, a, b, same),
  λ (field, at, more, other, same). let e : 1 ≡ field.line_17.weight = ap at_weight at in omega (arith, e, more),
  λ (field, at, more, other, same). let e : 1 ≡ field.line_18.weight = ap at_other at in omega (arith, e, other),
)
