use Rattle.std.proofs.Common.{◌≡◌, ◌+◌, suc, refl, arith, subst, inl, inr}
use Rattle.std.proofs.lemmas.Bool.Decides.{eqb_tells}
use Rattle.std.proofs.lemmas.Option.{slice_get_within}
use Rattle.vbi_whole.specs.BlankFields.{IsBlankTo, IsBlankTold}
use Rattle.vbi_side.specs.Numbers.{believed}
use Rattle.vbi_whole.proofs.BlankFields.{first_of_blanks}
use Rattle.vbi_whole.proofs.blank_fields.first_blank.Goals as goal

pub returns-in-Some : goal.returns-in-Some
returns-in-Some c =
    let rule = c.args.rule in
    let next : suc c.in-Some.before ≡ c.in-Some.before + 1 = omega arith in
    subst (IsBlankTold rule c.args.numbers.now) next
    (first_of_blanks rule c.args.numbers.now c.in-Some.before c.loop-field.field
    c.in-Some.ensures.some c.loop-field.invariant.none)

pub loop-field-preserved : goal.loop-field-preserved
loop-field-preserved c = record {
  last = c.last_at-last.ensures;
  none = λ k less i blank. elim (eqb_tells k c.loop-field.field) [
    | inl (t, same) ↦ c.in_default.ensures.none refl i
        (subst (IsBlankTo c.args.rule c.args.numbers.now i) same
        blank)
    | inr (f, other) ↦ c.loop-field.invariant.none k (omega (arith, less, other)) i blank
  ];
}

pub returns : goal.returns
returns c = λ i blank. c.loop-field.invariant.none blank.0 (omega (
  arith,
  slice_get_within c.args.numbers.now blank.0 (believed blank.1.n) blank.1.on.neighbours.there,
)) i blank.1
