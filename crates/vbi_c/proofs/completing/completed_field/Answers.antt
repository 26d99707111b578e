use Rattle.std.proofs.Common.{◌∙◌, sym, subst, inl, inr, refl}
use Rattle.vbi_side.specs.Votes.{IsCompleted}
use Rattle.vbi_c.proofs.completing.completed_field.Goals as goal

pub returns-in-Some : goal.returns-in-Some
returns-in-Some c =
    let word = c.in-Some.word in
    inl (
      word,
      subst (λ line. IsCompleted c.args.system line c.args.seen.now c.args.field word) c.line_16_of.ensures
          ((c.completed_time.ensures word).0 c.in-Some.is),
      c.with_time.ensures,
    )

pub returns-in-None : goal.returns-in-None
returns-in-None c = inr (
  λ word completed. let found = sym c.in-None.is ∙ (c.completed_time.ensures word).1
      (subst (λ line. IsCompleted c.args.system line c.args.seen.now c.args.field word) (sym c.line_16_of.ensures)
      completed) in cc,
  refl,
)
