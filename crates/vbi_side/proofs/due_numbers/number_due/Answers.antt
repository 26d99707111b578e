use Rattle.std.proofs.Common.{arith, refl}
use Rattle.vbi_side.proofs.Around.{left_due, marked_at, state_at, instead_at, code_at, twice_at, lines_at}
use Rattle.vbi_side.proofs.Around.{nothing_there, not_both}
use Rattle.vbi_side.proofs.due_numbers.number_due.Goals as goal

pub returns-then-is_believed : goal.returns-then-is_believed
returns-then-is_believed c n =
    let i = c.args.field in
    elim c.then-is_believed.branch [
      | goal.then-is_believed-via-then-is_believed w ↦
          let marked = marked_at c.args.numbers.now i _ (omega (arith, c.requires.inside, c.requires.same))
          (c.is_believed.ensures.0 w.if-is_believed.true) in
          nothing_there _ n refl (λ due. due.unbelieved marked.0 ((c.requires.marked i marked.0).0 marked.1))
      | goal.then-is_believed-via-else-is_believed+then-shows_instead w ↦
          nothing_there _ n refl (λ due. due.vacant (instead_at c.args.fields.now i _ c.requires.inside
          (w.shows_instead.ensures.0 w.if-shows_instead.true)))
      | goal.then-is_believed-via-else-is_believed+else-shows_instead+then-shows_twice w ↦
          nothing_there _ n refl (λ due. due.unread (twice_at c.args.fields.now i _ c.requires.inside
          (w.shows_twice.ensures.0 w.if-shows_twice.true)))
    ]

pub returns : goal.returns
returns c =
    let i = c.args.field in
    left_due c.args.pace c.args.fields.now c.args.numbers.now i c.left_around.result c.requires.marked
    (λ m b. not_both c.if-is_believed.false
    (c.is_believed.ensures.1 (state_at c.args.numbers.now i m _ ((c.requires.marked i m).1 b))))
    (λ instead. not_both c.if-shows_instead.false
    (c.shows_instead.ensures.1 (code_at c.args.fields.now i _ instead)))
    (λ twice. not_both c.if-shows_twice.false
    (c.shows_twice.ensures.1 (lines_at c.args.fields.now i _ twice))) c.left_around.ensures
