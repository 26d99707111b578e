use Rattle.std.proofs.Common.{refl, ap, subst, sym, ◌∙◌}
use Rattle.std.specs.Prelude.{unwrap_or}
use Rattle.vbi_side.specs.Nearest.{AllPass}
use Rattle.vbi_side.specs.DueNumbers.{slack_of, IsLeft}
use Rattle.vbi_side.specs.Numbers.{IsMarked}
use Rattle.vbi_side.specs.Paces.{spot, nearly}
use Rattle.vbi_side.proofs.Around.{nothing_there, none_some, left_counts, left_nearly, nearest_leave, not_both}
use Rattle.vbi_side.proofs.due_numbers.left_around.Goals as goal

pub returns-in_err-number : goal.returns-in_err-number
returns-in_err-number c n =
    let a = c.args in
    let b = c.in_ok-before.before in
    let d = c.in_ok-after.after in
    nothing_there c.from_residual-in_err-number.result n c.from_residual-in_err-number.ensures
    (λ left. none_some c.counted.result n c.in_err-number.was ((c.counted.ensures n).1
    (left_counts a.numbers.now a.pace a.field b.field b.number d.field d.number n
    c.in_ok-before.ensures.some c.in_ok-after.ensures.some.1 left)))

pub returns-then-all_nearly : goal.returns-then-all_nearly
returns-then-all_nearly c n =
    let a = c.args in
    let b = c.in_ok-before.before in
    let d = c.in_ok-after.after in
    let counts = (c.counted.ensures c.in_ok-number.number).0 c.in_ok-number.was in
    let left = nearest_leave a.numbers.now a.pace a.field b.field b.number d.field d.number c.in_ok-number.number
    c.in_ok-before.ensures.some c.in_ok-after.ensures.some.1 counts.0 counts.1
    (c.all_nearly.ensures.0 c.if-all_nearly.true) in (
      λ e. subst (IsLeft (IsMarked a.numbers.now) a.pace a.field) (ap (λ o. unwrap_or o n) e) left,
      λ other. sym c.in_ok-number.was ∙ (c.counted.ensures n).1 (left_counts a.numbers.now a.pace a.field b.field
          b.number d.field d.number n c.in_ok-before.ensures.some c.in_ok-after.ensures.some.1 other),
    )

pub returns-else-all_nearly : goal.returns-else-all_nearly
returns-else-all_nearly c n =
    let a = c.args in
    let b = c.in_ok-before.before in
    let d = c.in_ok-after.after in
    nothing_there _ n refl (λ left.
    let is = sym c.in_ok-number.was ∙ (c.counted.ensures n).1 (left_counts a.numbers.now a.pace a.field b.field
    b.number d.field d.number n c.in_ok-before.ensures.some c.in_ok-after.ensures.some.1 left) in
    not_both c.if-all_nearly.false (c.all_nearly.ensures.1
    (subst (λ m. AllPass (IsMarked a.numbers.now) (nearly a.pace (slack_of b.field d.field)
    (spot a.field m)) b.field d.field)
    (sym (ap (λ o. unwrap_or o n) is))
    (left_nearly a.numbers.now a.pace a.field b.field b.number d.field d.number n
    c.in_ok-before.ensures.some c.in_ok-after.ensures.some.1 left))))
