use Rattle.std.proofs.Common.{◌≡◌, ℕ, suc, ◌+◌, ◌*◌, ◌<◌, arith, sym, subst, get_or}
use Rattle.vbi_near.specs.declared.codes.Choice.{Choice}
use Rattle.vbi_near.proofs.{Common.IsChoice, Common.AreBest, BestDigits.choice-same, BestDigits.with_digit_is}
use Rattle.vbi_near.proofs.codes.with_digit.Goals as goal

pub returns-clause-best : goal.returns-clause-best
returns-clause-best c cost base least greatest n is from to same =
    let choice : Choice = c.choice_of-choice.result in
    let high : c.args.to + 1 ≡ greatest n + 1 = omega (arith, to) in
    let there : IsChoice (λ v. get_or c.args.costs.now v 0) (least n) (greatest n + 1) choice
    = subst (λ (h : ℕ). IsChoice (λ v. get_or c.args.costs.now v 0) (least n) h choice) high
    (subst (λ (l : ℕ). IsChoice (λ v. get_or c.args.costs.now v 0) l (c.args.to + 1) choice) (sym from)
    c.choice_of-choice.ensures) in
    let top : greatest n < 16 = omega (arith, to, c.requires.inside) in
    let few : choice.least < 268435456
    = omega (
      arith,
      c.choice_of-choice.ensures.exact,
      c.requires.few choice.value
          (omega (arith, c.choice_of-choice.ensures.before, c.requires.inside)),
    ) in
    subst (λ (m : ℕ). AreBest cost base least greatest (suc n) (record {
      word = 16 * c.args.best.word + choice.value;
      distance = c.args.best.distance + choice.least;
      margin = m;
    })) (sym c.min.ensures)
    (with_digit_is cost base least greatest n c.args.best is choice
    (choice-same (λ v. get_or c.args.costs.now v 0) (cost n) (least n) (greatest n + 1) choice
    (λ v l. same v (omega (arith, l, top))) there) top few)
