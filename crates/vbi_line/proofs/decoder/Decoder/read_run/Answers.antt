use Rattle.vbi_line.proofs.Common.{arith, sym, subst, ◌∙◌, ℕ, ◌+◌, ◌-◌, ◌<◌, state_of, DiesAfter}
use Rattle.vbi_line.proofs.RunSteps.{free, within, fits, dies}
use Rattle.vbi_line.proofs.decoder.Decoder.read_run.Goals as goal

pub returns-then-length-more-clause-ok : goal.returns-then-length-more-clause-ok
returns-then-length-more-clause-ok c =
    let begun = c.in-Some in
    let limit = c.in-Some-limit in
    c.grown.ensures.state
    ∙ sym (within c.args.system (state_of c.args.self) c.args.level begun.begun begun.ensures.some c.args.count
    limit.limit c.requires.some limit.ensures (omega (arith, c.length.ensures, c.if-length-more.true)))

pub returns-else-length-more-clause-err : goal.returns-else-length-more-clause-err
returns-else-length-more-clause-err c =
    let begun = c.in-Some in
    let limit = c.in-Some-limit in
    let state = state_of c.args.self in
    let P : ℕ → Type 0 = λ n. (1 + limit.limit - n < c.args.count)
    × DiesAfter c.args.system state c.args.level (1 + limit.limit - n) in
    let fit = fits c.args.system state c.args.level begun.begun begun.ensures.some limit.limit c.requires.fit
    limit.ensures in
    subst P (sym c.length-else-length-more.ensures) (
      omega (arith, c.length.ensures, c.if-length-more.false, fit),
      dies c.args.system state c.args.level begun.begun begun.ensures.some limit.limit c.requires.fit limit.ensures,
    )

pub returns-in-None-clause-ok : goal.returns-in-None-clause-ok
returns-in-None-clause-ok c =
    let begun = c.in-Some in
    c.grown-in-None.ensures.state
    ∙ sym (free c.args.system (state_of c.args.self) c.args.level begun.begun begun.ensures.some c.args.count
    c.requires.some c.in-None.ensures)

-- kept for time: 3 s
pub overflow_sub-result : goal.overflow_sub-result
overflow_sub-result c = grind arith
