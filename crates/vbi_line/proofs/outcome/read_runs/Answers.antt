use Rattle.vbi_line.proofs.Common.{◌≡◌, ℕ, ◌+◌, ◌-◌, ◌≤◌, ◌<◌, Bool, arith, inl, inr, length, sym, ap, ◌∙◌, subst, not}
use Rattle.vbi_line.proofs.Common.{cases_eq, Outcome, IsOutcome, level_at, IsFit, fit_after, state_at, state_of, IsRun}
use Rattle.std.proofs.Common.{List, take}
use Rattle.vbi_line.proofs.Ending.{fits, whole}
use Rattle.vbi_line.proofs.RunLoop.{goes_on, turned, changes, holds}
use Rattle.vbi_line.proofs.outcome.read_runs.Goals as goal

-- a level that isn't this one is the other
other : (a b : Bool) → (a ≡ b → ⊥) → not b ≡ a
other a b differs = grind arith

pub read_run-requires-clause-fit : goal.read_run-requires-clause-fit
read_run-requires-clause-fit c = subst (IsFit c.args.system) (sym c.loop-column.invariant.state)
    (fit_after c.args.system (take c.loop-column.column c.args.packed.now))

-- the column after a run
behind : (levels : List Bool) (column end : ℕ) (level : Bool) → IsRun levels column level (end - column)
    → column + (end - column) ≡ end
behind levels column end level run = omega (arith, run.some)

pub loop-column-preserved : goal.loop-column-preserved
loop-column-preserved c =
    let run = c.run_end-end.ensures.run in
    let old = c.loop-column in
    let now = old.invariant in
    let levels = c.args.packed.now in
    let at = behind levels old.column c.run_end-end.result old.level run in
    let state = goes_on run c.args.system old.decoder now.state (state_of c.in-Ok.next) c.in-Ok.ensures.ok in
    record {
      inside = omega (arith, run.inside, at);
      state = state ∙ ap (state_at c.args.system levels) at;
      sound = c.in-Ok.ensures.sound.0;
      run = omega (arith, c.in-Ok.ensures.sound.1, now.run, at);
      level = λ inside. other (level_at levels c.run_end-end.result) old.level
          (λ same. run.ends (omega (arith, inside, at)) (ap (level_at levels) at ∙ same));
      turns = λ some inside same.
          turned run c.args.system old.decoder now.state c.in-Ok.next c.in-Ok.ensures.ok (omega (arith, inside, at))
          (ap (level_at levels) at ∙ same);
    }

pub returns-in-Err : goal.returns-in-Err
returns-in-Err c =
    let run = c.run_end-end.ensures.run in
    let now = c.loop-column.invariant in
    let lived = c.in-Err.lived in
    let err = c.in-Err.ensures.err in
    let P : Outcome → Type 0 = λ o. IsOutcome c.args.system c.args.packed.now o in
    elim (cases_eq lived 0) [
      | inl none ↦
          subst P (sym (c.cause.ensures.change none))
          (changes run c.args.system c.loop-column.decoder now.state now.turns lived none err.1)
      | inr some ↦
          let behind : 0 < lived = omega arith in
          subst P (sym (c.cause.ensures.hold behind))
          (holds run c.args.system c.loop-column.decoder now.state lived behind err.0 err.1)
    ]

pub end-requires-clause-fit : goal.end-requires-clause-fit
end-requires-clause-fit c =
    let now = c.loop-column in
    let past : length c.args.packed.now ≤ now.column = omega arith in
    fits c.args.system c.args.packed.now now.decoder
    (whole c.args.system c.args.packed.now now.column past (state_of now.decoder) now.invariant.state)

pub returns : goal.returns
returns c =
    let now = c.loop-column in
    let past : length c.args.packed.now ≤ now.column = omega arith in
    c.end.ensures c.args.packed.now
    (whole c.args.system c.args.packed.now now.column past (state_of now.decoder) now.invariant.state)
