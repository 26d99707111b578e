use Rattle.std.proofs.Common.{ℕ, List, ◌-◌, ◌*◌, ◌+◌, ◌++◌, ◌∙◌, take, drop, length, ap, arith, sym, subst}
use Rattle.std.proofs.Math.Nat.{le_of_eq}
use Rattle.vbi_field.specs.Progress.{HoldsOn}
use Rattle.vbi_field.proofs.HeldRows.{put_on}
use Rattle.vbi_field.proofs.run.keep_row.Goals as goal

pub returns-then-is_selected-clause-holds : goal.returns-then-is_selected-clause-holds
returns-then-is_selected-clause-holds g c = λ keeps.
    let inside = c.is_selected.ensures.0 c.if-is_selected.true in
    let on = put_on c.args.config.now.system c.args.held.now c.bytes.result.now (c.args.progress.now.row - 15)
    (omega (arith, inside.0, inside.1)) (le_of_eq (sym (c.requires.room keeps))) (rw c.bytes.ensures c.requires.full)
    c.args.progress.now.row
    (omega (arith, inside.0)) in
    let e = c.copy_row.ensures ∙ ap (λ (n : ℕ). take (n * (c.args.progress.now.row - 15)) c.args.held.now
    ++ (c.bytes.result.now ++ drop (n * (c.args.progress.now.row - 15) + length c.bytes.result.now) c.args.held.now))
    c.line_bytes-size.ensures in
    subst (λ (l : List ℕ). HoldsOn c.args.config.now.system c.args.progress.now.row l c.args.held.now
    c.copy_row.new.held)
    c.bytes.ensures (subst (λ (l : List ℕ). HoldsOn c.args.config.now.system c.args.progress.now.row c.bytes.result.now
    c.args.held.now l) (sym e) on)
