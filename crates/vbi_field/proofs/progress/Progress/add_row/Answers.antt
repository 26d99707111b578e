use Rattle.vbi_field.proofs.Common.{◌-◌, ◌++◌, ◌∙◌, refl, arith, rows_at}
use Rattle.vbi_field.proofs.AddedRows.{added_inside, added_whole, added_in_part}
use Rattle.vbi_field.proofs.progress.Progress.add_row.Goals as goal

pub returns-in_default-clause-adds : goal.returns-in_default-clause-adds
returns-in_default-clause-adds g c = λ z b at row field.
    let over = c.in_default.ensures.advances.over z b at row in
    added_inside _ _ _ c.args.outlet.now at b over.0 over.1

pub returns-in_ok-put-clause-adds : goal.returns-in_ok-put-clause-adds
returns-in_ok-put-clause-adds g c = λ z b at row field.
    let over = c.in-Some.ensures.advances.over z b at row in
    let counts = c.in-Some.ensures.field in
    added_whole _ _ c.args.outlet.now _ at b over.0 counts.0
    (rows_at c.args.config.now (z ++ b) c.args.self.now.fields) refl (c.advance.new.self.fields - 1)
    (omega (arith, counts.0)) _
    (c.as_str.ensures.value ∙ c.entry.ensures (rows_at c.args.config.now (z ++ b) c.args.self.now.fields) over.2
    (λ keeps. field keeps over.1)) c.in_ok-put.ensures.puts c.in_ok-put.ensures.ok

pub returns-in_err-put-clause-adds : goal.returns-in_err-put-clause-adds
returns-in_err-put-clause-adds g c = λ z b at row field.
    let over = c.in-Some.ensures.advances.over z b at row in
    let counts = c.in-Some.ensures.field in
    added_in_part _ _ c.args.outlet.now _ at b over.0 counts.0
    (rows_at c.args.config.now (z ++ b) c.args.self.now.fields) refl (c.advance.new.self.fields - 1)
    (omega (arith, counts.0)) _
    (c.as_str.ensures.value ∙ c.entry.ensures (rows_at c.args.config.now (z ++ b) c.args.self.now.fields) over.2
    (λ keeps. field keeps over.1)) c.in_err-put.ensures.puts c.in_err-put.ensures.short _
    c.from_residual.ensures.0
