use Rattle.vbi_field.proofs.Common.{IsTrue, HoldsRows, ◌≡◌, ◌++◌, ◌<◌, ◌≤◌, ◌+◌, ◌*◌, refl, ◌∙◌, arith, rules}
use Rattle.vbi_field.proofs.Common.{height_of, line_bytes}
use Rattle.std.proofs.Math.Nat.{le_of_lt}
use Rattle.vbi_field.proofs.Counts.{row_fits}
use Rattle.vbi_field.proofs.PullEnds.{ended, read_fault, at_limit}
use Rattle.vbi_field.proofs.PullFaults.{head_fault}
use Rattle.vbi_field.proofs.PullRows.{row_came, step, entry_fault}
use Rattle.vbi_field.proofs.HeldRows.{holds_none}
use Rattle.vbi_field.proofs.PulledRows.{holds_kept, kept_field, kept_next}
use Rattle.vbi_field.proofs.Pulled.{start}
use Rattle.vbi_field.proofs.run.run.Goals as goal

pub loop-row-init : goal.loop-row-init
loop-row-init g c =
    let none = c.default-progress.ensures in
    record {
      pulled = start _ g.R.Read.remaining _ c.args.config.now c.args.intake.now c.args.outlet.now c.put.new.outlet
          c.default-progress.result c.as_str.result.now c.requires.intake c.requires.outlet
          (c.as_str.ensures.value ∙ c.head.ensures) c.as_str.ensures.fits c.in_ok-put.ensures.puts
          c.in_ok-put.ensures.ok c.in_ok-put.ensures.serves.no_error c.in_ok-put.ensures.serves.same none.0 none.1.0
          (rw (none.1.1.0, none.1.1.1.0, none.1.1.1.1) refl);
      long = refl;
      holds = λ keeps. holds_none c.args.config.now _ _ _ _ none.1.0;
    }

pub returns-in_err-put-clause-run : goal.returns-in_err-put-clause-run
returns-in_err-put-clause-run g c =
    head_fault _ g.R.Read.remaining _ c.args.config.now c.args.intake.now _ _ c.as_str.result.now c.requires.intake
    c.requires.outlet (c.as_str.ensures.value ∙ c.head.ensures) c.in_err-put.ensures.puts
    c.in_err-put.ensures.serves.failed c.in_err-put.ensures.short c.from_residual.result (search rules)

pub loop-row-preserved : goal.loop-row-preserved
loop-row-preserved g c =
    let w = c.loop-row.invariant in
    let v = w.pulled in
    let t = rw c.in-Full.is at c.in_ok-fill_line.ensures.takes in
    let same = c.in_ok-fill_line.ensures.same in
    let reads = c.take_reading-reading.ensures.reads in
    let reader = c.take_reading-reading.ensures.reader in
    let came = row_came v (search rules) c.levels.ensures t reads reader
    same in
    let more : IsTrue g.K.Kind.KEEPS → HoldsRows c.args.config.now (v.z ++ t.bytes) c.loop-row.progress.fields
    (c.loop-row.progress.row + 1) c.keep_row.new.held =
    holds_kept v t came w.holds c.keep_row.ensures.holds in
    let last : c.loop-row.row + 1 ≤ c.args.config.now.max_fields * height_of c.args.config.now.system =
    omega (arith, c.row_limit-row-end.ensures.value) in
    let e = c.in_ok-add_row-in-Full.ensures in
    let added = e.adds v.z t.bytes v.at came (λ keeps ends. kept_field v t more keeps ends) in
    let after = step v (search rules) c.levels.ensures t reads reader same
    c.add_row.new.outlet c.add_row.new.self e.next e.rises added e.serves.no_error e.serves.same last in
    record {
      pulled = after.0;
      long = c.keep_row.ensures.long ∙ w.long;
      holds = λ keeps. kept_next v t c.add_row.new.self after.1 more keeps e.next;
    }

pub returns-in_err-fill_line-clause-run : goal.returns-in_err-fill_line-clause-run
returns-in_err-fill_line-clause-run g c =
    let last : c.loop-row.row ≤ c.args.config.now.max_fields * height_of c.args.config.now.system =
    omega (arith, c.row_limit-row-end.ensures.value) in
    read_fault c.loop-row.invariant.pulled c.in_err-fill_line.ensures.takes last c.from_residual-in_err-fill_line.result
    (search rules)

pub returns-in_err-add_row-in-Full-clause-run : goal.returns-in_err-add_row-in-Full-clause-run
returns-in_err-add_row-in-Full-clause-run g c =
    let v = c.loop-row.invariant.pulled in
    let t = rw c.in-Full.is at c.in_ok-fill_line.ensures.takes in
    let same = c.in_ok-fill_line.ensures.same in
    let reads = c.take_reading-reading.ensures.reads in
    let reader = c.take_reading-reading.ensures.reader in
    let came = row_came v (search rules) c.levels.ensures t reads reader
    same in
    let last : c.loop-row.row + 1 ≤ c.args.config.now.max_fields * height_of c.args.config.now.system =
    omega (arith, c.row_limit-row-end.ensures.value) in
    let e = c.in_err-add_row-in-Full.ensures in
    let more : IsTrue g.K.Kind.KEEPS → HoldsRows c.args.config.now (v.z ++ t.bytes) c.loop-row.progress.fields
    (c.loop-row.progress.row + 1) c.keep_row.new.held =
    holds_kept v t came c.loop-row.invariant.holds c.keep_row.ensures.holds in
    let added = e.adds v.z t.bytes v.at came (λ keeps ends. kept_field v t more keeps ends) in
    entry_fault v (search rules) c.levels.ensures t reads reader same c.add_row.new.outlet c.add_row.new.self e.next
    e.field added.0 added.1 e.serves.failed last c.from_residual-in_err-add_row-in-Full.result (search rules)

pub returns-in-Ended-clause-run : goal.returns-in-Ended-clause-run
returns-in-Ended-clause-run g c =
    let t = rw c.in-Ended.is at c.in_ok-fill_line.ensures.takes in
    let got = t.got in
    let v = c.loop-row.invariant.pulled in
    let before : c.loop-row.row < c.args.config.now.max_fields * height_of c.args.config.now.system =
    omega (arith, c.row_limit-row-end.ensures.value) in
    let short : c.in-Ended.bytes < line_bytes c.args.config.now.system = rw (got.count_of, ← v.system) got.short in
    let within = row_fits c.args.config.now.system c.loop-row.row c.args.config.now.max_fields c.in-Ended.bytes before
    (le_of_lt short) in
    ended v c.in-Ended.bytes t refl c.rest-rest.ensures within c.looked.ensures _ c.end.ensures.tail

pub returns-clause-run : goal.returns-clause-run
returns-clause-run g c =
    let last : c.loop-row.row ≡ c.args.config.now.max_fields * height_of c.args.config.now.system =
    omega (arith, c.row_limit-row-end.ensures.value) in
    at_limit c.loop-row.invariant.pulled c.end_at_limit.result last c.end_at_limit.ensures.ends
