use Rattle.vbi_field.proofs.Common.{ap, ◌∙◌, arith, length, height_of, word_at, length-drawn_line_of}
use Rattle.vbi_field.proofs.Counts.{sizes_of}
use Rattle.vbi_field.proofs.PutFieldSteps.{Putting-none, Putting-more, put_whole, put_part}
use Rattle.vbi_field.proofs.drawing.put_field.Goals as goal

pub loop-row-init : goal.loop-row-init
loop-row-init g c = Putting-none _ _ _ _ _ c.requires.black

pub put_all-requires-clause-few : goal.put_all-requires-clause-few
put_all-requires-clause-few g c =
    let config = c.args.config.now in
    let long = ap length c.next_line.ensures
    ∙ length-drawn_line_of config.system config.levels (word_at c.args.words.now c.loop-row.row) in
    let sizes = sizes_of c.args.config.now.system in
    omega arith

pub returns-in-Err-clause-part : goal.returns-in-Err-clause-part
returns-in-Err-clause-part g c =
    (put_part c.loop-row.invariant (omega (arith, ap height_of c.system.ensures))
    c.next_line.ensures c.put_all.ensures.puts c.in-Err.ensures.short).0

pub returns-in-Err-clause-most : goal.returns-in-Err-clause-most
returns-in-Err-clause-most g c =
    (put_part c.loop-row.invariant (omega (arith, ap height_of c.system.ensures))
    c.next_line.ensures c.put_all.ensures.puts c.in-Err.ensures.short).1

pub loop-row-preserved : goal.loop-row-preserved
loop-row-preserved g c =
    Putting-more c.loop-row.invariant c.next_line.ensures c.put_all.ensures.puts
    c.in-Ok.ensures.ok
    c.in-Ok.ensures.serves.no_error c.put_all.ensures.serves.same

pub returns : goal.returns
returns g c =
    let whole =
    put_whole c.loop-row.invariant (omega (arith, ap height_of c.system.ensures)) in
    let v = c.loop-row.invariant in
    record {
      black = whole.1;
      serves = record { same = v.same; no_error = v.errors; failed = tt };
      ok = whole.0;
      part = tt;
      least = v.least;
      most = whole.2;
      fault = tt;
    }
