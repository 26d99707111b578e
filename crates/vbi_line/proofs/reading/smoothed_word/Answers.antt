use Rattle.vbi_line.proofs.Common.{arith, ◌≤◌, ◌+◌, sym, subst, ℕ, Bool, Some, None, Decoder, state_of, IsSound, run_of}
use Rattle.std.proofs.Common.{Option, IfNone, IfOk, IfErr, ◌≡◌, ap}
use Rattle.std.specs.Prelude.{Result, Ok, Err, unwrap_or}
use Rattle.std.specs.Result.{result_ok}
use Rattle.std.proofs.lemmas.Option.{IfSome_then}
use Rattle.vbi_line.proofs.RunLoop.{counted}
use Rattle.vbi_line.proofs.SmoothRuns.{fits, short_on, short_dies, first_dies, middle_fits, long_on, second_dies}
use Rattle.vbi_line.proofs.SmoothRuns.{fits_end, shows, none, Halfway}
use Rattle.vbi_line.proofs.reading.smoothed_word.Goals as goal
use Rattle.vbi_line.proofs.reading.smoothed_word.Goals.{then-count-lt4+in_ok-decoder}
use Rattle.vbi_line.proofs.reading.smoothed_word.Goals.{else-count-lt4+in_ok-begun+in_ok-decoder-2}

-- what a call ensures of an answer that it has
ok_then : (P : Decoder → Type 0) (r : Result Decoder ℕ) (d : Decoder) → Some d ≡ result_ok r → IfOk r P → P d
ok_then P (Ok x) d e p = subst P (sym (ap (λ (o : Option Decoder). unwrap_or o d) e)) p
ok_then P (Err n) d e p = cc

-- what it ensures of an error, if it has no answer
err_then : {Q : ℕ → Type 0} {G : Type 0} (r : Result Decoder ℕ) → None ≡ result_ok r → IfErr r Q
    → ((n : ℕ) → Q n → G) → G
err_then (Ok x) e q f = cc
err_then (Err n) e q f = f n q

none_is : {Q : Type 0} (r : Option ℕ) → r ≡ None → Q → IfNone r Q
none_is None e q = q
none_is (Some w) e q = cc

pub read_run-requires-clause-fit : goal.read_run-requires-clause-fit
read_run-requires-clause-fit c =
    fits c.loop-column.invariant.halfway (counted c.from-count.ensures c.next_run-level.ensures)

pub returns-in_err-decoder-clause-none : goal.returns-in_err-decoder-clause-none
returns-in_err-decoder-clause-none c =
    let run = counted c.from-count.ensures c.next_run-level.ensures in
    none_is _ c.from_residual.ensures (err_then c.read_run.result c.in_err-decoder.ensures.value c.read_run.ensures.err
    (λ lived dies. short_dies c.loop-column.invariant.halfway run (omega (arith, c.if-count-lt4.true)) lived dies.0
    dies.1))

pub read_run-requires-else-count-lt4-clause-fit : goal.read_run-requires-else-count-lt4-clause-fit
read_run-requires-else-count-lt4-clause-fit c =
    fits c.loop-column.invariant.halfway (counted c.from-count.ensures c.next_run-level.ensures)

pub read_run-requires-else-count-lt4-2-clause-fit : goal.read_run-requires-else-count-lt4-2-clause-fit
read_run-requires-else-count-lt4-2-clause-fit c =
    let run = counted c.from-count.ensures c.next_run-level.ensures in
    middle_fits c.loop-column.invariant.halfway run (omega (arith, c.if-count-lt4.false))
    (state_of c.in_ok-begun.begun) (ok_then _ c.read_run-else-count-lt4.result c.in_ok-begun.begun
    c.in_ok-begun.ensures.value c.read_run-else-count-lt4.ensures.ok)

pub returns-in_err-decoder-2-clause-none : goal.returns-in_err-decoder-2-clause-none
returns-in_err-decoder-2-clause-none c =
    let run = counted c.from-count.ensures c.next_run-level.ensures in
    let begun = ok_then _ c.read_run-else-count-lt4.result c.in_ok-begun.begun c.in_ok-begun.ensures.value
    c.read_run-else-count-lt4.ensures.ok in
    none_is _ c.from_residual-in_err-decoder-2.ensures (err_then c.read_run-else-count-lt4-2.result
    c.in_err-decoder-2.ensures.value c.read_run-else-count-lt4-2.ensures.err
    (λ lived dies. second_dies c.loop-column.invariant.halfway run (omega (arith, c.if-count-lt4.false))
    (state_of c.in_ok-begun.begun) begun lived dies.0 dies.1))

pub returns-in_err-begun-clause-none : goal.returns-in_err-begun-clause-none
returns-in_err-begun-clause-none c =
    let run = counted c.from-count.ensures c.next_run-level.ensures in
    none_is _ c.from_residual-in_err-begun.ensures (err_then c.read_run-else-count-lt4.result
    c.in_err-begun.ensures.value c.read_run-else-count-lt4.ensures.err
    (λ lived dies. first_dies c.loop-column.invariant.halfway run (omega (arith, c.if-count-lt4.false)) lived dies.0
    dies.1))

pub loop-column-preserved : goal.loop-column-preserved
loop-column-preserved c =
    let run = counted c.from-count.ensures c.next_run-level.ensures in
    let halfway = c.loop-column.invariant.halfway in
    let end : ℕ = c.loop-column.column + c.from-count.result in
    let at : Bool → Decoder → Type 0 = λ out r. Halfway c.args.system c.args.packed.now end out (state_of r) in
    let far : Decoder → Type 0 = λ r. run_of r ≤ end in
    elim c.if-count-lt4.branch [
      | then-count-lt4+in_ok-decoder w ↦
          let next : Decoder = w.in_ok-decoder.decoder in
          let is = w.in_ok-decoder.ensures.value in
          let ok = ok_then _ w.read_run.result next is w.read_run.ensures.ok in
          let sound = ok_then _ w.read_run.result next is w.read_run.ensures.sound in
          let on : at c.loop-column.settled next
          = short_on halfway run (omega (arith, w.if-count-lt4.true)) (state_of next) ok in
          let grown : far next = omega (arith, sound.1, c.loop-column.invariant.run) in
          record {
            inside = run.inside;
            halfway = subst (λ (out : Bool). at out c.if-count-lt4.decoder) (sym w.settled-is)
                (subst (at c.loop-column.settled) (sym w.decoder-is) on);
            sound = subst (λ (r : Decoder). IsSound r) (sym w.decoder-is) sound.0;
            run = subst far (sym w.decoder-is) grown;
          }
      | else-count-lt4+in_ok-begun+in_ok-decoder-2 w ↦
          let begun : Decoder = w.in_ok-begun.begun in
          let next : Decoder = w.in_ok-decoder-2.decoder in
          let first = w.read_run-else-count-lt4 in
          let second = w.read_run-else-count-lt4-2 in
          let begins = ok_then _ first.result begun w.in_ok-begun.ensures.value first.ensures.ok in
          let begun_sound = ok_then _ first.result begun w.in_ok-begun.ensures.value first.ensures.sound in
          let goes = ok_then _ second.result next w.in_ok-decoder-2.ensures.value second.ensures.ok in
          let sound = ok_then _ second.result next w.in_ok-decoder-2.ensures.value second.ensures.sound in
          let on : at c.next_run-level.result.0 next
          = long_on halfway run (omega (arith, w.if-count-lt4.false)) (state_of begun) begins (state_of next) goes in
          let grown : far next = omega (
            arith,
            begun_sound.1,
            sound.1,
            c.loop-column.invariant.run,
            w.if-count-lt4.false,
          ) in
          record {
            inside = run.inside;
            halfway = subst (λ (out : Bool). at out c.if-count-lt4.decoder) (sym w.settled-is)
                (subst (at c.next_run-level.result.0) (sym w.decoder-is) on);
            sound = subst (λ (r : Decoder). IsSound r) (sym w.decoder-is) sound.0;
            run = subst far (sym w.decoder-is) grown;
          }
    ]

pub word-requires-clause-fit : goal.word-requires-clause-fit
word-requires-clause-fit c =
    fits_end c.loop-column.invariant.halfway (omega (arith, c.loop-column-test.false, c.width.ensures))

pub returns-clause-some : goal.returns-clause-some
returns-clause-some c = IfSome_then c.word.result c.word.ensures.some (λ w e.
    shows c.loop-column.invariant.halfway (omega (arith, c.loop-column-test.false, c.width.ensures)) w e.0 e.1)

none_then : {P Q : Type 0} (r : Option ℕ) → IfNone r P → (P → Q) → IfNone r Q
none_then None p f = f p
none_then (Some w) p f = tt

pub returns-clause-none : goal.returns-clause-none
returns-clause-none c = none_then c.word.result c.word.ensures.none (λ e.
    none c.loop-column.invariant.halfway (omega (arith, c.loop-column-test.false, c.width.ensures)) e)
