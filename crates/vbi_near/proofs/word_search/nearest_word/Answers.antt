use Rattle.std.proofs.Common.{ℕ, ◌≤◌, ◌∙◌, arith, length-set}
use Rattle.vbi_near.proofs.Common.{IsWord, Shades, place_cost, shades_of}
use Rattle.vbi_near.proofs.{CellsAt.set-more, Columns.starts-few, Places.filled}
use Rattle.vbi_near.proofs.word_search.nearest_word.Goals as goal

pub best_bits-requires-clause-first : goal.best_bits-requires-clause-first
best_bits-requires-clause-first c start l =
    let few = starts-few c.args.sums.now.system in (
      filled _ 285 1 start (omega (arith, c.requires)) (omega arith),
      filled _ 285 4294967295 start (omega (arith, c.requires)) (omega arith),
    )

pub loop-start-preserved : goal.loop-start-preserved
loop-start-preserved c =
    let sums : Shades = shades_of c.args.sums.now in
    let n : ℕ = c.loop-start.start in
    let found = c.found_at-here.ensures.found in
    record {
      found = c.nearer-best.ensures.found (place_cost sums c.args.sums.now.system) 0 n _ c.loop-start.invariant.found
          found;
      range = omega (arith, c.nearer-best.ensures.least, c.loop-start.invariant.range);
      room = length-set c.loop-start.bounds n _ ∙ c.loop-start.invariant.room;
      bounds = λ k w l word. set-more (λ (j x : ℕ). (v : ℕ) → IsWord v → x ≤ place_cost sums c.args.sums.now.system j v)
          c.loop-start.bounds n _ (omega (arith, c.loop-start-test.true, c.loop-start.auto.bounds))
          (λ j m v is. c.loop-start.invariant.bounds j v m is)
          (λ v is. found.least n v (omega arith) (omega arith) is) k l w word;
    }
