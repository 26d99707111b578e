use Rattle.std.proofs.Common.{◌≡◌, ℕ, ◌+◌, ◌∷◌, [], ◌++◌, List, Bool, false, take, subst, ap, sym, ◌∙◌, arith, zero-add}
use Rattle.std.proofs.Math.ListN.{replicate}
use Rattle.std.proofs.lemmas.List.FromFn.{map-range_with_len_more}
use Rattle.vbi_near.proofs.Common.{width_of, line_at, samples_of, Samples, known, known_but, lines_of}
use Rattle.vbi_near.proofs.Counting.{nothing-erased, line-samples, known_but-none}
use Rattle.vbi_near.specs.Pile.{IsPileOf}
use Rattle.vbi_near.proofs.pile.nearest_of_lines.Goals as goal

pub loop-line-preserved : goal.loop-line-preserved
loop-line-preserved c =
    let old = lines_of c.args.system c.args.lines.now c.loop-line.line in
    let line = c.loop-line.line in
    let samples = samples_of c.line_of.result.now in
    let erased = take c.width.result (replicate 1135 false) in
    let all : known_but erased samples ≡ known samples
    = ap (λ (columns : List Bool). known_but columns samples)
    (nothing-erased c.args.system c.width.result c.width.ensures)
    ∙ known_but-none (width_of c.args.system) samples
    (line-samples c.args.system c.line_of.result.now c.line_of.ensures.long) in
    let same : old ++ known_but erased samples ∷ [] ≡ lines_of c.args.system c.args.lines.now (line + 1)
    = ap (λ (l : Samples). old ++ l ∷ []) all
    ∙ ap (λ (bytes : List ℕ). old ++ known (samples_of bytes) ∷ []) c.line_of.ensures.line
    ∙ sym (map-range_with_len_more (λ i. known (samples_of (line_at c.args.system c.args.lines.now 0 i))) 0 line line
    (zero-add line)) in
    record {
      pile = subst (λ (lines : List Samples). IsPileOf c.args.system c.args.levels lines c.add.new.self) same
          (c.add.ensures.line c.args.system c.args.levels old c.loop-line.invariant.pile);
      count = omega (arith, c.add.ensures.count, c.loop-line.invariant.count);
    }

pub returns : goal.returns
returns c =
    let e : c.loop-line.line ≡ c.args.count = omega (arith, c.loop-line-test.false, c.loop-line.auto.line-end) in
    record {
      near = c.nearest.ensures.near c.args.system c.args.levels
          (lines_of c.args.system c.args.lines.now c.args.count)
          (subst (λ (n : ℕ). IsPileOf c.args.system c.args.levels (lines_of c.args.system c.args.lines.now n)
          c.loop-line.pile) e c.loop-line.invariant.pile);
      start = c.nearest.ensures.start;
    }
