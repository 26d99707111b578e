-- proofs/stop_search/next_stop_of/Answers.antt
use Rattle.std.proofs.Common.{◌≡◌, ◌∙◌, ℕ, ◌+◌, true, false, below_more, sym}
use Rattle.vbi_seek.specs.FieldLines.{side_of}
use Rattle.vbi_seek.specs.StopSearch.{HasStop}
use Rattle.vbi_seek.proofs.stop_search.next_stop_of.Goals as goal

pub loop-i-preserved : goal.loop-i-preserved
loop-i-preserved c =
    below_more (λ (j : ℕ). HasStop (side_of c.args.side.now) (c.args.first + j) → ⊥) c.loop-i.i c.loop-i.invariant
    (λ has. let h : false ≡ true = sym c.if-has_stop.false ∙ c.has_stop.ensures.1 has in absurd cc)
