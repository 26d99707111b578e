use Rattle.std.proofs.Common.{ℕ, ◌-◌, ◌*◌, arith, below_more, subst, ◌∙◌}
use Rattle.vbi_seek.specs.Searches.{IsSilentFor}
use Rattle.vbi_seek.specs.Targets.{read_most}
use Rattle.vbi_seek.specs.NumberSearch.{probe_most, probe_longest}
use Rattle.vbi_seek.specs.NumberSpots.{middle_of}
use Rattle.vbi_seek.proofs.halving.sweep.Goals as goal

pub loop-part-preserved : goal.loop-part-preserved
loop-part-preserved c =
    let search = c.args.search.now in
    let first = c.args.looked.now.spare in
    let most : ℕ → ℕ = λ part. read_most search.kind probe_longest (first - (probe_longest - probe_most) * part) in
    record {
      few = omega arith;
      kept = c.narrow.ensures.kept c.if-narrow.false ∙ c.loop-part.invariant.kept;
      spared = omega arith;
      silent = below_more
          (λ (part : ℕ). IsSilentFor search (middle_of search.side.count c.args.parts part) (most part))
          c.loop-part.part c.loop-part.invariant.silent
          (subst (λ (field : ℕ). IsSilentFor search field (most c.loop-part.part)) c.middle_of.ensures.middle
          (λ k n few. c.narrow.ensures.silent c.if-narrow.false k n
          (omega (arith, few, c.loop-part.invariant.spared))));
    }

pub returns-clause-silent : goal.returns-clause-silent
returns-clause-silent c = λ same part few. c.loop-part.invariant.silent part (omega (arith, few))
