use Rattle.std.proofs.Common.{◌≡◌, ℕ, ◌+◌, List, take, get_or, inl, ap, sym, ◌∙◌, subst, arith, add-one}
use Rattle.std.proofs.lemmas.List.{take_all}
use Rattle.vbi_near.proofs.Common.{range, Look, IsSeen, with_ranges, IsLead, IsFew, IsClose}
use Rattle.vbi_near.proofs.Looks.{ranges-more}
use Rattle.vbi_near.specs.Prices.{ranges_of}
use Rattle.vbi_near.proofs.codes.with_codes.Goals as goal

pub loop-words-preserved : goal.loop-words-preserved
loop-words-preserved c =
    let i : ℕ = c.loop-words.words-index in
    let codes : List (ℕ × ℕ) = c.args.codes.now in
    let at : ℕ = c.args.prices.now.start in
    let words : ℕ × ℕ = get_or codes i (0, 0) in
    let close : IsFew c.args.found → IsClose c.nearer_lead-best.result = λ few.
    c.nearer_lead-best.ensures.close (c.loop-words.invariant.few few) c.nearest_in_range.ensures.distance
    c.nearest_in_range.ensures.order (omega (arith, c.nearest_in_range.ensures.word)) in
    record {
      lead = λ cost looks priced is.
          let more : with_ranges looks at (ranges_of (take (i + 1) codes))
          ≡ _ = ap (λ (n : ℕ). with_ranges looks at (ranges_of (take n codes))) (add-one i)
          ∙ ranges-more looks at codes i c.loop-words-test.true in
          subst (λ (seen : List Look). IsLead cost (IsSeen seen) c.nearer_lead-best.result) (sym more)
          (c.nearer_lead-best.ensures.lead cost (with_ranges looks at (ranges_of (take i codes))) at
          (range words.0 words.1) (c.loop-words.invariant.lead cost looks priced is)
          (c.nearest_in_range.ensures.lead cost priced));
      few = λ few. let is = close few in (is.0, is.1, inl is.2);
      close = λ few some. close few;
    }

pub returns-clause-lead : goal.returns-clause-lead
returns-clause-lead c cost looks priced is =
    let codes : List (ℕ × ℕ) = c.args.codes.now in
    subst (λ (seen : List (ℕ × ℕ)). IsLead cost (IsSeen (with_ranges looks c.args.prices.now.start (ranges_of seen)))
    c.loop-words.best)
    (take_all c.loop-words.words-index codes
    (omega (arith, c.loop-words-test.false, c.loop-words.auto.words-index-end)))
    (c.loop-words.invariant.lead cost looks priced is)
