use Rattle.std.proofs.Common.{ℕ, ◌+◌, ◌<◌, [], sym, subst, arith}
use Rattle.vbi_near.proofs.Common.{Found, Sums, starts}
use Rattle.vbi_near.proofs.Unsaid.{lead_first, lead_passing, lead_looking}
use Rattle.vbi_near.proofs.silence.nearest_within.Goals.{then-from-limit, else-from-limit}
use Rattle.vbi_near.specs.Silence.{IsLeadWithin}
use Rattle.vbi_near.proofs.silence.nearest_within.Goals as goal

pub loop-start-init : goal.loop-start-init
loop-start-init c =
    lead_first c.args.sought.now.sums c.args.line c.args.limit c.args.sought.now.first c.with_start-best.result
    c.args.sought.now.inside (c.with_start-best.ensures.lead [] c.none.ensures.lead)
    (c.with_start-best.ensures.close c.none.ensures.few)

pub loop-start-preserved : goal.loop-start-preserved
loop-start-preserved c =
    let sums : Sums = c.args.sought.now.sums in
    let n : ℕ = c.loop-start.start in
    let is = c.loop-start.invariant in
    let inside : n < starts sums.system = omega (arith, c.loop-start-test.true, c.args.sought.now.whole) in
    elim c.if-from-limit.branch [
      | then-from-limit w ↦ subst (λ (lead : Found). IsLeadWithin sums c.args.line c.args.limit (n + 1) lead)
          (sym w.best-is) (lead_looking sums c.args.line c.args.limit n c.loop-start.best w.with_start_by-best.result is
          inside (w.with_start_by-best.ensures.lead is.looks is.is) (w.with_start_by-best.ensures.close is.close))
      | else-from-limit w ↦ subst (λ (lead : Found). IsLeadWithin sums c.args.line c.args.limit (n + 1) lead)
          (sym w.best-is) (lead_passing sums c.args.line c.args.limit n c.loop-start.best
          (λ v word. omega (
            arith,
            w.if-from-limit.false,
            c.from.ensures,
            c.args.sought.now.far n v inside word,
          )) is)
    ]
