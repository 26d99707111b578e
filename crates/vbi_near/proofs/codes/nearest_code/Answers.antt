use Rattle.std.proofs.Common.{◌≡◌, ℕ, sym, subst, arith, add-one}
use Rattle.vbi_near.proofs.Common.{starts, Shades, codes_of, IsSeen, looks_before, code_cost, IsLead, shades_of}
use Rattle.vbi_near.proofs.Looks.{all-looks}
use Rattle.vbi_near.proofs.codes.nearest_code.Goals as goal

pub loop-start-preserved : goal.loop-start-preserved
loop-start-preserved c =
    let sums : Shades = shades_of c.args.sums.now in
    let n : ℕ = c.loop-start.start in
    record {
      lead = subst (λ (k : ℕ). IsLead (code_cost sums c.args.sums.now.system)
          (IsSeen (looks_before (codes_of c.args.sums.now.system c.args.line) c.args.first k))
          c.with_start_by-best.result)
          (sym (add-one n)) (c.with_start_by-best.ensures.lead
          (looks_before (codes_of c.args.sums.now.system c.args.line) c.args.first n) c.loop-start.invariant.lead);
      close = c.with_start_by-best.ensures.close c.loop-start.invariant.close;
    }

pub returns-clause-lead : goal.returns-clause-lead
returns-clause-lead c =
    let sums : Shades = shades_of c.args.sums.now in
    let e : c.loop-start.start ≡ starts c.args.sums.now.system
    = omega (arith, c.loop-start-test.false, c.loop-start.auto.start-end, c.requires.bounds) in
    all-looks (code_cost sums c.args.sums.now.system) (codes_of c.args.sums.now.system c.args.line)
    c.args.sums.now.system c.args.first
    c.loop-start.best c.requires.first
    (subst (λ (k : ℕ). IsLead (code_cost sums c.args.sums.now.system)
    (IsSeen (looks_before (codes_of c.args.sums.now.system c.args.line) c.args.first k)) c.loop-start.best) e
    c.loop-start.invariant.lead)
