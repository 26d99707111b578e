use Rattle.vbi_near.proofs.Common.{codes_of, IsSeen, looks_before, code_cost, IsLead, IsClose, shades_of}
use Rattle.vbi_near.proofs.codes.nearest_code.Given as goal

abbrev pub invariant-loop-start : goal.invariant-loop-start
invariant-loop-start l = record {
  lead : IsLead (code_cost (shades_of l.sums) l.fn.sums.system)
      (IsSeen (looks_before (codes_of l.fn.sums.system l.fn.line) l.fn.first l.start)) l.best;
  close : IsClose l.best;
}
