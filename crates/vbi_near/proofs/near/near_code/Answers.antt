use Rattle.std.proofs.Common.{inl, inr, arith, sym, subst}
use Rattle.vbi_near.proofs.Common.{Near, codes_of, IsPlace, shades_of}
use Rattle.vbi_near.proofs.{Columns.word-fits, Chosen.near-code, Chosen.lead-found}
use Rattle.vbi_near.proofs.near.near_code.Goals as goal

pub returns-then-lead-eq0-clause-near : goal.returns-then-lead-eq0-clause-near
returns-then-lead-eq0-clause-near c =
    near-code c.args.sums.now c.args.line c.nearest_code-lead.result c.nearest_code-lead.ensures.lead
    c.nearest_code-lead.ensures.close 0 0 _ c.code_or_none.ensures (inl c.if-lead-eq0.true)

pub shorter_distance-shorter-requires-clause-exact : goal.shorter_distance-shorter-requires-clause-exact
shorter_distance-shorter-requires-clause-exact c =
    (lead-found (shades_of c.args.sums.now) c.args.sums.now.system (codes_of c.args.sums.now.system c.args.line)
    c.nearest_code-lead.result c.nearest_code-lead.ensures.lead c.if-lead-eq0.false).2

pub code_or_none-requires-2 : goal.code_or_none-requires-2
code_or_none-requires-2 c =
    inr (lead-found (shades_of c.args.sums.now) c.args.sums.now.system
    (codes_of c.args.sums.now.system c.args.line)
    c.nearest_code-lead.result c.nearest_code-lead.ensures.lead c.if-lead-eq0.false).1

pub returns-clause-near : goal.returns-clause-near
returns-clause-near c =
    near-code c.args.sums.now c.args.line c.nearest_code-lead.result c.nearest_code-lead.ensures.lead
    c.nearest_code-lead.ensures.close c.longer_distance-longer.result c.shorter_distance-shorter.result _
    c.code_or_none-2.ensures (inr (c.longer_distance-longer.ensures, c.shorter_distance-shorter.ensures))

pub returns-clause-place : goal.returns-clause-place
returns-clause-place c =
    let system = c.args.sums.now.system in
    let found = lead-found (shades_of c.args.sums.now) system (codes_of system c.args.line)
    c.nearest_code-lead.result c.nearest_code-lead.ensures.lead c.if-lead-eq0.false in
    elim c.code_or_none-2.ensures [
      | inl none ↦ absurd (c.if-lead-eq0.false none.0)
      | inr some ↦ subst (λ (near : Near). IsPlace system near.word near.start) (sym some.1)
          (found.1, omega (arith, found.0, word-fits system))
    ]
