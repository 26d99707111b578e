use Rattle.std.proofs.Common.{◌≡◌, ℕ, ◌<◌, ◌⊎◌, inl, inr, arith}
use Rattle.vbi_near.proofs.Common.{IsWord, Shades, codes_of, code_cost, IsBefore, shades_of}
use Rattle.vbi_near.proofs.{Priced.code-word, Looks.passed-ranges}
use Rattle.vbi_near.proofs.codes.with_start_by.Goals as goal

pub returns-else-needs_look-clause-lead : goal.returns-else-needs_look-clause-lead
returns-else-needs_look-clause-lead c looks is =
    let sums : Shades = shades_of c.args.sums.now in
    let passed = c.needs_look.ensures c.if-needs_look.false in
    passed-ranges (code_cost sums c.args.sums.now.system) looks c.args.start
    (codes_of c.args.sums.now.system c.args.line) c.args.found
    (λ w word. omega (
      arith,
      c.requires.bound w word,
      code-word sums c.args.sums.now.system c.args.start w word,
      passed.0,
    )) (λ w word same. go w word same passed.1) is
  where
    go : (w : ℕ) → IsWord w → code_cost (shades_of c.args.sums.now) c.args.sums.now.system c.args.start w
        ≡ c.args.found.distance
        → (c.args.found.distance < c.args.bound) ⊎ (c.args.found.start < c.args.start)
        → IsBefore c.args.found.start c.args.found.word c.args.start w
    go w word same (inl far) =
        absurd (omega (
          arith,
          c.requires.bound w word,
          code-word (shades_of c.args.sums.now) c.args.sums.now.system c.args.start w word,
          same,
        ))
    go w word same (inr later) = inl later
