use Rattle.std.proofs.Common.{ℕ, ◌/◌, length, ap, rules}
use Rattle.vbi_c.proofs.MarkedLines.{said-marked}
use Rattle.vbi_c.proofs.piling.word_of.Goals as goal

pub returns : goal.returns
returns c = (
  c.recover_pile-said.result,
  said-marked _ _ _ _ _ _ _ _ (ap (λ (n : ℕ). length c.args.bytes.now / n) c.line_bytes.ensures)
      c.mark_lines.ensures.marks c.recover_pile-said.ensures,
  search rules,
)
