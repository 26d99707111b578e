use Rattle.std.proofs.Common.{◌≡◌, ℕ, ◌*◌, ◌+◌, ◌-◌, ◌<◌, ◌≤◌, Bool, false, List, get_or, ap, ◌∙◌, inl, inr, ◌⊎◌, arith}
use Rattle.std.proofs.lemmas.Bool.{cases_lt}
use Rattle.vbi_words.specs.Geometry.{width_of}
use Rattle.vbi_c.proofs.Marks.{code_line, wide, mark_are}
use Rattle.vbi_c.proofs.erased.mark.Goals as goal

pub returns : goal.returns
returns c = λ before old.
    let entry = c.args.entry.now in
    let system = c.args.system in
    let end = c.min-end.result + 1 in
    let come = c.loop-column.column in
    let new = c.loop-column.marks in
    let width : c.width-width.result ≡ width_of system = c.width-width.ensures in
    let base : c.width-width.result * (entry.line - 16) ≡ width_of system * (entry.line - 16)
    = ap (λ (n : ℕ). n * (entry.line - 16)) width in
    let line : (16 ≤ entry.line) × (entry.line ≤ 18) = code_line entry.line c.requires.line in
    let some : 0 < width_of system = wide system in
    let whole : (width_of system ≤ end) ⊎ (end ≡ entry.last + 1)
    = elim (cases_lt entry.last (width_of system)) [
      | inl few ↦ inr (omega (arith, few))
      | inr past ↦ inl (omega (arith, past))
    ] in
    mark_are before entry system new (entry.line - 16) end come (omega arith) (omega arith) (omega arith) (omega arith)
    whole (omega arith) c.loop-column.auto.column-end c.loop-column.invariant.reached
    (λ k low high. c.loop-column.invariant.within k (omega arith) (omega arith))
    (λ k high. c.loop-column.invariant.before k (omega arith) ∙ ap (λ (marks : List Bool). get_or marks k false) old)
    (λ k low. c.loop-column.invariant.after k (omega arith) ∙ ap (λ (marks : List Bool). get_or marks k false) old)
