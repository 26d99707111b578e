-- proofs/field_lines/recovered_at/Answers.antt
use Rattle.std.proofs.Common.{ℕ, ◌*◌, ◌≤◌, Bool, List, false, replicate, ap, subst, ◌∙◌, ◌≡◌, take, arith}
use Rattle.std.proofs.lemmas.List.{take-replicate}
use Rattle.vbi_words.specs.declared.system.System.{System}
use Rattle.vbi_words.specs.declared.system.System.TheVariants.{Ntsc, Pal}
use Rattle.vbi_words.specs.Geometry.{width_of}
use Rattle.vbi_near.specs.Recovery.{IsRecovered, none_erased}
use Rattle.vbi_seek.specs.FieldLines.{code_bytes, field_in}
use Rattle.vbi_seek.proofs.OneRecovery.{only_recovered}
use Rattle.vbi_seek.proofs.field_lines.recovered_at.Goals as goal

few : (system : System) → width_of system ≤ 1135
few Ntsc = omega arith
few Pal = omega arith

none : (system : System) (n : ℕ) → n ≡ width_of system → take (3 * n) (replicate 3405 false) ≡ none_erased system
none system n is =
    take-replicate (3 * n) 3405 false (omega (arith, is, few system)) ∙ ap (λ (k : ℕ). replicate (3 * k) false) is

pub returns : goal.returns
returns c =
    let setup = c.args.side.now.setup in
    let lines = c.recover_rows.result in
    let rows = code_bytes setup.system (field_in setup.system c.args.side.now.bytes.now c.args.field) in
    only_recovered setup rows lines
    (subst (λ (marks : List Bool). IsRecovered setup.system setup.levels rows marks lines)
    (none setup.system c.width.result c.width.ensures)
    (subst (λ (bytes : List ℕ). IsRecovered setup.system setup.levels bytes
    (take (3 * c.width.result) (replicate 3405 false)) lines) c.code_bytes.ensures.rows
    c.recover_rows.ensures.recovered))
