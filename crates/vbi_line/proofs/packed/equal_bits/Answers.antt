use Rattle.vbi_line.proofs.Common.{◌≡◌, ◌/◌, ◌^◌, ◌<◌, ℕ, Bool, arith, sym, ap, subst, ◌∙◌, EqualBits, trailing_zeros}
use Rattle.vbi_line.proofs.PackedRuns.{others_of, none_other, some_other}
use mir.Syntax.{w64}
use Rattle.vbi_line.proofs.packed.equal_bits.Goals as goal
use Rattle.vbi_line.proofs.packed.equal_bits.Goals.{then-level, else-level}

pub returns-then-others-eq0 : goal.returns-then-others-eq0
returns-then-others-eq0 c =
    let small : c.args.word < 2 ^ 64 = omega arith in
    let is : c.if-level.other_bits ≡ others_of c.args.word c.args.level = elim c.if-level.branch [
      | then-level w ↦ w.other_bits-is ∙ ap (λ (b : Bool). others_of c.args.word b) (sym w.if-level.true)
      | else-level w ↦ w.other_bits-is ∙ ap (λ (b : Bool). others_of c.args.word b) (sym w.if-level.false)
    ] in
    none_other c.args.word c.args.place c.args.level small c.requires
    (ap (λ (x : ℕ). x / 2 ^ c.args.place) (sym is) ∙ c.if-others-eq0.true)

pub returns-else-others-eq0 : goal.returns-else-others-eq0
returns-else-others-eq0 c =
    let small : c.args.word < 2 ^ 64 = omega arith in
    let is : c.if-level.other_bits ≡ others_of c.args.word c.args.level = elim c.if-level.branch [
      | then-level w ↦ w.other_bits-is ∙ ap (λ (b : Bool). others_of c.args.word b) (sym w.if-level.true)
      | else-level w ↦ w.other_bits-is ∙ ap (λ (b : Bool). others_of c.args.word b) (sym w.if-level.false)
    ] in
    let e : others_of c.args.word c.args.level / 2 ^ c.args.place ≡ c.if-level.other_bits / 2 ^ c.args.place
    = ap (λ (x : ℕ). x / 2 ^ c.args.place) (sym is) in
    subst (λ (x : ℕ). EqualBits c.args.word c.args.place c.args.level (trailing_zeros w64 x)) e
    (some_other c.args.word c.args.place c.args.level small c.requires (λ none. c.if-others-eq0.false (sym e ∙ none)))
