use Rattle.std.proofs.Common.{◌≡◌, ℕ, true, false, [], ◌∷◌, List, sym, ap, ◌∙◌, subst}
use Rattle.vbi_near.proofs.Common.{Slicing, samples_of, known_but, unit_of}
use Rattle.vbi_near.proofs.AskedLines.{none_if, says_if}
use Rattle.vbi_near.specs.LevelledLines.{levelled_unit, levelled_slicing, is_swing}
use Rattle.vbi_near.specs.Candidates.{Line, Lines, HasNear, some_lines, given_line, levelled_line, has_swing}
use Rattle.vbi_near.specs.{Margins.levelled_margins, WordRule.said_of, WordRule.said_if, Lines.line_in}
use Rattle.vbi_near.proofs.line_rule.said_levelled.Goals as goal

pub returns-then-not-is_swing : goal.returns-then-not-is_swing
returns-then-not-is_swing c near has =
    let line = line_in c.args.line.now in
    let swings : has_swing line.system line.slicing line.row ≡ false
    = (λ j. is_swing (sym c.unit_of.ensures.value j) (sym c.level_row-swing.ensures.swing j))
    ∙ sym c.is_swing.ensures ∙ c.if-not-is_swing.true in
    ap (said_if levelled_unit levelled_margins.lone 1) (sym (none_if (levelled_line line)
    (has_swing line.system line.slicing line.row) near swings has))

pub returns : goal.returns
returns c near has =
    let line = line_in c.args.line.now in
    let swings : has_swing line.system line.slicing line.row ≡ true
    = (λ j. is_swing (sym c.unit_of.ensures.value j) (sym c.level_row-swing.ensures.swing j))
    ∙ sym c.is_swing.ensures ∙ c.if-not-is_swing.false in
    let of : Slicing → List ℕ → Lines
    = λ slicing samples. some_lines line.system line.number slicing (known_but line.row.erased samples ∷ []) in
    let samples = samples_of c.level_row-swing.new.out in
    says_if levelled_margins.lone 1 (has_swing line.system line.slicing line.row) (levelled_line line)
    (of levelled_slicing samples) near c.said_as.result swings
    (ap (of levelled_slicing) (sym (c.level_row-swing.ensures.levelled swings))) (λ n is. c.said_as.ensures n
    (subst (λ (l : Line). HasNear (given_line l) n) (sym c.as_levelled-levelled.ensures) is)
    ∙ ap (λ (l : Line). said_of (unit_of l.slicing) levelled_margins.lone 1 n) c.as_levelled-levelled.ensures) has
