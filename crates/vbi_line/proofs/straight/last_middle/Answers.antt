use Rattle.vbi_line.proofs.Common.{◌≡◌, ◌+◌, ◌<◌, Bool, true, [], ◌∷◌, ◌++◌, length, sym, ap, subst, ◌∙◌, arith}
use Rattle.vbi_line.proofs.Common.{level_at, length-lowest_bits, IsMiddle, List, length-append}
use Rattle.vbi_words.specs.Words.{lowest_bits}
use Rattle.vbi_line.proofs.Middles.{reached}
use Rattle.vbi_line.proofs.Steps.{lowest-none}
use Rattle.vbi_line.proofs.straight.last_middle.Goals as goal

pub loop-cells-init : goal.loop-cells-init
loop-cells-init c =
    let high : Bool = level_at c.args.packed.now c.args.first in
    let bits : lowest_bits 0 0 ++ level_at c.args.packed.now c.args.first ∷ [] ≡ true ∷ []
    = ap (λ (t : List Bool). t ++ high ∷ []) (lowest-none 0) ∙ ap (λ (x : Bool). x ∷ []) c.requires.high in
    record {
      few = omega arith;
      bits = omega arith;
      middle = subst (IsMiddle c.args.system c.args.packed.now c.args.first) (sym bits) c.requires.middle;
    }

pub loop-cells-preserved : goal.loop-cells-preserved
loop-cells-preserved c =
    let old = c.loop-cells in
    let levels = c.args.packed.now in
    let columns = c.in_ok-columns.columns in
    let here : level_at levels old.column ≡ c.first_level.result
    = ap (level_at levels) (omega arith) ∙ sym (c.window-window.ensures 0 (omega arith)) ∙ sym c.first_level.ensures in
    let bits : lowest_bits old.cells old.bits ++ level_at levels old.column ∷ []
    ≡ lowest_bits (old.cells + 1) c.with_bit-bits.result
    = ap (λ (x : Bool). lowest_bits old.cells old.bits ++ x ∷ []) here ∙ sym c.with_bit-bits.ensures.list in
    let few : length (lowest_bits old.cells old.bits ++ level_at levels old.column ∷ []) < 24
    = omega (
      arith,
      length-append (lowest_bits old.cells old.bits) (level_at levels old.column ∷ []),
      length-lowest_bits old.cells old.bits,
      c.loop-cells-test.true,
    ) in
    let inside : old.column + columns < length levels = omega (arith, c.if-column-width.false, c.width.ensures) in
    let next = reached c.args.system levels old.column c.window-window.result c.window-window.ensures columns
    old.invariant.middle few c.in_ok-columns.ensures inside in
    record {
      few = omega (arith, c.loop-cells-test.true);
      bits = c.with_bit-bits.ensures.range;
      middle = subst (λ (t : List Bool). IsMiddle c.args.system levels (old.column + columns)
          (t ++ level_at levels (old.column + columns) ∷ [])) bits next;
    }
