use Rattle.std.proofs.Common.{arith, ap, sym, ◌∙◌, ◌≡◌, ◌<◌, ◌≤◌, ◌+◌, ◌/◌, ◌%◌, ◌^◌, ◌++◌}
use Rattle.std.proofs.Common.{ℕ, List, Bool, false, length}
use Rattle.std.proofs.lemmas.List.{length-set}
use Rattle.vbi_line.specs.Packing.{levels_in, packed_level, unpacked}
use Rattle.vbi_line.proofs.Packs.{HasRoom, length-unpacked, pushed_rest, pushed_levels}
use Rattle.vbi_line.proofs.packed.Packed.push.Goals as goal

-- what is required of the levels holds of the words
has_room : {words : List ℕ} {width bits count : ℕ} {levels : List Bool} → length words ≡ 18
    → unpacked words width ≡ levels → length levels + count ≤ 1152 → length levels % 64 + count ≤ 64 → 0 < count
    → bits < 2 ^ count → ((column : ℕ) → width ≤ column → column < 1152 → packed_level words column ≡ false)
    → HasRoom words width bits count
has_room {words} {width} {bits} {count} {levels} long view room within some few rest =
    let wide : length levels ≡ width = sym (ap length view) ∙ length-unpacked words width in
    let last : length levels % 64 ≡ width % 64 = ap (λ (n : ℕ). n % 64) wide in record {
      long = long;
      room = omega (arith, wide);
      within = omega (arith, last);
      some = some;
      few = few;
      rest = rest;
    }

pub bounds-self-inside-column : goal.bounds-self-inside-column
bounds-self-inside-column c =
    let long = length-unpacked c.self.inside.words c.self.inside.width in
    let room = rw (← c.self.view_is) at c.requires.room in
    omega (arith, c.requires.some)

pub bounds-self-inside-column-2 : goal.bounds-self-inside-column-2
bounds-self-inside-column-2 c =
    let long = length-unpacked c.self.inside.words c.self.inside.width in
    let room = rw (← c.self.view_is) at c.requires.room in
    omega (arith, c.requires.some)

pub invariant_of-self : goal.invariant_of-self
invariant_of-self c =
    let b = c.self.inside in
    let has = has_room c.self.invariant.words c.self.view_is c.requires.room c.requires.word c.requires.some
    c.requires.bits c.self.invariant.rest in
    record {
      words = length-set b.words (b.width / 64) _ ∙ c.self.invariant.words;
      width = has.room;
      rest = pushed_rest has;
    }

pub returns : goal.returns
returns c =
    let b = c.self.inside in
    let has = has_room c.self.invariant.words c.self.view_is c.requires.room c.requires.word c.requires.some
    c.requires.bits c.self.invariant.rest in
    pushed_levels has ∙ ap (λ (t : List Bool). t ++ levels_in c.args.count c.args.bits) c.self.view_is
