use Rattle.vbi_line.proofs.Common.{◌≡◌, ℕ, ◌+◌, ◌/◌, ◌<◌, ◌≤◌, ◌⊎◌, false, sym, subst, arith, EqualBits, ReachesMiddle}
use Rattle.vbi_line.proofs.Common.{half_max-le}
use Rattle.vbi_line.proofs.Changes.{changes_of, Found, reaches}
use Rattle.vbi_line.proofs.straight.next_middle.Goals as goal

pub returns-then-end-rest : goal.returns-then-end-rest
returns-then-end-rest c =
    let system = c.args.system in
    let word = c.args.window in
    let most = c.half_max-most in
    let first = c.equal_bits-first.result in
    let far = c.equal_bits.result in
    let end = c.cell_end-end.result in
    let found : Found system word first far end c.equal_bits-rest.result = record {
      near = c.equal_bits-first.ensures;
      behind = subst (λ (m : ℕ). EqualBits (changes_of word) m false far) most.ensures c.equal_bits.ensures;
      later = c.equal_bits-rest.ensures;
      is_end = subst (λ (m : ℕ). ((1 + first ≤ m) × (end ≡ 1 + first)) ⊎ ((m < 1 + first) × (end ≡ (m + 1 + far) / 2)))
          most.ensures c.cell_end-end.ensures;
      half = (
        omega (arith, c.if-least-end.true, c.half_min-least.ensures),
        omega (arith, c.if-end-most.true, most.ensures),
      );
      other_half = (
        omega (arith, c.if-least-rest.true, c.half_min-least.ensures),
        omega (arith, c.if-rest-most.true, most.ensures),
      );
      whole = omega (arith, c.if-end-rest.true, most.ensures);
      short = half_max-le system;
    } in
    subst (λ (m : ℕ). ReachesMiddle system word (m + 1 + far)) (sym most.ensures) (reaches found)
