use Rattle.std.proofs.Common.{◌≤◌, ◌^◌, arith, lit<}
use Rattle.std.proofs.Math.Nat.{pow-le-pow_right}
use Rattle.vbi_field.proofs.word_row.hex_value.Goals as goal

pub overflow_mul-value : goal.overflow_mul-value
overflow_mul-value c =
    let short : c.loop-byte.byte-index ≤ 5 = omega arith in
    let le : 16 ^ c.loop-byte.byte-index ≤ 16 ^ 5 = pow-le-pow_right (lit< tt) short in
    omega (arith, c.loop-byte.invariant.2)

pub overflow_add-value : goal.overflow_add-value
overflow_add-value c =
    let short : c.loop-byte.byte-index ≤ 5 = omega arith in
    let le : 16 ^ c.loop-byte.byte-index ≤ 16 ^ 5 = pow-le-pow_right (lit< tt) short in
    omega (arith, c.loop-byte.invariant.2, c.in_ok-value.ensures.value.0, c.in_ok-value.ensures.value.1)
