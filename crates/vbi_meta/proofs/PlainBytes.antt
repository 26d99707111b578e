-- Texts of plain bytes.
use Rattle.vbi_meta.proofs.Common.{◌≡◌, ℕ, ◌<◌, ◌≤◌, ◌^◌, ◌&&◌, ◌||◌, not, Bool, true, List, inl, decimal, arith, leb}
use Rattle.vbi_meta.proofs.Common.{IsPlain}
use Rattle.vbi_meta.proofs.BytesOf.{BytesOf, are, known_by, count_by}
use Rattle.std.proofs.Common.{eqb}

-- each byte of the text is plain
abbrev pub Plain : List ℕ → Type 0
Plain = BytesOf IsPlain

-- the same as a test
abbrev pub is_plain : ℕ → Bool
is_plain byte = (leb 32 byte && (leb byte 126 && not (eqb byte 92))) || eqb byte 10

passes : (byte : ℕ) → is_plain byte ≡ true → IsPlain byte
passes byte e = grind arith

-- a text that is known
pub known : (text : List ℕ) → are is_plain text ≡ true → Plain text
known = known_by IsPlain is_plain passes

pub count : (n : ℕ) → n < 2 ^ 64 → Plain (decimal n)
count = count_by IsPlain (λ digit low high. inl (omega (arith, low), omega (arith, high), λ e. omega (arith, high, e)))
