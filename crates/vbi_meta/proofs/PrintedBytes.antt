-- Texts on one line: each of their bytes is printed ASCII.
use Rattle.vbi_meta.proofs.Common.{◌≡◌, ℕ, ◌<◌, ◌≤◌, ◌^◌, ◌&&◌, Bool, true, List, decimal, arith, leb}
use Rattle.vbi_meta.proofs.Common.{IsPrinted}
use Rattle.vbi_meta.proofs.BytesOf.{BytesOf, are, known_by, count_by}

abbrev pub Printed : List ℕ → Type 0
Printed = BytesOf IsPrinted

-- the same as a test
abbrev pub is_printed : ℕ → Bool
is_printed byte = leb 32 byte && leb byte 126

passes : (byte : ℕ) → is_printed byte ≡ true → IsPrinted byte
passes byte e = grind arith

-- a text that is known
pub known : (text : List ℕ) → are is_printed text ≡ true → Printed text
known = known_by IsPrinted is_printed passes

pub count : (n : ℕ) → n < 2 ^ 64 → Printed (decimal n)
count = count_by IsPrinted (λ digit low high. (omega (arith, low), omega (arith, high)))
