-- Texts of which each byte is of one kind.
use Rattle.vbi_meta.proofs.Common.{◌≡◌, ℕ, ◌<◌, ◌≤◌, ◌^◌, ◌&&◌, Bool, true, List, [], ◌∷◌, ◌++◌, decimal, arith}
use Rattle.vbi_meta.proofs.Common.{and_parts, decimal_is_IsNumeral, digit_from_value, AllByRecursion, AllDigits}

pub record BytesOf (IsByte : ℕ → Type 0) (text : List ℕ) : Type 0 where
  pub all : AllByRecursion IsByte text

append : (P : ℕ → Type 0) (a b : List ℕ) → AllByRecursion P a → AllByRecursion P b → AllByRecursion P (a ++ b)
append P [] b h k = k
append P (x ∷ a) b h k = (h.0, append P a b h.1 k)

-- one text after the other
pub then : {P : ℕ → Type 0} {a b : List ℕ} → BytesOf P a → BytesOf P b → BytesOf P (a ++ b)
then {P} {a} {b} h k = record { all = append P a b h.all k.all }

-- ---- a text that is known: each byte passes a test

abbrev pub are : (ℕ → Bool) → List ℕ → Bool
are test [] = true
are test (x ∷ text) = test x && are test text

tested : (P : ℕ → Type 0) (test : ℕ → Bool) → ((byte : ℕ) → test byte ≡ true → P byte) → (text : List ℕ)
    → are test text ≡ true → AllByRecursion P text
tested P test passes [] e = tt
tested P test passes (x ∷ text) e =
    let parts = and_parts (test x) (are test text) e in
    (passes x parts.0, tested P test passes text parts.1)

pub known_by : (P : ℕ → Type 0) (test : ℕ → Bool) → ((byte : ℕ) → test byte ≡ true → P byte) → (text : List ℕ)
    → are test text ≡ true → BytesOf P text
known_by P test passes text e = record { all = tested P test passes text e }

-- ---- a number in decimal digits

digits : (P : ℕ → Type 0) → ((digit : ℕ) → 48 ≤ digit → digit ≤ 57 → P digit) → (ds : List ℕ) → AllDigits 10 ds
    → AllByRecursion P ds
digits P one [] h = tt
digits P one (d ∷ ds) h =
    let range = digit_from_value d h.0 in
    (one d (omega arith) (omega arith), digits P one ds h.1)

pub count_by : (P : ℕ → Type 0) → ((digit : ℕ) → 48 ≤ digit → digit ≤ 57 → P digit) → (n : ℕ) → n < 2 ^ 64
    → BytesOf P (decimal n)
count_by P one n h = record { all = digits P one (decimal n) (decimal_is_IsNumeral n h).0.1 }
