-- The text of a stream that grows.
use Rattle.vbi_field.proofs.Common.{◌≡◌, ℕ, zero, suc, ◌+◌, ◌-◌, ◌≤◌, [], ◌++◌, length, take, refl, sym, ap, ◌∙◌, arith}
use Rattle.vbi_field.proofs.Common.{append_assoc, add-zero, length-append, le_refl, ConfigView, fields_of, rows_at}
use Rattle.vbi_field.proofs.Common.{IsTextBetween, joined_entry_of, Kind, List, append-nil}
use Rattle.std.proofs.Math.Seq.{take-append-add}
use Rattle.vbi_field.specs.Texts.{text_before_tail}
use Rattle.vbi_field.proofs.Counts.{whole_rows_fit, more_fields}
use Rattle.vbi_field.proofs.Entries.{stood, stood-more, stood-stays, text_before_tail-stood}

module _ (t : Kind) (c : ConfigView) (z b : List ℕ) where
  -- the text of the fields that were whole
  stays : stood t c (z ++ b) (fields_of c z) ≡ text_before_tail t c z
  stays = grind (arith, stood-stays, le_refl, whole_rows_fit, text_before_tail-stood)

  -- no field more is whole
  pub begun_same : fields_of c (z ++ b) ≡ fields_of c z → text_before_tail t c z ≡ text_before_tail t c (z ++ b)
  begun_same e = sym (text_before_tail-stood t c (z ++ b) (fields_of c z) e ∙ stays)

  -- one field more is
  pub begun_next : fields_of c (z ++ b) ≡ fields_of c z + 1
      → text_before_tail t c z
      ++ joined_entry_of t c (fields_of c z) (rows_at c (z ++ b) (fields_of c z)) ≡ text_before_tail t c (z ++ b)
  begun_next e =
      sym (text_before_tail-stood t c (z ++ b) (fields_of c z + 1) e
      ∙ stood-more t c (z ++ b) (fields_of c z)
      ∙ ap (λ l. l ++ joined_entry_of t c (fields_of c z) (rows_at c (z ++ b) (fields_of c z))) stays)

-- the text of more fields begins with that of fewer
stood-grows : (t : Kind) (c : ConfigView) (z : List ℕ) (n k : ℕ)
    → (rest : List ℕ) × (stood t c z n ++ rest ≡ stood t c z (n + k))
stood-grows t c z n zero = ([], append-nil (stood t c z n) ∙ ap (stood t c z) (sym (add-zero n)))
stood-grows t c z n (suc k) =
    let before = stood-grows t c z n k in
    let piece : List ℕ = joined_entry_of t c (n + k) (rows_at c z (n + k)) in
    let next : n + k + 1 ≡ n + suc k = omega arith in (
      before.0 ++ piece,
      sym (append_assoc (stood t c z n) before.0 piece)
          ∙ ap (λ l. l ++ piece) before.1
          ∙ sym (stood-more t c z (n + k))
          ∙ ap (stood t c z) next,
    )

-- the text of a longer stream begins with that of the shorter
pub begun_grows : (t : Kind) (c : ConfigView) (z b : List ℕ)
    → (rest : List ℕ) × (text_before_tail t c z ++ rest ≡ text_before_tail t c (z ++ b))
begun_grows t c z b =
    let n = fields_of c z in
    let m = fields_of c (z ++ b) in
    let le : n ≤ m = rw length-append (more_fields c.system (length z) (length b)) in
    let grown = stood-grows t c (z ++ b) n (m - n) in
    let all : n + (m - n) ≡ m = omega arith in (
      grown.0,
      ap (λ l. l ++ grown.0) (sym (stays t c z b))
          ∙ grown.1
          ∙ ap (stood t c (z ++ b)) all
          ∙ sym (text_before_tail-stood t c (z ++ b) m refl),
    )

-- one text after the other
pub completes_twice : (t : Kind) (c : ConfigView) (x y z first second : List ℕ) → IsTextBetween t c x y first
    → IsTextBetween t c y z second
    → IsTextBetween t c x z (first ++ second)
completes_twice t c x y z first second h k = grind (arith, append_assoc)

-- the stream up to a limit that it hasn't reached yet
pub cut_longer : (z bytes : List ℕ) (m : ℕ) → length z ≤ m → (more : List ℕ) × (z ++ more ≡ take m (z ++ bytes))
cut_longer z bytes m le =
    let all : length z + (m - length z) ≡ m = omega arith in (
      take (m - length z) bytes,
      sym (ap (λ k. take k (z ++ bytes)) (sym all) ∙ take-append-add z bytes (m - length z)),
    )
