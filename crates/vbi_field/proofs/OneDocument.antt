-- A stream has one text of each kind.
use Rattle.vbi_field.proofs.Common.{arith, ◌≡◌, ℕ, ◌+◌, ◌++◌, ap, ◌∙◌, ◌↔◌, fields_of, rest_of, FieldReadings}
use Rattle.vbi_field.proofs.Common.{is_reading, only_reading, FieldReads, whole_text, ReadingKind, by, ConfigView, List}
use Rattle.vbi_field.specs.Stream.{readings_at}
use Rattle.vbi_field.specs.Texts.{IsWholeText, text_before_tail}
use Rattle.vbi_field.proofs.Entries.{entry_of, joined-same}

-- a field has no other readings
pub only_field : (c : ConfigView) (z : List ℕ) (i : ℕ) (r : FieldReadings) → FieldReads c z i r → r ≡ readings_at c z i
only_field c z i r h = grind (arith, only_reading)

pub is_field : (c : ConfigView) (z : List ℕ) (i : ℕ) → FieldReads c z i (readings_at c z i)
is_field c z i = record { first = is_reading c.system _; second = is_reading c.system _; third = is_reading c.system _ }

only_document : (t : ReadingKind) (c : ConfigView) (z text : List ℕ) → IsWholeText t c z text
    → text ≡ whole_text (by t) c z
unfolding text_before_tail
only_document t c z text (readings, each, e) =
    e ∙ ap (λ l. t.head c ++ l ++ t.tail (fields_of c z) (rest_of c z))
    (joined-same (λ i. t.entry (i + 1) (readings i)) (entry_of (by t) c z) t.joint (fields_of c z)
    (λ i lt. ap (t.entry (i + 1)) (only_field c z i (readings i) (each i lt))))

is_document : (t : ReadingKind) (c : ConfigView) (z text : List ℕ) → text ≡ whole_text (by t) c z
    → IsWholeText t c z text
unfolding text_before_tail
is_document t c z text e = (readings_at c z, λ i lt. is_field c z i, e)

pub one_document : (t : ReadingKind) (c : ConfigView) (z text : List ℕ)
    → IsWholeText t c z text ↔ (text ≡ whole_text (by t) c z)
one_document t c z text = (only_document t c z text, is_document t c z text)
