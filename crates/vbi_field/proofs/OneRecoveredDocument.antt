-- A stream has one document and one report with recovered words.
use Rattle.vbi_field.proofs.Common.{rules, ◌≡◌, ℕ, ◌+◌, ◌++◌, ap, ◌∙◌, sym, subst, ◌↔◌, Slicing, is_reading}
use Rattle.vbi_field.proofs.Common.{only_reading, row_of, none_erased, ConfigView, System, recovered_without}
use Rattle.vbi_field.proofs.Common.{joined_rows, fields_of, rest_of, rows_at, row_levels, FieldRows, whole_text}
use Rattle.std.proofs.Common.{Bool, List}
use Rattle.vbi_field.specs.RecoveredDocument.{FieldRecovered, RowsRecover, recovered_of}
use Rattle.vbi_near.specs.Candidates.{marks_at}
use Rattle.vbi_field.specs.Texts.{IsRecoveredText, RecoveredKind, recovering, text_before_tail}
use Rattle.vbi_field.proofs.Entries.{entry_of, joined-same}
use Rattle.vbi_field.proofs.OneShown.{only_near, only_shown, is_near, is_shown}

pub only_one : (system : System) (slicing : Slicing) (rows : FieldRows) (marks : List Bool) (f : FieldRecovered)
    → RowsRecover system slicing rows marks f → f ≡ recovered_without system slicing rows marks
only_one system slicing rows marks f h = λ j. record {
  readings = record {
    first = only_reading system (row_levels slicing rows.first) f.readings.first h.first_reads j;
    second = only_reading system (row_levels slicing rows.second) f.readings.second h.second_reads j;
    third = only_reading system (row_levels slicing rows.third) f.readings.third h.third_reads j;
  };
  shown = only_shown system slicing (joined_rows rows) marks f.shown h.shown j;
  first = only_near system slicing (row_of rows.first (marks_at system marks 0)) f.first h.first j;
  second = only_near system slicing (row_of rows.second (marks_at system marks 1)) f.second h.second j;
  third = only_near system slicing (row_of rows.third (marks_at system marks 2)) f.third h.third j;
}

pub is_one : (system : System) (slicing : Slicing) (rows : FieldRows) (marks : List Bool)
    → RowsRecover system slicing rows marks (recovered_without system slicing rows marks)
is_one system slicing rows marks = search (rules, is_reading, is_shown, is_near)

pub one_field : (system : System) (slicing : Slicing) (rows : FieldRows) (marks : List Bool) (f : FieldRecovered)
    → RowsRecover system slicing rows marks f ↔ (f ≡ recovered_without system slicing rows marks)
one_field system slicing rows marks f = (
  only_one system slicing rows marks f,
  λ e. subst (λ (g : FieldRecovered). RowsRecover system slicing rows marks g) (sym e)
      (is_one system slicing rows marks),
)

only_text : (t : RecoveredKind) (c : ConfigView) (z text : List ℕ) → IsRecoveredText t c z text
    → text ≡ whole_text (recovering t) c z
unfolding text_before_tail
only_text t c z text (fields, each, e) =
    e ∙ ap (λ l. t.head c ++ l ++ t.tail (fields_of c z) (rest_of c z))
    (joined-same (λ i. t.entry c (i + 1) (fields i)) (entry_of (recovering t) c z) t.joint
    (fields_of c z) (λ i lt. ap (t.entry c (i + 1)) (only_one c.system c.levels (rows_at c z i)
    (none_erased c.system) (fields i) (each i lt))))

is_text : (t : RecoveredKind) (c : ConfigView) (z text : List ℕ) → text ≡ whole_text (recovering t) c z
    → IsRecoveredText t c z text
unfolding text_before_tail
is_text t c z text e = (
  λ i. recovered_of c (rows_at c z i),
  λ i lt. is_one c.system c.levels (rows_at c z i) (none_erased c.system),
  e,
)

pub one_recovered_document : (t : RecoveredKind) (c : ConfigView) (z text : List ℕ)
    → IsRecoveredText t c z text ↔ (text ≡ whole_text (recovering t) c z)
one_recovered_document t c z text = (only_text t c z text, is_text t c z text)
