-- The records of a stream's documents: their texts, their trees, and the values that these are read as.
use Rattle.vbi_meta.proofs.Common.{◌≡◌, ℕ, ◌+◌, ◌≤◌, ◌==◌, Bool, true, false, cond, List, [], ◌∷◌, ◌++◌, ap, ◌∙◌, lit<}
use Rattle.vbi_meta.proofs.Common.{lit≤, arith, json_tokens, depth, Slicing, none_erased, ConfigView, Near}
use Rattle.vbi_meta.proofs.Common.{FieldRecovered, cause_lines, hundredths, word_or_zero, recovered_record_of}
use Rattle.vbi_meta.proofs.Common.{as_readings, Reading, readings_at, rows_at, field_value, recovered_field_value}
use Rattle.json.specs.Json as json
use Rattle.json.specs.Spaced.{print_spaced}
use Rattle.vbi_field.specs.Document.{record_of}
use Rattle.vbi_field.specs.RecoveredDocument.{nears_text_of, recovered_of}
use Rattle.vbi_meta.specs.DocumentValue.{IsConfig}
use Rattle.vbi_meta.proofs.DocumentTexts.{Records}
use Rattle.vbi_meta.proofs.FieldWrites.{rows_written}
use Rattle.vbi_meta.proofs.NearTexts.{near_json_by, near_json, near_members, recovered_json, nears_last}
use Rattle.vbi_meta.proofs.RecordTexts.{Pieces, gapped, record_json, record_prints, plain_record, none_last}
use Rattle.vbi_meta.proofs.ShownLines.{field_shown}
use Rattle.vbi_meta.proofs.ValueReads.{AreRead, IsWritten, field_reads, recovered_reads}

-- ---- version 2

module _ (c : ConfigView) (z : List ℕ) where
  pub plain_prints : (before : Bool) (i : ℕ) (qs : Pieces)
      → print_spaced before (gapped (10 ∷ []) (json_tokens
      (record_json (i + 1) (readings_at c z i) (readings_at c z i) json.no_members)) ++ qs)
      ≡ cond before (44 ∷ []) [] ++ (10 ∷ (record_of (i + 1) (readings_at c z i) ++ print_spaced true qs))
  plain_prints before i qs =
      let readings = readings_at c z i in
      record_prints before (10 ∷ []) (i + 1) readings readings json.no_members [] qs (field_shown c z i) none_last
      ∙ ap (λ text. cond before (44 ∷ []) [] ++ (10 ∷ (text ++ print_spaced true qs))) (plain_record (i + 1) readings)

  abbrev pub plain_records : Records
  plain_records = record {
    version = 2;
    text = λ i. record_of (i + 1) (readings_at c z i);
    tree = λ i. record_json (i + 1) (readings_at c z i) (readings_at c z i) json.no_members;
    prints = plain_prints;
  }

  pub plain_read : AreRead plain_records (λ i. field_value (i + 1) (readings_at c z i))
  plain_read = record {
    version = lit< tt;
    each = λ i small. field_reads (i + 1) (readings_at c z i) small (field_shown c z i);
    shallow = λ i. lit≤ tt;
  }

-- ---- version 3

-- a record after a gap, and a comma where another is before it
pub recovered_prints : (before : Bool) (gap : List ℕ) (slicing : Slicing) (n : ℕ) (field : FieldRecovered)
    (qs : Pieces) → IsWritten slicing field
    → print_spaced before (gapped gap (json_tokens (recovered_json slicing n field)) ++ qs)
    ≡ cond before (44 ∷ []) [] ++ (gap ++ (recovered_record_of slicing n field ++ print_spaced true qs))
recovered_prints before gap slicing n field qs is =
    let lines = as_readings field.shown in
    record_prints before gap n lines (cause_lines lines field.readings) (near_members slicing lines field)
    (nears_text_of slicing lines field) qs is.causes (nears_last slicing lines field)

near_depth_by : (is_recovered : Bool) (word distance rival : ℕ)
    → depth (near_json_by is_recovered word distance rival) ≤ 1
near_depth_by true word distance rival = lit≤ tt
near_depth_by false word distance rival = lit≤ tt

near_depth : (slicing : Slicing) (line : Reading) (near : Near) → depth (near_json slicing line near) ≤ 1
near_depth slicing line near =
    near_depth_by (line.pass == 3) (word_or_zero near.word) (hundredths slicing near.distance)
    (hundredths slicing near.rival)

pub recovered_depth : (slicing : Slicing) (n : ℕ) (field : FieldRecovered) → depth (recovered_json slicing n field) ≤ 3
recovered_depth slicing n field =
    let lines = as_readings field.shown in
    omega (
      arith,
      near_depth slicing lines.first field.first,
      near_depth slicing lines.second field.second,
      near_depth slicing lines.third field.third,
    )

module _ (c : ConfigView) (config : IsConfig c) (z : List ℕ) where
  abbrev pub field_at : ℕ → FieldRecovered
  field_at i = recovered_of c (rows_at c z i)

  pub written : (i : ℕ) → IsWritten c.levels (field_at i)
  written i = rows_written c.system c.levels z i 15 (none_erased c.system) (omega (arith, config.white))

  abbrev pub recovered_records : Records
  recovered_records = record {
    version = 3;
    text = λ i. recovered_record_of c.levels (i + 1) (field_at i);
    tree = λ i. recovered_json c.levels (i + 1) (field_at i);
    prints = λ before i qs. recovered_prints before (10 ∷ []) c.levels (i + 1) (field_at i) qs (written i);
  }

  pub recovered_read : AreRead recovered_records (λ i. recovered_field_value c.levels (i + 1) (field_at i))
  recovered_read = record {
    version = lit< tt;
    each = λ i small. recovered_reads c.levels (i + 1) (field_at i) small (written i);
    shallow = λ i. recovered_depth c.levels (i + 1) (field_at i);
  }
