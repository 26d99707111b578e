-- A record of version 3 is on one line.
use Rattle.vbi_meta.proofs.Common.{ℕ, ◌<◌, ◌^◌, ◌==◌, Bool, List, ◌++◌, decimal, refl, arith, All-from_recursion, codes}
use Rattle.vbi_meta.proofs.Common.{System, Slicing, Near, FieldRecovered, cause_lines, word_or_zero, hundredths}
use Rattle.vbi_meta.proofs.Common.{recovered_record_of, recovered_without, as_readings, Reading, rows_in, FieldReadings}
use Rattle.vbi_meta.proofs.Common.{IsPrinted}
use Rattle.std.specs.Prelude.{All}
use Rattle.vbi_field.specs.Document.{lines_of}
use Rattle.vbi_field.specs.RecoveredDocument.{near_text_of, nears_text_of, record_with}
use Rattle.vbi_meta.proofs.FieldWrites.{rows_written}
use Rattle.vbi_meta.proofs.{BytesOf.then, PrintedBytes.Printed, PrintedBytes.known, PrintedBytes.count}
use Rattle.vbi_meta.proofs.RecordTexts.{LineList, list_of, word_list, cause_list, pass_list}
use Rattle.vbi_meta.proofs.RecoveredLines.{either}
use Rattle.vbi_meta.proofs.ShownLines.{IsShown, AreShown}
use Rattle.vbi_meta.proofs.ValueReads.{IsFew, IsWritten}

list-printed : (list : LineList) → Printed list.opening → Printed list.closing → (readings : FieldReadings)
    → AreShown readings → ((reading : Reading) → IsShown reading → Printed (list.text_of reading))
    → Printed (list_of list readings)
unfolding lines_of
list-printed list opening closing readings are text =
    let comma : Printed (codes ",") = known (codes ",") refl in
    then (then (then (then (then (then opening (text readings.first are.first)) comma)
    (text readings.second are.second)) comma) (text readings.third are.third)) closing

near-printed : (slicing : Slicing) (line : Reading) (near : Near) → IsFew slicing near
    → Printed (near_text_of slicing line near)
unfolding near_text_of
near-printed slicing line near few =
    either Printed (line.pass == 3)
    (codes "{\"word\":" ++ decimal (word_or_zero near.word)
    ++ codes ",\"distance\":" ++ decimal (hundredths slicing near.distance)
    ++ codes ",\"rival\":" ++ decimal (hundredths slicing near.rival) ++ codes "}") (codes "null")
    (λ three. then (then (then (then (then (then (known (codes "{\"word\":") refl) (count _ few.word))
    (known (codes ",\"distance\":") refl)) (count _ few.distance)) (known (codes ",\"rival\":") refl))
    (count _ few.rival)) (known (codes "}") refl))
    (λ other. known (codes "null") refl)

nears-printed : (slicing : Slicing) (lines : FieldReadings) (field : FieldRecovered) → IsFew slicing field.first
    → IsFew slicing field.second → IsFew slicing field.third → Printed (nears_text_of slicing lines field)
unfolding nears_text_of
nears-printed slicing lines field first second third =
    let comma : Printed (codes ",") = known (codes ",") refl in
    then (then (then (then (then (then (known (codes ",\"vbiNear\":[") refl)
    (near-printed slicing lines.first field.first first)) comma)
    (near-printed slicing lines.second field.second second)) comma)
    (near-printed slicing lines.third field.third third)) (known (codes "]") refl)

record-printed : (slicing : Slicing) (n : ℕ) (field : FieldRecovered) → n < 2 ^ 64 → IsWritten slicing field
    → Printed (recovered_record_of slicing n field)
unfolding record_with
record-printed slicing n field small is =
    let lines = as_readings field.shown in
    let quote : Printed (codes "\"") = known (codes "\"") refl in
    then (then (then (then (then (then (known (codes "{\"seqNo\":") refl) (count n small))
    (list-printed word_list (known word_list.opening refl) (known word_list.closing refl) lines is.lines
    (λ reading shown. count _ shown.value)))
    (list-printed cause_list (known cause_list.opening refl) (known cause_list.closing refl)
    (cause_lines lines field.readings) is.causes (λ reading shown. then (then quote shown.printed) quote)))
    (list-printed pass_list (known pass_list.opening refl) (known pass_list.closing refl) lines is.lines
    (λ reading shown. count _ shown.pass)))
    (nears-printed slicing lines field is.first is.second is.third)) (known (codes "}") refl)

pub record_is_line : (system : System) (slicing : Slicing) (number : ℕ) (bytes : List ℕ) (marks : List Bool)
    → slicing.white < 2 ^ 16 → number < 2 ^ 64
    → let field = recovered_without system slicing (rows_in system bytes) marks in
    All IsPrinted (recovered_record_of slicing number field)
record_is_line system slicing number bytes marks white small =
    let field = recovered_without system slicing (rows_in system bytes) marks in
    let written = rows_written system slicing bytes 0 0 marks (omega (arith, white)) in
    let printed = record-printed slicing number field small written in
    All-from_recursion IsPrinted (recovered_record_of slicing number field) printed.all
