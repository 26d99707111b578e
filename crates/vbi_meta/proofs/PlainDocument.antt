-- The document of a run is plain.
use Rattle.vbi_meta.proofs.Common.{◌≡◌, ℕ, ◌+◌, ◌<◌, ◌^◌, ◌%◌, Bool, false, List, [], ◌∷◌, ◌++◌, length, refl, inl, inr}
use Rattle.vbi_meta.proofs.Common.{◌∙◌, sym, subst, arith, lit<, All-from_recursion, AllByRecursion, join_by}
use Rattle.vbi_meta.proofs.Common.{range_with_len, codes, tokens-print_spaced, ArePrintable-json_tokens, tokens}
use Rattle.vbi_meta.proofs.Common.{ArePrintable, Token, json_tokens, Outcome, Word, Blank, Unfinished, Change, Hold}
use Rattle.vbi_meta.proofs.Common.{System, ConfigView, Ntsc, Pal, field_bytes, row_levels, line_at, fields_of, rest_of}
use Rattle.vbi_meta.proofs.Common.{reading_at, readings_at, is_reading, document, whole_text, IsOfRun, field_value}
use Rattle.vbi_meta.proofs.Common.{IsPlain, IsSmall, IsPlainText}
use Rattle.json.specs.Spaced.{print_spaced}
use Rattle.vbi_words.specs.Readings.{Reads}
use Rattle.vbi_field.specs.Texts.{text_before_tail}
use Rattle.vbi_field.specs.Document.{tail_of}
use Rattle.vbi_meta.proofs.DocumentReads.{few_fields}
use Rattle.vbi_meta.proofs.DocumentTexts.{tokens_of, head_with, plain_head, document_json, pieces, pieces_tokens}
use Rattle.vbi_meta.proofs.DocumentTexts.{pieces_gaps, pieces_print}
use Rattle.vbi_meta.proofs.LineFeeds.{tokens-line_feed}
use Rattle.vbi_meta.proofs.{BytesOf.then, PlainBytes.Plain, PlainBytes.known, PlainBytes.count}
use Rattle.vbi_meta.proofs.PlainTokens.{ArePlainTokens, IsPlainReading, ArePlainReadings, printed, field_tree}
use Rattle.vbi_meta.proofs.PlainTokens.{document_tokens}
use Rattle.vbi_meta.proofs.ShownLines.{IsShown, short_row, short_levels, field_shown}
use Rattle.vbi_meta.proofs.StreamRecords.{plain_records, plain_read}
use Rattle.vbi_meta.proofs.ValueReads.{stream_reads}

-- ---- the readings of a stream

small_rest : (system : System) (bytes : ℕ) → bytes % field_bytes system < 2 ^ 24
small_rest Ntsc bytes = omega arith
small_rest Pal bytes = omega arith

-- a cause is plain, and its column is within a line
plain_reading : (system : System) (levels : List Bool) → length levels < 2 ^ 64 → (outcome : Outcome) (pass : ℕ)
    → Reads system levels outcome pass → IsShown (record { outcome = outcome; pass = pass })
    → IsPlainReading (record { outcome = outcome; pass = pass })
plain_reading system levels short (Word w) pass (inl (p, shows)) shown = grind (arith, known)
plain_reading system levels short (Word w) pass (inr (p, none, high, shows)) shown = grind (arith, known)
plain_reading system levels short Blank pass (p, is, none) shown =
    record { value = lit< tt; pass = omega arith; free = shown.free; cause = known (codes "blank") refl }
plain_reading system levels short Unfinished pass (p, is, none) shown =
    record { value = lit< tt; pass = omega arith; free = shown.free; cause = known (codes "unfinished") refl }
plain_reading system levels short (Change c) pass (p, is, none) shown = grind (arith, lit<, then, known, count)
plain_reading system levels short (Hold c) pass (p, is, none) shown = grind (arith, lit<, then, known, count)

row_plain : (c : ConfigView) (z : List ℕ) (i r : ℕ) → IsShown (reading_at c z i r) → IsPlainReading (reading_at c z i r)
row_plain c z i r =
    plain_reading c.system _ (short_levels c.levels (line_at c.system z i r) (short_row c.system z i r)) _ _
    (is_reading c.system (row_levels c.levels (line_at c.system z i r)))

field_plain : (c : ConfigView) (z : List ℕ) (i : ℕ) → ArePlainReadings (readings_at c z i)
field_plain c z i =
    let shown = field_shown c z i in
    record {
      first = row_plain c z i 15 shown.first;
      second = row_plain c z i 16 shown.second;
      third = row_plain c z i 17 shown.third;
    }

-- ---- the text

both : (ts : List Token) → ArePlainTokens ts → AllByRecursion IsSmall ts
both [] h = tt
both (t ∷ ts) h = (h.0.1, both ts h.1)

pub plain_document : (c : ConfigView) (z : List ℕ) → IsOfRun c z → IsPlainText (whole_text document c z)
unfolding text_before_tail
plain_document c z run =
    let records = plain_records c z in
    let fields = fields_of c z in
    let rest = rest_of c z in
    let is = range_with_len 0 fields in
    let black = run.config.black in
    let white = run.config.white in
    let few = few_fields c z run in
    let small : rest < 2 ^ 24 = small_rest c.system (length z) in
    let ps = pieces c records fields rest is in
    let gaps = pieces_gaps c records fields rest is in
    let tree = document_json c records fields rest is in
    let same : tokens_of ps ≡ json_tokens tree = pieces_tokens c records fields rest is in
    let plain : ArePlainTokens (json_tokens tree)
    = document_tokens c records fields rest (lit< tt) (λ i small. field_tree (i + 1) (readings_at c z i) small
    (field_plain c z i)) (omega arith) (omega arith) (omega arith) small in
    let reads = stream_reads records (λ i. field_value (i + 1) (readings_at c z i)) (plain_read c z) c fields rest
    (omega arith) (omega arith) (omega arith) (omega arith) in
    let printable : ArePrintable (tokens_of ps)
    = subst ArePrintable (sym same) (ArePrintable-json_tokens tree reads.numbers) in
    let line : List ℕ = print_spaced false ps ++ 10 ∷ [] in
    let lexed : tokens line ≡ json_tokens tree
    = tokens-line_feed (print_spaced false ps) ∙ tokens-print_spaced ps gaps printable ∙ same in
    let bytes : Plain line = then (printed false ps gaps (subst ArePlainTokens (sym same) plain))
    (known (10 ∷ []) refl) in
    let head : IsPlainText ((head_with 2 c ++ join_by records.text (codes ",\n") is) ++ tail_of fields rest)
    = subst IsPlainText (pieces_print c records fields rest is) (record {
      bytes = All-from_recursion IsPlain line bytes.all;
      numbers = All-from_recursion IsSmall (tokens line)
          (subst (AllByRecursion IsSmall) (sym lexed) (both (json_tokens tree) plain));
    }) in
    subst (λ (head : List ℕ). IsPlainText ((head ++ join_by records.text (codes ",\n") is) ++ tail_of fields rest))
    (plain_head c) head
