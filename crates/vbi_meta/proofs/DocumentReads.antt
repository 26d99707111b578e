-- The documents of a stream are read as their values.
use Rattle.vbi_meta.proofs.Common.{◌≡◌, ℕ, ◌+◌, ◌*◌, ◌%◌, ◌<◌, ◌≤◌, ◌^◌, List, [], ◌∷◌, ◌++◌, length, Bool, false, refl}
use Rattle.vbi_meta.proofs.Common.{sym, ap, ◌∙◌, subst, arith, option_and_then, append-nil, IsUtf8-append, join_by}
use Rattle.vbi_meta.proofs.Common.{range_with_len, codes, tokens-print_spaced, ArePrintable-json_tokens}
use Rattle.vbi_meta.proofs.Common.{IsUtf8-are_ascii, tokens, ArePrintable, AreGaps, json_tokens, depth, Data, of_json}
use Rattle.vbi_meta.proofs.Common.{max_depth, read, System, ConfigView, Ntsc, Pal, field_bytes}
use Rattle.vbi_meta.proofs.Common.{recovered_without, recovered_record_of, document, recovered_document, whole_text}
use Rattle.vbi_meta.proofs.Common.{fields_of, rest_of, rows_in, IsOfRun, document_with, document_value, recovered_value}
use Rattle.vbi_meta.proofs.Common.{recovered_field_value, IsReadAs, Slicing, Some, IsUtf8}
use Rattle.std.proofs.Common.{◌/◌}
use Rattle.json.proofs.Printed.Trees.{value-json_tokens}
use Rattle.json.specs.Json as json
use Rattle.json.specs.Spaced.{print_spaced}
use Rattle.vbi_field.specs.ConfigView.{most_fields}
use Rattle.vbi_field.specs.Document.{tail_of}
use Rattle.vbi_field.specs.Texts.{text_before_tail}
use Rattle.vbi_meta.proofs.DocumentTexts.{tokens_of, Records, head_with, plain_head, recovered_head, document_json}
use Rattle.vbi_meta.proofs.DocumentTexts.{pieces, pieces_tokens, pieces_gaps, pieces_print, tokens_gapped_then}
use Rattle.vbi_meta.proofs.DocumentTexts.{gaps_gapped_then}
use Rattle.vbi_meta.proofs.FieldWrites.{rows_written}
use Rattle.vbi_meta.proofs.LineFeeds.{tokens-line_feed}
use Rattle.vbi_meta.proofs.NearTexts.{recovered_json}
use Rattle.vbi_meta.proofs.RecordTexts.{Pieces, gapped}
use Rattle.vbi_meta.proofs.StreamRecords.{plain_records, plain_read, recovered_records, recovered_read}
use Rattle.vbi_meta.proofs.StreamRecords.{recovered_prints, recovered_depth}
use Rattle.vbi_meta.proofs.ValueReads.{Reads, AreUtf8, AreRead, printed_utf8, stream_reads, stream_depth}
use Rattle.vbi_meta.proofs.ValueReads.{recovered_reads}

-- ---- any text

-- a text with the tokens of a tree is the value that the tree is read as
read_tokens : (text : List ℕ) {j : json.Json} {d : Data} → tokens text ≡ json_tokens j → depth j ≤ max_depth → Reads j d
    → read text ≡ Some d
read_tokens text {j} {d} e h reads =
    ap (λ ts. option_and_then of_json (option_and_then (λ p. json.if_last p.0 p.1) (json.value max_depth ts)))
    (e ∙ sym (append-nil (json_tokens j)))
    ∙ ap (λ o. option_and_then of_json (option_and_then (λ p. json.if_last p.0 p.1) o))
    (value-json_tokens j max_depth [] h)
    ∙ reads.is

-- by the grammar alone it is that tree
parsed_tokens : (text : List ℕ) (j : json.Json) → tokens text ≡ json_tokens j → depth j ≤ max_depth
    → json.document text ≡ Some j
parsed_tokens text j e h =
    ap (λ ts. option_and_then (λ p. json.if_last p.0 p.1) (json.value json.max_depth ts))
    (e ∙ sym (append-nil (json_tokens j)))
    ∙ ap (option_and_then (λ p. json.if_last p.0 p.1)) (value-json_tokens j json.max_depth [] (omega arith))

-- a text with the tokens of a tree, in UTF-8
token_text_is_read : (text : List ℕ) (j : json.Json) (d : Data) → IsUtf8 text → tokens text ≡ json_tokens j
    → depth j ≤ max_depth → Reads j d → IsReadAs text d
token_text_is_read text j d utf8 e shallow reads = record {
  utf8 = utf8;
  value_of_text = read_tokens text e shallow reads;
  unique = (j, parsed_tokens text j e shallow, reads.unique);
}

-- a text of pieces, where their tokens are those of a tree
module _ (ps : Pieces) (gaps : AreGaps ps) (j : json.Json) (d : Data) (same : tokens_of ps ≡ json_tokens j)
    (reads : Reads j d) (shallow : depth j ≤ max_depth) where
  abbrev text : List ℕ
  text = print_spaced false ps

  text_utf8 : IsUtf8 text
  text_utf8 = printed_utf8 false ps gaps (subst AreUtf8 (sym same) reads.utf8)

  text_tokens : tokens text ≡ json_tokens j
  text_tokens =
      tokens-print_spaced ps gaps (subst ArePrintable (sym same) (ArePrintable-json_tokens j reads.numbers)) ∙ same

  pub pieces_are_read : IsReadAs text d
  pieces_are_read = token_text_is_read text j d text_utf8 text_tokens shallow reads

  -- and a line feed
  line_is_read : IsReadAs (text ++ 10 ∷ []) d
  line_is_read =
      token_text_is_read (text ++ 10 ∷ []) j d (IsUtf8-append text _ text_utf8 (IsUtf8-are_ascii _ refl))
      (tokens-line_feed text ∙ text_tokens) shallow reads

-- ---- the numbers of a run

fields_within : (system : System) (fields bytes : ℕ) → bytes ≤ fields * field_bytes system
    → bytes / field_bytes system ≤ fields
fields_within Ntsc fields bytes h = omega arith
fields_within Pal fields bytes h = omega arith

pub few_fields : (c : ConfigView) (z : List ℕ) → IsOfRun c z → fields_of c z ≤ most_fields
few_fields c z run = omega (arith, fields_within c.system c.max_fields (length z) run.within, run.config.max_fields)

small_rest : (system : System) (bytes : ℕ) → bytes % field_bytes system < 2 ^ 64
small_rest Ntsc bytes = omega arith
small_rest Pal bytes = omega arith

-- ---- the documents

-- head, records and tail, as the value that the records are read as
stream_is_read : (records : Records) (values : ℕ → Data) → AreRead records values → (c : ConfigView) (z : List ℕ)
    → IsOfRun c z
    → IsReadAs ((head_with records.version c
    ++ join_by records.text (codes ",\n") (range_with_len 0 (fields_of c z))) ++ tail_of (fields_of c z) (rest_of c z))
    (document_with records.version values c (fields_of c z) (rest_of c z))
stream_is_read records values are c z run =
    let fields = fields_of c z in
    let rest = rest_of c z in
    let is = range_with_len 0 fields in
    let value = document_with records.version values c fields rest in
    let black : c.levels.black < 2 ^ 64 = omega (arith, run.config.black) in
    let white : c.levels.white < 2 ^ 64 = omega (arith, run.config.white) in
    let few : fields + 1 < 2 ^ 64 = omega (arith, few_fields c z run) in
    let small : rest < 2 ^ 64 = small_rest c.system (length z) in
    let reads = stream_reads records values are c fields rest black white few small in
    subst (λ (text : List ℕ). IsReadAs text value) (pieces_print c records fields rest is)
    (line_is_read (pieces c records fields rest is) (pieces_gaps c records fields rest is)
    (document_json c records fields rest is) value (pieces_tokens c records fields rest is) reads
    (stream_depth records values are c fields rest is))

-- what comes after the head
abbrev after_head : Records → ConfigView → List ℕ → List ℕ → List ℕ
after_head records c z head =
    (head ++ join_by records.text (codes ",\n") (range_with_len 0 (fields_of c z)))
    ++ tail_of (fields_of c z) (rest_of c z)

pub document_is_read : (c : ConfigView) (z : List ℕ) → IsOfRun c z
    → IsReadAs (whole_text document c z) (document_value c z)
unfolding text_before_tail
document_is_read c z run =
    subst (λ (head : List ℕ). IsReadAs (after_head (plain_records c z) c z head) (document_value c z)) (plain_head c)
    (stream_is_read (plain_records c z) _ (plain_read c z) c z run)

pub recovered_is_read : (c : ConfigView) (z : List ℕ) → IsOfRun c z
    → IsReadAs (whole_text recovered_document c z) (recovered_value c z)
unfolding text_before_tail
recovered_is_read c z run =
    subst (λ (head : List ℕ). IsReadAs (after_head (recovered_records c run.config z) c z head) (recovered_value c z))
    (recovered_head c)
    (stream_is_read (recovered_records c run.config z) _ (recovered_read c run.config z) c z run)

-- ---- a record of version 3 by itself

pub record_is_read : (system : System) (slicing : Slicing) (number : ℕ) (bytes : List ℕ) (marks : List Bool)
    → slicing.white < 2 ^ 16 → number < 2 ^ 64
    → let field = recovered_without system slicing (rows_in system bytes) marks in
    IsReadAs (recovered_record_of slicing number field) (recovered_field_value slicing number field)
unfolding print_spaced
record_is_read system slicing number bytes marks white small =
    let field = recovered_without system slicing (rows_in system bytes) marks in
    let written = rows_written system slicing bytes 0 0 marks (omega (arith, white)) in
    let tree = recovered_json slicing number field in
    let value = recovered_field_value slicing number field in
    let ts = json_tokens tree in
    subst (λ (text : List ℕ). IsReadAs text value)
    (recovered_prints false [] slicing number field [] written ∙ append-nil (recovered_record_of slicing number field))
    (pieces_are_read (gapped [] ts ++ []) (gaps_gapped_then [] ts [] tt tt) tree value
    (tokens_gapped_then [] ts [] ∙ append-nil ts) (recovered_reads slicing number field small written)
    (omega (arith, recovered_depth slicing number field)))
