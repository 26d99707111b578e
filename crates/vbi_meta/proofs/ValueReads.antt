-- Trees of JSON and the values that they are read as, built together, and those of a document of either version.
use Rattle.vbi_meta.proofs.Common.{◌≡◌, ℕ, suc, zero, ◌+◌, ◌<◌, ◌≤◌, ◌^◌, ◌==◌, ◌&&◌, not, Bool, true, false, cond}
use Rattle.vbi_meta.proofs.Common.{length, List, [], ◌∷◌, ◌++◌, option_map, option_and_then, map, refl, sym, ap, ap₂}
use Rattle.vbi_meta.proofs.Common.{◌∙◌, arith, lit<, lit≤, not-true, and_parts, IsUtf8-append, range_with_len, codes}
use Rattle.vbi_meta.proofs.Common.{are_ascii, IsUtf8-are_ascii, token_text, ends, AreGaps, Token, json_tokens}
use Rattle.vbi_meta.proofs.Common.{items_tokens, members_tokens, depth, Data, string, max_depth, of_json, items_of}
use Rattle.vbi_meta.proofs.Common.{System, ConfigView, Ntsc, Pal, width_of, height_of, name_of, Reading, FieldReadings}
use Rattle.vbi_meta.proofs.Common.{cause_text_of, value_of, Near, FieldRecovered, word_or_zero, hundredths, cause_lines}
use Rattle.vbi_meta.proofs.Common.{as_readings, Slicing, object_of, whole_of, lines_value, field_with, field_value}
use Rattle.vbi_meta.proofs.Common.{near_value, nears_value, recovered_field_value, document_with}
use Rattle.std.proofs.Common.{◌≢◌, bytes_eq, get_or, Some, IsUtf8}
use Rattle.std.proofs.lemmas.Bool.{true≢false}
use Rattle.std.proofs.lemmas.Slice.Eq.{bytes_eq-Decides}
use Rattle.std.proofs.lemmas.Str.{IsUtf8-nil}
use Rattle.std.specs.Prelude.{fold, ⊤}
use Rattle.json.proofs.Printed.Decimals.{IsNumber-decimal}
use Rattle.json.proofs.Printed.Utf8.{IsUtf8-quoted, IsUtf8-key, IsUtf8-separator, IsUtf8-IsGap}
use Rattle.json.specs.Json as json
use Rattle.json.specs.Spaced.{print_spaced}
use Rattle.json.specs.Strict.{keys, AreDistinct, HasUniqueKeys, ItemsHaveUniqueKeys, MembersHaveUniqueKeys}
use Rattle.json.specs.Tree.{items_depth, HasNumbers, ItemsHaveNumbers, MembersHaveNumbers}
use Rattle.serde_json.proofs.Numbers.{number_of-decimal}
use Rattle.serde_json.specs.Data.{null, number, array, object, item, Members, put}
use Rattle.serde_json.specs.Read.{of_items, of_members}
use Rattle.vbi_meta.specs.DocumentValue.{array_of, parameters_value}
use Rattle.vbi_meta.proofs.DocumentTexts.{tokens_of, Records, parameters_json, cut_json, entries_json, document_json}
use Rattle.vbi_meta.proofs.NearTexts.{near_json_by, near_json, nears_json, recovered_json}
use Rattle.vbi_meta.proofs.RecordTexts.{Pieces, count_json, lines_json, words_json, record_json}
use Rattle.vbi_meta.proofs.ShownLines.{AreShown, decimal_utf8}

-- ---- keys that differ

abbrev differs : List ℕ → List (List ℕ) → Bool
differs k [] = true
differs k (l ∷ ls) = not (bytes_eq k l) && differs k ls

abbrev distinct : List (List ℕ) → Bool
distinct [] = true
distinct (k ∷ ks) = differs k ks && distinct ks

differs_at : (k : List ℕ) (ks : List (List ℕ)) → differs k ks ≡ true → (j : ℕ) (d : List ℕ) → j < length ks
    → k ≢ get_or ks j d
differs_at k [] h j d within e = omega arith
differs_at k (l ∷ ls) h zero d within e =
    true≢false (sym ((bytes_eq-Decides k l).1 e)
    ∙ not-true (bytes_eq k l) (and_parts (not (bytes_eq k l)) (differs k ls) h).0)
differs_at k (l ∷ ls) h (suc j) d within e =
    differs_at k ls (and_parts (not (bytes_eq k l)) (differs k ls) h).1 j d (omega arith) e

are_distinct : (ks : List (List ℕ)) → distinct ks ≡ true → AreDistinct ks
are_distinct [] h i j d less within = absurd (omega arith)
are_distinct (k ∷ ks) h zero zero d less within = absurd (omega arith)
are_distinct (k ∷ ks) h zero (suc j) d less within =
    differs_at k ks (and_parts (differs k ks) (distinct ks) h).0 j d (omega arith)
are_distinct (k ∷ ks) h (suc i) zero d less within = absurd (omega arith)
are_distinct (k ∷ ks) h (suc i) (suc j) d less within =
    are_distinct ks (and_parts (differs k ks) (distinct ks) h).1 i j d (omega arith) (omega arith)

-- ---- texts in UTF-8

-- each token's text is
abbrev pub AreUtf8 : List Token → Type 0
AreUtf8 [] = ⊤
AreUtf8 (t ∷ ts) = IsUtf8 (token_text t) × AreUtf8 ts

AreUtf8-append : (ts us : List Token) → AreUtf8 ts → AreUtf8 us → AreUtf8 (ts ++ us)
AreUtf8-append [] us h k = k
AreUtf8-append (t ∷ ts) us h k = (h.0, AreUtf8-append ts us h.1 k)

pub printed_utf8 : (before : Bool) (ps : Pieces) → AreGaps ps → AreUtf8 (tokens_of ps) → IsUtf8 (print_spaced before ps)
unfolding print_spaced
printed_utf8 before [] gaps h = IsUtf8-nil
printed_utf8 before (p ∷ ps) gaps h =
    IsUtf8-append _ _ (IsUtf8-separator before p.1)
    (IsUtf8-append _ _ (IsUtf8-IsGap p.0 gaps.0)
    (IsUtf8-append _ _ h.0 (printed_utf8 (ends p.1) ps gaps.1 h.1)))

-- ---- trees and what they are read as

-- the tree is read as the value, its numbers are numbers, its keys come once, and its tokens are UTF-8
pub record Reads (j : json.Json) (d : Data) : Type 0 where
  pub is : of_json j ≡ Some d
  pub numbers : HasNumbers j
  pub unique : HasUniqueKeys j
  pub utf8 : AreUtf8 (json_tokens j)

record ReadsItems (js : json.Items) (ds : List Data) : Type 0 where
  is : of_items js ≡ Some (items_of ds)
  numbers : ItemsHaveNumbers js
  unique : ItemsHaveUniqueKeys js
  utf8 : AreUtf8 (items_tokens js)

-- the members are put in one after another, whatever stood there before
record ReadsMembers (ms : json.Members) (ds : List (List ℕ × Data)) : Type 0 where
  is : (before : Members) → of_members ms before ≡ Some (fold (λ found member. put member.0 member.1 found) before ds)
  numbers : MembersHaveNumbers ms
  unique : MembersHaveUniqueKeys ms
  utf8 : AreUtf8 (members_tokens ms)

count_reads : (n : ℕ) → n < 2 ^ 64 → Reads (count_json n) (whole_of n)
count_reads n h = record {
  is = ap (option_map number) (number_of-decimal n h);
  numbers = IsNumber-decimal n h;
  unique = tt;
  utf8 = (decimal_utf8 n h, tt);
}

string_reads : (s : List ℕ) → IsUtf8 s → Reads (json.string s) (string s)
string_reads s h = record { is = refl; numbers = tt; unique = tt; utf8 = (IsUtf8-quoted s h, tt) }

null_reads : Reads json.null null
null_reads = record { is = refl; numbers = tt; unique = tt; utf8 = (IsUtf8-are_ascii _ refl, tt) }

no_item : ReadsItems json.no_items []
no_item = record { is = refl; numbers = tt; unique = tt; utf8 = (IsUtf8-are_ascii _ refl, tt) }

with_item : {j : json.Json} {d : Data} {js : json.Items} {ds : List Data} → Reads j d → ReadsItems js ds
    → ReadsItems (json.item j js) (d ∷ ds)
with_item {j} {d} {js} {ds} one rest = record {
  is = ap₂ (λ x y. option_and_then (λ x. option_map (item x) y) x) one.is rest.is;
  numbers = (one.numbers, rest.numbers);
  unique = (one.unique, rest.unique);
  utf8 = AreUtf8-append (json_tokens j) (items_tokens js) one.utf8 rest.utf8;
}

no_member : ReadsMembers json.no_members []
no_member = record { is = λ before. refl; numbers = tt; unique = tt; utf8 = (IsUtf8-are_ascii _ refl, tt) }

with_member : (k : List ℕ) → are_ascii k ≡ true
    → {j : json.Json} {d : Data} {ms : json.Members} {ds : List (List ℕ × Data)}
    → Reads j d → ReadsMembers ms ds → ReadsMembers (json.member k j ms) ((k, d) ∷ ds)
with_member k plain {j} {d} {ms} {ds} one rest = record {
  is = λ before. ap (option_and_then (λ x. of_members ms (put k x before))) one.is ∙ rest.is (put k d before);
  numbers = (one.numbers, rest.numbers);
  unique = (one.unique, rest.unique);
  utf8 = (
    IsUtf8-key k (IsUtf8-are_ascii k plain),
    AreUtf8-append (json_tokens j) (members_tokens ms) one.utf8 rest.utf8,
  );
}

object_reads : {ms : json.Members} {ds : List (List ℕ × Data)} → distinct (keys ms) ≡ true → ReadsMembers ms ds
    → Reads (json.object ms) (object_of ds)
object_reads {ms} {ds} apart all = record {
  is = ap (option_map object) (all.is _);
  numbers = all.numbers;
  unique = (are_distinct (keys ms) apart, all.unique);
  utf8 = (IsUtf8-are_ascii _ refl, all.utf8);
}

array_reads : {js : json.Items} {ds : List Data} → ReadsItems js ds → Reads (json.array js) (array_of ds)
array_reads {js} {ds} all = record {
  is = ap (option_map array) all.is;
  numbers = all.numbers;
  unique = all.unique;
  utf8 = (IsUtf8-are_ascii _ refl, all.utf8);
}

-- ---- a field

lines_read : (tree : Reading → json.Json) (said : Reading → Data) (readings : FieldReadings)
    → Reads (tree readings.first) (said readings.first) → Reads (tree readings.second) (said readings.second)
    → Reads (tree readings.third) (said readings.third) → Reads (lines_json tree readings) (lines_value said readings)
lines_read tree said readings a b c = array_reads (with_item a (with_item b (with_item c no_item)))

words_read : (lines : FieldReadings) → AreShown lines → Reads (words_json lines)
    (object_of ((codes "vbiData", lines_value (λ x. whole_of (value_of x.outcome)) lines) ∷ []))
words_read lines shown =
    object_reads refl
    (with_member (codes "vbiData") refl
    (lines_read (λ x. count_json (value_of x.outcome)) (λ x. whole_of (value_of x.outcome)) lines
    (count_reads _ shown.first.value) (count_reads _ shown.second.value) (count_reads _ shown.third.value)) no_member)

causes_read : (causes : FieldReadings) → AreShown causes
    → Reads (lines_json (λ x. json.string (cause_text_of x.outcome)) causes)
    (lines_value (λ x. string (cause_text_of x.outcome)) causes)
causes_read causes shown =
    lines_read (λ x. json.string (cause_text_of x.outcome)) (λ x. string (cause_text_of x.outcome)) causes
    (string_reads _ shown.first.utf8) (string_reads _ shown.second.utf8) (string_reads _ shown.third.utf8)

passes_read : (lines : FieldReadings) → AreShown lines
    → Reads (lines_json (λ x. count_json x.pass) lines) (lines_value (λ x. whole_of x.pass) lines)
passes_read lines shown =
    lines_read (λ x. count_json x.pass) (λ x. whole_of x.pass) lines
    (count_reads _ shown.first.pass) (count_reads _ shown.second.pass) (count_reads _ shown.third.pass)

-- the names of a record's members, with those of others
abbrev record_keys : json.Members → List (List ℕ)
record_keys more = codes "seqNo" ∷ codes "vbi" ∷ codes "vbiCause" ∷ codes "vbiPass" ∷ keys more

record_reads : (n : ℕ) (lines causes : FieldReadings) {more : json.Members} {ds : List (List ℕ × Data)} → n < 2 ^ 64
    → AreShown lines → AreShown causes → distinct (record_keys more) ≡ true → ReadsMembers more ds
    → Reads (record_json n lines causes more) (field_with n lines causes ds)
record_reads n lines causes small shown told apart others =
    object_reads apart
    (with_member (codes "seqNo") refl (count_reads n small)
    (with_member (codes "vbi") refl (words_read lines shown)
    (with_member (codes "vbiCause") refl (causes_read causes told)
    (with_member (codes "vbiPass") refl (passes_read lines shown) others))))

-- a record of version 2
pub field_reads : (n : ℕ) (readings : FieldReadings) → n < 2 ^ 64 → AreShown readings
    → Reads (record_json n readings readings json.no_members) (field_value n readings)
field_reads n readings small shown = record_reads n readings readings small shown shown refl no_member

-- ---- nearest words

-- the numbers that a document has of a nearest word
pub record IsFew (slicing : Slicing) (near : Near) : Type 0 where
  pub word : word_or_zero near.word < 2 ^ 64
  pub distance : hundredths slicing near.distance < 2 ^ 64
  pub rival : hundredths slicing near.rival < 2 ^ 64

-- what a document has of a field with recovered words
pub record IsWritten (slicing : Slicing) (field : FieldRecovered) : Type 0 where
  pub lines : AreShown (as_readings field.shown)
  pub causes : AreShown (cause_lines (as_readings field.shown) field.readings)
  pub first : IsFew slicing field.first
  pub second : IsFew slicing field.second
  pub third : IsFew slicing field.third

near_reads_by : (is_recovered : Bool) (word distance rival : ℕ) → word < 2 ^ 64 → distance < 2 ^ 64 → rival < 2 ^ 64
    → Reads (near_json_by is_recovered word distance rival) (cond is_recovered (object_of (
    (codes "word", whole_of word) ∷ (codes "distance", whole_of distance) ∷ (codes "rival", whole_of rival) ∷ [])) null)
near_reads_by false word distance rival hw hd hr = null_reads
near_reads_by true word distance rival hw hd hr =
    object_reads refl
    (with_member (codes "word") refl (count_reads word hw)
    (with_member (codes "distance") refl (count_reads distance hd)
    (with_member (codes "rival") refl (count_reads rival hr) no_member)))

near_reads : (slicing : Slicing) (line : Reading) (near : Near) → IsFew slicing near
    → Reads (near_json slicing line near) (near_value slicing line near)
near_reads slicing line near few = near_reads_by (line.pass == 3) _ _ _ few.word few.distance few.rival

nears_read : (slicing : Slicing) (lines : FieldReadings) (field : FieldRecovered) → IsFew slicing field.first
    → IsFew slicing field.second → IsFew slicing field.third
    → Reads (nears_json slicing lines field) (nears_value slicing lines field)
nears_read slicing lines field a b c =
    array_reads (with_item (near_reads slicing lines.first field.first a)
    (with_item (near_reads slicing lines.second field.second b)
    (with_item (near_reads slicing lines.third field.third c) no_item)))

-- a record of version 3
pub recovered_reads : (slicing : Slicing) (n : ℕ) (field : FieldRecovered) → n < 2 ^ 64 → IsWritten slicing field
    → Reads (recovered_json slicing n field) (recovered_field_value slicing n field)
recovered_reads slicing n field small is =
    let lines = as_readings field.shown in
    record_reads n lines (cause_lines lines field.readings) small is.lines is.causes refl
    (with_member (codes "vbiNear") refl (nears_read slicing lines field is.first is.second is.third) no_member)

-- ---- the document

small_width : (system : System) → width_of system < 2 ^ 64
small_width Ntsc = lit< tt
small_width Pal = lit< tt

small_height : (system : System) → height_of system < 2 ^ 64
small_height Ntsc = lit< tt
small_height Pal = lit< tt

name_utf8 : (system : System) → IsUtf8 (name_of system)
name_utf8 Ntsc = IsUtf8-are_ascii (codes "NTSC") refl
name_utf8 Pal = IsUtf8-are_ascii (codes "PAL") refl

parameters_read : (c : ConfigView) → c.levels.black < 2 ^ 64 → c.levels.white < 2 ^ 64
    → Reads (parameters_json c) (parameters_value c)
parameters_read c black white =
    object_reads refl
    (with_member (codes "system") refl (string_reads (name_of c.system) (name_utf8 c.system))
    (with_member (codes "fieldWidth") refl (count_reads (width_of c.system) (small_width c.system))
    (with_member (codes "fieldHeight") refl (count_reads (height_of c.system) (small_height c.system))
    (with_member (codes "black16bIre") refl (count_reads c.levels.black black)
    (with_member (codes "white16bIre") refl (count_reads c.levels.white white) no_member)))))

cut_reads : (whole : Bool) (n bytes : ℕ) → n < 2 ^ 64 → bytes < 2 ^ 64
    → Reads (cut_json whole n bytes)
    (cond whole null (object_of ((codes "seqNo", whole_of n) ∷ (codes "bytes", whole_of bytes) ∷ [])))
cut_reads true n bytes hn hb = null_reads
cut_reads false n bytes hn hb =
    object_reads refl
    (with_member (codes "seqNo") refl (count_reads n hn)
    (with_member (codes "bytes") refl (count_reads bytes hb) no_member))

cut_depth : (whole : Bool) (n bytes : ℕ) → depth (cut_json whole n bytes) ≤ 1
cut_depth true n bytes = lit≤ tt
cut_depth false n bytes = lit≤ tt

-- the records of a document are read as these values
pub record AreRead (records : Records) (values : ℕ → Data) : Type 0 where
  pub version : records.version < 2 ^ 64
  pub each : (i : ℕ) → i + 1 < 2 ^ 64 → Reads (records.tree i) (values i)
  pub shallow : (i : ℕ) → depth (records.tree i) ≤ 3

module _ (records : Records) (values : ℕ → Data) (are : AreRead records values) where
  entries_read : (i n : ℕ) → i + n < 2 ^ 64
      → ReadsItems (entries_json records (range_with_len i n)) (map values (range_with_len i n))
  entries_read i zero h = no_item
  entries_read i (suc n) h = with_item (are.each i (omega arith)) (entries_read (i + 1) n (omega arith))

  entries_depth : (is : List ℕ) → items_depth (entries_json records is) ≤ 3
  entries_depth [] = lit≤ tt
  entries_depth (i ∷ is) = omega (arith, are.shallow i, entries_depth is)

  module _ (c : ConfigView) (fields rest : ℕ) where
    pub stream_reads : c.levels.black < 2 ^ 64 → c.levels.white < 2 ^ 64 → fields + 1 < 2 ^ 64 → rest < 2 ^ 64
        → Reads (document_json c records fields rest (range_with_len 0 fields))
        (document_with records.version values c fields rest)
    stream_reads black white few small =
        object_reads refl
        (with_member (codes "version") refl (count_reads records.version are.version)
        (with_member (codes "videoParameters") refl (parameters_read c black white)
        (with_member (codes "fields") refl (array_reads (entries_read 0 fields (omega arith)))
        (with_member (codes "cutField") refl (cut_reads (rest == 0) (fields + 1) rest few small) no_member))))

    pub stream_depth : (is : List ℕ) → depth (document_json c records fields rest is) ≤ max_depth
    stream_depth is = omega (arith, entries_depth is, cut_depth (rest == 0) (fields + 1) rest)
