-- Trees of JSON whose tokens are printed in plain bytes and have small numbers, and those of a document.
use Rattle.vbi_meta.proofs.Common.{◌≡◌, ℕ, suc, zero, ◌+◌, ◌<◌, ◌^◌, ◌==◌, ◌&&◌, Bool, true, false, cond, List, [], ◌∷◌}
use Rattle.vbi_meta.proofs.Common.{◌++◌, ◌⊎◌, inl, inr, refl, arith, lit<, AllByRecursion, range_with_len, codes}
use Rattle.vbi_meta.proofs.Common.{escape, quoted, token_text, ends, IsGap, AreGaps, Token, json_tokens, items_tokens}
use Rattle.vbi_meta.proofs.Common.{members_tokens, Reading, FieldReadings, System, ConfigView, Ntsc, Pal, width_of}
use Rattle.vbi_meta.proofs.Common.{height_of, name_of, cause_text_of, value_of, IsPlain, IsSmall}
use Rattle.json.specs.Json as json
use Rattle.json.specs.Print.{escape_byte, begins}
use Rattle.json.specs.Spaced.{print_spaced}
use Rattle.vbi_meta.proofs.DocumentTexts.{tokens_of, Records, parameters_json, cut_json, entries_json, document_json}
use Rattle.vbi_meta.proofs.BytesOf.{then, are}
use Rattle.vbi_meta.proofs.PlainBytes.{Plain, is_plain, known, count}
use Rattle.vbi_meta.proofs.RecordTexts.{Pieces, count_json, lines_json, words_json, record_json}

-- the token is printed in plain bytes, and is no number or a small one
abbrev pub IsPlainToken : Token → Type 0
IsPlainToken t = Plain (token_text t) × IsSmall t

abbrev pub ArePlainTokens : List Token → Type 0
ArePlainTokens ts = AllByRecursion IsPlainToken ts

append : (ts us : List Token) → ArePlainTokens ts → ArePlainTokens us → ArePlainTokens (ts ++ us)
append [] us h k = k
append (t ∷ ts) us h k = (h.0, append ts us h.1 k)

-- ---- what is printed

comma_or_none : (b : Bool) → Plain (cond b (44 ∷ []) [])
comma_or_none true = known (44 ∷ []) refl
comma_or_none false = known [] refl

gap_plain : (g : List ℕ) → IsGap g → Plain g
gap_plain [] h = known [] refl
gap_plain (x ∷ g) h = record { all = (one h.0, (gap_plain g h.1).all) }
  where
    one : (x ≡ 32) ⊎ (x ≡ 10) → IsPlain x
    one (inl e) = inl (omega arith, omega arith, λ same. omega arith)
    one (inr e) = inr e

pub printed : (before : Bool) (ps : Pieces) → AreGaps ps → ArePlainTokens (tokens_of ps)
    → Plain (print_spaced before ps)
unfolding print_spaced
printed before [] gaps h = known [] refl
printed before (p ∷ ps) gaps h =
    then (comma_or_none (before && begins p.1)) (then (gap_plain p.0 gaps.0)
    (then h.0.0 (printed (ends p.1) ps gaps.1 h.1)))

-- ---- trees

pub record Tree (j : json.Json) : Type 0 where
  pub all : ArePlainTokens (json_tokens j)

record Items (js : json.Items) : Type 0 where
  all : ArePlainTokens (items_tokens js)

record Members (ms : json.Members) : Type 0 where
  all : ArePlainTokens (members_tokens ms)

small_count : (n : ℕ) → n < 2 ^ 24 → Tree (count_json n)
small_count n h = record { all = ((count n (omega arith), (n, h, refl)), tt) }

plain_string : (s : List ℕ) → escape s ≡ s → Plain s → Tree (json.string s)
plain_string s free h = grind (arith, then, known)

null_tree : Tree json.null
null_tree = record { all = ((known (codes "null") refl, tt), tt) }

no_item : Items json.no_items
no_item = record { all = ((known (codes "]") refl, tt), tt) }

with_item : {j : json.Json} {js : json.Items} → Tree j → Items js → Items (json.item j js)
with_item {j} {js} one rest = record { all = append (json_tokens j) (items_tokens js) one.all rest.all }

array_tree : {js : json.Items} → Items js → Tree (json.array js)
array_tree h = record { all = ((known (codes "[") refl, tt), h.all) }

no_member : Members json.no_members
no_member = record { all = ((known (codes "}") refl, tt), tt) }

with_member : (k : List ℕ) → are is_plain (quoted k ++ 58 ∷ []) ≡ true → {j : json.Json} {ms : json.Members} → Tree j
    → Members ms → Members (json.member k j ms)
with_member k plain {j} {ms} one rest = grind (arith, known, append)

object_tree : {ms : json.Members} → Members ms → Tree (json.object ms)
object_tree h = record { all = ((known (codes "{") refl, tt), h.all) }

-- ---- a field

-- what a document has of a reading
pub record IsPlainReading (reading : Reading) : Type 0 where
  pub value : value_of reading.outcome < 2 ^ 24
  pub pass : reading.pass < 2 ^ 24
  pub free : escape (cause_text_of reading.outcome) ≡ cause_text_of reading.outcome
  pub cause : Plain (cause_text_of reading.outcome)

pub record ArePlainReadings (readings : FieldReadings) : Type 0 where
  pub first : IsPlainReading readings.first
  pub second : IsPlainReading readings.second
  pub third : IsPlainReading readings.third

lines_tree : (tree : Reading → json.Json) (readings : FieldReadings) → Tree (tree readings.first)
    → Tree (tree readings.second) → Tree (tree readings.third) → Tree (lines_json tree readings)
lines_tree tree readings a b c = array_tree (with_item a (with_item b (with_item c no_item)))

words_tree : (readings : FieldReadings) → ArePlainReadings readings → Tree (words_json readings)
unfolding escape_byte
words_tree readings h = grind (arith, object_tree, with_member, lines_tree, count_json, small_count, no_member)

pub field_tree : (n : ℕ) (readings : FieldReadings) → n < 2 ^ 24 → ArePlainReadings readings
    → Tree (record_json n readings readings json.no_members)
unfolding escape_byte
field_tree n readings small h =
    grind (arith, object_tree, with_member, small_count, words_tree, lines_tree, plain_string, count_json, no_member)

-- ---- the document

small_width : (system : System) → width_of system < 2 ^ 24
small_width Ntsc = lit< tt
small_width Pal = lit< tt

small_height : (system : System) → height_of system < 2 ^ 24
small_height Ntsc = lit< tt
small_height Pal = lit< tt

name_tree : (system : System) → Tree (json.string (name_of system))
unfolding escape_byte
name_tree Ntsc = plain_string (codes "NTSC") refl (known (codes "NTSC") refl)
name_tree Pal = plain_string (codes "PAL") refl (known (codes "PAL") refl)

parameters_tree : (c : ConfigView) → c.levels.black < 2 ^ 24 → c.levels.white < 2 ^ 24 → Tree (parameters_json c)
unfolding escape_byte
parameters_tree c black white =
    grind (arith, object_tree, with_member, name_tree, small_count, small_width, small_height, no_member)

cut_tree : (whole : Bool) (n bytes : ℕ) → n < 2 ^ 24 → bytes < 2 ^ 24 → Tree (cut_json whole n bytes)
unfolding escape_byte
cut_tree true n bytes hn hb = null_tree
cut_tree false n bytes hn hb = grind (arith, object_tree, with_member, small_count, no_member)

entries_tree : (records : Records) → ((i : ℕ) → i + 1 < 2 ^ 24 → Tree (records.tree i)) → (i n : ℕ) → i + n < 2 ^ 24
    → Items (entries_json records (range_with_len i n))
entries_tree records each i zero small = no_item
entries_tree records each i (suc n) small =
    with_item (each i (omega arith)) (entries_tree records each (i + 1) n (omega arith))

pub document_tokens : (c : ConfigView) (records : Records) (fields rest : ℕ) → records.version < 2 ^ 24
    → ((i : ℕ) → i + 1 < 2 ^ 24 → Tree (records.tree i))
    → c.levels.black < 2 ^ 24 → c.levels.white < 2 ^ 24 → fields + 1 < 2 ^ 24 → rest < 2 ^ 24
    → ArePlainTokens (json_tokens (document_json c records fields rest (range_with_len 0 fields)))
unfolding escape_byte
document_tokens c records fields rest version each black white few small =
    let tree = object_tree
    (with_member (codes "version") refl (small_count records.version version)
    (with_member (codes "videoParameters") refl (parameters_tree c black white)
    (with_member (codes "fields") refl (array_tree (entries_tree records each 0 fields (omega arith)))
    (with_member (codes "cutField") refl (cut_tree (rest == 0) (fields + 1) rest few small) no_member)))) in
    tree.all
