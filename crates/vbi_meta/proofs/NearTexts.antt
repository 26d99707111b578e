-- What a record of version 3 has of nearest words, as tokens.
use Rattle.vbi_meta.proofs.Common.{◌≡◌, ℕ, Bool, true, false, cond, List, [], ◌∷◌, ◌++◌, ◌==◌, decimal, sym, refl, ap}
use Rattle.vbi_meta.proofs.Common.{◌∙◌, append_assoc, codes, Token, end_array, json_tokens, Slicing, Reading}
use Rattle.vbi_meta.proofs.Common.{FieldReadings, Near, FieldRecovered, cause_lines, word_or_zero, hundredths}
use Rattle.vbi_meta.proofs.Common.{as_readings}
use Rattle.json.specs.Json as json
use Rattle.json.specs.Print.{escape_byte}
use Rattle.json.specs.Spaced.{print_spaced}
use Rattle.json.specs.Token.{end_object}
use Rattle.vbi_field.specs.RecoveredDocument.{near_text_of, nears_text_of}
use Rattle.vbi_meta.proofs.RecordTexts.{Pieces, plain, count_json, record_json, seven, IsLast}

-- ---- the trees

-- a word and two distances, or null
abbrev pub near_json_by : Bool → ℕ → ℕ → ℕ → json.Json
near_json_by is_recovered word distance rival =
    cond is_recovered (json.object (json.member (codes "word") (count_json word)
    (json.member (codes "distance") (count_json distance)
    (json.member (codes "rival") (count_json rival) json.no_members)))) json.null

abbrev pub near_json : Slicing → Reading → Near → json.Json
near_json slicing line near =
    near_json_by (line.pass == 3) (word_or_zero near.word) (hundredths slicing near.distance)
    (hundredths slicing near.rival)

-- those of a field's lines
abbrev pub nears_json : Slicing → FieldReadings → FieldRecovered → json.Json
nears_json slicing lines field =
    json.array (json.item (near_json slicing lines.first field.first)
    (json.item (near_json slicing lines.second field.second)
    (json.item (near_json slicing lines.third field.third) json.no_items)))

abbrev pub near_members : Slicing → FieldReadings → FieldRecovered → json.Members
near_members slicing lines field = json.member (codes "vbiNear") (nears_json slicing lines field) json.no_members

-- the record of a field of version 3
abbrev pub recovered_json : Slicing → ℕ → FieldRecovered → json.Json
recovered_json slicing n field =
    let lines = as_readings field.shown in
    record_json n lines (cause_lines lines field.readings) (near_members slicing lines field)

-- ---- their texts

abbrev near_text : Bool → ℕ → ℕ → ℕ → List ℕ
near_text is_recovered word distance rival =
    cond is_recovered (codes "{\"word\":" ++ decimal word ++ codes ",\"distance\":" ++ decimal distance
    ++ codes ",\"rival\":" ++ decimal rival ++ codes "}") (codes "null")

-- one of them, after a comma where another is before it
near_prints : (before is_recovered : Bool) (word distance rival : ℕ) (ts : List Token) (qs : Pieces)
    → print_spaced before (plain (json_tokens (near_json_by is_recovered word distance rival) ++ ts) ++ qs)
    ≡ cond before (44 ∷ []) [] ++ (near_text is_recovered word distance rival ++ print_spaced true (plain ts ++ qs))
unfolding print_spaced escape_byte
near_prints true true word distance rival ts qs =
    ap (λ l. 44 ∷ l) (sym (seven (codes "{\"word\":") (decimal word) (codes ",\"distance\":") (decimal distance)
    (codes ",\"rival\":") (decimal rival) (codes "}") (print_spaced true (plain ts ++ qs))))
near_prints false true word distance rival ts qs =
    sym (seven (codes "{\"word\":") (decimal word) (codes ",\"distance\":") (decimal distance)
    (codes ",\"rival\":") (decimal rival) (codes "}") (print_spaced true (plain ts ++ qs)))
near_prints true false word distance rival ts qs = refl
near_prints false false word distance rival ts qs = refl

-- the tokens of three, with the brackets after them
abbrev closing : List Token
closing = end_array ∷ end_object ∷ []

regroup : (a b c : List Token)
    → (a ++ (b ++ (c ++ end_array ∷ []))) ++ end_object ∷ [] ≡ a ++ (b ++ (c ++ closing))
regroup a b c = simp append_assoc

pub nears_last : (slicing : Slicing) (lines : FieldReadings) (field : FieldRecovered)
    → IsLast (near_members slicing lines field) (nears_text_of slicing lines field)
unfolding print_spaced escape_byte near_text_of nears_text_of
nears_last slicing lines field qs =
    let tree : Reading → Near → List Token = λ line near. json_tokens (near_json slicing line near) in
    let text : Reading → Near → List ℕ = λ line near. near_text (line.pass == 3) (word_or_zero near.word)
    (hundredths slicing near.distance) (hundredths slicing near.rival) in
    let prints : (before : Bool) (line : Reading) (near : Near) (ts : List Token)
    → print_spaced before (plain (tree line near ++ ts) ++ qs)
    ≡ cond before (44 ∷ []) [] ++ (text line near ++ print_spaced true (plain ts ++ qs))
    = λ before line near ts. near_prints before (line.pass == 3) (word_or_zero near.word)
    (hundredths slicing near.distance) (hundredths slicing near.rival) ts qs in
    let first = text lines.first field.first in
    let second = text lines.second field.second in
    let third = text lines.third field.third in
    let opening = codes ",\"vbiNear\":[" in
    ap (λ ts. opening ++ print_spaced false (plain ts ++ qs))
    (regroup (tree lines.first field.first) (tree lines.second field.second) (tree lines.third field.third))
    ∙ ap (λ l. opening ++ l)
    (prints false lines.first field.first (tree lines.second field.second ++ (tree lines.third field.third ++ closing))
    ∙ ap (λ l. first ++ l) (prints true lines.second field.second (tree lines.third field.third ++ closing)
    ∙ ap (λ l. 44 ∷ (second ++ l)) (prints true lines.third field.third closing)))
    ∙ sym (seven opening first (codes ",") second (codes ",") third (codes "]") (codes "}" ++ print_spaced true qs))
