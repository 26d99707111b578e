-- The record of a field as tokens, each with a gap before it: of either version, by its lines, the lines whose causes
-- it has, and the members that come after those.
use Rattle.vbi_meta.proofs.Common.{arith, ◌≡◌, ℕ, Bool, true, false, cond, List, [], ◌∷◌, ◌++◌, decimal, refl, sym, ap}
use Rattle.vbi_meta.proofs.Common.{◌∙◌, append_assoc, append-nil, codes, escape, quoted, Token, json_tokens}
use Rattle.vbi_meta.proofs.Common.{members_tokens, Reading, FieldReadings, cause_text_of, value_of}
use Rattle.json.specs.Json as json
use Rattle.json.specs.Print.{escape_byte}
use Rattle.json.specs.Spaced.{print_spaced}
use Rattle.vbi_field.specs.Document.{record_of, lines_of}
use Rattle.vbi_field.specs.RecoveredDocument.{record_with}
use Rattle.vbi_meta.proofs.ShownLines.{AreShown}

-- ---- tokens and gaps

abbrev pub Pieces : Type 0
Pieces = List (List ℕ × Token)

-- these tokens with no gap
abbrev pub plain : List Token → Pieces
plain [] = []
plain (t ∷ ts) = ([], t) ∷ plain ts

-- these tokens with this gap before the first
abbrev pub gapped : List ℕ → List Token → Pieces
gapped g [] = []
gapped g (t ∷ ts) = (g, t) ∷ plain ts

-- ---- the tree of a record

abbrev pub count_json : ℕ → json.Json
count_json n = json.number (decimal n)

-- of each of a field's three lines, what it is said to have
abbrev pub lines_json : (Reading → json.Json) → FieldReadings → json.Json
lines_json said readings =
    json.array (json.item (said readings.first)
    (json.item (said readings.second) (json.item (said readings.third) json.no_items)))

abbrev pub words_json : FieldReadings → json.Json
words_json readings =
    json.object (json.member (codes "vbiData")
    (lines_json (λ reading. count_json (value_of reading.outcome)) readings) json.no_members)

-- of a field these lines, these causes, and more members
abbrev pub record_json : ℕ → FieldReadings → FieldReadings → json.Members → json.Json
record_json n lines causes more =
    json.object (json.member (codes "seqNo") (count_json n)
    (json.member (codes "vbi") (words_json lines)
    (json.member (codes "vbiCause") (lines_json (λ reading. json.string (cause_text_of reading.outcome)) causes)
    (json.member (codes "vbiPass") (lines_json (λ reading. count_json reading.pass) lines) more))))

-- ---- its text

pub quoted_then : (s r : List ℕ) → escape s ≡ s → quoted s ++ r ≡ 34 ∷ (s ++ (34 ∷ r))
quoted_then s r e = ap (λ l. 34 ∷ ((l ++ 34 ∷ []) ++ r)) e ∙ ap (λ l. 34 ∷ l) (append_assoc s (34 ∷ []) r)

-- seven parts, one after the other
pub seven : (a b c d e f g r : List ℕ)
    → (a ++ b ++ c ++ d ++ e ++ f ++ g) ++ r ≡ a ++ (b ++ (c ++ (d ++ (e ++ (f ++ (g ++ r))))))
seven a b c d e f g r = simp append_assoc

-- one of the three lists of a record: what opens it, a line's text in it, and what closes it
pub record LineList : Type 0 where
  pub opening : List ℕ
  pub text_of : Reading → List ℕ
  pub closing : List ℕ

-- the list of a field's lines
abbrev pub list_of : LineList → FieldReadings → List ℕ
list_of list readings = lines_of list.opening list.text_of list.closing readings

-- the words, 0 where a line has none
abbrev pub word_list : LineList
word_list = record {
  opening = codes ",\"vbi\":{\"vbiData\":[";
  text_of = λ line. decimal (value_of line.outcome);
  closing = codes "]}";
}

-- the causes, each between quotes
abbrev pub cause_list : LineList
cause_list = record {
  opening = codes ",\"vbiCause\":[";
  text_of = λ line. codes "\"" ++ cause_text_of line.outcome ++ codes "\"";
  closing = codes "]";
}

-- the causes as they are printed
abbrev quoted_list : LineList
quoted_list = record {
  opening = cause_list.opening;
  text_of = λ line. quoted (cause_text_of line.outcome);
  closing = cause_list.closing;
}

-- the passes
abbrev pub pass_list : LineList
pass_list = record {
  opening = codes ",\"vbiPass\":[";
  text_of = λ line. decimal line.pass;
  closing = codes "]";
}

-- a list as it is printed, and the rest
abbrev list_then : LineList → FieldReadings → List ℕ → List ℕ
list_then list readings r =
    list.opening ++ (list.text_of readings.first ++ (codes "," ++ (list.text_of readings.second ++ (codes ","
    ++ (list.text_of readings.third ++ (list.closing ++ r))))))

list_text : (list : LineList) (readings : FieldReadings) (r : List ℕ)
    → list_then list readings r ≡ list_of list readings ++ r
unfolding lines_of
list_text list readings r = grind (arith, seven)

-- a text that needs no escape, as a string
quoted_as : (s : List ℕ) → escape s ≡ s → quoted s ≡ codes "\"" ++ s ++ codes "\""
quoted_as s e = ap (λ l. 34 ∷ (l ++ 34 ∷ [])) e

-- other texts of three lines that are the same for these
lines_same : (opening closing : List ℕ) (f g : Reading → List ℕ) (readings : FieldReadings)
    → f readings.first ≡ g readings.first → f readings.second ≡ g readings.second → f readings.third ≡ g readings.third
    → lines_of opening f closing readings ≡ lines_of opening g closing readings
unfolding lines_of
lines_same opening closing f g readings first second third = rw (first, second, third)

causes_same : (readings : FieldReadings) → AreShown readings
    → list_of quoted_list readings ≡ list_of cause_list readings
causes_same readings shown = grind (arith, lines_same, quoted_as)

-- the record as it is printed, up to its other members, and what comes then
abbrev record_then : ℕ → FieldReadings → FieldReadings → List ℕ → List ℕ
record_then n lines causes r =
    codes "{\"seqNo\":" ++ (decimal n
    ++ list_then word_list lines (list_then quoted_list causes (list_then pass_list lines r)))

record_text : (n : ℕ) (lines causes : FieldReadings) (nears r : List ℕ) → AreShown causes
    → record_then n lines causes (nears ++ (codes "}" ++ r)) ≡ record_with n lines causes nears ++ r
unfolding record_with
record_text n lines causes nears r shown =
    let last = nears ++ (codes "}" ++ r) in
    let then_passes = list_then pass_list lines last in
    ap (λ l. codes "{\"seqNo\":" ++ (decimal n ++ l))
    (list_text word_list lines (list_then quoted_list causes then_passes)
    ∙ ap (λ l. list_of word_list lines ++ l)
    (list_text quoted_list causes then_passes ∙ ap (λ l. l ++ then_passes) (causes_same causes shown)
    ∙ ap (λ l. list_of cause_list causes ++ l) (list_text pass_list lines last)))
    ∙ sym (seven (codes "{\"seqNo\":") (decimal n) (list_of word_list lines) (list_of cause_list causes)
    (list_of pass_list lines) nears (codes "}") r)

-- the members that come last are printed as this text, and the bracket after it
abbrev pub IsLast : json.Members → List ℕ → Type 0
IsLast more nears = (qs : Pieces)
    → print_spaced true (plain (members_tokens more) ++ qs) ≡ nears ++ (codes "}" ++ print_spaced true qs)

-- after a gap, and a comma where another record is before it
pub record_prints : (before : Bool) (gap : List ℕ) (n : ℕ) (lines causes : FieldReadings) (more : json.Members)
    (nears : List ℕ) (qs : Pieces) → AreShown causes → IsLast more nears
    → print_spaced before (gapped gap (json_tokens (record_json n lines causes more)) ++ qs)
    ≡ cond before (44 ∷ []) [] ++ (gap ++ (record_with n lines causes nears ++ print_spaced true qs))
unfolding print_spaced escape_byte
record_prints true gap n lines causes more nears qs shown last =
    ap (λ l. 44 ∷ (gap ++ l))
    (ap (record_then n lines causes) (last qs) ∙ record_text n lines causes nears (print_spaced true qs) shown)
record_prints false gap n lines causes more nears qs shown last =
    ap (λ l. gap ++ l)
    (ap (record_then n lines causes) (last qs) ∙ record_text n lines causes nears (print_spaced true qs) shown)

-- ---- version 2: no members more

pub plain_record : (n : ℕ) (readings : FieldReadings) → record_with n readings readings [] ≡ record_of n readings
unfolding record_with record_of
plain_record n readings =
    ap (λ l. codes "{\"seqNo\":" ++ (l ++ codes "}"))
    (append-nil (decimal n ++ list_of word_list readings ++ list_of cause_list readings ++ list_of pass_list readings))

pub none_last : IsLast json.no_members []
unfolding print_spaced
none_last qs = refl
