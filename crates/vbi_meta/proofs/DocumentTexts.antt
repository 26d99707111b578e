-- The text of a whole document, of either version, as tokens, each with a gap before it.
use Rattle.vbi_meta.proofs.Common.{arith, ◌≡◌, ℕ, ◌+◌, ◌==◌, Bool, true, false, cond, List, [], ◌∷◌, ◌++◌, decimal}
use Rattle.vbi_meta.proofs.Common.{refl, sym, ap, ◌∙◌, subst, append_assoc, append-nil, map, inr, join_by, codes}
use Rattle.vbi_meta.proofs.Common.{escape, IsGap, AreGaps, Token, end_array, json_tokens, items_tokens, members_tokens}
use Rattle.vbi_meta.proofs.Common.{System, ConfigView, Ntsc, Pal, width_of, height_of, name_of}
use Rattle.std.specs.Fmt.{digits}
use Rattle.std.specs.Prelude.{flat_map}
use Rattle.json.specs.Json as json
use Rattle.json.specs.Print.{escape_byte}
use Rattle.json.specs.Spaced.{print_spaced}
use Rattle.json.specs.Token.{begin_object, begin_array, key, number}
use Rattle.vbi_field.specs.Document.{head_of, parameters_of, tail_of}
use Rattle.vbi_field.specs.RecoveredDocument.{recovered_head_of}
use Rattle.vbi_meta.proofs.RecordTexts.{Pieces, plain, gapped, count_json, quoted_then}

-- ---- tokens under gaps

-- the tokens of pieces
abbrev pub tokens_of : Pieces → List Token
tokens_of ps = map (λ p. p.1) ps

tokens_plain : (ts : List Token) → tokens_of (plain ts) ≡ ts
tokens_plain [] = refl
tokens_plain (t ∷ ts) = ap (λ l. t ∷ l) (tokens_plain ts)

tokens_plain_then : (ts : List Token) (qs : Pieces) → tokens_of (plain ts ++ qs) ≡ ts ++ tokens_of qs
tokens_plain_then [] qs = refl
tokens_plain_then (t ∷ ts) qs = ap (λ l. t ∷ l) (tokens_plain_then ts qs)

pub tokens_gapped_then : (g : List ℕ) (ts : List Token) (qs : Pieces)
    → tokens_of (gapped g ts ++ qs) ≡ ts ++ tokens_of qs
tokens_gapped_then g [] qs = refl
tokens_gapped_then g (t ∷ ts) qs = ap (λ l. t ∷ l) (tokens_plain_then ts qs)

gaps_plain_then : (ts : List Token) (qs : Pieces) → AreGaps qs → AreGaps (plain ts ++ qs)
gaps_plain_then [] qs h = h
gaps_plain_then (t ∷ ts) qs h = (tt, gaps_plain_then ts qs h)

pub gaps_gapped_then : (g : List ℕ) (ts : List Token) (qs : Pieces) → IsGap g → AreGaps qs → AreGaps (gapped g ts ++ qs)
gaps_gapped_then g [] qs k h = h
gaps_gapped_then g (t ∷ ts) qs k h = (k, gaps_plain_then ts qs h)

gaps_plain : (ts : List Token) → AreGaps (plain ts)
gaps_plain [] = tt
gaps_plain (t ∷ ts) = (tt, gaps_plain ts)

line_feed : IsGap (10 ∷ [])
line_feed = (inr refl, tt)

-- ---- the records

-- the records of a document of some version by its fields, counted from 0: their texts, and the trees that are printed
-- so
pub record Records : Type 0 where
  pub version : ℕ
  pub text : ℕ → List ℕ
  pub tree : ℕ → json.Json
  pub prints : (before : Bool) (i : ℕ) (qs : Pieces)
      → print_spaced before (gapped (10 ∷ []) (json_tokens (tree i)) ++ qs)
      ≡ cond before (44 ∷ []) [] ++ (10 ∷ (text i ++ print_spaced true qs))

module _ (records : Records) where
  abbrev pub entries_json : List ℕ → json.Items
  entries_json [] = json.no_items
  entries_json (i ∷ is) = json.item (records.tree i) (entries_json is)

  abbrev one_entry : ℕ → Pieces
  one_entry i = gapped (10 ∷ []) (json_tokens (records.tree i))

  abbrev entries : List ℕ → Pieces
  entries [] = []
  entries (i ∷ is) = one_entry i ++ entries is

  entries_tokens : (is : List ℕ) (g : List ℕ) (ts : List Token)
      → tokens_of (entries is ++ gapped g (end_array ∷ ts)) ≡ items_tokens (entries_json is) ++ ts
  entries_tokens [] g ts = ap (λ l. end_array ∷ l) (tokens_plain ts)
  entries_tokens (i ∷ is) g ts =
      let x = json_tokens (records.tree i) in
      let more = gapped g (end_array ∷ ts) in
      ap (λ ps. tokens_of ps) (append_assoc (one_entry i) (entries is) more)
      ∙ tokens_gapped_then (10 ∷ []) x (entries is ++ more)
      ∙ ap (λ l. x ++ l) (entries_tokens is g ts) ∙ sym (append_assoc x (items_tokens (entries_json is)) ts)

  entries_gaps : (is : List ℕ) (qs : Pieces) → AreGaps qs → AreGaps (entries is ++ qs)
  entries_gaps [] qs h = h
  entries_gaps (i ∷ is) qs h =
      let x = json_tokens (records.tree i) in
      subst AreGaps (sym (append_assoc (one_entry i) (entries is) qs))
      (gaps_gapped_then (10 ∷ []) x (entries is ++ qs) line_feed (entries_gaps is qs h))

  one : (before : Bool) (i : ℕ) (is : List ℕ) (qs : Pieces)
      → print_spaced before (entries (i ∷ is) ++ qs)
      ≡ cond before (44 ∷ []) [] ++ (10 ∷ (records.text i ++ print_spaced true (entries is ++ qs)))
  one before i is qs =
      ap (λ ps. print_spaced before ps) (append_assoc (one_entry i) (entries is) qs)
      ∙ records.prints before i (entries is ++ qs)

  later : (is : List ℕ) (qs : Pieces)
      → print_spaced true (entries is ++ qs)
      ≡ flat_map (λ i. codes ",\n" ++ records.text i) is ++ print_spaced true qs
  later [] qs = refl
  later (i ∷ is) qs =
      one true i is qs ∙ ap (λ l. 44 ∷ 10 ∷ (records.text i ++ l)) (later is qs)
      ∙ ap (λ l. 44 ∷ 10 ∷ l) (sym (append_assoc (records.text i) (flat_map (λ i. codes ",\n" ++ records.text i) is)
      (print_spaced true qs)))

  entries_print : (i : ℕ) (is : List ℕ) (qs : Pieces)
      → print_spaced false (entries (i ∷ is) ++ qs)
      ≡ 10 ∷ (join_by records.text (codes ",\n") (i ∷ is) ++ print_spaced true qs)
  entries_print i is qs =
      one false i is qs ∙ ap (λ l. 10 ∷ (records.text i ++ l)) (later is qs)
      ∙ ap (λ l. 10 ∷ l) (sym (append_assoc (records.text i) (flat_map (λ i. codes ",\n" ++ records.text i) is)
      (print_spaced true qs)))

-- ---- the head

abbrev pub parameters_json : ConfigView → json.Json
parameters_json c =
    json.object (json.member (codes "system") (json.string (name_of c.system))
    (json.member (codes "fieldWidth") (count_json (width_of c.system))
    (json.member (codes "fieldHeight") (count_json (height_of c.system))
    (json.member (codes "black16bIre") (count_json c.levels.black)
    (json.member (codes "white16bIre") (count_json c.levels.white) json.no_members)))))

-- the head of a document of this version
abbrev pub head_with : ℕ → ConfigView → List ℕ
head_with version c = codes "{\"version\":" ++ (decimal version ++ parameters_of c)

-- those of the documents that there are
pub plain_head : (c : ConfigView) → head_with 2 c ≡ head_of c
unfolding digits
plain_head c = refl

pub recovered_head : (c : ConfigView) → head_with 3 c ≡ recovered_head_of c
unfolding digits
recovered_head c = refl

-- the tokens up to the opening bracket of the records
abbrev head_tokens : ℕ → ConfigView → List Token
head_tokens version c =
    begin_object ∷ key (codes "version") ∷ number (decimal version) ∷ key (codes "videoParameters")
    ∷ (json_tokens (parameters_json c) ++ (key (codes "fields") ∷ begin_array ∷ []))

escape_name : (system : System) → escape (name_of system) ≡ name_of system
unfolding escape_byte
escape_name Ntsc = refl
escape_name Pal = refl

eleven : (t0 n t1 w t2 h t3 b t4 x t5 r : List ℕ) → (t0 ++ n ++ t1 ++ w ++ t2 ++ h ++ t3 ++ b ++ t4 ++ x ++ t5) ++ r
    ≡ t0 ++ (n ++ (t1 ++ (w ++ (t2 ++ (h ++ (t3 ++ (b ++ (t4 ++ (x ++ (t5 ++ r))))))))))
eleven t0 n t1 w t2 h t3 b t4 x t5 r = simp append_assoc

-- what stands after the system's name, up to the records
abbrev sizes_then : ConfigView → List ℕ → List ℕ
sizes_then c r =
    codes ",\"fieldWidth\":" ++ (decimal (width_of c.system)
    ++ (codes ",\"fieldHeight\":" ++ (decimal (height_of c.system)
    ++ (codes ",\"black16bIre\":" ++ (decimal c.levels.black ++ (codes ",\"white16bIre\":" ++ (decimal c.levels.white
    ++ (codes "},\"fields\":[" ++ r))))))))

parameters_then : (c : ConfigView) (r : List ℕ)
    → codes ",\"videoParameters\":{\"system\":\"" ++ (name_of c.system ++ (34 ∷ sizes_then c (10 ∷ r)))
    ≡ parameters_of c ++ r
unfolding parameters_of
parameters_then c r =
    sym (eleven (codes ",\"videoParameters\":{\"system\":\"") (name_of c.system) (codes "\",\"fieldWidth\":")
    (decimal (width_of c.system)) (codes ",\"fieldHeight\":") (decimal (height_of c.system)) (codes ",\"black16bIre\":")
    (decimal c.levels.black) (codes ",\"white16bIre\":") (decimal c.levels.white) (codes "},\"fields\":[\n") r)

-- the head after its line feed
head_prints : (version : ℕ) (c : ConfigView) (qs : Pieces) (r : List ℕ) → print_spaced false qs ≡ 10 ∷ r
    → print_spaced false (plain (head_tokens version c) ++ qs) ≡ head_with version c ++ r
unfolding print_spaced escape_byte
head_prints version c qs r e =
    let front = codes "{\"version\":" in
    let name = codes ",\"videoParameters\":{\"system\":" in
    ap (λ l. front ++ (decimal version ++ (name ++ l)))
    (quoted_then (name_of c.system) (sizes_then c (print_spaced false qs)) (escape_name c.system))
    ∙ ap (λ l. front ++ (decimal version ++ (name ++ (34 ∷ (name_of c.system ++ (34 ∷ sizes_then c l)))))) e
    ∙ ap (λ l. front ++ (decimal version ++ l)) (parameters_then c r)
    ∙ ap (λ l. front ++ l) (sym (append_assoc (decimal version) (parameters_of c) r))

-- ---- the tail

-- a cut field, or null where the fields are whole
abbrev pub cut_json : Bool → ℕ → ℕ → json.Json
cut_json whole n bytes =
    cond whole json.null (json.object (json.member (codes "seqNo") (count_json n)
    (json.member (codes "bytes") (count_json bytes) json.no_members)))

abbrev pub cut_members : Bool → ℕ → ℕ → json.Members
cut_members whole n bytes = json.member (codes "cutField") (cut_json whole n bytes) json.no_members

abbrev tail_text : Bool → ℕ → ℕ → List ℕ
tail_text whole n bytes =
    cond whole (codes "\n],\"cutField\":null}\n")
    (codes "\n],\"cutField\":{\"seqNo\":" ++ decimal n ++ codes ",\"bytes\":" ++ decimal bytes ++ codes "}}\n")

five : (t0 n t1 b t2 e : List ℕ) → (t0 ++ (n ++ (t1 ++ (b ++ t2)))) ++ e ≡ t0 ++ n ++ t1 ++ b ++ (t2 ++ e)
five t0 n t1 b t2 e = simp append_assoc

cut_ends : (n bytes : ℕ)
    → (codes "\n],\"cutField\":{\"seqNo\":" ++ (decimal n ++ (codes ",\"bytes\":" ++ (decimal bytes ++ codes "}}"))))
    ++ 10 ∷ []
    ≡ tail_text false n bytes
cut_ends n bytes = five (codes "\n],\"cutField\":{\"seqNo\":") (decimal n) (codes ",\"bytes\":") (decimal bytes)
    (codes "}}") (10 ∷ [])

tail_prints : (before whole : Bool) (n bytes : ℕ)
    → print_spaced before (gapped (10 ∷ []) (end_array ∷ members_tokens (cut_members whole n bytes))) ++ 10 ∷ []
    ≡ tail_text whole n bytes
unfolding print_spaced escape_byte
tail_prints true true n bytes = refl
tail_prints false true n bytes = refl
tail_prints true false n bytes = cut_ends n bytes
tail_prints false false n bytes = cut_ends n bytes

-- the same after one more line feed
one_more : (ts : List Token)
    → print_spaced false (gapped (10 ∷ 10 ∷ []) (end_array ∷ ts))
    ≡ 10 ∷ print_spaced false (gapped (10 ∷ []) (end_array ∷ ts))
unfolding print_spaced
one_more ts = refl

-- ---- the whole text

module _ (c : ConfigView) (records : Records) (fields rest : ℕ) where
  abbrev cut : json.Members
  cut = cut_members (rest == 0) (fields + 1) rest

  abbrev pub document_json : List ℕ → json.Json
  document_json is =
      json.object (json.member (codes "version") (count_json records.version)
      (json.member (codes "videoParameters") (parameters_json c)
      (json.member (codes "fields") (json.array (entries_json records is)) cut)))

  -- the bracket after the records, and the cut field: where there is no record, both line feeds are before it
  abbrev last_gap : List ℕ → List ℕ
  last_gap [] = 10 ∷ 10 ∷ []
  last_gap (i ∷ is) = 10 ∷ []

  last_is_gap : (is : List ℕ) → IsGap (last_gap is)
  last_is_gap [] = (inr refl, line_feed)
  last_is_gap (i ∷ is) = line_feed

  abbrev last : List ℕ → Pieces
  last is = gapped (last_gap is) (end_array ∷ members_tokens cut)

  abbrev pub pieces : List ℕ → Pieces
  pieces is = plain (head_tokens records.version c) ++ (entries records is ++ last is)

  pub pieces_tokens : (is : List ℕ) → tokens_of (pieces is) ≡ json_tokens (document_json is)
  pieces_tokens is =
      tokens_plain_then (head_tokens records.version c) (entries records is ++ last is)
      ∙ ap (λ l. head_tokens records.version c ++ l) (entries_tokens records is (last_gap is) (members_tokens cut))

  pub pieces_gaps : (is : List ℕ) → AreGaps (pieces is)
  pieces_gaps is = grind (arith, gaps_plain_then, entries_gaps, last_is_gap, gaps_plain)

  pub pieces_print : (is : List ℕ)
      → print_spaced false (pieces is) ++ 10 ∷ []
      ≡ (head_with records.version c ++ join_by records.text (codes ",\n") is) ++ tail_of fields rest
  unfolding tail_of
  pieces_print [] =
      let short = print_spaced false (gapped (10 ∷ []) (end_array ∷ members_tokens cut)) in
      ap (λ l. l ++ 10 ∷ []) (head_prints records.version c (last []) short (one_more (members_tokens cut)))
      ∙ append_assoc (head_with records.version c) short (10 ∷ [])
      ∙ ap (λ l. head_with records.version c ++ l) (tail_prints false (rest == 0) (fields + 1) rest)
      ∙ ap (λ l. l ++ tail_text (rest == 0) (fields + 1) rest) (sym (append-nil (head_with records.version c)))
  pieces_print (i ∷ is) =
      let body = join_by records.text (codes ",\n") (i ∷ is) in
      let end = print_spaced true (last (i ∷ is)) in
      ap (λ l. l ++ 10 ∷ [])
      (head_prints records.version c (entries records (i ∷ is) ++ last (i ∷ is)) (body ++ end)
      (entries_print records i is (last (i ∷ is))))
      ∙ append_assoc (head_with records.version c) (body ++ end) (10 ∷ [])
      ∙ ap (λ l. head_with records.version c ++ l)
      (append_assoc body end (10 ∷ []) ∙ ap (λ l. body ++ l) (tail_prints true (rest == 0) (fields + 1) rest))
      ∙ sym (append_assoc (head_with records.version c) body (tail_text (rest == 0) (fields + 1) rest))
