-- What is found in a text that is read as a document of either version. DocumentReadings stands on it.
use Rattle.vbi_meta.proofs.Common.{◌≡◌, ℕ, zero, suc, ◌+◌, ◌<◌, ◌≤◌, List, [], ◌∷◌, option_and_then, refl, sym, ap, ◌∙◌}
use Rattle.vbi_meta.proofs.Common.{inl, inr, ◌⊎◌, map, arith, range_with_len, codes, Data, string, at, read, items_of}
use Rattle.vbi_meta.proofs.Common.{cause_text_of, FieldReadings, Reading, fields_of, rest_of, ConfigView, value_of}
use Rattle.vbi_meta.proofs.Common.{whole_of, lines_value, field_with, document_with, field_in, word_of, HasLine}
use Rattle.vbi_meta.proofs.Common.{nearest_of, Option, Some, None}
use Rattle.std.proofs.lemmas.Bool.{cases_lt}
use Rattle.serde_json.specs.Find.{get_item, as_str}
use Rattle.vbi_meta.specs.ReadBack.{number_of, cause_of, pass_of, HasCut, HasFields}
use Rattle.vbi_meta.specs.Settings.{whole, member_of}

-- ---- lists

-- item i of a list that a function of the index makes
item_at : (f : ℕ → Data) (a n i : ℕ) → i < n → get_item i (items_of (map f (range_with_len a n))) ≡ Some (f (a + i))
item_at f a zero i h = absurd (omega arith)
item_at f a (suc n) zero h = ap (λ k. Some (f k)) (omega arith)
item_at f a (suc n) (suc i) h =
    let e : a + 1 + i ≡ a + suc i = omega arith in item_at f (a + 1) n i (omega arith) ∙ ap (λ k. Some (f k)) e

no_item_at : (f : ℕ → Data) (a n i : ℕ) → n ≤ i → get_item i (items_of (map f (range_with_len a n))) ≡ None
no_item_at f a zero zero h = refl
no_item_at f a zero (suc i) h = refl
no_item_at f a (suc n) zero h = absurd (omega arith)
no_item_at f a (suc n) (suc i) h = no_item_at f (a + 1) n i (omega arith)

-- ---- a field

-- line 16 + k of a field
abbrev pub line_of : ℕ → FieldReadings → Reading
line_of zero lines = lines.first
line_of (suc zero) lines = lines.second
line_of (suc (suc k)) lines = lines.third

line_there : (said : Reading → Data) (lines : FieldReadings) (k : ℕ) → k < 3
    → at k (lines_value said lines) ≡ Some (said (line_of k lines))
line_there said lines zero h = refl
line_there said lines (suc zero) h = refl
line_there said lines (suc (suc zero)) h = refl
line_there said lines (suc (suc (suc k))) h = absurd (omega arith)

no_line_there : (said : Reading → Data) (lines : FieldReadings) (k : ℕ) → 3 ≤ k → at k (lines_value said lines) ≡ None
no_line_there said lines k h = grind arith

-- the members that a field of one version or the other has beside those of both
abbrev more_of : Option Data → List (List ℕ × Data)
more_of None = []
more_of (Some near) = (codes "vbiNear", near) ∷ []

module _ (n : ℕ) (lines causes : FieldReadings) where
  -- such a field
  abbrev field : Option Data → Data
  field near = field_with n lines causes (more_of near)

  number_there : (near : Option Data) → number_of (Some (field near)) ≡ Some n
  number_there None = refl
  number_there (Some near) = refl

  words_there : (near : Option Data)
      → member_of (member_of (Some (field near)) (codes "vbi")) (codes "vbiData")
      ≡ Some (lines_value (λ line. whole_of (value_of line.outcome)) lines)
  words_there None = refl
  words_there (Some near) = refl

  causes_there : (near : Option Data)
      → member_of (Some (field near)) (codes "vbiCause")
      ≡ Some (lines_value (λ line. string (cause_text_of line.outcome)) causes)
  causes_there None = refl
  causes_there (Some near) = refl

  passes_there : (near : Option Data)
      → member_of (Some (field near)) (codes "vbiPass") ≡ Some (lines_value (λ line. whole_of line.pass) lines)
  passes_there None = refl
  passes_there (Some near) = refl

  nearest_there : (k : ℕ) (near : Option Data) → nearest_of k (Some (field near)) ≡ option_and_then (at k) near
  nearest_there k None = refl
  nearest_there k (Some near) = refl

  module _ (near : Option Data) (k : ℕ) where
    word_there : k < 3 → word_of k (Some (field near)) ≡ Some (value_of (line_of k lines).outcome)
    word_there h =
        ap (λ found. option_and_then whole (option_and_then (at k) found)) (words_there near)
        ∙ ap (option_and_then whole) (line_there (λ line. whole_of (value_of line.outcome)) lines k h)

    no_word_there : 3 ≤ k → word_of k (Some (field near)) ≡ None
    no_word_there h =
        ap (λ found. option_and_then whole (option_and_then (at k) found)) (words_there near)
        ∙ ap (option_and_then whole) (no_line_there (λ line. whole_of (value_of line.outcome)) lines k h)

    cause_there : k < 3 → cause_of k (Some (field near)) ≡ Some (cause_text_of (line_of k causes).outcome)
    cause_there h =
        ap (λ found. option_and_then as_str (option_and_then (at k) found)) (causes_there near)
        ∙ ap (option_and_then as_str) (line_there (λ line. string (cause_text_of line.outcome)) causes k h)

    pass_there : k < 3 → pass_of k (Some (field near)) ≡ Some (line_of k lines).pass
    pass_there h =
        ap (λ found. option_and_then whole (option_and_then (at k) found)) (passes_there near)
        ∙ ap (option_and_then whole) (line_there (λ line. whole_of line.pass) lines k h)

-- ---- a text that is read as a document's value

abbrev value_or : Option ℕ → ℕ
value_or None = 0
value_or (Some n) = n

module _ (c : ConfigView) (z text : List ℕ) (version : ℕ) (lines causes : ℕ → FieldReadings) (near : ℕ → Option Data)
  where
    -- field i as a value
    abbrev value : ℕ → Data
    value i = field (i + 1) (lines i) (causes i) (near i)

    module _ (is : read text ≡ Some (document_with version value c (fields_of c z) (rest_of c z))) where
      -- field i of the text is the value's item i
      field_is : (i : ℕ) → field_in text i ≡ get_item i (items_of (map value (range_with_len 0 (fields_of c z))))
      field_is i = ap (λ d. option_and_then (at i) (member_of d (codes "fields"))) is

      found : (i : ℕ) → i < fields_of c z → field_in text i ≡ Some (value i)
      found i inside =
          let e : 0 + i ≡ i = omega arith in
          field_is i ∙ item_at value 0 (fields_of c z) i inside ∙ ap (λ k. Some (value k)) e

      not_found : (i : ℕ) → fields_of c z ≤ i → field_in text i ≡ None
      not_found i past = field_is i ∙ no_item_at value 0 (fields_of c z) i past

      has_cut : HasCut text (fields_of c z) (rest_of c z)
      has_cut = grind arith

      pub has_fields : HasFields c z text
      has_fields = record {
        numbers = λ i inside. ap number_of (found i inside) ∙ number_there (i + 1) (lines i) (causes i) (near i);
        nothing = not_found;
        cut = has_cut;
      }

      pub has_line : (i k : ℕ) → i < fields_of c z → k < 3
          → HasLine text i k (line_of k (lines i)) (line_of k (causes i))
      has_line i k inside line = record {
        word = ap (word_of k) (found i inside) ∙ word_there (i + 1) (lines i) (causes i) (near i) k line;
        cause = ap (cause_of k) (found i inside) ∙ cause_there (i + 1) (lines i) (causes i) (near i) k line;
        pass = ap (pass_of k) (found i inside) ∙ pass_there (i + 1) (lines i) (causes i) (near i) k line;
      }

      pub nearest_found : (i k : ℕ) → i < fields_of c z
          → nearest_of k (field_in text i) ≡ option_and_then (at k) (near i)
      nearest_found i k inside =
          ap (nearest_of k) (found i inside) ∙ nearest_there (i + 1) (lines i) (causes i) k (near i)

      -- a number stands at one of a field's three lines
      pub number_inside : (i k word : ℕ) → word_of k (field_in text i) ≡ Some word → (i < fields_of c z) × (k < 3)
      number_inside i k word e = go (cases_lt i (fields_of c z)) (cases_lt k 3)
        where
          go : (i < fields_of c z) ⊎ (fields_of c z ≤ i) → (k < 3) ⊎ (3 ≤ k) → (i < fields_of c z) × (k < 3)
          go (inr past) line = let none : None ≡ Some word = sym (ap (word_of k) (not_found i past)) ∙ e in absurd cc
          go (inl inside) (inr past) =
              let none : None ≡ Some word = sym (ap (word_of k) (found i inside)
              ∙ no_word_there (i + 1) (lines i) (causes i) (near i) k past) ∙ e in
              absurd cc
          go (inl inside) (inl line) = (inside, line)

      -- and is that of the line
      pub record IsOfLine (i k word : ℕ) : Type 0 where
        pub field : i < fields_of c z
        pub line : k < 3
        pub same : value_of (line_of k (lines i)).outcome ≡ word

      pub is_of_line : (i k word : ℕ) → word_of k (field_in text i) ≡ Some word → IsOfLine i k word
      is_of_line i k word e =
          let (inside, line) = number_inside i k word e in
          let there = has_line i k inside line in
          record { field = inside; line = line; same = ap value_or (sym there.word ∙ e) }
