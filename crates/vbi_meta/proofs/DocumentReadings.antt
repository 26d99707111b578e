-- What is found in the documents of a stream is what its lines show.
use Rattle.vbi_meta.proofs.Common.{◌≡◌, ℕ, zero, suc, ◌+◌, ◌<◌, ◌==◌, cond, List, [], ◌∷◌, Bool, refl, sym, ap, ◌∙◌}
use Rattle.vbi_meta.proofs.Common.{subst, arith, codes, Data, at, read, Outcome, Word, Blank, Unfinished, Change, Hold}
use Rattle.vbi_meta.proofs.Common.{cause_text_of, FieldReadings, Reading, fields_of, reading_at, readings_at, rows_at}
use Rattle.vbi_meta.proofs.Common.{row_levels, line_at, System, ConfigView, is_reading, Recovered, IsRecovered}
use Rattle.vbi_meta.proofs.Common.{none_erased, is_one, whole_text, document, recovered_document, value_of, Near}
use Rattle.vbi_meta.proofs.Common.{FieldRecovered, cause_line, cause_lines, hundredths, word_or_zero, as_readings}
use Rattle.vbi_meta.proofs.Common.{reading_as, joined_rows, IsOfRun, object_of, whole_of, document_value, near_value}
use Rattle.vbi_meta.proofs.Common.{nears_value, recovered_value, IsReadAs, field_in, word_of, HasLine, nearest_of}
use Rattle.std.proofs.Common.{Option, Some, None, ne_eqb}
use Rattle.std.specs.Prelude.{slice_get}
use Rattle.serde_json.specs.Data.{null}
use Rattle.vbi_words.specs.Readings.{Reads}
use Rattle.vbi_line.proofs.OneReading.{only_reading}
use Rattle.vbi_field.proofs.OneRecoveredDocument.{only_one}
use Rattle.vbi_field.specs.Texts.{RowReads, FieldRecovers}
use Rattle.vbi_field.specs.RecoveredDocument.{recovered_of}
use Rattle.vbi_meta.specs.ReadBack.{HasReading, ReadsWord, HasReadings, ReadsBack, count_in, HasNearest, LinePlace}
use Rattle.vbi_meta.specs.ReadBack.{HasField, ShowsWord, HasRecovered, RecoversBack, RuleSays, HasSaid, FollowsRule}
use Rattle.vbi_meta.specs.ReadBack.{FollowsLines}
use Rattle.vbi_meta.proofs.DocumentReads.{document_is_read, recovered_is_read}
use Rattle.vbi_meta.proofs.DocumentValues.{line_of, has_fields, has_line, nearest_found, number_inside, is_of_line}

-- ---- version 2

word_of_value : (system : System) (levels : List Bool) (outcome : Outcome) (pass word : ℕ)
    → Reads system levels outcome pass
    → value_of outcome ≡ word → 0 < word → Reads system levels (Word word) pass
word_of_value system levels outcome pass word reads e some = grind arith

row_of : (c : ConfigView) (z : List ℕ) (i k : ℕ) → k < 3 → line_of k (readings_at c z i) ≡ reading_at c z i (15 + k)
row_of c z i zero h = refl
row_of c z i (suc zero) h = refl
row_of c z i (suc (suc zero)) h = refl
row_of c z i (suc (suc (suc k))) h = absurd (omega arith)

module _ (c : ConfigView) (z text : List ℕ) (is : read text ≡ Some (document_value c z)) where
  abbrev none : ℕ → Option Data
  none i = None

  has_reading : (i k : ℕ) → i < fields_of c z → k < 3 → HasReading text i k (reading_at c z i (15 + k))
  has_reading i k inside line =
      subst (λ (reading : Reading). HasReading text i k reading) (row_of c z i k line)
      (has_line c z text 2 (readings_at c z) (readings_at c z) none is i k inside line)

  has_same_reading : (i k : ℕ) (reading : Reading) → i < fields_of c z → k < 3 → RowReads c z i (15 + k) reading
      → HasReading text i k reading
  has_same_reading i k reading inside line reads = grind (arith, only_reading, has_reading)

  reads_word : (place : LinePlace) (word : ℕ) → word_of place.k (field_in text place.i) ≡ Some word → 0 < word
      → ReadsWord c z text place word
  reads_word place word e some =
      let i : ℕ = place.i in
      let k : ℕ = place.k in
      let of = is_of_line c z text 2 (readings_at c z) (readings_at c z) none is i k word e in
      let levels = row_levels c.levels (line_at c.system z i (15 + k)) in
      let reading = reading_at c z i (15 + k) in
      let same : value_of reading.outcome ≡ word
      = ap (λ (r : Reading). value_of r.outcome) (sym (row_of c z i k of.line)) ∙ of.same in
      record {
        field = of.field;
        place = of.line;
        pass = reading.pass;
        found = let there = has_reading i k of.field of.line in there.pass;
        reads = word_of_value c.system levels reading.outcome reading.pass word (is_reading c.system levels) same some;
      }

  pub has_readings : HasReadings c z text
  has_readings = record {
    fields = has_fields c z text 2 (readings_at c z) (readings_at c z) none is;
    each = λ i k inside line. (reading_at c z i (15 + k), is_reading c.system _, has_reading i k inside line);
    lines = has_same_reading;
    words = reads_word;
  }

  pub follows_lines : FollowsLines c z text
  follows_lines = record {
    fields = has_readings.fields;
    each = has_readings.each;
    lines = has_readings.lines;
    only = number_inside c z text 2 (readings_at c z) (readings_at c z) none is;
  }

-- ---- version 3

-- what is found of a nearest word
abbrev near_object : ConfigView → Near → Data
near_object c near = object_of (
    (codes "word", whole_of (word_or_zero near.word))
    ∷ (codes "distance", whole_of (hundredths c.levels near.distance))
    ∷ (codes "rival", whole_of (hundredths c.levels near.rival))
    ∷ [])

object_there : (c : ConfigView) (value : Option Data) (shown : Reading) (near : Near)
    → value ≡ Some (near_value c.levels shown near) → shown.pass ≡ 3 → value ≡ Some (near_object c near)
object_there c value shown near e three =
    e ∙ ap (λ (pass : ℕ). Some (cond (pass == 3) (near_object c near) null)) three

near_has : (c : ConfigView) (value : Option Data) (shown : Reading) (near : Near)
    → value ≡ Some (near_value c.levels shown near) → HasNearest c value shown near
near_has c value shown near e =
    let there = object_there c value shown near e in
    record {
      none = λ other. e ∙ ap (λ (b : Bool). Some (cond b (near_object c near) null)) (ne_eqb shown.pass 3 other);
      word = λ three. ap (λ (o : Option Data). count_in o (codes "word")) (there three);
      distance = λ three. ap (λ (o : Option Data). count_in o (codes "distance")) (there three);
      rival = λ three. ap (λ (o : Option Data). count_in o (codes "rival")) (there three);
    }

-- a line with a number other than 0 shows a word
shows-word : (line : Recovered) (word : ℕ) → value_of line.outcome ≡ word → 0 < word
    → line ≡ record { outcome = Word word; pass = line.pass }
shows-word line word e some = by line.outcome e
  where
    by : (o : Outcome) → value_of o ≡ word
        → record line { outcome = o } ≡ record { outcome = Word word; pass = line.pass }
    by (Word w) same = ap (λ (v : ℕ). record { outcome = Word v; pass = line.pass }) same
    by Blank same = absurd (omega arith)
    by Unfinished same = absurd (omega arith)
    by (Change c) same = absurd (omega arith)
    by (Hold c) same = absurd (omega arith)

-- so does that of three
shows-at : (shown : List Recovered) (a b d : Recovered) (k word : ℕ) → shown ≡ a ∷ b ∷ d ∷ [] → k < 3
    → value_of (line_of k (as_readings shown)).outcome ≡ word → 0 < word
    → slice_get shown k ≡ Some (record { outcome = Word word; pass = (line_of k (as_readings shown)).pass })
shows-at shown a b d k word e line same some =
    subst (λ (l : List Recovered). value_of (line_of k (as_readings l)).outcome ≡ word
    → slice_get l k ≡ Some (record { outcome = Word word; pass = (line_of k (as_readings l)).pass })) (sym e)
    (by k line) same
  where
    by : (k : ℕ) → k < 3 → value_of (line_of k (as_readings (a ∷ b ∷ d ∷ []))).outcome ≡ word
        → slice_get (a ∷ b ∷ d ∷ []) k
        ≡ Some (record { outcome = Word word; pass = (line_of k (as_readings (a ∷ b ∷ d ∷ []))).pass })
    by zero l is = ap (λ (r : Recovered). Some r) (shows-word a word is some)
    by (suc zero) l is = ap (λ (r : Recovered). Some r) (shows-word b word is some)
    by (suc (suc zero)) l is = ap (λ (r : Recovered). Some r) (shows-word d word is some)
    by (suc (suc (suc k))) l is = absurd (omega arith)

module _ (c : ConfigView) (z text : List ℕ) (is : read text ≡ Some (recovered_value c z)) where
  abbrev field_at : ℕ → FieldRecovered
  field_at i = recovered_of c (rows_at c z i)

  abbrev shown_at : ℕ → FieldReadings
  shown_at i = let here = field_at i in as_readings here.shown

  abbrev causes_at : ℕ → FieldReadings
  causes_at i = let here = field_at i in cause_lines (shown_at i) here.readings

  abbrev nears_at : ℕ → Option Data
  nears_at i = Some (nears_value c.levels (shown_at i) (field_at i))

  recovers : (i : ℕ) → FieldRecovers c z i (field_at i)
  recovers i = is_one c.system c.levels (rows_at c z i) (none_erased c.system)

  has_line_of : (i k : ℕ) → i < fields_of c z → k < 3
      → HasLine text i k (line_of k (shown_at i)) (line_of k (causes_at i))
  has_line_of = has_line c z text 3 shown_at causes_at nears_at is

  nearest_of_line : (i k : ℕ) → i < fields_of c z
      → nearest_of k (field_in text i) ≡ at k (nears_value c.levels (shown_at i) (field_at i))
  nearest_of_line = nearest_found c z text 3 shown_at causes_at nears_at is

  has_field : (i : ℕ) → i < fields_of c z → HasField c text i (field_at i)
  has_field i inside =
      let lines = shown_at i in
      let here = field_at i in
      record {
        first = record {
          line = has_line_of i 0 inside (omega arith);
          nearest = near_has c _ lines.first here.first (nearest_of_line i 0 inside);
        };
        second = record {
          line = has_line_of i 1 inside (omega arith);
          nearest = near_has c _ lines.second here.second (nearest_of_line i 1 inside);
        };
        third = record {
          line = has_line_of i 2 inside (omega arith);
          nearest = near_has c _ lines.third here.third (nearest_of_line i 2 inside);
        };
      }

  shows_word : (place : LinePlace) (word : ℕ) → word_of place.k (field_in text place.i) ≡ Some word → 0 < word
      → ShowsWord c z text place word
  shows_word place word e some =
      let of = is_of_line c z text 3 shown_at causes_at nears_at is place.i place.k word e in
      let here = field_at place.i in
      record {
        field = of.field;
        place = of.line;
        pass = (line_of place.k (shown_at place.i)).pass;
        found = let there = has_line_of place.i place.k of.field of.line in there.pass;
        recovered = here;
        recovers = recovers place.i;
        shows = by here.shown (recovers place.i).shown of.line of.same;
      }
    where
      by : (shown : List Recovered)
          → IsRecovered c.system c.levels (joined_rows (rows_at c z place.i)) (none_erased c.system) shown → place.k < 3
          → value_of (line_of place.k (as_readings shown)).outcome ≡ word
          → slice_get shown place.k
          ≡ Some (record { outcome = Word word; pass = (line_of place.k (as_readings shown)).pass })
      by shown (first, second, third, both, seen, three) line same =
          shows-at shown _ _ _ place.k word three line same some

  pub has_recovered : HasRecovered c z text
  has_recovered = record {
    fields = has_fields c z text 3 shown_at causes_at nears_at is;
    each = λ i inside. (field_at i, recovers i, has_field i inside);
    lines = λ i field inside are. subst (λ (f : FieldRecovered). HasField c text i f)
        (sym (only_one c.system c.levels (rows_at c z i) (none_erased c.system) field are)) (has_field i inside);
    words = shows_word;
  }

  -- what the rule says of field i, and that it is found
  abbrev Said : ℕ → Type 0
  Said i = (first second third : Recovered) × RuleSays c z i (first ∷ second ∷ third ∷ [])
      × HasSaid text i 0 first × HasSaid text i 1 second × HasSaid text i 2 third

  has_said : (i k : ℕ) (line : Recovered) (reading : Reading)
      → HasLine text i k (reading_as line) (cause_line (reading_as line) reading) → HasSaid text i k line
  has_said i k line reading has = record {
    word = has.word;
    pass = has.pass;
    cause = λ other. has.cause
        ∙ ap (λ (b : Bool). let from : Reading = cond b reading (reading_as line) in Some (cause_text_of from.outcome))
        (ne_eqb line.pass 3 other);
  }

  said_by_three : (i : ℕ) (readings : FieldReadings) (shown : List Recovered) (a b d : Recovered)
      → shown ≡ a ∷ b ∷ d ∷ [] → RuleSays c z i shown
      → ((k : ℕ) → k < 3
      → HasLine text i k (line_of k (as_readings shown)) (line_of k (cause_lines (as_readings shown) readings)))
      → Said i
  said_by_three i readings shown a b d e =
      subst (λ (l : List Recovered). RuleSays c z i l
      → ((k : ℕ) → k < 3
      → HasLine text i k (line_of k (as_readings l)) (line_of k (cause_lines (as_readings l) readings))) → Said i)
      (sym e) (λ says has. (
        a,
        b,
        d,
        says,
        has_said i 0 a readings.first (has 0 (omega arith)),
        has_said i 1 b readings.second (has 1 (omega arith)),
        has_said i 2 d readings.third (has 2 (omega arith)),
      ))

  said_at : (i : ℕ) → i < fields_of c z → Said i
  said_at i inside = by here.shown (recovers i).shown (λ k line. has_line_of i k inside line)
    where
      here : FieldRecovered
      here = field_at i

      by : (shown : List Recovered) → RuleSays c z i shown
          → ((k : ℕ) → k < 3
          → HasLine text i k (line_of k (as_readings shown))
          (line_of k (cause_lines (as_readings shown) here.readings)))
          → Said i
      by shown (first, second, third, both, seen, three) =
          said_by_three i here.readings shown _ _ _ three (first, second, third, both, seen, three)

  pub follows_rule : FollowsRule c z text
  follows_rule = record {
    fields = has_fields c z text 3 shown_at causes_at nears_at is;
    each = said_at;
    only = number_inside c z text 3 shown_at causes_at nears_at is;
  }

-- ---- a text that is the document of a stream

pub extracted : (c : ConfigView) (z text : List ℕ) → IsOfRun c z → text ≡ whole_text document c z → ReadsBack c z text
extracted c z text run e =
    let is : IsReadAs text (document_value c z) = subst (λ t. IsReadAs t (document_value c z)) (sym e)
    (document_is_read c z run) in
    record {
      is_read = is;
      readings = has_readings c z text is.value_of_text;
    }

-- the same with recovered words
pub extracted_recovered : (c : ConfigView) (z text : List ℕ) → IsOfRun c z → text ≡ whole_text recovered_document c z
    → RecoversBack c z text
extracted_recovered c z text run e =
    let is : IsReadAs text (recovered_value c z) = subst (λ t. IsReadAs t (recovered_value c z)) (sym e)
    (recovered_is_read c z run) in
    record {
      is_read = is;
      shown = has_recovered c z text is.value_of_text;
    }

pub extracted_by_lines : (c : ConfigView) (z text : List ℕ) → IsOfRun c z → text ≡ whole_text document c z
    → FollowsLines c z text
extracted_by_lines c z text run e =
    subst (FollowsLines c z) (sym e)
    (follows_lines c z (whole_text document c z) (document_is_read c z run).value_of_text)

pub extracted_by_rule : (c : ConfigView) (z text : List ℕ) → IsOfRun c z → text ≡ whole_text recovered_document c z
    → FollowsRule c z text
extracted_by_rule c z text run e =
    subst (FollowsRule c z) (sym e)
    (follows_rule c z (whole_text recovered_document c z) (recovered_is_read c z run).value_of_text)
