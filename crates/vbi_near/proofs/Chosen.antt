-- The nearest word or none, and the nearest code or none, by the best of what was looked at: one proof for the
-- drawn rows at any places. near_word and near_code stand on it; OneNear, SomeNear and Unsaid take the places.
use Rattle.std.proofs.Common.{◌≡◌, ◌≢◌, ℕ, ◌≤◌, ◌<◌, ◌+◌, ◌^◌, min, Option, List, [], ◌∷◌, ◌⊎◌, inl, inr, refl, arith}
use Rattle.std.proofs.Common.{ap, sym, subst, ◌∙◌}
use Rattle.std.specs.Prelude.{Some, None, false}
use Rattle.std.proofs.lemmas.Bool.{cases_lt}
use Rattle.vbi_near.proofs.Common.{System, width_of, Slicing, IsWord, Found, Near, Sums, IsPlace, picture_of, starts}
use Rattle.vbi_near.proofs.Common.{word_length, drawn_as, Samples, most_of, distance_of, Shades, distance_from, span}
use Rattle.vbi_near.proofs.Common.{place_cost, IsFound, IsChosen, IsBefore, Precedes, far_from, IsLongerFound}
use Rattle.vbi_near.proofs.Common.{HasLeastRow, GoesOn, IsShorterFound, IsCutShort, Range, IsOneOf, codes_of}
use Rattle.vbi_near.proofs.Common.{IsCodePlace, Places, all_codes, code_cost, IsLead, IsClose, IsCodeChosen, shades_of}
use Rattle.vbi_near.proofs.Common.{word_cost_by, code_cost_by, IsRowOf, IsNearOf, IsNearWord, IsNearCode}
use Rattle.vbi_near.proofs.{Columns.word-fits, Columns.starts-few, Costs.blank-cost, Costs.word-cost}
use Rattle.vbi_near.proofs.{CutShort.length-shorter, CutShort.least_shorter, Beside.length-longer, Beside.least_longer}
use Rattle.vbi_near.proofs.{Piles.far-same, Piles.row-same, Priced.code-word}

-- ---- places

-- a word's number, and 0 for none
abbrev pub number : Option ℕ → ℕ
number None = 0
number (Some w) = w

-- none, and words of some kind at each start
abbrev pub all_of : (ℕ → Type 0) → System → Places
all_of IsOne system start word = ((start ≡ 0) × (word ≡ 0)) ⊎ ((start < starts system) × IsOne word)

-- the places of the drawn rows of these words and of none
pub record ArePlaces (system : System) (IsOne : ℕ → Type 0) (IsThere : Option ℕ → ℕ → Type 0) : Type 0 where
  pub place : (word : Option ℕ) (s : ℕ) → IsThere word s → IsPlace system word s
  pub is : (w s : ℕ) → IsThere (Some w) s → IsOne w
  pub none : IsThere None 0
  pub some : (w s : ℕ) → IsOne w → s + word_length system ≤ width_of system → IsThere (Some w) s

pub word-places : (system : System) → ArePlaces system IsWord (IsPlace system)
word-places system = grind arith

pub code-is_word : (ranges : List Range) (w : ℕ) → IsOneOf ranges w → IsWord w
code-is_word [] w none = absurd none
code-is_word (words ∷ ranges) w (inl one) = one.0
code-is_word (words ∷ ranges) w (inr one) = code-is_word ranges w one

pub code-place : (ranges : List Range) (system : System) (word : Option ℕ) (start : ℕ)
    → IsCodePlace ranges system word start → IsPlace system word start
code-place ranges system word start place = grind (arith, code-is_word)

pub code-places : (ranges : List Range) (system : System)
    → ArePlaces system (IsOneOf ranges) (IsCodePlace ranges system)
code-places ranges system = grind (arith, code-place)

module _ (system : System) (IsOne : ℕ → Type 0) (IsThere : Option ℕ → ℕ → Type 0)
    (are : ArePlaces system IsOne IsThere) where
  looked : (word : Option ℕ) (s : ℕ) → IsThere word s → all_of IsOne system s (number word)
  looked word s there = grind arith

  pub placed : (s w : ℕ) → all_of IsOne system s w → (word : Option ℕ) × IsThere word s × (number word ≡ w)
  placed s w (inl (e, none)) = (None, subst (IsThere None) (sym e) are.none, sym none)
  placed s w (inr (l, one)) = (Some w, are.some w s one (omega (arith, word-fits system)), refl)

  one-number : (word other : Option ℕ) (s t : ℕ) → IsThere word s → IsThere other t
      → number word ≡ number other → word ≡ other
  one-number word other s t here there e = grind arith

  precedes : (word other : Option ℕ) (s t at v : ℕ) → IsThere word s → IsThere other t → s ≡ at → number word ≡ v
      → IsBefore at v t (number other) → Precedes word s other t
  precedes None other s t at v here there e f before = tt
  precedes (Some w) None s t at v here there e f (inl less) = absurd (omega (arith, are.place None t there))
  precedes (Some w) None s t at v here there e f (inr (g, le)) = absurd (omega (arith, (are.place (Some w) s here).0.0))
  precedes (Some w) (Some x) s t at v here there e f (inl less) = inl (omega arith)
  precedes (Some w) (Some x) s t at v here there e f (inr (g, le)) = inr (omega arith, omega arith)

  -- a place at which one of these words was looked at, or none
  begun : (cost : ℕ → ℕ → ℕ) (lead : Found) → IsLead cost (all_of IsOne system) lead
      → ((lead.word ≡ 0) × (lead.start ≡ 0))
      ⊎ ((lead.start < starts system) × IsOne lead.word × IsThere (Some lead.word) lead.start × IsWord lead.word)
  begun cost lead is = grind (arith, word-fits)

-- a word that was found begins where one may, and costs as much as is found
pub lead-found : (sums : Shades) (system : System) (ranges : List Range) (lead : Found)
    → IsLead (code_cost sums system) (all_of (IsOneOf ranges) system) lead → lead.word ≢ 0
    → (lead.start < starts system) × IsWord lead.word
    × (place_cost sums system lead.start lead.word ≡ lead.distance)
lead-found sums system ranges lead is some =
    go (begun system (IsOneOf ranges) (IsCodePlace ranges system) (code-places ranges system) (code_cost sums system)
    lead is)
  where
    go : ((lead.word ≡ 0) × (lead.start ≡ 0))
        ⊎ ((lead.start < starts system) × IsOneOf ranges lead.word × IsCodePlace ranges system (Some lead.word)
        lead.start
        × IsWord lead.word)
        → (lead.start < starts system) × IsWord lead.word
        × (place_cost sums system lead.start lead.word ≡ lead.distance)
    go (inl none) = absurd (some none.0)
    go (inr (l, one, there, word)) = (l, word, sym (code-word sums system lead.start lead.word word) ∙ is.exact)

-- ---- what is answered

-- what was found is what is answered
record Shows (IsThere : Option ℕ → ℕ → Type 0) (lead : Found) (near : Near) : Type 0 where
  pub place : IsThere near.word near.start
  pub word : number near.word ≡ lead.word
  pub start : near.start ≡ lead.start
  pub distance : near.distance ≡ lead.distance
  pub rival : near.rival ≡ lead.rival

-- a drawn row is as far as it costs
pub cost-at : (sums : Sums) (slicing : Slicing) (lines : List Samples) (costs : Shades)
    → IsRowOf sums slicing lines costs → (word : Option ℕ) (s : ℕ) → IsPlace sums.system word s
    → far_from sums.system slicing lines word s ≡ code_cost_by sums s (number word)
cost-at sums slicing lines costs row word s place =
    sym (far-same sums.system slicing lines costs row.pile word s place) ∙ priced word place
  where
    priced : (word : Option ℕ) → IsPlace sums.system word s
        → distance_from costs 0 (picture_of sums.system word s) ≡ code_cost_by sums s (number word)
    priced None e = ap (λ (k : ℕ). distance_from costs 0 (picture_of sums.system None k)) e
        ∙ blank-cost costs (shades_of sums) sums.system row.both
    priced (Some w) (word, room) =
        word-cost costs (shades_of sums) sums.system row.both s room w
        ∙ sym (code-word (shades_of sums) sums.system s w word)

module _ (sums : Sums) (slicing : Slicing) (lines : List Samples) (costs : Shades)
    (row : IsRowOf sums slicing lines costs) (IsOne : ℕ → Type 0) (IsThere : Option ℕ → ℕ → Type 0)
    (are : ArePlaces sums.system IsOne IsThere) (lead : Found)
    (is : IsLead (code_cost_by sums) (all_of IsOne sums.system) lead) where
  -- another word was looked at, which is as far as the rival
  abbrev Other : Type 0
  Other = (s : ℕ) × (w : ℕ) × all_of IsOne sums.system s w × (w ≢ lead.word) × (code_cost_by sums s w ≡ lead.rival)

  cost-of : (word : Option ℕ) (s : ℕ) → IsThere word s
      → far_from sums.system slicing lines word s ≡ code_cost_by sums s (number word)
  cost-of word s there = cost-at sums slicing lines costs row word s (are.place word s there)

  shown : (longer shorter : ℕ) (near : Near) → IsCodeChosen lead longer shorter near → Shows IsThere lead near
  shown longer shorter near chosen = go chosen (begun sums.system IsOne IsThere are (code_cost_by sums) lead is)
    where
      go : IsCodeChosen lead longer shorter near → ((lead.word ≡ 0) × (lead.start ≡ 0))
          ⊎ ((lead.start < starts sums.system) × IsOne lead.word × IsThere (Some lead.word) lead.start
          × IsWord lead.word)
          → Shows IsThere lead near
      go (inl (none, e)) (inl (zero, at)) = subst (Shows IsThere lead) (sym e) (record {
        place = are.none;
        word = sym none;
        start = sym at;
        distance = refl;
        rival = refl;
      })
      go (inl (none, e)) (inr (l, one, there, word)) = absurd (omega (arith, word.0, none))
      go (inr (some, e)) (inl (zero, at)) = absurd (omega arith)
      go (inr (some, e)) (inr (l, one, there, word)) = subst (Shows IsThere lead) (sym e) (record {
        place = there;
        word = refl;
        start = refl;
        distance = refl;
        rival = refl;
      })

  -- the rows that there are of the word answered
  beyond : (longer shorter : ℕ) (near : Near) → IsCodeChosen lead longer shorter near
      → (lead.word ≡ 0) ⊎ (IsLongerFound (shades_of sums) sums.system lead longer
      × IsShorterFound (shades_of sums) sums.system lead shorter)
      → HasLeastRow (GoesOn sums.system) (λ levels. distance_of (most_of slicing) lines (drawn_as slicing levels))
      near.word near near.longer
      × HasLeastRow (IsCutShort sums.system) (λ levels. distance_of (most_of slicing) lines (drawn_as slicing levels))
      near.word near near.shorter
  beyond longer shorter near chosen found =
      go chosen found (begun sums.system IsOne IsThere are (code_cost_by sums) lead is)
    where
      Has : Near → Type 0
      Has n = HasLeastRow (GoesOn sums.system)
          (λ levels. distance_of (most_of slicing) lines (drawn_as slicing levels)) n.word n n.longer
          × HasLeastRow (IsCutShort sums.system)
          (λ levels. distance_of (most_of slicing) lines (drawn_as slicing levels)) n.word n n.shorter

      go : IsCodeChosen lead longer shorter near
          → (lead.word ≡ 0) ⊎ (IsLongerFound (shades_of sums) sums.system lead longer
          × IsShorterFound (shades_of sums) sums.system lead shorter)
          → ((lead.word ≡ 0) × (lead.start ≡ 0))
          ⊎ ((lead.start < starts sums.system) × IsOne lead.word × IsThere (Some lead.word) lead.start
          × IsWord lead.word) → Has near
      go (inl (none, e)) any at = subst Has (sym e) (refl, refl)
      go (inr (some, e)) (inl none) at = absurd (omega arith)
      go (inr (some, e)) (inr most) (inl (zero, at)) = absurd (omega arith)
      go (inr (some, e)) (inr (longest, shortest)) (inr (l, one, there, word)) =
          let room = (are.place (Some lead.word) lead.start there).1 in
          let exact = sym (code-word (shades_of sums) sums.system lead.start lead.word word) ∙ is.exact in
          subst Has (sym e) (
            row-same sums.system slicing lines costs row.pile (GoesOn sums.system lead.word lead.start) longer
                (λ levels on. length-longer sums.system lead.word lead.start levels room on)
                (least_longer costs (shades_of sums) sums.system row.both sums.rows lead l exact longer longest),
            row-same sums.system slicing lines costs row.pile (IsCutShort sums.system lead.word lead.start) shorter
                (λ levels cut. length-shorter sums.system lead.word lead.start levels room cut)
                (least_shorter costs (shades_of sums) sums.system row.both lead room exact shorter shortest),
          )

  pub near-of : (longer shorter : ℕ) (near : Near) → IsCodeChosen lead longer shorter near → Other
      → (lead.word ≡ 0) ⊎ (IsLongerFound (shades_of sums) sums.system lead longer
      × IsShorterFound (shades_of sums) sums.system lead shorter) → IsNearOf IsThere sums.system slicing lines near
  near-of longer shorter near chosen (t, v, there, differs, cost) found = let s = shown longer shorter near chosen in
      let o = placed sums.system IsOne IsThere are t v there in
      let ends = beyond longer shorter near chosen found in
      record {
        nearest = record {
          place = s.place;
          exact = cost-of near.word near.start s.place ∙ (λ j. code_cost_by sums (s.start j) (s.word j)) ∙ is.exact
              ∙ sym s.distance;
          least = λ word at here. omega (
            arith,
            cost-of word at here,
            is.least at (number word) (looked sums.system IsOne IsThere are word at here),
            s.distance,
          );
          rival = λ word at here other. omega (
            arith,
            cost-of word at here,
            is.rival at (number word) (looked sums.system IsOne IsThere are word at here)
                (λ e. other (one-number sums.system IsOne IsThere are word near.word at near.start here s.place
                (e ∙ sym s.word))),
            s.rival,
          );
          other = (
            o.0,
            t,
            o.1,
            λ e. differs (sym o.2 ∙ ap number e ∙ s.word),
            cost-of o.0 t o.1 ∙ ap (code_cost_by sums t) o.2 ∙ cost ∙ sym s.rival,
          );
        };
        first = record {
          first = λ word at here same. precedes sums.system IsOne IsThere are near.word word near.start at lead.start
              lead.word s.place here s.start s.word
              (is.first at (number word) (looked sums.system IsOne IsThere are word at here)
              (sym (cost-of word at here) ∙ same ∙ s.distance));
        };
        longer = ends.0;
        shorter = ends.1;
      }

-- ---- of all words

-- the nearest word that was found, and none
module _ (sums : Sums) (found : Found) (is : IsFound (word_cost_by sums) 0 (starts sums.system) found) where
  blank : ℕ
  blank = span (shades_of sums) false 0 (width_of sums.system)

  cost-is : (s w : ℕ) → IsWord w → code_cost_by sums s w ≡ word_cost_by sums s w
  cost-is s w word = code-word (shades_of sums) sums.system s w word

  -- what may stand at a place costs as much as none, or as a word
  Costs : ℕ → ℕ → Type 0
  Costs s w = ((w ≡ 0) × (code_cost_by sums s w ≡ blank))
      ⊎ ((s < starts sums.system) × IsWord w × (code_cost_by sums s w ≡ word_cost_by sums s w))

  costs-are : (s w : ℕ) → all_of IsWord sums.system s w → Costs s w
  unfolding blank Costs
  costs-are s w (inl (e, none)) = inl (none, ap (code_cost_by sums s) none)
  costs-are s w (inr (l, word)) = inr (l, word, cost-is s w word)

  module _ (order : span (shades_of sums) false 0 (width_of sums.system) ≤ found.distance) where
    abbrev none-lead : Found
    none-lead = record {
      word = 0;
      start = 0;
      distance = span (shades_of sums) false 0 (width_of sums.system);
      rival = found.distance;
    }

    none-other : (s : ℕ) × (w : ℕ) × all_of IsWord sums.system s w × (w ≢ 0)
        × (code_cost_by sums s w ≡ found.distance)
    none-other = (
      found.start,
      found.word,
      inr (is.before, is.word),
      λ e. omega (arith, is.word, e),
      cost-is found.start found.word is.word ∙ is.exact,
    )

    none-leads : IsLead (code_cost_by sums) (all_of IsWord sums.system) none-lead
    unfolding blank Costs
    none-leads = record {
      there = inl (refl, refl);
      exact = refl;
      order = order;
      least = λ s w there. least s w (costs-are s w there);
      rival = λ s w there other. rival s w other (costs-are s w there);
      first = λ s w there same. grind arith;
      other = inr none-other;
    }
      where
        least : (s w : ℕ) → Costs s w → span (shades_of sums) false 0 (width_of sums.system) ≤ code_cost_by sums s w
        least s w (inl (none, e)) = omega (arith, e)
        least s w (inr (l, word, e)) = omega (arith, e, is.least s w (omega arith) l word, order)

        rival : (s w : ℕ) → w ≢ 0 → Costs s w → found.distance ≤ code_cost_by sums s w
        rival s w other (inl (none, e)) = absurd (other none)
        rival s w other (inr (l, word, e)) = omega (arith, e, is.least s w (omega arith) l word)

  module _ (order : found.distance < span (shades_of sums) false 0 (width_of sums.system)) where
    abbrev word-lead : Found
    word-lead = record found { rival = min found.rival (span (shades_of sums) false 0 (width_of sums.system)) }

    word-other : (s : ℕ) × (w : ℕ) × all_of IsWord sums.system s w × (w ≢ found.word)
        × (code_cost_by sums s w ≡ word-lead.rival)
    word-other = go (cases_lt (span (shades_of sums) false 0 (width_of sums.system)) found.rival) is.other
      where
        go : (span (shades_of sums) false 0 (width_of sums.system) < found.rival)
            ⊎ (found.rival ≤ span (shades_of sums) false 0 (width_of sums.system))
            → (s : ℕ) × (w : ℕ) × (0 ≤ s) × (s < starts sums.system) × IsWord w × (w ≢ found.word)
            × (word_cost_by sums s w ≡ found.rival)
            → (s : ℕ) × (w : ℕ) × all_of IsWord sums.system s w × (w ≢ found.word)
            × (code_cost_by sums s w ≡ word-lead.rival)
        go (inl less) other = (0, 0, inl (refl, refl), λ e. omega (arith, is.word, e), omega arith)
        go (inr le) (s, w, from, l, word, differs, e) =
            (s, w, inr (l, word), differs, omega (arith, cost-is s w word, e))

    word-leads : IsLead (code_cost_by sums) (all_of IsWord sums.system) word-lead
    unfolding blank Costs
    word-leads = record {
      there = inr (is.before, is.word);
      exact = cost-is found.start found.word is.word ∙ is.exact;
      order = let o = is.other in omega (arith, is.least o.0 o.1 o.2 o.3 o.4, o.6, order);
      least = λ s w there. least s w (costs-are s w there);
      rival = λ s w there other. rival s w other (costs-are s w there);
      first = λ s w there same. first s w same (costs-are s w there);
      other = inr word-other;
    }
      where
        least : (s w : ℕ) → Costs s w → found.distance ≤ code_cost_by sums s w
        least s w (inl (none, e)) = omega (arith, e, order)
        least s w (inr (l, word, e)) = omega (arith, e, is.least s w (omega arith) l word)

        rival : (s w : ℕ) → w ≢ found.word → Costs s w → word-lead.rival ≤ code_cost_by sums s w
        rival s w other (inl (none, e)) = omega (arith, e)
        rival s w other (inr (l, word, e)) = omega (arith, e, is.rival s w (omega arith) l word other)

        first : (s w : ℕ) → code_cost_by sums s w ≡ found.distance → Costs s w
            → IsBefore found.start found.word s w
        first s w same (inl (none, e)) = absurd (omega (arith, e, order, same))
        first s w same (inr (l, word, e)) = is.first s w (omega arith) l word (sym e ∙ same)

pub near-word : (sums : Sums) (found : Found) → IsFound (word_cost_by sums) 0 (starts sums.system) found
    → (longer shorter blank : ℕ) (near : Near) → blank ≡ span (shades_of sums) false 0 (width_of sums.system)
    → IsChosen found longer shorter blank near
    → IsLongerFound (shades_of sums) sums.system found longer → IsShorterFound (shades_of sums) sums.system found
    shorter
    → (slicing : Slicing) (lines : List Samples) (costs : Shades) → IsRowOf sums slicing lines costs
    → IsNearWord sums.system slicing lines near
near-word sums found is longer shorter blank near value chosen longest shortest slicing lines costs row =
    go (subst (λ (x : ℕ). IsChosen found longer shorter x near) value chosen)
  where
    go : IsChosen found longer shorter (span (shades_of sums) false 0 (width_of sums.system)) near
        → IsNearWord sums.system slicing lines near
    go (inl (order, e)) =
        near-of sums slicing lines costs row IsWord (IsPlace sums.system) (word-places sums.system)
        (none-lead sums found is order) (none-leads sums found is order) longer shorter near (inl (refl, e))
        (none-other sums found is order) (inl refl)
    go (inr (order, e)) =
        near-of sums slicing lines costs row IsWord (IsPlace sums.system) (word-places sums.system)
        (word-lead sums found is order) (word-leads sums found is order) longer shorter near
        (inr (omega (arith, is.word), e)) (word-other sums found is order)
        (inr (record { least = longest.least; one = longest.one }, shortest))

pub start-few : (system : System) (found : Found) → found.start < starts system → (longer shorter blank : ℕ)
    (near : Near) → IsChosen found longer shorter blank near → near.start < 285
start-few system found before longer shorter blank near chosen = grind (arith, starts-few)

-- ---- of the codes that may stand on a line

pub near-code : (sums : Sums) (line : ℕ) (lead : Found)
    → IsLead (code_cost_by sums) (all_codes (codes_of sums.system line) sums.system) lead → IsClose lead
    → (longer shorter : ℕ) (near : Near) → IsCodeChosen lead longer shorter near
    → (lead.word ≡ 0) ⊎ (IsLongerFound (shades_of sums) sums.system lead longer
    × IsShorterFound (shades_of sums) sums.system lead shorter)
    → (slicing : Slicing) (lines : List Samples) (costs : Shades) → IsRowOf sums slicing lines costs
    → IsNearCode sums.system line slicing lines near
near-code sums line lead is close longer shorter near chosen found slicing lines costs row = go is.other
  where
    ranges : List Range
    ranges = codes_of sums.system line

    go : (2 ^ 31 ≤ lead.rival) ⊎ ((s : ℕ) × (w : ℕ) × all_codes ranges sums.system s w × (w ≢ lead.word)
        × (code_cost_by sums s w ≡ lead.rival)) → IsNearCode sums.system line slicing lines near
    go (inl wide) = absurd (omega (arith, close))
    go (inr other) =
        near-of sums slicing lines costs row (IsOneOf ranges) (IsCodePlace ranges sums.system)
        (code-places ranges sums.system) lead is longer shorter near chosen other found
