-- A drawn row shows its word.
use Rattle.vbi_words.proofs.Common.{◌≡◌, ℕ, suc, ◌≤◌, ◌<◌, ◌+◌, ◌-◌, ◌*◌, Bool, true, false, List, [], ◌∷◌, ◌++◌, ◌⊎◌}
use Rattle.vbi_words.proofs.Common.{inl, inr, get_or, drop, refl, sym, ap, subst, ◌∙◌, arith, add-zero, append_assoc}
use Rattle.vbi_words.proofs.Common.{replicate, append-nil, drop_all, lt-ltb, flat_map, System, Ntsc, Pal, width_of}
use Rattle.vbi_words.proofs.Common.{half_min, half_max, Slicing, levels_of, IsWord, halves_of, cell_of, Shows, Spells}
use Rattle.vbi_words.proofs.Common.{ShowsAmply, AllLow, boundary, IsDrawnHigh, IsDrawnRow, length, Some, None}
use Rattle.std.proofs.lemmas.List.{get_or-map, length-map}
use Rattle.std.proofs.lemmas.List.Elements.{All-from_get_or}
use Rattle.std.proofs.lemmas.Bool.{le-ltb}
use Rattle.vbi_words.specs.Levels.{is_high_of}
use Rattle.vbi_words.specs.Words.{lowest_bits}
use Rattle.vbi_words.specs.Drawn.{drawn_row_of}
use Rattle.vbi_words.proofs.Bits.{length-lowest_bits}
use Rattle.vbi_words.proofs.DrawnSamples.{is_drawn_row}
use Rattle.vbi_words.proofs.Runs.{equal_from}

-- ---- the boundaries

-- with two columns to spare
gaps_of : (system : System) (j : ℕ) → (half_min system + 2 + boundary system j ≤ boundary system (j + 1))
    × (boundary system (j + 1) ≤ boundary system j + (half_max system - 2))
gaps_of Ntsc j = omega arith
gaps_of Pal j = omega arith

ordered : (system : System) (i j : ℕ) → i ≤ j → boundary system i ≤ boundary system j
ordered Ntsc i j l = omega arith
ordered Pal i j l = omega arith

ends_inside : (system : System) (j : ℕ) → j ≤ 48 → boundary system j ≤ width_of system
ends_inside Ntsc j l = omega arith
ends_inside Pal j l = omega arith

length-halves : (bits : List Bool) → length (flat_map cell_of bits) ≡ 2 * length bits
length-halves [] = refl
length-halves (true ∷ bits) = omega (arith, length-halves bits)
length-halves (false ∷ bits) = omega (arith, length-halves bits)

-- halves are also spelled within wider limits
spells_wider : (lo hi least greatest : ℕ) → least ≤ lo → hi ≤ greatest → (halves drawn : List Bool)
    → Spells lo hi halves drawn → Spells least greatest halves drawn
spells_wider lo hi least greatest less more [] drawn e = e
spells_wider lo hi least greatest less more (h ∷ halves) drawn (n, rest, low, high, e, spelled) =
    (n, rest, omega arith, omega arith, e, spells_wider lo hi least greatest less more halves rest spelled)

-- ---- levels from boundary to boundary

module _ (system : System) (s : List Bool) (after : ℕ) (long : length s ≡ width_of system)
    (behind : drop (boundary system 48) s ≡ replicate after false) where
  -- the column at which a half cell begins
  abbrev begin : ℕ → ℕ
  begin j = boundary system j

  -- from half cell j on, the columns of each half cell have its level
  abbrev HasHalves : List Bool → ℕ → Type 0
  HasHalves halves j = (i : ℕ) → i < length halves → (k : ℕ) → begin (j + i) ≤ k → k < begin (j + i + 1)
      → get_or s k false ≡ get_or halves i false

  first_half : (h : Bool) (halves : List Bool) (j : ℕ) → HasHalves (h ∷ halves) j
      → (k : ℕ) → begin j ≤ k → k < begin (j + 1) → get_or s k false ≡ h
  first_half h halves j each k low high =
      let e : j ≡ j + 0 = sym (add-zero j) in
      each 0 (omega arith) k (subst (λ (m : ℕ). begin m ≤ k) e low) (subst (λ (m : ℕ). k < begin (m + 1)) e high)

  later_halves : (h : Bool) (halves : List Bool) (j : ℕ) → HasHalves (h ∷ halves) j → HasHalves halves (j + 1)
  later_halves h halves j each i l k low high =
      let e : j + 1 + i ≡ j + suc i = omega arith in
      each (suc i) (omega arith) k
      (subst (λ (m : ℕ). begin m ≤ k) e low) (subst (λ (m : ℕ). k < begin (m + 1)) e high)

  spelled : (halves : List Bool) (j : ℕ) → j + length halves ≡ 48 → HasHalves halves j
      → (drawn : List Bool) × Spells (half_min system + 2) (half_max system - 2) halves drawn
      × (drop (begin j) s ≡ drawn ++ replicate after false)
  spelled [] j e each = ([], refl, ap (λ (k : ℕ). drop (begin k) s) (sym (add-zero j) ∙ e) ∙ behind)
  spelled (h ∷ halves) j e each =
      let n : ℕ = begin (j + 1) - begin j in
      let gap = gaps_of system j in
      let whole : begin j + n ≡ begin (j + 1) = omega arith in
      let inside : begin (j + 1) ≤ width_of system = ends_inside system (j + 1) (omega arith) in
      let run : drop (begin j) s ≡ replicate n h ++ drop (begin j + n) s
      = equal_from s (begin j) n h (omega (arith, long))
      (λ k l. first_half h halves j each (begin j + k) (omega arith) (omega arith)) in
      let rest = spelled halves (j + 1) (omega arith) (later_halves h halves j each) in (
        replicate n h ++ rest.0,
        (n, rest.0, omega arith, omega arith, refl, rest.1),
        run ∙ ap (λ (k : ℕ). replicate n h ++ drop k s) whole ∙ ap (λ (t : List Bool). replicate n h ++ t) rest.2
            ∙ sym (append_assoc (replicate n h) rest.0 (replicate after false)),
      )

-- ---- the levels of a drawn row

module _ (system : System) (slicing : Slicing) (word : ℕ) (order : slicing.black < slicing.white) (samples : List ℕ)
    (row : IsDrawnRow system slicing (Some word) samples) where
  -- the row's levels
  abbrev levels : List Bool
  levels = levels_of slicing samples

  -- the column at which a half cell begins
  abbrev edge : ℕ → ℕ
  edge j = boundary system j

  -- the level of a half cell
  abbrev half : ℕ → Bool
  half j = get_or (halves_of word) j false

  same_length : length levels ≡ width_of system
  same_length = length-map samples (is_high_of slicing) ∙ row.whole

  level_is : (c : ℕ) → c < width_of system → get_or levels c false ≡ is_high_of slicing (get_or samples c 0)
  level_is c l = get_or-map (is_high_of slicing) samples c 0 false (omega (arith, row.whole))

  high_there : (c : ℕ) → c < width_of system → IsDrawnHigh system word c → get_or levels c false ≡ true
  high_there c l d = grind (arith, level_is, lt-ltb)

  low_there : (c : ℕ) → c < width_of system → (IsDrawnHigh system word c → ⊥) → get_or levels c false ≡ false
  low_there c l d = grind (arith, level_is, le-ltb)

  -- a column lies in one half cell alone
  one_half : (i j c : ℕ) → edge i ≤ c → c < edge (i + 1) → edge j ≤ c → c < edge (j + 1) → i ≡ j
  one_half i j c low high low' high' = grind arith

  in_half : (j c : ℕ) → j < 48 → edge j ≤ c → c < edge (j + 1) → (h : Bool) → half j ≡ h → get_or levels c false ≡ h
  in_half j c l low high true e = grind (arith, high_there, ends_inside)
  in_half j c l low high false e = grind (arith, low_there, ends_inside, one_half)

  -- no half cell is before the first boundary, or after the last
  outside : (c : ℕ) → c < width_of system → (c < edge 0) ⊎ (edge 48 ≤ c) → get_or levels c false ≡ false
  outside c l (inl before) = grind (arith, low_there, ordered)
  outside c l (inr behind) = grind (arith, low_there, ordered)

  -- the lows before the word
  front : levels ≡ replicate (edge 0) false ++ drop (edge 0) levels
  front =
      let fits : edge 0 ≤ width_of system = ends_inside system 0 (omega arith) in
      let none : 0 + edge 0 ≡ edge 0 = omega arith in
      equal_from levels 0 (edge 0) false (omega (arith, same_length))
      (λ k l. let e : 0 + k ≡ k = omega arith in
      ap (λ (i : ℕ). get_or levels i false) e ∙ outside k (omega arith) (inl l))
      ∙ ap (λ (i : ℕ). replicate (edge 0) false ++ drop i levels) none

  -- how many columns are left after the word
  abbrev left : ℕ
  left = width_of system - edge 48

  -- the lows after it
  back : drop (edge 48) levels ≡ replicate left false
  back =
      let fits : edge 48 ≤ width_of system = ends_inside system 48 (omega arith) in
      let all : length levels ≤ edge 48 + left = omega (arith, same_length) in
      equal_from levels (edge 48) left false (omega (arith, same_length))
      (λ k l. outside (edge 48 + k) (omega arith) (inr (omega arith)))
      ∙ ap (λ (t : List Bool). replicate left false ++ t) (drop_all (edge 48 + left) levels all)
      ∙ append-nil (replicate left false)

  many_halves : length (halves_of word) ≡ 48
  many_halves = omega (arith, length-halves (lowest_bits 24 word), length-lowest_bits 24 word)

  has_halves : HasHalves system levels left same_length back (halves_of word) 0
  has_halves i l k low high = grind (arith, in_half, many_halves)

  some_left : (system : System) → 5 ≤ width_of system - boundary system 48
  some_left Ntsc = omega arith
  some_left Pal = omega arith

  -- there are two columns to spare in each half cell
  drawn_amply : IsWord word → ShowsAmply system levels word
  drawn_amply is_word =
      let d = spelled system levels left same_length back (halves_of word) 0 (omega (arith, many_halves)) has_halves in
      record {
        cut = record {
          is_word = is_word;
          before = edge 0;
          drawn = d.0;
          after = left;
          spelled = spells_wider (half_min system + 2) (half_max system - 2) (half_min system) (half_max system)
              (omega arith) (omega arith) (halves_of word) d.0 d.1;
          whole = front ∙ ap (λ (t : List Bool). replicate (edge 0) false ++ t) d.2;
        };
        lows = some_left system;
        spelled = d.1;
      }

-- the drawn row of no word has no high level
module _ (system : System) (slicing : Slicing) (order : slicing.black < slicing.white) (samples : List ℕ)
    (row : IsDrawnRow system slicing None samples) where
  none_low : AllLow (levels_of slicing samples)
  none_low = All-from_get_or (λ level. level ≡ false) (levels_of slicing samples) false low
    where
      low : (i : ℕ) → i < length (levels_of slicing samples) → get_or (levels_of slicing samples) i false ≡ false
      low i l =
          let here : i < length samples = omega (arith, l, length-map samples (is_high_of slicing)) in
          get_or-map (is_high_of slicing) samples i 0 false here
          ∙ ap (is_high_of slicing) (row.each i (omega (arith, row.whole)))
          ∙ le-ltb (slicing.black + slicing.white) (2 * slicing.black) (omega arith)

-- ---- the drawn row itself

pub row_amply : (system : System) (slicing : Slicing) (word : ℕ) → slicing.black < slicing.white → IsWord word
    → ShowsAmply system (levels_of slicing (drawn_row_of system slicing (Some word))) word
row_amply system slicing word order is_word = grind (arith, drawn_amply, is_drawn_row)

pub row_shows : (system : System) (slicing : Slicing) (word : ℕ) → slicing.black < slicing.white → IsWord word
    → Shows system (levels_of slicing (drawn_row_of system slicing (Some word))) word
row_shows system slicing word order is_word = (row_amply system slicing word order is_word).cut

pub row_low : (system : System) (slicing : Slicing) → slicing.black < slicing.white
    → AllLow (levels_of slicing (drawn_row_of system slicing None))
row_low system slicing order =
    none_low system slicing order (drawn_row_of system slicing None) (is_drawn_row system slicing None)
