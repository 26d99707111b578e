-- A row that is blurred at its changes of level, without its columns that stand alone.
use Rattle.vbi_words.proofs.Common.{◌≡◌, ◌≤◌, ◌+◌, ◌-◌, Bool, false, List, ◌++◌, drop, sym, ap, ◌∙◌, arith, ℕ, refl}
use Rattle.vbi_words.proofs.Common.{replicate, flat_map, System, Ntsc, Pal, half_min, half_max, IsWord, halves_of}
use Rattle.vbi_words.proofs.Common.{cell_of, Shows, ShowsAmply, IsBlurred, NoneAlone, length}
use Rattle.std.proofs.lemmas.List.{length-append}
use Rattle.vbi_words.specs.Smooth.{smooth_of}
use Rattle.vbi_words.proofs.HalfCells.{first, whole_goes}
use Rattle.vbi_words.proofs.Smoothing.{smooth_window}
use Rattle.vbi_words.proofs.SmoothKeeps.{steady_same}
use Rattle.vbi_words.proofs.Shown.{word_bits}

-- a word's first half cell is low
pub begins_low : (word : ℕ) → IsWord word → first (halves_of word) ≡ false
begins_low word is_word =
    let begun = (word_bits word is_word).1 in
    ap (λ (bits : List Bool). first (flat_map cell_of bits)) begun.1

-- the row without its turned columns
pub record Mended (system : System) (levels : List Bool) (word : ℕ) : Type 0 where
  pub mended : List Bool
  pub shows : Shows system mended word
  pub three : 3 ≤ shows.after
  pub long : length levels ≡ length mended
  pub alike : smooth_of levels ≡ smooth_of mended
  pub same : NoneAlone levels → levels ≡ mended

pub mend : (system : System) (drawn levels : List Bool) (word : ℕ) → ShowsAmply system drawn word
    → IsBlurred drawn levels → Mended system levels word
mend system drawn levels word s blurred =
    let sizes = sizes_fit system in
    let before : ℕ = s.cut.before in
    let r = whole_goes drawn levels blurred (half_min system + 2) (half_max system - 2)
    (half_min system) (half_max system) sizes.0 (omega arith) sizes.1 (halves_of word) s.cut.drawn before s.cut.after
    s.lows (begins_low word s.cut.is_word) s.spelled s.cut.whole in
    let x = r.0 in
    let rest : List Bool = x.drawn ++ replicate x.after false in
    record {
      mended = replicate before false ++ rest;
      shows = record {
        is_word = s.cut.is_word;
        before = before;
        drawn = x.drawn;
        after = x.after;
        spelled = x.spelled;
        whole = refl;
      };
      three = x.three;
      long = ap length r.1 ∙ length-append (replicate before false) (drop before levels)
          ∙ ap (λ (i : ℕ). length (replicate before false) + i) x.long
          ∙ sym (length-append (replicate before false) rest);
      alike = ap smooth_of r.1 ∙ smooth_window (replicate before false ++ drop before levels)
          ∙ steady_same false before (drop before levels)
          ∙ ap (λ (t : List Bool). replicate before false ++ t) (x.alike false)
          ∙ sym (steady_same false before rest) ∙ sym (smooth_window (replicate before false ++ rest));
      same = λ none. r.1 ∙ ap (λ (t : List Bool). replicate before false ++ t) (x.whole none);
    }
  where
    sizes_fit : (system : System) → (6 ≤ half_min system + 2) × (half_max system - 2 + 2 ≤ half_max system)
    sizes_fit Ntsc = (omega arith, omega arith)
    sizes_fit Pal = (omega arith, omega arith)
