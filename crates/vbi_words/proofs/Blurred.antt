-- A row whose samples beside each change of level lie on either side is read as its word.
use Rattle.vbi_words.proofs.Common.{◌≡◌, ℕ, suc, zero, ◌≤◌, ◌<◌, ◌+◌, ◌-◌, Bool, false, List, [], ◌∷◌, ◌⊎◌, inl, inr}
use Rattle.vbi_words.proofs.Common.{get_or, refl, sym, ap, subst, ◌∙◌, arith, cases_lt, System, Ntsc, Pal, Outcome}
use Rattle.vbi_words.proofs.Common.{Word, Blank, Unfinished, Change, Hold, ShowsAmply, IsBlurred, ReadsWord}
use Rattle.vbi_words.proofs.Common.{HasGlitches, differs, differences, least_distance, AllLow, IsOutcome, level_at}
use Rattle.vbi_words.proofs.Common.{IsReading, Shows, ShowsNone, length}
use Rattle.vbi_words.specs.Smooth.{smooth_of}
use Rattle.vbi_words.proofs.Apart.{same_word}
use Rattle.vbi_words.proofs.Found.{found}
use Rattle.vbi_words.proofs.Lows.{low_smooth_none}
use Rattle.vbi_words.proofs.Mended.{Mended, mend}
use Rattle.vbi_words.proofs.NotAlone.{shown_not_alone}
use Rattle.vbi_words.proofs.SmoothShown.{smooth_shows, shown_alike, smooth_same, turned_none, turned_high}

one_at_most : (a b : Bool) → differs a b ≤ 1
one_at_most a b = grind arith

none_of_same : (a b : Bool) → a ≡ b → differs a b ≡ 0
none_of_same a b e = grind arith

few_of_short : (x y : List Bool) → differences x y ≤ length x
few_of_short [] y = omega arith
few_of_short (a ∷ x) [] = omega arith
few_of_short (a ∷ x) (b ∷ y) = omega (arith, one_at_most a b, few_of_short x y)

-- lists that are alike but for their last three columns differ in three at most
end_alike : (x y : List Bool) → length x ≡ length y
    → ((c : ℕ) → c + 3 < length x → get_or x c false ≡ get_or y c false) → differences x y ≤ 3
end_alike [] y long same = omega arith
end_alike (a ∷ x) [] long same = omega arith
end_alike (a ∷ x) (b ∷ y) long same =
    go (cases_lt 2 (length x))
    (λ more. end_alike x y (omega (arith, long)) (λ c inside. same (suc c) (omega (arith, inside))))
  where
    go : (2 < length x) ⊎ (length x ≤ 2) → (2 < length x → differences x y ≤ 3) → differences (a ∷ x) (b ∷ y) ≤ 3
    go (inl more) rest = omega (arith, rest more, none_of_same a b (same 0 (omega arith)))
    go (inr less) rest = omega (arith, few_of_short (a ∷ x) (b ∷ y))

least_four : (system : System) → 4 ≤ least_distance system
least_four Ntsc = omega arith
least_four Pal = omega arith

-- the smoothed levels of a blurred row show its word
blurred_smooth : (system : System) (drawn levels : List Bool) (word : ℕ) → ShowsAmply system drawn word
    → IsBlurred drawn levels → Shows system (smooth_of levels) word
blurred_smooth system drawn levels word s blurred =
    let m : Mended system levels word = mend system drawn levels word s blurred in
    subst (λ (t : List Bool). Shows system t word) (sym m.alike) (smooth_shows system m.mended word m.shows m.three)

pub blurred_reads : (system : System) (drawn levels : List Bool) (word : ℕ) → ShowsAmply system drawn word
    → IsBlurred drawn levels → ReadsWord system levels word
blurred_reads system drawn levels word s blurred = go f.0 f.1
  where
    m : Mended system levels word
    m = mend system drawn levels word s blurred

    f : (o : Outcome) × IsOutcome system levels o
    f = found system levels

    smooth : Shows system (smooth_of levels) word
    smooth = blurred_smooth system drawn levels word s blurred

    second : ShowsNone system levels → (AllLow levels → ⊥) → ReadsWord system levels word
    second none high = record {
      pass = 2;
      reading = inr (refl, none, high, smooth);
      first = (
        λ e. let bad : ⊥ = omega (arith, e) in absurd bad,
        λ none_alone. absurd (none word
            (subst (λ (t : List Bool). Shows system t word) (sym (m.same none_alone)) m.shows)),
      );
    }

    -- the word of the levels themselves is this one
    first : (u : ℕ) → Shows system levels u → ReadsWord system levels word
    first u t =
        let near : differences levels m.mended ≤ 3
        = end_alike levels m.mended m.long
        (λ c inside. shown_alike system levels m.mended u word t m.shows m.alike c inside) in
        let same : u ≡ word = same_word system levels m.mended u word t m.shows m.long
        (omega (arith, near, least_four system)) in
        let shown : Shows system levels word = subst (Shows system levels) same t in
        record {
          pass = 1;
          reading = inl (refl, shown);
          first = (λ e. shown_not_alone system levels word shown, λ none_alone. refl);
        }

    never_low : AllLow levels → ⊥
    never_low low = low_smooth_none system levels low word smooth

    go : (o : Outcome) → IsOutcome system levels o → ReadsWord system levels word
    go (Word u) t = first u t
    go Blank (none, low) = absurd (never_low low)
    go Unfinished (none, high, rest) = second none high
    go (Change c) (none, high, rest, more) = second none high
    go (Hold c) (none, high, rest, more) = second none high

-- ---- glitches

glitches_same : (n : ℕ) (levels turned : List Bool) → HasGlitches n levels turned
    → smooth_of turned ≡ smooth_of levels
glitches_same zero levels turned e = ap smooth_of e
glitches_same (suc n) levels turned (before, earlier, x) =
    smooth_same before turned x ∙ glitches_same n levels before earlier

pub glitches_read : (system : System) (drawn blurred levels : List Bool) (word n : ℕ) → ShowsAmply system drawn word
    → IsBlurred drawn blurred → HasGlitches (suc n) blurred levels
    → IsReading system levels (record { outcome = Word word; pass = 2 })
glitches_read system drawn blurred levels word n s is_blurred (before, earlier, x) =
    let same : smooth_of levels ≡ smooth_of blurred = glitches_same (suc n) blurred levels (before, earlier, x) in
    let shown : Shows system (smooth_of levels) word
    = subst (λ (t : List Bool). Shows system t word) (sym same)
    (blurred_smooth system drawn blurred word s is_blurred) in
    inr (refl, turned_none before levels x system, turned_high before levels x, shown)

-- five columns from each drawn change, the blurred levels are those drawn up to four columns around
pub away : (drawn levels : List Bool) (g m c : ℕ) → IsBlurred drawn levels → 5 ≤ g
    → ((b : ℕ) → g ≤ b + 5 → b < g + m + 5 → level_at drawn b ≡ level_at drawn g)
    → g ≤ c + 4 → c < g + m + 4 → level_at levels c ≡ level_at levels g
away drawn levels g m c blurred five equal low high =
    as_drawn c low high ∙ sym (as_drawn g (omega arith) (omega arith))
  where
    as_drawn : (b : ℕ) → g ≤ b + 4 → b < g + m + 4 → level_at levels b ≡ level_at drawn g
    as_drawn b from to =
        let here : level_at drawn b ≡ level_at drawn g = equal b (omega arith) (omega arith) in
        blurred.others b (equal (b - 1) (omega arith) (omega arith) ∙ sym here)
        (equal (b + 1) (omega arith) (omega arith) ∙ sym here) ∙ here
