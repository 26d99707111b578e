-- A list of lows alone: smoothed it is as it was, shows no word, and is read as blank.
use Rattle.vbi_words.proofs.Common.{◌≡◌, ℕ, Bool, false, List, [], ◌∷◌, ◌++◌, refl, sym, ap, subst, ◌∙◌, replicate}
use Rattle.vbi_words.proofs.Common.{append-nil, recursion_from_All, AllByRecursion, System, Blank, AllLow, IsOutcome}
use Rattle.vbi_words.proofs.Common.{IsReading, Shows, ShowsNone, length}
use Rattle.vbi_words.specs.Smooth.{smooth_of}
use Rattle.vbi_words.proofs.Cutting
use Rattle.vbi_words.proofs.Shown.{word_bits, draws_from_shows}
use Rattle.vbi_words.proofs.Sizes.{sizes_of, apart_of}
use Rattle.vbi_words.proofs.Smoothing.{window, smooth_window}
use Rattle.vbi_words.proofs.SmoothKeeps.{steady_same}

low_none : (system : System) (n w : ℕ) → Shows system (replicate n false) w → ⊥
low_none system n w s =
    let a = word_bits w s.is_word in
    Cutting.lead_not_alone (apart_of system) a.1.0 n
    (subst (λ (bits : List Bool). Cutting.Draws (sizes_of system) bits (replicate n false)) a.1.1
    (draws_from_shows system (replicate n false) w s))

lows_of : (levels : List Bool) → AllByRecursion (λ l. l ≡ false) levels → levels ≡ replicate (length levels) false
lows_of [] all = refl
lows_of (x ∷ levels) (e, all) =
    ap (λ (b : Bool). b ∷ levels) e ∙ ap (λ (t : List Bool). false ∷ t) (lows_of levels all)

smooth_lows : (n : ℕ) → smooth_of (replicate n false) ≡ replicate n false
unfolding window
smooth_lows n = ap smooth_of (sym (append-nil (replicate n false))) ∙ smooth_window (replicate n false ++ [])
    ∙ steady_same false n [] ∙ append-nil (replicate n false)

pub low_smooth_none : (system : System) (levels : List Bool) → AllLow levels → ShowsNone system (smooth_of levels)
low_smooth_none system levels low w s =
    let e : levels ≡ replicate (length levels) false = lows_of levels (recursion_from_All _ levels low) in
    low_none system (length levels) w (subst (λ (t : List Bool). Shows system t w)
    (ap smooth_of e ∙ smooth_lows (length levels)) s)

-- so a blank list is read as blank
pub blank_reads : (system : System) (levels : List Bool) → IsOutcome system levels Blank
    → IsReading system levels (record { outcome = Blank; pass = 0 })
blank_reads system levels is = (refl, is, low_smooth_none system levels is.1)
