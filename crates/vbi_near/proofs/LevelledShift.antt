-- A line at another level: what it is levelled to stays.
-- same_at_any_level stands on it.
use Rattle.std.proofs.Common.{◌≡◌, ℕ, suc, zero, ◌≤◌, ◌<◌, ◌+◌, ◌*◌, ◌/◌, List, [], ◌∷◌, length, get_or, map, arith, ap}
use Rattle.std.proofs.Common.{◌∙◌, refl}
use Rattle.std.specs.{List.sum, List.range_with_len, Int.abs_diff}
use Rattle.std.proofs.lemmas.List.{take-map, drop-map, get_or-map, length-take-le, length-drop}
use Rattle.std.proofs.lemmas.{Bool.le-leb, Bool.lt-leb, List.Sums.sum_by-cons}
use Rattle.vbi_near.proofs.{Common.System, Common.width_of, Levelling.window_inside}
use Rattle.vbi_near.specs.LevelledLines.{window_of, first_of, columns_of, window_sum, sum_from, off_mean, off_in}
use Rattle.vbi_near.specs.LevelledLines.{swing_of, levelled_sample, levelled_at, levelled_each, smoothed, levelled}
use Rattle.vbi_near.specs.WorkedLevels.{raised}

-- ---- sums and samples

sum-raised : (d : ℕ) (samples : List ℕ) → sum (raised d samples) ≡ sum samples + length samples * d
sum-raised d [] = omega arith
sum-raised d (s ∷ samples) = omega (arith, sum-raised d samples, sum_by-cons)

part-raised : (d : ℕ) (samples : List ℕ) (i n : ℕ) → i + n ≤ length samples
    → sum_from (raised d samples) i n ≡ sum_from samples i n + n * d
part-raised d samples i n inside = grind (arith, length-take-le, length-drop, drop-map, take-map, sum-raised)

window-raised : (system : System) (d : ℕ) (samples : List ℕ) (column : ℕ) → length samples ≡ width_of system
    → window_sum system (raised d samples) column ≡ window_sum system samples column + window_of system * d
window-raised system d samples column long = grind (arith, part-raised, window_inside)

own-raised : (system : System) (d : ℕ) (samples : List ℕ) (column : ℕ) → column < length samples
    → window_of system * get_or (raised d samples) column 0
    ≡ window_of system * get_or samples column 0 + window_of system * d
own-raised system d samples column inside = grind (arith, get_or, get_or-map)

-- ---- the swing

off-raised : (a b c d e : ℕ) → c ≡ a + e → d ≡ b + e → abs_diff c d ≡ abs_diff a b
off-raised a b c d e p q = omega arith

-- two functions that are the same in some columns
map-same : (f g : ℕ → ℕ) (a n : ℕ) → ((k : ℕ) → a ≤ k → k < a + n → f k ≡ g k)
    → map f (range_with_len a n) ≡ map g (range_with_len a n)
map-same f g a zero same = refl
map-same f g a (suc n) same = grind (arith, map-same f g (a + 1) n (λ k low high. same k (omega arith) (omega arith)))

columns-inside : (system : System) → first_of system + columns_of system ≤ width_of system
columns-inside system = grind arith

pub swing-raised : (system : System) (d : ℕ) (samples : List ℕ) → length samples ≡ width_of system
    → swing_of system (raised d samples) ≡ swing_of system samples
unfolding swing_of
swing-raised system d samples long =
    let n = columns_of system in
    let same : off_in system (raised d samples) n ≡ off_in system samples n
    = ap (λ (l : List ℕ). sum l)
    (map-same (off_mean system (raised d samples)) (off_mean system samples) (first_of system) n (λ k low high.
    off-raised (window_of system * get_or samples k 0) (window_sum system samples k)
    (window_of system * get_or (raised d samples) k 0) (window_sum system (raised d samples) k)
    (window_of system * d) (own-raised system d samples k (omega (arith, long, columns-inside system)))
    (window-raised system d samples k long))) in
    ap (λ (k : ℕ). 2 * k / (window_of system * n)) same

-- ---- the levelled samples

sample-raised : (scale own mean e : ℕ) → levelled_sample scale (own + e) (mean + e) ≡ levelled_sample scale own mean
unfolding levelled_sample
sample-raised scale own mean e = grind (arith, lt-leb, le-leb)

at-raised : (system : System) (scale d : ℕ) (samples : List ℕ) (column : ℕ)
    → length samples ≡ width_of system → column < width_of system
    → levelled_at system scale (raised d samples) column ≡ levelled_at system scale samples column
at-raised system scale d samples column long inside = grind (arith, own-raised, sample-raised, window-raised)

-- a line at another level is levelled to the same samples
each-raised : (system : System) (d : ℕ) (samples : List ℕ) → length samples ≡ width_of system
    → levelled_each system (raised d samples) ≡ levelled_each system samples
unfolding levelled_each
each-raised system d samples long =
    let swing : window_of system * swing_of system (raised d samples) ≡ window_of system * swing_of system samples
    = ap (λ (k : ℕ). window_of system * k) (swing-raised system d samples long) in
    let scale = window_of system * swing_of system samples in
    ap (λ (k : ℕ). map (levelled_at system k (raised d samples)) (range_with_len 0 (width_of system))) swing
    ∙ map-same (levelled_at system scale (raised d samples)) (levelled_at system scale samples) 0
    (width_of system) (λ k low high. at-raised system scale d samples k long (omega arith))

pub levelled-raised : (system : System) (d : ℕ) (samples : List ℕ) → length samples ≡ width_of system
    → levelled system (raised d samples) ≡ levelled system samples
levelled-raised system d samples long = ap (λ (each : List ℕ). smoothed each) (each-raised system d samples long)
