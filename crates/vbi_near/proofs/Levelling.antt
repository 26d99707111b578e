-- Levelled lines: sums of samples, and lines that are written sample by sample.
-- The functions of levelled_lines stand on it, and LevelledShift.
use Rattle.std.proofs.Common.{◌≡◌, ℕ, suc, zero, ◌≤◌, ◌<◌, ◌+◌, ◌-◌, ◌*◌, ◌/◌, List, [], ◌∷◌, Bool, true, false, cond}
use Rattle.std.proofs.Common.{length, ◌⊎◌, inl, inr, get_or, set, take, drop, arith, ap, sym, ◌∙◌, refl}
use Rattle.std.proofs.Common.{get_or-set_same, get_or-set_other}
use Rattle.std.specs.{List.sum, Prelude.nat_le, Prelude.min}
use Rattle.std.proofs.lemmas.{Bool.cases_lt, Bool.le-leb, Bool.lt-leb, List.ext_get_or, List.take-take, List.drop-take}
use Rattle.std.proofs.lemmas.{List.FromFn.sum_by-map-range_with_len_more}
use Rattle.std.proofs.lemmas.{List.Sums.sum_by-take-drop, List.Sums.sum_by_more}
use Rattle.vbi_near.proofs.Common.{System, width_of, Slicing, samples_of, sample_at}
use Rattle.vbi_near.proofs.Inverse.{quotient-above, quotient-below}
use Rattle.vbi_line.proofs.Slicing.{sample_of, length-samples_of}
use Rattle.vbi_near.specs.LevelledLines.{window_of, first_of, end_of, window_start, window_sum, sum_from, off_mean}
use Rattle.vbi_near.specs.LevelledLines.{off_in, middle_of, levelled_unit, levelled_sample, filled, AreSampleSums}
use Rattle.vbi_near.specs.LevelledLines.{smoothed_sample, smoothed_after, smoothed}

-- ---- sums of samples

-- the sums up to a column
abbrev pub SumsTo : List ℕ → List ℕ → ℕ → Type 0
SumsTo samples sums i = (k : ℕ) → k ≤ i → get_or sums k 0 ≡ sum (take k samples)

-- one sum more
pub sums_more : (samples sums : List ℕ) (i v : ℕ) → i < length samples → i + 1 < length sums
    → v ≡ get_or sums i 0 + get_or samples i 0 → SumsTo samples sums i → SumsTo samples (set sums (i + 1) v) (i + 1)
sums_more samples sums i v inside room is before k le = grind (arith, get_or-set_other, get_or-set_same, sum_by_more)

-- what stands before a column and the next ones sum up to what stands before the last of them
sum-split : (samples : List ℕ) (i n : ℕ)
    → sum (take i samples) + sum_from samples i n ≡ sum (take (i + n) samples)
sum-split samples i n =
    let all = take (i + n) samples in
    let front : sum (take i all) ≡ sum (take i samples)
    = ap (λ (l : List ℕ). sum l) (take-take i (i + n) samples (omega arith)) in
    let back : sum (drop i all) ≡ sum_from samples i n
    = ap (λ (l : List ℕ). sum l) (drop-take i n samples) in
    let both : sum (take i all) + sum (drop i all) ≡ sum all = sum_by-take-drop (λ (x : ℕ). x) all i in
    omega (arith, front, back, both)

-- the sum of some columns, by two sums
pub between_sums : (samples sums : List ℕ) (i n : ℕ) → AreSampleSums samples sums → i + n ≤ length samples
    → get_or sums i 0 + sum_from samples i n ≡ get_or sums (i + n) 0
between_sums samples sums i n are inside = grind (arith, sum-split)

-- a window lies within the line
pub window_inside : (system : System) (column : ℕ)
    → window_start system column + window_of system ≤ width_of system
window_inside system column = grind arith

-- the windows of the first columns are one, as are those of the last ones
pub window_before : (system : System) (column : ℕ) → column < first_of system + window_of system / 2
    → window_start system column ≡ window_start system 0
window_before system column less = grind arith

pub window_after : (system : System) (column : ℕ)
    → end_of system - window_of system + window_of system / 2 ≤ column
    → window_start system column ≡ window_start system (end_of system - window_of system + window_of system / 2)
window_after system column more = grind arith

-- the others begin half a window before their columns
pub window_amid : (system : System) (column : ℕ) → first_of system + window_of system / 2 ≤ column
    → column < end_of system - window_of system + window_of system / 2
    → window_start system column ≡ column - window_of system / 2
window_amid system column more less = grind arith

-- the columns whose windows begin before them lie within the line
pub ordered_windows : (system : System)
    → (first_of system + window_of system / 2 ≤ width_of system)
    × (end_of system - window_of system + window_of system / 2 ≤ width_of system)
ordered_windows system = grind arith

-- the columns before i have the sums of their windows
abbrev pub WindowsTo : System → List ℕ → List ℕ → ℕ → Type 0
WindowsTo system samples windows i = (k : ℕ) → k < i → get_or windows k 0 ≡ window_sum system samples k

-- one window more
pub windows_more : (system : System) (samples windows : List ℕ) (i v : ℕ) → i < length windows
    → v ≡ window_sum system samples i → WindowsTo system samples windows i
    → WindowsTo system samples (set windows i v) (i + 1)
windows_more system samples windows i v inside is before k less = grind (arith, get_or-set_other, get_or-set_same)

pub inside : (system : System) → end_of system ≤ width_of system
inside system = grind arith

pub ordered : (system : System) → first_of system ≤ end_of system
ordered system = grind arith

-- one column more is off its mean
pub off_more : (system : System) (samples : List ℕ) (column : ℕ) → first_of system ≤ column
    → off_in system samples (column + 1 - first_of system)
    ≡ off_in system samples (column - first_of system) + off_mean system samples column
off_more system samples column low = grind (arith, sum_by-map-range_with_len_more)

-- ---- lines written sample by sample

-- the samples before a column are those of a function
abbrev pub WrittenTo : (ℕ → ℕ) → List ℕ → ℕ → Type 0
WrittenTo f bytes i = (k : ℕ) → k < i → sample_at bytes k ≡ f k

-- one sample more
pub written_more : (f : ℕ → ℕ) (old new : List ℕ) (i : ℕ) → sample_at new i ≡ f i
    → ((k : ℕ) → (k ≡ i → ⊥) → sample_at new k ≡ sample_at old k) → WrittenTo f old i → WrittenTo f new (i + 1)
written_more f old new i here others before k less = grind arith

read_each : (f : ℕ → ℕ) (bytes : List ℕ) (n : ℕ) → length bytes ≡ 2 * n → WrittenTo f bytes n
    → (k : ℕ) → k < n → get_or (samples_of bytes) k 0 ≡ f k
read_each f bytes n long all k less = sample_of bytes k (omega arith) ∙ all k less

-- ---- erased columns

-- a sample, or half way between black and white
abbrev pub filled_at : Slicing → List Bool → List ℕ → ℕ → ℕ
filled_at slicing erased row k = cond (get_or erased k false) (middle_of slicing) (sample_at row k)

-- the samples before a column are filled, the others as they were
pub record FilledTo (slicing : Slicing) (erased : List Bool) (row out : List ℕ) (i : ℕ) : Type 0 where
  pub below : WrittenTo (filled_at slicing erased row) out i
  pub after : (k : ℕ) → i ≤ k → sample_at out k ≡ sample_at row k

length-filled : (slicing : Slicing) (erased : List Bool) (samples : List ℕ) → length erased ≡ length samples
    → length (filled slicing erased samples) ≡ length samples
length-filled slicing [] [] e = refl
length-filled slicing [] (s ∷ samples) e = absurd (omega arith)
length-filled slicing (b ∷ erased) [] e = absurd (omega arith)
length-filled slicing (true ∷ erased) (s ∷ samples) e =
    omega (arith, length-filled slicing erased samples (omega arith))
length-filled slicing (false ∷ erased) (s ∷ samples) e =
    omega (arith, length-filled slicing erased samples (omega arith))

filled-read : (slicing : Slicing) (erased : List Bool) (samples : List ℕ) (k : ℕ) → k < length erased
    → k < length samples
    → get_or (filled slicing erased samples) k 0
    ≡ cond (get_or erased k false) (middle_of slicing) (get_or samples k 0)
filled-read slicing [] samples k l m = absurd (omega arith)
filled-read slicing (b ∷ erased) [] k l m = absurd (omega arith)
filled-read slicing (true ∷ erased) (s ∷ samples) zero l m = refl
filled-read slicing (false ∷ erased) (s ∷ samples) zero l m = refl
filled-read slicing (true ∷ erased) (s ∷ samples) (suc k) l m =
    filled-read slicing erased samples k (omega arith) (omega arith)
filled-read slicing (false ∷ erased) (s ∷ samples) (suc k) l m =
    filled-read slicing erased samples k (omega arith) (omega arith)

pub filled_all : (slicing : Slicing) (erased : List Bool) (row out : List ℕ) → length row ≡ 2 * length erased
    → length out ≡ 2 * length erased → WrittenTo (filled_at slicing erased row) out (length erased)
    → samples_of out ≡ filled slicing erased (samples_of row)
filled_all slicing erased row out room as_long all =
    let many = length-samples_of row (length erased) room in
    let outs = length-samples_of out (length erased) as_long in
    let fills = length-filled slicing erased (samples_of row) (sym many) in
    ext_get_or 0 (samples_of out) (filled slicing erased (samples_of row)) (omega (arith, many, outs, fills)) (λ k less.
    let inside : k < length erased = omega (arith, outs) in
    let there : sample_at row k ≡ get_or (samples_of row) k 0 = sym (sample_of row k (omega arith)) in
    read_each (filled_at slicing erased row) out (length erased) as_long all k inside
    ∙ ap (λ (s : ℕ). cond (get_or erased k false) (middle_of slicing) s) there
    ∙ sym (filled-read slicing erased (samples_of row) k inside (omega (arith, many))))

-- ---- levelled samples

-- one quotient for samples above the mean and below it
pub one_quotient : (scale own mean : ℕ) → 0 < scale
    → min ((32768 * scale + own * levelled_unit - mean * levelled_unit) / scale) 65535 ≡ levelled_sample scale own mean
unfolding levelled_sample
one_quotient scale own mean some = go (cases_lt own mean)
  where
    go : (own < mean) ⊎ (mean ≤ own)
        → min ((32768 * scale + own * levelled_unit - mean * levelled_unit) / scale) 65535
        ≡ levelled_sample scale own mean
    go (inr low) =
        let e : nat_le mean own ≡ true = le-leb mean own low in
        let same : 32768 * scale + own * levelled_unit - mean * levelled_unit
        ≡ 32768 * scale + (own - mean) * levelled_unit = omega (arith, low) in
        let is : (32768 * scale + own * levelled_unit - mean * levelled_unit) / scale
        ≡ 32768 + (own - mean) * levelled_unit / scale
        = ap (λ (n : ℕ). n / scale) same ∙ quotient-above 32768 ((own - mean) * levelled_unit) scale some in
        rw e (omega (arith, is))
    go (inl high) =
        let e : nat_le mean own ≡ false = lt-leb mean own high in
        let some_off : 1 ≤ (mean - own) * levelled_unit = omega (arith, high) in
        let same : 32768 * scale + own * levelled_unit - mean * levelled_unit
        ≡ 32768 * scale - (mean - own) * levelled_unit = omega (arith, high) in
        let is : (32768 * scale + own * levelled_unit - mean * levelled_unit) / scale
        ≡ 32768 - ((mean - own) * levelled_unit + (scale - 1)) / scale
        = ap (λ (n : ℕ). n / scale) same ∙ quotient-below 32768 ((mean - own) * levelled_unit) scale some some_off in
        rw e (omega (arith, is))

-- the samples before a column are those of a function
abbrev pub AreTo : (ℕ → ℕ) → List ℕ → ℕ → Type 0
AreTo f samples i = (k : ℕ) → k < i → get_or samples k 0 ≡ f k

-- one sample more
pub are_more : (f : ℕ → ℕ) (samples : List ℕ) (i v : ℕ) → i < length samples → v ≡ f i → AreTo f samples i
    → AreTo f (set samples i v) (i + 1)
are_more f samples i v inside is before k less = grind (arith, get_or, get_or-set_other, get_or-set_same)

-- ---- smoothed samples

-- a sample of a row smoothed, by the samples in its column and the two beside it; before the first there is the first,
-- what comes after the last is as the last
abbrev pub smoothed_at : List ℕ → ℕ → ℕ
smoothed_at samples k =
    smoothed_sample (get_or samples (k - 1) 0) (get_or samples k 0)
    (get_or samples (min (k + 1) (length samples - 1)) 0)

length-smoothed_after : (before : ℕ) (samples : List ℕ) → length (smoothed_after before samples) ≡ length samples
unfolding smoothed_after
length-smoothed_after before [] = refl
length-smoothed_after before (own ∷ []) = refl
length-smoothed_after before (own ∷ after ∷ samples) = omega (arith, length-smoothed_after own (after ∷ samples))

smoothed_after-read : (before : ℕ) (samples : List ℕ) (k : ℕ) → k < length samples
    → get_or (smoothed_after before samples) k 0
    ≡ smoothed_sample (get_or (before ∷ samples) k 0) (get_or samples k 0)
    (get_or samples (min (k + 1) (length samples - 1)) 0)
unfolding smoothed_after
smoothed_after-read before [] k less = absurd (omega arith)
smoothed_after-read before (own ∷ []) zero less = refl
smoothed_after-read before (own ∷ []) (suc k) less = absurd (omega arith)
smoothed_after-read before (own ∷ after ∷ samples) zero less = grind arith
smoothed_after-read before (own ∷ after ∷ samples) (suc k) less =
    let next : suc (min (k + 1) (length (after ∷ samples) - 1))
    ≡ min (suc k + 1) (length (own ∷ after ∷ samples) - 1) = omega arith in
    smoothed_after-read own (after ∷ samples) k (omega arith)
    ∙ ap (λ (i : ℕ). smoothed_sample (get_or (own ∷ after ∷ samples) k 0) (get_or (after ∷ samples) k 0)
    (get_or (own ∷ after ∷ samples) i 0)) next

-- smoothed there are as many samples as there were
pub length-smoothed : (samples : List ℕ) → length (smoothed samples) ≡ length samples
unfolding smoothed
length-smoothed [] = refl
length-smoothed (first ∷ samples) = length-smoothed_after first (first ∷ samples)

-- each of them
pub smoothed-read : (samples : List ℕ) (k : ℕ) → k < length samples
    → get_or (smoothed samples) k 0 ≡ smoothed_at samples k
unfolding smoothed
smoothed-read [] k less = absurd (omega arith)
smoothed-read (first ∷ samples) zero less = smoothed_after-read first (first ∷ samples) zero less
smoothed-read (first ∷ samples) (suc k) less = grind (arith, smoothed_after-read)

-- bytes that have each sample smoothed
pub smoothed_all : (samples bytes : List ℕ) → length bytes ≡ 2 * length samples
    → WrittenTo (smoothed_at samples) bytes (length samples) → samples_of bytes ≡ smoothed samples
smoothed_all samples bytes long all =
    let many = length-samples_of bytes (length samples) long in
    ext_get_or 0 (samples_of bytes) (smoothed samples) (many ∙ sym (length-smoothed samples)) (λ k less.
    let inside : k < length samples = omega (arith, many) in
    read_each (smoothed_at samples) bytes (length samples) long all k inside ∙ sym (smoothed-read samples k inside))
