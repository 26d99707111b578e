-- How much a line swings at most, so that what is divided by it fits.
-- level stands on it.
use Rattle.std.proofs.Common.{◌≡◌, ℕ, suc, zero, ◌≤◌, ◌<◌, ◌+◌, ◌*◌, ◌/◌, ◌^◌, List, length, get_or, take, drop, arith}
use Rattle.std.proofs.Common.{sym, subst}
use Rattle.std.specs.List.{All, sum}
use Rattle.std.proofs.lemmas.{List.get_or_default, List.length-take, List.Elements.All-take, List.Elements.All-drop}
use Rattle.std.proofs.lemmas.{List.Sums.sum_by-le, List.FromFn.sum_by-map-range_with_len_more}
use Rattle.std.proofs.Math.Nat.{div-le_of_le-mul}
use Rattle.vbi_near.proofs.Common.{System, Ntsc, Pal, width_of, samples_of}
use Rattle.vbi_line.proofs.Slicing.{sample_of, length-samples_of}
use Rattle.vbi_near.specs.LevelledLines.{window_of, first_of, columns_of, off_mean, off_in, swing_of}

-- samples of 16 bits
abbrev pub AreShort : List ℕ → Type 0
AreShort samples = All (λ x. x ≤ 65535) samples

-- the samples of a line are of 16 bits
pub short_bytes : (bytes : List ℕ) (n : ℕ) → length bytes ≡ 2 * n → ((k : ℕ) → get_or bytes k 0 < 256)
    → AreShort (samples_of bytes)
short_bytes bytes n long few k d less =
    let inside : 2 * k + 1 < length bytes = omega (arith, length-samples_of bytes n long) in
    let here : get_or (samples_of bytes) k 0 ≤ 65535
    = omega (arith, sample_of bytes k inside, few (2 * k), few (2 * k + 1)) in
    subst (λ (x : ℕ). x ≤ 65535) (sym (get_or_default (samples_of bytes) k d 0 less)) here

-- n samples of 16 bits sum up to no more
few-sum : (samples : List ℕ) (start n : ℕ) → AreShort samples → sum (take n (drop start samples)) ≤ 65535 * n
few-sum samples start n short =
    let part = take n (drop start samples) in
    let few = sum_by-le (λ (x : ℕ). x) 65535 part
    (All-take (λ x. x ≤ 65535) n (drop start samples) (All-drop (λ x. x ≤ 65535) start samples short)) in
    omega (arith, few, length-take n (drop start samples))

-- a column is no farther from the mean of its window
few-off : (system : System) (samples : List ℕ) (column : ℕ) → AreShort samples → column < length samples
    → off_mean system samples column ≤ 13959168
few-off system samples column short less = grind (arith, few-sum)

-- n columns are no farther from the means of their windows
few-offs : (system : System) (samples : List ℕ) (n : ℕ) → AreShort samples → first_of system + n ≤ length samples
    → off_in system samples n ≤ 13959168 * n
few-offs system samples zero short room = omega arith
few-offs system samples (suc n) short room =
    let column : ℕ = first_of system + n in
    let more = sum_by-map-range_with_len_more (λ (x : ℕ). x) (off_mean system samples) (first_of system) n column
    (omega arith) in
    let e : n + 1 ≡ suc n = omega arith in
    let all = subst (λ (k : ℕ). off_in system samples k ≡ off_in system samples n + off_mean system samples column) e
    more in
    omega (
      arith,
      all,
      few-offs system samples n short (omega arith),
      few-off system samples column short (omega arith),
    )

-- twice as far, by the columns of a window of NTSC and their number
by-ntsc : (off n : ℕ) → off ≤ 13959168 * n → 2 * off / (172 * n) ≤ 262144
by-ntsc off n few = div-le_of_le-mul (172 * n) (omega (arith, few))

-- twice as far, by the columns of a window of PAL and their number
by-pal : (off n : ℕ) → off ≤ 13959168 * n → 2 * off / (213 * n) ≤ 262144
by-pal off n few = div-le_of_le-mul (213 * n) (omega (arith, few))

-- the columns of words lie within the line
room : (system : System) (n : ℕ) → n ≡ width_of system → first_of system + columns_of system ≤ n
room system n e = grind arith

-- the swing is less than 2 ^ 19
few-swing : (system : System) (samples : List ℕ) → AreShort samples → length samples ≡ width_of system
    → swing_of system samples ≤ 262144
unfolding swing_of
few-swing Ntsc samples short long = search (arith, by-ntsc, few-offs, room)
few-swing Pal samples short long =
    by-pal (off_in Pal samples (columns_of Pal)) (columns_of Pal)
    (few-offs Pal samples (columns_of Pal) short (room Pal (length samples) long))

-- the swing times the columns of a window fits into 32 bits
pub scale_fits : (system : System) (samples : List ℕ) (window swing : ℕ) → AreShort samples
    → length samples ≡ width_of system → window ≡ window_of system → swing ≡ swing_of system samples
    → window * swing < 2 ^ 32
scale_fits system samples window swing short long w s = grind (arith, few-swing)
