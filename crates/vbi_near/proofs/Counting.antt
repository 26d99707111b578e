-- A pile of lines: none yet, and one line more.
-- add_line stands on it, and each function that piles lines.
use Rattle.std.proofs.Common.{◌≡◌, ℕ, suc, zero, ◌≤◌, ◌<◌, ◌+◌, ◌*◌, List, [], ◌∷◌, Bool, true, false, length, ◌++◌}
use Rattle.std.proofs.Common.{get_or, arith, ap, sym, ◌∙◌, refl, cond}
use Rattle.std.proofs.Math.ListN.{replicate, take}
use Rattle.std.proofs.lemmas.{List.length-take-le, List.length-replicate, List.take-replicate, List.Elements.All-append}
use Rattle.std.specs.{List.All, Prelude.Some, Prelude.None, Prelude.min, Int.abs_diff}
use Rattle.vbi_near.proofs.Common.{System, Ntsc, Pal, width_of, line_bytes, Slicing, samples_of, sample_at, sample_of}
use Rattle.vbi_near.proofs.Common.{Samples, most_of, off_by, known, known_but, shade, shades, column_cost, IsPile}
use Rattle.vbi_near.proofs.Common.{AreFew}
use Rattle.vbi_near.proofs.Columns.{width-few}
use Rattle.vbi_line.proofs.Slicing.{length-samples_of}

-- ---- no line yet

-- the first n of m zeros
abbrev pub zeros : ℕ → ℕ → List ℕ
zeros n m = take n (replicate m 0)

zeros-read : (n m k : ℕ) → get_or (zeros n m) k 0 ≡ 0
zeros-read zero m k = refl
zeros-read (suc n) zero k = refl
zeros-read (suc n) (suc m) zero = refl
zeros-read (suc n) (suc m) (suc k) = zeros-read n m k

pub zeros-long : (system : System) (n : ℕ) → n ≡ width_of system → length (zeros n 1135) ≡ width_of system
zeros-long system n e = grind (arith, length-take-le, replicate, width-few, length-replicate)

pub nothing-erased : (system : System) (n : ℕ) → n ≡ width_of system
    → take n (replicate 1135 false) ≡ replicate (width_of system) false
nothing-erased system n e =
    take-replicate n 1135 false (omega (arith, e, width-few system))
    ∙ ap (λ (k : ℕ). replicate k false) e

pub few-empty : (n m : ℕ) → AreFew 0 (zeros n m)
few-empty n m k = omega (arith, zeros-read n m k)

pub pile-empty : (system : System) (slicing : Slicing) (n l m : ℕ)
    → IsPile system slicing [] (shades (zeros n m) (zeros l m))
unfolding column_cost
pile-empty system slicing n l m = grind (arith, get_or, zeros-read)

-- ---- one line more

-- a column's sample
sample-read : (bytes : List ℕ) (k : ℕ) → 2 * k + 1 < length bytes → sample_at bytes k ≡ get_or (samples_of bytes) k 0
sample-read [] k l = absurd (omega arith)
sample-read (low ∷ []) k l = absurd (omega arith)
sample-read (low ∷ high ∷ bytes) zero l = omega arith
sample-read (low ∷ high ∷ bytes) (suc k) l =
    let e : 2 * suc k ≡ suc (suc (2 * k)) = omega arith in
    let f : 2 * suc k + 1 ≡ suc (suc (2 * k + 1)) = omega arith in
    let here : sample_at (low ∷ high ∷ bytes) (suc k) ≡ sample_at bytes k
    = omega (
      arith,
      ap (λ (j : ℕ). get_or (low ∷ high ∷ bytes) j 0) e,
      ap (λ (j : ℕ). get_or (low ∷ high ∷ bytes) j 0) f,
    ) in
    here ∙ sample-read bytes k (omega arith)

-- what one line more costs in a column
column_cost-append : (slicing : Slicing) (lines : List Samples) (line : Samples) (k : ℕ) (level : Bool)
    → column_cost slicing (lines ++ line ∷ []) k level
    ≡ column_cost slicing lines k level + off_by (most_of slicing) (get_or line k None) (sample_of slicing level)
unfolding column_cost
column_cost-append slicing [] line k level = omega arith
column_cost-append slicing (first ∷ lines) line k level = omega (arith, column_cost-append slicing lines line k level)

-- how far a sample is from a level, or `most`, if its column isn't erased
abbrev pub kept : ℕ → Bool → ℕ → ℕ → ℕ
kept most erased sample level = cond erased 0 (min (abs_diff sample level) most)

kept-read : (most : ℕ) (erased : List Bool) (samples : List ℕ) (k level : ℕ) → k < length erased → k < length samples
    → kept most (get_or erased k false) (get_or samples k 0) level
    ≡ off_by most (get_or (known_but erased samples) k None) level
kept-read most [] samples k level l m = absurd (omega arith)
kept-read most (e ∷ erased) [] k level l m = absurd (omega arith)
kept-read most (true ∷ erased) (s ∷ samples) zero level l m = refl
kept-read most (false ∷ erased) (s ∷ samples) zero level l m = refl
kept-read most (true ∷ erased) (s ∷ samples) (suc k) level l m =
    kept-read most erased samples k level (omega arith) (omega arith)
kept-read most (false ∷ erased) (s ∷ samples) (suc k) level l m =
    kept-read most erased samples k level (omega arith) (omega arith)

length-known_but : (erased : List Bool) (samples : List ℕ) → length erased ≡ length samples
    → length (known_but erased samples) ≡ length samples
length-known_but [] [] e = refl
length-known_but [] (s ∷ samples) e = absurd (omega arith)
length-known_but (b ∷ erased) [] e = absurd (omega arith)
length-known_but (true ∷ erased) (s ∷ samples) e = omega (arith, length-known_but erased samples (omega arith))
length-known_but (false ∷ erased) (s ∷ samples) e = omega (arith, length-known_but erased samples (omega arith))

-- if nothing is erased all is known
pub known_but-none : (n : ℕ) (samples : List ℕ) → length samples ≡ n
    → known_but (replicate n false) samples ≡ known samples
known_but-none zero [] e = refl
known_but-none zero (s ∷ samples) e = absurd (omega arith)
known_but-none (suc n) [] e = absurd (omega arith)
known_but-none (suc n) (s ∷ samples) e = ap (λ (rest : Samples). Some s ∷ rest) (known_but-none n samples (omega arith))

pub line-samples : (system : System) (bytes : List ℕ) → length bytes ≡ line_bytes system
    → length (samples_of bytes) ≡ width_of system
line-samples Ntsc bytes e = length-samples_of bytes 910 (omega (arith, e))
line-samples Pal bytes e = length-samples_of bytes 1135 (omega (arith, e))

-- below i each cost has that of its column more, and from i on none
pub record IsAdded (bytes : List ℕ) (erased : List Bool) (most level : ℕ) (costs new : List ℕ) (i : ℕ) : Type 0 where
  pub below : (k : ℕ) → k < i
      → get_or new k 0 ≡ get_or costs k 0 + kept most (get_or erased k false) (sample_at bytes k) level
  pub after : (k : ℕ) → i ≤ k → get_or new k 0 ≡ get_or costs k 0

kept-few : (most : ℕ) (erased : Bool) (sample level : ℕ) → kept most erased sample level ≤ most
kept-few most erased sample level = grind arith

-- no column costs more than what a sample can be off
pub added-few : (bytes : List ℕ) (erased : List Bool) (most level : ℕ) (costs new : List ℕ) (i : ℕ) → most ≤ 65535
    → (lines : ℕ) → AreFew lines costs → IsAdded bytes erased most level costs new i → AreFew (lines + 1) new
added-few bytes erased most level costs new i low lines few is k = grind (arith, get_or, kept-few)

-- a line that is cut to as long as it is
pub added_whole : (cut bytes : List ℕ) (marks erased : List Bool) (most level : ℕ) (costs new : List ℕ) (i n : ℕ)
    → cut ≡ bytes → marks ≡ erased → i ≡ n → IsAdded cut marks most level costs new i
    → IsAdded bytes erased most level costs new n
added_whole cut bytes marks erased most level costs new i n same are end is = grind arith

pub pile-added : (system : System) (slicing : Slicing) (bytes : List ℕ) (erased : List Bool) (lines : List Samples)
    (darks lights dark light : List ℕ) → length bytes ≡ 2 * length darks → length erased ≡ length darks
    → length darks ≡ width_of system → IsAdded bytes erased (most_of slicing) slicing.black darks dark (length darks)
    → IsAdded bytes erased (most_of slicing) slicing.white lights light (length darks)
    → IsPile system slicing lines (shades darks lights)
    → IsPile system slicing (lines ++ known_but erased (samples_of bytes) ∷ []) (shades dark light)
pile-added system slicing bytes erased lines darks lights dark light room as_many wide is are pile = record {
  whole = whole;
  exact = exact;
}
  where
    samples-long : length (samples_of bytes) ≡ length darks
    samples-long = length-samples_of bytes (length darks) room

    long : length (known_but erased (samples_of bytes)) ≡ width_of system
    long = length-known_but erased (samples_of bytes) (as_many ∙ sym samples-long) ∙ samples-long ∙ wide

    last : All (λ line. length line ≡ width_of system) (known_but erased (samples_of bytes) ∷ [])
    last zero d l = long
    last (suc k) d l = absurd (omega arith)

    whole : All (λ line. length line ≡ width_of system) (lines ++ known_but erased (samples_of bytes) ∷ [])
    whole = All-append (λ line. length line ≡ width_of system) lines (known_but erased (samples_of bytes) ∷ [])
        pile.whole last

    off : (k level : ℕ) → k < width_of system
        → kept (most_of slicing) (get_or erased k false) (sample_at bytes k) level
        ≡ off_by (most_of slicing) (get_or (known_but erased (samples_of bytes)) k None) level
    off k level l =
        ap (λ (s : ℕ). kept (most_of slicing) (get_or erased k false) s level) (sample-read bytes k (omega arith))
        ∙ kept-read (most_of slicing) erased (samples_of bytes) k level (omega arith) (omega (arith, samples-long))

    exact : (k : ℕ) (level : Bool) → k < width_of system
        → get_or (shade (shades dark light) level) k 0
        ≡ column_cost slicing (lines ++ known_but erased (samples_of bytes) ∷ []) k level
    exact k true l =
        let a = are.below k (omega arith) in
        let o = off k slicing.white l in
        omega (
          arith,
          a,
          pile.exact k true l,
          o,
          column_cost-append slicing lines (known_but erased (samples_of bytes)) k true,
        )
    exact k false l =
        let a = is.below k (omega arith) in
        let o = off k slicing.black l in
        omega (
          arith,
          a,
          pile.exact k false l,
          o,
          column_cost-append slicing lines (known_but erased (samples_of bytes)) k false,
        )
