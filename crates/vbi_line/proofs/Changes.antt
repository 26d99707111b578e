-- Runs of equal bits, found by the bits that are set where the level changes.
use Rattle.vbi_line.proofs.Common.{◌≡◌, ℕ, zero, suc, ◌+◌, ◌-◌, ◌/◌, ◌%◌, ◌^◌, ◌<◌, ◌≤◌, ◌⊎◌, false, inl, inr, sym, ap}
use Rattle.vbi_line.proofs.Common.{subst, ◌∙◌, arith, add-zero, bit_at, cases_lt, bit_at-lt, System, half_max}
use Rattle.vbi_line.proofs.Common.{level_of_bit, EqualBits, IsBitRun, IsHalf, ReachesMiddle}
use Rattle.std.proofs.Common.{◌≢◌, bit_xor}
use Rattle.std.proofs.lemmas.Nat.Bits.{bit_at_xor}
use Rattle.vbi_line.specs.Straight.{IsOneRun, IsTwoRuns}
use Rattle.vbi_line.proofs.Packs.{bit_after, low_bit}

-- a bit of it is set where the word's level changes after that bit
abbrev pub changes_of : ℕ → ℕ
changes_of word = bit_xor word (word / 2 ^ 1)

-- two bits whose sum is even are the same
bit_change : (word i : ℕ) → bit_at (changes_of word) i ≡ (bit_at word i + bit_at word (i + 1)) % 2
bit_change word i =
    let next : 1 + i ≡ i + 1 = omega arith in
    bit_at_xor word (word / 2 ^ 1) i
    ∙ ap (λ (x : ℕ). (bit_at word i + x) % 2) (bit_after word 1 i ∙ ap (bit_at word) next)

module _ (word i : ℕ) where
  pub same_level : level_of_bit (changes_of word) i ≡ false → level_of_bit word (i + 1) ≡ level_of_bit word i
  same_level e = grind (arith, low_bit, bit_change, bit_at-lt)

  pub other_level : (level_of_bit (changes_of word) i ≡ false → ⊥) → level_of_bit word (i + 1) ≢ level_of_bit word i
  other_level differs e = grind (arith, bit_at-lt, bit_change)

-- bits without a change before the last
run_of_bits : (word place count : ℕ) → 0 < count
    → ((i : ℕ) → i + 1 < count → level_of_bit (changes_of word) (place + i) ≡ false)
    → (level_of_bit (changes_of word) (place + (count - 1)) ≡ false → ⊥) → IsBitRun word place count
run_of_bits word place count some same last = record {
  some = some;
  each = equal;
  ends = λ e. other_level word (place + (count - 1)) last (ap (level_of_bit word) (sym behind) ∙ e
      ∙ sym (equal (count - 1) (omega arith)));
}
  where
    behind : place + count ≡ (place + (count - 1)) + 1
    behind = omega arith

    equal : (i : ℕ) → i < count → level_of_bit word (place + i) ≡ level_of_bit word place
    equal zero l = ap (level_of_bit word) (add-zero place)
    equal (suc i) l =
        let next : place + suc i ≡ (place + i) + 1 = omega arith in
        ap (level_of_bit word) next ∙ same_level word (place + i) (same i (omega arith)) ∙ equal i (omega arith)

-- a run up to the first change
run_found : (word place zeros : ℕ) → EqualBits (changes_of word) place false zeros → place + zeros < 64
    → IsBitRun word place (1 + zeros)
run_found word place zeros bits inside =
    let count : 1 + zeros - 1 ≡ zeros = omega arith in
    run_of_bits word place (1 + zeros) (omega arith) (λ i l. bits.each i (omega arith))
    (λ e. bits.ends inside (ap (λ (n : ℕ). level_of_bit (changes_of word) (place + n)) (sym count) ∙ e))

-- what was found of the changes of a word: none from its first bit on, nor from that after a half cell, nor from the
-- cell's end on, for so many
pub record Found (system : System) (word first far end rest : ℕ) : Type 0 where
  pub near : EqualBits (changes_of word) 0 false first
  pub behind : EqualBits (changes_of word) (half_max system) false far
  pub later : EqualBits (changes_of word) end false rest
  pub is_end : ((1 + first ≤ half_max system) × (end ≡ 1 + first))
      ⊎ ((half_max system < 1 + first) × (end ≡ (half_max system + 1 + far) / 2))
  pub half : IsHalf system end
  pub other_half : IsHalf system (1 + rest)
  pub whole : end + (1 + rest) ≡ half_max system + 1 + far
  pub short : half_max system ≤ 22

module _ {system : System} {word first far end rest : ℕ} (found : Found system word first far end rest) where
  -- the columns to the next middle
  abbrev columns : ℕ
  columns = half_max system + 1 + far

  one_run : half_max system < 1 + first → end ≡ columns / 2 → IsOneRun system word columns
  one_run long e = (
    run_of_bits word 0 columns (omega arith) none last,
    omega (arith, found.half.0, found.other_half.0, found.whole),
    omega (arith, found.half.1, found.other_half.1, found.whole),
  )
    where
      none : (i : ℕ) → i + 1 < columns → level_of_bit (changes_of word) (0 + i) ≡ false
      none i l = elim (cases_lt i first) [
        | inl before ↦ found.near.each i before
        | inr behind ↦
            let j : ℕ = i - half_max system in
            let place : 0 + i ≡ half_max system + j = omega arith in
            ap (level_of_bit (changes_of word)) place ∙ found.behind.each j (omega arith)
      ]

      last : level_of_bit (changes_of word) (0 + (columns - 1)) ≡ false → ⊥
      last e = grind arith

  two_runs : 1 + first ≤ half_max system → end ≡ 1 + first → IsTwoRuns system word end columns
  two_runs near e =
      let inside : 0 + first < 64 = omega (arith, found.short) in
      let later : end + rest < 64 = omega (arith, found.short, found.half.1, found.other_half.1) in
      let more : 1 + rest ≡ columns - end = omega (arith, found.whole) in (
        subst (IsBitRun word 0) (sym e) (run_found word 0 first found.near inside),
        found.half,
        subst (IsBitRun word end) more (run_found word end rest found.later later),
        subst (IsHalf system) more found.other_half,
      )

  pub reaches : ReachesMiddle system word columns
  reaches = grind (arith, two_runs, one_run)
