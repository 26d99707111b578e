-- Each number of a run is one of three between which the clock leaves out none.
use Rattle.std.proofs.Common.{◌≡◌, ◌≢◌, ℕ, ◌+◌, ◌-◌, ◌<◌, ◌≤◌, Bool, true, false, refl, arith, ap, sym, ◌∙◌, inl, inr}
use Rattle.std.specs.Prelude.{◌%◌, ◌&&◌}
use Rattle.std.proofs.lemmas.Bool.{lt-ltb}
use Rattle.std.proofs.lemmas.Bool.Decides.{leb_tells, eqb_tells}
use Rattle.vbi_whole.specs.Types.{Clock, Plain, DropFrame, OneIn}
use Rattle.vbi_side.specs.Clocks.{left_out, leaves_out, kept}
use Rattle.vbi_whole.specs.CleanRuns.{IsOneOfThree}
use Rattle.vbi_side.proofs.Counting.{kept_is, plain, out_up, out_far}

-- ---- later numbers

-- the one that stands later by the clock is greater
pub greater : (clock : Clock) (m n : ℕ) → kept clock m < kept clock n → m ≤ n
greater clock m n later = elim (leb_tells m n) [
  | inl (t, le) ↦ le
  | inr (f, lt) ↦
      let place : n + (m - n) ≡ m = omega (arith, lt) in
      absurd (omega (
        arith,
        later,
        lt,
        out_far clock n (m - n),
        ap (left_out clock) place,
        kept_is clock m,
        kept_is clock n,
      ))
]

-- if none is left out between two, none is left out before the one between
middle : (clock : Clock) (a b c : ℕ) → kept clock a < kept clock b → kept clock b < kept clock c
    → left_out clock a ≡ left_out clock c → left_out clock a ≡ left_out clock b
middle clock a b c one two same = grind (arith, greater, out_up)

-- of five numbers that a disc has one after the other, the clock leaves out none between the first and the third, or
-- none between the third and the fifth
abbrev pub IsRare : Clock → Type 0
IsRare clock = (a b c : ℕ) → leaves_out clock b ≡ false → kept clock b ≡ kept clock a + 2
    → kept clock c ≡ kept clock b + 2 → left_out clock a ≢ left_out clock b → left_out clock b ≡ left_out clock c

-- ---- by drop-frame

drop_late : (a b c : ℕ) → 2 ≤ b % 1800 → kept DropFrame b ≡ kept DropFrame a + 2
    → kept DropFrame c ≡ kept DropFrame b + 2 → left_out DropFrame a ≢ left_out DropFrame b
    → left_out DropFrame b ≡ left_out DropFrame c
unfolding kept left_out
drop_late a b c late first last other = omega arith

drop_tenth : (a b c : ℕ) → b % 18000 < 1800 → kept DropFrame b ≡ kept DropFrame a + 2
    → kept DropFrame c ≡ kept DropFrame b + 2 → left_out DropFrame a ≢ left_out DropFrame b
    → left_out DropFrame b ≡ left_out DropFrame c
unfolding kept left_out
drop_tenth a b c tenth first last other = omega arith

both_true : (a b : Bool) → a ≡ true → b ≡ true → (a && b) ≡ false → ⊥
both_true a b e f none = let h : true ≡ false = rw (e, f) at none in cc

pub drop_rare : IsRare DropFrame
drop_rare = grind (arith, both_true, drop_late, drop_tenth, leb_tells, lt-ltb)

-- ---- by one number left out in 1,000 or 1,001

thousand_either : (phase a b c : ℕ) → phase < 1000 → kept (OneIn 1000 phase) b ≡ kept (OneIn 1000 phase) a + 2
    → kept (OneIn 1000 phase) c ≡ kept (OneIn 1000 phase) b + 2
    → left_out (OneIn 1000 phase) a ≢ left_out (OneIn 1000 phase) b
    → left_out (OneIn 1000 phase) b ≡ left_out (OneIn 1000 phase) c
unfolding kept left_out
thousand_either phase a b c less first last other = omega arith

pub thousand_rare : (phase : ℕ) → phase < 1000 → IsRare (OneIn 1000 phase)
thousand_rare phase less a b c there = thousand_either phase a b c less

more_either : (phase a b c : ℕ) → phase < 1001 → kept (OneIn 1001 phase) b ≡ kept (OneIn 1001 phase) a + 2
    → kept (OneIn 1001 phase) c ≡ kept (OneIn 1001 phase) b + 2
    → left_out (OneIn 1001 phase) a ≢ left_out (OneIn 1001 phase) b
    → left_out (OneIn 1001 phase) b ≡ left_out (OneIn 1001 phase) c
unfolding kept left_out
more_either phase a b c less first last other = omega arith

pub more_rare : (phase : ℕ) → phase < 1001 → IsRare (OneIn 1001 phase)
more_rare phase less a b c there = more_either phase a b c less

-- ---- three in a row

module _ (clock : Clock) (number : ℕ → ℕ) (last : ℕ) (rare : IsRare clock)
    (steps : (p : ℕ) → p ≤ last → kept clock (number p) ≡ kept clock (number 0) + p)
    (there : (p : ℕ) → p ≤ last → leaves_out clock (number p) ≡ false) where
  in_steps : (p q : ℕ) → p ≤ q → q ≤ last → kept clock (number q) ≡ kept clock (number p) + (q - p)
  in_steps p q order inside = omega (arith, steps p (omega (arith, order, inside)), steps q inside, order)

  -- three between which none is left out
  in_row : (q : ℕ) → q + 2 ≤ last → left_out clock (number q) ≡ left_out clock (number (q + 2))
      → (number (q + 1) ≡ number q + 1) × (number (q + 2) ≡ number q + 2)
  in_row q inside same = grind (arith, in_steps, kept_is, middle)

  -- two that are two apart have as many left out before them
  same_before : (p q : ℕ) → q ≡ p + 2 → q ≤ last → number q ≡ number p + 2
      → left_out clock (number p) ≡ left_out clock (number q)
  same_before p q next inside two = grind (arith, in_steps, kept_is)

  pub three_in_row : 2 ≤ last → number 2 ≡ number 0 + 2 → number last ≡ number (last - 2) + 2 → (p : ℕ) → p ≤ last
      → IsOneOfThree number last p
  three_in_row many first end p inside = elim (leb_tells p 2) [
    | inl (t, early) ↦
        let (one, two) = in_row 0 many (same_before 0 2 refl many first) in
        (0, omega arith, early, many, one, two)
    | inr (f, after) ↦ elim (leb_tells last (p + 2)) [
      | inl (t, late) ↦
          let place : last - 2 + 2 ≡ last = omega (arith, many) in
          let same = same_before (last - 2) (last - 2 + 2) refl (omega (arith, many)) (ap number place ∙ end) in
          let (one, two) = in_row (last - 2) (omega (arith, many)) same in
          (last - 2, omega (arith, late), omega (arith, inside), omega (arith, many), one, two)
      | inr (g, before) ↦
          let place : p - 2 + 2 ≡ p = omega (arith, after) in
          elim (eqb_tells (left_out clock (number (p - 2))) (left_out clock (number p))) [
            | inl (u, same) ↦
                let (one, two) = in_row (p - 2) (omega (arith, after, inside))
                (same ∙ ap (λ x. left_out clock (number x)) (sym place)) in
                (p - 2, omega arith, omega (arith, after), omega (arith, after, inside), one, two)
            | inr (u, other) ↦
                let first_two = in_steps (p - 2) p (omega arith) inside in
                let last_two = in_steps p (p + 2) (omega arith) (omega (arith, before)) in
                let same = rare (number (p - 2)) (number p) (number (p + 2)) (there p inside)
                (omega (arith, first_two, after)) (omega (arith, last_two)) other in
                let (one, two) = in_row p (omega (arith, before)) same in
                (p, omega arith, omega arith, omega (arith, before), one, two)
          ]
    ]
  ]

-- ---- with no clock

pub plain_steps : (m p : ℕ) → kept Plain (m + p) ≡ kept Plain (m + 0) + p
plain_steps m p = omega (arith, plain Plain (m + p) refl, plain Plain (m + 0) refl)

pub plain_in_row : (m last : ℕ) → 2 ≤ last → (p : ℕ) → p ≤ last → IsOneOfThree (λ p. m + p) last p
plain_in_row m last many p inside = elim (leb_tells p 2) [
  | inl (t, early) ↦ (0, omega arith, early, many, omega arith, omega arith)
  | inr (f, late) ↦ (p - 2, omega arith, omega (arith, late), omega (arith, inside, late), omega arith, omega arith)
]
