use Rattle.std.proofs.Common.{◌≡◌, ◌<◌, ℕ, zero, suc, ◌+◌, ◌*◌, ◌≤◌, List, [], ◌∷◌, ap, sym, refl, arith, subst, inl}
use Rattle.std.specs.Prelude.{Some, slice_get}
use Rattle.vbi_words.specs.Codes.{code_of}
use Rattle.vbi_c.specs.Types.{System, Plain, Sightings, Asked, WordRow, Pictures}
use Rattle.vbi_words.specs.Levels.{Slicing}
use Rattle.vbi_whole.specs.CleanRuns.{IsReadTwice, IsCleanRun}
use Rattle.vbi_side.specs.Sightings.{Shows}
use Rattle.vbi_side.specs.Worked.{field_of, blank}
use Rattle.vbi_whole.proofs.ThreeInRow.{plain_steps, plain_in_row}
use Rattle.vbi_side.proofs.Worked.{none_shown}
use Rattle.vbi_field.specs.Draws.{AreDrawable, no_words}
use Rattle.vbi_side.specs.Misread.{numbers_in}
use Rattle.vbi_c.specs.DrawnSides.{picture_row, picture_rows, drawn_numbers}
use Rattle.vbi_seek.specs.FieldLines.{lines_by}
use Rattle.vbi_seek.specs.NumberSearch.{shown_at, shown_of}
use Rattle.vbi_c.proofs.CleanLeading.{clean_leads}
use Rattle.vbi_c.proofs.DrawnSides.{drawn_shown, drawn_as}
use Rattle.vbi_c.proofs.whole_laws.worked_leads.Goals as goal

word : (w : ℕ) → 8388608 ≤ w → w < 16777216 → AreDrawable (picture_row w)
word w least most = record { first = tt; second = (least, most); third = (least, most) }

module _ (system : System) (levels : Slicing) (asked : Asked) (order : levels.black < levels.white) where
  -- ---- what the fields show

  drawn : (i : ℕ) (words : WordRow) → slice_get picture_rows i ≡ Some words → AreDrawable words
      → shown_at (drawn_numbers system levels asked) i ≡ numbers_in system Pictures
      (lines_by (drawn_as words.first ∷ drawn_as words.second ∷ drawn_as words.third ∷ []))
  drawn i words at are =
      drawn_shown (drawn_numbers system levels asked) picture_rows i words order refl at are

  none : AreDrawable no_words
  none = record { first = tt; second = tt; third = tt }

  first : slice_get (shown_of (drawn_numbers system levels asked)) 0
      ≡ Some (field_of 1 2 1 2)
  unfolding code_of
  first = ap Some (drawn 0 (picture_row 0xF00001) refl (word 0xF00001 (omega arith) (omega arith)))

  second : slice_get (shown_of (drawn_numbers system levels asked)) 2
      ≡ Some (field_of 2 2 2 2)
  unfolding code_of
  second = ap Some (drawn 2 (picture_row 0xF00002) refl (word 0xF00002 (omega arith) (omega arith)))

  third : slice_get (shown_of (drawn_numbers system levels asked)) 4
      ≡ Some (field_of 3 2 3 2)
  unfolding code_of
  third = ap Some (drawn 4 (picture_row 0xF00003) refl (word 0xF00003 (omega arith) (omega arith)))

  between : slice_get (shown_of (drawn_numbers system levels asked)) 1 ≡ Some blank
  between = ap Some (drawn 1 no_words refl none)

  later : slice_get (shown_of (drawn_numbers system levels asked)) 3 ≡ Some blank
  later = ap Some (drawn 3 no_words refl none)

  -- ---- so they are a run

  twice : (fields : List Sightings) (i n : ℕ) → slice_get fields i ≡ Some (field_of n 2 n 2) → IsReadTwice fields i n
  twice fields i n at =
      let shown = subst (λ o. Shows o n) (sym at) (inl (omega arith, refl)) in
      ((field_of n 2 n 2, at, omega arith, omega arith, refl), shown)

  dark : (fields : List Sightings) (i n : ℕ) → slice_get fields i ≡ Some blank → Shows (slice_get fields i) n → ⊥
  dark fields i n at shown = none_shown n (subst (λ o. Shows o n) at shown)

  each : (p : ℕ) → p ≤ 2
      → IsReadTwice (shown_of (drawn_numbers system levels asked)) (0 + 2 * p) (1 + p)
  each zero low = twice (shown_of (drawn_numbers system levels asked)) 0 1 first
  each (suc zero) low = twice (shown_of (drawn_numbers system levels asked)) 2 2 second
  each (suc (suc zero)) low = twice (shown_of (drawn_numbers system levels asked)) 4 3 third
  each (suc (suc (suc p))) low = absurd (omega (arith, low))

  others : (i n : ℕ)
      → Shows (slice_get (shown_of (drawn_numbers system levels asked)) i) n
      → (p : ℕ) × (p ≤ 2) × (i ≡ 0 + 2 * p)
  others zero n shown = (0, omega arith, refl)
  others (suc zero) n shown =
      absurd (dark (shown_of (drawn_numbers system levels asked)) 1 n between shown)
  others (suc (suc zero)) n shown = (1, omega arith, refl)
  others (suc (suc (suc zero))) n shown =
      absurd (dark (shown_of (drawn_numbers system levels asked)) 3 n later shown)
  others (suc (suc (suc (suc zero)))) n shown = (2, omega arith, refl)
  others (suc (suc (suc (suc (suc k))))) n shown = absurd shown

pub returns : goal.returns
returns c system levels asked order =
    let run : IsCleanRun Plain (λ p. 1 + p) (shown_of (drawn_numbers system levels asked)) 0 2 = record {
      read = record { each = each system levels asked order; others = others system levels asked order };
      keeps = λ p low. (plain_steps 1 p, refl);
      three = plain_in_row 1 2 (omega arith);
    } in
    clean_leads (drawn_numbers system levels asked) Plain (λ p. 1 + p) 0 2 run 1 (omega arith) (omega arith)
