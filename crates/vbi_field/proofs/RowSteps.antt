-- What the calls of an intake of rows keep from read to read.
use Rattle.vbi_field.proofs.Common.{◌≡◌, ℕ, ◌+◌, ◌*◌, ◌<◌, ◌≤◌, [], ◌∷◌, ◌++◌, length, take, refl, subst, ◌∙◌, arith}
use Rattle.vbi_field.proofs.Common.{Consumes-trans, Consumes-nil, length-append, length-take-le, newline, WordRow}
use Rattle.vbi_field.proofs.Common.{tries, failures_of, NoError, longest_row, HasNoNewline, Fetches, TakesByte}
use Rattle.vbi_field.proofs.Common.{TakesRow, RowIntake, Malformed, List, Option, Some, None}
use Rattle.vbi_field.specs.WordRows.{word_row_of}
use Rattle.vbi_field.specs.RowIntake.{counted_of}
use Rattle.vbi_field.specs.declared.row_intake.NextByte.TheVariants as bytes
use Rattle.vbi_field.specs.declared.row_intake.NextRow.TheVariants.{Row}
use Rattle.vbi_field.proofs.WordRowLemmas.{long_row}

module _ {R : Type 0} (remaining : R → Option (List ℕ)) where
  -- this number of bytes of a row is held, none of them a newline
  pub record Held (old now : RowIntake R) (row : List ℕ) (held : ℕ) : Type 0 where
    pub fetches : Fetches remaining old now (take held row)
    pub most : (failures_of (counted_of now)).all ≤ (failures_of (counted_of old)).all + tries * held
    pub errors : NoError (counted_of old) (counted_of now)
    pub plain : HasNoNewline (take held row)
    pub long : length row ≡ longest_row

  pub Fetches-none : (i : RowIntake R) → Fetches remaining i i []
  Fetches-none i = record { consumed = Consumes-nil _; fetched = omega arith; least = omega arith; same = refl }

  pub Fetches-more : (old now new : RowIntake R) (a b : List ℕ) → Fetches remaining old now a
      → Fetches remaining now new b
      → Fetches remaining old new (a ++ b)
  Fetches-more old now new a b f g =
      let l = length-append a b in
      let e = f.fetched in
      let h = g.fetched in
      let m = f.least in
      let n = g.least in
      record {
        consumed = Consumes-trans _ _ _ a b f.consumed g.consumed;
        fetched = omega arith;
        least = omega arith;
        same = g.same ∙ f.same;
      }

module _ {R : Type 0} {remaining : R → Option (List ℕ)} {old now : RowIntake R} {row : List ℕ} {held : ℕ}
    (h : Held remaining old now row held) (inside : held < longest_row) where
  short : length (take held row) ≡ held
  short = length-take-le held row (omega (arith, h.long))

  module _ {new : RowIntake R} {byte : ℕ} (t : TakesByte remaining now new (bytes.Byte byte))
      (is_newline : byte ≡ newline) where
    with_newline : Fetches remaining old new (take held row ++ newline ∷ [])
    with_newline =
        let P : ℕ → Type 0 = λ b. Fetches remaining old new (take held row ++ b ∷ []) in
        subst P is_newline (Fetches-more remaining old now new (take held row) (byte ∷ []) h.fetches t.fetches)

    few : length (take held row ++ newline ∷ []) ≤ longest_row
    few = omega (arith, length-append (take held row) (newline ∷ []), short)

    pub newline_came : (words : WordRow) → Some words ≡ word_row_of (take held row)
        → TakesRow remaining old new (Row words)
    newline_came words w = grind (arith, with_newline, short, few)

    pub bad_newline_came : None ≡ word_row_of (take held row) → TakesRow remaining old new Malformed
    bad_newline_came w = grind (arith, with_newline, short, few)

-- a row as long as a malformed one may get
pub too_long : {R : Type 0} {remaining : R → Option (List ℕ)} {old now : RowIntake R} {row : List ℕ}
    → Held remaining old now row longest_row
    → TakesRow remaining old now Malformed
too_long {row = row} h = grind (arith, length-take-le, short, long_row)
