-- What the writing of a field keeps from row to row.
use Rattle.vbi_field.proofs.Common.{rules, ◌≡◌, ℕ, ◌+◌, ◌-◌, ◌*◌, ◌≤◌, ◌<◌, ◌++◌, length, sym, ap, subst, ◌∙◌, arith}
use Rattle.vbi_field.proofs.Common.{Appends, Appends-trans, length-append, height_of, line_bytes, Pal, ConfigView}
use Rattle.vbi_field.proofs.Common.{most_rows, tries, device_of, failures_of, NoError, IsSameDevice, Puts, Wrote}
use Rattle.vbi_field.proofs.Common.{WrotePart, Outlet, drawn_line_of, word_at, WordRow, length-drawn_line_of, List}
use Rattle.vbi_field.proofs.Common.{Option, None}
use Rattle.vbi_field.specs.Outlet.{counted_of}
use Rattle.vbi_field.specs.Draws.{drawn_field_of}
use Rattle.vbi_field.proofs.Counts.{sizes_of}
use Rattle.vbi_field.proofs.DrawnLemmas.{drawn_rows_of, drawn_rows_of-more, drawn_rows_of-none, drawn_rows_of-all}
use Rattle.vbi_field.proofs.DrawnLemmas.{drawn_rows_of-split, last_word}
use Rattle.vbi_field.proofs.Devices.{wrote_whole, put_in_part, longer_part, later_part}

module _ {W : Type 0} (contents : W → Option (List ℕ)) (c : ConfigView) (words : WordRow) (old : Outlet W) where
  -- this number of rows is written, and the line has the last of them
  pub record Putting (now : Outlet W) (line : List ℕ) (row : ℕ) : Type 0 where
    pub appended : Appends (contents (device_of (counted_of old))) (contents (device_of (counted_of now)))
        (drawn_rows_of c words row)
    pub written : now.written ≡ old.written + length (drawn_rows_of c words row)
    pub small : now.written ≤ old.written + line_bytes Pal * row
    pub least : (failures_of (counted_of old)).all ≤ (failures_of (counted_of now)).all
    pub most : (failures_of (counted_of now)).all
        ≤ (failures_of (counted_of old)).all + tries * (length (drawn_rows_of c words row) + row)
    pub errors : NoError (counted_of old) (counted_of now)
    pub same : IsSameDevice (counted_of old) (counted_of now)
    pub drawn : line ≡ drawn_line_of c.system c.levels (word_at words (row - 1))

  pub Putting-none : (line : List ℕ) → line ≡ drawn_line_of c.system c.levels None → Putting old line 0
  Putting-none line e = search (rules, drawn_rows_of-none)

-- the length of a drawn line
long_line : (c : ConfigView) (line : List ℕ) (word : Option ℕ) → line ≡ drawn_line_of c.system c.levels word
    → length line ≡ line_bytes c.system
long_line c line word e = ap length e ∙ length-drawn_line_of c.system c.levels word

module _ {W : Type 0} {contents : W → Option (List ℕ)} {c : ConfigView} {words : WordRow} {old now : Outlet W}
    {before : List ℕ} {row : ℕ} (p : Putting contents c words old now before row) where
  -- one row more
  pub Putting-more : {new : Outlet W} {line : List ℕ} → line ≡ drawn_line_of c.system c.levels (word_at words row)
      → Puts contents now new line → new.written ≡ now.written + length line → NoError (counted_of now) (counted_of new)
      → IsSameDevice (counted_of now) (counted_of new) → Putting contents c words old new line (row + 1)
  Putting-more {new} {line} e puts ok no_error same =
      let sizes = sizes_of c.system in
      let long = long_line c line (word_at words row) e in
      let joined : drawn_rows_of c words (row + 1) ≡ drawn_rows_of c words row ++ line
      = drawn_rows_of-more c words row ∙ ap (λ (l : List ℕ). drawn_rows_of c words row ++ l) (sym e) in
      let longer = ap length joined ∙ length-append (drawn_rows_of c words row) line in
      let w = p.written in
      let small = p.small in
      let least = p.least in
      let most = p.most in
      let w2 = puts.written in
      let least2 = puts.least in
      let most2 = puts.most in
      let back : row + 1 - 1 ≡ row = omega arith in
      record {
        appended =
            rw joined
            (Appends-trans _ _ _ (drawn_rows_of c words row) line p.appended
            (let wrote = wrote_whole contents now new line puts ok in wrote.appended));
        written = omega arith;
        small = omega arith;
        least = omega arith;
        most = omega arith;
        errors = no_error ∙ p.errors;
        same = same ∙ p.same;
        drawn = e ∙ ap (λ (r : ℕ). drawn_line_of c.system c.levels (word_at words r)) (sym back);
      }

  -- the field is written
  pub put_whole : row ≡ height_of c.system
      → Wrote contents old now (drawn_field_of c words) × (before ≡ drawn_line_of c.system c.levels None)
      × ((failures_of (counted_of now)).all ≤ (failures_of (counted_of old)).all
      + tries * (length (drawn_field_of c words) + most_rows))
  put_whole e = grind (arith, drawn_rows_of, drawn_rows_of-all, last_word)

  -- the writer failed in this row
  pub put_part : {new : Outlet W} {line : List ℕ} → row < height_of c.system
      → line ≡ drawn_line_of c.system c.levels (word_at words row) → (puts : Puts contents now new line)
      → new.written < now.written + length line
      → WrotePart contents old new (drawn_field_of c words)
      × ((failures_of (counted_of new)).all ≤ (failures_of (counted_of old)).all
      + tries * (length (drawn_field_of c words) + most_rows))
  put_part {new} {line} inside e puts less =
      let base = drawn_rows_of c words row in
      let split = drawn_rows_of-split c words (row + 1) (omega arith) in
      let joined : drawn_rows_of c words (row + 1) ≡ base ++ line = drawn_rows_of-more c words row
      ∙ ap (λ (l : List ℕ). base ++ l) (sym e) in
      let field : (base ++ line) ++ split.0 ≡ drawn_field_of c words =
      sym (split.1 ∙ ap (λ (l : List ℕ). l ++ split.0) joined) in
      let long = ap length field in
      let longer = length-append (base ++ line) split.0 in
      let long2 = length-append base line in
      let most = p.most in
      let most2 = puts.most in
      let within = puts.within in
      let sizes = sizes_of c.system in
      let first : Wrote contents old now base = record { appended = p.appended; written = p.written } in
      let P : List ℕ → Type 0 = WrotePart contents old new in (
        subst P field
            (longer_part contents old new (base ++ line) split.0
            (later_part contents old now new base line first (put_in_part contents now new line puts less))),
        omega arith,
      )
