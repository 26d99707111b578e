-- What the bytes up to the end of a row do to a feeder.
use Rattle.vbi_field.proofs.Common.{◌≡◌, ℕ, ◌+◌, ◌≤◌, ◌<◌, cond, [], ◌++◌, length, take, drop, refl, sym, ap, ◌∙◌}
use Rattle.vbi_field.proofs.Common.{arith, append_assoc, Result, Err, Ok, IsErrAnd, IsTrue, ◌↔◌, length-append}
use Rattle.vbi_field.proofs.Common.{take-append-drop, take_at, width_of, height_of, line_bytes, System, ConfigView}
use Rattle.vbi_field.proofs.Common.{allowed_bytes, row_levels, Reading, reading_of, Line, document, ExtendsInPart}
use Rattle.vbi_field.proofs.Common.{IsTextBetween, Outlet, IsAt, IsFed, IsFeederState, IsStep, position_in, IsProgress}
use Rattle.vbi_field.proofs.Common.{IsLineOf, MovesOneRow, AddsRow, Progress, RunFault, Write, TooManyFields, Bool}
use Rattle.vbi_field.proofs.Common.{false, List, append-nil, Option, Some, None}
use Rattle.vbi_field.specs.ConfigView.{most_fields}
use Rattle.vbi_field.specs.Texts.{text_before_tail}
use Rattle.vbi_field.proofs.Counts.{row_before, row_fits, exactly_fields}
use Rattle.vbi_field.proofs.Positions.{Split, split_of, split_fields, split_long, at_of}
use Rattle.vbi_field.proofs.FeedTexts.{begun_same, begun_grows, completes_twice, cut_longer}
use Rattle.vbi_field.proofs.AddedRows.{fields_at}
use Rattle.vbi_field.proofs.Devices.{wrote_none, longer_part}

pub not_full : (b : Bool) (P : Type 0) → (IsTrue b ↔ P) → b ≡ false → P → ⊥
not_full b P iff e p = let t = iff.1 p in cc

-- the line that is held is a row
row_held : (c : ConfigView) (s : System) (is_selected : Bool) (b : List ℕ) (row : ℕ) (o : Option Reading)
    → (IsTrue is_selected ↔ ((15 ≤ row) × (row ≤ 17))) → s ≡ c.system → length b ≡ line_bytes s
    → o ≡ cond is_selected (Some (reading_of s (row_levels c.levels b))) None → IsLineOf c b row o
row_held c s is_selected b row o selects ss whole shows = grind arith

-- where the line is held no longer, and its row was added
pub stand_next : (c : ConfigView) (l l' : Line) (p p' : Progress) (is_selected : Bool)
    → (IsTrue is_selected ↔ ((15 ≤ p.row) × (p.row ≤ 17)))
    → IsFeederState c l p → l'.system ≡ c.system → l'.cursors ≡ [] → l'.held ≡ [] → p'.row < height_of c.system
    → MovesOneRow c p p'
    → p.fields < c.max_fields → c.max_fields ≤ most_fields
    → l'.looked ≡ l.looked + cond is_selected (width_of c.system) 0
    → IsFeederState c l' p'
stand_next c l l' p p' is_selected selects st system cursors held inside next left most looked = grind arith

module _ {W : Type 0} (contents : W → Option (List ℕ)) {c : ConfigView} {l : Line} {p : Progress}
    (st : IsFeederState c l p) {z : List ℕ} (at : IsAt c z (position_in c l p)) where
  before : Split c z l.held p
  before = split_of c z l p st.short st.inside at

  -- no byte more is allowed
  pub too_many : (o : Outlet W) (bytes : List ℕ) → 0 < length bytes → p.fields ≡ c.max_fields
      → IsFed contents c o o z bytes (position_in c l p) (Err TooManyFields)
  too_many o bytes some last =
      grind (arith, exactly_fields, split_long, before, length-append, append-nil, take_at, wrote_none)

  -- the line holds b now
  module _ (more b : List ℕ) (bs : b ≡ l.held ++ more) (le : length b ≤ line_bytes l.system)
      (left : p.fields < c.max_fields) where
    cut : z ++ more ≡ before.rows ++ b
    cut = ap (λ x. x ++ more) before.split ∙ append_assoc before.rows l.held more ∙ ap (λ x. before.rows ++ x) (sym bs)

    fits : length (z ++ more) ≤ allowed_bytes c
    fits = grind (arith, before, cut, length-append, row_fits, row_before)

    -- nothing is written where no field is whole now
    still : (l' : Line) (p' : Progress) → Split c (z ++ more) l'.held p' → p'.fields ≡ p.fields → (o : Outlet W)
        → IsFed contents c o o z more (position_in c l' p') (Ok tt)
    still l' p' after same o = (
      at_of c (z ++ more) l'.held p' after l' refl fits,
      record {
        text = [];
        due = append-nil (text_before_tail document c z)
            ∙ begun_same document c z more
            (split_fields c (z ++ more) l'.held p' after ∙ same ∙ sym (split_fields c z l.held p before));
        wrote = wrote_none contents o;
      },
    )

    -- the line isn't whole yet
    pub fed_inside : (l' : Line) (o : Outlet W) → l'.held ≡ b → l'.system ≡ l.system
        → (length b ≡ line_bytes l'.system → ⊥) → IsFed contents c o o z more (position_in c l' p) (Ok tt)
    fed_inside l' o e same part =
        let held = ap length e in
        let size = ap line_bytes same in
        let sized = ap line_bytes st.system in
        still l' p (record {
          rows = before.rows;
          split = cut ∙ ap (λ x. before.rows ++ x) (sym e);
          position = before.position;
          short = omega (arith, part);
        }) refl o

    -- the row is whole
    after_row : (l' : Line) (p' : Progress) → l'.held ≡ [] → IsProgress c (before.rows ++ b) p'
        → Split c (z ++ more) l'.held p'
    after_row l' p' e whole = grind (arith, before, cut, append-nil)

    -- the text that is due with the row is that by which the text of the longer stream is longer
    due_more : (text : List ℕ) → IsTextBetween document c before.rows (before.rows ++ b) text
        → IsTextBetween document c z (z ++ more) text
    due_more text due = grind (arith, before, split_fields, fields_at, begun_same, cut)

    -- the row was read, and it is added
    module _ {s : System} (ss : s ≡ l.system) (whole : length b ≡ line_bytes s) {is_selected : Bool}
        (selects : IsTrue is_selected ↔ ((15 ≤ p.row) × (p.row ≤ 17))) {reading : Option Reading}
        (shows : reading ≡ cond is_selected (Some (reading_of s (row_levels c.levels b))) None) where
      came : IsLineOf c b p.row reading
      came = row_held c s is_selected b p.row reading selects (ss ∙ st.system) whole shows

      -- the text that is due with the row was written
      pub fed_row : (l' : Line) (p' : Progress) (o o' : Outlet W) → l'.held ≡ []
          → ((z b : List ℕ) → IsProgress c z p → IsLineOf c b p.row reading
          → AddsRow document contents c o o' z b p' (Ok tt))
          → IsFed contents c o o' z more (position_in c l' p') (Ok tt)
      fed_row l' p' o o' held adds =
          let done = adds before.rows b before.position came in
          let added = done.1 in (
            at_of c (z ++ more) l'.held p' (after_row l' p' held done.0) l' refl fits,
            record { text = added.text; due = due_more added.text added.due; wrote = added.wrote },
          )

      -- the text that is due with the row was written in part
      pub fed_in_part : (l' : Line) (p' : Progress) (o o' : Outlet W)
          → ((z b : List ℕ) → IsProgress c z p → IsLineOf c b p.row reading
          → IsProgress c (z ++ b) p' × ExtendsInPart document contents c o o' z (z ++ b))
          → (bytes : List ℕ) (n : ℕ) (written : ℕ) (r : Result ℕ RunFault) → more ≡ take n bytes
          → IsErrAnd r (λ e. e ≡ Write written) → IsStep contents c o o' z bytes (position_in c l' p') r
      fed_in_part l' p' o o' adds bytes n written (Ok m) front is = absurd is
      fed_in_part l' p' o o' adds bytes n written (Err fault) front is =
          let added = (adds before.rows b before.position came).1 in
          let all : (z ++ more) ++ drop n bytes ≡ z ++ bytes =
          append_assoc z more (drop n bytes) ∙ ap (λ x. z ++ (x ++ drop n bytes)) front
          ∙ ap (λ x. z ++ x) (take-append-drop n bytes) in
          let further = cut_longer (z ++ more) (drop n bytes) (allowed_bytes c) fits in
          let grown = begun_grows document c (z ++ more) further.0 in
          let longer : text_before_tail document c ((z ++ more) ++ further.0) ≡ text_before_tail document c
          (take (allowed_bytes c) (z ++ bytes)) =
          ap (text_before_tail document c) (further.1 ∙ ap (take (allowed_bytes c)) all) in
          rw is (record {
            text = added.text ++ grown.0;
            due = completes_twice document c z (z ++ more) ((z ++ more) ++ further.0) added.text grown.0
                (due_more added.text added.due) grown.1
                ∙ longer;
            wrote = longer_part contents o o' added.text grown.0 added.wrote;
          })
