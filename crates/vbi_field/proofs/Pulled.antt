-- What a run keeps from row to row, and that it holds before the first row.
use Rattle.vbi_field.proofs.Common.{◌≡◌, ℕ, ◌+◌, ◌*◌, ◌≤◌, ◌<◌, [], length, refl, sym, ap, ◌∙◌, arith, Consumes}
use Rattle.vbi_field.proofs.Common.{Appends, Consumes-nil, zero-div, width_of, height_of, line_bytes, field_bytes}
use Rattle.vbi_field.proofs.Common.{System, ConfigView, Ntsc, Pal, tries, device_of, failures_of, NoError, IsSameDevice}
use Rattle.vbi_field.proofs.Common.{Outlet, Intake, IsProgress, Progress, selected, Kind, List, Option, None}
use Rattle.vbi_field.specs.ConfigView.{longest_text}
use Rattle.vbi_line.specs.Intake as intakes
use Rattle.vbi_field.specs.Outlet as outlets
use Rattle.vbi_field.specs.Texts.{text_before_tail}
use Rattle.vbi_field.proofs.Entries.{stood-none, text_before_tail-stood}
use Rattle.vbi_field.proofs.Devices.{wrote_whole}

-- before the first row
record Starts (s : System) (f r : ℕ) : Type 0 where
  pub bytes : (f * height_of s + r) * line_bytes s ≡ 0
  pub rows : f * height_of s + r ≡ 0
  pub inside : r < height_of s
  pub looks : width_of s * selected f r ≡ 0

starts : (s : System) → Starts s 0 0
starts Ntsc = record { bytes = refl; rows = refl; inside = omega arith; looks = refl }
starts Pal = record { bytes = refl; rows = refl; inside = omega arith; looks = refl }

-- fresh devices have given no error
pub calm_reader : {R : Type 0} (c : ConfigView) (i0 : Intake R) → intakes.IsFresh i0 c.system
    → (failures_of (intakes.counted_of i0)).errors ≡ 0
calm_reader c i0 fresh = let d = i0.device in omega (arith, fresh.failures, d.failed)

pub calm_writer : {W : Type 0} (o0 : Outlet W) → outlets.IsFresh o0 → (failures_of (outlets.counted_of o0)).errors ≡ 0
calm_writer o0 clean = let d = o0.device in omega (arith, clean.failures, d.failed)

module _ (t : Kind) {R W : Type 0} (remaining : R → Option (List ℕ)) (contents : W → Option (List ℕ)) (c : ConfigView)
    (i0 : Intake R) (o0 : Outlet W) where
  -- this number of rows was taken, and the text that is due with them was written
  pub record Pulled (k : ℕ) (i : Intake R) (o : Outlet W) (p : Progress) : Type 0 where
    pub z : List ℕ
    pub consumed : Consumes (remaining (device_of (intakes.counted_of i0)))
        (remaining (device_of (intakes.counted_of i))) z
    pub fetched : i.fetched ≡ length z
    pub long : length z ≤ line_bytes Pal * k
    pub reads : (failures_of (intakes.counted_of i)).all ≤ tries * (line_bytes Pal + 1) * k
    pub appended : Appends (contents (device_of (outlets.counted_of o0)))
        (contents (device_of (outlets.counted_of o))) (text_before_tail t c z)
    pub written : o.written ≡ length (text_before_tail t c z)
    pub small : o.written ≤ longest_text * (p.fields + 1)
    pub writes : (failures_of (outlets.counted_of o)).all ≤ tries * (longest_text + 1) * (p.fields + 1)
    pub calm_reads : (failures_of (intakes.counted_of i)).errors ≡ 0
    pub calm_writes : (failures_of (outlets.counted_of o)).errors ≡ 0
    pub at : IsProgress c z p
    pub rows : p.fields * height_of c.system + p.row ≡ k
    pub few : p.fields ≤ c.max_fields
    pub system : i.line.system ≡ c.system
    pub held : i.line.held ≡ []
    pub cursors : i.line.cursors ≡ []
    pub looked : i.line.looked ≤ line_bytes Pal * k
    pub looks : i.line.looked ≡ width_of c.system * selected p.fields p.row
    pub same_reader : IsSameDevice (intakes.counted_of i0) (intakes.counted_of i)
    pub same_writer : IsSameDevice (outlets.counted_of o0) (outlets.counted_of o)

  -- before the first row
  pub start : (o : Outlet W) (p : Progress) (text : List ℕ) → intakes.IsFresh i0 c.system → outlets.IsFresh o0
      → text ≡ t.head c → length text ≤ longest_text → outlets.Puts contents o0 o text
      → o.written ≡ o0.written + length text → NoError (outlets.counted_of o0) (outlets.counted_of o)
      → IsSameDevice (outlets.counted_of o0) (outlets.counted_of o)
      → p.fields ≡ 0 → p.row ≡ 0 → p.readings ≡ record { first = None; second = None; third = None }
      → Pulled 0 i0 o p
  start o p text fresh clean is few puts whole no_error same fields row readings =
      let begun : text_before_tail t c [] ≡ text = text_before_tail-stood t c [] 0 (zero-div (field_bytes c.system))
      ∙ stood-none t c []
      ∙ sym is in
      let wrote = wrote_whole contents o0 o text puts whole in
      let l = ap length begun in
      let first : Starts c.system p.fields p.row = rw (fields, row) (starts c.system) in
      let none = clean.written in
      record {
        z = [];
        consumed = Consumes-nil _;
        fetched = fresh.fetched;
        long = omega arith;
        reads = omega (arith, fresh.failures);
        appended = rw begun wrote.appended;
        written = omega arith;
        small = omega arith;
        writes = omega (arith, puts.most, puts.written, clean.failures);
        calm_reads = calm_reader c i0 fresh;
        calm_writes = no_error ∙ calm_writer o0 clean;
        at = record {
          whole = sym first.bytes;
          inside = first.inside;
          first = ap (λ m. m.first) readings ∙ rw row refl;
          second = ap (λ m. m.second) readings ∙ rw row refl;
          third = ap (λ m. m.third) readings ∙ rw row refl;
        };
        rows = first.rows;
        few = omega arith;
        system = fresh.system;
        held = fresh.held;
        cursors = fresh.cursors;
        looked = omega (arith, fresh.looked);
        looks = fresh.looked ∙ sym first.looks;
        same_reader = refl;
        same_writer = same;
      }
