-- A run whose writer failed, and a fault that is passed on.
use Rattle.vbi_field.proofs.Common.{◌≡◌, ℕ, ◌+◌, ◌≤◌, ◌<◌, inl, [], ◌++◌, length, refl, sym, ◌∙◌, arith, zero-le}
use Rattle.vbi_field.proofs.Common.{Result, Ok, Err, IsErrAnd, Consumes, Appends, RunFault, Summary, Write, over}
use Rattle.vbi_field.proofs.Common.{Appends-trans, Appends-nil, Consumes-nil, length-append, zero-div, field_bytes}
use Rattle.vbi_field.proofs.Common.{ConfigView, allowed_bytes, device_of, failures_of, HasCause, Outlet, Intake}
use Rattle.vbi_field.proofs.Common.{EndsWithin, Runs, looks_of, Kind, List, Option}
use Rattle.vbi_line.specs.Intake as intakes
use Rattle.vbi_field.specs.Outlet as outlets
use Rattle.vbi_field.specs.Texts.{text_before_tail}
use Rattle.vbi_field.proofs.Counts.{no_looks}
use Rattle.vbi_field.proofs.Entries.{stood-none, text_before_tail-stood}
use Rattle.vbi_field.proofs.Devices.{has_failed, inside_of, put_in_part}
use Rattle.vbi_field.proofs.Pulled.{calm_reader, calm_writer}

module _ (t : Kind) {R W : Type 0} (remaining : R → Option (List ℕ)) (contents : W → Option (List ℕ)) (c : ConfigView)
    (i0 : Intake R) (o0 : Outlet W) where
  -- a text that was put in part
  pub write_fault : (i : Intake R) (o o' : Outlet W) (z base part : List ℕ) (fault : RunFault)
      → Consumes (remaining (device_of (intakes.counted_of i0))) (remaining (device_of (intakes.counted_of i))) z
      → i.fetched ≡ length z
      → Appends (contents (device_of (outlets.counted_of o0))) (contents (device_of (outlets.counted_of o))) base
      → o.written ≡ length base
      → (failures_of (intakes.counted_of i)).errors ≡ 0 → (failures_of (outlets.counted_of o)).errors ≡ 0
      → outlets.Wrote contents o o' part → HasCause (outlets.counted_of o) (outlets.counted_of o')
      → fault ≡ Write o'.written
      → length z ≤ allowed_bytes c → i.line.looked ≡ looks_of c z
      → EndsWithin t c (remaining (device_of (intakes.counted_of i))) z (base ++ part)
      → Runs t c (over remaining i0 i) (over contents o0 o') (Err fault)
  write_fault i o o' z base part fault consumed fetched appended written reads writes wrote cause is within looks inside
      =
      let w = wrote.written in
      let count : o'.written ≡ length (base ++ part) = omega (arith, length-append base part) in
      record {
        z = z;
        text = base ++ part;
        consumed = consumed;
        appended = Appends-trans _ _ _ base part appended wrote.appended;
        fetched = fetched;
        written = count;
        says = rw is (record {
          looks = looks;
          devices = (has_failed o.device o'.device writes cause, reads);
          came = record { count = count; within = within; inside = inside };
        });
      }

  -- the head was put in part
  pub head_fault : (o : Outlet W) (text : List ℕ) → intakes.IsFresh i0 c.system → outlets.IsFresh o0
      → text ≡ t.head c → outlets.Puts contents o0 o text
      → HasCause (outlets.counted_of o0) (outlets.counted_of o)
      → outlets.written_of o < outlets.written_of o0 + length text
      → (r : Result Summary RunFault) → IsErrAnd r (λ e. e ≡ Write o.written)
      → Runs t c (over remaining i0 i0) (over contents o0 o) r
  head_fault o text fresh clean is puts cause short (Ok s) fails = absurd fails
  head_fault o text fresh clean is puts cause short (Err fault) fails =
      let begun : text ≡ text_before_tail t c [] = is
      ∙ sym (text_before_tail-stood t c [] 0 (zero-div (field_bytes c.system)) ∙ stood-none t c []) in
      let looks : i0.line.looked ≡ looks_of c [] = fresh.looked ∙ sym (no_looks c.system) in
      let w = put_in_part contents o0 o text puts short in
      write_fault i0 o0 o [] [] w.part fault (Consumes-nil _) fresh.fetched (Appends-nil _) clean.written
      (calm_reader c i0 fresh) (calm_writer o0 clean)
      w.wrote cause fails (zero-le) looks
      (inl (refl, inside_of contents o0 o [] text (text_before_tail t c []) w begun))
