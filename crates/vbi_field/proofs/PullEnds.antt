-- How a run ends that fetched less than a row: its reader ended or failed, or too many bytes came.
use Rattle.vbi_field.proofs.Common.{◌≡◌, ℕ, ◌+◌, ◌*◌, ◌≤◌, ◌<◌, inl, inr, ◌++◌, length, take, refl, sym, ap, ◌∙◌, arith}
use Rattle.vbi_field.proofs.Common.{subst, Result, Ok, Err, IsErrAnd, Appends-trans, Consumes-trans, length-append}
use Rattle.vbi_field.proofs.Common.{take_at, le_of_eq, le_trans, zero-mul, width_of, height_of, line_bytes, ConfigView}
use Rattle.vbi_field.proofs.Common.{allowed_bytes, NoError, Outlet, Full, Intake, Runs, TakesLine, PutsTail, EndsInside}
use Rattle.vbi_field.proofs.Common.{RunFault, Summary, Read, TooManyFields, over, fields_of, rest_of, looks_of}
use Rattle.vbi_field.proofs.Common.{selected, whole_text, Kind, Progress, List, Option}
use Rattle.std.specs.Prelude.{IfErr}
use Rattle.vbi_line.specs.Intake as intakes
use Rattle.vbi_line.specs.declared.intake.Filled.{Filled}
use Rattle.vbi_line.specs.declared.intake.Filled.TheVariants.{Ended}
use Rattle.vbi_field.specs.Extracts.{AnswersAtLimit, EndsAtLimit}
use Rattle.vbi_field.specs.Stream.{cut_of}
use Rattle.vbi_field.specs.Texts.{text_before_tail}
use Rattle.vbi_field.proofs.Counts.{sizes_of, all_fields, bytes_of_fields, rows_fit, whole_fields, past_fields}
use Rattle.vbi_field.proofs.Counts.{selected_is, selected_past}
use Rattle.vbi_field.proofs.FeedTexts.{begun_same}
use Rattle.vbi_field.proofs.AddedRows.{fields_at}
use Rattle.vbi_field.proofs.Devices.{has_failed, inside_of, wrote_whole, put_in_part}
use Rattle.vbi_field.proofs.PullFaults.{write_fault}
use Rattle.vbi_field.proofs.Pulled.{Pulled}

module _ {t : Kind} {R W : Type 0} {remaining : R → Option (List ℕ)} {contents : W → Option (List ℕ)} {c : ConfigView}
    {i0 : Intake R} {o0 : Outlet W} {k : ℕ} {i : Intake R} {o : Outlet W} {p : Progress}
    (g : Pulled t remaining contents c i0 o0 k i o p) where
  -- these bytes b were fetched after z, less than a row
  module _ (b : List ℕ) (short : length b < line_bytes c.system) where
    long : length (g.z ++ b) ≡ (p.fields * height_of c.system + p.row) * line_bytes c.system + length b
    long = let at = g.at in length-append g.z b ∙ ap (λ n. n + length b) at.whole

    -- the whole fields
    fields_are : fields_of c (g.z ++ b) ≡ p.fields
    fields_are = grind (arith, whole_fields, long)

    -- the bytes past the whole fields
    rest_is : rest_of c (g.z ++ b) ≡ p.row * line_bytes c.system + length b
    rest_is = let at = g.at in past_fields c.system (length (g.z ++ b)) p.fields p.row (length b) at.inside short long

    -- what was looked at
    looks_are : i.line.looked ≡ looks_of c (g.z ++ b)
    looks_are = grind (arith, selected_is, long)

    -- the text that is written by then
    begun_is : text_before_tail t c g.z ≡ text_before_tail t c (g.z ++ b)
    begun_is = begun_same t c g.z b (fields_are ∙ sym (fields_at c g.z p g.at))

    -- how many bytes were fetched
    all : length (g.z ++ b) ≡ k * line_bytes c.system + length b
    all = long ∙ ap (λ m. m * line_bytes c.system + length b) g.rows

  -- the reader ended, and the tail was put, or not
  pub ended : {i' : Intake R} {o' : Outlet W} (n : ℕ) (row : TakesLine remaining i i' (Ok (Ended n)))
      {fields rest looked : ℕ} → fields ≡ p.fields
      → rest ≡ p.row * line_bytes c.system + n → k * line_bytes c.system + n ≤ allowed_bytes c
      → looked ≡ i'.line.looked → (r : Result Summary RunFault) → PutsTail t contents o o' fields rest looked r
      → Runs t c (over remaining i0 i') (over contents o0 o') r
  ended {i'} {o'} n row {fields} {rest} {looked} fs rs within ls r tail = by r tail
    where
      b : List ℕ
      b = row.bytes

      short : length b < line_bytes c.system
      short = let got = row.got in rw (← g.system) got.short

      is_fields : fields ≡ fields_of c (g.z ++ b)
      is_fields = fs ∙ sym (fields_are b short)

      is_rest : rest ≡ rest_of c (g.z ++ b)
      is_rest = grind (arith, rest_is, b, short)

      looks : i'.line.looked ≡ looks_of c (g.z ++ b)
      looks = let kept = row.fetches.kept in kept.looked ∙ looks_are b short

      few : length (g.z ++ b) ≤ allowed_bytes c
      few = grind (arith, le_trans, le_of_eq, all, b, short)

      -- the text of the stream
      document_is : text_before_tail t c g.z ++ t.tail fields rest ≡ whole_text t c (g.z ++ b)
      document_is = grind (arith, begun_is, b, short, is_fields, is_rest)

      by : (r : Result Summary RunFault) → PutsTail t contents o o' fields rest looked r
          → Runs t c (over remaining i0 i') (over contents o0 o') r
      by (Ok s) tail =
          let got = row.got in
          let says = tail.ok in
          let wrote = wrote_whole contents o o' (t.tail fields rest) tail.puts tail.written in
          record {
            z = g.z ++ b;
            text = text_before_tail t c g.z ++ t.tail fields rest;
            consumed = Consumes-trans _ _ _ g.z b g.consumed row.fetches.consumed;
            appended = Appends-trans _ _ _ (text_before_tail t c g.z) (t.tail fields rest) g.appended wrote.appended;
            fetched = omega (arith, row.fetches.fetched, g.fetched, length-append g.z b);
            written = omega (arith, g.written, length-append (text_before_tail t c g.z) (t.tail fields rest));
            says = record {
              looks = looks;
              devices = (got.no_error ∙ g.calm_reads, tail.no_error ∙ g.calm_writes);
              came =
                  record {
                    document = document_is;
                    at_end = got.at_end;
                    within = few;
                    summary = λ j. record {
                      fields = (ap (λ s. s.fields) says ∙ is_fields) j;
                      cut = (ap (λ s. s.cut) says ∙ ap cut_of is_rest) j;
                      looked = (ap (λ s. s.looked) says ∙ ls ∙ looks) j;
                    };
                  };
            };
          }
      by (Err e) tail =
          let got = row.got in
          let text : List ℕ = t.tail fields rest in
          let w = put_in_part contents o o' text tail.puts tail.short in
          let P : List ℕ
          → Type 0 = λ x. EndsInside x (whole_text t c (g.z ++ b)) (text_before_tail t c g.z ++ w.part) in
          let inside =
          inside_of contents o o' (text_before_tail t c g.z) text (whole_text t c (g.z ++ b)) w document_is in
          write_fault t remaining contents c i0 o0 i' o o' (g.z ++ b) (text_before_tail t c g.z) w.part e
          (Consumes-trans _ _ _ g.z b g.consumed row.fetches.consumed)
          (omega (arith, row.fetches.fetched, g.fetched, length-append g.z b)) g.appended g.written
          (got.no_error ∙ g.calm_reads) g.calm_writes w.wrote tail.failed tail.fault few looks
          (inr (inr (got.at_end, subst P (begun_is b short) inside)))

  -- the reader failed
  pub read_fault : {i' : Intake R} {came : RunFault} (row : TakesLine remaining i i' (Err came))
      → k ≤ c.max_fields * height_of c.system → (r : Result Summary RunFault)
      → IsErrAnd r (λ e. e ≡ Read (p.fields + 1) (p.row * line_bytes c.system + length (intakes.held_of i')))
      → Runs t c (over remaining i0 i') (over contents o0 o) r
  read_fault row last (Ok s) is = absurd is
  read_fault {i'} row last (Err fault) is =
      let b : List ℕ = row.bytes in
      let got = row.got in
      let short : length b < line_bytes c.system = rw (← g.system) got.0 in
      let held = ap length (row.fetches.held ∙ ap (λ h. h ++ b) g.held) in
      let kept = row.fetches.kept in
      let rows : k * line_bytes c.system ≤ allowed_bytes c = rows_fit c.system k c.max_fields last in
      let bytes = all b short in
      record {
        z = g.z ++ b;
        text = text_before_tail t c g.z;
        consumed = Consumes-trans _ _ _ g.z b g.consumed row.fetches.consumed;
        appended = g.appended;
        fetched = omega (arith, row.fetches.fetched, g.fetched, length-append g.z b);
        written = g.written;
        says = rw is (record {
          looks = kept.looked ∙ looks_are b short;
          devices = (has_failed i.device i'.device g.calm_reads got.1, g.calm_writes);
          came =
              record {
                field_of = ap (λ n. n + 1) (sym (fields_are b short));
                offset_of = ap (λ n. p.row * line_bytes c.system + n) held ∙ sym (rest_is b short);
                within = omega arith;
                begun = begun_is b short;
              };
        });
      }

  -- some bytes were fetched past the last field that is allowed, a line's at most
  pub too_many : {i' : Intake R} {came : Result Filled RunFault} (row : TakesLine remaining i i' came)
      → k ≡ c.max_fields * height_of c.system → 0 < length row.bytes → length row.bytes ≤ line_bytes i.line.system
      → NoError (intakes.counted_of i) (intakes.counted_of i')
      → Runs t c (over remaining i0 i') (over contents o0 o) (Err TooManyFields)
  too_many row last some few no_error =
      let b : List ℕ = row.bytes in
      let kept = row.fetches.kept in
      let at = g.at in
      let rows : p.fields * height_of c.system + p.row ≡ c.max_fields * height_of c.system = g.rows ∙ last in
      let long : length g.z ≡ allowed_bytes c = at.whole ∙ ap (λ n. n * line_bytes c.system) rows
      ∙ sym (bytes_of_fields c.system c.max_fields) in
      let cut : take (allowed_bytes c) (g.z ++ b) ≡ g.z = take_at g.z b _ long in
      let all = all_fields c.system p.fields p.row c.max_fields at.inside rows in
      let few' : length b ≤ line_bytes c.system = rw (← g.system) few in
      let both : length (g.z ++ b) ≡ allowed_bytes c + length b = length-append g.z b ∙ ap (λ n. n + length b) long in
      record {
        z = g.z ++ b;
        text = text_before_tail t c g.z;
        consumed = Consumes-trans _ _ _ g.z b g.consumed row.fetches.consumed;
        appended = g.appended;
        fetched = omega (arith, g.fetched, row.fetches.fetched, length-append g.z b);
        written = g.written;
        says = record {
          devices = (no_error ∙ g.calm_reads, g.calm_writes);
          came = record { more = omega arith; within = omega arith; begun = ap (text_before_tail t c) (sym cut) };
          looks = kept.looked ∙ g.looks
              ∙ ap (λ n. width_of c.system * n) (ap (λ f. selected f p.row) all.0 ∙ ap (selected c.max_fields) all.1
              ∙ sym (selected_past c.system (length (g.z ++ b)) c.max_fields (length b) both few'));
        };
      }

  -- the answer after all fields that are allowed
  pub at_limit : {i' : Intake R} {o' : Outlet W} (r : Result Summary RunFault) → k ≡ c.max_fields * height_of c.system
      → EndsAtLimit t remaining contents p.fields (p.row * line_bytes c.system) i i' o o' r
      → Runs t c (over remaining i0 i') (over contents o0 o') r
  at_limit {i'} {o'} r last e = by e.got e.takes e.fault e.answers
    where
      by : (came : Result Filled RunFault) → TakesLine remaining i i' came
          → IfErr came (λ f. f ≡ Read (p.fields + 1) (p.row * line_bytes c.system + length (intakes.held_of i')))
          → AnswersAtLimit t contents o o' p.fields i'.line.looked came r
          → Runs t c (over remaining i0 i') (over contents o0 o') r
      by (Ok (Ended n)) row fault (inl (none, tail)) =
          let at = g.at in
          let all = all_fields c.system p.fields p.row c.max_fields at.inside (g.rows ∙ last) in
          let rows = rows_fit c.system k c.max_fields (le_of_eq last) in
          ended n row refl (rw all.1 (omega (arith, zero-mul (line_bytes c.system), none))) (omega (arith, none, rows))
          refl r tail
      by (Ok (Ended n)) row fault (inr (some, same, is)) =
          let got = row.got in
          rw (same, is) (too_many row last (omega (arith, got.count_of)) (omega (arith, got.short)) got.no_error)
      by (Ok Full) row fault (same, is) =
          let got = row.got in
          let sizes = sizes_of i.line.system in
          rw (same, is) (too_many row last (omega (arith, got.0)) (le_of_eq got.0) got.1)
      by (Err came) row fault (same, is) = rw (same, is) (read_fault row (le_of_eq last) (Err came) fault)
