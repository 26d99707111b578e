-- The record of a field has the words that are recovered of its rows.
use Rattle.std.proofs.Common.{◌≡◌, ◌∙◌, ℕ, ◌+◌, ◌*◌, Bool, List, ◌++◌, length, map, take, drop, refl, ap, sym, subst}
use Rattle.std.proofs.Common.{arith}
use Rattle.std.proofs.lemmas.List.{length-drop, take-append-drop, take_all, drop-drop}
use Rattle.vbi_c.specs.Types.{System, Recovered, LdvbiFieldReadings, Setup}
use Rattle.vbi_words.specs.Geometry.{line_bytes, field_bytes}
use Rattle.vbi_words.specs.Levels.{Slicing}
use Rattle.vbi_near.specs.Recovery.{IsRecovered}
use Rattle.vbi_field.specs.RecoveredDocument.{nears_text_of, recovered_without}
use Rattle.vbi_field.specs.RecoveredRows.{recovery_of, joined_rows, as_readings}
use Rattle.vbi_field.specs.Stream.{rows_in}
use Rattle.vbi_field.proofs.OneShown.{only_shown}
use Rattle.vbi_c.specs.Recovering.{lines_for_c, HasWordsOf, AreRecovered, recovered_for_c}

-- what rows show is three lines
three_lines : (system : System) (slicing : Slicing) (rows : List ℕ) (marks : List Bool) (shown : List Recovered)
    → IsRecovered system slicing rows marks shown
    → record { lines = map recovered_for_c shown } ≡ lines_for_c (as_readings shown)
three_lines system slicing rows marks shown (first, second, third, both, seen, e) =
    subst (λ (l : List Recovered). record { lines = map recovered_for_c l } ≡ lines_for_c (as_readings l)) (sym e) refl

-- three rows that are taken apart and joined are what they were
joined_in : (s : System) (rows : List ℕ) → length rows ≡ 3 * line_bytes s → joined_rows (rows_in s rows) ≡ rows
joined_in s rows long =
    let l : ℕ = line_bytes s in
    let a : 0 * field_bytes s + line_bytes s * 0 ≡ 0 = grind arith in
    let b : 0 * field_bytes s + line_bytes s * 1 ≡ l = grind arith in
    let c : 0 * field_bytes s + line_bytes s * 2 ≡ l + l = grind arith in
    let last : take l (drop (l + l) rows) ≡ drop (l + l) rows =
    take_all l (drop (l + l) rows) (omega (arith, length-drop (l + l) rows, long)) in
    (λ j. take l (drop (a j) rows) ++ (take l (drop (b j) rows) ++ take l (drop (c j) rows)))
    ∙ ap (λ (x : List ℕ). take l rows ++ (take l (drop l rows) ++ x)) (last ∙ sym (drop-drop l l rows))
    ∙ ap (λ (x : List ℕ). take l rows ++ x) (take-append-drop l (drop l rows))
    ∙ take-append-drop l rows

pub has_words_of : (setup : Setup) (number : ℕ) (rows : List ℕ) (marks : List Bool) (readings : LdvbiFieldReadings)
    → length rows ≡ 3 * line_bytes setup.system → AreRecovered setup rows marks readings
    → HasWordsOf setup number rows marks readings
has_words_of setup number rows marks readings long (shown, is, e) =
    let whole = joined_rows (rows_in setup.system rows) in
    let all = recovery_of setup.system setup.levels whole marks in
    let same : shown ≡ all = only_shown setup.system setup.levels rows marks shown is
    ∙ ap (λ (r : List ℕ). recovery_of setup.system setup.levels r marks) (sym (joined_in setup.system rows long)) in
    record {
      lines = as_readings all;
      nears = nears_text_of setup.levels (as_readings all)
          (recovered_without setup.system setup.levels (rows_in setup.system rows) marks);
      same = e ∙ three_lines setup.system setup.levels rows marks shown is
          ∙ ap (λ (l : List Recovered). lines_for_c (as_readings l)) same;
      text = refl;
    }
