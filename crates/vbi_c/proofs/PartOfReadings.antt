-- What the fields of a part of a capture show is a part of what those of the whole show.
use Rattle.std.proofs.Common.{ℕ, ◌+◌, List, map, ap, sym, ◌∙◌}
use Rattle.std.specs.Prelude.{option_map}
use Rattle.std.proofs.lemmas.Option.{slice_get-map}
use Rattle.vbi_c.specs.Types.{Number, Sightings, LdvbiFieldReadings, Judging, Pace}
use Rattle.vbi_side.specs.Numbers.{IsAnswer}
use Rattle.vbi_side.specs.Parts.{IsPart}
use Rattle.vbi_side.proofs.Parts.{same_in_part}
use Rattle.vbi_c.specs.Judging.{seen_in, IsAskedPace, IsJudgedField}

shown_part : (judging : Judging) (whole part : List LdvbiFieldReadings) (first i : ℕ)
    → IsPart LdvbiFieldReadings whole part first i
    → IsPart Sightings (map (seen_in judging) whole) (map (seen_in judging) part) first i
shown_part judging whole part first i is = record {
  before = is.before;
  same = λ j within. slice_get-map (seen_in judging) part j
      ∙ ap (option_map (seen_in judging)) (is.same j within)
      ∙ sym (slice_get-map (seen_in judging) whole (first + j));
}

pub judged_field : (judging : Judging) (readings : List LdvbiFieldReadings) (field : ℕ) (number : Number)
    (pace : Pace) → IsAskedPace judging (map (seen_in judging) readings) pace
    → IsAnswer pace (map (seen_in judging) readings) field number → IsJudgedField judging readings field number pace
judged_field judging readings field number pace asked answer = record {
  pace_is = asked;
  answer = answer;
  of_whole = λ whole first is. (same_in_part pace (map (seen_in judging) whole) (map (seen_in judging) readings)
      first field number (shown_part judging whole readings first field is)).0 answer;
}
