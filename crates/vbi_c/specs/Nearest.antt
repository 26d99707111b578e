-- The nearest word of lines, as C sees it.
use Rattle.std.specs.Prelude.{◌≡◌, ℕ, ◌/◌, List, length, unwrap_or}
use Rattle.vbi_words.specs.Geometry.{line_bytes}
use Rattle.vbi_c.specs.Types.{Near, Setup, LdvbiNear}
use Rattle.vbi_near.specs.Distances.{Samples, lines_of}
use Rattle.vbi_near.specs.Nearest.{IsNearest}
use Rattle.vbi_near.specs.LongerSignal.{IsLonger}

-- the nearest word; 0 for none
abbrev pub near_for_c : Near → LdvbiNear
near_for_c near = record {
  word = unwrap_or near.word 0;
  start = near.start;
  distance = near.distance;
  rival = near.rival;
  longer = near.longer;
}

-- the lines in the bytes of a call
abbrev pub lines_in : Setup → List ℕ → List Samples
lines_in setup bytes = lines_of setup.system bytes (length bytes / line_bytes setup.system)

-- this is the nearest word of the lines in these bytes
abbrev pub IsNearestOf : Setup → List ℕ → LdvbiNear → Type 0
IsNearestOf setup bytes answer =
    (near : Near) × (answer ≡ near_for_c near) × IsNearest setup.system setup.levels (lines_in setup bytes) near
    × IsLonger setup.system setup.levels (lines_in setup bytes) near
