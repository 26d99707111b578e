-- The pace that is found: of the pictures of NTSC film if over a tenth more numbers are believed by it than by that
-- of video, else video.
use Rattle.std.specs.Prelude.{◌≡◌, ℕ, zero, suc, ◌*◌, nat_lt, if◌then◌else◌, ◌⊎◌, List, length}
use Rattle.vbi_side.specs.Types.{System, Ntsc, Pal, Counted, Pictures, Times, Sightings, Pace, Video, Film}
use Rattle.vbi_side.specs.Beliefs.{Believed}

-- so many of the first fields show a number that is believed
abbrev pub IsCount : Pace → List Sightings → ℕ → ℕ → Type 0
IsCount pace fields zero count = count ≡ 0
IsCount pace fields (suc n) count =
    ((m fewer : ℕ) × Believed pace fields n m × IsCount pace fields n fewer × (count ≡ suc fewer))
    ⊎ (((m : ℕ) → Believed pace fields n m → ⊥) × IsCount pace fields n count)

-- the pace by which this many numbers are believed, at that of video and at that of film: film if over a tenth more
-- are believed by it, else video
abbrev pub pace_by : ℕ → ℕ → Pace
pace_by video film = if nat_lt (11 * video) (10 * film) then Film else Video

-- the pace is the one by which more numbers are believed
abbrev pub IsMore : List Sightings → Pace → Type 0
IsMore fields pace = (video film : ℕ) × IsCount Video fields (length fields) video
    × IsCount Film fields (length fields) film × (pace ≡ pace_by video film)

-- the pace that is found: only the pictures of NTSC may be film
abbrev pub IsFound : System → Counted → List Sightings → Pace → Type 0
IsFound Ntsc Pictures fields pace = IsMore fields pace
IsFound Ntsc Times fields pace = pace ≡ Video
IsFound Pal counted fields pace = pace ≡ Video
