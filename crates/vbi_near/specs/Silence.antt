-- Lines that say nothing, known before their nearest code is: their nearest word isn't said, and each code is farther
-- than one that is said may be, or not far enough ahead of another.
use Rattle.std.specs.Prelude.{◌≡◌, ◌≤◌, ◌<◌, ◌⊎◌, ℕ, ◌&&◌, Bool, false, IsTrue, is_some, nat_le, List, Option, Some}
use Rattle.std.specs.Prelude.{None}
use Rattle.vbi_near.specs.Common.{Slicing, Samples, Shades, unit_of}
use Rattle.vbi_near.specs.Leads.{Look, IsSeen, all_codes, IsLead, IsClose}
use Rattle.vbi_near.specs.Rows.{word_cost_by, code_cost_by, IsRowOf, IsNearCode}
use Rattle.vbi_near.specs.WordRule.{is_ahead, is_clear, said_of, said_if}
use Rattle.vbi_near.specs.{declared.word_search.Found.Found, declared.near.Near.Near}
use Rattle.vbi_near.specs.{declared.word_rule.Nearest.Nearest, declared.near.Nears.Nears}
use Rattle.vbi_near.specs.{declared.margins.Margins.Margins, declared.sums.Sums.Sums, LineCodes.codes_of}
use Rattle.vbi_near.specs.{LineCodes.IsOneOf, Candidates.Lines, Candidates.HasNear, Candidates.HasNearIf}

-- whatever nearest words this many lines have, they say none
abbrev pub AreSilent : Margins → ℕ → Lines → Type 0
AreSilent margins count of = (near : Nears) → HasNear of near → said_of (unit_of of.slicing) margins count near ≡ None

-- the nearest words of this many lines, or none if they say nothing by these margins
abbrev pub HasNearUnlessSilent : Margins → ℕ → Lines → Option Nears → Type 0
HasNearUnlessSilent margins count of None = AreSilent margins count of
HasNearUnlessSilent margins count of (Some near) = HasNear of near

-- the nearest words of this many lines if they can have them, or none if they say nothing by these margins
abbrev pub HasNearIfUnlessSilent : Margins → ℕ → Lines → Bool → Option Nears → Type 0
HasNearIfUnlessSilent margins count of can None = (near : Option Nears) → HasNearIf of can near
    → said_if (unit_of of.slicing) margins count near ≡ None
HasNearIfUnlessSilent margins count of can (Some near) = HasNearIf of can (Some near)

-- ---- as it is found out

-- this many lines say their nearest word, if they say no code
abbrev pub says_word : ℕ → Margins → ℕ → Nearest → Bool
says_word unit margins lines word =
    is_some word.near.word && is_clear unit margins.other margins.ends lines word

-- this may be a code that is said: it is within the limit, and so far ahead of any other code
abbrev pub may_say : ℕ → ℕ → ℕ → Near → Bool
may_say unit columns limit code = is_some code.word && nat_le code.distance limit && is_ahead unit columns code

-- of the codes on a line that begin before column n those that may be within a limit were looked at, and this leads
pub record IsLeadWithin (sums : Sums) (line limit n : ℕ) (lead : Found) : Type 0 where
  pub looks : List Look
  pub is : IsLead (code_cost_by sums) (IsSeen looks) lead
  pub are : (start word : ℕ) → IsSeen looks start word → all_codes (codes_of sums.system line) sums.system start word
  pub rest : (start word : ℕ) → start < n → IsOneOf (codes_of sums.system line) word
      → IsSeen looks start word ⊎ (limit < word_cost_by sums start word)
  pub close : IsClose lead

-- if the nearest code is within the limit, this one is as near, and no less far ahead of any other
abbrev pub StandsFor : ℕ → Near → Near → Type 0
StandsFor limit near code = IsTrue (is_some near.word) → near.distance ≤ limit
    → IsTrue (is_some code.word) × (code.distance ≡ near.distance) × (near.rival ≤ code.rival)

-- the nearest code of lines with these sums isn't said
abbrev pub IsUnsaid : Sums → ℕ → ℕ → ℕ → ℕ → Type 0
IsUnsaid sums line unit columns limit = (slicing : Slicing) (lines : List Samples) (costs : Shades) (near : Near)
    → IsRowOf sums slicing lines costs → IsNearCode sums.system line slicing lines near
    → may_say unit columns limit near ≡ false
