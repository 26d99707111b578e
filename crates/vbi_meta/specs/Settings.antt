-- The settings that metadata and options give together: refusals in their order, of which the first that holds counts,
-- and the values if none holds. The members are those of ld-decode's `.tbc.json`; the order is this project's own.
use Rattle.std.specs.Prelude.{◌≡◌, ℕ, ◌^◌, ◌==◌, ◌&&◌, ◌||◌, Bool, true, false, not, nat_lt, nat_le, List, [], ◌∷◌}
use Rattle.std.specs.Prelude.{◌++◌, codes, if◌then◌else◌, Option, Some, None, is_some, is_none, option_map}
use Rattle.std.specs.Prelude.{option_and_then, unwrap_or, ◌<◌, ◌≤◌, length, IsUtf8}
use Rattle.std.specs.Option.{option_or, option_map_or}
pub use Rattle.serde_json.specs.Data.{Data, depth}
use Rattle.serde_json.specs.Find.{get, as_bool, as_number, as_str, as_object, as_u64}
use Rattle.vbi_field.specs.ConfigView.{System, ConfigView, most_fields, Ntsc, Pal, width_of, height_of, system_named}
use Rattle.vbi_meta.specs.declared.overrides.Overrides.{Overrides}
use Rattle.vbi_meta.specs.declared.fault.MetaFault.{MetaFault}
use Rattle.vbi_meta.specs.declared.fault.MetaFault.TheVariants.{NoVideoParameters, NoSystem, UnknownSystem}
use Rattle.vbi_meta.specs.declared.fault.MetaFault.TheVariants.{SystemsDisagree, NoBlack, BadBlack, NoWhite, BadWhite}
use Rattle.vbi_meta.specs.declared.fault.MetaFault.TheVariants.{LevelsOrder, WidthDiffers, HeightDiffers, BadMaxFields}
use Rattle.vbi_meta.specs.declared.fault.MetaFault.TheVariants.{TooLarge, NotJson, OutOfMemory}
use Rattle.serde_json.specs.Read.{read}

-- ---- the members

-- a document's `videoParameters`, if it is an object
abbrev pub parameters_of : Data → Option Data
parameters_of document =
    option_and_then (λ p. if is_some (as_object p) then Some p else None) (get (codes "videoParameters") document)

-- the member of this name, if there are parameters and it is there
abbrev pub member_of : Option Data → List ℕ → Option Data
member_of parameters name = option_and_then (get name) parameters

-- an unsigned whole number
abbrev pub whole : Data → Option ℕ
whole member = option_and_then as_u64 (as_number member)

-- the system that `system` names
abbrev pub named_system : Data → Option System
named_system member = option_and_then system_named (as_str member)

-- the system that `isSourcePal` stands for
abbrev pub flagged_system : Data → Option System
flagged_system member = option_map (λ pal. if pal then Pal else Ntsc) (as_bool member)

-- the level that a member is: a whole number from 0 to 65,535
abbrev pub level_of : Data → Option ℕ
level_of member = option_and_then (λ n. if nat_lt n (2 ^ 16) then Some n else None) (whole member)

-- ---- what is chosen

-- the option's system, else that of `system`, else that of `isSourcePal`
abbrev pub chosen_system : Option System → Option Data → Option Data → Option System
chosen_system given name flag =
    option_or given (option_or (option_and_then named_system name) (option_and_then flagged_system flag))

-- the option's level, else the member's
abbrev pub chosen_level : Option ℕ → Option Data → Option ℕ
chosen_level given member = option_or given (option_and_then level_of member)

-- the option's limit of fields, else the greatest
abbrev pub chosen_limit : Option ℕ → ℕ
chosen_limit given = unwrap_or given most_fields

-- ---- the tests of the refusals

-- a member is there, and gives no value
abbrev pub is_bad : {A B : Type 0} → (A → Option B) → Option A → Bool
is_bad value member = option_map_or (λ a. is_none (value a)) member false

-- a member is there, and isn't this whole number
abbrev pub is_other : ℕ → Option Data → Bool
is_other n member = option_map_or (λ m. not (option_map_or (λ k. k == n) (whole m) false)) member false

-- two names of systems are there, and differ
abbrev pub disagree : Option System → Option System → Bool
disagree (Some Ntsc) (Some Pal) = true
disagree (Some Pal) (Some Ntsc) = true
disagree _ _ = false

-- ---- the refusals in order

-- a fault, and whether it is there
abbrev pub FaultTest : Type 0
FaultTest = MetaFault × Bool

-- the first refusal that holds
unfoldable pub first_refusal : List FaultTest → Option MetaFault
first_refusal [] = None
first_refusal (refusal ∷ refusals) = if refusal.1 then Some refusal.0 else first_refusal refusals

-- of the document, if one is given
unfoldable pub document_refusals : Option Data → List FaultTest
document_refusals document = (NoVideoParameters, is_bad parameters_of document) ∷ []

-- of the system: the option, `system` and `isSourcePal`
unfoldable pub system_refusals : Option System → Option Data → Option Data → List FaultTest
system_refusals given name flag =
    (NoSystem, is_none given && (is_none name && is_none flag))
    ∷ (UnknownSystem, is_none given && (is_bad named_system name || is_bad flagged_system flag))
    ∷ (
      SystemsDisagree,
      is_none given && disagree (option_and_then named_system name) (option_and_then flagged_system flag),
    )
    ∷ []

-- of one level, if its two faults are these: the option and the member
unfoldable pub level_refusals : MetaFault → MetaFault → Option ℕ → Option Data → List FaultTest
level_refusals missing bad given member =
    (missing, is_none given && is_none member)
    ∷ (bad, is_none given && is_bad level_of member)
    ∷ []

-- of both levels
unfoldable pub order_refusals : ℕ → ℕ → List FaultTest
order_refusals black white = (LevelsOrder, not (nat_lt black white)) ∷ []

-- of one size, if its fault is this: the system's number and the member
unfoldable pub size_refusals : MetaFault → ℕ → Option Data → List FaultTest
size_refusals differs size member = (differs, is_other size member) ∷ []

-- of the limit: the option
unfoldable pub limit_refusals : Option ℕ → List FaultTest
limit_refusals given =
    (BadMaxFields, not (nat_le 1 (chosen_limit given) && nat_le (chosen_limit given) most_fields)) ∷ []

-- all twelve. A system or a level that isn't chosen is refused by then, so what the later ones take for it is never
-- seen
unfoldable pub refusals_of : Option Data → Overrides → List FaultTest
refusals_of document given =
    let member = member_of (option_and_then parameters_of document) in
    let name = member (codes "system") in
    let flag = member (codes "isSourcePal") in
    let black = member (codes "black16bIre") in
    let white = member (codes "white16bIre") in
    let system = unwrap_or (chosen_system given.system name flag) Ntsc in
    document_refusals document
    ++ (system_refusals given.system name flag
    ++ (level_refusals NoBlack BadBlack given.black black
    ++ (level_refusals NoWhite BadWhite given.white white
    ++ (order_refusals (unwrap_or (chosen_level given.black black) 0) (unwrap_or (chosen_level given.white white) 0)
    ++ (size_refusals WidthDiffers (width_of system) (member (codes "fieldWidth"))
    ++ (size_refusals HeightDiffers (height_of system) (member (codes "fieldHeight"))
    ++ limit_refusals given.max_fields))))))

-- a document, or none, and options are refused for this reason
abbrev pub IsRefused : Option Data → Overrides → MetaFault → Type 0
IsRefused document given fault = first_refusal (refusals_of document given) ≡ Some fault

-- a document, or none, and options are not refused, and this is what they settle
pub record IsSettled (document : Option Data) (given : Overrides) (config : ConfigView) : Type 0 where
  pub unrefused : first_refusal (refusals_of document given) ≡ None
  pub system : (let member = member_of (option_and_then parameters_of document) in
      chosen_system given.system (member (codes "system")) (member (codes "isSourcePal"))) ≡ Some config.system
  pub black : chosen_level given.black (member_of (option_and_then parameters_of document) (codes "black16bIre"))
      ≡ Some config.levels.black
  pub white : chosen_level given.white (member_of (option_and_then parameters_of document) (codes "white16bIre"))
      ≡ Some config.levels.white
  pub max_fields : config.max_fields ≡ chosen_limit given.max_fields

-- ---- the bytes of a metadata file (JSON of RFC 8259, in serde_json's reading; the limits are this project's own)

-- the most bytes of a document
abbrev pub most_bytes : ℕ
most_bytes = 268435456

-- the bytes are JSON in UTF-8, nested at most 127 deep, and this is what it says
pub record IsMetadata (bytes : List ℕ) (document : Data) : Type 0 where
  pub short : length bytes ≤ most_bytes
  pub utf8 : IsUtf8 bytes
  pub reading : read bytes ≡ Some document
  pub nested : depth document ≤ 127

-- these bytes give no document for this reason: they are over the limit; or they are within it and are none; or they
-- are within it, and memory was refused, as it can be if there is a byte at all
abbrev pub IsUnread : List ℕ → MetaFault → Type 0
IsUnread bytes TooLarge = most_bytes < length bytes
IsUnread bytes NotJson = (length bytes ≤ most_bytes) × ((document : Data) → ¬ IsMetadata bytes document)
IsUnread bytes OutOfMemory = (length bytes ≤ most_bytes) × (0 < length bytes)
IsUnread bytes _ = ⊥
