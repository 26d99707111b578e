-- The marks of lines that lie one after the other: of one line more, and of the rows that they make.
use Rattle.std.proofs.Common.{◌≡◌, ℕ, ◌+◌, ◌-◌, ◌*◌, ◌≤◌, List, Bool, map, take, drop, length}
use Rattle.std.proofs.Common.{ap, sym, ◌∙◌, subst, arith, inl, inr}
use Rattle.std.specs.Prelude.{Option}
use Rattle.std.specs.List.{range_with_len}
use Rattle.std.proofs.Math.Nat.{eq-or-lt_of_le, mul-le-mul_left}
use Rattle.std.proofs.lemmas.List.{drop-take, take-take}
use Rattle.std.proofs.lemmas.List.FromFn.{fill_by_all, get_or-map-range_with_len, length-map-range_with_len}
use Rattle.vbi_c.specs.Types.{System, LdvbiErased, Setup}
use Rattle.vbi_words.specs.Geometry.{width_of, line_at}
use Rattle.vbi_near.specs.Candidates.{Row, row_of}
use Rattle.vbi_near.specs.PileRule.{row_in, rows_in, IsSaidTogether}
use Rattle.vbi_c.specs.Erased.{line_marks}
use Rattle.vbi_c.specs.Piling.{HasMarks, row_erased, rows_erased, count_in}

-- a part of what lies before a place stays where all before the place does
part-kept : (old new : List Bool) (w from to : ℕ) → from + w ≤ to → take to new ≡ take to old
    → take w (drop from new) ≡ take w (drop from old)
part-kept old new w from to before same =
    let e : from + w + (to - (from + w)) ≡ to = omega (arith, before) in
    let shorter : take (from + w) new ≡ take (from + w) old
    = sym (take-take (from + w) to new before) ∙ ap (take (from + w)) same ∙ take-take (from + w) to old before in
    sym (drop-take from w new) ∙ ap (drop from) shorter ∙ drop-take from w old

-- the marks of one line more
pub marks-next : (system : System) (line : ℕ) (list : List LdvbiErased) (n : ℕ) (old new : List Bool)
    → HasMarks system line list n old
    → take (width_of system * n) new ≡ take (width_of system * n) old
    → take (width_of system) (drop (width_of system * n) new) ≡ line_marks list system n line
    → HasMarks system line list (n + 1) new
marks-next system line list n old new are kept here place below =
    let w = width_of system in
    let up_to : place ≤ n = omega (arith, below) in
    elim (eq-or-lt_of_le {n = place} {m = n} up_to) [
      | inl e ↦ subst (λ (k : ℕ). take w (drop (w * k) new) ≡ line_marks list system k line) (sym e) here
      | inr less ↦
          let rows : w * (place + 1) ≤ w * n = mul-le-mul_left w (omega (arith, less)) in
          part-kept old new w (w * place) (w * n) (omega (arith, rows)) kept ∙ are place less
    ]

-- rows by such marks are those of the list
pub rows-marked : (system : System) (line : ℕ) (bytes : List ℕ) (list : List LdvbiErased) (n : ℕ) (marks : List Bool)
    → HasMarks system line list n marks
    → rows_in system bytes marks n ≡ map (row_erased system line bytes list) (range_with_len 0 n)
rows-marked system line bytes list n marks are =
    let by_marks = row_in system bytes marks in
    fill_by_all (row_erased system line bytes list) (map by_marks (range_with_len 0 n)) n (by_marks 0)
    (length-map-range_with_len by_marks 0 n) (λ i less.
    get_or-map-range_with_len by_marks 0 n i i (by_marks 0) less (omega arith)
    ∙ ap (λ (erased : List Bool). row_of (line_at system bytes 0 i) erased) (are i less))

-- what lines by such marks say, those of the list say
pub said-marked : (setup : Setup) (line : ℕ) (known : Bool) (bytes : List ℕ) (list : List LdvbiErased) (n : ℕ)
    (marks : List Bool) (said : Option ℕ) → n ≡ count_in setup.system (length bytes)
    → HasMarks setup.system line list n marks
    → IsSaidTogether setup.system line setup.levels known (rows_in setup.system bytes marks n) said
    → IsSaidTogether setup.system line setup.levels known (rows_erased setup.system line bytes list) said
said-marked setup line known bytes list n marks said e are is =
    subst (λ (rows : List Row). IsSaidTogether setup.system line setup.levels known rows said)
    (rows-marked setup.system line bytes list n marks are
    ∙ ap (λ (m : ℕ). map (row_erased setup.system line bytes list) (range_with_len 0 m)) e) is
