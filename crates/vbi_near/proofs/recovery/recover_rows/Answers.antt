use Rattle.std.proofs.Common.{◌≡◌, Bool, ℕ, List, [], ◌∷◌, sym, ap, ◌∙◌, get_or, subst}
use Rattle.vbi_near.proofs.Common.{System, Slicing, unit_of}
use Rattle.vbi_near.proofs.{SomeSeen.some_seen, SomeSeen.some_of_both, Kept.sure-shown}
use Rattle.vbi_near.specs.Recovery.{field_line, row_reading, alone, stands_of, shown_in, IsSeen, IsRecovered, IsKept}
use Rattle.vbi_near.specs.{declared.recovery.Recovered.Recovered, Candidates.Line, Candidates.AreOfBoth, Lines.row_in}
use Rattle.vbi_near.proofs.recovery.recover_rows.Goals as goal

-- what lines show keeps what was read for sure
all-kept : (system : System) (slicing : Slicing) (rows : List ℕ) (erased : List Bool) (recovered : List Recovered)
    → IsRecovered system slicing rows erased recovered → (a b d : Recovered) → recovered ≡ a ∷ b ∷ d ∷ []
    → IsKept (row_reading system slicing rows 0) a × IsKept (row_reading system slicing rows 1) b
    × IsKept (row_reading system slicing rows 2) d
all-kept system slicing rows erased recovered (first, second, third, both, seen, is) a b d e =
    let unit = unit_of slicing in (
      λ sure. ap (λ (list : List Recovered). get_or list 0 a) (sym e ∙ is)
          ∙ sure-shown alone unit first both _ seen.line_16.reading sure,
      λ sure. ap (λ (list : List Recovered). get_or list 1 a) (sym e ∙ is)
          ∙ sure-shown (stands_of unit second third both) unit second both _ seen.line_17.reading sure,
      λ sure. ap (λ (list : List Recovered). get_or list 2 a) (sym e ∙ is)
          ∙ sure-shown (stands_of unit second third both) unit third both _ seen.line_18.reading sure,
    )

pub returns : goal.returns
returns c =
    let system = c.args.system in
    let levels = c.args.levels in
    let line : ℕ → Line = field_line system levels c.args.rows.now c.args.erased.now in
    let first = some_seen (line 0) in
    let second = some_seen (line 1) in
    let third = some_seen (line 2) in
    let both = some_of_both (line 1) (line 2).row in
    let shows = c.shown_alone-first.ensures first.0 both.0
    (subst (λ (l : Line). IsSeen l first.0) (sym c.line-line.ensures) first.1)
    ∙ ap (λ (l : Line). shown_in alone (unit_of l.slicing) first.0 both.0) c.line-line.ensures in
    let others = c.shown_pair-others.ensures second.0 third.0 both.0
    (subst (λ (l : Line). IsSeen l second.0) (sym c.line-second.ensures) second.1)
    (subst (λ (l : Line). IsSeen l third.0) (sym c.line-third.ensures) third.1)
    (λ opened. subst (λ (l : Line). AreOfBoth l (row_in c.line-third.result) both.0) (sym c.line-second.ensures)
    (subst (λ (l : Line). AreOfBoth (line 1) l.row both.0) (sym c.line-third.ensures) both.1)) in
    let shown = subst (λ (l : Line). let stands = stands_of (unit_of l.slicing) second.0 third.0 both.0 in
    (c.shown_pair-others.result.0 ≡ shown_in stands (unit_of l.slicing) second.0 both.0)
    × (c.shown_pair-others.result.1 ≡ shown_in stands (unit_of l.slicing) third.0 both.0)) c.line-second.ensures
    others in
    let is : IsRecovered system levels c.args.rows.now c.args.erased.now _ = (
      first.0,
      second.0,
      third.0,
      both.0,
      record { line_16 = first.1; line_17 = second.1; line_18 = third.1; pair = λ opened. both.1 },
      λ j. shows j ∷ shown.0 j ∷ shown.1 j ∷ [],
    ) in
    record {
      recovered = is;
      kept = all-kept system levels c.args.rows.now c.args.erased.now _ is;
    }
