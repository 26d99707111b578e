use Rattle.std.proofs.Common.{◌≡◌, ◌∙◌, true, false, sym, subst}
use Rattle.vbi_side.specs.Votes.{minute_of, Election}
use Rattle.vbi_side.proofs.Voting.{AreCounted, AreEnough, elected_leads, elected_enough, enough_elected}
use Rattle.vbi_side.proofs.votes.elected.Goals as goal

pub returns-then-are_enough : goal.returns-then-are_enough
returns-then-are_enough c =
    let election : Election = record { minute = minute_of c.args.system; field = c.args.field; part = c.args.part } in
    let count = c.counted-count.result in
    let counted : AreCounted election c.args.fields.now count
    = (c.counted-count.ensures.all, c.counted-count.ensures.leads) in
    λ m. (
      λ e. let p = (c.number_of.ensures m).0 e in
          enough_elected election c.args.fields.now count m counted
          (subst (AreEnough count.all) c.votes_by.ensures.value (c.are_enough.ensures.0 c.if-are_enough.true)) p.0 p.1,
      λ h. (c.number_of.ensures m).1
          (sym (elected_leads election c.args.fields.now count m counted h), h.part_is),
    )

pub returns-else-are_enough : goal.returns-else-are_enough
returns-else-are_enough c =
    let election : Election = record { minute = minute_of c.args.system; field = c.args.field; part = c.args.part } in
    let count = c.counted-count.result in
    let counted : AreCounted election c.args.fields.now count
    = (c.counted-count.ensures.all, c.counted-count.ensures.leads) in
    λ m. (
      λ e. absurd cc,
      λ h. let enough : AreEnough count.all c.votes_by.result
          = subst (AreEnough count.all) (sym c.votes_by.ensures.value)
          (elected_enough election c.args.fields.now count m counted h) in
          let clash : true ≡ false = sym (c.are_enough.ensures.1 enough) ∙ c.if-are_enough.false in absurd cc,
    )
