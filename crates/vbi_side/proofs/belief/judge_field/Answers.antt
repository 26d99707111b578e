use Rattle.std.proofs.Common.{inl, inr}
use Rattle.std.proofs.lemmas.Option.{slice_get-get_or}
use Rattle.vbi_side.proofs.Ahead.{ahead_believed, believed_ahead, one_believed, first_judged, second_judged}
use Rattle.vbi_side.proofs.belief.judge_field.Goals as goal

pub returns-in-Some : goal.returns-in-Some
returns-in-Some c =
    let fields = c.args.fields.now in
    let i = c.args.field in
    first_judged _ _ c.in-Some.number c.believed.result
    (λ n h. ahead_believed c.args.pace fields i n _ (slice_get-get_or fields i _ c.requires) (inl h))
    (one_believed c.args.pace fields i)
    c.in-Some.is c.believed.ensures

pub returns-in-None : goal.returns-in-None
returns-in-None c =
    let fields = c.args.fields.now in
    let i = c.args.field in
    second_judged _ _ _ c.believed.result c.believed-in-None.result
    (λ n h. ahead_believed c.args.pace fields i n _ (slice_get-get_or fields i _ c.requires) (inr h))
    (λ n. believed_ahead c.args.pace fields i n _ (slice_get-get_or fields i _ c.requires))
    c.in-None.is c.believed.ensures c.believed-in-None.ensures
