use Rattle.std.proofs.Common.{◌∙◌, rules}
use Rattle.vbi_field.proofs.FeedEnds.{in_part}
use Rattle.vbi_field.proofs.feeder.Feeder.begin.Goals as goal

pub returns-in_err-put-clause-part : goal.returns-in_err-put-clause-part
returns-in_err-put-clause-part g c =
    search (
      rules,
      in_part _ _ _ c.as_str.result.now _ (c.as_str.ensures.value ∙ c.head.ensures) c.in_err-put.ensures.puts
          c.in_err-put.ensures.short,
    )
