use Rattle.std.proofs.Common.{ap, ◌∙◌}
use Rattle.vbi_words.specs.Codes.{code_of}
use Rattle.vbi_words.proofs.OneCode.{only_code_of}
use Rattle.vbi_words.proofs.code.classify.Goals as goal

pub returns : goal.returns
returns c =
    only_code_of c.value.result c.code_of_number.result c.code_of_number.ensures ∙ ap code_of c.value.ensures.value
