use Rattle.vbi_words.proofs.OneCode.{code_of_is, only_code_of}
use Rattle.vbi_words.proofs.laws.one_code.Goals as goal

pub returns : goal.returns
returns c = record { is = code_of_is; only = only_code_of }
