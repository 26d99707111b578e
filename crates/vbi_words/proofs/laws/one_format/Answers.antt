use Rattle.vbi_words.proofs.OneFormat.{format_is, only_format}
use Rattle.vbi_words.proofs.laws.one_format.Goals as goal

pub returns : goal.returns
returns c = record { is = format_is; only = only_format }
