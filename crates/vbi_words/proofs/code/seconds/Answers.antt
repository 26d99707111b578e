use Rattle.std.proofs.Common.{arith}
use Rattle.vbi_words.proofs.code.seconds.Goals as goal

pub overflow_sub-result : goal.overflow_sub-result
overflow_sub-result c = grind arith
