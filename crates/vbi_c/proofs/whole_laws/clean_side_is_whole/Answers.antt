use Rattle.std.proofs.Common.{ap}
use Rattle.vbi_c.specs.Types.{LdvbiSide}
use Rattle.vbi_c.proofs.CleanJudged.{clean_whole}
use Rattle.vbi_c.proofs.whole_laws.clean_side_is_whole.Goals as goal

pub returns : goal.returns
returns c number called begin last is =
    let e = clean_whole number called begin last is is.asked
    in (
      ap (λ (s : LdvbiSide). s.verdict) e,
      ap (λ (s : LdvbiSide). s.reasons) e,
      ap (λ (s : LdvbiSide). s.tally.gaps) e,
      ap (λ (s : LdvbiSide). s.tally.unread) e,
      ap (λ (s : LdvbiSide). s.swap) e,
      ap (λ (s : LdvbiSide). s.first) e,
      ap (λ (s : LdvbiSide). s.last) e,
    )
