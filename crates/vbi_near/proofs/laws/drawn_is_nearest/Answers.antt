use Rattle.vbi_near.proofs.DrawnNearest.{drawn-word, drawn-start, drawn-distance, drawn-rival}
use Rattle.vbi_near.proofs.laws.drawn_is_nearest.Goals as goal

pub returns : goal.returns
returns c system slicing lines near word start order some all is place = (
  drawn-word system slicing lines near word start order some all is place,
  drawn-start system slicing lines near word start order some all is place,
  drawn-distance system slicing lines near word start order some all is place,
  drawn-rival system slicing lines near word start order some all is place,
)
