use Rattle.vbi_words.proofs.DrawnShows.{row_shows, row_low}
use Rattle.vbi_words.proofs.DrawnLines.{drawn_reads}
use Rattle.vbi_words.proofs.laws.drawn_shows.Goals as goal

pub returns : goal.returns
returns c = record { word = row_shows; none = row_low; reading = drawn_reads }
