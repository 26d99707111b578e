-- How far the pictures of two different words are apart at least, wherever they begin.
use Rattle.std.specs.Prelude.{ℕ}
use Rattle.vbi_near.specs.Common.{System, Ntsc, Pal}

-- two pictures of different words, or one of a word and that of none, differ in this many columns at least: in those of
-- a cell
abbrev pub picture_distance : System → ℕ
picture_distance Ntsc = 28
picture_distance Pal = 35
