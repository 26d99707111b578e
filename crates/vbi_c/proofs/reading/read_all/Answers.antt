use Rattle.std.proofs.Common.{◌≡◌, ℕ, ◌+◌, ◌-◌, ◌*◌, ◌∷◌, [], ◌++◌, List, take, drop, ap, sym, ◌∙◌, arith, zero-add}
use Rattle.std.proofs.lemmas.List.{take_more_set}
use Rattle.std.proofs.lemmas.List.FromFn.{map-range_with_len_more}
use Rattle.vbi_c.specs.Types.{LdvbiFieldReadings}
use Rattle.vbi_c.specs.Readings.{field_reading, field_in, fields_reading}
use Rattle.vbi_c.proofs.reading.read_all.Goals as goal

pub loop-i-preserved : goal.loop-i-preserved
loop-i-preserved c =
    let setup = c.args.setup.now in
    let stream = c.args.stream.now in
    let i = c.loop-i.i in
    let size = c.field_bytes-size.result in
    let one : size * i + size - size * i ≡ size = omega arith in
    let cut : take (size * i + size - size * i) (drop (size * i) stream) ≡ field_in setup.system stream i
    = ap (λ (n : ℕ). take n (drop (size * i) stream)) one
    ∙ ap (λ (n : ℕ). take n (drop (n * i) stream)) c.field_bytes-size.ensures in
    let here : c.read_three.result ≡ field_reading setup (field_in setup.system stream i)
    = c.read_three.ensures ∙ ap (field_reading setup) cut in
    take_more_set c.loop-i.readings i c.read_three.result (omega arith)
    ∙ ap (λ (l : List LdvbiFieldReadings). l ++ c.read_three.result ∷ []) c.loop-i.invariant
    ∙ ap (λ (r : LdvbiFieldReadings). fields_reading setup stream i ++ r ∷ []) here
    ∙ sym (map-range_with_len_more (λ j. field_reading setup (field_in setup.system stream j)) 0 i i (zero-add i))
