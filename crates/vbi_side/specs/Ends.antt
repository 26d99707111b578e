-- Which fields are believed to be of a side's lead-in or lead-out: those of which one line shows it in pass 1, or two
-- lines show it. The rule is this project's own.
use Rattle.std.specs.Prelude.{ℕ, ◌+◌, nat_le, nat_lt, if◌then◌else◌, Option, Some}
use Rattle.vbi_side.specs.Types.{Code, LeadIn, LeadOut, Shown}
use Rattle.vbi_side.specs.Lines.{code_in, pass_weight}

-- what is answered of a field: it is of lead-out, of lead-in, of either in doubt, or of none. A caller who knows that a
-- field is padding says so in the place of its answer
abbrev pub no_end : ℕ
no_end = 0

abbrev pub lead_out : ℕ
lead_out = 1

abbrev pub doubtful_end : ℕ
doubtful_end = 2

abbrev pub lead_in : ℕ
lead_in = 3

abbrev pub padding : ℕ
padding = 4

-- what a code weighs as lead-out, if its word weighs so much
abbrev pub weight_as_out : Option Code → ℕ → ℕ
weight_as_out (Some LeadOut) weight = weight
weight_as_out _ weight = 0

-- what it weighs as lead-in
abbrev pub weight_as_in : Option Code → ℕ → ℕ
weight_as_in (Some LeadIn) weight = weight
weight_as_in _ weight = 0

-- how much a line says that its field is of lead-out: 2 in pass 1, 1 in pass 2 or 3
abbrev pub out_weight : Shown → ℕ
out_weight line = weight_as_out (code_in line) (pass_weight line.pass)

-- how much it says that it is of lead-in
abbrev pub in_weight : Shown → ℕ
in_weight line = weight_as_in (code_in line) (pass_weight line.pass)

-- the answer that these weights leave: lead-out goes before lead-in
abbrev pub end_by : ℕ → ℕ → ℕ
end_by outs ins =
    if nat_le 2 outs then lead_out
    else (if nat_le 2 ins then lead_in else (if nat_lt 0 (outs + ins) then doubtful_end else no_end))

-- what is answered of a field with these lines
abbrev pub end_of : Shown → Shown → ℕ
end_of line_17 line_18 =
    end_by (out_weight line_17 + out_weight line_18) (in_weight line_17 + in_weight line_18)
