use Rattle.vbi_words.proofs.Common.{arith, ◌≡◌, ℕ, Bool, true, List, Any, ◌↔◌, ap, sym, ◌∙◌, subst, list_any}
use Rattle.vbi_words.proofs.Common.{Any-from_list_any, list_any_at, Code}
use Rattle.std.proofs.Common.{Option, Some, None, IsTrue}
-- A field has one format.
use Rattle.vbi_words.specs.declared.format.Format.{Format}
use Rattle.vbi_words.specs.Codes.{code_of}
use Rattle.vbi_words.specs.Formats.{is_cav_code, is_clv_code, HasCode, names_cav, names_clv, IsFormat, has_code}
use Rattle.vbi_words.specs.Formats.{format_from, format_of_lines}
use Rattle.vbi_words.proofs.OneCode.{code_of_is, only_code_of}

-- ---- lines with a code that passes the test

module _ (test : Code → Bool) where
  line_from : (line : Option ℕ) → has_code test line ≡ true → HasCode test line
  line_from None e = absurd cc
  line_from (Some word) e = (code_of word, code_of_is word, e)

  line_to : (line : Option ℕ) → HasCode test line → has_code test line ≡ true
  line_to None x = absurd x
  line_to (Some word) (code, is, e) = ap test (sym (only_code_of word code is)) ∙ e

  any_from : (lines : List (Option ℕ)) → list_any (has_code test) lines ≡ true → Any (HasCode test) lines
  any_from lines e = go (Any-from_list_any (has_code test) lines e)
    where
      go : Any (λ line. has_code test line ≡ true) lines → Any (HasCode test) lines
      go (k, x, l, here, h) = (k, x, l, here, line_from x h)

  any_to : (lines : List (Option ℕ)) → Any (HasCode test) lines → list_any (has_code test) lines ≡ true
  any_to lines (k, x, l, here, h) = list_any_at (has_code test) lines k x l (ap (has_code test) here ∙ line_to x h)

  any_code : (lines : List (Option ℕ)) → IsTrue (list_any (has_code test) lines) ↔ Any (HasCode test) lines
  any_code lines = (any_from lines, any_to lines)

-- two tests of one fact are the same
same_test : (a b : Bool) (P : Type 0) → IsTrue a ↔ P → IsTrue b ↔ P → a ≡ b
same_test a b P x y = grind arith

-- ---- the format

cav_named : (a b : Bool) → names_cav (format_from a b) ≡ a
cav_named a b = grind arith

clv_named : (a b : Bool) → names_clv (format_from a b) ≡ b
clv_named a b = grind arith

-- a format is known by the kinds of code that it names
by_names : (format : Format) → format ≡ format_from (names_cav format) (names_clv format)
by_names format = grind arith

-- the function gives the field's format
pub format_is : (lines : List (Option ℕ)) → IsFormat lines (format_of_lines lines)
unfolding format_of_lines
format_is lines =
    let cav : Bool = list_any (has_code is_cav_code) lines in
    let clv : Bool = list_any (has_code is_clv_code) lines in
    record {
      cav = subst (λ (b : Bool). IsTrue b ↔ Any (HasCode is_cav_code) lines) (sym (cav_named cav clv))
          (any_code is_cav_code lines);
      clv = subst (λ (b : Bool). IsTrue b ↔ Any (HasCode is_clv_code) lines) (sym (clv_named cav clv))
          (any_code is_clv_code lines);
    }

-- a field's format is what the function gives
pub only_format : (lines : List (Option ℕ)) (format : Format) → IsFormat lines format → format ≡ format_of_lines lines
unfolding format_of_lines
only_format lines format x =
    let cav : names_cav format ≡ list_any (has_code is_cav_code) lines = same_test (names_cav format)
    (list_any (has_code is_cav_code) lines) (Any (HasCode is_cav_code) lines) x.cav (any_code is_cav_code lines) in
    let clv : names_clv format ≡ list_any (has_code is_clv_code) lines = same_test (names_clv format)
    (list_any (has_code is_clv_code) lines) (Any (HasCode is_clv_code) lines) x.clv (any_code is_clv_code lines) in
    by_names format ∙ ap (λ (b : Bool). format_from b (names_clv format)) cav
    ∙ ap (format_from (list_any (has_code is_cav_code) lines)) clv
