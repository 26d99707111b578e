-- A line feed after a text adds no token to it (JSON of RFC 8259, by the rules of the library `json`).
use Rattle.std.proofs.Common.{◌≡◌, ℕ, ◌+◌, Bool, true, false, cond, ◌&&◌, ◌||◌, ◌==◌, not, nat_lt, nat_eq, List}
use Rattle.std.proofs.Common.{[], ◌∷◌, ◌++◌, length, take, drop, Option, Some, None, option_map, option_and_then, refl}
use Rattle.std.proofs.Common.{ap, ap₂, ◌∙◌, arith}
use Rattle.std.proofs.lemmas.Bool.{not-true, and_parts}
use Rattle.std.proofs.lemmas.List.{drop-append-le, take-append-le, length-append}
use Rattle.std.proofs.lemmas.List.Sums.{prefix_len-le-length}
use Rattle.std.specs.Char.{is_ascii_digit, is_digit, encode_utf8}
use Rattle.std.specs.Cmp.Lexicographic.{pointwise}
use Rattle.std.specs.List.{prefix_len}
use Rattle.json.specs.Lex.{Class, quote, backslash, operator, space, other, class, Mode, between, in_word, in_string}
use Rattle.json.specs.Lex.{in_escape, token, string_token, operator_lexeme, lex_byte, lex, fresh, punctuate, tokens}
use Rattle.json.specs.Text.{Within, plain, after_backslash, after_u, after_high, code_unit, short_escape, content}
use Rattle.json.specs.Text.{prepend, is_high_surrogate, is_low_surrogate, surrogate_pair}
use Rattle.json.specs.Token.{Token, boolean, null, bad}
use Rattle.json.specs.Word.{ends_word, after_digits, after_minus, after_sign, after_whole, after_fraction}
use Rattle.json.specs.Word.{after_exponent, after_number, number_before, literal, word}
use Rattle.json.specs.Ascii.{true_text, false_text, null_text}

-- the text, and a line feed after it
abbrev fed : List ℕ → List ℕ
fed text = text ++ 10 ∷ []

ends-fed : (t : List ℕ) → ends_word (fed t) ≡ ends_word t
ends-fed [] = refl
ends-fed (x ∷ t) = refl

-- ---- numbers: each part leaves what it left, and the line feed

digits-fed : (t : List ℕ) → prefix_len is_ascii_digit (fed t) ≡ prefix_len is_ascii_digit t
digits-fed [] = refl
digits-fed (x ∷ t) = ap (λ n. cond (is_ascii_digit x) (1 + n) 0) (digits-fed t)

after_digits-fed : (t : List ℕ) → after_digits (fed t) ≡ option_map fed (after_digits t)
after_digits-fed t = grind (arith, cond, digits-fed, option_map, drop-append-le, prefix_len-le-length)

-- the text after its first byte, or the whole
past : (b : Bool) (x : ℕ) (t : List ℕ) → cond b (fed t) (fed (x ∷ t)) ≡ fed (cond b t (x ∷ t))
past true x t = refl
past false x t = refl

after_minus-fed : (t : List ℕ) → after_minus (fed t) ≡ fed (after_minus t)
after_minus-fed [] = refl
after_minus-fed (x ∷ t) = past (x == 45) x t

after_sign-fed : (t : List ℕ) → after_sign (fed t) ≡ fed (after_sign t)
after_sign-fed [] = refl
after_sign-fed (x ∷ t) = past ((x == 45) || (x == 43)) x t

after_whole-fed : (t : List ℕ) → after_whole (fed t) ≡ option_map fed (after_whole t)
after_whole-fed [] = refl
after_whole-fed (x ∷ t) = go (x == 48)
  where
    go : (b : Bool)
        → cond b (Some (fed t)) (after_digits (fed (x ∷ t))) ≡ option_map fed (cond b (Some t) (after_digits (x ∷ t)))
    go true = refl
    go false = after_digits-fed (x ∷ t)

after_fraction-fed : (t : List ℕ) → after_fraction (fed t) ≡ option_map fed (after_fraction t)
after_fraction-fed [] = refl
after_fraction-fed (x ∷ t) = grind (arith, cond, option_map, after_digits-fed)

after_exponent-fed : (t : List ℕ) → after_exponent (fed t) ≡ option_map fed (after_exponent t)
after_exponent-fed [] = refl
after_exponent-fed (x ∷ t) = grind (arith, cond, option_map, after_sign-fed, after_digits-fed)

then-fed : (f : List ℕ → Option (List ℕ)) → ((t : List ℕ) → f (fed t) ≡ option_map fed (f t)) → (o : Option (List ℕ))
    → option_and_then f (option_map fed o) ≡ option_map fed (option_and_then f o)
then-fed f each None = refl
then-fed f each (Some t) = each t

after_number-fed : (t : List ℕ) → after_number (fed t) ≡ option_map fed (after_number t)
unfolding after_number
after_number-fed t =
    grind (arith, option_and_then, after_minus-fed, after_whole-fed, then-fed, after_fraction-fed, after_exponent-fed)

number_before-fed : (t : List ℕ) (o : Option (List ℕ)) → number_before (fed t) (option_map fed o) ≡ number_before t o
number_before-fed t None = refl
number_before-fed t (Some rest) = grind (arith, length-append, take-append-le, ap₂, cond, ends-fed)

-- ---- literals

-- no byte of it is a line feed
abbrev is_on_one_line : List ℕ → Bool
is_on_one_line [] = true
is_on_one_line (c ∷ cs) = not (nat_eq c 10) && is_on_one_line cs

-- a text begins with this name, and the name ends there
abbrev is_named : List ℕ → List ℕ → Bool
is_named name t = pointwise nat_eq name (take (length name) t) && ends_word (drop (length name) t)

also-same : (a b c d e : Bool) → (b && c) ≡ (d && e) → ((a && b) && c) ≡ ((a && d) && e)
also-same true b c d e h = h
also-same false b c d e h = refl

named-fed : (name t : List ℕ) → is_on_one_line name ≡ true → is_named name (fed t) ≡ is_named name t
named-fed [] t h = ends-fed t
named-fed (c ∷ cs) [] h = grind (arith, not-true, and_parts, not)
named-fed (c ∷ cs) (x ∷ t) h =
    also-same (nat_eq c x) (pointwise nat_eq cs (take (length cs) (fed t))) _
    (pointwise nat_eq cs (take (length cs) t)) _
    (named-fed cs t (and_parts (not (nat_eq c 10)) (is_on_one_line cs) h).1)

literal-fed : (name : List ℕ) (known : Token) (t : List ℕ) → is_on_one_line name ≡ true
    → literal name known (fed t) ≡ literal name known t
literal-fed name known t h = ap (λ b. cond b known bad) (named-fed name t h)

word-fed : (x : ℕ) (t : List ℕ) → word (fed (x ∷ t)) ≡ word (x ∷ t)
unfolding word
word-fed x t =
    let is_true = literal-fed true_text (boolean true) (x ∷ t) refl in
    let is_false = literal-fed false_text (boolean false) (x ∷ t) refl in
    let is_null = literal-fed null_text null (x ∷ t) refl in
    let is_number = ap (number_before (fed (x ∷ t))) (after_number-fed (x ∷ t))
    ∙ number_before-fed (x ∷ t) (after_number (x ∷ t)) in
    ap₂ (λ (a b : Token). cond (x == 116) a b) is_true
    (ap₂ (λ (a b : Token). cond (x == 102) a b) is_false (ap₂ (λ (a b : Token). cond (x == 110) a b) is_null is_number))

-- ---- strings

no_digit : (known : Bool) (unit : ℕ) → cond (known && is_digit 10 16) (Some unit) None ≡ None
no_digit true unit = refl
no_digit false unit = refl

no_unit : (a b c : ℕ) → code_unit a b c 10 ≡ None
unfolding code_unit
no_unit a b c = no_digit ((is_digit a 16 && is_digit b 16) && is_digit c 16) _

-- what stands after a code unit, where there is one
abbrev after_unit : List ℕ → Option ℕ → Option (List ℕ)
after_unit t unit =
    option_and_then (λ u. cond (is_high_surrogate u) (content (after_high u) t)
    (cond (is_low_surrogate u) None (prepend (encode_utf8 u) (content plain t)))) unit

abbrev after_pair : ℕ → List ℕ → Option ℕ → Option (List ℕ)
after_pair h t unit =
    option_and_then (λ l. cond (is_low_surrogate l)
    (prepend (encode_utf8 (surrogate_pair h l)) (content plain t)) None) unit

after_unit-fed : (t : List ℕ) → ((w : Within) → content w (fed t) ≡ content w t) → (unit : Option ℕ)
    → after_unit (fed t) unit ≡ after_unit t unit
after_unit-fed t later unit = grind arith

after_pair-fed : (h : ℕ) (t : List ℕ) → ((w : Within) → content w (fed t) ≡ content w t) → (unit : Option ℕ)
    → after_pair h (fed t) unit ≡ after_pair h t unit
after_pair-fed h t later unit = grind arith

no_pair : (b : Bool) → cond b (after_pair 0 [] None) None ≡ None
no_pair true = refl
no_pair false = refl

content-fed : (w : Within) (t : List ℕ) → content w (fed t) ≡ content w t
unfolding content short_escape
content-fed plain [] = refl
content-fed plain (x ∷ t) =
    ap₂ (λ escaped rest. cond (x == 34) (Some [])
    (cond (x == 92) escaped (cond (nat_lt x 32) None (prepend (x ∷ []) rest))))
    (content-fed after_backslash t) (content-fed plain t)
content-fed after_backslash [] = refl
content-fed after_backslash (x ∷ t) =
    ap₂ (λ unit rest. cond (x == 117) unit (option_and_then (λ c. prepend (c ∷ []) rest) (short_escape x)))
    (content-fed after_u t) (content-fed plain t)
content-fed after_u [] = refl
content-fed after_u (a ∷ []) = refl
content-fed after_u (a ∷ b ∷ []) = refl
content-fed after_u (a ∷ b ∷ c ∷ []) = ap (after_unit []) (no_unit a b c)
content-fed after_u (a ∷ b ∷ c ∷ d ∷ t) = after_unit-fed t (λ w. content-fed w t) (code_unit a b c d)
content-fed (after_high h) [] = refl
content-fed (after_high h) (s ∷ []) = refl
content-fed (after_high h) (s ∷ u ∷ []) = refl
content-fed (after_high h) (s ∷ u ∷ a ∷ []) = refl
content-fed (after_high h) (s ∷ u ∷ a ∷ b ∷ []) = refl
content-fed (after_high h) (s ∷ u ∷ a ∷ b ∷ c ∷ []) = grind (arith, cond, no_unit, no_pair)
content-fed (after_high h) (s ∷ u ∷ a ∷ b ∷ c ∷ d ∷ t) =
    ap (λ r. cond ((s == 92) && (u == 117)) r None) (after_pair-fed h t (λ w. content-fed w t) (code_unit a b c d))

-- ---- the whole text

lex_byte-fed : (m : Mode) (c : Class) (x : ℕ) (t : List ℕ) → ((next : Mode) → lex next (fed t) ≡ lex next t)
    → lex_byte m c x (fed t) (λ next. lex next (fed t)) ≡ lex_byte m c x t (λ next. lex next t)
lex_byte-fed between quote x t later = ap₂ (λ s ls. token (string_token s) ∷ ls) (content-fed plain t) (later in_string)
lex_byte-fed between backslash x t later = ap (λ ls. token bad ∷ ls) (later in_word)
lex_byte-fed between operator x t later = ap (λ ls. operator_lexeme x ∷ ls) (later between)
lex_byte-fed between space x t later = later between
lex_byte-fed between other x t later = ap₂ (λ w ls. token w ∷ ls) (word-fed x t) (later in_word)
lex_byte-fed in_word quote x t later = later in_word
lex_byte-fed in_word backslash x t later = later in_word
lex_byte-fed in_word operator x t later = ap (λ ls. operator_lexeme x ∷ ls) (later between)
lex_byte-fed in_word space x t later = later between
lex_byte-fed in_word other x t later = later in_word
lex_byte-fed in_string quote x t later = later between
lex_byte-fed in_string backslash x t later = later in_escape
lex_byte-fed in_string operator x t later = later in_string
lex_byte-fed in_string space x t later = later in_string
lex_byte-fed in_string other x t later = later in_string
lex_byte-fed in_escape c x t later = later in_string

lex-fed : (m : Mode) (t : List ℕ) → lex m (fed t) ≡ lex m t
unfolding lex
lex-fed between [] = refl
lex-fed in_word [] = refl
lex-fed in_string [] = refl
lex-fed in_escape [] = refl
lex-fed m (x ∷ t) = lex_byte-fed m (class x) x t (λ next. lex-fed next t)

pub tokens-line_feed : (text : List ℕ) → tokens (text ++ 10 ∷ []) ≡ tokens text
tokens-line_feed text = ap (punctuate fresh) (lex-fed between text)
