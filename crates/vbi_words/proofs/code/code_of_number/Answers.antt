use Rattle.vbi_words.proofs.Common.{arith, ◌≡◌, ℕ, inl, refl, ap, ◌∙◌, lit<, Code}
use Rattle.std.proofs.lemmas.Bool.{false≢true}
use Rattle.vbi_words.specs.declared.code.Code.TheVariants.{Picture, Chapter, Time, ClvPicture, CxOn, CxOff}
use Rattle.vbi_words.proofs.OneCode.{other}
use Rattle.vbi_words.proofs.code.code_of_number.Goals as goal

both : (code : ℕ → ℕ → Code) (a b x y : ℕ) → a ≡ x → b ≡ y → code a b ≡ code x y
both code a b x y e f = ap (λ (n : ℕ). code n b) e ∙ ap (code x) f

pub returns-then-is_between : goal.returns-then-is_between
returns-then-is_between c = inl (0, _, lit< tt, refl, (c.if-is_between.ensures.0 refl, refl))

pub returns-then-is_between-2 : goal.returns-then-is_between-2
returns-then-is_between-2 c = inl (1, _, lit< tt, refl, (c.if-is_between-2.ensures.0 refl, refl))

pub returns-then-is_between-3 : goal.returns-then-is_between-3
returns-then-is_between-3 c =
    inl (2, _, lit< tt, refl, (c.if-is_between-3.ensures.0 refl, ap Picture c.picture.ensures))

pub returns-then-is_between-4 : goal.returns-then-is_between-4
returns-then-is_between-4 c = inl (3, _, lit< tt, refl, (c.if-is_between-4.ensures.0 refl, refl))

pub returns-then-is_between-5 : goal.returns-then-is_between-5
returns-then-is_between-5 c =
    inl (4, _, lit< tt, refl, (c.if-is_between-5.ensures.0 refl, ap Chapter c.chapter.ensures))

pub returns-then-is_between-6 : goal.returns-then-is_between-6
returns-then-is_between-6 c = inl (5, _, lit< tt, refl, (c.if-is_between-6.ensures.0 refl, refl))

pub returns-then-is_between-7 : goal.returns-then-is_between-7
returns-then-is_between-7 c =
    let numbers = both Time _ _ _ _ c.digit.ensures.digit c.two_digits.ensures in
    inl (6, _, lit< tt, refl, (c.if-is_between-7.ensures.0 refl, numbers))

pub returns-then-is_between-8 : goal.returns-then-is_between-8
returns-then-is_between-8 c =
    let numbers = both ClvPicture _ _ _ _ c.seconds.ensures c.two_digits-then-is_between-8.ensures in
    inl (7, _, lit< tt, refl, (c.if-is_between-8.ensures.0 refl, numbers))

pub returns-then-is_between-9 : goal.returns-then-is_between-9
returns-then-is_between-9 c =
    inl (8, _, lit< tt, refl, (c.if-is_between-9.ensures.0 refl, ap CxOn c.three_digits.ensures))

pub returns-then-is_between-10 : goal.returns-then-is_between-10
returns-then-is_between-10 c =
    inl (9, _, lit< tt, refl, (c.if-is_between-10.ensures.0 refl, ap CxOff c.three_digits-then-is_between-10.ensures))

pub returns-then-is_between-11 : goal.returns-then-is_between-11
returns-then-is_between-11 c = grind arith

-- no pattern fits
pub returns-else-is_between-11 : goal.returns-else-is_between-11
returns-else-is_between-11 c = other c.args.word
    (λ fits. false≢true (c.if-is_between.ensures.1 fits))
    (λ fits. false≢true (c.if-is_between-2.ensures.1 fits))
    (λ fits. false≢true (c.if-is_between-3.ensures.1 fits))
    (λ fits. false≢true (c.if-is_between-4.ensures.1 fits))
    (λ fits. false≢true (c.if-is_between-5.ensures.1 fits))
    (λ fits. false≢true (c.if-is_between-6.ensures.1 fits))
    (λ fits. false≢true (c.if-is_between-7.ensures.1 fits))
    (λ fits. false≢true (c.if-is_between-8.ensures.1 fits))
    (λ fits. false≢true (c.if-is_between-9.ensures.1 fits))
    (λ fits. false≢true (c.if-is_between-10.ensures.1 fits))
    (λ fits. false≢true (c.if-is_between-11.ensures.1 fits))
