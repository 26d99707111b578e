use Rattle.std.proofs.Common.{◌≡◌, ◌≢◌, ℕ, ◌+◌, ◌<◌, ◌≤◌, false, List, [], ◌∷◌, ◌++◌, get_or, take}
use Rattle.std.proofs.Common.{drop, length, replicate, ap, sym, ◌∙◌, arith, rules}
use Rattle.std.specs.Prelude.{All}
use Rattle.std.proofs.lemmas.List.{take_more, drop_more, take-append-drop, take_all, drop_all}
use Rattle.std.proofs.lemmas.List.Elements.{All-weaker, All-more, All-rest, All-same, All-nil, All-head}
use Rattle.vbi_c.specs.Types.{LdvbiErased}
use Rattle.vbi_c.specs.Erased.{erased_of}
use Rattle.vbi_c.proofs.Marks.{erased_of-none, erased_of-others}
use Rattle.vbi_c.proofs.Erasing.{no_entry, taken-line, taken-later}
use Rattle.vbi_c.proofs.erased.mark_field.Goals as goal

-- all are of earlier fields
earlier : (field : ℕ) (list : List LdvbiErased) → All (λ entry. entry.field < field) list
    → All (λ entry. entry.field < field + 1) list
earlier field list all =
    All-weaker (λ (entry : LdvbiErased). entry.field < field) (λ (entry : LdvbiErased). entry.field < field + 1)
    (λ entry less. omega (arith, less)) list all

-- none is of the field
not_earlier : (field : ℕ) (list : List LdvbiErased) → All (λ entry. entry.field < field) list
    → All (λ entry. entry.field ≢ field) list
not_earlier field list all =
    All-weaker (λ (entry : LdvbiErased). entry.field < field) (λ (entry : LdvbiErased). entry.field ≢ field)
    (λ entry less. omega (arith, less)) list all

-- none is of the field, and all are of the next one or of later ones
not_later : (field : ℕ) (list : List LdvbiErased) → All (λ entry. field < entry.field) list
    → All (λ entry. entry.field ≢ field) list
not_later field list all =
    All-weaker (λ (entry : LdvbiErased). field < entry.field) (λ (entry : LdvbiErased). entry.field ≢ field)
    (λ entry more. omega (arith, more)) list all

later : (field : ℕ) (list : List LdvbiErased) → All (λ entry. field < entry.field) list
    → All (λ entry. field + 1 ≤ entry.field) list
later field list all =
    All-weaker (λ (entry : LdvbiErased). field < entry.field) (λ (entry : LdvbiErased). field + 1 ≤ entry.field)
    (λ entry more. omega (arith, more)) list all

pub loop-next-init : goal.loop-next-init
loop-next-init c =
    let before = take c.args.place c.args.list.now in
    record {
      inside = c.requires.place;
      marks = c.fill.ensures.after (search rules) ∙ ap (λ (n : ℕ). replicate n false) c.requires.long
          ∙ erased_of-none before c.args.system c.args.field (not_earlier c.args.field before c.requires.begins.0);
      passed = earlier c.args.field before c.requires.begins.0;
      left = c.requires.begins.1;
    }

pub loop-next-preserved : goal.loop-next-preserved
loop-next-preserved c =
    let list = c.args.list.now in
    let next = c.loop-next.next in
    let field = c.args.field in
    let entry = get_or list next no_entry in
    let inside = c.loop-next-test.true in
    let is : entry.field ≡ field = c.if-list-next.true in
    let marks = c.mark.ensures (take next list)
    (c.loop-next.invariant.marks ∙ ap (λ (f : ℕ). erased_of (take next list) c.args.system f) (sym is)) in
    record {
      inside = omega arith;
      marks = marks ∙ ap (λ (f : ℕ). erased_of (take next list ++ entry ∷ []) c.args.system f) is
          ∙ ap (λ (some : List LdvbiErased). erased_of some c.args.system field)
          (sym (take_more list next no_entry inside));
      passed = All-more (λ (entry : LdvbiErased). entry.field < field + 1) list next no_entry inside
          c.loop-next.invariant.passed (omega (arith, is));
      left = All-rest (λ (entry : LdvbiErased). field ≤ entry.field) entry (drop (next + 1) list) (drop next list)
          (drop_more list next no_entry inside) c.loop-next.invariant.left;
    }

pub mark-requires : goal.mark-requires
mark-requires c = record {
  long = c.loop-next.auto.marks ∙ c.fill.ensures.len ∙ c.requires.long;
  line = taken-line c.requires.taken.0 c.args.list.now c.loop-next.next no_entry c.requires.taken.1
      c.loop-next-test.true;
}

pub returns-after-loop-next : goal.returns-after-loop-next
returns-after-loop-next c =
    let list = c.args.list.now in
    let next = c.loop-next.next in
    let past : length list ≤ next = c.loop-next-test.false in
    let none = drop_all next list past in
    record {
      marks = c.loop-next.invariant.marks
          ∙ ap (λ (some : List LdvbiErased). erased_of some c.args.system c.args.field) (take_all next list past);
      place = c.loop-next.invariant.inside;
      begins = (
        c.loop-next.invariant.passed,
        All-same (λ (entry : LdvbiErased). c.args.field + 1 ≤ entry.field) (drop next list) [] none
            (All-nil (λ (entry : LdvbiErased). c.args.field + 1 ≤ entry.field)),
      );
    }

pub returns-else-list-next : goal.returns-else-list-next
returns-else-list-next c =
    let list = c.args.list.now in
    let next = c.loop-next.next in
    let field = c.args.field in
    let inside = c.loop-next-test.true in
    let entry = get_or list next no_entry in
    let from : field ≤ entry.field
    = All-head (λ (entry : LdvbiErased). field ≤ entry.field) entry (drop (next + 1) list)
    (All-same (λ (entry : LdvbiErased). field ≤ entry.field) (entry ∷ drop (next + 1) list) (drop next list)
    (sym (drop_more list next no_entry inside)) c.loop-next.invariant.left) in
    let not_is : entry.field ≢ field = c.if-list-next.false in
    let rest = taken-later c.requires.taken.0 list next field no_entry c.requires.taken.1 inside (omega arith) in
    record {
      marks = c.loop-next.invariant.marks
          ∙ erased_of-others (take next list) (drop next list) c.args.system field
          (not_later field (drop next list) rest)
          ∙ ap (λ (some : List LdvbiErased). erased_of some c.args.system field) (take-append-drop next list);
      place = c.loop-next.invariant.inside;
      begins = (c.loop-next.invariant.passed, later field (drop next list) rest);
    }
