use Rattle.std.proofs.Common.{◌≡◌, ◌+◌, ◌-◌, ◌<◌, ◌≤◌, take, drop, length}
use Rattle.std.specs.Prelude.{All}
use Rattle.vbi_c.specs.Erased.{erased_of}
use Rattle.vbi_c.proofs.erased.mark_field.Given as goal

abbrev pub invariant-loop-next : goal.invariant-loop-next
invariant-loop-next l = record {
  inside : l.next ≤ length l.list;
  marks : l.marks ≡ erased_of (take l.next l.list) l.system l.field;
  passed : All (λ entry. entry.field < l.field + 1) (take l.next l.list);
  left : All (λ entry. l.field ≤ entry.field) (drop l.next l.list);
}

abbrev pub decreases-loop-next : goal.decreases-loop-next
decreases-loop-next l = length l.list - l.next
