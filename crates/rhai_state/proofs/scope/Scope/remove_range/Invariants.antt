use Rattle.std.specs.Prelude.{◌≡◌, ◌≤◌, ◌+◌, ◌-◌, ◌++◌, drop, take}
use Rattle.rhai_state.specs.Scope.{entries_of}
use Rattle.rhai_state.proofs.scope.Scope.remove_range.Given as goal

abbrev pub invariant-entries : goal.invariant-entries
invariant-entries g l = record {
  kept : entries_of l.self ≡ take l.start (entries_of l.fn.self) ++ drop (l.start + (l.len - l.left)) (entries_of l.fn.self);
  within : l.left ≤ l.len;
}

abbrev pub decreases-entries : goal.decreases-entries
decreases-entries g l = l.left
