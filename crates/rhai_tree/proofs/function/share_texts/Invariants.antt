use Rattle.std.specs.Prelude.{◌≡◌, ◌≤◌, ◌-◌, take, length}
use Rattle.rhai_tree.proofs.function.share_texts.Given as goal

abbrev pub invariant-texts : goal.invariant-texts
invariant-texts l = (l.shared ≡ take l.at l.texts) × (l.at ≤ length l.texts)

abbrev pub decreases-texts : goal.decreases-texts
decreases-texts l = length l.texts - l.at
