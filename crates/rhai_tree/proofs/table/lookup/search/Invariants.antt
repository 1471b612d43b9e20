use Rattle.std.proofs.Common.{◌≡◌, ℕ, ◌<◌, ◌≤◌, ◌-◌, length, get_or, List}
use Rattle.std.specs.declared.cmp.Ordering.TheVariants.{Less, Greater}
use Rattle.std.specs.Ordering.{nat_cmp}
use Rattle.std.specs.Cmp.Lexicographic.{slice_cmp}
use Rattle.rhai_tree.proofs.table.lookup.search.Given as goal

abbrev pub invariant-loop-low : goal.invariant-loop-low
invariant-loop-low l = record {
  ordered : l.low ≤ l.high;
  within : l.high ≤ length l.keys;
  below : (k : ℕ) (d : List ℕ) → k < l.low → slice_cmp nat_cmp (get_or l.keys k d) l.key ≡ Less;
  above : (k : ℕ) (d : List ℕ) → l.high ≤ k → k < length l.keys → slice_cmp nat_cmp (get_or l.keys k d) l.key ≡ Greater;
}

abbrev pub decreases-loop-low : goal.decreases-loop-low
decreases-loop-low l = l.high - l.low
