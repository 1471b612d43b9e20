use denote.Text.{Utf8}
use denote.Shadow.{shadow}
use Rattle.rhai_values.proofs.base.debug.+show.Given as goal

abbrev pub invariant-show_map-loop-at : goal.invariant-show_map-loop-at
invariant-show_map-loop-at g l = shadow (Utf8 l.before)

abbrev pub invariant-show_values-loop-value : goal.invariant-show_values-loop-value
invariant-show_values-loop-value g l = shadow (Utf8 l.before)
