use Rattle.std.proofs.Common.{◌≡◌, false, sym, true, ◌∙◌}
use Rattle.rhai_stmt.proofs.Declared.{of_err, of_ok}
use Rattle.rhai_stmt.proofs.declaring.declare.Goals as goal
use Rattle.rhai_stmt.proofs.declaring.declare.Goals.{in-None, in-Some}

pub returns-in-Ok-clause-declares : goal.returns-in-Ok-clause-declares
returns-in-Ok-clause-declares g c held done k = elim c.match-declaration.branch [
  | in-None w ↦ rw (w.global-is, w.scope-is, w.in-None.is, ← c.take_value-value.ensures.taken)
      (of_ok _ (sym w.declared-is ∙ c.in-Ok.is) (w.add_variable-declared.ensures.declares held) k)
  | in-Some w ↦ rw (w.global-is, w.scope-is, w.in-Some.is, ← c.take_value-value.ensures.taken)
      (of_ok _ (sym w.declared-is ∙ c.in-Ok.is) (w.overwrite_variable-declared.ensures.declares held) k)
]

pub returns-in-Err-clause-misses : goal.returns-in-Err-clause-misses
returns-in-Err-clause-misses g c held done told k = elim c.match-declaration.branch [
  | in-None w ↦
      let never : true ≡ false = sym (of_err _ _ c.in-Err.error (sym w.declared-is ∙ c.in-Err.is) w.add_variable-declared.ensures.refused)
      ∙ (rw c.stop.ensures.told at told) in cc
  | in-Some w ↦ rw (w.global-is, w.scope-is, w.in-Some.is, ← c.take_value-value.ensures.taken, c.stop.ensures.told)
      (of_err _ _ c.in-Err.error (sym w.declared-is ∙ c.in-Err.is) (w.overwrite_variable-declared.ensures.misses held)
      (rw c.stop.ensures.told at told) k)
]
