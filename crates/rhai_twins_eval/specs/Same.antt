-- Two ends of a run from one start.
use Rattle.std.specs.Prelude.{◌≡◌, Result}
use Rattle.rhai_errors.specs.declared.error.EvalAltResult.{EvalAltResult}
use Rattle.rhai_machine.specs.language.State.{HasMemory}

-- the answers are one, and so is what is left, where neither run ended out of memory
abbrev pub Same : {A H B : Type 0} → (r s : Result A (EvalAltResult H)) → (one other : B) → Type 0
Same r s one other = HasMemory r → HasMemory s → (r ≡ s) × (one ≡ other)

-- what is left is one, where neither run ended out of memory
abbrev pub SameEnd : {A H B : Type 0} → (r s : Result A (EvalAltResult H)) → (one other : B) → Type 0
SameEnd r s one other = HasMemory r → HasMemory s → one ≡ other
