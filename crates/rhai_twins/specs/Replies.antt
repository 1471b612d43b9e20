-- Two answers of a table.
use Rattle.std.specs.Prelude.{IsSome}
use Rattle.rhai_errors.specs.declared.table.Answer.{Answer}
use Rattle.rhai_errors.specs.Native.{reply_of}

-- both answer: memory ran out in neither call
abbrev pub BothAnswer : {H : Type 0} → (one other : Answer H) → Type 0
BothAnswer one other = IsSome (reply_of one) × IsSome (reply_of other)
