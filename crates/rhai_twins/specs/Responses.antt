-- Two responses of natives.
use Rattle.rhai_natives.specs.declared.response.Response.{Response}
use Rattle.std.specs.Prelude.{Option}
use Rattle.rhai_natives.specs.Responses.{HadMemory, HasMemory}

-- neither response says that memory ran out
abbrev pub BothAnswer : {H : Type 0} → (one other : Response H) → Type 0
BothAnswer one other = HasMemory one × HasMemory other

-- neither response says that memory ran out, where there may be none
abbrev pub BothRespond : {H : Type 0} → (one other : Option (Response H)) → Type 0
BothRespond one other = HadMemory one × HadMemory other
