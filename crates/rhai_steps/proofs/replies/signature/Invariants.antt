use Rattle.std.specs.Prelude.{◌≡◌, ◌++◌, ◌∷◌, drop, codes}
use Rattle.std.specs.String.{string_bytes}
use Rattle.rhai_values.specs.Cells.{cells_of}
use Rattle.rhai_machine.specs.language.Calls.{more, listed, types_of}
use Rattle.rhai_steps.proofs.replies.signature.Given as goal

abbrev pub invariant-others : goal.invariant-others
invariant-others g l =
    string_bytes l.text ++ more (types_of g.H.Host.name_of (cells_of l.cells) (drop l.value-index l.rest))
    ≡ l.name ++ (codes " (" ++ listed (types_of g.H.Host.name_of (cells_of l.cells) (l.first ∷ l.rest)))
