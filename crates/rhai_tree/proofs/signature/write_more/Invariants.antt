use Rattle.std.specs.Prelude.{◌++◌, take}
use Rattle.std.specs.List.{flat_map}
use Rattle.std.specs.Fmt.{comma_space, HasWritten, IsPlainFormatter}
use Rattle.rhai_tree.proofs.signature.write_more.Given as goal

abbrev pub invariant-loop-name : goal.invariant-loop-name
invariant-loop-name g l =
    IsPlainFormatter l.initial.f → HasWritten g.W.Write.write_str_gives l.initial.f
    (flat_map (λ name. comma_space ++ g.P.ParamName.bytes_of name) (take l.name-index l.names)) l.f
