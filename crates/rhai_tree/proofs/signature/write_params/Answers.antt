use Rattle.std.proofs.Common.{[], ◌∷◌, ◌++◌, ap, rules}
use Rattle.std.specs.Fmt.{comma_space}
use Rattle.std.proofs.Output.{has_written_append, has_written_of_eq}
use Rattle.rhai_tree.proofs.Joins.{join_of_names}
use Rattle.rhai_tree.proofs.signature.write_params.Goals as goal

pub returns : goal.returns
returns g c plain ok =
    let opened = c.write_str.ensures.writes plain (search rules) in
    let names = c.write_joined.ensures opened.plain (search rules) in
    let closed = c.write_str-2.ensures.writes names.plain ok in
    has_written_of_eq _ _ _ _ _ (ap (λ text. 40 ∷ (text ++ 41 ∷ [])) (join_of_names g.P.ParamName.bytes_of comma_space c.args.params.now))
    (has_written_append _ _ _ _ _ _ (has_written_append _ _ _ _ _ _ opened names) closed)
