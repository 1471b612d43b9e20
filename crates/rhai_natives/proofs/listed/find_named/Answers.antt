use Rattle.std.proofs.Common.{ap, ◌∙◌}
use Rattle.std.specs.Option.{option_map}
use Rattle.std.specs.Str.{bytes_eq}
use Rattle.rhai_natives.specs.Listed.{entry_of}
use Rattle.rhai_natives.specs.Found.{found_as}
use Rattle.rhai_natives.proofs.Found.{find-map, found_there}
use Rattle.rhai_natives.proofs.listed.find_named.Goals as goal

pub returns : goal.returns
returns g c = rw (find-map entry_of (λ e. bytes_eq e.name c.args.name.now) c.args.listed.now)
    (c.found_at.ensures ∙ found_there _ ∙ ap (λ place. option_map found_as (option_map entry_of place)) c.named.ensures)
