use Rattle.std.proofs.Common.{◌≡◌, ℕ, Some, None, get_or, sym, ap, ◌∙◌}
use Rattle.std.specs.Option.{option_map}
use Rattle.std.specs.List.{slice_get}
use Rattle.std.proofs.lemmas.Iterator.{YieldsList-from_chars}
use Rattle.std.proofs.lemmas.Iterator.Consumers.{nth_from_yields_List}
use Rattle.std.proofs.lemmas.Option.{slice_get-get_or, get_or_from_slice_get}
use Rattle.std.specs.Str.{chars}
use Rattle.rhai_places.proofs.chars.char_at.Goals as goal

pub unreachable-requires : goal.unreachable-requires
unreachable-requires c =
    let found = nth_from_yields_List c.nth.result _ c.args.at c.nth.ensures.ran (YieldsList-from_chars c.args.text.now c.utf8.text cc) in
    let there : slice_get (chars c.args.text.now) c.args.at ≡ Some (get_or (chars c.args.text.now) c.args.at 0) =
    slice_get-get_or (chars c.args.text.now) c.args.at 0 c.requires in
    let missing : None ≡ Some (get_or (chars c.args.text.now) c.args.at 0) =
    ap (option_map (λ (x : ℕ). x)) (sym c.in-None.is) ∙ found ∙ there in
    cc

pub returns : goal.returns
returns c =
    let found = nth_from_yields_List c.nth.result _ c.args.at c.nth.ensures.ran (YieldsList-from_chars c.args.text.now c.utf8.text cc) in
    sym (get_or_from_slice_get (chars c.args.text.now) c.args.at c.in-Some.c 0 (sym found ∙ ap (option_map (λ (x : ℕ). x)) c.in-Some.is))
