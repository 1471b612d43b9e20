use Rattle.std.proofs.Common.{◌-◌, List, ℕ, drop, ap, ◌∙◌}
use Rattle.std.specs.Str.{chars, encode_utf8_all}
use Rattle.rhai_places.proofs.CharLemmas.{rest_chars, drop-rest}
use Rattle.rhai_places.proofs.chars.split_around.Goals as goal

pub returns-clause-back : goal.returns-clause-back
returns-clause-back c =
    c.range_from.ensures.value ∙ c.char_offset-length.ensures.back
    ∙ ap (λ (cs : List ℕ). encode_utf8_all (drop (c.args.end - c.args.start) cs))
    (rest_chars c.args.text.now c.utf8.text c.args.start c.char_offset-front.result c.range_from-rest.result.now
    c.range_from-rest.ensures.value c.char_offset-front.ensures.back)
    ∙ ap encode_utf8_all (drop-rest c.args.start c.args.end (chars c.args.text.now) c.requires)
