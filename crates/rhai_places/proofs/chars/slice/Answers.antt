use Rattle.std.proofs.Common.{◌≡◌, ◌-◌, ℕ, List, IfOk, take, ap, subst, ◌∙◌, arith}
use Rattle.std.specs.Str.{encode_utf8_all}
use Rattle.rhai_spots.specs.Characters.{slice_of}
use Rattle.rhai_places.proofs.CharLemmas.{rest_chars}
use Rattle.rhai_places.proofs.chars.slice.Goals as goal

pub returns : goal.returns
returns c =
    let e : c.range.result.now ≡ slice_of c.args.text.now c.args.start c.args.end =
    c.range.ensures.value
    ∙ ap (λ n. take n c.range_from-rest.result.now) (let n :
    c.char_offset-length.result - 0 ≡ c.char_offset-length.result = omega arith in n)
    ∙ c.char_offset-length.ensures.front
    ∙ ap (λ (cs : List ℕ). encode_utf8_all (take (c.args.end - c.args.start) cs))
    (rest_chars c.args.text.now c.utf8.text c.args.start c.char_offset.result c.range_from-rest.result.now
    c.range_from-rest.ensures.value c.char_offset.ensures.back) in
    subst (λ (bytes : List ℕ). IfOk c.from_str.result (λ t. t ≡ bytes)) e c.from_str.ensures
