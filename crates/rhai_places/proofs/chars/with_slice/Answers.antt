use Rattle.std.proofs.Common.{◌++◌, ap, ◌∙◌}
use Rattle.rhai_places.proofs.CharLemmas.{slice_put}
use Rattle.rhai_places.proofs.chars.with_slice.Goals as goal

pub returns : goal.returns
returns c =
    c.from_string.ensures ∙ c.in_ok-push_str-2.ensures.bytes
    ∙ (λ i. (c.in_ok-push_str.ensures.bytes
    ∙ ap (λ front. front ++ c.args.new.now) (c.in_ok-joined.ensures.ok ∙ c.split_around.ensures.front))
    i ++ c.split_around.ensures.back i)
    ∙ slice_put c.args.text.now c.utf8.text c.args.start c.args.end c.args.new.now c.utf8.new
