use Rattle.std.proofs.Common.{arith, ◌≤◌, ◌++◌, ap, ◌∙◌, length}
use Rattle.std.specs.Char.{encode_utf8}
use Rattle.std.specs.Str.{chars}
use Rattle.rhai_places.proofs.CharLemmas.{fewer, char_put}
use Rattle.rhai_places.proofs.chars.with_char.Goals as goal

pub overflow_add-at : goal.overflow_add-at
overflow_add-at c = let less : length (chars c.args.text.now) ≤ length c.args.text.now = fewer c.args.text.now c.utf8.text in omega arith

pub returns : goal.returns
returns c =
    c.from_string.ensures ∙ c.in_ok-push_str.ensures.bytes
    ∙ (λ i. (c.in_ok-push.ensures.bytes ∙ ap (λ front. front ++ encode_utf8 c.args.c)
    (c.in_ok-joined.ensures.ok ∙ c.split_around.ensures.front)) i ++ c.split_around.ensures.back i)
    ∙ char_put c.args.text.now c.utf8.text c.args.at c.args.c c.requires
