use Rattle.std.proofs.Common.{◌≡◌, ◌∷◌, ◌++◌, ◌+◌, drop, subst, sym, ap, ◌∙◌}
use Rattle.std.specs.Char.{encode_utf8}
use Rattle.std.specs.Str.{chars, IsCharBoundary, IsUtf8}
use Rattle.std.proofs.lemmas.Str.{IsCharBoundary-past_char, chars_past_char, drop_past_char}
use Rattle.rhai_stmt.proofs.cursors.LettersLeft.next.Goals as goal
use Rattle.rhai_stmt.proofs.cursors.LettersLeft.next.Goals.{After-self-1}

-- what is left of the text
cut : (c : After-self-1) → c.range_from-rest.result.now ≡ drop c.self.inside.at c.self.inside.text
cut c = c.range_from-rest.ensures.value ∙ ap (drop c.self.inside.at) (c.as_str.ensures ∙ c.get.ensures)

-- it starts with the character
starts : (c : After-self-1) → drop c.self.inside.at c.self.inside.text ≡ encode_utf8 c.in_ok-letter.letter ++ c.next.new.self.rest.now
starts c = sym (cut c) ∙ (sym c.chars.ensures.rest ∙ c.in_ok-letter.ensures.steps.0)

text : (c : After-self-1) → IsUtf8 (drop c.self.inside.at c.self.inside.text)
text c = subst IsUtf8 (cut c) c.range_from-rest.utf8

pub invariant_of-self : goal.invariant_of-self
invariant_of-self c = subst (λ n. IsCharBoundary c.self.inside.text (c.self.inside.at + n)) (sym c.len_utf8.ensures.value)
    (IsCharBoundary-past_char c.self.inside.text c.next.new.self.rest.now c.self.inside.at c.in_ok-letter.letter c.self.invariant.0
    (text c) (starts c))

pub returns-clause-some : goal.returns-clause-some
returns-clause-some c = sym c.self.view_is
    ∙ (chars_past_char (drop c.self.inside.at c.self.inside.text) c.next.new.self.rest.now c.in_ok-letter.letter (text c) (starts c)
    ∙ ap (λ bytes. c.in_ok-letter.letter ∷ chars bytes)
    (sym (ap (λ n. drop (c.self.inside.at + n) c.self.inside.text) c.len_utf8.ensures.value
    ∙ drop_past_char c.self.inside.text c.next.new.self.rest.now c.self.inside.at c.in_ok-letter.letter (starts c))))
