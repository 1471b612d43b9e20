use Rattle.std.proofs.Common.{◌≡◌, ◌<◌, ◌≤◌, ◌+◌, length, take, get_or, sym, ap, ◌∙◌, arith}
use Rattle.std.proofs.lemmas.Iterator.{YieldsList-from_chars}
use Rattle.std.proofs.lemmas.Iterator.Consumers.{YieldsList-turn, YieldsList-end}
use Rattle.std.proofs.lemmas.List.{length_push}
use Rattle.std.specs.Str.{chars, encode_utf8_all}
use Rattle.rhai_places.proofs.CharLemmas.{front_at, back_at, boundary_at, one_more, fewer, all, at_end, within}
use Rattle.rhai_places.proofs.chars.char_offset.Goals as goal
use Rattle.rhai_places.proofs.chars.char_offset.Goals.{After-len_utf8-offset, Then-count-end, Then-passed-count, In-None}

whole : (c : Then-count-end) → length c.args.text.now ≡ length (encode_utf8_all (take c.args.count (chars c.args.text.now)))
whole c =
    let less : length (chars c.args.text.now) ≤ length c.args.text.now = fewer c.args.text.now c.utf8.text in
    sym (ap length (all c.args.text.now c.utf8.text c.args.count (omega arith)))

reached : (c : Then-passed-count) → c.loop-c.offset ≡ length (encode_utf8_all (take c.args.count (chars c.args.text.now)))
reached c = c.loop-c.invariant.reached ∙ ap (λ n. length (encode_utf8_all (take n (chars c.args.text.now)))) c.if-passed-count.true

turned : (c : After-len_utf8-offset) → (length c.loop-c.yielded < length (chars c.args.text.now)) ×
    (c.in-Some.c ≡ get_or (chars c.args.text.now) (length c.loop-c.yielded) c.in-Some.c)
turned c = YieldsList-turn (YieldsList-from_chars c.args.text.now c.utf8.text cc) c.loop-c.yielded _ c.loop-c.yielded_by _ _ c.in-Some.c
    c.in-Some.is c.next.ensures.steps

further : (c : After-len_utf8-offset) → c.loop-c.offset + c.len_utf8-offset.result ≡ length
    (encode_utf8_all (take (c.loop-c.passed + 1) (chars c.args.text.now)))
further c =
    (λ i. c.loop-c.invariant.reached i + c.len_utf8-offset.ensures.value i)
    ∙ one_more c.args.text.now c.utf8.text c.loop-c.passed c.in-Some.c
    (omega (arith, (turned c).0), (turned c).1 ∙ ap (λ n. get_or (chars c.args.text.now) n c.in-Some.c) (sym c.loop-c.invariant.counted))

ended : (c : In-None) → c.loop-c.offset ≡ length (encode_utf8_all (take c.args.count (chars c.args.text.now)))
ended c =
    let t = YieldsList-end (YieldsList-from_chars c.args.text.now c.utf8.text cc) c.loop-c.yielded _ c.loop-c.yielded_by _ _ c.in-None.is
    c.next.ensures.steps in
    c.loop-c.invariant.reached ∙ at_end c.args.text.now c.utf8.text c.loop-c.passed c.args.count (omega (arith, t.1)) (omega (arith, t.1))

pub returns-then-count-end-clause-front : goal.returns-then-count-end-clause-front
returns-then-count-end-clause-front c = front_at c.args.text.now c.utf8.text c.args.count _ (whole c)

pub returns-then-count-end-clause-back : goal.returns-then-count-end-clause-back
returns-then-count-end-clause-back c = back_at c.args.text.now c.utf8.text c.args.count _ (whole c)

pub returns-then-passed-count-clause-boundary : goal.returns-then-passed-count-clause-boundary
returns-then-passed-count-clause-boundary c = boundary_at c.args.text.now c.utf8.text c.args.count _ (reached c)

pub returns-then-passed-count-clause-front : goal.returns-then-passed-count-clause-front
returns-then-passed-count-clause-front c = front_at c.args.text.now c.utf8.text c.args.count _ (reached c)

pub returns-then-passed-count-clause-back : goal.returns-then-passed-count-clause-back
returns-then-passed-count-clause-back c = back_at c.args.text.now c.utf8.text c.args.count _ (reached c)

pub overflow_add-offset : goal.overflow_add-offset
overflow_add-offset c =
    let le : length (encode_utf8_all (take (c.loop-c.passed + 1) (chars c.args.text.now))) ≤ length c.args.text.now =
    within c.args.text.now c.utf8.text (c.loop-c.passed + 1) in
    omega (arith, further c, le)

pub loop-c-preserved : goal.loop-c-preserved
loop-c-preserved c =
    let n = length_push c.loop-c.yielded c.in-Some.c in
    record {
      counted = omega arith;
      within = omega arith;
      some = omega (arith, (turned c).0);
      reached = further c;
    }

pub returns-clause-boundary : goal.returns-clause-boundary
returns-clause-boundary c = boundary_at c.args.text.now c.utf8.text c.args.count _ (ended c)

pub returns-clause-front : goal.returns-clause-front
returns-clause-front c = front_at c.args.text.now c.utf8.text c.args.count _ (ended c)

pub returns-clause-back : goal.returns-clause-back
returns-clause-back c = back_at c.args.text.now c.utf8.text c.args.count _ (ended c)
