use Rattle.std.proofs.Common.{string_bytes, sym, ◌∙◌}
use Rattle.std.proofs.lemmas.Slice.Eq.{bytes_eq-Decides}
use Rattle.rhai_rows.proofs.ArgumentLemmas.{two_words}
use Rattle.rhai_rows.proofs.command.row_asked.Goals as goal

pub returns-in-len2 : goal.returns-in-len2
returns-in-len2 c refuse =
    let named = sym c.as_str.ensures.value ∙ (bytes_eq-Decides c.as_str.result.now _).0 (sym c.eq.ensures ∙ c.if-eq.true) in
    absurd (refuse (two_words string_bytes c.args.args.now c.word-item.result c.in-len2.len_at_least c.in-len2.len_below c.word-item.is
    named))
