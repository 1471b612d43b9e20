use Rattle.std.proofs.Common.{◌≡◌, true, false, List, ℕ, ap, refl, sym, ◌∙◌, slice_set}
use Rattle.std.specs.List.{list_any}
use Rattle.std.specs.Str.{bytes_eq}
use Rattle.rhai_state.proofs.Aliases.{err_then, ok_then, set_there}
use Rattle.rhai_state.proofs.scope.Scope.add_alias.Goals as goal

pub returns-then-is_among-clause-ok : goal.returns-then-is_among-clause-ok
returns-then-is_among-clause-ok g c =
    let known : list_any (λ other. bytes_eq other c.args.alias) c.at_mut-entry.result.now.aliases ≡ true =
    sym (rw (c.as_str.ensures, c.get.ensures, c.as_slice.ensures) at c.is_among.ensures) ∙ c.if-is_among.true in
    rw (c.at_mut-entry.ensures.value, known) refl

pub returns-clause-ok : goal.returns-clause-ok
returns-clause-ok g c = ok_then c.push.result c.push.ensures.ok (λ done.
    let unknown : list_any (λ other. bytes_eq other c.args.alias) c.at_mut-entry.result.now.aliases ≡ false =
    sym (rw (c.as_str.ensures, c.get.ensures, c.as_slice.ensures) at c.is_among.ensures) ∙ c.if-is_among.false in
    rw (c.at_mut-entry.ensures.value, unknown)
    (ap (λ (names : List (List ℕ)). slice_set c.args.self.now.entries c.args.index (record c.at_mut-entry.result.now { aliases = names }))
    done))

pub returns-clause-err : goal.returns-clause-err
returns-clause-err g c = err_then c.push.result c.push.ensures.err (λ same.
    ap (λ (names : List (List ℕ)). slice_set c.args.self.now.entries c.args.index (record c.at_mut-entry.result.now { aliases = names }))
    same
    ∙ set_there c.args.self.now.entries c.args.index c.at_mut-entry.result.now c.at_mut-entry.ensures.value)
