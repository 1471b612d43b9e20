use Rattle.std.proofs.Common.{◌≡◌, ap, sym, ◌∙◌}
use Rattle.std.specs.Option.{option_copied}
use Rattle.rhai_values.specs.Cells.{cells_of, with_value}
use Rattle.rhai_assign.proofs.Lent.{back_again, lent_again}
use Rattle.rhai_assign.proofs.native.outcome_of.Goals as goal

pub returns-clause-cells : goal.returns-clause-cells
returns-clause-cells g c = lent_again c.args.cells.now c.put_back.new.cells c.take.new.self c.in-Some.id c.replace.result
    (rw c.in-Some.is at c.requires) c.put_back.ensures c.take.ensures.held

pub returns-clause-target : goal.returns-clause-target
returns-clause-target g c = c.replace-2.ensures.after ∙ back_again (cells_of c.args.cells.now) (cells_of c.put_back.new.cells) c.in-Some.id
    c.replace.result c.unwrap.result (rw c.in-Some.is at c.requires) c.put_back.ensures (sym c.unwrap.ensures ∙ c.take.ensures.value)
    ∙ c.replace.ensures.value

pub returns-clause-told : goal.returns-clause-told
returns-clause-told g c =
    let back = back_again (cells_of c.args.cells.now) (cells_of c.put_back.new.cells) c.in-Some.id c.replace.result c.unwrap-back.result.now
    (rw c.in-Some.is at c.requires) c.put_back.ensures (ap option_copied (sym c.unwrap-back.ensures) ∙ c.get-2.ensures)
    ∙ c.replace.ensures.value in
    let seen : cells_of c.put_back.new.cells ≡ with_value (cells_of c.args.cells.now) c.in-Some.id.number c.args.target.now =
    c.put_back.ensures
    ∙ ap (λ v. with_value (cells_of c.args.cells.now) c.in-Some.id.number v) c.replace.ensures.value in
    rw c.in-Some.is (rw (c.as_str-name.ensures, c.get.ensures, back, seen) at c.replied-outcome.ensures.told)
