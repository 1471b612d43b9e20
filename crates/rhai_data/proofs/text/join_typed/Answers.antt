use Rattle.std.specs.String.{string_bytes}
use Rattle.rhai_values.specs.Cells.{cells_of}
use Rattle.rhai_values.specs.TypeNames.{type_name_of}
use Rattle.rhai_machine.specs.machine.Memory.{◌⨾◌}
use Rattle.rhai_machine.specs.language.Runs.{Goes}
use Rattle.rhai_steps.specs.Sessions.{under}
use Rattle.rhai_steps.proofs.Pieces.{passed}
use Rattle.rhai_data.proofs.TextSteps.{joined_leads}
use Rattle.rhai_data.proofs.text.join_typed.Goals as goal

pub returns-in_err-part-clause-runs : goal.returns-in_err-part-clause-runs
unfolding Goes
returns-in_err-part-clause-runs g c scope held rest k =
    rw (passed _ c.from_residual.ensures) (c.in_err-part.ensures.runs scope held _ _ rest k)

pub returns-in-Some-clause-runs : goal.returns-in-Some-clause-runs
unfolding Goes
returns-in-Some-clause-runs g c scope held rest k =
    let rules = under g.H.Host.name_of c.args.session.now g.T.NativeTable.natives in
    (rw c.in-Some.is at (c.in_ok-part.ensures.runs scope held (string_bytes c.args.text.now)
    (type_name_of g.H.Host.name_of (cells_of c.args.global.now.cells) c.args.value.now) rest k))
    ⨾ joined_leads rules (string_bytes c.args.text.now) c.in-Some.part c.args.pos rest k _ c.join_text.result _
    (rw (c.as_str.ensures, c.get.ensures) at c.join_text.ensures.joined)
    (rw (c.as_str.ensures, c.get.ensures) at c.join_text.ensures.refused)

pub returns-in-None-clause-runs : goal.returns-in-None-clause-runs
unfolding Goes
returns-in-None-clause-runs g c scope held rest k =
    let rules = under g.H.Host.name_of c.args.session.now g.T.NativeTable.natives in
    (rw c.in-None.is at (c.in_ok-part.ensures.runs scope held (string_bytes c.args.text.now)
    (type_name_of g.H.Host.name_of (cells_of c.args.global.now.cells) c.args.value.now) rest k))
    ⨾ joined_leads rules (string_bytes c.args.text.now)
    (type_name_of g.H.Host.name_of (cells_of c.args.global.now.cells) c.args.value.now) c.args.pos rest k _ c.join_text-in-None.result _
    (rw c.requires at c.join_text-in-None.ensures.joined) (rw c.requires at c.join_text-in-None.ensures.refused)
