use Rattle.std.proofs.Common.{[], ◌∷◌, sym, ◌∙◌}
use Rattle.rhai_machine.specs.language.Setting.{Rules}
use Rattle.rhai_steps.specs.Sessions.{under}
use Rattle.rhai_steps.specs.States.{state_of}
use Rattle.rhai_calls.proofs.Taking.{first_and_others, none_below, others}
use Rattle.rhai_methods.proofs.Going.{number_asks_alone, number_races_alone}
use Rattle.rhai_methods.proofs.calls.call_number_by_itself.Goals as goal

pub returns-then-races-clause-runs : goal.returns-then-races-clause-runs
returns-then-races-clause-runs g c scope held =
    let rules : Rules _ _ = under g.H.Host.name_of c.args.session.now g.T.NativeTable.natives in
    number_races_alone rules c.args.pos c.args.id.number c.args.args.now
    (state_of (g.T.NativeTable.state c.args.table.now) c.args.global.now scope held)
    c.data_race_by.result (sym c.races.ensures ∙ c.if-races.true) c.data_race_by.ensures

pub returns-in_default-clause-runs : goal.returns-in_default-clause-runs
returns-in_default-clause-runs g c scope held =
    let rules : Rules _ _ = under g.H.Host.name_of c.args.session.now g.T.NativeTable.natives in
    number_asks_alone rules c.args.pos c.args.id.number c.args.args.now
    (state_of (g.T.NativeTable.state c.args.table.now) c.args.global.now scope held)
    [] (none_below c.args.args.now c.in_default.len_below)
    (state_of (g.T.NativeTable.state c.call_number_alone.new.table) c.call_number_alone.new.global scope held)
    c.call_number_alone.result (sym c.races.ensures ∙ c.if-races.false) (c.call_number_alone.ensures.runs scope held)

pub returns-clause-runs : goal.returns-clause-runs
returns-clause-runs g c scope held =
    let rules : Rules _ _ = under g.H.Host.name_of c.args.session.now g.T.NativeTable.natives in
    number_asks_alone rules c.args.pos c.args.id.number c.args.args.now
    (state_of (g.T.NativeTable.state c.args.table.now) c.args.global.now scope held)
    (c.result-item.result ∷ others c.args.args.now)
    (first_and_others c.args.args.now c.result-item.result c.result-item.result c.in-len1-up.len_at_least c.result-item.is)
    (state_of (g.T.NativeTable.state c.call_number.new.table) c.call_number.new.global scope held)
    c.call_number.result (sym c.races.ensures ∙ c.if-races.false) (c.call_number.ensures.runs scope held)
