use Rattle.std.proofs.Common.{Err, sym, ap, ◌∙◌, ◌+◌, arith, length, take, drop, is_some, refl}
use Rattle.rhai_values.specs.Cells.{cells_of}
use Rattle.rhai_machine.specs.language.Chains.{method_of}
use Rattle.rhai_machine.specs.language.Values.{is_handle}
use Rattle.rhai_eval_steps.specs.Agreement.{ChangesNames, KeepsNames, RestoresNames, SuitsNames}
use Rattle.rhai_eval_core.specs.States.{under}
use Rattle.rhai_steps.specs.States.{state_of}
use Rattle.rhai_steps.specs.OnFocus.{lending}
use Rattle.rhai_links.specs.Chains.{chain_at, form_seen, link_seen}
use Rattle.rhai_links.proofs.Entering.{entered_handle, enters}
use Rattle.rhai_links.proofs.Inside.{entry_there, given_is, item_by_natives, item_inside}
use Rattle.rhai_links.proofs.Inside.{item_there, method_inside, named_inside, property_by_natives, first_runs_out}
use Rattle.rhai_links.proofs.Walked.{first_and_others, index_left, index_there, index_walks, named_behind, named_walks, others}
use Rattle.rhai_links.proofs.Walked.{method_behind, method_there, method_walks}
use Rattle.rhai_links.proofs.OnTemporaries.{focus_called, method_goes}
use Rattle.rhai_links.specs.Walking.{inside_core}
use Rattle.rhai_context.specs.Ends.{came_changed, error_in}
use Rattle.rhai_eval_core.proofs.evaluator.Evaluator.+eval.Goals as goal

pub walk_entered-unreachable-requires : goal.walk_entered-unreachable-requires
walk_entered-unreachable-requires g t c =
    let there = index_there (is_some c.args.new) (link_seen c.args.link) (length c.args.args.now) c.requires.walks
    c.in-Index.field-0.now (ap form_seen c.in-Index.is) in
    absurd (omega (arith, there, c.in_default.len_below))

pub walk_entered-split_at_mut-given-requires : goal.walk_entered-split_at_mut-given-requires
walk_entered-split_at_mut-given-requires g t c =
    let asked = c.in-Method.call.now in
    let there = method_there (is_some c.args.new) (link_seen c.args.link) (length c.args.args.now) c.requires.walks asked.name asked.args
    c.in-Method.pos (ap form_seen c.in-Method.is) in
    omega (arith, there, c.asked_by-first.ensures.count)

pub walk_entered-walk_behind-result-requires : goal.walk_entered-walk_behind-result-requires
unfolding ChangesNames KeepsNames RestoresNames SuitsNames
walk_entered-walk_behind-result-requires g t c =
    let asked = c.in-Method.call.now in
    let behind = method_walks (is_some c.args.new) (link_seen c.args.link) (length c.args.args.now) c.requires.walks asked.name asked.args
    c.in-Method.pos (length c.split_at_mut-given.result.1.now) (ap form_seen c.in-Method.is)
    (ap (λ n. length c.split_at_mut-given.result.1.now + n) (sym c.asked_by-first.ensures.count) ∙ c.split_at_mut-given.ensures.back_len) in
    λ κs lives. (omega (arith, c.run_method-mark.ensures.counts), (lives.0, (lives.1, behind)))

pub walk_entered-walk_spot-result-requires : goal.walk_entered-walk_spot-result-requires
unfolding ChangesNames KeepsNames RestoresNames SuitsNames
walk_entered-walk_spot-result-requires g t c =
    let all = first_and_others c.args.args.now c.result-item.result c.result-item.result c.in-len1-up.len_at_least c.result-item.is in
    let behind = index_walks (is_some c.args.new) (link_seen c.args.link) (length c.args.args.now) c.requires.walks _
    (length (others c.args.args.now)) (ap form_seen c.in-Index.is) (omega (arith, ap (λ args. length args) all)) in
    λ κs lives. (omega arith, (lives.0, (lives.1, behind)))

pub walk_entered-walk_member-result-requires : goal.walk_entered-walk_member-result-requires
unfolding ChangesNames KeepsNames RestoresNames SuitsNames
walk_entered-walk_member-result-requires g t c =
    let all = first_and_others c.args.args.now c.result-item.result c.result-item.result c.in-len1-up.len_at_least c.result-item.is in
    let behind = index_walks (is_some c.args.new) (link_seen c.args.link) (length c.args.args.now) c.requires.walks _
    (length (others c.args.args.now)) (ap form_seen c.in-Index.is) (omega (arith, ap (λ args. length args) all)) in
    λ κs lives. (omega arith, (lives.0, (lives.1, behind)))

pub walk_entered-walk_spot-result-requires-then-is_map : goal.walk_entered-walk_spot-result-requires-then-is_map
unfolding ChangesNames KeepsNames RestoresNames SuitsNames
walk_entered-walk_spot-result-requires-then-is_map g t c =
    let form = ap form_seen c.in-Property.is in
    let behind = named_walks (is_some c.args.new) (link_seen c.args.link) (length c.args.args.now) c.requires.walks c.in-Property.name.now
    c.in-Property.pos form in
    λ κs lives. (omega arith, (lives.0, (lives.1, behind)))

pub walk_entered-walk_member-result-requires-else-is_map : goal.walk_entered-walk_member-result-requires-else-is_map
unfolding ChangesNames KeepsNames RestoresNames SuitsNames
walk_entered-walk_member-result-requires-else-is_map g t c =
    let form = ap form_seen c.in-Property.is in
    let behind = named_walks (is_some c.args.new) (link_seen c.args.link) (length c.args.args.now) c.requires.walks c.in-Property.name.now
    c.in-Property.pos form in
    λ κs lives. (omega arith, (lives.0, (lives.1, behind)))

pub walk_entered-returns-then-is_indexed-clause-runs : goal.walk_entered-returns-then-is_indexed-clause-runs
walk_entered-returns-then-is_indexed-clause-runs g t c scope held rest =
    let rules = under g.H.Host.name_of c.args.self.now g.T.NativeTable.natives in
    let link = link_seen c.args.link in
    let chain = chain_at c.args.root.now rest c.args.args.now c.args.new c.args.in_place in
    let inner = c.step_in-above.new.focus in
    let was = is_handle c.args.focus.now.value in
    let old = state_of (g.T.NativeTable.state c.args.table.now) c.args.run.now.global scope (lending held c.args.focus.now) in
    let taken = state_of (g.T.NativeTable.state c.args.table.now) (record c.args.run.now.global { cells = c.step_in-above.new.cells }) scope
    (lending held inner) in
    let worked = state_of (g.T.NativeTable.state c.walk_spot-result.new.table) c.walk_spot-result.new.run.global scope (lending held
    c.walk_spot-result.new.source) in
    let form = ap form_seen c.in-Index.is in
    let index = c.result-item.result in
    let all = first_and_others c.args.args.now index index c.in-len1-up.len_at_least c.result-item.is in
    let left = index_left (form_seen c.args.link.form) c.in-Index.field-0.now c.args.args.now (others c.args.args.now) index form all in
    enters rules link chain old worked (came_changed c.walk_spot-result.result c.walk_spot-result.new.run.value
    c.walk_spot-result.new.run.error) c.step_in-above.result c.args.focus.now inner
    c.walk_spot-result.new.source c.step_out.new.focus
    (cells_of c.args.run.now.global.cells) (cells_of c.step_in-above.new.cells) (cells_of c.walk_spot-result.new.run.global.cells)
    (cells_of c.step_out.new.cells) c.step_in-above.ensures
    (item_inside rules link chain inner taken worked (came_changed c.walk_spot-result.result c.walk_spot-result.new.run.value
    c.walk_spot-result.new.run.error) was c.in-Index.field-0.now index (others c.args.args.now) form
    all
    (item_there rules link chain inner taken worked (came_changed c.walk_spot-result.result c.walk_spot-result.new.run.value
    c.walk_spot-result.new.run.error) index (sym c.is_indexed.ensures ∙ c.if-is_indexed.true)
    (c.walk_spot-result.ensures.runs scope held rest c.args.args.now left))) c.step_out.ensures

pub walk_entered-returns-else-is_indexed-clause-runs : goal.walk_entered-returns-else-is_indexed-clause-runs
walk_entered-returns-else-is_indexed-clause-runs g t c scope held rest =
    let rules = under g.H.Host.name_of c.args.self.now g.T.NativeTable.natives in
    let link = link_seen c.args.link in
    let chain = chain_at c.args.root.now rest c.args.args.now c.args.new c.args.in_place in
    let inner = c.step_in-above.new.focus in
    let was = is_handle c.args.focus.now.value in
    let old = state_of (g.T.NativeTable.state c.args.table.now) c.args.run.now.global scope (lending held c.args.focus.now) in
    let taken = state_of (g.T.NativeTable.state c.args.table.now) (record c.args.run.now.global { cells = c.step_in-above.new.cells }) scope
    (lending held inner) in
    let worked = state_of (g.T.NativeTable.state c.walk_member-result.new.table) c.walk_member-result.new.run.global scope (lending held
    c.walk_member-result.new.source) in
    let form = ap form_seen c.in-Index.is in
    let index = c.result-item.result in
    let all = first_and_others c.args.args.now index index c.in-len1-up.len_at_least c.result-item.is in
    let left = index_left (form_seen c.args.link.form) c.in-Index.field-0.now c.args.args.now (others c.args.args.now) index form all in
    enters rules link chain old worked (came_changed c.walk_member-result.result c.walk_member-result.new.run.value
    c.walk_member-result.new.run.error) c.step_in-above.result c.args.focus.now inner
    c.walk_member-result.new.source c.step_out-else-is_indexed.new.focus
    (cells_of c.args.run.now.global.cells) (cells_of c.step_in-above.new.cells) (cells_of c.walk_member-result.new.run.global.cells)
    (cells_of c.step_out-else-is_indexed.new.cells) c.step_in-above.ensures
    (item_inside rules link chain inner taken worked (came_changed c.walk_member-result.result c.walk_member-result.new.run.value
    c.walk_member-result.new.run.error) was c.in-Index.field-0.now index (others c.args.args.now)
    form all
    (item_by_natives rules link chain inner taken worked (came_changed c.walk_member-result.result c.walk_member-result.new.run.value
    c.walk_member-result.new.run.error) index (sym c.is_indexed.ensures ∙
    c.if-is_indexed.false)
    (rw c.item_access-access.ensures at (c.walk_member-result.ensures.runs scope held rest c.args.args.now c.args.in_place left))))
    c.step_out-else-is_indexed.ensures

pub walk_entered-returns-in_default-key_for-clause-runs : goal.walk_entered-returns-in_default-key_for-clause-runs
walk_entered-returns-in_default-key_for-clause-runs g t c scope held rest =
    let rules = under g.H.Host.name_of c.args.self.now g.T.NativeTable.natives in
    let link = link_seen c.args.link in
    let chain = chain_at c.args.root.now rest c.args.args.now c.args.new c.args.in_place in
    let inner = c.step_in-above.new.focus in
    let was = is_handle c.args.focus.now.value in
    let old = state_of (g.T.NativeTable.state c.args.table.now) c.args.run.now.global scope (lending held c.args.focus.now) in
    let taken = state_of (g.T.NativeTable.state c.args.table.now) (record c.args.run.now.global { cells = c.step_in-above.new.cells }) scope
    (lending held inner) in
    enters rules link chain old taken (Err (error_in c.key_for.new.place)) c.step_in-above.result c.args.focus.now inner inner
    c.step_out-in_default-key_for.new.focus
    (cells_of c.args.run.now.global.cells) (cells_of c.step_in-above.new.cells) (cells_of c.step_in-above.new.cells)
    (cells_of c.step_out-in_default-key_for.new.cells) c.step_in-above.ensures
    (first_runs_out rules (inside_core rules.setting link was inner chain) taken
    (error_in c.key_for.new.place) _ c.in_default-key_for.ensures)
    c.step_out-in_default-key_for.ensures

pub walk_entered-returns-in-Some-clause-runs : goal.walk_entered-returns-in-Some-clause-runs
walk_entered-returns-in-Some-clause-runs g t c scope held rest =
    let rules = under g.H.Host.name_of c.args.self.now g.T.NativeTable.natives in
    let link = link_seen c.args.link in
    let chain = chain_at c.args.root.now rest c.args.args.now c.args.new c.args.in_place in
    let inner = c.step_in-above.new.focus in
    let was = is_handle c.args.focus.now.value in
    let old = state_of (g.T.NativeTable.state c.args.table.now) c.args.run.now.global scope (lending held c.args.focus.now) in
    let taken = state_of (g.T.NativeTable.state c.args.table.now) (record c.args.run.now.global { cells = c.step_in-above.new.cells }) scope
    (lending held inner) in
    let worked = state_of (g.T.NativeTable.state c.walk_spot-result-then-is_map.new.table) c.walk_spot-result-then-is_map.new.run.global
    scope (lending held c.walk_spot-result-then-is_map.new.source) in
    let name = c.in-Property.name.now in
    let at = c.in-Property.pos in
    let form = ap form_seen c.in-Property.is in
    let left = named_behind (form_seen c.args.link.form) name at c.args.args.now form in
    enters rules link chain old worked (came_changed c.walk_spot-result-then-is_map.result c.walk_spot-result-then-is_map.new.run.value
    c.walk_spot-result-then-is_map.new.run.error) c.step_in-above.result c.args.focus.now inner
    c.walk_spot-result-then-is_map.new.source c.step_out-then-is_map.new.focus
    (cells_of c.args.run.now.global.cells) (cells_of c.step_in-above.new.cells) (cells_of
    c.walk_spot-result-then-is_map.new.run.global.cells)
    (cells_of c.step_out-then-is_map.new.cells) c.step_in-above.ensures
    (named_inside rules link chain inner taken worked (came_changed c.walk_spot-result-then-is_map.result
    c.walk_spot-result-then-is_map.new.run.value c.walk_spot-result-then-is_map.new.run.error) was name at form
    (entry_there rules link chain inner taken worked (came_changed c.walk_spot-result-then-is_map.result
    c.walk_spot-result-then-is_map.new.run.value c.walk_spot-result-then-is_map.new.run.error) was name at c.in-Some.key
    (given_is c.in-Some.key _
    c.in-Some.ensures)
    (sym c.is_map.ensures ∙ c.if-is_map.true) (c.walk_spot-result-then-is_map.ensures.runs scope held rest c.args.args.now left)))
    c.step_out-then-is_map.ensures

pub walk_entered-returns-else-is_map-clause-runs : goal.walk_entered-returns-else-is_map-clause-runs
walk_entered-returns-else-is_map-clause-runs g t c scope held rest =
    let rules = under g.H.Host.name_of c.args.self.now g.T.NativeTable.natives in
    let link = link_seen c.args.link in
    let chain = chain_at c.args.root.now rest c.args.args.now c.args.new c.args.in_place in
    let inner = c.step_in-above.new.focus in
    let was = is_handle c.args.focus.now.value in
    let old = state_of (g.T.NativeTable.state c.args.table.now) c.args.run.now.global scope (lending held c.args.focus.now) in
    let taken = state_of (g.T.NativeTable.state c.args.table.now) (record c.args.run.now.global { cells = c.step_in-above.new.cells }) scope
    (lending held inner) in
    let worked = state_of (g.T.NativeTable.state c.walk_member-result-else-is_map.new.table)
    c.walk_member-result-else-is_map.new.run.global scope (lending held c.walk_member-result-else-is_map.new.source) in
    let name = c.in-Property.name.now in
    let at = c.in-Property.pos in
    let form = ap form_seen c.in-Property.is in
    let left = named_behind (form_seen c.args.link.form) name at c.args.args.now form in
    enters rules link chain old worked (came_changed c.walk_member-result-else-is_map.result c.walk_member-result-else-is_map.new.run.value
    c.walk_member-result-else-is_map.new.run.error) c.step_in-above.result c.args.focus.now inner
    c.walk_member-result-else-is_map.new.source c.step_out-else-is_map.new.focus
    (cells_of c.args.run.now.global.cells) (cells_of c.step_in-above.new.cells) (cells_of
    c.walk_member-result-else-is_map.new.run.global.cells)
    (cells_of c.step_out-else-is_map.new.cells) c.step_in-above.ensures
    (named_inside rules link chain inner taken worked (came_changed c.walk_member-result-else-is_map.result
    c.walk_member-result-else-is_map.new.run.value c.walk_member-result-else-is_map.new.run.error) was name at form
    (property_by_natives rules link chain inner taken worked (came_changed c.walk_member-result-else-is_map.result
    c.walk_member-result-else-is_map.new.run.value c.walk_member-result-else-is_map.new.run.error) was name at (sym c.is_map.ensures ∙
    c.if-is_map.false)
    (c.walk_member-result-else-is_map.ensures.runs scope held rest c.args.args.now c.args.in_place left))) c.step_out-else-is_map.ensures

pub walk_entered-returns-in-Method-clause-runs : goal.walk_entered-returns-in-Method-clause-runs
walk_entered-returns-in-Method-clause-runs g t c scope held rest =
    let rules = under g.H.Host.name_of c.args.self.now g.T.NativeTable.natives in
    let link = link_seen c.args.link in
    let chain = chain_at c.args.root.now rest c.args.args.now c.args.new c.args.in_place in
    let inner = c.step_in-above.new.focus in
    let was = is_handle c.args.focus.now.value in
    let old = state_of (g.T.NativeTable.state c.args.table.now) c.args.run.now.global scope (lending held c.args.focus.now) in
    let taken = state_of (g.T.NativeTable.state c.args.table.now) (record c.args.run.now.global { cells = c.step_in-above.new.cells }) scope
    (lending held inner) in
    let called = state_of (g.T.NativeTable.state c.run_method-mark.new.table) c.run_method-mark.new.run.global scope
    (lending held c.run_method-mark.new.focus) in
    let worked = state_of (g.T.NativeTable.state c.walk_behind-result.new.table) c.walk_behind-result.new.run.global scope
    (lending held c.run_method-mark.new.focus) in
    let asked = c.in-Method.call.now in
    let at = c.in-Method.pos in
    let form = ap form_seen c.in-Method.is in
    let args = c.split_at_mut-given.result in
    let handle = c.was_handle-on_handle.ensures ∙ entered_handle c.step_in-above.result c.args.focus.now inner
    (cells_of c.args.run.now.global.cells) (cells_of c.step_in-above.new.cells) c.step_in-above.ensures in
    let runs = rw (c.asked_by-first.ensures.name, c.asked_by-first.ensures.first, handle) at (c.run_method-mark.ensures.runs scope held) in
    enters rules link chain old worked (came_changed c.walk_behind-result.result c.walk_behind-result.new.run.value
    c.walk_behind-result.new.run.error) c.step_in-above.result c.args.focus.now inner
    c.run_method-mark.new.focus c.step_out-in-Method.new.focus
    (cells_of c.args.run.now.global.cells) (cells_of c.step_in-above.new.cells) (cells_of c.walk_behind-result.new.run.global.cells)
    (cells_of c.step_out-in-Method.new.cells) c.step_in-above.ensures
    (method_inside rules link chain inner taken worked (came_changed c.walk_behind-result.result c.walk_behind-result.new.run.value
    c.walk_behind-result.new.run.error) was asked.name asked.args at form
    (method_goes rules (method_of rules.setting asked.name asked.args at was chain) link chain args.1.now taken called worked
    (came_changed c.run_method-mark.result c.run_method-mark.new.run.value c.run_method-mark.new.run.error) (came_changed
    c.walk_behind-result.result c.walk_behind-result.new.run.value c.walk_behind-result.new.run.error)
    (method_behind (form_seen c.args.link.form) asked.name asked.args at c.args.args.now args.1.now form
    (c.split_at_mut-given.ensures.back ∙ ap (λ n. drop n c.args.args.now) c.asked_by-first.ensures.count))
    (focus_called rules asked.name asked.args at was chain args.0.now
    (c.split_at_mut-given.ensures.front ∙ ap (λ n. take n c.args.args.now) c.asked_by-first.ensures.count) inner taken called
    (came_changed c.run_method-mark.result c.run_method-mark.new.run.value c.run_method-mark.new.run.error) refl runs)
    (c.walk_behind-result.ensures.runs scope (lending held c.run_method-mark.new.focus) rest))) c.step_out-in-Method.ensures
