use Rattle.std.proofs.Common.{sym, ap, ◌∙◌, ◌∷◌, ◌+◌, Ok, Err, Some, None, false, true, length, take, drop, is_some, refl, arith}
use Rattle.std.specs.Option.{option_copied, option_map}
use Rattle.rhai_tree.specs.declared.expr.Expr.{out-Expr}
use Rattle.rhai_values.specs.Cells.{cells_of}
use Rattle.rhai_spots.specs.Found.{found}
use Rattle.rhai_spots.specs.Parts.{part_of, with_value}
use Rattle.rhai_machine.specs.language.Chains.{method_of, part_core, way_back}
use Rattle.rhai_machine.specs.language.Frames.{PartMethod}
use Rattle.rhai_machine.specs.language.Links.{first_position, link_of}
use Rattle.rhai_machine.specs.language.Members.{focused_on}
use Rattle.rhai_eval_steps.specs.Agreement.{ChangesNames, KeepsNames, RestoresNames, SuitsNames}
use Rattle.rhai_eval_core.specs.States.{under}
use Rattle.rhai_machine.specs.language.Values.{unit_value}
use Rattle.rhai_steps.specs.States.{state_of}
use Rattle.rhai_steps.specs.OnFocus.{lending}
use Rattle.rhai_links.specs.Chains.{chain_at, form_seen, link_seen, new_of}
use Rattle.rhai_links.specs.Spots.{way_through}
use Rattle.rhai_links.proofs.Inside.{spot_by, fails_for_memory_alone}
use Rattle.rhai_links.proofs.Descending.{found_missing, found_none, found_part, found_place, goes_down, part_goes, part_method}
use Rattle.rhai_links.proofs.LinkLemmas.{fewer_behind}
use Rattle.rhai_tree.specs.Links.{left_by}
use Rattle.rhai_links.proofs.OnTemporaries.{called_on_part, goes_back, method_goes, on_temporary, back_runs_out, working}
use Rattle.rhai_chains.proofs.PartCalls.{part_called}
use Rattle.rhai_links.proofs.Walked.{link_walks, method_behind, method_there, method_walks}
use Rattle.rhai_context.specs.Ends.{came_changed, error_in}
use Rattle.rhai_eval_core.proofs.evaluator.Evaluator.+eval.Goals as goal

pub walk_spot-returns-in_default-clause-runs : goal.walk_spot-returns-in_default-clause-runs
unfolding ChangesNames KeepsNames RestoresNames SuitsNames
walk_spot-returns-in_default-clause-runs g t c scope held rest all left =
    let rules = under g.H.Host.name_of c.args.self.now g.T.NativeTable.natives in
    spot_by rules (link_seen c.args.link).behind None (new_of c.args.new) (link_seen c.args.link) c.args.index.now c.args.source.now
    (chain_at c.args.root.now rest all c.args.new c.args.in_place)
    (state_of (g.T.NativeTable.state c.args.table.now) c.args.run.now.global scope (lending held c.args.source.now))
    (state_of (g.T.NativeTable.state c.end_at.new.table) c.end_at.new.global scope (lending held c.end_at.new.source))
    (came_changed c.end_at.result c.end_at.new.out c.end_at.new.place) (ap (λ behind. option_map out-Expr (option_copied behind))
    c.in_default.is)
    (rw (c.new-walker.ensures.session, c.new-walker.ensures.root) at
    (c.end_at.ensures.runs scope held rest all c.args.in_place))

pub walk_spot-place_mut-place-requires : goal.walk_spot-place_mut-place-requires
walk_spot-place_mut-place-requires g t c =
    let finds = rw c.in-Some-Place.field-0-is at c.in-Some-Place.ensures.finds in
    rw c.in-Some-Place.ensures.same finds.1.1.1

pub walk_spot-walk_chain-requires : goal.walk_spot-walk_chain-requires
unfolding ChangesNames KeepsNames RestoresNames SuitsNames
walk_spot-walk_chain-requires g t c =
    let is = ap (λ behind. left_by (option_map out-Expr (option_copied behind))) c.in-Some.is in
    let walks = rw c.in-Some.is at c.requires.walks in
    λ κs lives. (omega (arith, is), (lives.0, (lives.1, walks)))

pub walk_spot-walk_chain-mark-requires : goal.walk_spot-walk_chain-mark-requires
unfolding ChangesNames KeepsNames RestoresNames SuitsNames
walk_spot-walk_chain-mark-requires g t c =
    let is = ap (λ behind. left_by (option_map out-Expr (option_copied behind))) c.in-Some.is in
    let walks = rw c.in-Some.is at c.requires.walks in
    λ κs lives. (omega (arith, is), (lives.0, (lives.1, walks)))

pub walk_spot-walk_part-requires : goal.walk_spot-walk_part-requires
unfolding ChangesNames KeepsNames RestoresNames SuitsNames
walk_spot-walk_part-requires g t c =
    let is = ap (λ behind. left_by (option_map out-Expr (option_copied behind))) c.in-Some.is in
    let walks = rw c.in-Some.is at c.requires.walks in
    let finds = rw c.in-Some-Part.field-0-is at c.in-Some-Part.ensures.finds in
    λ κs lives. (omega (arith, is), (lives.0, (lives.1, (rw c.in-Some-Part.ensures.same finds.1.1.1, walks))))

pub walk_spot-returns-in-Some-Place-clause-runs : goal.walk_spot-returns-in-Some-Place-clause-runs
unfolding ChangesNames KeepsNames RestoresNames SuitsNames
walk_spot-returns-in-Some-Place-clause-runs g t c scope held rest all left =
    let rules = under g.H.Host.name_of c.args.self.now g.T.NativeTable.natives in
    let finds = rw c.in-Some-Place.field-0-is at c.in-Some-Place.ensures.finds in
    let link = link_seen c.args.link in
    let chain = chain_at c.args.root.now rest all c.args.new c.args.in_place in
    let behind = out-Expr c.in-Some.rest.now in
    let by_offer = ap (λ fails. found (way_through link false fails) g.H.Host.name_of (cells_of c.args.run.now.global.cells)
    c.args.source.now c.args.index.now) refl in
    let old = state_of (g.T.NativeTable.state c.args.table.now) c.args.run.now.global scope (lending held c.args.source.now) in
    let walked = state_of (g.T.NativeTable.state c.walk_chain.new.table) c.walk_chain.new.run.global scope (lending held
    c.args.source.now) in
    let new = working (Some (with_value c.args.source.now c.in-Some-Place.at c.walk_chain.new.focus)) walked in
    rw c.in-Some-Place.ensures.same (spot_by rules link.behind (Some behind) (new_of c.args.new) link c.args.index.now c.args.source.now
    chain old new (came_changed c.walk_chain.result c.walk_chain.new.run.value c.walk_chain.new.run.error)
    (ap (λ behind. option_map out-Expr (option_copied behind)) c.in-Some.is)
    (found_place rules link chain behind (new_of c.args.new) c.args.index.now c.args.source.now old new (came_changed c.walk_chain.result
    c.walk_chain.new.run.value c.walk_chain.new.run.error)
    c.args.args.now left
    c.in-Some-Place.at (by_offer ∙ finds.1.0 ∙ ap (λ there. Ok (c.args.source.now, there)) finds.1.1.0) finds.1.1.1
    (goes_down rules (chain_at c.args.root.now behind c.args.args.now c.args.new true) c.args.source.now c.place_mut-place.result.now
    c.walk_chain.new.focus c.in-Some-Place.at old walked (came_changed c.walk_chain.result c.walk_chain.new.run.value
    c.walk_chain.new.run.error) (rw c.in-Some-Place.ensures.same at
    c.place_mut-place.ensures.value)
    (c.walk_chain.ensures.runs scope held))))

pub walk_spot-returns-in_default-access_back-clause-runs : goal.walk_spot-returns-in_default-access_back-clause-runs
unfolding ChangesNames KeepsNames RestoresNames SuitsNames
walk_spot-returns-in_default-access_back-clause-runs g t c scope held rest all left =
    let rules = under g.H.Host.name_of c.args.self.now g.T.NativeTable.natives in
    let finds = rw c.in-Some-Missing.field-0-is at c.in-Some-Missing.ensures.finds in
    let link = link_seen c.args.link in
    let chain = chain_at c.args.root.now rest all c.args.new c.args.in_place in
    let behind = out-Expr c.in-Some.rest.now in
    let by_offer = ap (λ fails. found (way_through link false fails) g.H.Host.name_of (cells_of c.args.run.now.global.cells)
    c.args.source.now c.args.index.now) refl in
    let old = state_of (g.T.NativeTable.state c.args.table.now) c.args.run.now.global scope (lending held c.args.source.now) in
    let new = old in
    rw c.in-Some-Missing.ensures.same (spot_by rules link.behind (Some behind) (new_of c.args.new) link c.args.index.now c.args.source.now
    chain old new (Err (error_in c.access_back.new.place)) (ap (λ behind. option_map out-Expr (option_copied behind)) c.in-Some.is)
    (found_missing rules link chain behind (new_of c.args.new) c.args.index.now c.args.source.now old new (Err
    (error_in c.access_back.new.place))
    c.args.args.now left
    finds.0 (by_offer ∙ finds.1.0) finds.1.1
    (back_runs_out rules (chain_at c.args.root.now behind c.args.args.now c.args.new false)
    (way_back (form_seen c.args.link.form) link c.args.index.now chain) unit_value c.args.source.now old (error_in c.access_back.new.place)
    (c.in_default-access_back.ensures.none refl) refl)))

pub walk_spot-returns-in-Some-access_back-clause-runs : goal.walk_spot-returns-in-Some-access_back-clause-runs
unfolding ChangesNames KeepsNames RestoresNames SuitsNames
walk_spot-returns-in-Some-access_back-clause-runs g t c scope held rest all left =
    let rules = under g.H.Host.name_of c.args.self.now g.T.NativeTable.natives in
    let finds = rw c.in-Some-Missing.field-0-is at c.in-Some-Missing.ensures.finds in
    let link = link_seen c.args.link in
    let chain = chain_at c.args.root.now rest all c.args.new c.args.in_place in
    let behind = out-Expr c.in-Some.rest.now in
    let by_offer = ap (λ fails. found (way_through link false fails) g.H.Host.name_of (cells_of c.args.run.now.global.cells)
    c.args.source.now c.args.index.now) refl in
    let old = state_of (g.T.NativeTable.state c.args.table.now) c.args.run.now.global scope (lending held c.args.source.now) in
    let comes = rw (c.in-Some-access_back.ensures.some chain, c.new-walker.ensures.session, c.in-Some-Missing.ensures.same) at
    (c.come_back.ensures.runs scope held) in
    let walks = rw c.unit_value-temporary.ensures at (c.walk_chain-mark.ensures.runs scope held) in
    let walked = state_of (g.T.NativeTable.state c.walk_chain-mark.new.table) c.walk_chain-mark.new.run.global scope
    (lending held c.args.source.now) in
    let new = state_of (g.T.NativeTable.state c.come_back.new.table) c.come_back.new.global scope (lending held c.come_back.new.source) in
    spot_by rules link.behind (Some behind) (new_of c.args.new) link c.args.index.now c.args.source.now
    chain old new (came_changed c.come_back.result c.walk_chain-mark.new.run.value c.come_back.new.place) (ap
    (λ behind. option_map out-Expr (option_copied behind)) c.in-Some.is)
    (found_missing rules link chain behind (new_of c.args.new) c.args.index.now c.args.source.now old new (came_changed c.come_back.result
    c.walk_chain-mark.new.run.value c.come_back.new.place)
    c.args.args.now left
    finds.0 (by_offer ∙ finds.1.0) finds.1.1
    (goes_back rules (chain_at c.args.root.now behind c.args.args.now c.args.new false) (Some c.args.source.now)
    (way_back (form_seen c.args.link.form) link c.args.index.now chain) unit_value c.walk_chain-mark.new.focus old walked new
    (came_changed c.walk_chain-mark.result c.walk_chain-mark.new.run.value c.walk_chain-mark.new.run.error) (came_changed c.come_back.result
    c.walk_chain-mark.new.run.value c.come_back.new.place) walks comes))

pub walk_spot-returns-in-Some-Part-clause-runs : goal.walk_spot-returns-in-Some-Part-clause-runs
unfolding ChangesNames KeepsNames RestoresNames SuitsNames
walk_spot-returns-in-Some-Part-clause-runs g t c scope held rest all left =
    let rules = under g.H.Host.name_of c.args.self.now g.T.NativeTable.natives in
    let finds = rw c.in-Some-Part.field-0-is at c.in-Some-Part.ensures.finds in
    let link = link_seen c.args.link in
    let chain = chain_at c.args.root.now rest all c.args.new c.args.in_place in
    let behind = out-Expr c.in-Some.rest.now in
    let by_offer = ap (λ fails. found (way_through link false fails) g.H.Host.name_of (cells_of c.args.run.now.global.cells)
    c.args.source.now c.args.index.now) refl in
    let old = state_of (g.T.NativeTable.state c.args.table.now) c.args.run.now.global scope (lending held c.args.source.now) in
    let new = state_of (g.T.NativeTable.state c.walk_part.new.table) c.walk_part.new.run.global scope (lending held
    c.walk_part.new.source) in
    spot_by rules link.behind (Some behind) (new_of c.args.new) link c.args.index.now c.args.source.now chain old new (came_changed
    c.walk_part.result c.walk_part.new.run.value c.walk_part.new.run.error)
    (ap (λ behind. option_map out-Expr (option_copied behind)) c.in-Some.is)
    (found_part rules link chain behind (new_of c.args.new) c.args.index.now c.args.source.now old new (came_changed c.walk_part.result
    c.walk_part.new.run.value c.walk_part.new.run.error) c.args.args.now
    left
    c.in-Some-Part.at (by_offer ∙ finds.1.0 ∙ ap (λ there. Ok (c.args.source.now, there)) finds.1.1.0) finds.1.1.1
    (rw c.in-Some-Part.ensures.same at (c.walk_part.ensures.runs scope held)))

pub walk_spot-returns-in-None-clause-runs : goal.walk_spot-returns-in-None-clause-runs
unfolding ChangesNames KeepsNames RestoresNames SuitsNames
walk_spot-returns-in-None-clause-runs g t c scope held rest all left =
    let rules = under g.H.Host.name_of c.args.self.now g.T.NativeTable.natives in
    let link = link_seen c.args.link in
    let chain = chain_at c.args.root.now rest all c.args.new c.args.in_place in
    let behind = out-Expr c.in-Some.rest.now in
    let old = state_of (g.T.NativeTable.state c.args.table.now) c.args.run.now.global scope (lending held c.args.source.now) in
    rw c.in-None.ensures.same (spot_by rules link.behind (Some behind) (new_of c.args.new) link c.args.index.now c.args.source.now chain
    old old (Err (error_in c.find_down.new.place)) (ap (λ behind. option_map out-Expr (option_copied behind)) c.in-Some.is)
    (found_none rules link chain behind (new_of c.args.new) c.args.index.now c.args.source.now old old (Err
    (error_in c.find_down.new.place)) (error_in c.find_down.new.place)
    (λ memory. ap (λ fails. found (way_through link false fails) g.H.Host.name_of (cells_of c.args.run.now.global.cells)
    c.args.source.now c.args.index.now) refl ∙ c.in-None.ensures.finds memory)))

pub walk_part-split_at_mut-given-requires : goal.walk_part-split_at_mut-given-requires
walk_part-split_at_mut-given-requires g t c =
    let method = c.in-Some-method_in.method in
    let asked = method.call.now in
    let is = c.in-Some-method_in.ensures.0 in
    let walks = link_walks (is_some c.args.new) (out-Expr c.args.rest.now) (length c.args.args.now) (link_seen method.link)
    c.requires.walks is in
    let there = method_there (is_some c.args.new) (link_seen method.link) (length c.args.args.now) walks asked.name asked.args method.at
    c.in-Some-method_in.ensures.1 in
    omega (arith, there, c.asked_by-first.ensures.count)

pub walk_part-walk_behind-requires : goal.walk_part-walk_behind-requires
unfolding ChangesNames KeepsNames RestoresNames SuitsNames
walk_part-walk_behind-requires g t c =
    let method = c.in-Some-method_in.method in
    let asked = method.call.now in
    let is = c.in-Some-method_in.ensures.0 in
    let walks = link_walks (is_some c.args.new) (out-Expr c.args.rest.now) (length c.args.args.now) (link_seen method.link)
    c.requires.walks is in
    let fewer = fewer_behind (out-Expr c.args.rest.now) (link_seen method.link) is in
    let behind = method_walks (is_some c.args.new) (link_seen method.link) (length c.args.args.now) walks asked.name asked.args method.at
    (length c.split_at_mut-given.result.1.now) c.in-Some-method_in.ensures.1
    (ap (λ n. length c.split_at_mut-given.result.1.now + n) (sym c.asked_by-first.ensures.count) ∙ c.split_at_mut-given.ensures.back_len) in
    λ κs lives. (omega (arith, fewer, c.run_method-answer.ensures.counts), (lives.0, (lives.1, behind)))

pub walk_part-returns-in_default-clause-runs : goal.walk_part-returns-in_default-clause-runs
walk_part-returns-in_default-clause-runs g t c scope held =
    let rules = under g.H.Host.name_of c.args.self.now g.T.NativeTable.natives in
    let chain = chain_at c.args.root.now (out-Expr c.args.rest.now) c.args.args.now c.args.new false in
    fails_for_memory_alone rules (part_core rules.setting (link_of (out-Expr c.args.rest.now)) c.args.at chain c.args.source.now)
    (state_of (g.T.NativeTable.state c.args.table.now) c.args.run.now.global scope (lending held c.args.source.now))
    (error_in c.read_part_for.new.place) (c.in_default.ensures.memory refl)

pub walk_part-returns-in-Some-method_in-clause-runs : goal.walk_part-returns-in-Some-method_in-clause-runs
walk_part-returns-in-Some-method_in-clause-runs g t c scope held =
    let rules = under g.H.Host.name_of c.args.self.now g.T.NativeTable.natives in
    let chain = chain_at c.args.root.now (out-Expr c.args.rest.now) c.args.args.now c.args.new false in
    let method = c.in-Some-method_in.method in
    let asked = method.call.now in
    let args = c.split_at_mut-given.result in
    let part = part_of c.args.source.now c.args.at in
    let old = state_of (g.T.NativeTable.state c.args.table.now) c.args.run.now.global scope (lending held c.args.source.now) in
    let mid = state_of (g.T.NativeTable.state c.run_method-answer.new.table) c.run_method-answer.new.run.global scope
    (lending held c.put_back-mark.new.source) in
    let new = state_of (g.T.NativeTable.state c.walk_behind.new.table) c.walk_behind.new.run.global scope
    (lending held c.put_back-mark.new.source) in
    let runs = rw (c.asked_by-first.ensures.name, c.asked_by-first.ensures.first, c.in-Some.ensures.value) at
    (c.run_method-answer.ensures.runs scope held) in
    let called = part_called rules (record { name = asked.name; at = method.at; first_at = first_position asked.args; was_handle = false })
    args.0.now
    c.args.at c.args.source.now part c.run_method-answer.new.focus c.put_back-mark.new.source old mid (came_changed
    c.run_method-answer.result c.run_method-answer.new.run.value c.run_method-answer.new.run.error)
    (came_changed c.put_back-mark.result c.run_method-answer.new.run.value c.put_back-mark.new.place) runs c.put_back-mark.ensures in
    part_method rules (link_of (out-Expr c.args.rest.now)) c.args.at chain c.args.source.now old new (came_changed c.walk_behind.result
    c.walk_behind.new.run.value c.walk_behind.new.run.error)
    (link_seen method.link) asked.name asked.args method.at c.in-Some-method_in.ensures.0 c.in-Some-method_in.ensures.1
    (method_goes rules (λ k l. method_of rules.setting asked.name asked.args method.at false chain
    (PartMethod c.args.source.now c.args.at method.at ∷ k) (focused_on (Some part) l)) (link_seen method.link) chain args.1.now old mid new
    (came_changed c.put_back-mark.result c.run_method-answer.new.run.value c.put_back-mark.new.place) (came_changed c.walk_behind.result
    c.walk_behind.new.run.value c.walk_behind.new.run.error)
    (method_behind (form_seen method.link.form) asked.name asked.args method.at c.args.args.now args.1.now c.in-Some-method_in.ensures.1
    (c.split_at_mut-given.ensures.back ∙ ap (λ n. drop n c.args.args.now) c.asked_by-first.ensures.count))
    (called_on_part rules asked.name asked.args method.at false chain args.0.now
    (c.split_at_mut-given.ensures.front ∙ ap (λ n. take n c.args.args.now) c.asked_by-first.ensures.count) part old mid (came_changed
    c.put_back-mark.result c.run_method-answer.new.run.value c.put_back-mark.new.place)
    c.args.source.now c.args.at called)
    (c.walk_behind.ensures.runs scope (lending held c.put_back-mark.new.source) (out-Expr c.args.rest.now)))

pub walk_part-returns-in-None-clause-runs : goal.walk_part-returns-in-None-clause-runs
walk_part-returns-in-None-clause-runs g t c scope held =
    let rules = under g.H.Host.name_of c.args.self.now g.T.NativeTable.natives in
    let chain = chain_at c.args.root.now (out-Expr c.args.rest.now) c.args.args.now c.args.new false in
    let part = part_of c.args.source.now c.args.at in
    let old = state_of (g.T.NativeTable.state c.args.table.now) c.args.run.now.global scope (lending held c.args.source.now) in
    let new = state_of (g.T.NativeTable.state c.walk_chain-result.new.table) c.walk_chain-result.new.run.global scope
    (lending held c.args.source.now) in
    part_goes rules (link_of (out-Expr c.args.rest.now)) c.args.at chain c.args.source.now old new (came_changed c.walk_chain-result.result
    c.walk_chain-result.new.run.value c.walk_chain-result.new.run.error)
    c.in-None.ensures refl (on_temporary rules chain part c.walk_chain-result.new.focus old new (came_changed c.walk_chain-result.result
    c.walk_chain-result.new.run.value c.walk_chain-result.new.run.error)
    (rw c.in-Some.ensures.value at (c.walk_chain-result.ensures.runs scope held)))
