use Rattle.std.proofs.Common.{ap, Err, Some, arith, refl}
use Rattle.rhai_tree.specs.declared.expr.Expr.{out-Expr}
use Rattle.std.specs.Option.{option_copied, option_map}
use Rattle.rhai_machine.specs.language.Chains.{is_property, kept_access}
use Rattle.rhai_eval_steps.specs.Agreement.{ChangesNames, KeepsNames, RestoresNames, SuitsNames}
use Rattle.rhai_eval_core.specs.States.{under}
use Rattle.rhai_steps.specs.States.{state_of}
use Rattle.rhai_steps.specs.OnFocus.{lending}
use Rattle.rhai_steps.specs.Follows.{Does}
use Rattle.rhai_links.specs.Chains.{chain_at, link_seen, new_of}
use Rattle.rhai_links.specs.Access.{access_of}
use Rattle.rhai_links.proofs.Inside.{member_ends, member_goes}
use Rattle.rhai_tree.specs.Links.{left_by}
use Rattle.rhai_links.proofs.OnTemporaries.{got_fails, got_goes, goes_back}
use Rattle.rhai_context.specs.Ends.{came_changed, error_in}
use Rattle.rhai_eval_core.proofs.evaluator.Evaluator.+eval.Goals as goal

pub walk_member-returns-in_default-clause-runs : goal.walk_member-returns-in_default-clause-runs
unfolding ChangesNames KeepsNames RestoresNames SuitsNames
walk_member-returns-in_default-clause-runs g t c scope held rest all in_place left =
    let rules = under g.H.Host.name_of c.args.self.now g.T.NativeTable.natives in
    member_ends rules (link_seen c.args.link).behind (new_of c.args.new) (link_seen c.args.link) (access_of c.args.access)
    (chain_at c.args.root.now rest all c.args.new in_place)
    (state_of (g.T.NativeTable.state c.args.table.now) c.args.run.now.global scope (lending held c.args.source.now))
    (state_of (g.T.NativeTable.state c.end_member.new.table) c.end_member.new.global scope (lending held c.end_member.new.focus))
    (came_changed c.end_member.result c.end_member.new.out c.end_member.new.place)
    (ap (λ behind. option_map out-Expr (option_copied behind))
    c.in_default.is)
    (rw (c.new-walker.ensures.session, c.new-walker.ensures.root) at
    (c.end_member.ensures.runs scope held (link_seen c.args.link) rest all in_place
    ))

pub walk_member-walk_chain-mark-requires : goal.walk_member-walk_chain-mark-requires
unfolding ChangesNames KeepsNames RestoresNames SuitsNames
walk_member-walk_chain-mark-requires g t c =
    let is = ap (λ behind. left_by (option_map out-Expr (option_copied behind))) c.in-Some.is in
    let walks = rw c.in-Some.is at c.requires.walks in
    λ κs lives. (omega (arith, is, c.in-Some-get_kept.ensures.counts), (lives.0, (lives.1, walks)))

pub walk_member-returns-in-Some-get_kept-clause-runs : goal.walk_member-returns-in-Some-get_kept-clause-runs
unfolding ChangesNames KeepsNames RestoresNames SuitsNames
walk_member-returns-in-Some-get_kept-clause-runs g t c scope held rest all in_place left =
    let rules = under g.H.Host.name_of c.args.self.now g.T.NativeTable.natives in
    let access = access_of c.args.access in
    let kept = kept_access access in
    let behind = out-Expr c.in-Some.rest.now in
    let chain = chain_at c.args.root.now behind c.args.args.now c.args.new (is_property access.member) in
    let gets = rw c.new-walker.ensures.session at (c.in-Some-get_kept.ensures.gets scope held) in
    let got = c.get_kept.new.focus in
    let old = state_of (g.T.NativeTable.state c.args.table.now) c.args.run.now.global scope (lending held c.args.source.now) in
    let mid = state_of (g.T.NativeTable.state c.get_kept.new.table) c.get_kept.new.global scope (lending held got) in
    let walked = state_of (g.T.NativeTable.state c.walk_chain-mark.new.table) c.walk_chain-mark.new.run.global scope (lending held
    got) in
    let new = state_of (g.T.NativeTable.state c.come_back.new.table) c.come_back.new.global scope (lending held c.come_back.new.source) in
    let comes = rw (c.in-Some-get_kept.ensures.kept, c.new-walker.ensures.session) at (c.come_back.ensures.runs scope held) in
    let walks = rw c.is_property-in_place.ensures at (c.walk_chain-mark.ensures.runs scope held) in
    member_goes rules (link_seen c.args.link).behind (new_of c.args.new) (link_seen c.args.link) access
    (chain_at c.args.root.now rest all c.args.new in_place) old new (came_changed c.come_back.result c.walk_chain-mark.new.run.value
    c.come_back.new.place) behind c.args.args.now
    (ap (λ behind. option_map out-Expr (option_copied behind)) c.in-Some.is) left
    (Does (got_goes rules access kept chain c.in-Some-get_kept.value old mid new (came_changed c.come_back.result
    c.walk_chain-mark.new.run.value c.come_back.new.place) gets
    (goes_back rules chain (Some got) (Some kept) c.in-Some-get_kept.value c.walk_chain-mark.new.focus mid walked new (came_changed
    c.walk_chain-mark.result c.walk_chain-mark.new.run.value c.walk_chain-mark.new.run.error)
    (came_changed c.come_back.result c.walk_chain-mark.new.run.value c.come_back.new.place) walks comes)))

pub walk_member-returns-in-None-clause-runs : goal.walk_member-returns-in-None-clause-runs
unfolding ChangesNames KeepsNames RestoresNames SuitsNames
walk_member-returns-in-None-clause-runs g t c scope held rest all in_place left =
    let rules = under g.H.Host.name_of c.args.self.now g.T.NativeTable.natives in
    let access = access_of c.args.access in
    let behind = out-Expr c.in-Some.rest.now in
    let old = state_of (g.T.NativeTable.state c.args.table.now) c.args.run.now.global scope (lending held c.args.source.now) in
    let new = state_of (g.T.NativeTable.state c.get_kept.new.table) c.get_kept.new.global scope (lending held c.get_kept.new.focus) in
    member_goes rules (link_seen c.args.link).behind (new_of c.args.new)
    (link_seen c.args.link) access (chain_at c.args.root.now rest all c.args.new in_place) old new (Err (error_in c.get_kept.new.place))
    behind c.args.args.now
    (ap (λ behind. option_map out-Expr (option_copied behind)) c.in-Some.is) left
    (got_fails rules access (kept_access access) (chain_at c.args.root.now behind c.args.args.now c.args.new (is_property access.member))
    old new (error_in c.get_kept.new.place) (rw c.new-walker.ensures.session at (c.in-None.ensures.fails
    scope held refl)))
