use Rattle.std.proofs.Common.{◌≡◌, Option, Some, MutBor, ap, refl, sym, subst, ◌∙◌}
use Rattle.rhai_values.specs.declared.base.value.Dynamic.{Dynamic}
use Rattle.rhai_values.specs.Cells.{cells_of}
use Rattle.rhai_errors.specs.Native.{Named, left_by, request, lent_value}
use Rattle.rhai_natives.specs.Found.{found}
use Rattle.rhai_natives.proofs.Left.{leaves_left, no_handle_left, obeys_found}
use Rattle.rhai_natives.proofs.table.NativesNativeTable.call.Given.{Over}
use Rattle.rhai_natives.proofs.table.NativesNativeTable.call.Lts.{ps, r, xs}
use denote.Triple.Clauses.{at_exit}
use denote.Triple.Entry.{Args}
use borrow.Fn.Enter.{lasts_p}
use borrow.Fn.Kinds.{ended_of}
use Rattle.rhai_natives.proofs.table.NativesNativeTable.call.Goals as goal

-- what stands in the place of the first argument as its loan ends, were this the place
abbrev after : (g : Over) → goal.After-call_with g → Option (MutBor (Dynamic g.row.H.Denot)) → Option (Dynamic g.row.H.Denot)
after g c place =
    let kinds = ps g.row.H g.row.N g.row.N-Native g.H.laws g.N.laws g.N.Native.laws g.N.Native.copy g.H.Host-dict g.N.ListedNatives-dict
    g.N.Native.Clone-dict g.H.Destruct-dict in
    let answer = r g.row.H g.row.N g.row.N-Native g.H.laws g.N.laws g.N.Native.laws g.N.Native.copy g.H.Host-dict g.N.ListedNatives-dict
    g.N.Native.Clone-dict g.H.Destruct-dict in
    let types = xs g.row.H g.row.N g.row.N-Native g.H.laws g.N.laws g.N.Native.laws g.N.Native.copy g.H.Host-dict g.N.ListedNatives-dict
    g.N.Native.Clone-dict g.H.Destruct-dict in
    let given : Args (ended_of 8 kinds answer).signature c.lifetimes =
    (c.args.self, (c.args._cells, (c.args.name, (place, (c.args.rest, (c.args._position, tt)))))) in
    left_by (at_exit (ended_of 8 kinds answer) c.lifetimes given (lasts_p c.lifetimes 1 kinds types given (
      c.args.self,
      (
        c.args._cells,
        (
          c.args.name,
          (
            Some (record c.in-Some.first { now = c.call_with.new.first }),
            (
              c.args.rest,
              (tt, (tt, (tt, (tt, (tt, (tt, (tt, (tt, (tt, (tt, (tt, (tt, (tt, tt))))))))))))),
            ),
          ),
        ),
      ),
    ))).1.1.1.0

first_is : (g : Over) (c : goal.After-call_with g) → after g c c.args.first ≡ Some c.call_with.new.first
first_is g c = subst (λ place. after g c place ≡ Some c.call_with.new.first) (sym c.in-Some.is) refl

pub returns-in-Some-clause-obeys : goal.returns-in-Some-clause-obeys
returns-in-Some-clause-obeys g c =
    let q = request (cells_of c.args._cells.now) (Named c.args.name.now) (lent_value c.args.first) c.args.rest.now c.args._position in
    let is_found = c.find_named-found.ensures ∙ ap (λ list. found list (Named c.args.name.now)) c.listed.ensures in
    obeys_found g.N.ListedNatives.list g.N.ListedNatives.does (g.N.ListedNatives.state c.args.self.now.natives) q _ is_found _
    (ap lent_value c.in-Some.is) (first_is g c) _ _ c.call_with.ensures.obeys

pub returns-in-Some-clause-no_handle : goal.returns-in-Some-clause-no_handle
returns-in-Some-clause-no_handle g c =
    no_handle_left (ap lent_value c.in-Some.is) (first_is g c) _ c.call_with.ensures.left c.requires

pub returns-in-Some-clause-leaves : goal.returns-in-Some-clause-leaves
returns-in-Some-clause-leaves g c =
    let q = request (cells_of c.args._cells.now) (Named c.args.name.now) (lent_value c.args.first) c.args.rest.now c.args._position in
    let is_found = c.find_named-found.ensures ∙ ap (λ list. found list (Named c.args.name.now)) c.listed.ensures in
    leaves_left g.N.ListedNatives.list g.N.ListedNatives.does (g.N.ListedNatives.state c.args.self.now.natives) q _ is_found _
    (ap lent_value c.in-Some.is) (first_is g c) (g.N.ListedNatives.state c.call_with.new.natives) _ c.call_with.ensures.left
