use Rattle.std.proofs.Common.{None, Some}
use Rattle.rhai_values.specs.Cells.{cells_of}
use Rattle.rhai_errors.specs.Native.{Named, request}
use Rattle.rhai_tables.specs.Bench.{name_of}
use Rattle.rhai_tables.specs.Odd.{kept_of}
use Rattle.rhai_tables.proofs.OddLemmas.{does_leave, does_no_handle, does_obeys}
use Rattle.rhai_tables.proofs.tables.odd.OddNativeTablePair.call.Goals as goal

pub returns-in-Some-clause-obeys : goal.returns-in-Some-clause-obeys
returns-in-Some-clause-obeys c = rw c.in-Some.is (does_obeys _ _ _ _ _ _ (rw c.native_named-native.ensures at c.call_on.ensures))

pub returns-in-Some-clause-no_handle : goal.returns-in-Some-clause-no_handle
returns-in-Some-clause-no_handle c =
    let q = request (cells_of c.args._cells.now) (Named c.args.name.now) (Some c.in-Some.first.now) c.args.rest.now c.args._position in
    rw c.in-Some.is (does_no_handle name_of (kept_of c.args.self.now.kept) q (rw c.in-Some.is at c.requires) _ _ _
    (rw c.native_named-native.ensures at c.call_on.ensures))

pub returns-in-Some-clause-leaves : goal.returns-in-Some-clause-leaves
returns-in-Some-clause-leaves c =
    let q = request (cells_of c.args._cells.now) (Named c.args.name.now) (Some c.in-Some.first.now) c.args.rest.now c.args._position in
    rw c.in-Some.is (does_leave name_of (kept_of c.args.self.now.kept) q (rw c.in-Some.is at c.requires) _ _ _
    (rw c.native_named-native.ensures at c.call_on.ensures))

pub returns-in-None-clause-leaves : goal.returns-in-None-clause-leaves
returns-in-None-clause-leaves c =
    let q = request (cells_of c.args._cells.now) (Named c.args.name.now) None c.args.rest.now c.args._position in
    rw c.in-None.is (does_leave name_of (kept_of c.args.self.now.kept) q tt _ _ _
    (rw c.native_named-native.ensures at c.call_alone.ensures))
