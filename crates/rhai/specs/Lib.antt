pub mod Words
-- what a host's definitions name
pub use Rattle.rhai_library.specs.Library
pub use Rattle.rhai_values.specs.declared.base.value.Union
pub use Rattle.rhai_natives.specs.Arguments
pub use Rattle.rhai_natives.specs.Listed
pub use Rattle.rhai_natives.specs.Numbers
pub use Rattle.rhai_natives.specs.Responses
pub use Rattle.rhai_natives.specs.declared.response.Datum
pub use Rattle.rhai_natives.specs.declared.response.Fault
pub use Rattle.rhai_natives.specs.declared.response.Response
-- all that the crates below define, for a host that has a table of its own or cites a run
pub use Rattle.rhai_tree.specs as tree
pub use Rattle.rhai_values.specs as values
pub use Rattle.rhai_state.specs as state
pub use Rattle.rhai_natives.specs as natives
