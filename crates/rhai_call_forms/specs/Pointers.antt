-- What a pointer leads to.
use Rattle.std.specs.Prelude.{Option, Some, None}
use Rattle.rhai_tree.specs.declared.literal.NativeId.{NativeId}
use Rattle.rhai_values.specs.declared.base.value.FnPtrKind.{FnPtrKind}
use Rattle.rhai_values.specs.declared.base.value.FnPtrKind.TheVariants as kind

-- a native by its number
abbrev pub native_number_of : {H : Type 0} → FnPtrKind H → Option NativeId
native_number_of (kind.Native id) = Some id
native_number_of _ = None
