-- One level of a value: its kind with what is in it, lists, boxes and shared values read as what they are.
use Rattle.rhai_values.specs.declared.base.value.Dynamic.{Dynamic}
use Rattle.rhai_values.specs.declared.base.value.EncapsulatedEnviron.{EncapsulatedEnviron}
use Rattle.rhai_values.specs.declared.base.value.FnPtr.{FnPtr}
use Rattle.rhai_values.specs.declared.base.value.FnPtrKind.{FnPtrKind}
use Rattle.rhai_values.specs.declared.base.value.Import.{Import}
use Rattle.rhai_values.specs.declared.base.value.Module.{Module}
use Rattle.rhai_values.specs.declared.base.value.ModuleFn.{ModuleFn}
use Rattle.rhai_values.specs.declared.base.value.Union.{Union, out-Union}
use Rattle.rhai_values.specs.declared.base.value.FnPtrKind.TheOpen as layer

-- one level of a value: its kind, with the values right inside it
abbrev pub UnionLayer : Type 0 → Type 0
UnionLayer H = layer.Union-F H (FnPtrKind H) (Union H) (Dynamic H) (EncapsulatedEnviron H) (FnPtr H) (Import H) (Module H) (ModuleFn H)

-- what a value is, one level of it
abbrev pub layer_of : {H : Type 0} → Dynamic H → UnionLayer H
layer_of {H} d = out-Union H d.value
