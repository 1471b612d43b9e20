use Rattle.std.proofs.Common.{rules}
use Rattle.rhai_values.proofs.CopyLemmas.{copy-Array, copy-Map, copy-FnPtr, copy-pointer}
use Rattle.rhai_values.proofs.base.copy.+copy.Goals as goal

pub copy_pointer-returns : goal.copy_pointer-returns
copy_pointer-returns g t c = rw (copy-pointer c.args.pointer.now) (search rules)

pub copy_union-returns-in_ok-new-in-Array : goal.copy_union-returns-in_ok-new-in-Array
copy_union-returns-in_ok-new-in-Array g t c = rw (c.in-Array.is, copy-Array) (search rules)

pub copy_union-returns-in_ok-new-in-Map : goal.copy_union-returns-in_ok-new-in-Map
copy_union-returns-in_ok-new-in-Map g t c = rw (c.in-Map.is, copy-Map) (search rules)

pub copy_union-returns-in_ok-new-in-FnPtr : goal.copy_union-returns-in_ok-new-in-FnPtr
copy_union-returns-in_ok-new-in-FnPtr g t c = rw (c.in-FnPtr.is, copy-FnPtr) (search rules)
