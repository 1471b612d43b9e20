-- What the natives of `Odd` do.
use Rattle.std.specs.Prelude.{◌≡◌, ℕ, ℤ, pos, ◌+ℤ◌, Bool, true, false, List, [], ◌∷◌, Option, Some, None, codes, if◌then◌else◌}
use Rattle.std.specs.Option.{is_some, option_map}
use Rattle.std.specs.Str.{bytes_eq}
use Rattle.rhai_tree.specs.Position.{none}
use Rattle.rhai_values.specs.declared.base.value.Dynamic.{Dynamic}
use Rattle.rhai_values.specs.declared.base.value.FnPtr.{FnPtr}
use Rattle.rhai_values.specs.declared.base.value.FnPtrKind.TheOpen as layer
use Rattle.rhai_values.specs.declared.base.value.Union.{Union, out-Union}
use Rattle.rhai_values.specs.declared.base.value.Union.TheVariants as value
use Rattle.rhai_values.specs.Copy.{copy_of, copy_pointer, plain}
use Rattle.rhai_values.specs.Layers.{UnionLayer}
use Rattle.rhai_values.specs.ValueContents.{Reached, Holdings, first_contents}
use Rattle.rhai_operators.specs.Integers.{fits}
use Rattle.rhai_errors.specs.declared.error.EvalAltResult.TheVariants as error
use Rattle.rhai_errors.specs.Native.{Effect, Key, Named, Numbered, Natives, OfName, OfNumber, Purity, Reply, Missing, Gives, Faults, effect}
use Rattle.rhai_natives.specs.Arguments.{int_of}
use Rattle.rhai_tables.specs.declared.host.Pair.{Pair}
use Rattle.rhai_tables.specs.declared.tables.odd.OddNative.{OddNative}
use Rattle.rhai_tables.specs.declared.tables.odd.OddNative.TheVariants.{Fail, Leave, Sum, Keep, Give}

-- the pointer that a value is, one level of it; None for any other value
abbrev pub pointer_in : UnionLayer Pair → Option (FnPtr Pair)
pointer_in (layer.FnPtr pointer) = Some pointer
pointer_in _ = None

-- the pointer that a value is, None for any other value
abbrev pub pointer_of : Union Pair → Option (FnPtr Pair)
pointer_of v = pointer_in (out-Union Pair v)

-- whether a value is a pointer
abbrev pub is_pointer : Union Pair → Bool
is_pointer v = is_some (pointer_of v)

-- a pointer as a value
abbrev pub as_value : FnPtr Pair → Dynamic Pair
as_value pointer = plain (value.FnPtr pointer)

-- the state: the pointer that is kept, if one is
abbrev pub Kept : Type 0
Kept = Option (FnPtr Pair)

-- the pointer in what the table has
abbrev pub kept_of : Option (Dynamic Pair) → Kept
kept_of None = None
kept_of (Some v) = pointer_of v.value

-- one more; the greatest integer stays
abbrev pub one_more : ℤ → ℤ
one_more n = if fits (n +ℤ pos 1) then n +ℤ pos 1 else n

-- the native of a name
abbrev pub named : List ℕ → Option OddNative
named name =
    if bytes_eq name (codes "fail") then Some Fail
    else if bytes_eq name (codes "leave") then Some Leave
    else if bytes_eq name (codes "+") then Some Sum
    else if bytes_eq name (codes "keep") then Some Keep
    else if bytes_eq name (codes "give") then Some Give
    else None

-- whether a native changes nothing; what is not there does not
abbrev pub is_pure : Option OddNative → Bool
is_pure None = true
is_pure (Some Fail) = false
is_pure (Some Leave) = false
is_pure (Some Sum) = true
is_pure (Some Keep) = false
is_pure (Some Give) = false

-- there is no such native: the first argument and the state stay
abbrev pub missing : Dynamic Pair → Kept → Effect Kept Pair
missing v s = effect Missing (Some v) s

-- `fail`: an integer becomes one more, and the call fails
abbrev pub failed : Dynamic Pair → Kept → Option ℤ → Effect Kept Pair
failed v s None = missing v s
failed v s (Some n) =
    effect (Faults (error.ErrorRuntime (plain value.Unit) none)) (Some (record v { value = value.Int (one_more n) })) s

-- `leave`: the script ends with a copy of the argument
abbrev pub left : Dynamic Pair → Kept → Effect Kept Pair
left v s = effect (Faults (error.Exit (copy_of v) none)) (Some v) s

-- `+` of two integers is 0
abbrev pub on_two_integers : Dynamic Pair → Kept → Option ℤ → Option ℤ → Effect Kept Pair
on_two_integers v s (Some a) (Some b) = effect (Gives (plain (value.Int (pos 0)))) (Some v) s
on_two_integers v s (Some a) None = missing v s
on_two_integers v s None b = missing v s

-- `keep`: a copy of a pointer is kept
abbrev pub kept_by : Dynamic Pair → Kept → Option (FnPtr Pair) → Effect Kept Pair
kept_by v s None = missing v s
kept_by v s (Some pointer) = effect (Gives (plain value.Unit)) (Some v) (Some (copy_pointer pointer))

-- `give`: a copy of the pointer that is kept
abbrev pub given : Kept → Effect Kept Pair
given None = effect Missing None None
given (Some pointer) = effect (Gives (as_value (copy_pointer pointer))) None (Some pointer)

-- a native of one argument
abbrev pub on_one : OddNative → Kept → Dynamic Pair → Effect Kept Pair
on_one Fail s v = failed v s (int_of v.value)
on_one Leave s v = left v s
on_one Sum s v = missing v s
on_one Keep s v = kept_by v s (pointer_of v.value)
on_one Give s v = missing v s

-- a native of two arguments
abbrev pub on_two : OddNative → Kept → (v w : Dynamic Pair) → Effect Kept Pair
on_two Fail s v w = missing v s
on_two Leave s v w = missing v s
on_two Sum s v w = on_two_integers v s (int_of v.value) (int_of w.value)
on_two Keep s v w = missing v s
on_two Give s v w = missing v s

-- a native with a first argument
abbrev pub on_first : Option OddNative → Kept → Dynamic Pair → (rest : List (Dynamic Pair)) → Effect Kept Pair
on_first None s v rest = missing v s
on_first (Some native) s v [] = on_one native s v
on_first (Some native) s v (w ∷ []) = on_two native s v w
on_first (Some native) s v (w ∷ x ∷ more) = missing v s

-- a native without a first argument
abbrev pub alone : Option OddNative → Kept → (rest : List (Dynamic Pair)) → Effect Kept Pair
alone (Some Give) s [] = given s
alone native s rest = effect Missing None s

-- a native with the arguments of a call
abbrev pub effect_of : Option OddNative → Kept → Option (Dynamic Pair) → (rest : List (Dynamic Pair)) → Effect Kept Pair
effect_of native s None rest = alone native s rest
effect_of native s (Some v) rest = on_first native s v rest

-- a call ends as an effect says; where memory ran out the first argument and the state stay
abbrev pub Does : Effect Kept Pair → (before : Option (Dynamic Pair)) → Kept → Option (Reply Pair) → (after : Option (Dynamic Pair)) →
    Kept → Type 0
Does e before s (Some reply) after t = e ≡ effect reply after t
Does e before s None after t = (after ≡ before) × (t ≡ s)

-- the native that a call finds; none has a number
abbrev pub found : Key → Option OddNative
found (Named name) = named name
found (Numbered number) = None

-- the native that is asked for its purity
abbrev pub asked : Purity → Option OddNative
asked (OfName name first_type count) = named name
asked (OfNumber number) = None

-- nothing stands in a value of the host's own
abbrev pub own : Pair → List Reached
own p = []

-- in the state stands what stands in the pointer that is kept
abbrev pub holds : Holdings Kept Pair
holds = record { of_state = λ s. first_contents own (option_map as_value s); of_host = own }

-- the table
abbrev pub natives : Natives Kept Pair
natives = record { gives = λ s q. effect_of (found q.key) s q.first q.rest; pure = λ s p. is_pure (asked p); holds = holds }
