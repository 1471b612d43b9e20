-- The arguments of a call, as a listed native is given them.
use Rattle.std.specs.Prelude.{ℤ, List, [], ◌∷◌, Option, Some, None, map}
use Rattle.std.specs.Borrow.{Bor}
use Rattle.rhai_values.specs.declared.base.value.Dynamic.{Dynamic}
use Rattle.rhai_values.specs.declared.base.value.FnPtrKind.TheOpen as layer
use Rattle.rhai_values.specs.declared.base.value.Union.{Union, out-Union}
use Rattle.rhai_values.specs.declared.base.value.Union.TheVariants as value
use Rattle.rhai_values.specs.Layers.{UnionLayer}
use Rattle.rhai_natives.specs.declared.arguments.Arguments.{Arguments}
use Rattle.rhai_natives.specs.declared.arguments.Arguments.TheVariants as arguments

-- two that are there, None where one is missing
abbrev pub both : {A B : Type 0} → Option A → Option B → Option (A × B)
both (Some a) (Some b) = Some (a, b)
both _ _ = None

-- three that are there, None where one is missing
abbrev pub all_three : {A B C : Type 0} → Option A → Option B → Option C → Option (A × B × C)
all_three (Some a) (Some b) (Some c) = Some (a, b, c)
all_three _ _ _ = None

module _ {H : Type 0} where
  -- the value that a borrow shows
  abbrev pub now_of : Bor (Dynamic H) → Dynamic H
  now_of place = place.now

  -- what the arguments of a call are
  abbrev pub values_in : Option (Dynamic H) → List (Dynamic H) → List (Union H)
  values_in None rest = map (λ v. v.value) rest
  values_in (Some first) rest = first.value ∷ map (λ v. v.value) rest

  -- what the arguments of a call are, as the code has them
  abbrev pub values_of : Arguments H → List (Union H)
  values_of arguments.Zero = []
  values_of (arguments.One a) = a.now ∷ []
  values_of (arguments.Two a b) = a.now ∷ b.now ∷ []
  values_of (arguments.More a b c rest) = a.now ∷ b.now ∷ c.now ∷ map (λ v. v.value) rest.now

  -- the integer that a value is, None for any other value
  abbrev pub int_of : Union H → Option ℤ
  int_of (value.Int number) = Some number
  int_of _ = None

  -- the value of the host's own type that a value is, None for any other value
  abbrev pub host_of : Union H → Option H
  host_of (value.Host own) = Some own
  host_of _ = None

  -- the items of an array, one level of it; None for any other value
  abbrev pub items_in : UnionLayer H → Option (List (Dynamic H))
  items_in (layer.Array items) = Some items
  items_in _ = None

  -- the items of the array that a value is, None for any other value
  abbrev pub array_of : Union H → Option (List (Dynamic H))
  array_of v = items_in (out-Union H v)

  -- there is no argument, None where there are any
  abbrev pub none_in : List (Union H) → Option (Unit {0})
  none_in [] = Some tt
  none_in _ = None

  -- the only argument, an integer; None for other arguments
  abbrev pub int_in : List (Union H) → Option ℤ
  int_in (a ∷ []) = int_of a
  int_in _ = None

  -- two arguments, both integers; None for others
  abbrev pub ints_in : List (Union H) → Option (ℤ × ℤ)
  ints_in (a ∷ b ∷ []) = both (int_of a) (int_of b)
  ints_in _ = None

  -- the only argument, a value of the host's own type; None for other arguments
  abbrev pub host_in : List (Union H) → Option H
  host_in (a ∷ []) = host_of a
  host_in _ = None

  -- two arguments, both values of the host's own type; None for others
  abbrev pub hosts_in : List (Union H) → Option (H × H)
  hosts_in (a ∷ b ∷ []) = both (host_of a) (host_of b)
  hosts_in _ = None

  -- two arguments, a value of the host's own type and an integer; None for others
  abbrev pub host_and_int_in : List (Union H) → Option (H × ℤ)
  host_and_int_in (a ∷ b ∷ []) = both (host_of a) (int_of b)
  host_and_int_in _ = None

  -- three arguments, a value of the host's own type and two integers; None for others
  abbrev pub host_and_ints_in : List (Union H) → Option (H × ℤ × ℤ)
  host_and_ints_in (a ∷ b ∷ c ∷ []) = all_three (host_of a) (int_of b) (int_of c)
  host_and_ints_in _ = None

  -- two arguments, a value of the host's own type and an array, as its items; None for others
  abbrev pub host_and_array_in : List (Union H) → Option (H × List (Dynamic H))
  host_and_array_in (a ∷ b ∷ []) = both (host_of a) (array_of b)
  host_and_array_in _ = None
