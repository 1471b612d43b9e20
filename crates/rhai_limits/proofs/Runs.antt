-- Every run keeps to the limits of variables and of levels, also where memory runs out.
use Rattle.std.proofs.Common.{refl, arith}
use Rattle.std.proofs.lemmas.Bool.Decides.{nat_tests}
use Rattle.std.specs.Prelude.{◌≡◌, ◌≤◌, ⊤, ℕ, ◌+◌, ◌-◌, min, nat_lt, Bool, true, false, ◌&&◌, List, [], ◌∷◌, length, map, Option, None}
use Rattle.rhai_machine.specs.Types.{Dynamic, Limits, Position}
use Rattle.rhai_errors.specs.Native.{Request, Reply, Faults}
use Rattle.rhai_machine.specs.machine.Machine.{Move, Halt, Go, Charge, Native, AskPure}
use Rattle.rhai_machine.specs.machine.Memory.{Leads, here, next, out_before_step, out_in_native}
use Rattle.rhai_machine.specs.machine.Point.{Point, after, moved, paid}
use Rattle.rhai_machine.specs.language.Setting.{Rules, cut}
use Rattle.rhai_machine.specs.language.Activations.{Variables, Caller, UpTo, Without}
use Rattle.rhai_machine.specs.language.Frames.{Frame, Core, RestOfList, DefineValue, ForItems, RestoreList, RestoreScope, CallEnd}
use Rattle.rhai_machine.specs.language.Language.{machine, move}
use Rattle.rhai_limits.specs.ScopesAndLevels.{Within, kept_scopes, with_callers, DeclaresNone, kept_levels}
use Rattle.rhai_limits.specs.ScopesAndLevels.{ScopesKeepToTheLimit, LevelsKeepToTheLimit, TooDeepFails}
use Rattle.rhai_limits.proofs.Keeping.{Asked, Allowed, has_bottom_scope, has_bottom_level, is_shared, left_of, Room, Levels, Calm, Good}
use Rattle.rhai_limits.proofs.Keeping.{Moves, stopped, started}
use Rattle.rhai_limits.proofs.Rules.{move_keeps}

module _ {S H : Type 0} (rules : Rules S H) (a : Asked) (allowed : Allowed a rules.setting.limits) where
  -- ---- runs

  moves : (p : Point S (Core H)) → Good a p.core → Moves a (move rules.setting p.core)
  moves p h = move_keeps a rules.setting allowed p.core.control p.core.stack p.core.local h

  failed : (c : Core H) → Good a c → Calm a c.stack c.local
  failed c h = stopped a c.control c.stack c.local h

  paid_keeps : (lets : Bool) (at : Position) (d : Core H) (p : Point S (Core H)) → Good a d → Good a p.core →
      Good a (paid (machine rules) lets at d p).core
  paid_keeps true at d p h i = h
  paid_keeps false at d p h i = failed p.core i

  moved_keeps : (v : Move H (Core H)) (p : Point S (Core H)) → Moves a v → Good a p.core →
      Good a (moved (machine rules) (cut rules) v p).core
  moved_keeps Halt p h i = i
  moved_keeps (Go d) p h i = h
  moved_keeps (Charge at d) p h i = paid_keeps (cut rules p.count) at d p h i
  moved_keeps (Native q f) p h i = h (rules.natives.gives p.table q).reply (rules.natives.gives p.table q).first
  moved_keeps (AskPure q f) p h i = h (rules.natives.pure p.table q)

  answered : (v : Move H (Core H)) (q : Request H) (f : Reply H → Option (Dynamic H) → Core H) → v ≡ Native q f → Moves a v →
      (reply : Reply H) (first : Option (Dynamic H)) → Good a (f reply first)
  answered v q f is h = rw is at h

  run_keeps : {p q : Point S (Core H)} → Leads (machine rules) (cut rules) p q → Good a p.core → Good a q.core
  unfolding after
  run_keeps here h = h
  run_keeps (next {p = p} r) h = run_keeps r (moved_keeps (move rules.setting p.core) p (moves p h) h)
  run_keeps (out_before_step {p = p} r) h = run_keeps r (failed p.core h)
  run_keeps (out_in_native {p = p} {call = q} {f = f} is e first state may r) h =
      run_keeps r (failed (f (Faults e) first) (answered (move rules.setting p.core) q f is (moves p h) (Faults e) first))

-- ---- numbers, the bottom's last

-- a number before these is the bottom's where there are none
abbrev is_last : List ℕ → Bool
is_last [] = true
is_last (n ∷ numbers) = false

abbrev bound : (limit bottom : ℕ) → (is_bottom : Bool) → ℕ
bound limit bottom true = bottom
bound limit bottom false = limit

within_more : (limit bottom n : ℕ) (numbers : List ℕ) → n ≤ bound limit bottom (is_last numbers) → Within limit bottom numbers →
    Within limit bottom (n ∷ numbers)
within_more limit bottom n [] le h = le
within_more limit bottom n (m ∷ numbers) le h = (le, h)

within_first : (limit bottom n : ℕ) (numbers : List ℕ) → Within limit bottom (n ∷ numbers) → n ≤ bound limit bottom (is_last numbers)
within_first limit bottom n [] h = h
within_first limit bottom n (m ∷ numbers) h = h.0

within_rest : (limit bottom n : ℕ) (numbers : List ℕ) → Within limit bottom (n ∷ numbers) → Within limit bottom numbers
within_rest limit bottom n [] h = tt
within_rest limit bottom n (m ∷ numbers) h = h.1

module _ {H : Type 0} where
  abbrev kept_lengths : List (Frame H) → List ℕ
  kept_lengths k = map length (kept_scopes k)

  -- the current scope is the one at the bottom where none is kept, and so is the level
  shared_last : (variables : Variables H) (k : List (Frame H)) → has_bottom_scope k ≡ is_last (kept_lengths k) →
      (is_shared variables && has_bottom_scope k) ≡ is_last (map length (with_callers variables (kept_scopes k)))
  shared_last (Caller scope) k is = refl
  shared_last (UpTo i) k is = is
  shared_last (Without i j) k is = is

  scope_last : (k : List (Frame H)) → has_bottom_scope k ≡ is_last (kept_lengths k)
  scope_last [] = refl
  scope_last (CallEnd exit ∷ k) = shared_last exit.variables k (scope_last k)
  scope_last (_ ∷ k) = scope_last k

  level_last : (k : List (Frame H)) → has_bottom_level k ≡ is_last (kept_levels k)
  level_last [] = refl
  level_last (CallEnd exit ∷ k) = refl
  level_last (_ ∷ k) = level_last k

-- ---- scopes

abbrev of_scopes : (limit bottom : ℕ) → Asked
of_scopes limit bottom = record { scope = λ is_bottom n. n ≤ bound limit bottom is_bottom; level = λ is_bottom n. ⊤ }

in_bound : (limit bottom : ℕ) (is_bottom : Bool) (n : ℕ) → limit ≤ bottom → n ≤ limit → n ≤ bound limit bottom is_bottom
in_bound limit bottom true n more le = omega (arith, more, le)
in_bound limit bottom false n more le = le

scopes_allowed : (limits : Limits) (bottom : ℕ) → limits.max_variables ≤ bottom → Allowed (of_scopes limits.max_variables bottom) limits
scopes_allowed limits bottom more = record {
  fits = λ is_bottom n le. in_bound limits.max_variables bottom is_bottom n more le;
  fewer = λ is_bottom m n less le. omega (arith, less, le);
  shallow = λ n le. tt;
}

module _ {H : Type 0} (limit bottom : ℕ) where
  first_fits : (k : List (Frame H)) (n : ℕ) → n ≤ bound limit bottom (is_last (kept_lengths k)) →
      n ≤ bound limit bottom (has_bottom_scope k)
  first_fits k n le = rw (scope_last k) le

  last_fits : (k : List (Frame H)) (n : ℕ) → n ≤ bound limit bottom (has_bottom_scope k) →
      n ≤ bound limit bottom (is_last (kept_lengths k))
  last_fits k n le = rw (scope_last k) at le

  called_within : (variables : Variables H) (k : List (Frame H)) (n : ℕ) →
      left_of variables n ≤ bound limit bottom (has_bottom_scope k) → Within limit bottom (kept_lengths k) →
      Within limit bottom (map length (with_callers variables (kept_scopes k)))
  called_within (Caller scope) k n fits h = within_more limit bottom (length scope) (kept_lengths k) (last_fits k (length scope) fits) h
  called_within (UpTo i) k n fits h = h
  called_within (Without i j) k n fits h = h

  -- the scopes that are kept are within
  kept_within : (k : List (Frame H)) (n : ℕ) → n ≤ bound limit bottom (has_bottom_scope k) → Room (of_scopes limit bottom) k n →
      Within limit bottom (kept_lengths k)
  kept_within [] n fits room = tt
  kept_within (RestOfList rest restoring ∷ k) n fits room = kept_within k n fits (room n (omega arith) fits)
  kept_within (DefineValue ident None options restoring value_at ∷ k) n fits room = kept_within k n fits (room.1 n (omega arith) fits)
  kept_within (ForItems loop ∷ k) n fits room = kept_within k n fits room.1
  kept_within (RestoreList saved ∷ k) n fits room = kept_within k (min saved.scope_length n) (omega (arith, fits)) room
  kept_within (RestoreScope i ∷ k) n fits room = kept_within k (min i n) (omega (arith, fits)) room
  kept_within (CallEnd exit ∷ k) n fits room =
      called_within exit.variables k n room.0 (kept_within k (left_of exit.variables n) room.0 room.1)
  kept_within (_ ∷ k) n fits room = kept_within k n fits room

  called_room : (variables : Variables H) (k : List (Frame H)) (n : ℕ) →
      n ≤ bound limit bottom (is_shared variables && has_bottom_scope k) →
      Within limit bottom (map length (with_callers variables (kept_scopes k))) →
      (Within limit bottom (kept_lengths k) → (m : ℕ) → m ≤ bound limit bottom (has_bottom_scope k) → Room (of_scopes limit bottom) k m) →
      (left_of variables n ≤ bound limit bottom (has_bottom_scope k)) × Room (of_scopes limit bottom) k (left_of variables n)
  called_room (Caller scope) k n fits h go =
      let first : length scope ≤ bound limit bottom (has_bottom_scope k) =
      first_fits k (length scope) (within_first limit bottom (length scope) (kept_lengths k) h) in
      (first, go (within_rest limit bottom (length scope) (kept_lengths k) h) (length scope) first)
  called_room (UpTo i) k n fits h go =
      let less : min i n ≤ bound limit bottom (has_bottom_scope k) = omega (arith, fits) in (less, go h (min i n) less)
  called_room (Without i j) k n fits h go =
      let less : min i n + (n - (i + j)) ≤ bound limit bottom (has_bottom_scope k) = omega (arith, fits) in
      (less, go h (min i n + (n - (i + j))) less)

  -- where nothing waits to declare variables there is room
  some_room : (k : List (Frame H)) → DeclaresNone k → Within limit bottom (kept_lengths k) → (n : ℕ) →
      n ≤ bound limit bottom (has_bottom_scope k) → Room (of_scopes limit bottom) k n
  some_room [] none h n fits = tt
  some_room (RestOfList rest restoring ∷ k) none h n fits = λ m more fits. some_room k none h m fits
  some_room (DefineValue ident None options restoring value_at ∷ k) none h n fits = absurd none
  some_room (ForItems loop ∷ k) none h n fits = absurd none
  some_room (RestoreList saved ∷ k) none h n fits = some_room k none h (min saved.scope_length n) (omega (arith, fits))
  some_room (RestoreScope i ∷ k) none h n fits = some_room k none h (min i n) (omega (arith, fits))
  some_room (CallEnd exit ∷ k) none h n fits = called_room exit.variables k n fits h (λ rest m less. some_room k none rest m less)
  some_room (_ ∷ k) none h n fits = some_room k none h n fits

  any_levels : (k : List (Frame H)) → Levels (of_scopes limit bottom) k
  any_levels [] = tt
  any_levels (CallEnd exit ∷ k) = (tt, any_levels k)
  any_levels (_ ∷ k) = any_levels k

-- ---- levels

abbrev of_levels : (limit bottom : ℕ) → Asked
of_levels limit bottom = record { scope = λ is_bottom n. ⊤; level = λ is_bottom n. n ≤ bound limit bottom is_bottom }

levels_allowed : (limits : Limits) (bottom : ℕ) → Allowed (of_levels limits.max_call_levels bottom) limits
levels_allowed limits bottom = record { fits = λ is_bottom n le. tt; fewer = λ is_bottom m n less le. tt; shallow = λ n le. le }

module _ {H : Type 0} (limit bottom : ℕ) where
  first_level : (k : List (Frame H)) (n : ℕ) → n ≤ bound limit bottom (is_last (kept_levels k)) →
      n ≤ bound limit bottom (has_bottom_level k)
  first_level k n le = rw (level_last k) le

  last_level : (k : List (Frame H)) (n : ℕ) → n ≤ bound limit bottom (has_bottom_level k) →
      n ≤ bound limit bottom (is_last (kept_levels k))
  last_level k n le = rw (level_last k) at le

  levels_within : (k : List (Frame H)) → Levels (of_levels limit bottom) k → Within limit bottom (kept_levels k)
  levels_within [] h = tt
  levels_within (CallEnd exit ∷ k) h =
      within_more limit bottom exit.level (kept_levels k) (last_level k exit.level h.0) (levels_within k h.1)
  levels_within (_ ∷ k) h = levels_within k h

  within_levels : (k : List (Frame H)) → Within limit bottom (kept_levels k) → Levels (of_levels limit bottom) k
  within_levels [] h = tt
  within_levels (CallEnd exit ∷ k) h = (
    first_level k exit.level (within_first limit bottom exit.level (kept_levels k) h),
    within_levels k (within_rest limit bottom exit.level (kept_levels k) h),
  )
  within_levels (_ ∷ k) h = within_levels k h

  any_room : (k : List (Frame H)) (n : ℕ) → Room (of_levels limit bottom) k n
  any_room [] n = tt
  any_room (RestOfList rest restoring ∷ k) n = λ m more fits. any_room k m
  any_room (DefineValue ident None options restoring value_at ∷ k) n = (tt, λ m more fits. any_room k m)
  any_room (ForItems loop ∷ k) n = (tt, any_room k n)
  any_room (RestoreList saved ∷ k) n = any_room k (min saved.scope_length n)
  any_room (RestoreScope i ∷ k) n = any_room k (min i n)
  any_room (CallEnd exit ∷ k) n = (tt, any_room k (left_of exit.variables n))
  any_room (_ ∷ k) n = any_room k n

-- ---- the laws

module _ {S H : Type 0} (rules : Rules S H) where
  pub scopes_keep : ScopesKeepToTheLimit rules
  scopes_keep bottom p q more none h r =
      let limit : ℕ = rules.setting.limits.max_variables in
      let a : Asked = of_scopes limit bottom in
      let k : List (Frame H) = p.core.stack in
      let n : ℕ = length p.core.local.scope in
      let rest = within_rest limit bottom n (kept_lengths k) h in
      let start : Good a p.core = started a p.core.control k p.core.local (
        tt,
        any_levels limit bottom k,
        first_fits limit bottom k n (within_first limit bottom n (kept_lengths k) h),
        λ m further fits. some_room limit bottom k none rest m fits,
      ) in
      let end : Calm a q.core.stack q.core.local = failed rules a (scopes_allowed rules.setting.limits bottom more) q.core
      (run_keeps rules a (scopes_allowed rules.setting.limits bottom more) r start) in
      within_more limit bottom (length q.core.local.scope) (kept_lengths q.core.stack)
      (last_fits limit bottom q.core.stack (length q.core.local.scope) end.2)
      (kept_within limit bottom q.core.stack (length q.core.local.scope) end.2 end.3)

  pub levels_keep : LevelsKeepToTheLimit rules
  levels_keep bottom p q h r =
      let limit : ℕ = rules.setting.limits.max_call_levels in
      let a : Asked = of_levels limit bottom in
      let k : List (Frame H) = p.core.stack in
      let level : ℕ = p.core.local.around.level in
      let start : Good a p.core = started a p.core.control k p.core.local (
        first_level limit bottom k level (within_first limit bottom level (kept_levels k) h),
        within_levels limit bottom k (within_rest limit bottom level (kept_levels k) h),
        tt,
        λ m further fits. any_room limit bottom k m,
      ) in
      let end : Calm a q.core.stack q.core.local = failed rules a (levels_allowed rules.setting.limits bottom) q.core
      (run_keeps rules a (levels_allowed rules.setting.limits bottom) r start) in
      within_more limit bottom q.core.local.around.level (kept_levels q.core.stack)
      (last_level limit bottom q.core.stack q.core.local.around.level end.0)
      (levels_within limit bottom q.core.stack end.1)

  pub too_deep : TooDeepFails rules
  too_deep e k l lt =
      let is : nat_lt rules.setting.limits.max_call_levels e.level ≡ true = grind (arith, nat_tests) in
      rw is
