-- What every run of the language keeps, whatever its end, also where memory runs out.
use Rattle.std.proofs.Common.{refl, sym, ap, ◌∙◌, arith}
use Rattle.std.proofs.lemmas.List.{append-nil, length-append, length-drop, length-map, length-take}
use Rattle.std.specs.Prelude.{◌≡◌, ◌≤◌, ◌+◌, Bool, ℕ, zero, ⊤, length, map, take, drop, true, false, List, [], ◌∷◌, ◌++◌}
use Rattle.rhai_tree.specs.Names.{Name, Begins}
use Rattle.rhai_tree.specs.declared.expr.Stmt.{Stmt, out-Stmt}
use Rattle.rhai_errors.specs.declared.error.EvalAltResult.{EvalAltResult}
use Rattle.rhai_errors.specs.declared.error.EvalAltResult.TheVariants as error
use Rattle.rhai_machine.specs.machine.Machine.{Move, Halt, Go, Charge, Native, AskPure}
use Rattle.rhai_machine.specs.language.Setting.{Rules, cut, limit_under}
use Rattle.rhai_machine.specs.language.State.{Local, State, Surroundings}
use Rattle.rhai_machine.specs.language.Frames.{Control, Frame, Core, core, Exec, EnterFunction, OpenStmt, Enter, Run, Fail}
use Rattle.rhai_machine.specs.language.Language.{machine}
use Rattle.rhai_machine.specs.language.Runs.{at, with_core, Steps, Goes}
use Rattle.rhai_machine.specs.machine.Memory.{Leads}
use Rattle.rhai_values.specs.declared.base.value.Import.{Import}
use Rattle.rhai_laws.specs.Kept.{declares, forgotten_cell, is_import, Around, Sound, names_of, adds_names, AddsNone, Restores, Grown, Kept}
use Rattle.rhai_laws.specs.Steady.{Moves, Steady}
use Rattle.rhai_laws.proofs.MemoryLaws.{keeps, counts, within}
use Rattle.rhai_laws.proofs.Keeping.{Outline, Onto, outline, forgotten_table, Asked, Grows, begins_self, calm, Tight, Free, TightAt}
use Rattle.rhai_laws.proofs.Keeping.{Imports, AnyImports, ImportsAt, as_many, any_by, no_more_by, MeetsAsked, Keeps, quiet, through}
use Rattle.rhai_laws.proofs.Keeping.{started_by, stopped_by}
use Rattle.rhai_laws.proofs.KeptRules.{move_keeps}

module _ {H : Type 0} (a : Asked) where
  -- what a run from a sound core keeps
  abbrev Stays : Core H → Core H → Type 0
  Stays c d = Sound c.control c.local → Keeps a c d

  -- a move from a sound core
  from_sound : (c : Core H) (v : Move H (Core H)) → (Sound c.control c.local → Moves (Keeps a) c v) → Moves Stays c v
  from_sound c Halt f = tt
  from_sound c (Go d) f = f
  from_sound c (Charge at d) f = f
  from_sound c (Native q f) g = λ reply first h. g h reply first
  from_sound c (AskPure q f) g = λ pure h. g h pure

  -- at any control no more names may be added
  stopped : (c : Control H) (k : List (Frame H)) (n : List Name) → a.along n → TightAt a c k n → Tight a k n
  stopped (EnterFunction e) k n w t = stopped_by a (adds_names e) k n w t
  stopped (Exec stmt restoring) k n w t = stopped_by a (declares (out-Stmt stmt)) k n w t
  stopped (OpenStmt form restoring) k n w t = stopped_by a (declares form) k n w t
  stopped (Run stmts restoring last) k n w t = t n (begins_self n) w
  stopped (Enter stmts true) k n w t = t
  stopped (Enter stmts false) k n w t = t n (begins_self n) w
  stopped _ k n w t = t

  -- and no more imports
  no_more : (c : Control H) (k : List (Frame H)) (n : ℕ) → ImportsAt a c k n → Imports a k n
  no_more (Exec stmt restoring) k n t = no_more_by a (is_import (out-Stmt stmt)) k n t
  no_more (OpenStmt form restoring) k n t = no_more_by a (is_import form) k n t
  no_more (Run stmts restoring last) k n t = as_many a k n t
  no_more (Enter stmts true) k n t = t
  no_more (Enter stmts false) k n t = as_many a k n t
  no_more _ k n t = t

  -- an error adds no names, and no imports
  failed : (c : Core H) (e : EvalAltResult H) → MeetsAsked a c → MeetsAsked a (core (Fail e) c.stack c.local)
  failed c e t = (
    t.0,
    stopped c.control c.stack (names_of c.local) t.0 t.1,
    no_more c.control c.stack (length c.local.around.imports) t.2,
  )

  -- what may add names may be started where any more names will do
  started : (c : Control H) (k : List (Frame H)) (n : List Name) → Tight a k n → Free a k n → TightAt a c k n
  started (EnterFunction e) k n t f = started_by a (adds_names e) k n t f
  started (Exec stmt restoring) k n t f = started_by a (declares (out-Stmt stmt)) k n t f
  started (OpenStmt form restoring) k n t f = started_by a (declares form) k n t f
  started (Run stmts restoring last) k n t f = f
  started (Enter stmts true) k n t f = t
  started (Enter stmts false) k n t f = f
  started _ k n t f = t

  -- what may add imports may be started where any more will do
  any_at : (c : Control H) (k : List (Frame H)) (n : ℕ) → AnyImports a k n → ImportsAt a c k n
  any_at (Exec stmt restoring) k n t = any_by a (is_import (out-Stmt stmt)) k n t
  any_at (OpenStmt form restoring) k n t = any_by a (is_import form) k n t
  any_at (Run stmts restoring last) k n t = t
  any_at (Enter stmts true) k n t = as_many a k n t
  any_at (Enter stmts false) k n t = t
  any_at _ k n t = as_many a k n t

  -- what takes them back may be started where so many will do
  taken_back : (c : Control H) (l : Local H) (k : List (Frame H)) (n : ℕ) → Restores c l → Imports a k n → ImportsAt a c k n
  taken_back (Exec stmt restoring) l k n none t = rw none t
  taken_back (OpenStmt form restoring) l k n none t = rw none t
  taken_back (Run stmts restoring last) l k n none t = absurd none
  taken_back (Enter stmts true) l k n none t = t
  taken_back (Enter stmts false) l k n none t = absurd none
  taken_back _ l k n none t = t

  -- what adds none may be started where these will do
  started_none : (c : Control H) (k : List (Frame H)) (n : List Name) → AddsNone c → Tight a k n → TightAt a c k n
  started_none (EnterFunction e) k n none t = rw none t
  started_none (Exec stmt restoring) k n none t = rw none t
  started_none (OpenStmt form restoring) k n none t = rw none t
  started_none (Run stmts restoring last) k n none t = absurd none
  started_none (Enter stmts true) k n none t = t
  started_none (Enter stmts false) k n none t = absurd none
  started_none _ k n none t = t

module _ {H : Type 0} where
  -- what is around has grown as its outline has
  around_grown : (old new : Local H) → Onto (outline old) (outline new) → Around old.around new.around
  around_grown old new onto = record {
    lib = ap (λ (o : Outline H). o.around.lib) onto.1;
    imports = (onto.0.imports, ap (λ (o : Outline H). o.around.imports) onto.1);
    constants = ap (λ (o : Outline H). o.around.constants) onto.1;
    constant_tables = sym (length-map new.around.constant_tables forgotten_table)
        ∙ (ap (λ (o : Outline H). length o.around.constant_tables) onto.1 ∙ length-map old.around.constant_tables forgotten_table);
    level = ap (λ (o : Outline H). o.around.level) onto.1;
    num_modules_loaded = omega (arith, ap (λ (o : Outline H). o.around.num_modules_loaded) onto.1);
    source = ap (λ (o : Outline H). o.around.source) onto.1;
    cells = (onto.0.cells, ap (λ (o : Outline H). o.around.cells) onto.1);
  }

  -- where no import is added they are the same
  none_added : (old new added : List (Import H)) → new ≡ old ++ added → length new ≡ length old → new ≡ old
  none_added old new [] is same = is ∙ append-nil old
  none_added old new (i ∷ added) is same =
      absurd (omega (arith, ap (λ (imports : List (Import H)). length imports) is, length-append old (i ∷ added), same))

  -- what is around has grown by nothing
  pub around_same : (s : Surroundings H) → Around s s
  around_same s = record {
    lib = refl;
    imports = ([], sym (append-nil s.imports));
    constants = refl;
    constant_tables = refl;
    level = refl;
    num_modules_loaded = omega arith;
    source = refl;
    cells = (zero, sym (append-nil (map forgotten_cell s.cells)));
  }

  -- a control that takes back its imports is sound
  is_sound : (c : Control H) (l : Local H) → Restores c l → Sound c l
  is_sound (Exec stmt restoring) l h = tt
  is_sound (OpenStmt form restoring) l h = tt
  is_sound (Run stmts restoring last) l h = absurd h
  is_sound (Enter stmts true) l h = h
  is_sound (Enter stmts false) l h = absurd h
  is_sound _ l h = h

module _ {S H : Type 0} (rules : Rules S H) where
  module _ (a : Asked) (grows : Grows a rules.setting.limits.max_variables) where
    -- each step keeps it
    steady : Steady (machine rules) (Stays a)
    steady = record {
      same = λ c h. quiet a h refl (λ t. t);
      through = λ p q h. through a (p h) (q (p h).sound);
      moves = λ c. from_sound a c _ (move_keeps a rules.setting grows c.control c.stack c.local);
      refuses = λ at c h. quiet a tt refl (failed a c (error.ErrorTooManyOperations at));
      is_out = λ at c h. quiet a tt refl (failed a c (error.ErrorOutOfMemory at));
    }

    -- and so does a run
    run_keeps : (c d : Control H) (old new : State S H) → Sound c old.local → Steps rules c old d new →
        Keeps a (core c [] old.local) (core d [] new.local)
    unfolding Goes
    run_keeps c d old new h steps = keeps (machine rules) (cut rules) (Stays a) steady (steps []) h

    -- and so does a run from a core to which a rule led
    pub goes_keep : (b c : Core H) (d : Control H) (old new : State S H) → Keeps a b c →
        Leads (machine rules) (cut rules) (with_core c old) (at d [] new) →
        Keeps a b (core d [] new.local)
    goes_keep b c d old new led goes = through a led (keeps (machine rules) (cut rules) (Stays a) steady goes led.sound)

    -- what is asked at the end
    ends_so : (d : Control H) (new : State S H) → MeetsAsked a (core d [] new.local) →
        a.along (names_of new.local) × a.last (names_of new.local) × a.imports (length new.local.around.imports)
    ends_so d new t = (
      t.0,
      stopped a d [] (names_of new.local) t.0 t.1,
      no_more a d [] (length new.local.around.imports) t.2,
    )

    -- and of a run, from what is asked at its start
    at_end : (c d : Control H) (old new : State S H) → Sound c old.local → Steps rules c old d new →
        a.along (names_of old.local) → TightAt a c [] (names_of old.local) → ImportsAt a c [] (length old.local.around.imports) →
        a.along (names_of new.local) × a.last (names_of new.local) × a.imports (length new.local.around.imports)
    at_end c d old new h steps w t i = ends_so d new ((run_keeps c d old new h steps).names (w, t, i))

  -- nothing is asked
  abbrev nothing : Asked
  nothing = record { along = λ n. ⊤; last = λ n. ⊤; imports = λ n. ⊤ }

  -- at the end there are so many imports
  abbrev so_many : ℕ → Asked
  so_many count = record { along = λ n. ⊤; last = λ n. ⊤; imports = λ n. n ≡ count }

  -- where nothing is asked all along any names will do
  any_names : (last : List Name → Type 0) (imports : ℕ → Type 0) (most : ℕ) →
      Grows (record { along = λ n. ⊤; last = last; imports = imports }) most
  any_names last imports most = record { fits = λ n le. tt; thins = λ n i j w. tt }

  -- charges are only added
  pub counted : (c d : Control H) (old new : State S H) → Steps rules c old d new → old.count ≤ new.count
  unfolding Goes
  counted c d old new steps = counts (machine rules) (cut rules) (steps [])

  -- a count within the limit stays within it
  pub counted_within : (c d : Control H) (old new : State S H) → Steps rules c old d new → old.count ≤ limit_under rules →
      new.count ≤ limit_under rules
  unfolding Goes
  counted_within c d old new steps = within (machine rules) (limit_under rules) (steps [])

  -- what every run leaves, also where memory runs out
  pub grown : (c d : Control H) (old new : State S H) → Sound c old.local → Steps rules c old d new → Grown rules old new
  grown c d old new h steps =
      let onto = (run_keeps nothing (any_names _ _ _) c d old new h steps).around in
      record {
        counts = counted c d old new steps;
        within = counted_within c d old new steps;
        around = around_grown old.local new.local onto;
        scope_level = ap (λ (o : Outline H). o.scope_level) onto.1;
        bound = ap (λ (o : Outline H). o.bound) onto.1;
      }

  -- where imports are taken back there are as many at the end
  same_imports : (c d : Control H) (old new : State S H) → Restores c old.local → Steps rules c old d new →
      length new.local.around.imports ≡ length old.local.around.imports
  same_imports c d old new h steps =
      let count = length old.local.around.imports in
      let a = so_many count in
      (at_end a (any_names _ _ _) c d old new (is_sound c old.local h) steps tt
      (started a c [] (names_of old.local) tt (λ m b w. tt)) (taken_back a c old.local [] count h refl)).2

  -- and what it keeps where imports are taken back
  pub kept : (c d : Control H) (old new : State S H) → Restores c old.local → Steps rules c old d new → Kept rules old new
  kept c d old new h steps =
      let sound = is_sound c old.local h in
      let g = grown c d old new sound steps in
      record {
        counts = g.counts;
        within = g.within;
        around = g.around;
        imports = none_added old.local.around.imports new.local.around.imports g.around.imports.0 g.around.imports.1
            (same_imports c d old new h steps);
        scope_level = g.scope_level;
        bound = g.bound;
      }

  restores_list : (stmts : List Stmt) (restoring : Bool) (l : Local H) → restoring ≡ true → Restores (Enter stmts restoring) l
  restores_list stmts true l is = tt
  restores_list stmts false l is = cc

  -- a list that restores
  pub kept_restoring : (stmts : List Stmt) (restoring : Bool) (d : Control H) (old new : State S H) → restoring ≡ true →
      Steps rules (Enter stmts restoring) old d new → Kept rules old new
  kept_restoring stmts restoring d old new is steps =
      kept (Enter stmts restoring) d old new (restores_list stmts restoring old.local is) steps

  -- at the end the names are these
  abbrev exactly : List Name → Asked
  exactly n = record { along = λ m. ⊤; last = λ m. m ≡ n; imports = λ n. ⊤ }

  -- what adds no variable leaves the names as they were
  pub names_stay : (c d : Control H) (old new : State S H) → AddsNone c → Sound c old.local → Steps rules c old d new →
      names_of new.local ≡ names_of old.local
  names_stay c d old new none h steps =
      (at_end (exactly (names_of old.local)) (any_names _ _ _) c d old new h steps tt
      (started_none (exactly (names_of old.local)) c [] (names_of old.local) none refl)
      (any_at (exactly (names_of old.local)) c [] (length old.local.around.imports) (λ m le. tt))).1

  -- the same of a run from a core to which a rule led, whatever is asked of the names
  module _ (c : Core H) (d : Control H) (old new : State S H) (led : (a : Asked) → Keeps a (calm [] old.local) c)
      (goes : Leads (machine rules) (cut rules) (with_core c old) (at d [] new)) where
    -- it leaves as many imports, so they are the same
    same_from : length new.local.around.imports ≡ length old.local.around.imports
    same_from =
        let a = so_many (length old.local.around.imports) in
        (ends_so a (any_names _ _ _) d new
        ((goes_keep a (any_names _ _ _) (calm [] old.local) c d old new (led a) goes).names (tt, tt, refl))).2

    pub kept_from : Kept rules old new
    kept_from =
        let onto = (goes_keep nothing (any_names _ _ _) (calm [] old.local) c d old new (led nothing) goes).around in
        record {
          counts = counts (machine rules) (cut rules) goes;
          within = within (machine rules) (limit_under rules) goes;
          around = around_grown old.local new.local onto;
          imports = none_added old.local.around.imports new.local.around.imports onto.0.imports
              (ap (λ (o : Outline H). o.around.imports) onto.1) same_from;
          scope_level = ap (λ (o : Outline H). o.scope_level) onto.1;
          bound = ap (λ (o : Outline H). o.bound) onto.1;
        }

    -- such a core adds no variable, so the names are as they were
    pub names_stay_from : names_of new.local ≡ names_of old.local
    names_stay_from =
        let a = exactly (names_of old.local) in
        (ends_so a (any_names _ _ _) d new
        ((goes_keep a (any_names _ _ _) (calm [] old.local) c d old new (led a) goes).names (tt, refl, tt))).1

  -- at the end the names begin with these
  abbrev beginning : List Name → Asked
  beginning n = record { along = λ m. ⊤; last = λ m. Begins n m; imports = λ n. ⊤ }

  -- variables are only added
  pub names_begin : (c d : Control H) (old new : State S H) → Sound c old.local → Steps rules c old d new →
      Begins (names_of old.local) (names_of new.local)
  names_begin c d old new h steps =
      (at_end (beginning (names_of old.local)) (any_names _ _ _) c d old new h steps tt
      (started (beginning (names_of old.local)) c [] (names_of old.local) (begins_self (names_of old.local)) (λ m b w. b))
      (any_at (beginning (names_of old.local)) c [] (length old.local.around.imports) (λ m le. tt))).1

  -- all along there are no more names than the limit allows
  abbrev so_few : Asked
  so_few = record { along = λ m. length m ≤ rules.setting.limits.max_variables; last = λ m. ⊤; imports = λ n. ⊤ }

  -- names between others go, and no more are left
  thinner : (n : List Name) (i j : ℕ) → length (take i n ++ drop (i + j) n) ≤ length n
  thinner n i j = omega (
    arith,
    length-append (take i n) (drop (i + j) n),
    length-take i n,
    length-drop (i + j) n,
  )

  few_grow : Grows so_few rules.setting.limits.max_variables
  few_grow = record { fits = λ n le. le; thins = λ n i j le. omega (arith, thinner n i j, le) }

  -- there are never more variables than the limit allows
  pub variables_stay : (c d : Control H) (old new : State S H) → Sound c old.local → Steps rules c old d new →
      length (names_of old.local) ≤ rules.setting.limits.max_variables → length (names_of new.local) ≤ rules.setting.limits.max_variables
  variables_stay c d old new h steps le =
      (at_end so_few few_grow c d old new h steps le (started so_few c [] (names_of old.local) tt (λ m b w. tt))
      (any_at so_few c [] (length old.local.around.imports) (λ m le. tt))).0
