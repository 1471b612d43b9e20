-- What a state of a run is made of, and what it tells of that.
use Rattle.std.proofs.Common.{◌≡◌, Bool, ap, ◌∙◌}
use Rattle.rhai_state.specs.declared.scope.Scope.{Scope}
use Rattle.rhai_state.specs.declared.state.GlobalRuntimeState.{GlobalRuntimeState}
use Rattle.rhai_machine.specs.language.State.{Held, State}
use Rattle.rhai_steps.specs.Callers.{state_of}

module _ {S H : Type 0} where
  -- states made of the same are one
  pub same_start : {t u : S} {g h : GlobalRuntimeState H} {a b : Scope H} {i j : Held H} → t ≡ u → g ≡ h → a ≡ b → i ≡ j →
      state_of t g a i ≡ state_of u h b j
  same_start {t} {u} {g} {h} {a} {b} {i} {j} table global scope held =
      ap (λ x. state_of x g a i) table ∙ ap (λ x. state_of u x a i) global ∙ ap (λ x. state_of u h x i) scope
      ∙ ap (λ x. state_of u h b x) held

  -- the state of the caller that a state of a run was made of, but for whether variables are searched for
  caller_of : State S H → Bool → GlobalRuntimeState H
  caller_of s search = record {
    lib = s.local.around.lib;
    imports = s.local.around.imports;
    constants = s.local.around.constants;
    level = s.local.around.level;
    scope_level = s.local.scope_level;
    num_operations = s.count;
    num_modules_loaded = s.local.around.num_modules_loaded;
    source = s.local.around.source;
    always_search_scope = search;
    cells = record { cells = s.local.around.cells };
    constant_tables = s.local.around.constant_tables;
  }

  pub same_global : (t u : S) (g h : GlobalRuntimeState H) (a b : Scope H) (i j : Held H) → state_of t g a i ≡ state_of u h b j →
      g.always_search_scope ≡ h.always_search_scope → g ≡ h
  unfolding caller_of
  same_global t u g h a b i j same search =
      ap (λ s. caller_of s g.always_search_scope) same ∙ ap (λ x. caller_of (state_of u h b j) x) search

  pub same_scope : (t u : S) (g h : GlobalRuntimeState H) (a b : Scope H) (i j : Held H) → state_of t g a i ≡ state_of u h b j → a ≡ b
  same_scope t u g h a b i j same =
      let f : State S H → Scope H = λ s. record { entries = s.local.scope; spare = tt } in
      ap f same
