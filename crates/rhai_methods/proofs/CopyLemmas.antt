-- Copies of pointers, and copies with more arguments.
use Rattle.std.proofs.Common.{◌≡◌, List, ◌++◌, Some, Result, Ok, Err, refl, sym, ap, ◌∙◌}
use Rattle.std.specs.Prelude.{ℕ}
use Rattle.std.specs.Option.{option_map}
use Rattle.rhai_tree.specs.declared.position.Position.{Position}
use Rattle.rhai_values.specs.declared.base.value.Dynamic.{Dynamic}
use Rattle.rhai_values.specs.declared.base.value.FnPtr.{FnPtr, roll-FnPtr}
use Rattle.rhai_values.specs.declared.base.value.FnPtrKind.TheOpen as union
use Rattle.rhai_values.specs.declared.base.value.Union.TheVariants as value
use Rattle.rhai_values.specs.Copy.{copy_of, copy_pointer, plain}
use Rattle.rhai_values.specs.Layers.{UnionLayer, layer_of}
use Rattle.rhai_values.proofs.CopyLemmas.{copy-FnPtr}
use Rattle.rhai_errors.specs.declared.error.EvalAltResult.{EvalAltResult}
use Rattle.rhai_machine.specs.language.Values.{Cells}
use Rattle.rhai_machine.specs.language.Arguments.{with_curried}
use Rattle.rhai_machine.specs.language.Methods.{own_seen, pointer_there, pointer_with}
use Rattle.rhai_methods.specs.Copies.{curried_in, curried_seen, found_copy}
use Rattle.rhai_methods.proofs.Cores.{copied_out}

module _ {H : Type 0} where
  -- the pointer in a copy of a value
  copied_there : (v : Dynamic H) (p : FnPtr H) → v.value ≡ value.FnPtr p →
      pointer_there (layer_of (copy_of v)) ≡ option_map copy_pointer (pointer_there (layer_of v))
  copied_there v p is = rw (is, copy-FnPtr p, value.outs-FnPtr (copy_pointer p), value.outs-FnPtr p) refl

  -- and so in what a copy gave
  pub copied_found : (v copied : Dynamic H) (p : FnPtr H) →
      ◌≡◌ {A = Result (Dynamic H) (EvalAltResult H)} (Ok copied) (Ok (copy_of v)) → v.value ≡ value.FnPtr p →
      pointer_there (layer_of copied) ≡ option_map copy_pointer (pointer_there (layer_of v))
  copied_found v copied p gave is =
      let same : copied ≡ copy_of v = cc in ap (λ (x : Dynamic H). pointer_there (layer_of x)) same ∙ copied_there v p is

  with_copied : (q : FnPtr H) (args : List (Dynamic H)) → pointer_with q args ≡ with_curried (copy_pointer q) args
  with_copied q args =
      sym (ap (λ f. plain (value.FnPtr {X1 = H} (roll-FnPtr H (record f { curry = f.curry ++ args })))) (copied_out q))

  module _ (host : H → List ℕ) (cells : Cells H) (args : List (Dynamic H)) (at : Position) where
    curried_to : (u : UnionLayer H) (p : FnPtr H) (seen : Dynamic H) → Some p ≡ option_map copy_pointer (pointer_there u) →
        Ok (with_curried p args) ≡ curried_in host cells args at u seen
    curried_to (union.FnPtr q) p seen is =
        let same : p ≡ copy_pointer q = cc in ap (λ (x : FnPtr H). Ok (with_curried x args)) same ∙ ap Ok (sym (with_copied q args))
    curried_to _ p seen is = cc

    -- a copy of a pointer gets the arguments
    pub curried_some : (r : Result (Dynamic H) (EvalAltResult H)) (p : FnPtr H) → Ok (Some p) ≡ found_copy (own_seen r) →
        Ok (with_curried p args) ≡ curried_seen host cells args at r
    curried_some (Ok v) p is =
        let some : Some p ≡ option_map copy_pointer (pointer_there (layer_of v)) = cc in curried_to (layer_of v) p v some
    curried_some (Err e) p is = cc
