-- What a checker knows of a state, behind a function and behind a list that take back what they imported.
use Rattle.std.proofs.Common.{◌≡◌, ℕ, List, [], ◌++◌, Option, Some, None, length, map, take, refl, sym, ap, ◌∙◌}
use Rattle.std.proofs.Math.Seq.{take-append_seam}
use Rattle.std.proofs.lemmas.List.{append-nil, length-map, map-append, take-map}
use Rattle.rhai_tree.specs.Names.{Begins, Name}
use Rattle.rhai_values.specs.declared.base.value.EncapsulatedEnviron.{EncapsulatedEnviron, out-EncapsulatedEnviron}
use Rattle.rhai_lookups.specs.declared.run.RunState.{RunState}
use Rattle.rhai_state.specs.State.{import_name}
use Rattle.rhai_machine.specs.language.Frames.{Control}
use Rattle.rhai_machine.specs.language.Runs.{Steps}
use Rattle.rhai_machine.specs.language.Setting.{Rules}
use Rattle.rhai_machine.specs.language.State.{State}
use Rattle.rhai_steps.specs.Agreement.{Sight, imports_in, sight_of}
use Rattle.rhai_names.specs.Saves.{left_global}
use Rattle.rhai_names.specs.declared.variables.Saved.{Saved}
use Rattle.rhai_bodies.specs.Closing.{taken_back}
use Rattle.rhai_bodies.specs.Opening.{entered_global}
use Rattle.rhai_bodies.specs.declared.opening.CallExit.{CallExit}
use Rattle.rhai_laws.specs.Kept.{Sound}
use Rattle.rhai_laws.proofs.KeptLaws.{grown}

-- what is cut back to its length of before has the names of before
pub names_back : {A : Type 0} (name_in : A → Name) (old mid : List A) (count : ℕ) → count ≡ length old →
    Begins (map name_in old) (map name_in mid) → map name_in (take count mid) ≡ map name_in old
names_back name_in old mid count is (added, e) =
    let long : count ≡ length (map name_in old) = is ∙ sym (length-map old name_in) in
    sym (take-map name_in count mid) ∙ ap (take count) e ∙ ap (λ n. take n (map name_in old ++ added)) long
    ∙ take-append_seam (map name_in old) added

module _ {H : Type 0} where
  -- an environment's imports stand behind those that were there
  entered_begins : (environ : Option (EncapsulatedEnviron H)) (level : ℕ) (old : RunState H) →
      Begins (imports_in old.lists.1) (imports_in (entered_global environ level old).lists.1)
  entered_begins None level old = ([], sym (append-nil (imports_in old.lists.1)))
  entered_begins (Some environ) level old =
      let e = out-EncapsulatedEnviron H environ in (imports_in e.imports, map-append import_name old.lists.1 e.imports)

  -- behind a function's body, which left what it was entered with
  pub sight_closed : (old opened mid new : RunState H) (environ : Option (EncapsulatedEnviron H)) (level : ℕ) (exit : CallExit) →
      exit.imports_length ≡ length old.lists.1 → opened ≡ entered_global environ level old → sight_of mid ≡ sight_of opened →
      new ≡ taken_back exit mid → sight_of new ≡ sight_of old
  sight_closed old opened mid new environ level exit count enters stays closes =
      let (added, begins) = entered_begins environ level old in
      let names : imports_in mid.lists.1 ≡ imports_in old.lists.1 ++ added =
      ap (λ (s : Sight). s.imports) stays ∙ ap (λ (global : RunState H). imports_in global.lists.1) enters ∙ begins in
      ap sight_of closes ∙ (λ i. record {
        searched = (ap (λ (s : Sight). s.searched) stays ∙ ap (λ (global : RunState H). global.always_search_scope) enters
            ∙ entered_search environ) i;
        imports = names_back import_name old.lists.1 mid.lists.1 exit.imports_length count (added, names) i;
      })
    where
      entered_search : (environ : Option (EncapsulatedEnviron H)) →
          (entered_global environ level old).always_search_scope ≡ old.always_search_scope
      entered_search None = refl
      entered_search (Some environ) = refl

  -- behind a list that restores
  pub sight_left : (old mid new : RunState H) (saved : Saved) → saved.imports_length ≡ length old.lists.1 →
      saved.always_search_scope ≡ old.always_search_scope → Begins (imports_in old.lists.1) (imports_in mid.lists.1) →
      new ≡ left_global saved mid → sight_of new ≡ sight_of old
  sight_left old mid new saved count searches begins left =
      ap sight_of left ∙ (λ i. record {
        searched = searches i;
        imports = names_back import_name old.lists.1 mid.lists.1 saved.imports_length count begins i;
      })

  -- a run only adds imports
  pub imports_begin : {S : Type 0} (rules : Rules S H) (c d : Control H) (old new : State S H) → Sound c old.local →
      Steps rules c old d new → Begins (imports_in old.local.around.imports) (imports_in new.local.around.imports)
  imports_begin rules c d old new sound steps =
      let (added, is) = (grown rules c d old new sound steps).around.imports in (
        imports_in added,
        ap imports_in is ∙ map-append import_name old.local.around.imports added,
      )
