-- The variables that closures share, one further.
use Rattle.std.proofs.Common.{◌≡◌, ◌<◌, ◌+◌, ℕ, suc, ap, sym, ◌∙◌, Bool, true, List, ◌∷◌, length, get_or, drop, add-one, if◌then◌else◌}
use Rattle.std.proofs.Math.Seq.{drop-cons}
use Rattle.rhai_tree.specs.declared.fault.CheckFault.TheVariants.{BadOffset}
use Rattle.rhai_tree.specs.declared.expr.SharedVariable.{SharedVariable}
use Rattle.rhai_tree.specs.Names.{Name, is_good}
use Rattle.rhai_tree.specs.Reading as walk

-- of one with a good offset nothing is found
pub shared_next : (r : walk.Reading) (variables : List SharedVariable) (i : ℕ) (x : SharedVariable) (names : List Name) →
    i < length variables → x ≡ get_or variables i x → is_good x.offset x.ident.name names ≡ true →
    walk.found_in_shared r (drop i variables) names ≡ r.both r.none (walk.found_in_shared r (drop (i + 1) variables) names)
shared_next r variables i x names lt is good =
    let here : drop i variables ≡ x ∷ drop (suc i) variables =
    drop-cons variables i x lt ∙ ap (λ y. y ∷ drop (suc i) variables) (sym is) in
    ap (λ (vs : List SharedVariable). walk.found_in_shared r vs names) here
    ∙ ap (λ (b : Bool). r.both (if b then r.none else r.fault (BadOffset x.ident.pos))
    (walk.found_in_shared r (drop (suc i) variables) names)) good
    ∙ ap (λ n. r.both r.none (walk.found_in_shared r (drop n variables) names)) (sym (add-one i))
