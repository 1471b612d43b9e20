-- Where the newest of a name stands, as names are added at the end or put below.
use Rattle.std.proofs.Common.{◌≡◌, ◌<◌, ◌≤◌, arith, ℕ, zero, suc, ◌+◌, Bool, true, false, IsTrue, List, [], ◌∷◌, ◌++◌, length, take}
use Rattle.std.proofs.Common.{get_or, refl, sym, ap, ◌∙◌, add-one, length-append}
use Rattle.std.specs.Str.{bytes_eq}
use Rattle.std.proofs.lemmas.Bool.{eqb-true, eq-eqb, ne_eqb}
use Rattle.std.proofs.Math.Seq.{take-suc}
use Rattle.std.specs.Prelude.{Option, Some, None, if◌then◌else◌, is_some, not}
use Rattle.std.specs.Int.NonZero.{non_zero_usize_get}
use Rattle.std.specs.declared.num.NonZeroUsize.{NonZeroUsize}
use Rattle.rhai_tree.specs.Forms.{is_unqualified}
use Rattle.rhai_tree.specs.Names.{Frame, Name, further, offset_of, stands, is_good, is_good_root}
use Rattle.rhai_tree.specs.Frame.{variable_resolves}
use Rattle.rhai_tree.specs.Reading as walk
use Rattle.rhai_tree.specs.Reading.{sound}
use Rattle.rhai_check.specs.Around.{above}
use Rattle.rhai_check.specs.declared.check.declared.Declared.{Declared}
use Rattle.rhai_tree.specs.declared.expr.Namespace.{Namespace}
use Rattle.rhai_tree.specs.declared.position.Position.{Position}

-- the offset after one more name
abbrev pub moved : ℕ → Bool → ℕ
moved offset true = 1
moved zero false = zero
moved (suc offset) false = suc (suc offset)

moved_on : (o : ℕ) (newer here : Bool) (count : ℕ) → further (moved o newer) here (suc (suc count)) ≡ moved (further o here (suc count))
    newer
moved_on o true here count = refl
moved_on (suc o) false here count = refl
moved_on zero false true count = refl
moved_on zero false false count = refl

length-push : (ns : List Name) (n : Name) → length (ns ++ n ∷ []) ≡ suc (length ns)
length-push ns n = omega (arith, length-append ns (n ∷ []))

pub offset-push : (name n : Name) (ns : List Name) → offset_of name (ns ++ n ∷ []) ≡ moved (offset_of name ns) (bytes_eq n name)
offset-push name n [] = elim (bytes_eq n name) as (λ b. further zero b 1 ≡ moved zero b) [ true ↦ refl | false ↦ refl ]
offset-push name n (m ∷ ns) =
    ap (λ o. further o (bytes_eq m name) (suc (length (ns ++ n ∷ [])))) (offset-push name n ns)
    ∙ ap (λ k. further (moved (offset_of name ns) (bytes_eq n name)) (bytes_eq m name) (suc k)) (length-push ns n)
    ∙ moved_on (offset_of name ns) (bytes_eq n name) (bytes_eq m name) (length ns)

-- the offset after the next name of a list
pub offset-next : (name : Name) (names : List Name) (i : ℕ) (n : Name) → i < length names → n ≡ get_or names i n
    → offset_of name (take (i + 1) names) ≡ moved (offset_of name (take i names)) (bytes_eq n name)
offset-next name names i n lt is =
    ap (λ k. offset_of name (take k names)) (add-one i)
    ∙ ap (offset_of name) (take-suc names i n lt ∙ ap (λ m. take i names ++ m ∷ []) (sym is))
    ∙ offset-push name n (take i names)

pub moved_up : (o : ℕ) → 0 < o → moved o false ≡ o + 1
moved_up zero positive = absurd (omega arith)
moved_up (suc o) positive = omega arith

pub moved_none : (o : ℕ) → o ≤ 0 → moved o false ≡ o
moved_none zero none = refl
moved_none (suc o) none = absurd (omega arith)

-- what stands above some names stands above more
kept : (o k at : ℕ) (test : Bool) → o ≡ suc k → further o test at ≡ suc k
kept (suc o) k at test e = e
kept zero k at test e = cc

found_above : (base : List Name) (name : Name) (names : List Name) (k : ℕ) → offset_of name names ≡ suc k →
    offset_of name (base ++ names) ≡ suc k
found_above [] name names k e = e
found_above (n ∷ base) name names k e = kept _ k _ (bytes_eq n name) (found_above base name names k e)

pub stands_above : (base : List Name) (name : Name) (k : ℕ) (names : List Name) → IsTrue (stands name k names) →
    IsTrue (stands name k (base ++ names))
stands_above base name zero names e = cc
stands_above base name (suc k) names e = eq-eqb _ _ (found_above base name names k (eqb-true _ _ e))

pub good_above : (base : List Name) (offset : Option NonZeroUsize) (name : Name) (names : List Name) → is_good offset name names ≡ true →
    is_good offset name (base ++ names) ≡ true
good_above base None name names e = refl
good_above base (Some offset) name names e = stands_above base name (non_zero_usize_get offset) names e

-- so is one that is looked for above no names, as behind a path
among_above : (base : List Name) (offset : Option NonZeroUsize) (name : Name) (path names : List Name)
    → is_good offset name (if is_unqualified path then names else []) ≡ true
    → is_good offset name (if is_unqualified path then (base ++ names) else []) ≡ true
among_above base offset name [] names e = good_above base offset name names e
among_above base offset name (root ∷ path) names e = e

-- so is the index of a path
root_above : (base : List Name) (index : Option NonZeroUsize) (path imports : List Name) → is_good_root index path imports ≡ true
    → is_good_root index path (base ++ imports) ≡ true
root_above base index [] imports e = refl
root_above base index (root ∷ path) imports e = good_above base index root imports e

-- a path and a variable that may run above some frame may run above more
module _ (base : Frame) (namespace : Namespace) (d : Declared) (good : is_good_root namespace.index namespace.path d.imports ≡ true) where
  pub namespace_above : walk.found_in_namespace sound namespace (above base d) ≡ true
  namespace_above = rw (root_above base.imports namespace.index namespace.path d.imports good) refl

  pub variable_above : (offset : Option NonZeroUsize) (name : Name) (pos : Position)
      → is_good offset name (if is_unqualified namespace.path then d.names else []) ≡ true
      → variable_resolves offset name namespace pos (above base d) ≡ true
  variable_above offset name pos e =
      rw (
        root_above base.imports namespace.index namespace.path d.imports good,
        among_above base.names offset name namespace.path d.names e,
      )
      refl

-- behind a path an offset is good where there is none
apart : (k : ℕ) → zero ≡ suc k → ⊥
apart k e = omega arith

none_stands : (name : Name) (k : ℕ) → false ≡ stands name k []
none_stands name zero = refl
none_stands name (suc k) = sym (ne_eqb zero (suc k) (apart k))

none_good : (offset : Option NonZeroUsize) (name : Name) (none : Bool) → is_some offset ≡ not none → none ≡ is_good offset name []
none_good None name true e = refl
none_good None name false e = e
none_good (Some offset) name true e = cc
none_good (Some offset) name false e = none_stands name (non_zero_usize_get offset)

pub none_behind : (path names : List Name) (offset : Option NonZeroUsize) (name : Name) (empty none : Bool)
    → (path ≡ [] → IsTrue empty) → empty ≡ false → is_some offset ≡ not none
    → none ≡ is_good offset name (if is_unqualified path then names else [])
none_behind [] names offset name empty none there is e = let clash : true ≡ false = sym (there refl) ∙ is in cc
none_behind (root ∷ path) names offset name empty none there is e = none_good offset name none e
