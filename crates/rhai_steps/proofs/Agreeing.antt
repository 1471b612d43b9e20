-- What a run may still rely on after a part of it, and what follows of it.
use Rattle.std.proofs.Common.{◌≡◌, ◌++◌, ◌∷◌, [], ℕ, zero, suc, Bool, true, false, IsTrue, List, Option, None, Some, refl, sym, ap}
use Rattle.std.proofs.Common.{◌∙◌, subst, arith}
use Rattle.std.proofs.lemmas.Bool.{eqb-true}
use Rattle.std.specs.Int.NonZero.{non_zero_usize_get}
use Rattle.std.specs.Prelude.{◌&&◌, if◌then◌else◌, length, map}
use Rattle.std.specs.declared.num.NonZeroUsize.{NonZeroUsize}
use Rattle.rhai_tree.specs.Forms.{is_unqualified}
use Rattle.rhai_tree.specs.Names.{Frame, Name, is_good, is_good_root, stands, with_import}
use Rattle.rhai_tree.specs.declared.expr.Namespace.{Namespace}
use Rattle.rhai_state.specs.Scope.{Fits, in_use, index_of, name_of, place_of}
use Rattle.rhai_state.specs.declared.scope.ScopeEntry.{ScopeEntry}
use Rattle.rhai_state.proofs.Newest.{good_fits, place_is_newest}
use Rattle.rhai_steps.specs.Agreement.{Agrees, Leads, Restores, Sight, Test, framed, root_is_good, variable_is_good, variable_leads}

-- one part after another
pub leads_then : {a b c : Sight} {k : Frame} {l m : List Name} → Leads a k b l → Leads b (framed b l) c m → Leads a k c m
leads_then p q = record { off = λ off. p.off (q.off off); leads = λ off. q.leads off ∙ p.leads (q.off off) }

-- a change after a part
pub leads_by : {a b c : Sight} {k : Frame} {l m : List Name} (f : Frame → Frame) → Leads a k b l → Leads b (f (framed b l)) c m →
    Leads a (f k) c m
leads_by f p q = record { off = λ off. p.off (q.off off); leads = λ off. q.leads off ∙ ap f (p.leads (q.off off)) }

-- what becomes of the frame, where what a checker knows of the state stays
pub changed : {a b : Sight} {k l : List Name} (f : List Name → List Name) → b ≡ a → l ≡ f k → Leads a (framed a (f k)) b l
changed f sight names = record {
  off = λ off. ap (λ (s : Sight). s.searched) (sym sight) ∙ off;
  leads = λ off i. framed (sight i) (names i);
}

-- where the names stay too
pub stays : {a b : Sight} {k l : List Name} → b ≡ a → l ≡ k → Leads a (framed a k) b l
stays sight names = changed (λ ns. ns) sight names

-- and where a name is imported
pub imported : {a b : Sight} {k l : List Name} (name : Name) → b ≡ record a { imports = a.imports ++ name ∷ [] } → l ≡ k →
    Leads a (with_import name (framed a k)) b l
imported name sight names = record {
  off = λ off. ap (λ (s : Sight). s.searched) (sym sight) ∙ off;
  leads = λ off i. framed (sight i) (names i);
}

-- what is put back stays
pub put_back : {a b : Sight} {k l : List Name} → Restores a k b l → Leads a (framed a k) b l
put_back p = stays p.sight p.names

-- a test that stood stands after a part
pub still : {a b : Sight} {k l : List Name} {test : Test} → Leads a (framed a k) b l → Agrees a k test → Agrees b l test
still p h = record { known = h.known; holds = h.holds; stands = λ off. p.leads off ∙ h.stands (p.off off) }

-- and where nothing changed
pub same : {a b : Sight} {k l : List Name} {test : Test} → b ≡ a → l ≡ k → Agrees a k test → Agrees b l test
same sight names h = still (stays sight names) h

-- what a test brings
pub brings : {a : Sight} {k : List Name} {test other : Test} → ((frame : Frame) → IsTrue (test frame) → IsTrue (other frame)) →
    Agrees a k test → Agrees a k other
brings f h = record { known = h.known; holds = f h.known h.holds; stands = h.stands }

-- after a change of the frame what stands of what it makes of the one that was known
pub behind : {a b : Sight} {k l : List Name} {test other : Test} (f : Frame → Frame) →
    ((frame : Frame) → IsTrue (test frame) → IsTrue (other (f frame))) → Leads a (f (framed a k)) b l → Agrees a k test → Agrees b l other
behind f g p h = record { known = f h.known; holds = g h.known h.holds; stands = λ off. p.leads off ∙ ap f (h.stands (p.off off)) }

-- an offset that agrees is good where it is in use
in_use_by : (searched : Bool) (sight : Sight) (offset : Option NonZeroUsize) (name : Name) (names : List Name) → sight.searched ≡ searched →
    Agrees sight names (variable_is_good offset name []) → IsTrue (is_good (in_use searched offset) name names)
in_use_by true sight offset name names is h = refl
in_use_by false sight offset name names is h =
    subst (λ (f : Frame). IsTrue (is_good offset name f.names)) (sym (h.stands is)) h.holds

pub good_in_use : (sight : Sight) (offset : Option NonZeroUsize) (name : Name) (names : List Name) →
    Agrees sight names (variable_is_good offset name []) → IsTrue (is_good (in_use sight.searched offset) name names)
good_in_use sight offset name names h = in_use_by sight.searched sight offset name names refl h

-- behind a path there is none
none_stands : (name : Name) (k : ℕ) → IsTrue (stands name k []) → ⊥
none_stands name zero h = absurd cc
none_stands name (suc k) h = let clash : zero ≡ suc k = eqb-true _ _ h in absurd (omega arith)

good_there : (offset : NonZeroUsize) (name : Name) (path names : List Name) →
    IsTrue (is_good (Some offset) name (if is_unqualified path then names else [])) →
    IsTrue (is_good (Some offset) name names) × (path ≡ [])
good_there offset name [] names h = (h, refl)
good_there offset name (root ∷ path) names h = absurd (none_stands name (non_zero_usize_get offset) h)

by_offset : (searched : Bool) (sight : Sight) (offset : Option NonZeroUsize) (name : Name) (path names : List Name) →
    sight.searched ≡ searched → Agrees sight names (variable_is_good offset name path) → (used : NonZeroUsize) →
    in_use searched offset ≡ Some used → IsTrue (is_good (Some used) name names) × (path ≡ [])
by_offset true sight offset name path names is h used e = cc
by_offset false sight offset name path names is h used e = good_there used name path names
    (subst (λ (o : Option NonZeroUsize). IsTrue (is_good o name (if is_unqualified path then names else []))) e
    (subst (λ (f : Frame). IsTrue (variable_is_good offset name path f)) (sym (h.stands is)) h.holds))

-- one that is in use leads to the newest of a name without a path
pub good_by_offset : (sight : Sight) (offset : Option NonZeroUsize) (name : Name) (path names : List Name) →
    Agrees sight names (variable_is_good offset name path) → (used : NonZeroUsize) → Some used ≡ in_use sight.searched offset →
    IsTrue (is_good (Some used) name names) × (path ≡ [])
good_by_offset sight offset name path names h used e = by_offset sight.searched sight offset name path names refl h used (sym e)

-- without a path it is that of the name
pub good_alone : {sight : Sight} {names : List Name} (offset : Option NonZeroUsize) (name : Name) (path : List Name) →
    is_unqualified path ≡ true → Agrees sight names (variable_is_good offset name path) →
    Agrees sight names (variable_is_good offset name [])
good_alone offset name path is h = brings (λ frame good. rw is at good) h

-- the place that it leads to, where it is in use, is that of the newest variable of its name
module _ {H : Type 0} (sight : Sight) (offset : Option NonZeroUsize) (name : Name) (entries : List (ScopeEntry H))
    (good : Agrees sight (map name_of entries) (variable_is_good offset name [])) where
  pub place_agrees : place_of (in_use sight.searched offset) name entries ≡ index_of name entries
  place_agrees = place_is_newest (in_use sight.searched offset) name entries (good_in_use sight offset name (map name_of entries) good)

  -- so is an index that is that place
  pub index_agrees : (index : Option ℕ) → index ≡ place_of (in_use sight.searched offset) name entries → index ≡ index_of name entries
  index_agrees index is = is ∙ place_agrees

  -- and it is at most the number of variables
  pub place_fits : Fits (in_use sight.searched offset) (length entries)
  place_fits = good_fits (in_use sight.searched offset) name entries (good_in_use sight offset name (map name_of entries) good)

-- ---- what a variable or a call hands on of its path

both_hold : (a b : Bool) → IsTrue (a && b) → IsTrue a × IsTrue b
both_hold true true h = (refl, refl)
both_hold true false h = (refl, h)
both_hold false b h = (h, cc)

-- a test and another hold
pub one_agrees : {sight : Sight} {names : List Name} (one other : Test) → Agrees sight names (λ frame. one frame && other frame) →
    Agrees sight names one
one_agrees one other h = brings (λ frame good. (both_hold (one frame) (other frame) good).0) h

pub other_agrees : {sight : Sight} {names : List Name} (one other : Test) → Agrees sight names (λ frame. one frame && other frame) →
    Agrees sight names other
other_agrees one other h = brings (λ frame good. (both_hold (one frame) (other frame) good).1) h

-- an index that is not given is good
none_given : (path imports : List Name) → IsTrue (is_good_root None path imports)
none_given [] imports = refl
none_given (root ∷ path) imports = refl

root_by : (searched : Bool) (sight : Sight) (names : List Name) (namespace : Namespace) → sight.searched ≡ searched →
    Agrees sight names (root_is_good namespace) → IsTrue (is_good_root (in_use searched namespace.index) namespace.path sight.imports)
root_by true sight names namespace is h = none_given namespace.path sight.imports
root_by false sight names namespace is h = subst (λ (f : Frame). IsTrue (root_is_good namespace f)) (sym (h.stands is)) h.holds

-- the index of a path that agrees is good where it is in use
pub root_agrees : (sight : Sight) (names : List Name) (namespace : Namespace) → Agrees sight names (root_is_good namespace) →
    IsTrue (is_good_root (in_use sight.searched namespace.index) namespace.path sight.imports)
root_agrees sight names namespace h = root_by sight.searched sight names namespace refl h

-- what a variable hands on: of its offset, and of the index of its path
pub offset_agrees : {sight : Sight} {names : List Name} (offset : Option NonZeroUsize) (name : Name) (namespace : Namespace) →
    Agrees sight names (variable_leads offset name namespace) → Agrees sight names (variable_is_good offset name namespace.path)
offset_agrees offset name namespace h = one_agrees (variable_is_good offset name namespace.path) (root_is_good namespace) h

pub path_agrees : (sight : Sight) (names : List Name) (offset : Option NonZeroUsize) (name : Name) (namespace : Namespace) →
    Agrees sight names (variable_leads offset name namespace) →
    IsTrue (is_good_root (in_use sight.searched namespace.index) namespace.path sight.imports)
path_agrees sight names offset name namespace h =
    root_agrees sight names namespace (other_agrees (variable_is_good offset name namespace.path) (root_is_good namespace) h)
