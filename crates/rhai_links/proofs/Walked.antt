-- What a chain that walks asks of each of its links, and that fewer links are left behind one.
use Rattle.std.proofs.Common.{◌≡◌, ◌≤◌, ◌+◌, ℕ, Bool, true, false, ◌||◌, List, ◌∷◌, Option, Some, None, refl, sym, ap, ◌∙◌, subst, arith}
use Rattle.std.proofs.Common.{suc, ◌-◌, [], length, take, drop, get_or}
use Rattle.std.proofs.lemmas.List.{take_all}
use Rattle.std.specs.Prelude.{is_some, is_none}
use Rattle.rhai_tree.specs.declared.position.Position.{Position}
use Rattle.rhai_tree.specs.declared.expr.Expr.{Expr}
use Rattle.rhai_tree.specs.Layers.{ExprLayer}
use Rattle.rhai_values.specs.declared.base.value.Dynamic.{Dynamic}
use Rattle.rhai_machine.specs.language.Links.{Link, LinkForm, AtIndex, AtProperty, AtMethod, asked_by, link_of}
use Rattle.rhai_machine.specs.language.Located.{args_behind, index_by}
use Rattle.rhai_links.specs.declared.chain.NewValue.{NewValue as CodeValue}
use Rattle.rhai_links.specs.Chains.{new_of, BehindWalks, Walks}
use Rattle.rhai_links.specs.Walking.{LinkWalks, MayEndAt}
use Rattle.rhai_links.proofs.LinkLemmas.{walks_behind}

-- all arguments but the first
abbrev pub others : {A : Type 0} → List A → List A
others xs = take (length xs - 1) (drop 1 xs)

-- the first, and the others
pub first_and_others : {A : Type 0} (xs : List A) (d v : A) → 1 ≤ length xs → v ≡ get_or xs 0 d → xs ≡ v ∷ others xs
first_and_others [] d v some is = absurd (omega arith)
first_and_others (x ∷ xs) d v some is =
    let long : length xs ≤ suc (length xs) - 1 = omega arith in
    rw (is, take_all (suc (length xs) - 1) xs long) refl

-- a link asks for so many values, and what is behind it for the others
pub link_walks : (assigned : Bool) (form : ExprLayer) (count : ℕ) (link : Link) → Walks assigned form count → link_of form ≡ Some link →
    LinkWalks assigned link count
link_walks assigned form count link walks is =
    let behind = walks_behind assigned form count link walks is in
    record { behind = behind.0; walks = behind.1; counted = behind.2 }

-- a chain that is assigned to does not end in a method
pub ends_well : (assigned : Bool) (form : LinkForm) (behind : Option ExprLayer) (count : ℕ) (name : List ℕ) (args : List Expr)
    (pos : Position) → form ≡ AtMethod name args pos → BehindWalks assigned form behind count → assigned ≡ true → is_some behind ≡ true
ends_well assigned form (Some rest) count name args pos of walks is = refl
ends_well true form None count name args pos of walks is = absurd (rw of at walks.1)
ends_well false form None count name args pos of walks is = cc

-- what stands behind a link walks with the values that are left
pub behind_counted : (assigned : Bool) (link : Link) (count left : ℕ) → LinkWalks assigned link count →
    count ≡ length (asked_by link.form) + left → BehindWalks assigned link.form link.behind left
behind_counted assigned link count left walks counts =
    let same : walks.behind ≡ left = omega (arith, walks.counted) in
    subst (λ (n : ℕ). BehindWalks assigned link.form link.behind n) same walks.walks

module _ {H : Type 0} where
  -- a chain that is assigned to goes on behind a link that it may not end in
  pub ends_by : (behind : Option ExprLayer) (new : Option (CodeValue H)) → (is_some new ≡ true → is_some behind ≡ true) →
      (is_some behind || is_none (new_of new)) ≡ true
  ends_by (Some rest) new ends = refl
  ends_by None None ends = refl
  ends_by None (Some new) ends = ends refl

  pub may_end : (form : LinkForm) (behind : Option ExprLayer) (new : Option (CodeValue H)) (count : ℕ) →
      BehindWalks (is_some new) form behind count → MayEndAt form (is_some behind || is_none (new_of new))
  may_end (AtMethod name args pos) behind new count walks =
      ends_by behind new (ends_well (is_some new) (AtMethod name args pos) behind count name args pos refl walks)
  may_end (AtIndex index) behind new count walks = tt
  may_end (AtProperty name pos) behind new count walks = tt

  -- the index of an item, and the arguments behind it
  pub index_first : (expr : Expr) (args rest : List (Dynamic H)) (index : Dynamic H) → args ≡ index ∷ rest →
      index_by (AtIndex expr) args ≡ index
  index_first expr args rest index is = rw is refl

  pub index_behind : (expr : Expr) (args rest : List (Dynamic H)) (index : Dynamic H) → args ≡ index ∷ rest →
      args_behind (AtIndex expr) args ≡ rest
  index_behind expr args rest index is = rw is refl

  pub index_left : (form : LinkForm) (expr : Expr) (args rest : List (Dynamic H)) (index : Dynamic H) → form ≡ AtIndex expr →
      args ≡ index ∷ rest → args_behind form args ≡ rest
  index_left form expr args rest index of is =
      ap (λ (f : LinkForm). args_behind f args) of ∙ index_behind expr args rest index is

  -- the arguments behind those of a method
  pub method_behind : (form : LinkForm) (name : List ℕ) (asked : List Expr) (pos : Position) (args rest : List (Dynamic H)) →
      form ≡ AtMethod name asked pos → rest ≡ drop (length asked) args → args_behind form args ≡ rest
  method_behind form name asked pos args rest of is = ap (λ (f : LinkForm). args_behind f args) of ∙ sym is

  -- a property has none
  pub named_behind : (form : LinkForm) (name : List ℕ) (pos : Position) (args : List (Dynamic H)) → form ≡ AtProperty name pos →
      args_behind form args ≡ args
  named_behind form name pos args of = ap (λ (f : LinkForm). args_behind f args) of

-- how many values a link asks for
pub asked_index : (form : LinkForm) (expr : Expr) → form ≡ AtIndex expr → length (asked_by form) ≡ 1
asked_index form expr of = ap (λ (f : LinkForm). length (asked_by f)) of

pub asked_name : (form : LinkForm) (name : List ℕ) (pos : Position) → form ≡ AtProperty name pos → length (asked_by form) ≡ 0
asked_name form name pos of = ap (λ (f : LinkForm). length (asked_by f)) of

pub asked_method : (form : LinkForm) (name : List ℕ) (asked : List Expr) (pos : Position) → form ≡ AtMethod name asked pos →
    length (asked_by form) ≡ length asked
asked_method form name asked pos of = ap (λ (f : LinkForm). length (asked_by f)) of

-- ---- what is asked is there, and what is behind a link walks with the values that are left

module _ (assigned : Bool) (link : Link) (count : ℕ) (walks : LinkWalks assigned link count) where
  pub index_there : (expr : Expr) → link.form ≡ AtIndex expr → 1 ≤ count
  index_there expr of = let asks = asked_index link.form expr of in omega (arith, asks, walks.counted)

  pub method_there : (name : List ℕ) (asked : List Expr) (pos : Position) → link.form ≡ AtMethod name asked pos → length asked ≤ count
  method_there name asked pos of = let asks = asked_method link.form name asked pos of in omega (arith, asks, walks.counted)

  pub index_walks : (expr : Expr) (left : ℕ) → link.form ≡ AtIndex expr → count ≡ 1 + left → BehindWalks assigned link.form link.behind left
  index_walks expr left of counts = behind_counted assigned link count left walks
      (let asks = asked_index link.form expr of in omega (arith, asks, counts))

  pub named_walks : (name : List ℕ) (pos : Position) → link.form ≡ AtProperty name pos → BehindWalks assigned link.form link.behind count
  named_walks name pos of = behind_counted assigned link count count walks
      (let asks = asked_name link.form name pos of in omega (arith, asks))

  pub method_walks : (name : List ℕ) (asked : List Expr) (pos : Position) (left : ℕ) → link.form ≡ AtMethod name asked pos →
      left + length asked ≡ count → BehindWalks assigned link.form link.behind left
  method_walks name asked pos left of counts = behind_counted assigned link count left walks
      (let asks = asked_method link.form name asked pos of in omega (arith, asks, counts))
