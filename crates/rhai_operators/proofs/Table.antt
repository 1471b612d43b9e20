-- An operand of another type than the first has no row of its own: the last row of the table holds.
use Rattle.std.proofs.Common.{◌≡◌, ℕ, ℤ, Bool, List, refl}
use Rattle.rhai_tree.specs.declared.token.Token.{Token}
use Rattle.rhai_values.specs.declared.base.value.Union.{Union}
use Rattle.rhai_values.specs.declared.base.value.Union.TheVariants as value
use Rattle.rhai_operators.specs.Compare.{type_of, differ}
use Rattle.rhai_operators.specs.Operators.{binary_at, of_types}

module _ {H : Type 0} where
  -- the last row
  abbrev pub by_types : Token → Union H → Union H → Type 0
  by_types op x y = binary_at op x y ≡ of_types (differ (type_of x) (type_of y)) op

  pub beside_integer : (op : Token) (m : ℤ) (y : Union H) → ((n : ℤ) → y ≡ value.Int n → ⊥) → by_types op (value.Int m) y
  beside_integer op m (value.Int n) other = absurd (other n refl)
  beside_integer op m _ other = refl

  pub beside_truth : (op : Token) (m : Bool) (y : Union H) → ((n : Bool) → y ≡ value.Bool n → ⊥) → by_types op (value.Bool m) y
  beside_truth op m (value.Bool n) other = absurd (other n refl)
  beside_truth op m _ other = refl

  pub beside_character : (op : Token) (m : ℕ) (y : Union H) → ((n : ℕ) → y ≡ value.Char n → ⊥) → ((n : List ℕ) → y ≡ value.Str n → ⊥) →
      by_types op (value.Char m) y
  beside_character op m (value.Char n) other text = absurd (other n refl)
  beside_character op m (value.Str n) other text = absurd (text n refl)
  beside_character op m _ other text = refl

  pub beside_text : (op : Token) (m : List ℕ) (y : Union H) → ((n : ℕ) → y ≡ value.Char n → ⊥) → ((n : List ℕ) → y ≡ value.Str n → ⊥) →
      by_types op (value.Str m) y
  beside_text op m (value.Char n) other text = absurd (other n refl)
  beside_text op m (value.Str n) other text = absurd (text n refl)
  beside_text op m _ other text = refl

  pub beside_unit : (op : Token) (y : Union H) → (y ≡ value.Unit → ⊥) → by_types op value.Unit y
  beside_unit op value.Unit other = absurd (other refl)
  beside_unit op _ other = refl
