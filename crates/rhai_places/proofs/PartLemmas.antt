-- Parts that a value has, and what is put back of others.
use Rattle.std.proofs.Common.{◌≡◌, ℕ, List, Bool, true, false, Some, None, Option, Result, Ok, Err, refl, sym, ap, subst, ◌∙◌, true≢false}
use Rattle.std.proofs.Common.{OnOk, IfErr, IsSome}
use Rattle.std.proofs.lemmas.Bool.{leb-true, le-leb}
use Rattle.std.proofs.lemmas.Bool.Decides.{Decides-and, Decides-ltb, same_from_decides}
use Rattle.std.specs.Prelude.{◌≤◌, Decides, nat_le, length, if◌then◌else◌}
use Rattle.std.specs.Str.{chars}
use Rattle.rhai_tree.specs.declared.position.Position.{Position}
use Rattle.rhai_values.specs.declared.base.value.Dynamic.{Dynamic}
use Rattle.rhai_values.specs.declared.base.value.FnPtrKind.TheOpen as layer
use Rattle.rhai_values.specs.Layers.{UnionLayer, layer_of}
use Rattle.rhai_values.specs.TypeNames.{own_type_name}
use Rattle.rhai_errors.specs.Errors.{is_out_of_memory, mismatch}
use Rattle.rhai_errors.specs.declared.error.EvalAltResult.{EvalAltResult}
use Rattle.rhai_spots.specs.declared.spot.Spot.{Spot}
use Rattle.rhai_spots.specs.declared.spot.Spot.TheVariants as spot
use Rattle.rhai_spots.specs.Parts.{is_part, IsPart}
use Rattle.rhai_spots.specs.PutBack.{put, put_back, wanted, IsNotPut}

Decides-leb : (a b : ℕ) → Decides (nat_le a b) (a ≤ b)
Decides-leb a b = (leb-true a b, le-leb a b)

module _ {H : Type 0} where
  -- a place and what is missing are no parts
  no_item : (source : UnionLayer H) (at : ℕ) → is_part source (spot.Item at) ≡ false
  no_item (layer.Int n) at = refl
  no_item (layer.Str text) at = refl
  no_item (layer.Blob bytes) at = refl
  no_item _ at = refl

  no_value : (source : UnionLayer H) (at : ℕ) → is_part source (spot.Value at) ≡ false
  no_value (layer.Int n) at = refl
  no_value (layer.Str text) at = refl
  no_value (layer.Blob bytes) at = refl
  no_value _ at = refl

  nothing : (source : UnionLayer H) → is_part source spot.Missing ≡ false
  nothing (layer.Int n) = refl
  nothing (layer.Str text) = refl
  nothing (layer.Blob bytes) = refl
  nothing _ = refl

  -- the test tells whether a spot is a part
  pub decided : (source : UnionLayer H) (at : Spot) → Decides (is_part source at) (IsPart source at)
  decided (layer.Int n) (spot.Bit at) = Decides-ltb at 64
  decided (layer.Int n) (spot.BitField start end) =
      Decides-and (nat_le start end) (nat_le end 64) (Decides-leb start end) (Decides-leb end 64)
  decided (layer.Str text) (spot.Char at) = Decides-ltb at (length (chars text))
  decided (layer.Str text) (spot.Slice start end) = Decides-leb start end
  decided (layer.Blob bytes) (spot.Byte at) = Decides-ltb at (length bytes)
  decided source (spot.Item at) = (λ e. absurd (true≢false (sym e ∙ no_item source at)), λ p. absurd p)
  decided source (spot.Value at) = (λ e. absurd (true≢false (sym e ∙ no_value source at)), λ p. absurd p)
  decided source spot.Missing = (λ e. absurd (true≢false (sym e ∙ nothing source)), λ p. absurd p)
  decided source (spot.Bit at) = (λ e. cc, λ p. absurd p)
  decided source (spot.BitField start end) = (λ e. cc, λ p. absurd p)
  decided source (spot.Char at) = (λ e. cc, λ p. absurd p)
  decided source (spot.Slice start end) = (λ e. cc, λ p. absurd p)
  decided source (spot.Byte at) = (λ e. cc, λ p. absurd p)

  by_test : (source : Dynamic H) (at : Spot) (part : Dynamic H) → is_part (layer_of source) at ≡ true →
      put_back source at part ≡ put source at (layer_of part)
  by_test source at part is = ap (λ t. if t then put source at (layer_of part) else Some source) is

  -- a part that is there goes back
  pub put_is : (source : Dynamic H) (at : Spot) (part : Dynamic H) → IsPart (layer_of source) at →
      put_back source at part ≡ put source at (layer_of part)
  put_is source at part there = by_test source at part ((decided (layer_of source) at).1 there)

  -- and one that is not leaves the value
  pub put_nowhere : (source : Dynamic H) (at : Spot) (part : Dynamic H) → is_part (layer_of source) at ≡ false →
      put_back source at part ≡ Some source
  put_nowhere source at part is = ap (λ t. if t then put source at (layer_of part) else Some source) is

  -- ---- what is told of a part that a value has, told of any

  module _ (source : Dynamic H) (at : Spot) (part : Dynamic H) (there : IsPart (layer_of source) at) where
    pub goes_back : (r : Result (Unit {0}) (EvalAltResult H)) (new : Dynamic H) → OnOk r (put source at (layer_of part) ≡ Some new) →
        OnOk r (put_back source at part ≡ Some new)
    goes_back (Ok done) new is = put_is source at part there ∙ is
    goes_back (Err e) new is = tt

    pub is_refused : (name : H → List ℕ) (position : Position) (r : Result (Unit {0}) (EvalAltResult H)) →
        IfErr r (λ e. is_out_of_memory e ≡ false → (put source at (layer_of part) ≡ None) ×
        (e ≡ mismatch (wanted at) (own_type_name name part.value) position)) → IfErr r (λ e. IsNotPut name source at part position e)
    is_refused name position (Ok done) is = tt
    is_refused name position (Err e) is = λ told. (put_is source at part there ∙ (is told).0, (is told).1)

    pub is_some : IsSome (put_back source at part) → IsSome (put source at (layer_of part))
    is_some some = subst (λ (o : Option (Dynamic H)). IsSome o) (put_is source at part there) some

  -- ---- what is told of a target

  -- it is put back, as far as its place has the part
  pub propagates : (source : Dynamic H) (at : Spot) (part : Dynamic H) (test : Bool) → Decides test (IsPart (layer_of source) at) →
      test ≡ false → put_back source at part ≡ Some source
  propagates source at part test decides is =
      put_nowhere source at part (same_from_decides (is_part (layer_of source) at) test (decided (layer_of source) at) decides ∙ is)
