-- The first of several that may be there.
use Rattle.std.proofs.Common.{◌≡◌, Bool, true, false, Option, Some, None, is_some, refl, sym, ap, ◌∙◌}
use Rattle.std.specs.Option.{option_map, option_or}
use Rattle.std.proofs.lemmas.Bool.{false≢true}

pub none_behind : {X : Type 0} (o : Option X) → option_or o None ≡ o
none_behind None = refl
none_behind (Some x) = refl

pub some_map : {X Y : Type 0} (f : X → Y) (o : Option X) → is_some (option_map f o) ≡ is_some o
some_map f None = refl
some_map f (Some x) = refl

module _ {X Y : Type 0} (f : X → Y) where
  -- a function of a library is the first of all
  pub of_library : (a i : Option X) → is_some a ≡ true → option_map f (option_or a i) ≡ option_map f a
  of_library (Some x) i is = refl
  of_library None i is = absurd (false≢true is)

  pub in_first : (a g i n : Option X) → is_some a ≡ true →
      option_map f (option_or a i) ≡ option_map f (option_or a (option_or g (option_or i n)))
  in_first (Some x) g i n is = refl
  in_first None g i n is = absurd (false≢true is)

  pub in_second : (a g i n : Option X) (x : X) → is_some a ≡ false → g ≡ Some x →
      Some (f x) ≡ option_map f (option_or a (option_or g (option_or i n)))
  in_second (Some y) g i n x none is = absurd (false≢true (sym none))
  in_second None g i n x none is = rw is refl

  pub in_third : (a g i n : Option X) → is_some a ≡ false → g ≡ None → is_some (option_map f (option_or a i)) ≡ true →
      option_map f (option_or a i) ≡ option_map f (option_or a (option_or g (option_or i n)))
  in_third (Some y) g i n none absent is = absurd (false≢true (sym none))
  in_third None g (Some y) n none absent is = rw absent refl
  in_third None g None n none absent is = absurd (false≢true is)

  pub in_fourth : (a g i n : Option X) → is_some a ≡ false → g ≡ None → is_some (option_map f (option_or a i)) ≡ false →
      option_map f n ≡ option_map f (option_or a (option_or g (option_or i n)))
  in_fourth (Some y) g i n none absent is = absurd (false≢true (sym none))
  in_fourth None g (Some y) n none absent is = absurd (false≢true (sym is))
  in_fourth None g None n none absent is = rw absent refl

module _ {X : Type 0} where
  -- whether there is one at all
  pub found_before : (a g i n : Option X) → is_some (option_or a i) ≡ true →
      is_some (option_or a (option_or g (option_or i n))) ≡ true
  found_before (Some x) g i n is = refl
  found_before None (Some x) i n is = refl
  found_before None None (Some x) n is = refl
  found_before None None None n is = absurd (false≢true is)

  pub found_behind : (a g i n : Option X) → is_some (option_or a i) ≡ false →
      is_some (option_or a (option_or g (option_or i n))) ≡ is_some (option_or g n)
  found_behind (Some x) g i n none = absurd (false≢true (sym none))
  found_behind None (Some y) i n none = refl
  found_behind None None (Some x) n none = absurd (false≢true (sym none))
  found_behind None None None n none = refl
