-- A native has one response.
use Rattle.std.proofs.Common.{◌≡◌, Option, Some, None, refl, sym, ap, subst, ◌∙◌}
use Rattle.rhai_natives.specs.declared.response.Response.{Response}
use Rattle.rhai_natives.specs.declared.response.Response.TheVariants as response
use Rattle.rhai_natives.specs.Responses.{HasMemory, IsAnswered, AreAnswered}
use Rattle.rhai_twins.specs.Responses.{BothRespond}

module _ {H : Type 0} where
  answered : (got wanted : Response H) → IsAnswered got wanted → HasMemory got → got ≡ wanted
  answered response.NoMemory wanted is had = absurd had
  answered _ wanted is had = is

  one_response : (wanted r s : Option (Response H)) → AreAnswered r wanted → AreAnswered s wanted → BothRespond r s → r ≡ s
  one_response None None None a b had = refl
  one_response None None (Some y) a b had = absurd b
  one_response None (Some x) s a b had = absurd a
  one_response (Some w) None s a b had = absurd a
  one_response (Some w) (Some x) None a b had = absurd b
  one_response (Some w) (Some x) (Some y) a b had = ap (λ z. Some z) (answered x w a had.0 ∙ sym (answered y w b had.1))

  pub response_once : {S : Type 0} (wanted : S → Option (Response H)) (x y : S) (r s : Option (Response H)) → x ≡ y →
      AreAnswered r (wanted x) → AreAnswered s (wanted y) → BothRespond r s → r ≡ s
  response_once {S} wanted x y r s same a b =
      let P : S → Type 0 = λ z. AreAnswered s (wanted z) in
      one_response (wanted x) r s a (subst P (sym same) b)
