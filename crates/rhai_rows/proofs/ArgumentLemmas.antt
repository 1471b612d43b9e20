-- Two arguments, of which the first is known, are a call.
use Rattle.std.proofs.Common.{◌≡◌, ◌≤◌, ◌<◌, ℕ, List, [], ◌∷◌, length, map, slice_index_or, sym, ap, ◌∙◌, arith, inr, codes}
use Rattle.rhai_rows.specs.Arguments.{IsCall}

pub two_words : {A : Type 0} (text : A → List ℕ) (words : List A) (first : A) → 2 ≤ length words → length words < 3 →
    first ≡ slice_index_or words 0 first → text first ≡ codes "row" → IsCall (map text words)
two_words text [] first least below is named = absurd (omega arith)
two_words text (word ∷ []) first least below is named = absurd (omega arith)
two_words text (word ∷ row ∷ []) first least below is named = inr (text row, ap (λ t. t ∷ text row ∷ []) (ap text (sym is) ∙ named))
two_words text (word ∷ row ∷ next ∷ words) first least below is named = absurd (omega arith)
