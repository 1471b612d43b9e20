-- A text cut between two of its characters.
use Rattle.std.proofs.Common.{◌≡◌, ℕ, zero, suc, ◌+◌, ◌-◌, ◌<◌, ◌≤◌, Bool, true, false, ◌&&◌, List, [], ◌∷◌, ◌++◌, refl, sym, ap, ◌∙◌}
use Rattle.std.proofs.Common.{length, take, drop, set, get_or, arith, add-one, length-append, append-nil, take-append-drop}
use Rattle.std.proofs.Math.Seq.{take-suc, take-append_seam, drop-append_seam}
use Rattle.std.proofs.lemmas.List.{take_all, drop-drop}
use Rattle.std.proofs.lemmas.Str.{encodes-chars, scalars-chars, chars-encodes, encodes-append, IsCharBoundary-at_seam, length-encode}
use Rattle.std.proofs.lemmas.Str.{length-le-encodes}
use Rattle.rhai_spots.specs.Characters.{with_char, with_slice}
use Rattle.std.specs.Char.{encode_utf8, len_utf8}
use Rattle.std.specs.Str.{chars, encode_utf8_all, all_scalars, IsUtf8, IsCharBoundary}

second : (a b : Bool) → (a && b) ≡ true → b ≡ true
second true b e = e
second false b e = cc

scalars-drop : (n : ℕ) (cs : List ℕ) → all_scalars cs ≡ true → all_scalars (drop n cs) ≡ true
scalars-drop zero cs e = e
scalars-drop (suc n) [] e = e
scalars-drop (suc n) (c ∷ cs) e = scalars-drop n cs (second _ _ e)

pub drop-rest : (start end : ℕ) (cs : List ℕ) → start ≤ end → drop (end - start) (drop start cs) ≡ drop end cs
drop-rest start end cs le = drop-drop (end - start) start cs ∙ ap (λ n. drop n cs) (let n : start + (end - start) ≡ end = omega arith in n)

set-split : (cs : List ℕ) (at c : ℕ) → at < length cs → set cs at c ≡ (take at cs ++ (c ∷ [])) ++ drop (at + 1) cs
set-split [] at c lt = absurd (omega arith)
set-split (x ∷ cs) zero c lt = refl
set-split (x ∷ cs) (suc at) c lt = ap (λ rest. x ∷ rest) (set-split cs at c (omega arith))
    ∙ ap (λ n. (x ∷ take at cs ++ (c ∷ [])) ++ drop n (x ∷ cs)) (let n : suc (at + 1) ≡ suc at + 1 = omega arith in n)

module _ (text : List ℕ) (utf8 : IsUtf8 text) where
  -- the text is its first characters and then the others
  seam : (n : ℕ) → text ≡ encode_utf8_all (take n (chars text)) ++ encode_utf8_all (drop n (chars text))
  seam n = sym (encodes-chars text utf8) ∙ ap encode_utf8_all (sym (take-append-drop n (chars text)))
      ∙ encodes-append (take n (chars text)) (drop n (chars text))

  pub front_is : (n : ℕ) → take (length (encode_utf8_all (take n (chars text)))) text ≡ encode_utf8_all (take n (chars text))
  front_is n = ap (take (length (encode_utf8_all (take n (chars text))))) (seam n)
      ∙ take-append_seam (encode_utf8_all (take n (chars text))) (encode_utf8_all (drop n (chars text)))

  pub back_is : (n : ℕ) → drop (length (encode_utf8_all (take n (chars text)))) text ≡ encode_utf8_all (drop n (chars text))
  back_is n = ap (drop (length (encode_utf8_all (take n (chars text))))) (seam n)
      ∙ drop-append_seam (encode_utf8_all (take n (chars text))) (encode_utf8_all (drop n (chars text)))

  pub boundary_is : (n : ℕ) → IsCharBoundary text (length (encode_utf8_all (take n (chars text))))
  boundary_is n = IsCharBoundary-at_seam text (encode_utf8_all (take n (chars text))) (encode_utf8_all (drop n (chars text))) (seam n)
      (drop n (chars text), (scalars-drop n (chars text) (scalars-chars text utf8), refl))

  pub within : (n : ℕ) → length (encode_utf8_all (take n (chars text))) ≤ length text
  within n = let e = ap length (seam n) ∙ length-append (encode_utf8_all (take n (chars text)))
      (encode_utf8_all (drop n (chars text))) in omega (arith, e)

  -- one character further
  pub one_more : (n c : ℕ) → (n < length (chars text)) × (c ≡ get_or (chars text) n c) →
      length (encode_utf8_all (take n (chars text))) + len_utf8 c ≡ length (encode_utf8_all (take (n + 1) (chars text)))
  one_more n c h =
      rw add-one (sym (ap (λ cs. length (encode_utf8_all cs))
      (take-suc (chars text) n c h.0 ∙ ap (λ x. take n (chars text) ++ (x ∷ [])) (sym h.1))
      ∙ ap length (encodes-append (take n (chars text)) (c ∷ []))
      ∙ length-append (encode_utf8_all (take n (chars text))) (encode_utf8_all (c ∷ []))
      ∙ ap (λ m. length (encode_utf8_all (take n (chars text))) + m) (ap length (append-nil (encode_utf8 c)) ∙ length-encode c)))

  -- as many characters as there are, or more, are the whole text
  pub all : (n : ℕ) → length (chars text) ≤ n → encode_utf8_all (take n (chars text)) ≡ text
  all n le = ap encode_utf8_all (take_all n (chars text) le) ∙ encodes-chars text utf8

  -- there are no more characters than bytes
  pub fewer : length (chars text) ≤ length text
  fewer = let e : encode_utf8_all (chars text) ≡ text = encodes-chars text utf8 in
      let le : length (chars text) ≤ length (encode_utf8_all (chars text)) = length-le-encodes (chars text) in
      omega (arith, ap length e)

  -- where a cut stands
  pub boundary_at : (n offset : ℕ) → offset ≡ length (encode_utf8_all (take n (chars text))) → IsCharBoundary text offset
  boundary_at n offset e = rw e (boundary_is n)

  pub front_at : (n offset : ℕ) → offset ≡ length (encode_utf8_all (take n (chars text))) →
      take offset text ≡ encode_utf8_all (take n (chars text))
  front_at n offset e = ap (λ m. take m text) e ∙ front_is n

  pub back_at : (n offset : ℕ) → offset ≡ length (encode_utf8_all (take n (chars text))) →
      drop offset text ≡ encode_utf8_all (drop n (chars text))
  back_at n offset e = ap (λ m. drop m text) e ∙ back_is n

  -- two cuts at the end
  pub at_end : (m n : ℕ) → length (chars text) ≤ m → length (chars text) ≤ n →
      length (encode_utf8_all (take m (chars text))) ≡ length (encode_utf8_all (take n (chars text)))
  at_end m n le more = ap length (all m le ∙ sym (all n more))

  -- what stands from a cut on, as characters
  pub rest_chars : (n offset : ℕ) (rest : List ℕ) → rest ≡ drop offset text → drop offset text ≡ encode_utf8_all (drop n (chars text)) →
      chars rest ≡ drop n (chars text)
  rest_chars n offset rest is cut =
      ap chars (is ∙ cut) ∙ chars-encodes (drop n (chars text)) (scalars-drop n (chars text) (scalars-chars text utf8))

  -- a text with another character at a position
  pub char_put : (at c : ℕ) → at < length (chars text) →
      encode_utf8_all (take at (chars text)) ++ encode_utf8 c ++ encode_utf8_all (drop (at + 1) (chars text)) ≡ with_char text at c
  char_put at c lt =
      ap (λ one. encode_utf8_all (take at (chars text)) ++ one ++ encode_utf8_all (drop (at + 1) (chars text)))
      (sym (append-nil (encode_utf8 c)))
      ∙ ap (λ front. front ++ encode_utf8_all (drop (at + 1) (chars text))) (sym (encodes-append (take at (chars text)) (c ∷ [])))
      ∙ sym (encodes-append (take at (chars text) ++ (c ∷ [])) (drop (at + 1) (chars text)))
      ∙ ap encode_utf8_all (sym (set-split (chars text) at c lt))

  -- a text with others instead of some of its characters
  pub slice_put : (start end : ℕ) (new : List ℕ) → IsUtf8 new →
      encode_utf8_all (take start (chars text)) ++ new ++ encode_utf8_all (drop end (chars text)) ≡ with_slice text start end new
  slice_put start end new utf8_new =
      ap (λ middle. encode_utf8_all (take start (chars text)) ++ middle ++ encode_utf8_all (drop end (chars text)))
      (sym (encodes-chars new utf8_new))
      ∙ ap (λ front. front ++ encode_utf8_all (drop end (chars text))) (sym (encodes-append (take start (chars text)) (chars new)))
      ∙ sym (encodes-append (take start (chars text) ++ chars new) (drop end (chars text)))
