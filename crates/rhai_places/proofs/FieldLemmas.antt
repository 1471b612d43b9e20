-- An integer with other bits from one up to another, by its bits.
use Rattle.std.proofs.Common.{◌≡◌, ℕ, ◌+◌, ◌-◌, ◌*◌, ◌%◌, ◌^◌, ◌<◌, ◌≤◌, inl, inr, Bool, false, if◌then◌else◌, List, ◌++◌, sym, ap, ◌∙◌}
use Rattle.std.proofs.Common.{length, take, drop, get_or, arith, append-nil, take-append-drop, length-append, length-drop, length-take}
use Rattle.std.proofs.Common.{min, max, bit_and, bit_or, pow_pos}
use Rattle.std.specs.Int.{bit_at, bit_not, w64}
use Rattle.std.specs.List.{replace_range}
use Rattle.std.proofs.Math.Pow.{pow_mono}
use Rattle.std.proofs.Math.Seq.{get_or-append_right}
use Rattle.std.proofs.lemmas.Bool.{cases_lt}
use Rattle.std.proofs.lemmas.Nat.{or_lt, and_le_l, and_le_r, and_mask}
use Rattle.std.proofs.lemmas.Nat.Bits.{bit_at-lt, bit_at_and, bit_at_or, bit_at_not, bit_at_ones, bit_at_cat_high, bit_at_mask_inside}
use Rattle.std.proofs.lemmas.Nat.Bits.{bit_at_mask_below, bit_at_mask_above}
use Rattle.std.proofs.lemmas.List.{get_or-take, get_or-drop, get_or_append_left}
use Rattle.rhai_spots.specs.Bits.{digits, number}
use Rattle.rhai_places.proofs.BitsLemmas.{length-digits, number_is, digit_is}

bit_at-wrapped : (n i : ℕ) → i < 64 → bit_at (n % 2 ^ 64) i ≡ bit_at n i
bit_at-wrapped n i less =
    ap (λ m. bit_at m i) (sym (and_mask n 64)) ∙ bit_at_and n (2 ^ 64 - 1) i
    ∙ (let one : bit_at (2 ^ 64 - 1) i ≡ 1 = bit_at_ones 64 i less in
    let small : bit_at n i < 2 = bit_at-lt n i in
    let least : min (bit_at n i) (bit_at (2 ^ 64 - 1) i) ≡ bit_at n i = omega arith in least)

-- a number shifted up by so many bits
bit_at-raised : (v s i : ℕ) → s ≤ i → i < 64 → bit_at (v * 2 ^ s % 2 ^ 64) i ≡ bit_at v (i - s)
bit_at-raised v s i le less =
    bit_at-wrapped (v * 2 ^ s) i less ∙ ap (λ m. bit_at m i) (let none : v * 2 ^ s ≡ v * 2 ^ s + 0 = omega arith in none)
    ∙ bit_at_cat_high v s 0 i (pow_pos s) le

module _ (u v s e : ℕ) (ordered : s ≤ e) (within : e ≤ 64) (fits : u < 2 ^ 64) where
  abbrev mask : ℕ
  mask = 2 ^ e - 2 ^ s

  abbrev pub merged : ℕ
  merged = bit_or (bit_and u (bit_not w64 mask)) (bit_and (v * 2 ^ s % 2 ^ 64) mask)

  abbrev replaced : List Bool
  replaced = replace_range (digits 64 u) s e (take (e - s) (digits 64 v))

  mask-fits : mask < 2 ^ 64
  mask-fits = let top : 2 ^ e ≤ 2 ^ 64 = pow_mono within in let low : 0 < 2 ^ s = pow_pos s in omega arith

  pub merged-fits : merged < 2 ^ 64
  merged-fits = or_lt 64 (bit_and u (bit_not w64 mask)) (bit_and (v * 2 ^ s % 2 ^ 64) mask)
      (let less : bit_and u (bit_not w64 mask) ≤ u = and_le_l u _ in omega arith)
      (let less : bit_and (v * 2 ^ s % 2 ^ 64) mask ≤ mask = and_le_r _ mask in let m : mask < 2 ^ 64 = mask-fits in omega arith)

  length-replaced : length replaced ≡ 64
  length-replaced = simp (length-append, length-take, length-drop, length-digits) (omega arith)

  kept : (i : ℕ) → i < 64 → bit_at (bit_and u (bit_not w64 mask)) i ≡ min (bit_at u i) (1 - bit_at mask i)
  kept i less = bit_at_and u (bit_not w64 mask) i ∙ ap (λ b. min (bit_at u i) b) (bit_at_not w64 mask i mask-fits less)

  bit_at-merged : (i : ℕ) → i < 64 → bit_at merged i ≡ max (min (bit_at u i) (1 - bit_at mask i))
      (min (bit_at (v * 2 ^ s % 2 ^ 64) i) (bit_at mask i))
  bit_at-merged i less = bit_at_or _ _ i ∙ (λ k. max (kept i less k) (bit_at_and (v * 2 ^ s % 2 ^ 64) mask i k))

  -- outside the field
  outside : (i : ℕ) → i < 64 → bit_at mask i ≡ 0 → bit_at merged i ≡ bit_at u i
  outside i less none =
      let small : bit_at u i < 2 = bit_at-lt u i in
      bit_at-merged i less ∙ (let e : max (min (bit_at u i) (1 - bit_at mask i))
      (min (bit_at (v * 2 ^ s % 2 ^ 64) i) (bit_at mask i)) ≡ bit_at u i = omega arith in e)

  -- inside the field
  inside : (i : ℕ) → s ≤ i → i < e → bit_at merged i ≡ bit_at v (i - s)
  inside i le less =
      let one : bit_at mask i ≡ 1 = bit_at_mask_inside s e i le less in
      let small : bit_at (v * 2 ^ s % 2 ^ 64) i < 2 = bit_at-lt (v * 2 ^ s % 2 ^ 64) i in
      bit_at-merged i (omega arith)
      ∙ (let e : max (min (bit_at u i) (1 - bit_at mask i)) (min (bit_at (v * 2 ^ s % 2 ^ 64) i) (bit_at mask i)) ≡ bit_at
      (v * 2 ^ s % 2 ^ 64) i = omega arith in e)
      ∙ bit_at-raised v s i le (omega arith)

  length-front : length (take s (digits 64 u)) ≡ s
  length-front = simp (length-take, length-digits) (omega arith)

  length-fronts : length (take s (digits 64 u) ++ take (e - s) (digits 64 v)) ≡ e
  length-fronts = simp (length-append, length-take, length-digits) (omega arith)

  at_front : (i : ℕ) → i < s → get_or replaced i false ≡ get_or (digits 64 u) i false
  at_front i less =
      get_or_append_left (take s (digits 64 u) ++ take (e - s) (digits 64 v)) (drop e (digits 64 u)) false i
      (rw length-fronts (omega arith))
      ∙ get_or_append_left (take s (digits 64 u)) (take (e - s) (digits 64 v)) false i (rw length-front less)
      ∙ get_or-take s (digits 64 u) i false less

  at_field : (i : ℕ) → s ≤ i → i < e → get_or replaced i false ≡ get_or (digits 64 v) (i - s) false
  at_field i le less =
      get_or_append_left (take s (digits 64 u) ++ take (e - s) (digits 64 v)) (drop e (digits 64 u)) false i (rw length-fronts less)
      ∙ get_or-append_right (take s (digits 64 u)) (take (e - s) (digits 64 v)) i false (rw length-front le)
      ∙ ap (λ n. get_or (take (e - s) (digits 64 v)) (i - n) false) length-front
      ∙ get_or-take (e - s) (digits 64 v) (i - s) false (omega arith)

  at_rest : (i : ℕ) → e ≤ i → get_or replaced i false ≡ get_or (digits 64 u) i false
  at_rest i le =
      get_or-append_right (take s (digits 64 u) ++ take (e - s) (digits 64 v)) (drop e (digits 64 u)) i false (rw length-fronts le)
      ∙ ap (λ n. get_or (drop e (digits 64 u)) (i - n) false) length-fronts
      ∙ get_or-drop e (digits 64 u) (i - e) false
      ∙ ap (λ n. get_or (digits 64 u) n false) (let n : e + (i - e) ≡ i = omega arith in n)

  each_bit : (i : ℕ) → i < 64 → bit_at merged i ≡ (if get_or replaced i false then 1 else 0)
  each_bit i less = elim (cases_lt i s) as (λ _. bit_at merged i ≡ (if get_or replaced i false then 1 else 0)) [
    | inl before ↦ outside i less (bit_at_mask_below s e i before) ∙ digit_is 64 u i less
        ∙ ap (λ b. if b then 1 else 0) (sym (at_front i before))
    | inr from ↦ elim (cases_lt i e) as (λ _. bit_at merged i ≡ (if get_or replaced i false then 1 else 0)) [
      | inl within_field ↦ inside i from within_field ∙ digit_is 64 v (i - s) (omega arith)
          ∙ ap (λ b. if b then 1 else 0) (sym (at_field i from within_field))
      | inr after ↦ outside i less (bit_at_mask_above s e i after) ∙ digit_is 64 u i less
          ∙ ap (λ b. if b then 1 else 0) (sym (at_rest i after))
    ]
  ]

  pub merged_is : merged ≡ number replaced
  merged_is = number_is 64 merged replaced length-replaced merged-fits each_bit

-- an empty field changes nothing
pub replaced-none : (some : List Bool) (s e : ℕ) (v : List Bool) → s ≡ e → replace_range some s e (take (e - s) v) ≡ some
replaced-none some s e v same =
    ap (λ n. take s some ++ take n v ++ drop e some) (let none : e - s ≡ 0 = omega arith in none)
    ∙ ap (λ front. front ++ drop e some) (append-nil (take s some))
    ∙ ap (λ n. take s some ++ drop n some) (sym same)
    ∙ take-append-drop s some
