-- Binary digits, and the numbers that they make, by their bits.
use Rattle.std.proofs.Common.{◌≡◌, ℕ, zero, suc, ◌+◌, ◌-◌, ◌*◌, ◌/◌, ◌%◌, ◌^◌, ◌<◌, ◌≤◌, Bool, true, false, ◌==◌, if◌then◌else◌, List, []}
use Rattle.std.proofs.Common.{◌∷◌, refl, sym, ap, pow-suc, ◌∙◌, length, drop, get_or, arith, length-drop}
use Rattle.std.proofs.Common.{inl, inr, set, bit_and, bit_or}
use Rattle.std.proofs.Math.Nat.{div-div-eq-div-mul}
use Rattle.std.proofs.lemmas.Bool.{cases_eq, ne_eqb, eq-eqb}
use Rattle.std.proofs.lemmas.Nat.{or_lt, and_le_l, and_mask}
use Rattle.std.proofs.lemmas.List.{length-set, get_or-set_same, get_or-set_other, get_or-take, get_or-drop, take_all}
use Rattle.std.proofs.Common.{pow-add, pow_pos, length-take, mod-lt, min}
use Rattle.std.specs.Int.{bit_at, bit_not, w64, cast_signed, cast_unsigned}
use Rattle.std.proofs.Common.{ℤ, pos, SFits}
use Rattle.std.proofs.lemmas.Int.{of_z-to_z, to_z-of_z, to_z_pos}
use Rattle.std.proofs.Math.Facts.{Fits-of_z}
use Rattle.std.proofs.Math.Pow.{pow_mono}
use Rattle.std.specs.List.{slice_range}
use Rattle.std.proofs.lemmas.Nat.Bits.{bit_at-zero, bit_at-suc, bit_at_lowest, bit_at-lt, bit_at_and, bit_at_ones, bit_at_set_same}
use Rattle.std.proofs.lemmas.Nat.Bits.{bit_at_set_other, bit_at_clear_same, bit_at_clear_other, same_from_bits_below}
use Rattle.rhai_spots.specs.Bits.{digits, number, bits, integer, field, field_of}

one_or_none : (x : ℕ) → x < 2 → (if x == 1 then 1 else 0) ≡ x
one_or_none zero lt = refl
one_or_none (suc zero) lt = refl
one_or_none (suc (suc x)) lt = absurd (omega arith)

pub digit_at : (k n i : ℕ) (d : Bool) → i < k → get_or (digits k n) i d ≡ (bit_at n i == 1)
unfolding digits
digit_at zero n i d lt = absurd (omega arith)
digit_at (suc k) n zero d lt = ap (λ x. x == 1) (sym (bit_at_lowest n))
digit_at (suc k) n (suc i) d lt = digit_at k (n / 2) i d (omega arith) ∙ ap (λ x. x == 1) (sym (bit_at-suc n i))

pub length-digits : (k n : ℕ) → length (digits k n) ≡ k
unfolding digits
length-digits zero n = refl
length-digits (suc k) n = ap suc (length-digits k (n / 2))

pub number-lt : (some : List Bool) → number some < 2 ^ length some
number-lt [] = omega arith
number-lt (true ∷ rest) = let less : number rest < 2 ^ length rest = number-lt rest in rw pow-suc (omega arith)
number-lt (false ∷ rest) = let less : number rest < 2 ^ length rest = number-lt rest in rw pow-suc (omega arith)

pub bit_at-number : (some : List Bool) (i : ℕ) → bit_at (number some) i ≡ (if get_or some i false then 1 else 0)
bit_at-number [] i = bit_at-zero i
bit_at-number (true ∷ rest) zero = bit_at_lowest _ ∙ (let odd : (1 + 2 * number rest) % 2 ≡ 1 = omega arith in odd)
bit_at-number (false ∷ rest) zero = bit_at_lowest _ ∙ (let even : (0 + 2 * number rest) % 2 ≡ 0 = omega arith in even)
bit_at-number (true ∷ rest) (suc i) =
    bit_at-suc (1 + 2 * number rest) i ∙ ap (λ m. bit_at m i) (let half : (1 + 2 * number rest) / 2 ≡ number rest = omega arith in half)
    ∙ bit_at-number rest i
bit_at-number (false ∷ rest) (suc i) =
    bit_at-suc (0 + 2 * number rest) i ∙ ap (λ m. bit_at m i) (let half : (0 + 2 * number rest) / 2 ≡ number rest = omega arith in half)
    ∙ bit_at-number rest i

-- a number of so many bits is what digits make that are its bits
pub number_is : (k n : ℕ) (some : List Bool) → length some ≡ k → n < 2 ^ k →
    ((i : ℕ) → i < k → bit_at n i ≡ (if get_or some i false then 1 else 0)) → n ≡ number some
number_is k n some len lt same = same_from_bits_below k n (number some) lt (let less = number-lt some in rw len at less)
    (λ i below. same i below ∙ sym (bit_at-number some i))

-- all digits of a number make it
pub number-digits : (k n : ℕ) → n < 2 ^ k → number (digits k n) ≡ n
number-digits k n lt = sym (number_is k n (digits k n) (length-digits k n) lt
    (λ i below. sym (one_or_none (bit_at n i) (bit_at-lt n i)) ∙ ap (λ b. if b then 1 else 0) (sym (digit_at k n i false below))))

-- a digit of a number as 0 or 1
pub digit_is : (k n i : ℕ) → i < k → bit_at n i ≡ (if get_or (digits k n) i false then 1 else 0)
digit_is k n i below = sym (one_or_none (bit_at n i) (bit_at-lt n i)) ∙ ap (λ b. if b then 1 else 0) (sym (digit_at k n i false below))

-- a number as it is stored signed and read again
pub stored : (r : ℤ) (x : ℕ) → r ≡ cast_signed w64 x → x < 2 ^ 64 → cast_signed w64 (cast_unsigned w64 r) ≡ cast_signed w64 x
stored r x e fits = ap (λ z. cast_signed w64 (cast_unsigned w64 z)) e ∙ ap (cast_signed w64) (of_z-to_z w64 x fits)

-- an integer as it is read
pub read : (n : ℤ) (u : ℕ) → SFits w64 n → u ≡ cast_unsigned w64 (cast_signed w64 (cast_unsigned w64 n)) → u ≡ cast_unsigned w64 n
read n u fits e = e ∙ ap (cast_unsigned w64) (to_z-of_z w64 n fits)

module _ (u at : ℕ) (fits : u < 2 ^ 64) (within : at < 64) where
  pub set_on_fits : bit_or u (1 * 2 ^ at % 2 ^ 64) < 2 ^ 64
  set_on_fits = or_lt 64 u _ fits (omega arith)

  pub set_off_fits : bit_and u (bit_not w64 (1 * 2 ^ at % 2 ^ 64)) < 2 ^ 64
  set_off_fits = let less : bit_and u (bit_not w64 (1 * 2 ^ at % 2 ^ 64)) ≤ u = and_le_l u _ in omega arith

  pub set_on : bit_or u (1 * 2 ^ at % 2 ^ 64) ≡ number (set (digits 64 u) at true)
  set_on = number_is 64 _ (set (digits 64 u) at true) (length-set (digits 64 u) at true ∙ length-digits 64 u) set_on_fits
      (λ i below. elim (cases_eq i at) as (λ _. bit_at (bit_or u (1 * 2 ^ at % 2 ^ 64))
      i ≡ (if get_or (set (digits 64 u) at true) i false then 1 else 0)) [
        | inl e ↦ rw e (bit_at_set_same w64 u at within ∙ ap (λ b. if b then 1 else 0)
            (sym (get_or-set_same (digits 64 u) at true false (rw (length-digits 64 u) within))))
        | inr ne ↦ bit_at_set_other w64 u at within i ne ∙ digit_is 64 u i below
            ∙ ap (λ b. if b then 1 else 0) (sym (get_or-set_other (digits 64 u) at i true false ne))
      ])

  pub set_off : bit_and u (bit_not w64 (1 * 2 ^ at % 2 ^ 64)) ≡ number (set (digits 64 u) at false)
  set_off = number_is 64 _ (set (digits 64 u) at false) (length-set (digits 64 u) at false ∙ length-digits 64 u) set_off_fits
      (λ i below. elim (cases_eq i at) as (λ _. bit_at (bit_and u (bit_not w64 (1 * 2 ^ at % 2 ^ 64)))
      i ≡ (if get_or (set (digits 64 u) at false) i false then 1 else 0)) [
        | inl e ↦ rw e (bit_at_clear_same w64 u at within ∙ ap (λ b. if b then 1 else 0)
            (sym (get_or-set_same (digits 64 u) at false false (rw (length-digits 64 u) within))))
        | inr ne ↦ bit_at_clear_other w64 u at within i below ne ∙ digit_is 64 u i below
            ∙ ap (λ b. if b then 1 else 0) (sym (get_or-set_other (digits 64 u) at i false false ne))
      ])

bit_at-shifted : (u s i : ℕ) → bit_at (u / 2 ^ s) i ≡ bit_at u (s + i)
bit_at-shifted u s i = ap (λ x. x % 2) (div-div-eq-div-mul u (2 ^ s) (2 ^ i) ∙ ap (λ p. u / p) (sym (pow-add 2 s i)))

module _ (u s e : ℕ) (ordered : s ≤ e) (within : e ≤ 64) where
  pub length-slice : length (slice_range (digits 64 u) s e) ≡ e - s
  length-slice = simp (length-take, length-drop, length-digits) (omega arith)

  slice_at : (i : ℕ) → i < e - s → get_or (slice_range (digits 64 u) s e) i false ≡ get_or (digits 64 u) (s + i) false
  slice_at i less = get_or-take (e - s) (drop s (digits 64 u)) i false less ∙ get_or-drop s (digits 64 u) i false

  pub masked-lt : bit_and (u / 2 ^ s) (2 ^ (e - s) - 1) < 2 ^ (e - s)
  masked-lt = rw and_mask (mod-lt (u / 2 ^ s) (pow_pos (e - s)))

  pub masked-fits : bit_and (u / 2 ^ s) (2 ^ (e - s) - 1) < 2 ^ 64
  masked-fits =
      let small : bit_and (u / 2 ^ s) (2 ^ (e - s) - 1) < 2 ^ (e - s) = masked-lt in
      let top : 2 ^ (e - s) ≤ 2 ^ 64 = pow_mono (let width : e - s ≤ 64 = omega arith in width) in omega arith

  pub masked_is : bit_and (u / 2 ^ s) (2 ^ (e - s) - 1) ≡ number (slice_range (digits 64 u) s e)
  masked_is = number_is (e - s) _ (slice_range (digits 64 u) s e) length-slice masked-lt
      (λ i less. bit_at_and (u / 2 ^ s) (2 ^ (e - s) - 1) i
      ∙ (let ones : bit_at (2 ^ (e - s) - 1) i ≡ 1 = bit_at_ones (e - s) i less in
      let small : bit_at (u / 2 ^ s) i < 2 = bit_at-lt (u / 2 ^ s) i in
      let least : min (bit_at (u / 2 ^ s) i) (bit_at (2 ^ (e - s) - 1) i) ≡ bit_at (u / 2 ^ s) i = omega arith in least)
      ∙ bit_at-shifted u s i ∙ digit_is 64 u (s + i) (omega arith) ∙ ap (λ b. if b then 1 else 0) (sym (slice_at i less)))

field_of_some : (some : List Bool) → length some < 64 → field_of some ≡ pos (number some)
field_of_some some less = ap (λ b. if b then integer some else pos (number some)) (ne_eqb (length some) 64 (λ e. absurd (omega arith)))

field_of_all : (some : List Bool) → length some ≡ 64 → field_of some ≡ integer some
field_of_all some e = ap (λ b. if b then integer some else pos (number some)) (eq-eqb (length some) 64 e)

-- fewer bits than all make a number from zero
pub field-some : (n : ℤ) (u s e : ℕ) → s ≤ e → e ≤ 64 → e - s < 64 → u ≡ cast_unsigned w64 n →
    cast_signed w64 (bit_and (u / 2 ^ s) (2 ^ (e - s) - 1)) ≡ field n s e
field-some n u s e ordered within less is =
    let small : bit_and (u / 2 ^ s) (2 ^ (e - s) - 1) < 2 ^ (e - s) = masked-lt u s e ordered within in
    let top : 2 ^ (e - s) ≤ 2 ^ 63 = pow_mono (let width : e - s ≤ 63 = omega arith in width) in
    to_z_pos w64 (bit_and (u / 2 ^ s) (2 ^ (e - s) - 1)) (omega arith)
    ∙ ap (λ x. pos x) (masked_is u s e ordered within)
    ∙ sym (field_of_some (slice_range (digits 64 u) s e) (rw (length-slice u s e ordered within) less))
    ∙ ap (λ v. field_of (slice_range (digits 64 v) s e)) is

-- all bits make the integer itself
pub field-all : (n : ℤ) (s e : ℕ) → e ≤ 64 → e - s ≡ 64 → SFits w64 n → n ≡ field n s e
field-all n s e within all fits =
    let low : s ≡ 0 = omega arith in
    let high : e ≡ 64 = omega arith in
    sym (to_z-of_z w64 n fits)
    ∙ ap (cast_signed w64) (sym (number-digits 64 (cast_unsigned w64 n) (Fits-of_z fits).fits))
    ∙ sym (field_of_all (bits n) (length-digits 64 (cast_unsigned w64 n)))
    ∙ ap field_of (sym (take_all 64 (bits n) (omega (arith, length-digits 64 (cast_unsigned w64 n)))))
    ∙ (λ i. field_of (slice_range (bits n) (sym low i) (sym high i)))
