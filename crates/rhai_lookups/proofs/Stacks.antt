-- Caches above each other.
use Rattle.std.proofs.Common.{◌≡◌, ◌≤◌, ◌<◌, ◌+◌, ℕ, Bool, true, List, [], ◌∷◌, ◌++◌, length, take}
use Rattle.std.specs.Prelude.{max, if◌then◌else◌, Result, Ok, Err, OnOk, OnErr}
use Rattle.std.proofs.Common.{refl, sym, ap, subst, ◌∙◌, arith, length-append, Option, Some, None}
use Rattle.std.proofs.Common.{get_or, set, length-set}
use Rattle.std.specs.List.{All, AllWithin}
use Rattle.std.proofs.lemmas.Bool.{false≢true}
use Rattle.std.proofs.lemmas.List.{get_or-set_other, take_all, take-append-le}
use Rattle.std.proofs.lemmas.List.Elements.{All-contains, All-nil, All-push, All-take, AllWithin-more_set, Contains-push}
use Rattle.rhai_lookups.specs.declared.cache.FnResolutionCache.{FnResolutionCache}
use Rattle.rhai_lookups.specs.declared.caches.Caches.{Caches}
use Rattle.rhai_lookups.specs.declared.caches.Levels.{Levels}
use Rattle.rhai_lookups.specs.declared.caches.Levels.TheVariants.{Empty, Filled, Off}
use Rattle.rhai_lookups.specs.declared.caches.Stack.{Stack}
use Rattle.rhai_lookups.specs.Fits.{AllRight, FitsLists, FitsNow, IsCurrent, IsRight}
use Rattle.rhai_lookups.specs.Levels.{AllFit, NewestFits, NewestIsCurrent, alone, begun, below_in, caches_after_push, caches_in, caches_of}
use Rattle.rhai_lookups.specs.Levels.{emptied, empty_cache, entries_in, given_back, is_empty_in, is_on_in, put_newest, stacked}
use Rattle.rhai_lookups.specs.Lists.{Lists, kept_of}
use Rattle.rhai_lookups.proofs.Fitting.{current_fits, empty_fits, fits_now}

-- all but the last, and the last
all_before : {A : Type 0} (P : A → Type 0) (xs : List A) (x : A) → All P (xs ++ x ∷ []) → All P xs
all_before P xs x all = subst (All P) (take-append-le (length xs) xs (x ∷ []) (omega arith) ∙ take_all (length xs) xs (omega arith))
    (All-take P (length xs) (xs ++ x ∷ []) all)

all_last : {A : Type 0} (P : A → Type 0) (xs : List A) (x : A) → All P (xs ++ x ∷ []) → P x
all_last P xs x all = All-contains P (xs ++ x ∷ []) x all (Contains-push xs x)

-- one item more is changed
pub cut_one : {A : Type 0} (P Q : A → Type 0) (xs : List A) (i : ℕ) (v : A) → i < length xs → AllWithin Q xs 0 i →
    AllWithin P xs i (length xs) → (P (get_or xs i v) → Q v) →
    AllWithin Q (set xs i v) 0 (i + 1) × AllWithin P (set xs i v) (i + 1) (length (set xs i v))
cut_one P Q xs i v within before rest cuts = (
  AllWithin-more_set xs i v within Q before (cuts (rest i v (omega arith) within)),
  λ k d low high. subst P (sym (get_or-set_other xs i k v d (omega arith)))
      (rest k d (omega arith) (omega (arith, length-set xs i v, high))),
)

-- the first so many of some and one more, where these are no more than some
pub take_before : {A : Type 0} (n : ℕ) (xs : List A) (x : A) → n ≤ length xs → take n (xs ++ x ∷ []) ≡ take n xs
take_before n xs x few = take-append-le n xs (x ∷ []) few

-- and where these are all
pub take_whole : {A : Type 0} (n : ℕ) (xs : List A) (x : A) → length xs < n → take n (xs ++ x ∷ []) ≡ xs ++ x ∷ []
take_whole n xs x many = take_all n (xs ++ x ∷ []) (omega (arith, length-append xs (x ∷ [])))

module _ {H : Type 0} where
  -- the newest cache changes to another that fits, and those below it do so too
  pub stack_fits : (P Q : FnResolutionCache H → Type 0) (old new : Stack H) → (P old.top → Q new.top) →
      (All P old.below → All Q new.below) → All P (stacked old) → All Q (stacked new)
  stack_fits P Q old new top below all =
      All-push Q new.below new.top (below (all_before P old.below old.top all)) (top (all_last P old.below old.top all))

  module _ (lists : Lists H) where
    -- of caches that fit the newest does
    pub newest_fits : (levels : Levels H) → AllFit lists levels → NewestFits lists levels
    newest_fits Off all = tt
    newest_fits Empty all = tt
    newest_fits (Filled stack) all = fits_now lists stack.top (all_last (FitsLists lists) stack.below stack.top all)

    pub current_is_fit : (levels : Levels H) → NewestIsCurrent lists levels → NewestFits lists levels
    current_is_fit Off current = tt
    current_is_fit Empty current = tt
    current_is_fit (Filled stack) current = λ is. current.1

    pub current_is_right : (levels : Levels H) → NewestIsCurrent lists levels → All (IsRight (kept_of lists)) (entries_in levels)
    current_is_right Off current = All-nil (IsRight (kept_of lists))
    current_is_right Empty current = All-nil (IsRight (kept_of lists))
    current_is_right (Filled stack) current = current.1

    top_current : (stack : Stack H) → All (FitsLists lists) stack.below → IsCurrent lists stack.top → All (FitsLists lists) (stacked stack)
    top_current stack below current = All-push (FitsLists lists) stack.below stack.top below (current_fits lists stack.top current)

    none_fit : (below : List (FnResolutionCache H)) → below ≡ [] → All (FitsLists lists) below
    none_fit below none = subst (All (FitsLists lists)) (sym none) (All-nil (FitsLists lists))

    -- the newest cache is made anew, and those below it stay
    pub all_current : (old new : Levels H) → below_in new ≡ below_in old → NewestIsCurrent lists new → AllFit lists old →
        AllFit lists new
    all_current old Off below current all = All-nil (FitsLists lists)
    all_current old Empty below current all = All-nil (FitsLists lists)
    all_current Off (Filled stack) below current all = top_current stack (none_fit stack.below below) current
    all_current Empty (Filled stack) below current all = top_current stack (none_fit stack.below below) current
    all_current (Filled old) (Filled stack) below current all =
        top_current stack (subst (All (FitsLists lists)) (sym below) (all_before (FitsLists lists) old.below old.top all)) current

    -- a run begins with the newest by itself
    pub alone_fits : (levels run : Levels H) → below_in run ≡ below_in (alone levels) → NewestIsCurrent lists run → AllFit lists run
    alone_fits levels Off below current = All-nil (FitsLists lists)
    alone_fits levels Empty below current = All-nil (FitsLists lists)
    alone_fits Off (Filled stack) below current = top_current stack (none_fit stack.below below) current
    alone_fits Empty (Filled stack) below current = top_current stack (none_fit stack.below below) current
    alone_fits (Filled other) (Filled stack) below current = top_current stack (none_fit stack.below below) current

    pub newest_alone : (levels : Levels H) → NewestFits lists levels → NewestFits lists (alone levels)
    newest_alone Off fits = tt
    newest_alone Empty fits = tt
    newest_alone (Filled stack) fits = fits

    pub begun_fit : (levels : Levels H) → AllFit lists levels → AllFit lists (begun levels)
    begun_fit Off all = all
    begun_fit Empty all = All-push (FitsLists lists) [] empty_cache (All-nil (FitsLists lists)) (empty_fits lists)
    begun_fit (Filled stack) all = all

    pub emptied_fit : (levels : Levels H) → AllFit lists levels → AllFit lists (emptied levels)
    emptied_fit Off all = all
    emptied_fit Empty all = all
    emptied_fit (Filled stack) all =
        All-push (FitsLists lists) stack.below empty_cache (all_before (FitsLists lists) stack.below stack.top all) (empty_fits lists)

    after_push : (levels : Levels H) → AllFit lists levels →
        All (FitsLists lists) (if is_on_in levels then caches_in levels ++ empty_cache ∷ [] else [])
    after_push Off all = all
    after_push Empty all = begun_fit Empty all
    after_push (Filled stack) all = All-push (FitsLists lists) (stacked stack) empty_cache all (empty_fits lists)

    -- the first so many do
    pub rewound_fit : (count : ℕ) (old new : Caches H) → caches_of new ≡ take count (caches_of old) → AllFit lists old.levels →
        AllFit lists new.levels
    rewound_fit count old new is all = subst (All (FitsLists lists)) (sym is) (All-take (FitsLists lists) count (caches_of old) all)

    begun_newest : (levels : Levels H) → is_empty_in levels ≡ true → NewestFits lists (begun levels)
    begun_newest Off is = absurd (false≢true is)
    begun_newest Empty is = λ now. All-nil (IsRight (kept_of lists))
    begun_newest (Filled stack) is = absurd (false≢true is)

    -- the first that is added fits
    pub first_fits : (old new : Caches H) (added : Bool) → new ≡ record old { levels = begun old.levels } →
        added ≡ is_empty_in old.levels → added ≡ true → NewestFits lists new.levels
    first_fits old new added is empty does =
        subst (λ caches. NewestFits lists caches.levels) (sym is) (begun_newest old.levels (sym empty ∙ does))

    -- and so does a later one
    pub later_fits : {T E : Type 0} (r : Result T E) (stack : Stack H) → OnOk r (stack.top ≡ empty_cache) →
        OnOk r (FitsNow lists stack.top)
    later_fits (Ok t) stack is = λ now. subst (AllRight (kept_of lists)) (sym is) (All-nil (IsRight (kept_of lists)))
    later_fits (Err e) stack is = tt

    -- whether or not another could be added
    pub pushed_fit : {T E : Type 0} (r : Result T E) (old new : Caches H) → OnOk r (caches_of new ≡ caches_after_push old) →
        OnErr r (new ≡ old) → AllFit lists old.levels → AllFit lists new.levels
    pushed_fit (Ok t) old new ok err all = subst (All (FitsLists lists)) (sym ok) (after_push old.levels all)
    pushed_fit (Err e) old new ok err all = subst (λ caches. AllFit lists caches.levels) (sym err) all

    -- what a run gives back fits, and is right
    pub given_fits : (levels run : Levels H) → NewestIsCurrent lists run → NewestFits lists (given_back levels run)
    given_fits Off Off current = tt
    given_fits Empty Off current = tt
    given_fits (Filled stack) Off current = λ is. All-nil (IsRight (kept_of lists))
    given_fits Off Empty current = tt
    given_fits Empty Empty current = tt
    given_fits (Filled stack) Empty current = λ is. All-nil (IsRight (kept_of lists))
    given_fits Off (Filled own) current = tt
    given_fits Empty (Filled own) current = λ is. current.1
    given_fits (Filled stack) (Filled own) current = λ is. current.1

    pub given_right : (levels run : Levels H) → NewestIsCurrent lists run →
        All (IsRight (kept_of lists)) (entries_in (given_back levels run))
    given_right Off Off current = All-nil (IsRight (kept_of lists))
    given_right Empty Off current = All-nil (IsRight (kept_of lists))
    given_right (Filled stack) Off current = All-nil (IsRight (kept_of lists))
    given_right Off Empty current = All-nil (IsRight (kept_of lists))
    given_right Empty Empty current = All-nil (IsRight (kept_of lists))
    given_right (Filled stack) Empty current = All-nil (IsRight (kept_of lists))
    given_right Off (Filled own) current = All-nil (IsRight (kept_of lists))
    given_right Empty (Filled own) current = current.1
    given_right (Filled stack) (Filled own) current = current.1

  pub given_below : (levels run : Levels H) → below_in (given_back levels run) ≡ below_in levels
  given_below Off Off = refl
  given_below Empty Off = refl
  given_below (Filled stack) Off = refl
  given_below Off Empty = refl
  given_below Empty Empty = refl
  given_below (Filled stack) Empty = refl
  given_below Off (Filled own) = refl
  given_below Empty (Filled own) = refl
  given_below (Filled stack) (Filled own) = refl

  pub given_on : (levels run : Levels H) → is_on_in (given_back levels run) ≡ is_on_in levels
  given_on Off Off = refl
  given_on Empty Off = refl
  given_on (Filled stack) Off = refl
  given_on Off Empty = refl
  given_on Empty Empty = refl
  given_on (Filled stack) Empty = refl
  given_on Off (Filled own) = refl
  given_on Empty (Filled own) = refl
  given_on (Filled stack) (Filled own) = refl

  same_depth : (below : List (FnResolutionCache H)) (x y : FnResolutionCache H) →
      length (below ++ x ∷ []) ≤ max 1 (length (below ++ y ∷ []))
  same_depth below x y = omega (arith, length-append below (x ∷ []), length-append below (y ∷ []))

  pub given_depth : (levels run : Levels H) → length (caches_in (given_back levels run)) ≤ max 1 (length (caches_in levels))
  given_depth Off Off = omega arith
  given_depth Empty Off = omega arith
  given_depth (Filled stack) Off = same_depth stack.below empty_cache stack.top
  given_depth Off Empty = omega arith
  given_depth Empty Empty = omega arith
  given_depth (Filled stack) Empty = same_depth stack.below empty_cache stack.top
  given_depth Off (Filled own) = omega arith
  given_depth Empty (Filled own) = omega arith
  given_depth (Filled stack) (Filled own) = same_depth stack.below own.top stack.top
