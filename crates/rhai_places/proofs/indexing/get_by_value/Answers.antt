use Rattle.std.proofs.Common.{◌≡◌, true, false, Result, Ok, Err, IfErr, refl}
use Rattle.rhai_places.proofs.indexing.get_by_value.Goals as goal

memory_asked : {T E : Type 0} (r : Result T E) (P : E → Type 0) → IfErr r (λ e. P e → true ≡ true)
memory_asked (Ok t) P = tt
memory_asked (Err e) P = λ _. refl

pub returns-in-Ok-Missing : goal.returns-in-Ok-Missing
returns-in-Ok-Missing g c =
    let added : c.args.how.add_if_not_found ≡ true = cc in
    rw (← c.in-Ok-Missing.ensures.spot, c.in-Ok-Missing.field-0-is, added) (
      (refl, c.get_added.follows.holds, c.get_added.follows.holds-at-none),
      record {
        writes_back = tt;
        found = c.get_added.ensures.found;
        fit = c.get_added.ensures.fit;
        memory = memory_asked c.get_added.result _;
      },
    )

pub returns-in-Ok-Missing-2 : goal.returns-in-Ok-Missing-2
returns-in-Ok-Missing-2 g c =
    let not_added : c.args.how.add_if_not_found ≡ false = cc in
    let refused : c.args.how.fail_on_invalid_map_property ≡ true = cc in
    rw (← c.in-Ok-Missing.ensures.spot, c.in-Ok-Missing.field-0-is, not_added, refused) (
      (refl, (λ w e. cc), refl),
      record {
        writes_back = tt;
        found = c.missing_key.ensures;
        fit = tt;
        memory = λ _. refl;
      },
    )
