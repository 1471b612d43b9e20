use Rattle.std.proofs.Common.{◌≡◌, ◌<◌, ℕ, List, Result, Ok, Err, ap, sym, subst, ◌∙◌, ok_or, length}
use Rattle.rhai_tree.specs.Lookup.{paired, place_of, rank, with_entry}
use Rattle.rhai_spots.proofs.FoundLemmas.{new_place}
use Rattle.rhai_places.proofs.indexing.insert_unit.Goals as goal

abbrev place_in : Result ℕ ℕ → ℕ
place_in (Ok at) = at
place_in (Err at) = at

pub returns-clause-ok : goal.returns-clause-ok
returns-clause-ok g c =
    let whole = c.find.ensures.paired in
    let r = rank c.args.key.now c.args.entries.now.0 in
    let k : c.as_str.result.now ≡ c.args.key.now = c.as_str.ensures ∙ c.get.ensures in
    let absent = ap (λ (t : List (List ℕ) × List _). place_of c.args.key.now t.0) (sym whole) ∙ c.requires in
    let at : c.in-Err.at ≡ r =
    ap place_in (sym c.in-Err.is ∙ c.find.ensures.found
    ∙ (λ i. ok_or (place_of (k i) c.args.entries.now.0) (rank (k i) c.args.entries.now.0))
    ∙ ap (λ o. ok_or o r) absent) in
    let named = c.in_ok-share-in-Err.ensures in
    let same : length c.args.entries.now.0 ≡ length c.args.entries.now.1 = sym c.len-as_many.ensures.keys ∙ c.len-as_many.ensures.values in
    let placed : rank c.in_ok-share-in-Err.field-0 c.args.entries.now.0 < length c.insert.new.self.1 =
    new_place c.in_ok-share-in-Err.field-0 c.new.result c.args.entries.now c.insert.new.self same
    (ap (λ key. place_of key c.args.entries.now.0) named ∙ absent) c.in_ok-insert-in-Err.ensures.ok in (
      at ∙ ap (λ (t : List (List ℕ) × List _). rank c.args.key.now t.0) (sym whole),
      subst (λ n. n < length c.insert.new.self.1) (ap (λ key. rank key c.args.entries.now.0) named ∙ sym at) placed,
    )
