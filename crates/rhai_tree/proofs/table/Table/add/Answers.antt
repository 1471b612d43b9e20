use Rattle.std.proofs.Common.{◌≡◌, ◌≤◌, ◌+◌, ℕ, List, None, true, arith, ap, sym, ◌∙◌, length}
use Rattle.std.specs.List.{insert, remove}
use Rattle.std.proofs.lemmas.List.Edits.{length-insert}
use Rattle.rhai_tree.specs.Ascending.{is_ascending}
use Rattle.rhai_tree.specs.Lookup.{place_of, rank}
use Rattle.rhai_tree.proofs.LookupLemmas.{rank-le, insert_ascends, remove-insert}
use Rattle.rhai_tree.proofs.table.Table.add.Goals as goal

-- the index lies within the keys, and so within the values
within : (key : List ℕ) (keys old : List (List ℕ)) (at : ℕ) → keys ≡ old → at ≡ rank key old → at ≤ length keys
within key keys old at e place = rw (place, sym e) (rank-le key keys)

ordered : (key : List ℕ) (keys old now : List (List ℕ)) (at : ℕ) → keys ≡ old → at ≡ rank key old → place_of key old ≡ None →
    is_ascending keys ≡ true →
    now ≡ insert keys at key → is_ascending now ≡ true
ordered key keys old now at e place absent up is =
    ap is_ascending (is ∙ ap (λ n. insert keys n key) (place ∙ ap (rank key) (sym e)))
    ∙ insert_ascends key keys up (ap (place_of key) e ∙ absent)

pub insert-requires : goal.insert-requires
insert-requires g c = within c.args.key c.self.inside.keys c.args.self.now.0 c.args.at (ap (λ t. t.0) c.self.view_is) c.requires.place

pub insert-requires-2 : goal.insert-requires-2
insert-requires-2 g c =
    let le : c.args.at ≤ length c.self.inside.keys = within c.args.key c.self.inside.keys c.args.self.now.0 c.args.at
    (ap (λ t. t.0) c.self.view_is) c.requires.place in
    omega (arith, le, c.self.invariant.1)

pub invariant_of-self-in-Ok : goal.invariant_of-self-in-Ok
invariant_of-self-in-Ok g c =
    let le : c.args.at ≤ length c.self.inside.keys = within c.args.key c.self.inside.keys c.args.self.now.0 c.args.at
    (ap (λ t. t.0) c.self.view_is) c.requires.place in (
      ordered c.args.key c.self.inside.keys c.args.self.now.0 c.insert.new.self c.args.at (ap (λ t. t.0) c.self.view_is) c.requires.place
          c.requires.absent c.self.invariant.0 c.in_ok-insert.ensures.ok,
      rw (c.in_ok-insert.ensures.ok, c.in-Ok.ensures.ok) (length-insert c.self.inside.keys c.args.at c.args.key le
          ∙ ap (λ n. n + 1) c.self.invariant.1 ∙ sym (length-insert c.self.inside.values c.args.at c.args.value
          (omega (arith, le, c.self.invariant.1)))),
    )

pub invariant_of-self-in-Err : goal.invariant_of-self-in-Err
invariant_of-self-in-Err g c =
    let le : c.args.at ≤ length c.self.inside.keys = within c.args.key c.self.inside.keys c.args.self.now.0 c.args.at
    (ap (λ t. t.0) c.self.view_is) c.requires.place in
    let back : c.remove.new.self ≡ c.self.inside.keys = c.remove.ensures.rest ∙ ap (λ k. remove k c.args.at) c.in_ok-insert.ensures.ok
    ∙ remove-insert c.self.inside.keys c.args.at c.args.key le in
    (ap is_ascending back ∙ c.self.invariant.0, ap length back ∙ c.self.invariant.1 ∙ ap length (sym c.in-Err.ensures.err))

pub returns-in-Err-clause-err : goal.returns-in-Err-clause-err
returns-in-Err-clause-err g c =
    let le : c.args.at ≤ length c.self.inside.keys = within c.args.key c.self.inside.keys c.args.self.now.0 c.args.at
    (ap (λ t. t.0) c.self.view_is) c.requires.place in
    let back : c.remove.new.self ≡ c.self.inside.keys = c.remove.ensures.rest ∙ ap (λ k. remove k c.args.at) c.in_ok-insert.ensures.ok
    ∙ remove-insert c.self.inside.keys c.args.at c.args.key le in
    (λ i. (back i, c.in-Err.ensures.err i)) ∙ c.self.view_is
