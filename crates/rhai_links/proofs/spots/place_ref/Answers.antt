use Rattle.std.proofs.Common.{◌<◌, refl, ◌∙◌, length}
use Rattle.std.proofs.lemmas.Option.{slice_get_read}
use Rattle.rhai_values.specs.declared.base.value.Union.TheVariants.{outs-Array, outs-Map}
use Rattle.rhai_links.proofs.spots.place_ref.Goals as goal

pub returns-in-Array-Item : goal.returns-in-Array-Item
returns-in-Array-Item g c =
    let items = c.as_slice.ensures ∙ c.get.ensures in
    let within : c.in-Array-Item.at < length c.in-Array-Item.items =
    rw (c.in-Array-Item.is-1, c.in-Array-Item.is-0, outs-Array) at c.requires in
    rw (c.in-Array-Item.is-1, c.in-Array-Item.is-0, outs-Array)
    (slice_get_read c.in-Array-Item.items (length c.in-Array-Item.items) c.in-Array-Item.at c.index-as_slice-at.result refl within
    (rw items at c.index-as_slice-at.is))

pub returns-in-Map-Value : goal.returns-in-Map-Value
returns-in-Map-Value g c =
    let values = c.values.ensures.value in
    let entries = c.get-in-Map-Value.ensures in
    let within : c.in-Map-Value.at < length c.in-Map-Value.entries.1 =
    rw (c.in-Map-Value.is-1, c.in-Map-Value.is-0, outs-Map) at c.requires in
    rw (c.in-Map-Value.is-1, c.in-Map-Value.is-0, outs-Map)
    (slice_get_read c.in-Map-Value.entries.1 (length c.in-Map-Value.entries.1) c.in-Map-Value.at c.index-values-at.result refl within
    (rw (values, entries) at c.index-values-at.is))
