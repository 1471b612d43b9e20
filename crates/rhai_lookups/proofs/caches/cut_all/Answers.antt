use Rattle.std.proofs.Common.{◌<◌, arith, length-set, subst}
use Rattle.std.proofs.lemmas.Option.{get_or_from_slice_get}
use Rattle.rhai_lookups.specs.Fits.{FitsLists}
use Rattle.rhai_lookups.specs.Lists.{first_of}
use Rattle.rhai_lookups.proofs.Stacks.{cut_one}
use Rattle.rhai_lookups.proofs.caches.cut_all.Goals as goal

pub caches-preserved : goal.caches-preserved
caches-preserved g c =
    let got = get_or_from_slice_get c.caches.caches c.caches.at c.at_mut-cache.result.now c.cut.new.self c.at_mut-cache.ensures.value in (
      λ lists all.
          let so_far = c.caches.invariant.0 lists all in
          cut_one (FitsLists lists) (FitsLists (first_of lists c.args.extent)) c.caches.caches c.caches.at c.cut.new.self (omega arith)
          so_far.0 so_far.1 (λ fits. c.cut.ensures lists (subst (FitsLists lists) got fits)),
      omega (arith, length-set c.caches.caches c.caches.at c.cut.new.self),
    )

pub returns : goal.returns
returns g c = λ lists all k d within. (c.caches.invariant.0 lists all).0 k d (omega arith) (omega arith)
