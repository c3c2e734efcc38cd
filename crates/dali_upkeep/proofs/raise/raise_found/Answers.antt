use Rattle.std.proofs.Common.{◌≤◌, ◌<◌, inl, inr, refl, arith}
use Rattle.dali_base.specs.Limits.{newest_edition}
use Rattle.dali_upkeep.proofs.Putting.{goes_nowhere}
use Rattle.dali_upkeep.proofs.Raising.{newest_stops, newest_at, below_stops, below_at}
use Rattle.dali_upkeep.proofs.raise.raise_found.Goals as goal

pub returns-then-edition-ge-NEWEST : goal.returns-then-edition-ge-NEWEST
returns-then-edition-ge-NEWEST g c =
    let s = g.T.Site.sight c.args.site.now in
    let edition = c.args.journal.now.edition in
    let past : newest_edition ≤ edition = omega (arith, c.if-edition-ge-NEWEST.true, c.edition.ensures.value) in
    record {
      came = λ told. newest_at edition s past (c.size-size.ensures.told told);
      ends = inl refl;
      stops = λ told tail list at. newest_stops tail edition list s;
      silent = λ told. refl;
      whole = c.size-size.ensures.told;
      goes = goes_nowhere s;
      syncs = omega arith;
    }

pub returns-in-Ok : goal.returns-in-Ok
returns-in-Ok g c =
    let old = g.T.Site.sight c.args.site.now in
    let new = g.T.Site.sight c.raise_edition-raised.new.site in
    let edition = c.args.journal.now.edition in
    let below : edition < newest_edition = omega (arith, c.if-edition-ge-NEWEST.false, c.edition.ensures.value) in
    record {
      came = λ told. below_at edition old new below (c.in-Ok.ensures.bytes told) (c.in-Ok.ensures.raised told) (c.in-Ok.ensures.images told);
      ends = inl refl;
      stops = λ told tail list at. below_stops tail edition list old new below (c.raise_edition-raised.ensures.stops told tail list at);
      silent = c.raise_edition-raised.ensures.silent;
      whole = c.size-size-2.ensures.told;
      goes = c.raise_edition-raised.ensures.goes;
      syncs = c.raise_edition-raised.ensures.syncs;
    }

pub returns-in-Err : goal.returns-in-Err
returns-in-Err g c =
    let old = g.T.Site.sight c.args.site.now in
    let new = g.T.Site.sight c.raise_edition-raised.new.site in
    let edition = c.args.journal.now.edition in
    let below : edition < newest_edition = omega (arith, c.if-edition-ge-NEWEST.false, c.edition.ensures.value) in
    record {
      came = λ told. record { below = below; outside = c.raise_edition-raised.ensures.outside told };
      ends = inr (refl, c.in-Err.ensures.failed);
      stops = λ told tail list at. below_stops tail edition list old new below (c.raise_edition-raised.ensures.stops told tail list at);
      silent = c.raise_edition-raised.ensures.silent;
      whole = c.size-size-2.ensures.told;
      goes = c.raise_edition-raised.ensures.goes;
      syncs = c.raise_edition-raised.ensures.syncs;
    }
