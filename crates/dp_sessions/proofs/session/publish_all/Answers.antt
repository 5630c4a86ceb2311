-- One verdict more, and those of all groups.
use Rattle.std.proofs.Common.{◌≡◌, length, ap, arith, ◌∙◌}
use Rattle.std.proofs.Math.Path.{refl}
use Rattle.plant_model.specs.declared.plant.Parts.{Parts}
use Rattle.std.proofs.lemmas.Result.{err_from_is_err_and}
use Rattle.dp_sessions.proofs.Published.{published-all, published-more, published-none, silent-below}
use Rattle.dp_sessions.proofs.session.publish_all.Goals as goal

pub loop-group-init : goal.loop-group-init
loop-group-init c = record {
  plant = refl;
  limit = refl;
  below = published-none c.args.core.now c.requires.is_open c.requires.unshown;
}

pub publish-requires-clause-group : goal.publish-requires-clause-group
publish-requires-clause-group c = omega (
  arith,
  ap (λ (p : Parts). length p.groups.items) c.loop-group.invariant.plant,
  ap (λ (p : Parts). length p.groups.items) c.plant.ensures,
  ap (λ g. length g.items) c.groups.ensures,
  c.len-group-end.ensures.value,
  c.loop-group-test.true,
)

pub publish-requires-clause-is_open : goal.publish-requires-clause-is_open
publish-requires-clause-is_open c = c.loop-group.invariant.below.is_open

pub publish-requires-clause-unshown : goal.publish-requires-clause-unshown
publish-requires-clause-unshown c =
    c.loop-group.invariant.below.above c.loop-group.group (omega (
      arith,
      ap (λ (p : Parts). length p.groups.items) c.plant.ensures,
      ap (λ g. length g.items) c.groups.ensures,
      c.len-group-end.ensures.value,
      c.loop-group-test.true,
    )) (omega arith)

pub loop-group-preserved : goal.loop-group-preserved
loop-group-preserved c =
    let old = c.args.core.now in
    let core = c.loop-group.core in
    let count : length old.plant.groups.items ≡ c.len-group-end.result = omega (
      arith,
      ap (λ (p : Parts). length p.groups.items) c.plant.ensures,
      ap (λ g. length g.items) c.groups.ensures,
      c.len-group-end.ensures.value,
    ) in
    record {
      plant = c.publish.ensures.plant ∙ c.loop-group.invariant.plant;
      limit = c.publish.ensures.limit ∙ c.loop-group.invariant.limit;
      below = published-more old core c.publish.new.core c.loop-group.group
          c.loop-group.invariant.below
          (omega (arith, count, c.loop-group-test.true))
          (omega (arith, count, c.len-group-end.ensures.fits))
          c.in_ok-publish.ensures.verdict;
    }

pub returns : goal.returns
returns c =
    let old = c.args.core.now in
    record {
      plant = c.loop-group.invariant.plant;
      limit = c.loop-group.invariant.limit;
      verdicts = published-all old c.loop-group.core c.loop-group.group
          c.loop-group.invariant.below (omega (
            arith,
            ap (λ (p : Parts). length p.groups.items) c.plant.ensures,
            ap (λ g. length g.items) c.groups.ensures,
            c.len-group-end.ensures.value,
            c.loop-group.auto.group-end,
          ));
      silent = tt;
    }

pub returns-in_err-publish : goal.returns-in_err-publish
returns-in_err-publish c =
    let old = c.args.core.now in
    let failed = err_from_is_err_and c.from_residual.result c.from_residual.ensures.1 in
    let silent = silent-below old c.loop-group.core c.publish.new.core c.loop-group.group
    c.loop-group.invariant.below c.in_err-publish.ensures.kept in
    record {
      plant = c.publish.ensures.plant ∙ c.loop-group.invariant.plant;
      limit = c.publish.ensures.limit ∙ c.loop-group.invariant.limit;
      verdicts = rw failed.1 tt;
      silent = rw failed.1 silent;
    }
