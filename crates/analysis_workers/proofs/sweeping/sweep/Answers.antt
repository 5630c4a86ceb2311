use Rattle.std.proofs.Common.{◌≡◌, length, ap, sym, subst, arith, ◌∙◌}
use Rattle.std.proofs.lemmas.Result.{err_from_is_err_and}
use Rattle.plant_model.specs.declared.plant.Parts.{Parts}
use Rattle.plant_book.specs.Books.{BookShown}
use Rattle.plant_book.specs.declared.base.BookBase.{BookBase}
use Rattle.analysis_workers.proofs.Swept.{SweptBelow, swept-all, swept-none, swept-one, swept-part}
use Rattle.analysis_workers.proofs.sweeping.sweep.Goals as goal

pub loop-group-init : goal.loop-group-init
loop-group-init g c = record {
  swept = swept-none c.args.root.now c.requires.is_open c.caller-caller.ensures.rest;
  of = c.requires.of;
}

pub sweep_group-requires-clause-of : goal.sweep_group-requires-clause-of
sweep_group-requires-clause-of g c = c.loop-group.invariant.of

pub sweep_group-requires-clause-root : goal.sweep_group-requires-clause-root
sweep_group-requires-clause-root g c =
    ap (λ (p : BookShown). p.shown.caller) c.loop-group.invariant.swept.pass ∙ c.requires.root

pub sweep_group-requires-clause-alone : goal.sweep_group-requires-clause-alone
sweep_group-requires-clause-alone g c =
    ap (λ (p : BookShown). p.shown.away) c.loop-group.invariant.swept.pass ∙ c.requires.alone

pub sweep_group-requires-clause-is_open : goal.sweep_group-requires-clause-is_open
sweep_group-requires-clause-is_open g c = c.loop-group.invariant.swept.is_open

pub loop-group-preserved : goal.loop-group-preserved
loop-group-preserved g c =
    let old = c.args.root.now in
    let count : length old.shown.base.plant.groups.items ≡ c.len-group-end.result = omega (
      arith,
      ap (λ (p : Parts). length p.groups.items) c.plant.ensures,
      ap (λ g. length g.items) c.groups.ensures,
      c.len-group-end.ensures.value,
      ap (λ (b : BookBase). length b.plant.groups.items) c.requires.of.base,
    ) in
    record {
      swept = swept-one old c.loop-group.root c.sweep_group.new.root c.loop-group.group
          c.loop-group.invariant.swept (omega (arith, count, c.loop-group-test.true))
          (omega (arith, count, c.len-group-end.ensures.fits))
          c.in_ok-sweep_group.ensures.swept;
      of = c.sweep_group.ensures.of;
    }

pub returns : goal.returns
returns g c =
    let old = c.args.root.now in
    let count : c.loop-group.group ≡ length old.shown.base.plant.groups.items = omega (
      arith,
      ap (λ (p : Parts). length p.groups.items) c.plant.ensures,
      ap (λ g. length g.items) c.groups.ensures,
      c.len-group-end.ensures.value,
      ap (λ (b : BookBase). length b.plant.groups.items) c.requires.of.base,
      c.loop-group.auto.group-end,
    ) in
    let swept = c.loop-group.invariant.swept in
    record {
      verdicts = swept-part old c.loop-group.root c.loop-group.group swept (omega (arith, count));
      current = swept-all old c.loop-group.root c.loop-group.group swept count;
      of = c.loop-group.invariant.of;
    }

pub returns-in_err-sweep_group : goal.returns-in_err-sweep_group
returns-in_err-sweep_group g c =
    let old = c.args.root.now in
    let count : length old.shown.base.plant.groups.items ≡ c.len-group-end.result = omega (
      arith,
      ap (λ (p : Parts). length p.groups.items) c.plant.ensures,
      ap (λ g. length g.items) c.groups.ensures,
      c.len-group-end.ensures.value,
      ap (λ (b : BookBase). length b.plant.groups.items) c.requires.of.base,
    ) in
    let failed = err_from_is_err_and c.from_residual.result c.from_residual.ensures.1 in
    let swept = subst (λ (p : BookShown). SweptBelow old p c.loop-group.group)
    (sym c.in_err-sweep_group.ensures.kept) c.loop-group.invariant.swept in
    record {
      verdicts = swept-part old c.sweep_group.new.root c.loop-group.group swept
          (omega (arith, count, c.loop-group-test.true));
      current = rw failed.1 tt;
      of = c.sweep_group.ensures.of;
    }
