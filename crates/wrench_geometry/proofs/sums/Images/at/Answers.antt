use Rattle.std.proofs.Common.{◌≡◌, ◌∙◌, ◌+◌, ◌++◌, List, [], ◌∷◌, map, take, get_or, ap, ap₂, sym}
use Rattle.std.proofs.Common.{subst, arith}
use Rattle.std.proofs.lemmas.List.{take_all, take_more}
use Rattle.std.proofs.lemmas.List.Elements.{All-push}
use Rattle.plant_model.specs.Rings.{origin}
use Rattle.thrust_region.proofs.Lists.{map_more}
use Rattle.wrench_geometry.specs.declared.vector.Vec3.{Vec3}
use Rattle.wrench_geometry.specs.Fans.{HaveOneLever}
use Rattle.wrench_geometry.specs.Wrenches.{AreImages, IsImage, image_of}
use Rattle.wrench_geometry.proofs.Levers.{images_have_lever}
use Rattle.wrench_geometry.proofs.sums.Images.at.Goals as goal

pub loop-point-preserved : goal.loop-point-preserved
loop-point-preserved c =
    let i = c.loop-point.point-index in
    let points = c.args.points.now in
    let lever = c.args.lever in
    let p = get_or points i origin in
    record {
      are =
          c.push.ensures.items
          ∙ ap₂ (λ (l : List Vec3) (v : Vec3). l ++ v ∷ []) c.loop-point.invariant.are
          c.image.ensures.value
          ∙ sym (map_more (image_of lever) (take (i + 1) points) (take i points) p
          (take_more points i origin (omega arith)));
      within =
          subst AreImages (sym c.push.ensures.items)
          (All-push IsImage c.loop-point.images.items c.image.result c.loop-point.invariant.within
          c.image.ensures.within);
    }

pub invariant_of-result : goal.invariant_of-result
invariant_of-result c =
    let points = c.args.points.now in
    let all : c.loop-point.images.items ≡ map (image_of c.args.lever) points =
    c.loop-point.invariant.are
    ∙ ap (map (image_of c.args.lever))
    (take_all c.loop-point.point-index points c.loop-point-test.false) in
    record {
      images = c.loop-point.invariant.within;
      one_lever =
          subst HaveOneLever (sym all) (images_have_lever c.args.lever points);
    }
