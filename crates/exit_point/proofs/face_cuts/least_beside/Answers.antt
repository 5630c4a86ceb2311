use Rattle.std.proofs.Common.{◌≡◌, ◌<◌, ◌∙◌, ℕ, List, take, get_or, length, ap, ap₂, subst, arith}
use Rattle.std.proofs.lemmas.List.{take_all}
use Rattle.wrench_geometry.specs.declared.vector.Vec3.{Vec3}
use Rattle.wrench_geometry.specs.Wrenches.{image_at}
use Rattle.wrench_geometry.proofs.VertexSums.{ArePlaces-length}
use Rattle.exit_point.specs.Faces.{IsNoMore, IsNoMoreAmong, along_only}
use Rattle.exit_point.proofs.FaceDirections.{least_of_face}
use Rattle.exit_point.proofs.FacePoints.{faces_are}
use Rattle.exit_point.proofs.NoMore.{IsNoMoreOfLists, across_lesser, next_lists, no_more_trans}
use Rattle.exit_point.proofs.face_cuts.least_beside.Goals as goal

pub loop-i-init : goal.loop-i-init
loop-i-init c =
    let sums = c.args.sums.now in
    let face = c.args.face.now in
    let x = c.least_across-x.ensures in
    let y = c.least_across-y.ensures in
    let z = c.least_across-least.ensures in
    let a = c.least_across-x.result in
    let b = c.least_across-y.result in
    let e = c.least_across-least.result in
    let to_x : IsNoMore e a = no_more_trans e b a z.cut.ahead y.cut.ahead x.cut.ahead z.at_most
    y.at_most in
    record {
      cut = z.cut;
      axes = record {
        x = across_lesser sums face e a z.cut x.cut to_x _ x.at_most_normals;
        y = across_lesser sums face e b z.cut y.cut z.at_most _ y.at_most_normals;
        z = z.at_most_normals;
      };
      pairs = tt;
    }

pub bounds-deref-i : goal.bounds-deref-i
bounds-deref-i c =
    let lists = c.args.sums.now in
    let i = c.loop-i.i in
    let inside : i < length lists = omega (arith, ap length c.lists-images-items.ensures.value) in
    let same = ArePlaces-length lists c.args.face.now.corner.places.items
    c.requires.face.corner.chosen.places in
    rw c.deref.ensures.0 (omega arith)

pub least_of-least-requires-clause-cut : goal.least_of-least-requires-clause-cut
least_of-least-requires-clause-cut c = c.loop-i.invariant.cut

pub loop-i-preserved : goal.loop-i-preserved
loop-i-preserved c =
    let sums = c.args.sums.now in
    let face = c.args.face.now in
    let lists = c.lists-images-items.result.now in
    let places = face.corner.places.items in
    let i = c.loop-i.i in
    let d = c.images-item.result in
    let before = c.loop-i.invariant in
    let after = c.least_of-least.ensures in
    let a = c.least_of-least.result in
    let b = c.loop-i.least in
    let same = ArePlaces-length sums places c.requires.face.corner.chosen.places in
    let inside : i < length places = omega (arith, ap length c.lists-images-items.ensures.value) in
    let e : c.as_slice-list.result.now ≡ get_or lists i d = c.as_slice-list.ensures.value
    ∙ c.images-item.is in
    let at : c.image_at-chosen.result ≡ image_at (get_or lists i d) (get_or places i 0) =
    c.image_at-chosen.ensures
    ∙ ap₂ image_at e (ap (λ (l : List ℕ). get_or l i 0) c.deref.ensures.0) in
    let P : List Vec3 → Type 0 =
    λ list. IsNoMoreAmong sums face a list c.image_at-chosen.result list in
    let Q : Vec3 → Type 0 =
    λ v. IsNoMoreAmong sums face a (get_or lists i d) v (get_or lists i d) in
    record {
      cut = after.cut;
      axes = record {
        x = across_lesser sums face a b after.cut before.cut after.at_most _ before.axes.x;
        y = across_lesser sums face a b after.cut before.cut after.at_most _ before.axes.y;
        z = across_lesser sums face a b after.cut before.cut after.at_most _ before.axes.z;
      };
      pairs = next_lists sums face a b after.cut before.cut after.at_most lists d places i
          (omega arith) inside before.pairs (subst Q at (subst P e after.at_most_pairs));
    }

pub returns-clause-cut : goal.returns-clause-cut
returns-clause-cut c = c.loop-i.invariant.cut

pub returns-clause-least : goal.returns-clause-least
returns-clause-least c =
    let sums = c.args.sums.now in
    let face = c.args.face.now in
    let lists = c.lists-images-items.result.now in
    let places = face.corner.places.items in
    let i = c.loop-i.i in
    let is = c.requires.face in
    let same = ArePlaces-length sums places is.corner.chosen.places in
    let long = ap length c.lists-images-items.ensures.value in
    let all : take i lists ≡ sums = take_all i lists c.loop-i-test.false
    ∙ c.lists-images-items.ensures.value in
    let all_places : take i places ≡ places = take_all i places (omega (arith, same, long)) in
    let P : List (List Vec3) → Type 0 =
    λ some. IsNoMoreOfLists sums face c.loop-i.least some (take i places) in
    let Q : List ℕ → Type 0 = λ some. IsNoMoreOfLists sums face c.loop-i.least sums some in
    least_of_face sums face c.loop-i.least is.not_zero is.flat c.loop-i.invariant.cut
    c.loop-i.invariant.axes (faces_are (along_only face.w) sums places is.farthest)
    (subst Q all_places (subst P all c.loop-i.invariant.pairs))
