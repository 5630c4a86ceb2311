use Rattle.std.proofs.Common.{◌≡◌, ◌∙◌, [], ◌∷◌, ap, refl, rules, to_z, of_z, w64}
use Rattle.std.proofs.lemmas.Int.{to_z-of_z}
use Rattle.int_ring.proofs.Ring.{ring, reads}
use Rattle.wrench_geometry.specs.declared.vector.Vec3.{Vec3}
use Rattle.wrench_geometry.specs.Vectors.{cross_of, det_of, dot_of}
use Rattle.wrench_geometry.proofs.Bounds.{cross_is_short, det_within, factor_is}
use Rattle.wrench_geometry.proofs.vertices.determinant.Goals as goal

turned : (a b c : Vec3) → dot_of (cross_of b c) a ≡ det_of a b c
turned a b c = ring (a.x ∷ a.y ∷ a.z ∷ b.x ∷ b.y ∷ b.z ∷ c.x ∷ c.y ∷ c.z ∷ [])
    (search reads depth 40) refl

pub cross-requires : goal.cross-requires
cross-requires c = record { a = factor_is c.requires.b; b = factor_is c.requires.c }

pub product-requires-clause-short : goal.product-requires-clause-short
product-requires-clause-short c =
    rw c.cross.ensures (cross_is_short c.args.b c.args.c c.requires.b c.requires.c)

pub returns : goal.returns
returns c =
    let is : c.product.result ≡ det_of c.args.a c.args.b c.args.c = c.product.ensures
    ∙ ap (λ (w : Vec3). dot_of w c.args.a) c.cross.ensures
    ∙ turned c.args.a c.args.b c.args.c in
    let plain : to_z w64 (of_z w64 c.product.result) ≡ det_of c.args.a c.args.b c.args.c =
    to_z-of_z w64 _ (search rules) ∙ is in
    record {
      value = plain;
      within =
          rw plain (det_within c.args.a c.args.b c.args.c c.requires.a c.requires.b c.requires.c);
    }
