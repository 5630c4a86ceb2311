-- Thrusters with sectors.
use Rattle.std.specs.Prelude.{List, ℕ, [], ◌∷◌, pos, neg_ℤ, None}
use Rattle.plant_model.specs.declared.parts.Thruster.{Thruster}
use Rattle.plant_model.specs.Demo.{piece, point}
use Rattle.plant_model.specs.Rings.{origin}

-- it gives thrust ahead within an angle, or astern
abbrev pub main_propeller : List ℕ → Thruster
main_propeller name =
    let port = point (pos 1000) (neg_ℤ (pos 300)) in
    let starboard = point (pos 1000) (pos 300) in
    let astern = point (neg_ℤ (pos 400)) (pos 0) in
    record {
      name = name;
      section = 0;
      lever = origin;
      rated = 2000;
      thresholds = 25 ∷ 50 ∷ 75 ∷ 100 ∷ [];
      ring = record { points = record { items = port ∷ starboard ∷ astern ∷ [] } };
      sectors = record { items = record { from = 1; to = 2 } ∷ record { from = 2; to = 0 } ∷ [] };
      pieces = record {
        list = record { items = piece (port ∷ starboard ∷ []) ∷ piece (astern ∷ []) ∷ [] };
      };
      frozen = None;
    }

-- the demo's azimuth, where a sector covers its edge from ahead to starboard
abbrev pub guarded_azimuth : List ℕ → Thruster
guarded_azimuth name =
    let ahead = point (pos 400) (pos 0) in
    let starboard = point (pos 0) (pos 400) in
    let astern = point (neg_ℤ (pos 400)) (pos 0) in
    let port = point (pos 0) (neg_ℤ (pos 400)) in
    record {
      name = name;
      section = 0;
      lever = origin;
      rated = 2000;
      thresholds = 25 ∷ 50 ∷ 75 ∷ 100 ∷ [];
      ring = record { points = record { items = ahead ∷ starboard ∷ astern ∷ port ∷ [] } };
      sectors = record { items = record { from = 0; to = 1 } ∷ [] };
      pieces = record {
        list = record {
          items = piece (starboard ∷ astern ∷ port ∷ []) ∷ piece (port ∷ ahead ∷ []) ∷ [];
        };
      };
      frozen = None;
    }
