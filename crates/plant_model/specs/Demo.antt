-- The parts of the demo plant.
use Rattle.std.specs.Prelude.{List, ℕ, ℤ, pos, neg_ℤ, [], ◌∷◌, ◌++◌, true, false, replicate, None}
use Rattle.std.specs.Prelude.{codes}
use Rattle.plant_model.specs.declared.controller.Gains.{Gains}
use Rattle.plant_model.specs.declared.demo.wind.TheConstants.{WIND}
use Rattle.plant_model.specs.declared.parts.Member.TheVariants.{Section}
use Rattle.plant_model.specs.declared.parts.Tie.{Tie}
use Rattle.plant_model.specs.declared.parts.Generator.{Generator}
use Rattle.plant_model.specs.declared.parts.Thruster.{Thruster}
use Rattle.plant_model.specs.declared.parts.Group.{Group}
use Rattle.plant_model.specs.declared.plant.Parts.{Parts}
use Rattle.plant_model.specs.declared.status.Status.{Status}
use Rattle.plant_model.specs.declared.thrust.Point.{Point}
use Rattle.plant_model.specs.declared.thrust.Piece.{Piece}

abbrev pub demo_gains : List Gains
demo_gains =
    record { kp = 200; ki = 10; kd = 500; limit = 1000000000 }
    ∷ record { kp = 200; ki = 10; kd = 500; limit = 1000000000 }
    ∷ record { kp = 200000; ki = 1000; kd = 500000; limit = 1000000000 } ∷ []

abbrev pub demo_sections : List (List ℕ)
demo_sections = codes "A" ∷ codes "B" ∷ []

abbrev pub demo_ties : List Tie
demo_ties = record { name = codes "T1"; first = 0; second = 1 } ∷ []

abbrev pub demo_generators : List Generator
demo_generators =
    record { name = codes "G1"; section = 0; power = 4000 }
    ∷ record { name = codes "G2"; section = 1; power = 4000 } ∷ []

abbrev pub point : ℤ → ℤ → Point
point x y = record { x = x; y = y }

abbrev pub piece : List Point → Piece
piece points = record { points = record { items = points } }

-- a tunnel thruster of the demo, with its name, its section and its lever
abbrev pub demo_tunnel : List ℕ → ℕ → Point → Thruster
demo_tunnel name section lever =
    let across = point (pos 0) (neg_ℤ (pos 200)) ∷ point (pos 0) (pos 200) ∷ [] in
    record {
      name = name;
      section = section;
      lever = lever;
      rated = 2000;
      thresholds = 25 ∷ 50 ∷ 75 ∷ 100 ∷ [];
      ring = record { points = record { items = across } };
      sectors = record { items = [] };
      pieces = record { list = record { items = piece across ∷ [] } };
      frozen = None;
    }

-- an azimuth thruster of the demo
abbrev pub demo_azimuth : List ℕ → ℕ → Point → Thruster
demo_azimuth name section lever =
    let ahead = point (pos 400) (pos 0) in
    let starboard = point (pos 0) (pos 400) in
    let astern = point (neg_ℤ (pos 400)) (pos 0) in
    let port = point (pos 0) (neg_ℤ (pos 400)) in
    record {
      name = name;
      section = section;
      lever = lever;
      rated = 2000;
      thresholds = 25 ∷ 50 ∷ 75 ∷ 100 ∷ [];
      ring = record { points = record { items = ahead ∷ starboard ∷ astern ∷ port ∷ [] } };
      sectors = record { items = [] };
      pieces = record {
        list = record {
          items =
              piece (ahead ∷ starboard ∷ astern ∷ []) ∷ piece (astern ∷ port ∷ ahead ∷ []) ∷ [];
        };
      };
      frozen = None;
    }

abbrev pub demo_thrusters : List Thruster
demo_thrusters =
    demo_tunnel (codes "BOW1") 0 (point (pos 400) (pos 0))
    ∷ demo_tunnel (codes "BOW2") 1 (point (pos 360) (pos 0))
    ∷ demo_azimuth (codes "PORT") 0 (point (neg_ℤ (pos 400)) (neg_ℤ (pos 100)))
    ∷ demo_azimuth (codes "STBD") 1 (point (neg_ℤ (pos 400)) (pos 100)) ∷ []

abbrev pub demo_groups : List Group
demo_groups = record { name = codes "GA"; members = record { items = Section 0 ∷ [] } }
    ∷ record { name = codes "GB"; members = record { items = Section 1 ∷ [] } } ∷ []

-- all four thrusters are selected, both generators run, the tie is open, and no piece is barred
abbrev pub demo_opening : Status
demo_opening = record {
  selected = replicate 4 true ++ replicate 8 false;
  running = replicate 2 true ++ replicate 6 false;
  closed = replicate 8 false;
  barred = replicate 12 0;
}

abbrev pub demo_parts : Parts
demo_parts = record {
  name = codes "DEMO";
  band = 15 ∷ 15 ∷ 10000 ∷ [];
  gains = demo_gains;
  wind = WIND;
  sections = record { items = demo_sections };
  ties = record { items = demo_ties };
  generators = record { items = demo_generators };
  thrusters = record { items = demo_thrusters };
  groups = record { items = demo_groups };
  opening = demo_opening;
}
