-- The limits as numbers.
use Rattle.std.specs.Prelude.{◌≡◌, pos}
use Rattle.plant_model.specs.declared.limits.TheConstants.{AXES, FARTHEST_LEVER, FEWEST_RING_POINTS}
use Rattle.plant_model.specs.declared.limits.TheConstants.{HALF_TURN, LAST_ALARM, LAST_MOMENT}
use Rattle.plant_model.specs.declared.limits.TheConstants.{MOST_ALARMS, MOST_CHOICES, MOST_ENTRIES}
use Rattle.plant_model.specs.declared.limits.TheConstants.{MOST_FORCE, MOST_GAIN, MOST_GENERATORS}
use Rattle.plant_model.specs.declared.limits.TheConstants.{MOST_GROUPS, MOST_GROUPS_OF_FORMAT_1}
use Rattle.plant_model.specs.declared.limits.TheConstants.{MOST_JOBS, MOST_MEMBERS, MOST_MOMENT}
use Rattle.plant_model.specs.declared.limits.TheConstants.{MOST_NAME_BYTES, MOST_PIECES}
use Rattle.plant_model.specs.declared.limits.TheConstants.{MOST_PIECE_POINTS, MOST_PLANT_BYTES}
use Rattle.plant_model.specs.declared.limits.TheConstants.{MOST_POSITION, MOST_POWER}
use Rattle.plant_model.specs.declared.limits.TheConstants.{MOST_RING_POINTS, MOST_SECTIONS}
use Rattle.plant_model.specs.declared.limits.TheConstants.{MOST_SECTORS, MOST_STREAM_BYTES}
use Rattle.plant_model.specs.declared.limits.TheConstants.{MOST_SUM_LIMIT, MOST_THRESHOLD}
use Rattle.plant_model.specs.declared.limits.TheConstants.{MOST_THRUST, MOST_THRUSTERS, MOST_TIES}
use Rattle.plant_model.specs.declared.limits.TheConstants.{MOST_WIND_FORCE, MOST_WIND_MOMENT}
use Rattle.plant_model.specs.declared.limits.TheConstants.{MOST_WIND_SPEED, MOST_WORKERS, QUARTERS}
use Rattle.plant_model.specs.declared.limits.TheConstants.{QUARTER_TURN, THRESHOLDS, WHOLE_TURN}
use Rattle.plant_model.specs.declared.limits.TheConstants.{WIND_ROWS}

-- each limit is this number, in its unit
pub record AreLimits : Type 0 where
  pub most_sections : MOST_SECTIONS ≡ 8
  pub most_ties : MOST_TIES ≡ 8
  pub most_generators : MOST_GENERATORS ≡ 8
  pub most_thrusters : MOST_THRUSTERS ≡ 12
  pub most_groups : MOST_GROUPS ≡ 16
  pub most_groups_of_format_1 : MOST_GROUPS_OF_FORMAT_1 ≡ 8
  pub most_members : MOST_MEMBERS ≡ 36
  pub most_power : MOST_POWER ≡ 100000
  pub most_name_bytes : MOST_NAME_BYTES ≡ 12
  pub farthest_lever : FARTHEST_LEVER ≡ pos 1600
  pub most_thrust : MOST_THRUST ≡ pos 2000
  pub quarters : QUARTERS ≡ 4
  pub thresholds : THRESHOLDS ≡ 4
  pub most_threshold : MOST_THRESHOLD ≡ 100
  pub fewest_ring_points : FEWEST_RING_POINTS ≡ 2
  pub most_ring_points : MOST_RING_POINTS ≡ 16
  pub most_sectors : MOST_SECTORS ≡ 8
  pub most_pieces : MOST_PIECES ≡ 16
  pub most_piece_points : MOST_PIECE_POINTS ≡ 8
  pub most_choices : MOST_CHOICES ≡ 64
  pub most_gain : MOST_GAIN ≡ 1000000000
  pub most_sum_limit : MOST_SUM_LIMIT ≡ 1000000000000
  pub most_wind_force : MOST_WIND_FORCE ≡ pos 100000
  pub most_wind_moment : MOST_WIND_MOMENT ≡ pos 100000000
  pub most_plant_bytes : MOST_PLANT_BYTES ≡ 1048576
  pub most_entries : MOST_ENTRIES ≡ 50000
  pub most_stream_bytes : MOST_STREAM_BYTES ≡ 16777216
  pub most_alarms : MOST_ALARMS ≡ 256
  pub most_jobs : MOST_JOBS ≡ 256
  pub most_workers : MOST_WORKERS ≡ 8
  pub most_force : MOST_FORCE ≡ pos 24000
  pub most_moment : MOST_MOMENT ≡ pos 76800000
  pub axes : AXES ≡ 3
  pub most_position : MOST_POSITION ≡ pos 10000000
  pub whole_turn : WHOLE_TURN ≡ 36000
  pub half_turn : HALF_TURN ≡ 18000
  pub quarter_turn : QUARTER_TURN ≡ 9000
  pub last_moment : LAST_MOMENT ≡ 4294967295
  pub last_alarm : LAST_ALARM ≡ 4294967295
  pub most_wind_speed : MOST_WIND_SPEED ≡ 1000
  pub wind_rows : WIND_ROWS ≡ 36
