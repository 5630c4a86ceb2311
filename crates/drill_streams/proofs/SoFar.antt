-- The streams of a drill with one step more.
use Rattle.std.proofs.Common.{◌≡◌, ◌∙◌, ℕ, ◌+◌, List, [], ◌∷◌, ◌++◌, ap, sym, add-one, subst, arith, ◌≤◌}
use Rattle.std.proofs.lemmas.List.{append-nil}
use Rattle.std.proofs.lemmas.List.Concat.{flat_map-append}
use Rattle.frame.specs.Frames.{frame_text}
use Rattle.telegram.specs.Telegrams.{telegram_text}
use Rattle.telegram.specs.declared.telegram.Telegram.{Telegram}
use Rattle.drill_streams.specs.Steps.{number_after_orders, number_after_sensor, orders_at, sensor_at}
use Rattle.drill_streams.specs.Streams.{Drill, after_step, drill_after, frames_of}

-- this number and these bytes are those of the drill
pub record IsSoFar (last : ℕ) (control orders : List ℕ) (drill : Drill) : Type 0 where
  pub number : last ≡ drill.number
  pub sensors : control ≡ frames_of drill.sensors
  pub operators : orders ≡ frames_of drill.operators

abbrev frame_of : Telegram → List ℕ
frame_of t = frame_text (telegram_text t)

frames-push : (ts : List Telegram) (t : Telegram)
    → frames_of (ts ++ t ∷ []) ≡ frames_of ts ++ frame_of t
frames-push ts t = flat_map-append frame_of ts (t ∷ [])
    ∙ ap (λ (more : List ℕ). frames_of ts ++ more) (append-nil (frame_of t))

so_far-step : (d : Drill) (step number sensed ordered : ℕ)
    (sensors more_sensors operators more_operators : List ℕ) → IsSoFar number sensors operators d
    → sensed ≡ number_after_sensor number
    → more_sensors ≡ sensors ++ frame_of (sensor_at step number)
    → ordered ≡ number_after_orders step sensed
    → more_operators ≡ operators ++ frames_of (orders_at step sensed)
    → IsSoFar ordered more_sensors more_operators (after_step d step)
so_far-step d step number sensed ordered sensors more_sensors operators more_operators so_far
    sensed_is sensors_is ordered_is operators_is =
    let after = sensed_is ∙ ap number_after_sensor so_far.number in
    record {
      number = ordered_is ∙ ap (number_after_orders step) after;
      sensors = sensors_is
          ∙ ap (λ (bytes : List ℕ). bytes ++ frame_of (sensor_at step number)) so_far.sensors
          ∙ ap (λ (n : ℕ). frames_of d.sensors ++ frame_of (sensor_at step n)) so_far.number
          ∙ sym (frames-push d.sensors (sensor_at step d.number));
      operators = operators_is
          ∙ ap (λ (bytes : List ℕ). bytes ++ frames_of (orders_at step sensed)) so_far.operators
          ∙ ap (λ (n : ℕ). frames_of d.operators ++ frames_of (orders_at step n)) after
          ∙ sym (flat_map-append frame_of d.operators
          (orders_at step (number_after_sensor d.number)));
    }

pub so_far-more : (seed done number sensed ordered : ℕ)
    (sensors more_sensors operators more_operators : List ℕ)
    → IsSoFar number sensors operators (drill_after seed done)
    → sensed ≡ number_after_sensor number
    → more_sensors ≡ sensors ++ frame_of (sensor_at (done + 1) number)
    → ordered ≡ number_after_orders (done + 1) sensed
    → more_operators ≡ operators ++ frames_of (orders_at (done + 1) sensed)
    → IsSoFar ordered more_sensors more_operators (drill_after seed (done + 1))
so_far-more seed done number sensed ordered sensors more_sensors operators more_operators so_far
    sensed_is sensors_is ordered_is operators_is =
    subst (λ (n : ℕ). IsSoFar ordered more_sensors more_operators (drill_after seed n))
    (sym (add-one done))
    (so_far-step (drill_after seed done) (done + 1) number sensed ordered sensors more_sensors
    operators more_operators so_far sensed_is sensors_is ordered_is operators_is)

pub sensors-end : (seed done size : ℕ) (bytes : List ℕ) → done ≤ size → size ≤ done
    → bytes ≡ frames_of (drill_after seed done).sensors
    → bytes ≡ frames_of (drill_after seed size).sensors
sensors-end seed done size bytes to from is =
    let same : done ≡ size = omega arith in
    subst (λ (n : ℕ). bytes ≡ frames_of (drill_after seed n).sensors) same is

pub operators-end : (seed done size : ℕ) (bytes : List ℕ) → done ≤ size → size ≤ done
    → bytes ≡ frames_of (drill_after seed done).operators
    → bytes ≡ frames_of (drill_after seed size).operators
operators-end seed done size bytes to from is =
    let same : done ≡ size = omega arith in
    subst (λ (n : ℕ). bytes ≡ frames_of (drill_after seed n).operators) same is
