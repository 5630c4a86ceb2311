-- A vote, a capability or a drill where the words name one, else what they ask for.
use Rattle.std.proofs.Common.{◌≡◌, true, map, string_bytes}
use Rattle.std.proofs.Math.Path.{refl}
use Rattle.sensor_vote.specs.Calls.{names_vote}
use Rattle.capability_report.specs.Calls.{names_capability}
use Rattle.dp_program.proofs.Named.{capability-or-drill, vote-or-capability, vote-or-drill}
use Rattle.dp_program.proofs.program.run.Goals as goal

pub returns-then-names_vote : goal.returns-then-names_vote
returns-then-names_vote g c =
    let votes : names_vote (map string_bytes c.args.words.now) ≡ true =
    cc (c.names_vote.ensures, c.if-names_vote.true) in
    record {
      voted = λ e. (record { vote = c.vote_call.ensures; unread = refl }, refl);
      measured = λ e. absurd (vote-or-capability (map string_bytes c.args.words.now) votes e);
      drilled = λ e. absurd (vote-or-drill (map string_bytes c.args.words.now) votes e);
      ended = λ e f h. absurd (cc (e, votes));
      told = c.vote_call.ensures.told;
    }

pub returns-then-names_capability : goal.returns-then-names_capability
returns-then-names_capability g c =
    let measures : names_capability (map string_bytes c.args.words.now) ≡ true =
    cc (c.names_capability.ensures, c.if-names_capability.true) in
    record {
      voted = λ e. absurd (cc (e, c.names_vote.ensures, c.if-names_vote.false));
      measured = λ e. record {
        capability = c.capability_call.ensures;
        second = refl;
        third = refl;
      };
      drilled = λ e. absurd (capability-or-drill (map string_bytes c.args.words.now) measures e);
      ended = λ e f h. absurd (cc (f, measures));
      told = c.capability_call.ensures.told;
    }

pub returns-then-names_drill : goal.returns-then-names_drill
returns-then-names_drill g c = record {
  voted = λ e. absurd (cc (e, c.names_vote.ensures, c.if-names_vote.false));
  measured = λ e. absurd (cc (e, c.names_capability.ensures, c.if-names_capability.false));
  drilled = λ e. record {
    drill = c.drill_call.ensures;
    first = refl;
    second = refl;
    third = refl;
  };
  ended = λ e f h. absurd (cc (h, c.names_drill.ensures, c.if-names_drill.true));
  told = c.drill_call.ensures.told;
}

pub returns : goal.returns
returns g c = record {
  voted = λ e. absurd (cc (e, c.names_vote.ensures, c.if-names_vote.false));
  measured = λ e. absurd (cc (e, c.names_capability.ensures, c.if-names_capability.false));
  drilled = λ e. absurd (cc (e, c.names_drill.ensures, c.if-names_drill.false));
  ended = λ e f h. c.answer-status.ensures;
  told = c.tell.ensures.told;
}
