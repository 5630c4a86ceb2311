-- What the words ask for, with the status told.
use Rattle.std.proofs.Common.{map, string_bytes}
use Rattle.dp_io.specs.Shown.{writing}
use Rattle.drill_session.proofs.Words.{usage-where}
use Rattle.drill_session.proofs.call.drill_call.Goals as goal

pub returns : goal.returns
returns g c =
    let status = c.drill_of_words-status in
    let out = writing g.O.Sink c.args.out.now status.new.out in
    record {
      ends = status.ensures;
      usage = λ kind.
          usage-where (map string_bytes c.args.words.now) status.result out kind status.ensures;
      told = c.tell.ensures.told;
    }
