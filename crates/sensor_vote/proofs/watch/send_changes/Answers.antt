-- The lines of three references, one after another.
use Rattle.std.proofs.Common.{ℕ, List, [], ◌++◌, sym, Bool}
use Rattle.std.proofs.lemmas.List.{append-nil}
use Rattle.std.proofs.lemmas.Result.{err_from_is_err_and}
use Rattle.dp_io.specs.Shown.{writing}
use Rattle.sensor_vote.specs.Texts.{change_line, is_marked}
use Rattle.sensor_vote.proofs.Sending.{sent-as, sent-both, sent-first}
use Rattle.sensor_vote.proofs.watch.send_changes.Goals as goal

-- the lines of the reference of this number
abbrev line-of : (moment : ℕ) (before now : List Bool) (number : ℕ) → List ℕ
line-of moment before now number =
    change_line moment number (is_marked before number) (is_marked now number)

pub returns-in_err-send_change : goal.returns-in_err-send_change
returns-in_err-send_change g c =
    let lines : ℕ → List ℕ = line-of c.args.moment c.args.before c.args.now in
    let failed = err_from_is_err_and c.from_residual.result c.from_residual.ensures.1 in
    rw failed.1 (sent-first failed.0 _ (writing g.S.Sink c.args.out.now c.send_change.new.out)
    (lines 1) (lines 2 ++ (lines 3 ++ [])) c.in_err-send_change.ensures)

pub returns-in_err-send_change-2 : goal.returns-in_err-send_change-2
returns-in_err-send_change-2 g c =
    let lines : ℕ → List ℕ = line-of c.args.moment c.args.before c.args.now in
    let start = c.args.out.now in
    let first = c.send_change.new.out in
    let second = c.send_change-2.new.out in
    let failed =
    err_from_is_err_and c.from_residual-in_err-send_change-2.result
    c.from_residual-in_err-send_change-2.ensures.1 in
    rw failed.1 (sent-both _ _ (g.S.Sink.taken start) (g.S.Sink.taken first)
    (g.S.Sink.taken second) (g.S.Sink.faults start) (g.S.Sink.faults first)
    (g.S.Sink.faults second) (lines 1) (lines 2 ++ (lines 3 ++ [])) c.in_ok-send_change.ensures
    (sent-first failed.0 _ (writing g.S.Sink first second) (lines 2) (lines 3 ++ [])
    c.in_err-send_change-2.ensures))

pub returns : goal.returns
returns g c =
    let lines : ℕ → List ℕ = line-of c.args.moment c.args.before c.args.now in
    let start = c.args.out.now in
    let first = c.send_change.new.out in
    let second = c.send_change-2.new.out in
    let third = c.send_change-3.new.out in
    let last = sent-as c.send_change-3.result (writing g.S.Sink second third) (lines 3)
    (lines 3 ++ []) (sym (append-nil (lines 3))) c.send_change-3.ensures in
    sent-both c.send_change-3.result _ (g.S.Sink.taken start) (g.S.Sink.taken first)
    (g.S.Sink.taken third) (g.S.Sink.faults start) (g.S.Sink.faults first)
    (g.S.Sink.faults third) (lines 1) (lines 2 ++ (lines 3 ++ [])) c.in_ok-send_change.ensures
    (sent-both c.send_change-3.result _ (g.S.Sink.taken first) (g.S.Sink.taken second)
    (g.S.Sink.taken third) (g.S.Sink.faults first) (g.S.Sink.faults second)
    (g.S.Sink.faults third) (lines 2) (lines 3 ++ []) c.in_ok-send_change-2.ensures last)
