use Rattle.std.proofs.Common.{◌≡◌, ap, sym, ◌∙◌, length}
use Rattle.glance.proofs.Adding.{adds_at, added}
use Rattle.glance.proofs.Chains.{snoc_chain}
use Rattle.glance.proofs.Shots.{next_is_shot}
use Rattle.glance.proofs.shot.Shot.next.Goals as goal

pub compare_exchange-found-requires : goal.compare_exchange-found-requires
compare_exchange-found-requires g c =
    let any = g.T.Shows.any_base in
    let of = c.args.of.now in
    let head = c.requires.head in
    let shot = c.self.invariant in
    let front = c.again-front.ensures in
    let log = c.again-front.result.log in
    let same_log : log ≡ c.self.inside.front.log = ap (λ s. s.log) front in
    let view_log = ap (λ v. v.log) c.self.view_is in
    let book = ap (λ s. s.book) front
    ∙ (ap (λ v. v.glance) c.self.view_is ∙ sym (ap (λ w. w.book) head)) in
    let offer = c.plain-offer.ensures in
    let pen = c.no_pen-pen.ensures in (
      ap (λ w. w.tracked) head,
      book,
      pen.0 ∙ book,
      offer.0,
      adds_at _ _ _ log _ c.self.inside.number c.in_ok-number.number (ap (λ w. w.key) head) pen.1
          offer.3 c.in_ok-number.ensures.1 (shot.last ∙ sym (ap length same_log))
          (rw offer.1 (snoc_chain any log (g.T.Shows.base_of of) (g.T.Shows.entries of)
          (rw same_log shot.chain) (rw (same_log, view_log) c.requires.base)
          (rw (same_log, view_log) c.requires.list))),
    )

pub invariant_of-result : goal.invariant_of-result
invariant_of-result g c =
    let of = c.args.of.now in
    let shot = c.self.invariant in
    let log = c.again-front.result.log in
    let same_log : log ≡ c.self.inside.front.log = ap (λ s. s.log) c.again-front.ensures in
    let told = added c.compare_exchange-found.result c.self.inside.number c.if-found-self.false
    c.compare_exchange-found.ensures.7 in
    next_is_shot g.T.Shows.any_base g.T.Shows.stands c.self.inside.number c.in_ok-number.number
    c.args.cells log c.compare_exchange-found.new.seen.log (g.T.Shows.base_of of)
    (g.T.Shows.entries of) c.in_ok-number.ensures.1 (shot.last ∙ sym (ap length same_log))
    (rw (← c.plain-offer.ensures.1) told.0) told.1 c.requires.board
