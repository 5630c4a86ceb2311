use Rattle.std.proofs.Common.{◌≡◌, arith, rules, to_z, of_z, w64}
use Rattle.std.proofs.lemmas.Int.{ints, to_z-of_z}
use Rattle.exit_point.proofs.Rows.{first_weigh, next_fits, next_weigh, three_weigh}
use Rattle.exit_point.proofs.weights.list_weights.Goals as goal

pub give-requires-2-clause-fits : goal.give-requires-2-clause-fits
give-requires-2-clause-fits c =
    let images = c.args.images.now in
    let shares = c.requires.shares in
    let start = first_weigh images _ _ c.truncate.ensures.items c.from-weights.ensures.0
    c.requires.images in
    let first_is : to_z w64 (of_z w64 c.args.shares.first) ≡ c.args.shares.first =
    to_z-of_z w64 _ (search rules) in
    let second_is : to_z w64 (of_z w64 c.args.shares.second) ≡ c.args.shares.second =
    to_z-of_z w64 _ (search rules) in
    let one = next_weigh _ images _ _ c.args.places.first c.args.shares.first _ _ start
    c.give.ensures first_is c.requires.first shares.first in
    let low = shares.first.high in
    next_fits _ images _ _ c.args.places.second c.args.shares.second _ one second_is
    (omega (arith, ints)) shares.second

pub give-requires-3-clause-fits : goal.give-requires-3-clause-fits
give-requires-3-clause-fits c =
    let images = c.args.images.now in
    let shares = c.requires.shares in
    let start = first_weigh images _ _ c.truncate.ensures.items c.from-weights.ensures.0
    c.requires.images in
    let first_is : to_z w64 (of_z w64 c.args.shares.first) ≡ c.args.shares.first =
    to_z-of_z w64 _ (search rules) in
    let second_is : to_z w64 (of_z w64 c.args.shares.second) ≡ c.args.shares.second =
    to_z-of_z w64 _ (search rules) in
    let third_is : to_z w64 (of_z w64 c.args.shares.third) ≡ c.args.shares.third =
    to_z-of_z w64 _ (search rules) in
    let one = next_weigh _ images _ _ c.args.places.first c.args.shares.first _ _ start
    c.give.ensures first_is c.requires.first shares.first in
    let two = next_weigh _ images _ _ c.args.places.second c.args.shares.second _ _ one
    c.give-2.ensures second_is c.requires.second shares.second in
    let first_high = shares.first.high in
    let second_high = shares.second.high in
    next_fits _ images _ _ c.args.places.third c.args.shares.third _ two third_is
    (omega (arith, ints)) shares.third

pub returns-clause-weights : goal.returns-clause-weights
returns-clause-weights c =
    let images = c.args.images.now in
    let shares = c.requires.shares in
    let start = first_weigh images _ _ c.truncate.ensures.items c.from-weights.ensures.0
    c.requires.images in
    let first_is : to_z w64 (of_z w64 c.args.shares.first) ≡ c.args.shares.first =
    to_z-of_z w64 _ (search rules) in
    let second_is : to_z w64 (of_z w64 c.args.shares.second) ≡ c.args.shares.second =
    to_z-of_z w64 _ (search rules) in
    let third_is : to_z w64 (of_z w64 c.args.shares.third) ≡ c.args.shares.third =
    to_z-of_z w64 _ (search rules) in
    let one = next_weigh _ images _ _ c.args.places.first c.args.shares.first _ _ start
    c.give.ensures first_is c.requires.first shares.first in
    let two = next_weigh _ images _ _ c.args.places.second c.args.shares.second _ _ one
    c.give-2.ensures second_is c.requires.second shares.second in
    let three = next_weigh _ images _ _ c.args.places.third c.args.shares.third _ _ two
    c.give-3.ensures third_is c.requires.third shares.third in
    (three_weigh c.args.shares images _ _ _ _ three).are

pub returns-clause-sum : goal.returns-clause-sum
returns-clause-sum c =
    let images = c.args.images.now in
    let shares = c.requires.shares in
    let start = first_weigh images _ _ c.truncate.ensures.items c.from-weights.ensures.0
    c.requires.images in
    let first_is : to_z w64 (of_z w64 c.args.shares.first) ≡ c.args.shares.first =
    to_z-of_z w64 _ (search rules) in
    let second_is : to_z w64 (of_z w64 c.args.shares.second) ≡ c.args.shares.second =
    to_z-of_z w64 _ (search rules) in
    let third_is : to_z w64 (of_z w64 c.args.shares.third) ≡ c.args.shares.third =
    to_z-of_z w64 _ (search rules) in
    let one = next_weigh _ images _ _ c.args.places.first c.args.shares.first _ _ start
    c.give.ensures first_is c.requires.first shares.first in
    let two = next_weigh _ images _ _ c.args.places.second c.args.shares.second _ _ one
    c.give-2.ensures second_is c.requires.second shares.second in
    let three = next_weigh _ images _ _ c.args.places.third c.args.shares.third _ _ two
    c.give-3.ensures third_is c.requires.third shares.third in
    (three_weigh c.args.shares images _ _ _ _ three).sum
