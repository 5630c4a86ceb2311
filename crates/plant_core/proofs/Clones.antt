-- A reply's clone is the reply.
use Rattle.std.proofs.Common.{◌≡◌, ◌∙◌}
use Rattle.std.proofs.Math.Path.{refl}
use Rattle.std.proofs.lemmas.Slice.Zip.{AllZip-map}
use Rattle.std.proofs.lemmas.List.{map-id}
use Rattle.plant_model.specs.declared.board.Cell.{Cell}
use Rattle.plant_model.specs.declared.thrust.Thrust.{Thrust}
use Rattle.plant_core.specs.contracts.call.ReplyClone.TheImpl.{by_variants}
use Rattle.plant_core.specs.declared.call.Reply.{Reply}
use Rattle.plant_core.specs.declared.call.Reply.TheVariants.{Version, Same, Taken, UnknownName}
use Rattle.plant_core.specs.declared.call.Reply.TheVariants.{NoPiece}
use Rattle.plant_core.specs.declared.call.Reply.TheVariants.{Commanded, Late, WrongMode, Noted}
use Rattle.plant_core.specs.declared.call.Reply.TheVariants.{NoSuchAlarm, Cells, JournalFull}
use Rattle.plant_core.specs.declared.call.Reply.TheVariants.{Shown, Superseded, Unknown, Already}
use Rattle.plant_core.specs.declared.call.Reply.TheVariants.{Refused, Closed}

pub clone-is : (reply clone : Reply) → by_variants reply clone → clone ≡ reply
clone-is (Version number) (Version other) is = cc
clone-is Same Same is = refl
clone-is Taken Taken is = refl
clone-is UnknownName UnknownName is = refl
clone-is NoPiece NoPiece is = refl
clone-is (Commanded version demand a) (Commanded other wrench b) is =
    let more = is.1.1 in
    let same = AllZip-map (λ (thrust : Thrust). thrust) a.thrusts.list.items
    b.thrusts.list.items more.1.1.1 ∙ map-id a.thrusts.list.items in
    λ i. Commanded (is.0 i) (is.1.0 i) (record {
      fraction = more.0 i;
      choice = more.1.0 i;
      q = more.1.1.0 i;
      thrusts = record { list = record { items = same i } };
    })
clone-is (Late last) (Late other) is = cc
clone-is WrongMode WrongMode is = refl
clone-is Noted Noted is = refl
clone-is NoSuchAlarm NoSuchAlarm is = refl
clone-is (Cells cells) (Cells other) is =
    let same = AllZip-map (λ (cell : Cell). cell) cells.list.items other.list.items is.1
    ∙ map-id cells.list.items in
    λ i. Cells (record { latest = is.0 i; list = record { items = same i } })
clone-is Shown Shown is = refl
clone-is (Superseded latest) (Superseded other) is = cc
clone-is (Unknown latest) (Unknown other) is = cc
clone-is Already Already is = refl
clone-is (Refused place) (Refused other) is = cc
clone-is JournalFull JournalFull is = refl
clone-is Closed Closed is = refl
clone-is reply clone is = absurd is
