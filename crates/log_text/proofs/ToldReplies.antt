-- Replies as fields, and what the fields tell of them.
use Rattle.std.proofs.Common.{◌≡◌, ◌∙◌, ℕ, List, [], ◌∷◌, ◌++◌, map, Bool, true, false}
use Rattle.std.proofs.Common.{◌==◌, if◌then◌else◌, slice_index, codes}
use Rattle.std.proofs.Common.{refl, ap, ap₂, arith, append_assoc, append-nil}
use Rattle.std.proofs.lemmas.Bool.Decides.{nat_tests}
use Rattle.std.proofs.lemmas.List.Elements.{recursion_from_All}
use Rattle.std.specs.Fmt.{decimal, signed_decimal}
use Rattle.std.specs.List.{AllByRecursion, flat_map, list_all}
use Rattle.std.specs.Str.{bytes_eq}
use Rattle.plant_model.specs.declared.board.Cell.{Cell}
use Rattle.plant_model.specs.declared.board.Cell.TheVariants.{Pending, Seen}
use Rattle.plant_model.specs.declared.wrench.Wrench.{Wrench}
use Rattle.telegram.specs.Numbers.{is_digit}
use Rattle.telegram.specs.Telegrams.{comma}
use Rattle.certificate.specs.declared.outcome.Place.{Place}
use Rattle.certificate.specs.declared.outcome.Place.TheVariants as places
use Rattle.plant_core.specs.Machine.{is_answer}
use Rattle.thrust_allocation.specs.declared.allocation.Allocation.{Allocation}
use Rattle.plant_core.specs.declared.call.Reply.{Reply}
use Rattle.plant_core.specs.declared.call.Reply.TheVariants as replies
use Rattle.log_text.specs.Fits.{FitsCell, FitsPlace, FitsReply}
use Rattle.log_text.specs.Outcomes.{given_part_text, wrench_text}
use Rattle.log_text.specs.Texts.{cell_text, commanded_text, place_text, reply_text}
use Rattle.log_text.proofs.ToldCalls.{first_number}
use Rattle.log_text.proofs.ToldFields.{IsTold, all_good-append, all_good-head}
use Rattle.log_text.proofs.ToldFields.{all_good-tail, is_field, is_field_byte, led}
use Rattle.log_text.proofs.ToldNumbers.{digits-decimal, field-decimal, field-signed, number_in}
use Rattle.log_text.proofs.ToldNumbers.{signed_in}
use Rattle.log_text.proofs.ToldOutcomes.{allocation-told, allocation_at, thrust_fields}
use Rattle.log_text.proofs.ToldOutcomes.{thrusts-fields, thrusts-led, thrusts_in, word-told}
use Rattle.log_text.proofs.ToldOutcomes.{wrench-told, wrench_at}

-- ---- colons

abbrev pub colon : ℕ
colon = 58

abbrev before_colon : List ℕ → List ℕ
before_colon [] = []
before_colon (b ∷ bs) = if b == colon then [] else b ∷ before_colon bs

abbrev after_colon : List ℕ → List ℕ
after_colon [] = []
after_colon (b ∷ bs) = if b == colon then bs else after_colon bs

pub no_colon : (b : ℕ) → is_digit b ≡ true → (b == colon) ≡ false
no_colon b good = grind (arith, nat_tests)

before-digits : (digits rest : List ℕ) → list_all is_digit digits ≡ true
    → before_colon (digits ++ colon ∷ rest) ≡ digits
before-digits [] rest good = refl
before-digits (b ∷ bs) rest good =
    rw (no_colon b (all_good-head is_digit b bs good))
    (ap (λ (more : List ℕ). b ∷ more) (before-digits bs rest (all_good-tail is_digit b bs good)))

after-digits : (digits rest : List ℕ) → list_all is_digit digits ≡ true
    → after_colon (digits ++ colon ∷ rest) ≡ rest
after-digits [] rest good = refl
after-digits (b ∷ bs) rest good =
    rw (no_colon b (all_good-head is_digit b bs good))
    (after-digits bs rest (all_good-tail is_digit b bs good))

-- ---- cells

abbrev pub cell_words : Bool → Bool → List ℕ
cell_words holds current = (if holds then codes "HOLDS" else codes "LOST") ++ codes ":"
    ++ (if current then codes "CURRENT" else codes "SUPERSEDED")

abbrev pub cell_field : Cell → List ℕ
cell_field Pending = codes "PENDING"
cell_field (Seen version holds current) = decimal version ++ colon ∷ cell_words holds current

abbrev holds_in : List ℕ → Bool
holds_in words = slice_index words 0 == 72

abbrev current_in : List ℕ → Bool
current_in words = bytes_eq (after_colon words) (codes "CURRENT")

holds-told : (holds current : Bool) → holds_in (cell_words holds current) ≡ holds
holds-told true current = refl
holds-told false current = refl

current-told : (holds current : Bool) → current_in (cell_words holds current) ≡ current
current-told true true = refl
current-told true false = refl
current-told false true = refl
current-told false false = refl

-- a cell with these words after its version; a pending one has none
abbrev cell_of_words : ℕ → List ℕ → Cell
cell_of_words version [] = Pending
cell_of_words version (b ∷ bs) = Seen version (holds_in (b ∷ bs)) (current_in (b ∷ bs))

abbrev cell_in : List ℕ → Cell
cell_in field = cell_of_words (number_in (before_colon field)) (after_colon field)

words-told : (version : ℕ) (holds current : Bool)
    → cell_of_words version (cell_words holds current) ≡ Seen version holds current
words-told version true true = refl
words-told version true false = refl
words-told version false true = refl
words-told version false false = refl

cell-told : (cell : Cell) → FitsCell cell → cell_in (cell_field cell) ≡ cell
cell-told Pending fits = refl
cell-told (Seen version holds current) fits =
    let digits = digits-decimal version in
    ap₂ (λ (v w : List ℕ). cell_of_words (number_in v) w)
    (before-digits (decimal version) (cell_words holds current) digits)
    (after-digits (decimal version) (cell_words holds current) digits)
    ∙ words-told (number_in (decimal version)) holds current
    ∙ ap (λ (v : ℕ). Seen v holds current) (word-told version fits)

words-field : (holds current : Bool) → is_field (colon ∷ cell_words holds current) ≡ true
words-field true true = refl
words-field true false = refl
words-field false true = refl
words-field false false = refl

pub cell-field : (cell : Cell) → is_field (cell_field cell) ≡ true
cell-field Pending = refl
cell-field (Seen version holds current) =
    all_good-append is_field_byte (decimal version) (colon ∷ cell_words holds current)
    (field-decimal version) (words-field holds current)

cell-spelled : (cell : Cell) → cell_text cell ≡ comma ∷ cell_field cell
cell-spelled Pending = refl
cell-spelled (Seen version true true) = simp append_assoc
cell-spelled (Seen version true false) = simp append_assoc
cell-spelled (Seen version false true) = simp append_assoc
cell-spelled (Seen version false false) = simp append_assoc

abbrev pub cell_fields : List Cell → List (List ℕ)
cell_fields cells = map cell_field cells

abbrev cells_in : List (List ℕ) → List Cell
cells_in fields = map cell_in fields

pub cells-led : (cells : List Cell) → flat_map cell_text cells ≡ led (cell_fields cells)
cells-led [] = refl
cells-led (cell ∷ cells) =
    ap₂ (λ (first rest : List ℕ). first ++ rest) (cell-spelled cell) (cells-led cells)

pub cells-fields : (cells : List Cell) → list_all is_field (cell_fields cells) ≡ true
cells-fields [] = refl
cells-fields (cell ∷ cells) = rw (cell-field cell, cells-fields cells) refl

cells-told : (cells : List Cell) → AllByRecursion FitsCell cells
    → cells_in (cell_fields cells) ≡ cells
cells-told [] fits = refl
cells-told (cell ∷ cells) fits =
    ap₂ (λ (first : Cell) (rest : List Cell). first ∷ rest) (cell-told cell fits.0)
    (cells-told cells fits.1)

-- ---- places

abbrev pub place_fields : Place → List (List ℕ)
place_fields places.Denominator = codes "DENOMINATOR" ∷ []
place_fields places.Choice = codes "CHOICE" ∷ []
place_fields places.ThrustCount = codes "THRUST-COUNT" ∷ []
place_fields (places.Thruster i) = codes "THRUSTER" ∷ decimal i ∷ []
place_fields places.Sum = codes "SUM" ∷ []
place_fields places.CutCount = codes "CUT-COUNT" ∷ []
place_fields (places.Cut k) = codes "CUT" ∷ decimal k ∷ []

abbrev place_of : List ℕ → ℕ → Place
place_of word number =
    if bytes_eq word (codes "DENOMINATOR") then places.Denominator
    else (if bytes_eq word (codes "CHOICE") then places.Choice
    else (if bytes_eq word (codes "THRUST-COUNT") then places.ThrustCount
    else (if bytes_eq word (codes "THRUSTER") then places.Thruster number
    else (if bytes_eq word (codes "SUM") then places.Sum
    else (if bytes_eq word (codes "CUT-COUNT") then places.CutCount else places.Cut number)))))

abbrev place_told : List (List ℕ) → Place
place_told [] = places.Sum
place_told (word ∷ more) = place_of word (first_number more)

place-told : (place : Place) → FitsPlace place → place_told (place_fields place) ≡ place
place-told places.Denominator fits = refl
place-told places.Choice fits = refl
place-told places.ThrustCount fits = refl
place-told (places.Thruster i) fits = ap (λ (n : ℕ). places.Thruster n) (word-told i fits)
place-told places.Sum fits = refl
place-told places.CutCount fits = refl
place-told (places.Cut k) fits = ap (λ (n : ℕ). places.Cut n) (word-told k fits)

place-fields : (place : Place) → list_all is_field (place_fields place) ≡ true
place-fields places.Denominator = refl
place-fields places.Choice = refl
place-fields places.ThrustCount = refl
place-fields (places.Thruster i) = rw (field-decimal i) refl
place-fields places.Sum = refl
place-fields places.CutCount = refl
place-fields (places.Cut k) = rw (field-decimal k) refl

place-led : (place : Place) → comma ∷ place_text place ≡ led (place_fields place)
place-led places.Denominator = refl
place-led places.Choice = refl
place-led places.ThrustCount = refl
place-led (places.Thruster i) = simp append-nil
place-led places.Sum = refl
place-led places.CutCount = refl
place-led (places.Cut k) = simp append-nil

-- ---- replies

abbrev pub given_part_fields : Allocation → List (List ℕ)
given_part_fields a = signed_decimal a.fraction.top ∷ signed_decimal a.fraction.bottom
    ∷ decimal a.choice ∷ signed_decimal a.q ∷ thrust_fields a.thrusts.list.items

abbrev pub reply_fields : Reply → List (List ℕ)
reply_fields (replies.Version number) = codes "VERSION" ∷ decimal number ∷ []
reply_fields replies.Same = codes "SAME" ∷ []
reply_fields replies.Taken = codes "TAKEN" ∷ []
reply_fields replies.UnknownName = codes "UNKNOWN-NAME" ∷ []
reply_fields replies.NoPiece = codes "NO-PIECE" ∷ []
reply_fields (replies.Commanded version demand a) =
    codes "COMMANDED" ∷ decimal version ∷ signed_decimal demand.x ∷ signed_decimal demand.y
    ∷ signed_decimal demand.n ∷ given_part_fields a
reply_fields (replies.Late last) = codes "LATE" ∷ decimal last ∷ []
reply_fields replies.WrongMode = codes "WRONG-MODE" ∷ []
reply_fields replies.Noted = codes "NOTED" ∷ []
reply_fields replies.NoSuchAlarm = codes "NO-SUCH-ALARM" ∷ []
reply_fields (replies.Cells cells) =
    codes "CELLS" ∷ decimal cells.latest ∷ cell_fields cells.list.items
reply_fields replies.Shown = codes "SHOWN" ∷ []
reply_fields (replies.Superseded latest) = codes "SUPERSEDED" ∷ decimal latest ∷ []
reply_fields (replies.Unknown latest) = codes "UNKNOWN" ∷ decimal latest ∷ []
reply_fields replies.Already = codes "ALREADY" ∷ []
reply_fields (replies.Refused place) = codes "REFUSED" ∷ place_fields place
reply_fields replies.JournalFull = []
reply_fields replies.Closed = []

between_commas : (a b c : List ℕ)
    → codes "," ++ a ++ codes "," ++ b ++ codes "," ++ c
    ≡ comma ∷ (a ++ comma ∷ (b ++ comma ∷ c))
between_commas a b c = simp append_assoc

wrench-spelled : (x y n rest : List ℕ)
    → x ++ codes "," ++ y ++ codes "," ++ n ++ rest ≡ x ++ comma ∷ (y ++ comma ∷ (n ++ rest))
wrench-spelled x y n rest = simp append_assoc

given_part-spelled : (a : Allocation)
    → given_part_text a ≡ signed_decimal a.fraction.top ++ comma ∷ (signed_decimal a.fraction.bottom
    ++ comma ∷ (decimal a.choice ++ comma ∷ (signed_decimal a.q
    ++ led (thrust_fields a.thrusts.list.items))))
given_part-spelled a = rw (thrusts-led a.thrusts.list.items) (simp append_assoc)

commanded-spelled : (version : ℕ) (demand : Wrench) (a : Allocation)
    → comma ∷ commanded_text version demand a
    ≡ led (reply_fields (replies.Commanded version demand a))
commanded-spelled version demand a =
    let x = signed_decimal demand.x in
    let y = signed_decimal demand.y in
    let n = signed_decimal demand.n in
    ap (λ (rest : List ℕ). codes ",COMMANDED" ++ rest)
    (between_commas (decimal version) (wrench_text demand) (given_part_text a)
    ∙ ap (λ (rest : List ℕ). comma ∷ (decimal version ++ comma ∷ rest))
    (wrench-spelled x y n (comma ∷ given_part_text a)
    ∙ ap (λ (rest : List ℕ). x ++ comma ∷ (y ++ comma ∷ (n ++ comma ∷ rest)))
    (given_part-spelled a)))

-- the text of a reply is its fields
pub reply-is_told : (reply : Reply) → is_answer reply ≡ true
    → IsTold (reply_text reply) (reply_fields reply)
reply-is_told (replies.Version number) answered =
    record { spelled = simp append-nil; good = rw (field-decimal number) refl }
reply-is_told replies.Same answered = record { spelled = refl; good = refl }
reply-is_told replies.Taken answered = record { spelled = refl; good = refl }
reply-is_told replies.UnknownName answered = record { spelled = refl; good = refl }
reply-is_told replies.NoPiece answered = record { spelled = refl; good = refl }
reply-is_told (replies.Commanded version demand a) answered = record {
  spelled = commanded-spelled version demand a;
  good = rw (
    field-decimal version,
    field-signed demand.x,
    field-signed demand.y,
    field-signed demand.n,
    field-signed a.fraction.top,
    field-signed a.fraction.bottom,
    field-decimal a.choice,
    field-signed a.q,
    thrusts-fields a.thrusts.list.items,
  ) refl;
}
reply-is_told (replies.Late last) answered =
    record { spelled = simp append-nil; good = rw (field-decimal last) refl }
reply-is_told replies.WrongMode answered = record { spelled = refl; good = refl }
reply-is_told replies.Noted answered = record { spelled = refl; good = refl }
reply-is_told replies.NoSuchAlarm answered = record { spelled = refl; good = refl }
reply-is_told (replies.Cells cells) answered = record {
  spelled = rw (cells-led cells.list.items) refl;
  good = rw (field-decimal cells.latest, cells-fields cells.list.items) refl;
}
reply-is_told replies.Shown answered = record { spelled = refl; good = refl }
reply-is_told (replies.Superseded latest) answered =
    record { spelled = simp append-nil; good = rw (field-decimal latest) refl }
reply-is_told (replies.Unknown latest) answered =
    record { spelled = simp append-nil; good = rw (field-decimal latest) refl }
reply-is_told replies.Already answered = record { spelled = refl; good = refl }
reply-is_told (replies.Refused place) answered = record {
  spelled = ap (λ (rest : List ℕ). codes ",REFUSED" ++ rest) (place-led place);
  good = place-fields place;
}
reply-is_told replies.JournalFull answered = absurd (cc)
reply-is_told replies.Closed answered = absurd (cc)

-- what a kind of reply has after it
record Form : Type 0 where
  kind : List ℕ
  read : List (List ℕ) → Reply

abbrev numbered : (ℕ → Reply) → List (List ℕ) → Reply
numbered make more = make (first_number more)

abbrev plain : Reply → List (List ℕ) → Reply
plain reply more = reply

abbrev commanded_in : List (List ℕ) → Reply
commanded_in (version ∷ x ∷ y ∷ n ∷ top ∷ bottom ∷ choice ∷ q ∷ thrusts) =
    replies.Commanded (number_in version) (wrench_at (signed_in x) (signed_in y) (signed_in n))
    (allocation_at (signed_in top) (signed_in bottom) (number_in choice) (signed_in q)
    (thrusts_in thrusts))
commanded_in more = replies.Closed

abbrev cells_told : List (List ℕ) → Reply
cells_told [] = replies.Closed
cells_told (latest ∷ cells) = replies.Cells
    (record { latest = number_in latest; list = record { items = cells_in cells } })

abbrev forms : List Form
forms =
    record { kind = codes "VERSION"; read = numbered (λ n. replies.Version n) }
    ∷ record { kind = codes "SAME"; read = plain replies.Same }
    ∷ record { kind = codes "TAKEN"; read = plain replies.Taken }
    ∷ record { kind = codes "UNKNOWN-NAME"; read = plain replies.UnknownName }
    ∷ record { kind = codes "NO-PIECE"; read = plain replies.NoPiece }
    ∷ record { kind = codes "COMMANDED"; read = commanded_in }
    ∷ record { kind = codes "LATE"; read = numbered (λ n. replies.Late n) }
    ∷ record { kind = codes "WRONG-MODE"; read = plain replies.WrongMode }
    ∷ record { kind = codes "NOTED"; read = plain replies.Noted }
    ∷ record { kind = codes "NO-SUCH-ALARM"; read = plain replies.NoSuchAlarm }
    ∷ record { kind = codes "CELLS"; read = cells_told }
    ∷ record { kind = codes "SHOWN"; read = plain replies.Shown }
    ∷ record { kind = codes "SUPERSEDED"; read = numbered (λ n. replies.Superseded n) }
    ∷ record { kind = codes "UNKNOWN"; read = numbered (λ n. replies.Unknown n) }
    ∷ record { kind = codes "ALREADY"; read = plain replies.Already }
    ∷ record { kind = codes "REFUSED"; read = λ more. replies.Refused (place_told more) }
    ∷ []

abbrev read_by : List Form → List ℕ → List (List ℕ) → Reply
read_by [] kind more = replies.Closed
read_by (form ∷ others) kind more =
    if bytes_eq kind form.kind then form.read more else read_by others kind more

abbrev pub reply_in : List (List ℕ) → Reply
reply_in [] = replies.Closed
reply_in (kind ∷ more) = read_by forms kind more

-- the fields of a reply tell it
pub reply-told : (reply : Reply) → is_answer reply ≡ true → FitsReply reply
    → reply_in (reply_fields reply) ≡ reply
reply-told (replies.Version number) answered fits =
    ap (λ (n : ℕ). replies.Version n) (word-told number fits)
reply-told replies.Same answered fits = refl
reply-told replies.Taken answered fits = refl
reply-told replies.UnknownName answered fits = refl
reply-told replies.NoPiece answered fits = refl
reply-told (replies.Commanded version demand a) answered fits =
    ap₂ (λ (v : ℕ) (d : Wrench). replies.Commanded v d
    (allocation_at (signed_in (signed_decimal a.fraction.top))
    (signed_in (signed_decimal a.fraction.bottom)) (number_in (decimal a.choice))
    (signed_in (signed_decimal a.q)) (thrusts_in (thrust_fields a.thrusts.list.items))))
    (word-told version fits.0) (wrench-told demand fits.1)
    ∙ ap (λ (b : Allocation). replies.Commanded version demand b) (allocation-told a fits.2)
reply-told (replies.Late last) answered fits =
    ap (λ (n : ℕ). replies.Late n) (word-told last fits)
reply-told replies.WrongMode answered fits = refl
reply-told replies.Noted answered fits = refl
reply-told replies.NoSuchAlarm answered fits = refl
reply-told (replies.Cells cells) answered fits =
    ap₂ (λ (n : ℕ) (items : List Cell). replies.Cells
    (record { latest = n; list = record { items = items } }))
    (word-told cells.latest fits.latest) (cells-told cells.list.items (recursion_from_All FitsCell cells.list.items fits.each))
reply-told replies.Shown answered fits = refl
reply-told (replies.Superseded latest) answered fits =
    ap (λ (n : ℕ). replies.Superseded n) (word-told latest fits)
reply-told (replies.Unknown latest) answered fits =
    ap (λ (n : ℕ). replies.Unknown n) (word-told latest fits)
reply-told replies.Already answered fits = refl
reply-told (replies.Refused place) answered fits =
    ap (λ (p : Place). replies.Refused p) (place-told place fits)
reply-told replies.JournalFull answered fits = absurd (cc)
reply-told replies.Closed answered fits = absurd (cc)
