-- Replies are read of their own fields alone.
use Rattle.std.proofs.Common.{◌≡◌, ◌∙◌, ℕ, List, [], ◌∷◌, ◌++◌, Bool, true, false, Some}
use Rattle.std.proofs.Common.{None, if◌then◌else◌, codes, refl, ap, ap₂, sym, subst}
use Rattle.std.proofs.lemmas.List.Elements.{All-from_recursion, recursion_from_All}
use Rattle.std.proofs.lemmas.Option.{same_Some}
use Rattle.std.proofs.lemmas.Slice.Eq.{bytes_eq-Decides}
use Rattle.std.specs.Fmt.{decimal}
use Rattle.std.specs.List.{flat_map}
use Rattle.std.specs.Str.{bytes_eq}
use Rattle.plant_model.specs.declared.board.Cell.{Cell}
use Rattle.plant_model.specs.declared.board.Cell.TheVariants.{Pending, Seen}
use Rattle.plant_model.specs.declared.board.Cells.{Cells}
use Rattle.plant_model.specs.declared.limits.TheConstants.{MOST_GROUPS}
use Rattle.telegram.specs.Numbers.{is_digit}
use Rattle.plant_core.specs.Machine.{is_answer}
use Rattle.plant_core.specs.declared.call.Reply.{Reply}
use Rattle.plant_core.specs.declared.call.Reply.TheVariants as replies
use Rattle.log_text.specs.Fits.{FitsCell, FitsCells, FitsReply, FitsWord}
use Rattle.log_text.proofs.ToldNumbers.{digits-decimal}
use Rattle.log_text.proofs.ToldOutcomes.{wrench_fields}
use Rattle.log_text.proofs.ToldReplies.{cell_field, cell_fields, cell_words, given_part_fields}
use Rattle.log_text.proofs.ToldReplies.{reply_fields}
use Rattle.log_reading.specs.Fields.{Form, all_of, at_first, at_only, by_kind, cut, ended, u32_of}
use Rattle.log_reading.specs.Fields.{word_of}
use Rattle.log_reading.specs.Outcomes.{allocation_of, place_of, wrench_at}
use Rattle.log_reading.specs.Replies.{cell_of, cells_of, cells_with, colon, commanded_of, numbered}
use Rattle.log_reading.specs.Replies.{refused_of, reply_forms, seen_of}
use Rattle.log_reading.proofs.Cuts.{cut_again, cut_takes}
use Rattle.log_reading.proofs.Inverses.{AllSpell, Fields, Reads, Spells, all_again, all_takes}
use Rattle.log_reading.proofs.Inverses.{bind_some, closed, ended_takes, first_reads, kind_takes}
use Rattle.log_reading.proofs.Inverses.{only_takes}
use Rattle.log_reading.proofs.NumberFields.{u32-inverts, word-takes}
use Rattle.log_reading.proofs.OutcomeFields.{allocation_again, allocation_takes, place_again}
use Rattle.log_reading.proofs.OutcomeFields.{place_takes, u32-reads, wrench_again, wrench_takes}

-- ---- cells

seen_takes : (field : List ℕ) (cell : Cell) → seen_of field ≡ Some cell
    → (field ≡ cell_field cell) × FitsCell cell
seen_takes field cell is =
    let a = bind_some (cut colon field) _ cell is in
    let b = bind_some (cut colon a.0.1) _ cell a.2 in
    let version = bind_some (u32_of a.0.0) _ cell b.2 in
    let holds = bind_some (word_of (codes "HOLDS") (codes "LOST") b.0.0) _ cell version.2 in
    let current = bind_some (word_of (codes "CURRENT") (codes "SUPERSEDED") b.0.1) _ cell holds.2 in
    let number = u32-inverts.takes a.0.0 version.0 version.1 in
    let verdict = word-takes (codes "HOLDS") (codes "LOST") b.0.0 holds.0 holds.1 in
    let state = word-takes (codes "CURRENT") (codes "SUPERSEDED") b.0.1 current.0 current.1 in
    closed (List ℕ) Cell cell_field FitsCell field (Seen version.0 holds.0 current.0) cell current.2
    (cut_takes colon field a.0 a.1
    ∙ ap (λ (more : List ℕ). a.0.0 ++ colon ∷ more) (cut_takes colon a.0.1 b.0 b.1)
    ∙ ap (λ (v : List ℕ). v ++ colon ∷ (b.0.0 ++ colon ∷ b.0.1)) number.0
    ∙ ap (λ (w : List ℕ). decimal version.0 ++ colon ∷ (w ++ colon ∷ b.0.1)) verdict
    ∙ ap (λ (w : List ℕ). decimal version.0 ++ colon
    ∷ ((if holds.0 then codes "HOLDS" else codes "LOST") ++ colon ∷ w)) state
    ∙ words_spelled version.0 holds.0 current.0)
    number.1
  where
    words_spelled : (version : ℕ) (holds current : Bool)
        → decimal version ++ colon ∷ ((if holds then codes "HOLDS" else codes "LOST") ++ colon
        ∷ (if current then codes "CURRENT" else codes "SUPERSEDED"))
        ≡ cell_field (Seen version holds current)
    words_spelled version true true = refl
    words_spelled version true false = refl
    words_spelled version false true = refl
    words_spelled version false false = refl

cell_by_test : (field : List ℕ) (cell : Cell) (pending : Bool)
    → bytes_eq field (codes "PENDING") ≡ pending
    → (if pending then Some Pending else seen_of field) ≡ Some cell
    → (field ≡ cell_field cell) × FitsCell cell
cell_by_test field cell true test is =
    closed (List ℕ) Cell cell_field FitsCell field Pending cell is
    ((bytes_eq-Decides field (codes "PENDING")).0 test) tt
cell_by_test field cell false test is = seen_takes field cell is

cell_takes : (field : List ℕ) (cell : Cell) → cell_of field ≡ Some cell
    → (field ≡ cell_field cell) × FitsCell cell
cell_takes field cell is = cell_by_test field cell (bytes_eq field (codes "PENDING")) refl is

cut_digits : (version : ℕ) (words : List ℕ)
    → cut colon (decimal version ++ colon ∷ words) ≡ Some (decimal version, words)
cut_digits version words =
    cut_again is_digit colon refl (decimal version) words (digits-decimal version)

seen_again : (version : ℕ) (holds current : Bool) → FitsWord version
    → seen_of (cell_field (Seen version holds current)) ≡ Some (Seen version holds current)
seen_again version true true fits =
    rw (cut_digits version (cell_words true true), u32-inverts.again version fits) refl
seen_again version true false fits =
    rw (cut_digits version (cell_words true false), u32-inverts.again version fits) refl
seen_again version false true fits =
    rw (cut_digits version (cell_words false true), u32-inverts.again version fits) refl
seen_again version false false fits =
    rw (cut_digits version (cell_words false false), u32-inverts.again version fits) refl

-- the word of a pending cell has no colon
not_pending : (version : ℕ) (words : List ℕ)
    → bytes_eq (decimal version ++ colon ∷ words) (codes "PENDING") ≡ false
not_pending version words = by_test (bytes_eq (decimal version ++ colon ∷ words) (codes "PENDING")) refl
  where
    no_cut : cut colon (codes "PENDING") ≡ None
    no_cut = refl

    by_test : (same : Bool)
        → bytes_eq (decimal version ++ colon ∷ words) (codes "PENDING") ≡ same → same ≡ false
    by_test false test = refl
    by_test true test =
        let equal = (bytes_eq-Decides (decimal version ++ colon ∷ words) (codes "PENDING")).0 test in
        let both = sym (cut_digits version words) ∙ ap (cut colon) equal ∙ no_cut in
        absurd (cc)

cell_again : (cell : Cell) → FitsCell cell → cell_of (cell_field cell) ≡ Some cell
cell_again Pending fits = refl
cell_again (Seen version holds current) fits =
    rw (not_pending version (cell_words holds current)) (seen_again version holds current fits)

cell-reads : Reads Cell (at_first cell_of) (λ cell. cell_field cell ∷ []) FitsCell
cell-reads = first_reads Cell cell_of cell_field FitsCell
    (record { again = cell_again; takes = cell_takes })

cells-spelled : (cells : List Cell) → flat_map (λ cell. cell_field cell ∷ []) cells ≡ cell_fields cells
cells-spelled [] = refl
cells-spelled (cell ∷ cells) = ap (λ (more : Fields). cell_field cell ∷ more) (cells-spelled cells)

some_cell : (cell : Cell)
    → (field : List ℕ) × (more : Fields) × ((cell_field cell ∷ []) ≡ field ∷ more)
some_cell cell = (cell_field cell, [], refl)

cell_items_again : (cells : Cells) → FitsCells cells
    → all_of (at_first cell_of) MOST_GROUPS (cell_fields cells.list.items) ≡ Some cells.list.items
cell_items_again cells fits =
    ap (all_of (at_first cell_of) MOST_GROUPS) (sym (cells-spelled cells.list.items))
    ∙ all_again Cell (at_first cell_of) (λ cell. cell_field cell ∷ []) FitsCell cell-reads some_cell
    MOST_GROUPS cells.list.items
    (fits.few, recursion_from_All FitsCell cells.list.items fits.each)

-- ---- replies

abbrev IsReplySpelled : Form Reply → Type 0
IsReplySpelled = Spells Reply reply_fields FitsReply

plain_spells : (kind : List ℕ) (reply : Reply) → reply_fields reply ≡ kind ∷ [] → FitsReply reply
    → IsReplySpelled (record { kind = kind; read = ended reply })
plain_spells kind reply spelled fits rest other is =
    let taken = ended_takes reply rest other is in
    subst (λ (r : Reply). (kind ∷ rest ≡ reply_fields r) × FitsReply r) taken.1
    (ap (λ (more : Fields). kind ∷ more) taken.0 ∙ sym spelled, fits)

numbered_spells : (kind : List ℕ) (make : ℕ → Reply)
    → ((n : ℕ) → reply_fields (make n) ≡ kind ∷ decimal n ∷ [])
    → ((n : ℕ) → FitsWord n → FitsReply (make n))
    → IsReplySpelled (record { kind = kind; read = numbered make })
numbered_spells kind make spelled fits rest reply is =
    let a = bind_some (at_only u32_of rest) _ reply is in
    let taken = only_takes ℕ u32_of decimal FitsWord u32-inverts rest a.0 a.1 in
    closed Fields Reply reply_fields FitsReply (kind ∷ rest) (make a.0) reply a.2
    (ap (λ (more : Fields). kind ∷ more) taken.0 ∙ sym (spelled a.0)) (fits a.0 taken.1)

cells_with_takes : (latest : ℕ) (parts : Fields) (cells : Cells) → FitsWord latest
    → cells_with latest parts ≡ Some cells
    → (parts ≡ cell_fields cells.list.items) × (cells.latest ≡ latest) × FitsCells cells
cells_with_takes latest parts cells word is =
    let a = bind_some (all_of (at_first cell_of) MOST_GROUPS parts) _ cells is in
    let items = all_takes Cell (at_first cell_of) (λ cell. cell_field cell ∷ []) FitsCell cell-reads
    some_cell MOST_GROUPS parts a.0 a.1 in
    subst (λ (c : Cells).
    (parts ≡ cell_fields c.list.items) × (c.latest ≡ latest) × FitsCells c)
    (same_Some (record { latest = latest; list = record { items = a.0 } }) cells a.2) (
      items.0 ∙ cells-spelled a.0,
      refl,
      record {
        latest = word;
        few = items.1.0;
        each = All-from_recursion FitsCell a.0 items.1.1;
      },
    )

cells_spells : IsReplySpelled (record { kind = codes "CELLS"; read = cells_of })
cells_spells rest reply is =
    let a = bind_some (at_first u32_of rest) _ reply is in
    let b = bind_some (cells_with a.0.0 a.0.1) _ reply a.2 in
    let latest = u32-reads.takes rest a.0.0 a.0.1 a.1 in
    let cells = cells_with_takes a.0.0 a.0.1 b.0 latest.1 b.1 in
    closed Fields Reply reply_fields FitsReply (codes "CELLS" ∷ rest) (replies.Cells b.0) reply b.2
    (ap (λ (more : Fields). codes "CELLS" ∷ more) (latest.0
    ∙ ap₂ (λ (n : ℕ) (more : Fields). decimal n ∷ more) (sym cells.1) cells.0))
    cells.2

commanded_spells : IsReplySpelled (record { kind = codes "COMMANDED"; read = commanded_of })
commanded_spells rest reply is =
    let a = bind_some (at_first u32_of rest) _ reply is in
    let b = bind_some (wrench_at a.0.1) _ reply a.2 in
    let c = bind_some (allocation_of b.0.1) _ reply b.2 in
    let version = u32-reads.takes rest a.0.0 a.0.1 a.1 in
    let demand = wrench_takes a.0.1 b.0.0 b.0.1 b.1 in
    let given = allocation_takes b.0.1 c.0 c.1 in
    closed Fields Reply reply_fields FitsReply (codes "COMMANDED" ∷ rest)
    (replies.Commanded a.0.0 b.0.0 c.0) reply c.2
    (ap (λ (more : Fields). codes "COMMANDED" ∷ more) (version.0
    ∙ ap (λ (more : Fields). decimal a.0.0 ∷ more) (demand.0
    ∙ ap (λ (more : Fields). wrench_fields b.0.0 ++ more) given.0)))
    (version.1, demand.1, given.1)

refused_spells : IsReplySpelled (record { kind = codes "REFUSED"; read = refused_of })
refused_spells rest reply is =
    let a = bind_some (place_of rest) _ reply is in
    let place = place_takes rest a.0 a.1 in
    closed Fields Reply reply_fields FitsReply (codes "REFUSED" ∷ rest) (replies.Refused a.0) reply
    a.2 (ap (λ (more : Fields). codes "REFUSED" ∷ more) place.0) place.1

verdicts_spell : AllSpell Reply reply_fields FitsReply (record { kind = codes "SHOWN"; read = ended replies.Shown }
    ∷ record { kind = codes "SUPERSEDED"; read = numbered (λ n. replies.Superseded n) }
    ∷ record { kind = codes "UNKNOWN"; read = numbered (λ n. replies.Unknown n) }
    ∷ record { kind = codes "ALREADY"; read = ended replies.Already }
    ∷ record { kind = codes "REFUSED"; read = refused_of } ∷ [])
verdicts_spell = (
  plain_spells (codes "SHOWN") replies.Shown refl tt,
  (
    numbered_spells (codes "SUPERSEDED") (λ n. replies.Superseded n) (λ n. refl) (λ n fits. fits),
    (
      numbered_spells (codes "UNKNOWN") (λ n. replies.Unknown n) (λ n. refl) (λ n fits. fits),
      (plain_spells (codes "ALREADY") replies.Already refl tt, (refused_spells, tt)),
    ),
  ),
)

replies_spell : AllSpell Reply reply_fields FitsReply reply_forms
replies_spell = (
  numbered_spells (codes "VERSION") (λ n. replies.Version n) (λ n. refl) (λ n fits. fits),
  (
    plain_spells (codes "SAME") replies.Same refl tt,
    (
      plain_spells (codes "TAKEN") replies.Taken refl tt,
      (
        plain_spells (codes "UNKNOWN-NAME") replies.UnknownName refl tt,
        (
          plain_spells (codes "NO-PIECE") replies.NoPiece refl tt,
          (
            commanded_spells,
            (
              numbered_spells (codes "LATE") (λ n. replies.Late n) (λ n. refl) (λ n fits. fits),
              (
                plain_spells (codes "WRONG-MODE") replies.WrongMode refl tt,
                (
                  plain_spells (codes "NOTED") replies.Noted refl tt,
                  (
                    plain_spells (codes "NO-SUCH-ALARM") replies.NoSuchAlarm refl tt,
                    (cells_spells, verdicts_spell),
                  ),
                ),
              ),
            ),
          ),
        ),
      ),
    ),
  ),
)

-- what is read is an answer
answer_from_fields : (reply : Reply) (kind : List ℕ) (rest : Fields)
    → kind ∷ rest ≡ reply_fields reply → is_answer reply ≡ true
answer_from_fields (replies.Version number) kind rest is = refl
answer_from_fields replies.Same kind rest is = refl
answer_from_fields replies.Taken kind rest is = refl
answer_from_fields replies.UnknownName kind rest is = refl
answer_from_fields replies.NoPiece kind rest is = refl
answer_from_fields (replies.Commanded version demand a) kind rest is = refl
answer_from_fields (replies.Late last) kind rest is = refl
answer_from_fields replies.WrongMode kind rest is = refl
answer_from_fields replies.Noted kind rest is = refl
answer_from_fields replies.NoSuchAlarm kind rest is = refl
answer_from_fields (replies.Cells cells) kind rest is = refl
answer_from_fields replies.Shown kind rest is = refl
answer_from_fields (replies.Superseded latest) kind rest is = refl
answer_from_fields (replies.Unknown latest) kind rest is = refl
answer_from_fields replies.Already kind rest is = refl
answer_from_fields (replies.Refused place) kind rest is = refl
answer_from_fields replies.JournalFull kind rest is = absurd (cc)
answer_from_fields replies.Closed kind rest is = absurd (cc)

pub record IsReplyTaken (parts : Fields) (reply : Reply) : Type 0 where
  pub spelled : parts ≡ reply_fields reply
  pub answered : is_answer reply ≡ true
  pub fits : FitsReply reply

pub by_fields_takes : (parts : Fields) (reply : Reply) → by_kind reply_forms parts ≡ Some reply
    → IsReplyTaken parts reply
by_fields_takes [] reply is = absurd (cc)
by_fields_takes (kind ∷ rest) reply is =
    let taken = kind_takes Reply reply_fields FitsReply reply_forms replies_spell (kind ∷ rest) reply
    is in
    record {
      spelled = taken.0;
      answered = answer_from_fields reply kind rest taken.0;
      fits = taken.1;
    }

pub by_fields_again : (reply : Reply) → is_answer reply ≡ true → FitsReply reply
    → by_kind reply_forms (reply_fields reply) ≡ Some reply
by_fields_again (replies.Version number) answered fits = rw (u32-inverts.again number fits) refl
by_fields_again replies.Same answered fits = refl
by_fields_again replies.Taken answered fits = refl
by_fields_again replies.UnknownName answered fits = refl
by_fields_again replies.NoPiece answered fits = refl
by_fields_again (replies.Commanded version demand a) answered fits =
    rw (
      u32-inverts.again version fits.0,
      wrench_again demand (given_part_fields a) fits.1,
      allocation_again a fits.2,
    ) refl
by_fields_again (replies.Late last) answered fits = rw (u32-inverts.again last fits) refl
by_fields_again replies.WrongMode answered fits = refl
by_fields_again replies.Noted answered fits = refl
by_fields_again replies.NoSuchAlarm answered fits = refl
by_fields_again (replies.Cells cells) answered fits =
    rw (u32-inverts.again cells.latest fits.latest, cell_items_again cells fits) refl
by_fields_again replies.Shown answered fits = refl
by_fields_again (replies.Superseded latest) answered fits =
    rw (u32-inverts.again latest fits) refl
by_fields_again (replies.Unknown latest) answered fits = rw (u32-inverts.again latest fits) refl
by_fields_again replies.Already answered fits = refl
by_fields_again (replies.Refused place) answered fits = rw (place_again place fits) refl
by_fields_again replies.JournalFull answered fits = absurd (cc)
by_fields_again replies.Closed answered fits = absurd (cc)
