-- What one item more does to what is written.
use Rattle.std.proofs.Common.{◌≡◌, ◌∙◌, ℕ, ◌+◌, List, [], ◌∷◌, ◌++◌, Bool, Option, Some, None, refl, ap, false, fold}
use Rattle.std.proofs.Common.{sym, arith, append_assoc}
use Rattle.std.proofs.lemmas.List.{append-nil}
use Rattle.std.proofs.lemmas.List.Elements.{filter_map-append}
use Rattle.std.proofs.lemmas.List.Sums.{fold-append, sum_by-append}
use Rattle.std.specs.List.{cons_option}
use Rattle.std.specs.Option.{option_to_list}
use Rattle.std.specs.Prelude.{count_by, if◌then◌else◌}
use Rattle.frame.specs.declared.item.Item.{Item}
use Rattle.sensor_vote.specs.Rounds.{answers_after, is_ending, voted}
use Rattle.sensor_vote.specs.declared.reference.Reference.{Reference}
use Rattle.sensor_vote.specs.declared.vote.Voted.{Voted}
use Rattle.sensor_vote.specs.Texts.{bad_after, bad_in, dropped_in, ended_after, heard, is_dropped}
use Rattle.sensor_vote.specs.Texts.{is_round, references, rounds_in, taken_of}
use Rattle.sensor_vote.specs.Texts.{written_after, written_for, written_of}

-- one element more
count_by-one : {X : Type 0} (p : X → Bool) (xs : List X) (x : X)
    → count_by p (xs ++ x ∷ []) ≡ count_by p xs + (if p x then 1 else 0)
count_by-one p xs x = grind (arith, sum_by-append)

-- ---- references

one_taken : (place : Option Reference) → cons_option place [] ≡ option_to_list place
one_taken None = refl
one_taken (Some r) = refl

pub references-append : (items : List Item) (item : Item)
    → references (items ++ item ∷ []) ≡ references items ++ option_to_list (taken_of (heard item))
references-append items item =
    filter_map-append (λ one. taken_of (heard one)) items (item ∷ [])
    ∙ ap (λ (more : List Reference). references items ++ more) (one_taken (taken_of (heard item)))

answers_after-append : (before rs : List Reference) (r : Reference)
    → answers_after before (rs ++ r ∷ []) ≡ answers_after before rs ++ voted (before ++ rs) r ∷ []
answers_after-append before [] r =
    ap (λ (taken : List Reference). voted taken r ∷ []) (sym (append-nil before))
answers_after-append before (q ∷ rs) r =
    ap (λ (more : List Voted). voted before q ∷ more)
    (answers_after-append (before ++ q ∷ []) rs r
    ∙ ap (λ (taken : List Reference). answers_after (before ++ q ∷ []) rs ++ voted taken r ∷ [])
    (append_assoc before (q ∷ []) rs))

pub answers-append : (rs : List Reference) (r : Reference)
    → answers_after [] (rs ++ r ∷ []) ≡ answers_after [] rs ++ voted rs r ∷ []
answers-append rs r = answers_after-append [] rs r

pub bad_in-append : (rs : List Reference) (r : Reference)
    → bad_in (rs ++ r ∷ []) ≡ bad_after (bad_in rs) (voted rs r)
bad_in-append rs r =
    ap (λ (answers : List Voted). fold bad_after (false ∷ false ∷ false ∷ []) answers)
    (answers-append rs r)
    ∙ fold-append bad_after (false ∷ false ∷ false ∷ []) (answers_after [] rs) (voted rs r ∷ [])

ended_after-append : (before rs : List Reference) (r : Reference)
    → ended_after before (rs ++ r ∷ [])
    ≡ ended_after before rs + (if is_ending (before ++ rs) r.moment then 1 else 0)
ended_after-append before [] r =
    ap (λ (taken : List Reference). (if is_ending taken r.moment then 1 else 0) + 0)
    (sym (append-nil before)) ∙ omega arith
ended_after-append before (q ∷ rs) r =
    let rest = ended_after-append (before ++ q ∷ []) rs r in
    let same : (if is_ending ((before ++ q ∷ []) ++ rs) r.moment then 1 else 0)
    ≡ (if is_ending (before ++ q ∷ rs) r.moment then 1 else 0) =
    ap (λ (taken : List Reference). if is_ending taken r.moment then 1 else 0)
    (append_assoc before (q ∷ []) rs) in
    ap (λ (more : ℕ). (if is_ending before q.moment then 1 else 0) + more)
    (rest ∙ ap (λ (last : ℕ). ended_after (before ++ q ∷ []) rs + last) same)
    ∙ omega arith

pub ended-append : (rs : List Reference) (r : Reference) → ended_after [] (rs ++ r ∷ [])
    ≡ ended_after [] rs + (if is_ending rs r.moment then 1 else 0)
ended-append rs r = ended_after-append [] rs r

pub rounds-append : (rs : List Reference) (r : Reference) → rounds_in (rs ++ r ∷ [])
    ≡ rounds_in rs + (if is_round (voted rs r) then 1 else 0)
rounds-append rs r =
    ap (count_by is_round) (answers-append rs r) ∙ count_by-one is_round (answers_after [] rs) (voted rs r)

pub dropped-append : (items : List Item) (item : Item) → dropped_in (items ++ item ∷ [])
    ≡ dropped_in items + (if is_dropped (heard item) then 1 else 0)
dropped-append items item = count_by-one (λ one. is_dropped (heard one)) items item

-- ---- what is written

pub written_after-append : (report : Bool) (before items : List Item) (item : Item)
    → written_after report before (items ++ item ∷ []) ≡ written_after report before items
    ++ written_for report (references (before ++ items)) (heard item)
written_after-append report before [] item =
    append-nil (written_for report (references before) (heard item))
    ∙ ap (λ (b : List Item). written_for report (references b) (heard item)) (sym (append-nil before))
written_after-append report before (first ∷ items) item =
    let w = written_for report (references before) (heard first) in
    let rest = written_after report (before ++ first ∷ []) items in
    ap (λ (more : List ℕ). w ++ more)
    (written_after-append report (before ++ first ∷ []) items item
    ∙ ap (λ (b : List Item). rest ++ written_for report (references b) (heard item))
    (append_assoc before (first ∷ []) items))
    ∙ sym (append_assoc w rest (written_for report (references (before ++ first ∷ items)) (heard item)))

pub written-append : (report : Bool) (items : List Item) (item : Item)
    → written_of report (items ++ item ∷ [])
    ≡ written_of report items ++ written_for report (references items) (heard item)
written-append report items item = written_after-append report [] items item
