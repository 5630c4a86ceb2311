-- What a session writes, line by line: where its log begins, and where a text is another first.
use Rattle.std.proofs.Common.{◌≡◌, ◌∙◌, ℕ, suc, ◌+◌, ◌-◌, ◌<◌, List, [], ◌∷◌, ◌++◌, length}
use Rattle.std.proofs.Common.{take, drop, true, false, Bool, cond, IsTrue, Option, Some, None, refl, ap, ap₂, sym, subst}
use Rattle.std.proofs.Common.{◌⊎◌, arith, append_assoc, append-nil, inl, inr, length-append}
use Rattle.std.proofs.lemmas.Bool.Decides.{nat_tests}
use Rattle.std.proofs.lemmas.List.{take-append-drop, take-append-le, take_all}
use Rattle.std.proofs.lemmas.List.Elements.{recursion_from_All}
use Rattle.std.proofs.lemmas.Slice.Eq.{bytes_eq-Decides}
use Rattle.std.proofs.Math.Seq.{drop-append_seam}
use Rattle.std.specs.List.{AllByRecursion, common_prefix_len, position, position_or_len}
use Rattle.std.specs.Str.{bytes_eq}
use Rattle.frame.specs.Frames.{whole_lines}
use Rattle.plant_model.specs.declared.parts.Thruster.{Thruster}
use Rattle.plant_model.specs.Names.{is_name}
use Rattle.plant_model.specs.declared.plant.Parts.{Parts}
use Rattle.plant_core.specs.declared.call.Entry.{Entry}
use Rattle.log_text.specs.Commands.{commands_text}
use Rattle.log_audit.specs.Accepted.{IsLogged, Tells, log_part, session_text}
use Rattle.log_audit.specs.FirstBad.{IsFirstBad, SomeBegins, first_lines, text_of}
use Rattle.log_audit.specs.Lines.{AreLines, HasNames, HasNoFeed}
use Rattle.log_audit.specs.Sessions.{IsBadSession, IsFirstBadFrom, IsFirstOther, begins_log, behind}
use Rattle.log_audit.specs.Sessions.{NoneBegins, is_framed, lines_before_log}
use Rattle.log_audit.proofs.Frames.{framed-commands}
use Rattle.log_audit.proofs.Parts.{part-lines}
use Rattle.log_audit.proofs.Readings.{head-good, named}
use Rattle.log_audit.proofs.Streams.{first-lines, lines-append, text-append, text-same, whole-lines}
use Rattle.log_audit.proofs.Streams.{lines-have_none, lines-taken, whole-piece}

-- ---- the first bad line of a text that goes on from the front of another

module _ (Is : List ℕ → Type 0) (lines : List (List ℕ)) (good : AreLines lines) (rest : List ℕ)
    (is : Is (text_of lines ++ rest)) where
  begins_so : (text : List ℕ) (count : ℕ) → first_lines count text ≡ text_of (take count lines)
      → SomeBegins Is count text
  begins_so text count front =
      let behind_it : List ℕ = text_of (drop count lines) ++ rest in
      let joined : text_of lines ++ rest ≡ first_lines count text ++ behind_it =
      ap (λ (all : List (List ℕ)). text_of all ++ rest) (sym (take-append-drop count lines))
      ∙ ap (λ (t : List ℕ). t ++ rest) (text-append (take count lines) (drop count lines))
      ∙ append_assoc (text_of (take count lines)) (text_of (drop count lines)) rest
      ∙ ap (λ (t : List ℕ). t ++ behind_it) (sym front) in
      (behind_it, subst Is joined is)

  pub bad_next : (own more : List ℕ) → HasNoFeed own
      → ((others : List ℕ) → Is (text_of (lines ++ own ∷ []) ++ others) → ⊥)
      → IsFirstBad Is (text_of (lines ++ own ∷ []) ++ more) (length lines + 1)
  bad_next own more other none =
      let text = text_of (lines ++ own ∷ []) ++ more in
      let all_good = lines-append lines (own ∷ []) good (other, tt) in
      let size : length (lines ++ own ∷ []) ≡ length lines + 1 = length-append lines (own ∷ []) in
      let whole : whole_lines text ≡ (lines ++ own ∷ []) ++ whole_lines more =
      whole-lines (lines ++ own ∷ []) more all_good in
      let count : length (whole_lines text) ≡ length (lines ++ own ∷ []) + length (whole_lines more) =
      ap length whole ∙ length-append (lines ++ own ∷ []) (whole_lines more) in
      let front : first_lines (length lines + 1) text ≡ text_of (lines ++ own ∷ []) =
      first-lines (length lines + 1) (lines ++ own ∷ []) more all_good (omega (arith, size))
      ∙ ap text_of (take_all (length lines + 1) (lines ++ own ∷ []) (omega (arith, size))) in
      record {
        from_1 = omega arith;
        before = λ earlier some less.
            begins_so text earlier
            (first-lines earlier (lines ++ own ∷ []) more all_good (omega (arith, size, less))
            ∙ ap text_of (take-append-le earlier lines (own ∷ []) (omega (arith, less))));
        bad = inl (
          omega (arith, count, size),
          λ begins. none begins.0 (subst (λ (t : List ℕ). Is (t ++ begins.0)) front begins.1),
        );
      }

  pub bad_end : (piece : List ℕ) → HasNoFeed piece
      → IsFirstBad Is (text_of lines ++ piece) (length lines + 1)
  bad_end piece other =
      let text = text_of lines ++ piece in
      let whole : whole_lines text ≡ lines =
      whole-lines lines piece good
      ∙ ap (λ (back : List (List ℕ)). lines ++ back) (whole-piece piece other) ∙ append-nil lines in
      record {
        from_1 = omega arith;
        before = λ earlier some less.
            begins_so text earlier (first-lines earlier lines piece good (omega (arith, less)));
        bad = inr (ap (λ (all : List (List ℕ)). length all + 1) (sym whole));
      }

-- ---- where the log begins

-- the first whole line of this text does
pub record BeginsLog (text : List ℕ) : Type 0 where
  pub own : List ℕ
  pub more : List (List ℕ)
  pub is : whole_lines text ≡ own ∷ more
  pub begins : begins_log own ≡ true

before-log : (front : List (List ℕ)) (own : List ℕ) (more : List (List ℕ)) → NoneBegins front
    → begins_log own ≡ true → position_or_len begins_log (front ++ own ∷ more) ≡ length front
before-log [] own more none begins = rw begins refl
before-log (first ∷ front) own more none begins =
    let one : begins_log first ≡ false = none.0 in
    let up = before-log front own more none.1 begins in
    rw one (omega (arith, up))

no_log : (lines : List (List ℕ)) → NoneBegins lines
    → position_or_len begins_log lines ≡ length lines
no_log [] none = refl
no_log (first ∷ lines) none =
    let one : begins_log first ≡ false = none.0 in
    let up = no_log lines none.1 in
    rw one (omega (arith, up))

position-some : (lines : List (List ℕ)) (n : ℕ) → position_or_len begins_log lines ≡ n
    → n < length lines → position begins_log lines ≡ Some n
position-some lines n is less = grind (arith, nat_tests)

position-none : (lines : List (List ℕ)) → position_or_len begins_log lines ≡ length lines
    → position begins_log lines ≡ None
position-none lines is = grind (arith, nat_tests)

module _ (front : List (List ℕ)) (good : AreLines front) (none : NoneBegins front) where
  pub finds_log : (part : List ℕ) → BeginsLog part
      → lines_before_log (text_of front ++ part) ≡ Some (length front)
  finds_log part begins =
      let whole : whole_lines (text_of front ++ part) ≡ front ++ begins.own ∷ begins.more =
      whole-lines front part good ∙ ap (λ (all : List (List ℕ)). front ++ all) begins.is in
      let size : length (front ++ begins.own ∷ begins.more) ≡ length front + length (begins.own ∷ begins.more) =
      length-append front (begins.own ∷ begins.more) in
      ap (position begins_log) whole
      ∙ position-some (front ++ begins.own ∷ begins.more) (length front)
      (before-log front begins.own begins.more none begins.begins) (omega (arith, size))

  pub behind-front : (part : List ℕ) → behind (length front) (text_of front ++ part) ≡ part
  behind-front part =
      let seen : first_lines (length front) (text_of front ++ part) ≡ text_of front =
      first-lines (length front) front part good (omega arith)
      ∙ ap text_of (take_all (length front) front (omega arith)) in
      ap (λ (t : List ℕ). drop (length t) (text_of front ++ part)) seen
      ∙ drop-append_seam (text_of front) part

abbrev AreNamedThrusters : List Thruster → Type 0
AreNamedThrusters thrusters =
    AllByRecursion (λ (t : Thruster). IsTrue (is_name t.name)) thrusters

pub none-framed : (lines : List (List ℕ))
    → AllByRecursion (λ own. (is_framed own ≡ true) × (begins_log own ≡ false)) lines
    → NoneBegins lines
none-framed [] each = tt
none-framed (own ∷ lines) each = (each.0.1, none-framed lines each.1)

module _ (plant : Parts) (names : HasNames plant) where
  thrusters : AreNamedThrusters plant.thrusters.items
  thrusters =
      recursion_from_All (λ (t : Thruster). IsTrue (is_name t.name)) plant.thrusters.items
      names.thrusters

  pub part-begins_log : (history : List Entry) → IsLogged plant history
      → BeginsLog (log_part plant history)
  part-begins_log history logged = record {
    own = _;
    more = _;
    is = part-lines plant (named plant names) names.distinct (head-good plant names) history logged;
    begins = refl;
  }

  -- the part from the log on of what a session writes
  pub session-part : (text : List ℕ) (told : Tells session_text plant text) (lines : ℕ)
      → lines_before_log text ≡ Some lines → behind lines text ≡ log_part plant told.history
  session-part text told lines at =
      let framed = framed-commands plant told.history thrusters in
      let none = none-framed framed.lines framed.each in
      let part = log_part plant told.history in
      let is : text ≡ text_of framed.lines ++ part =
      told.is ∙ ap (λ (t : List ℕ). t ++ part) framed.is in
      let found : Some (length framed.lines) ≡ Some lines =
      sym (finds_log framed.lines framed.good none part (part-begins_log told.history told.logged))
      ∙ ap lines_before_log (sym is) ∙ at in
      let count : length framed.lines ≡ lines = cc (found) in
      ap (λ (n : ℕ). behind n text) (sym count) ∙ ap (behind (length framed.lines)) is
      ∙ behind-front framed.lines framed.good none part

  session-log : (text : List ℕ) → Tells session_text plant text → lines_before_log text ≡ None → ⊥
  session-log text told at =
      let framed = framed-commands plant told.history thrusters in
      let part = log_part plant told.history in
      let is : text ≡ text_of framed.lines ++ part =
      told.is ∙ ap (λ (t : List ℕ). t ++ part) framed.is in
      let found : Some (length framed.lines) ≡ None =
      sym (finds_log framed.lines framed.good (none-framed framed.lines framed.each) part
      (part-begins_log told.history told.logged))
      ∙ ap lines_before_log (sym is) ∙ at in
      absurd (cc (found))

  -- a text of which no line begins a log is bad at its end
  pub bad_unlogged : (text : List ℕ) → NoneBegins (whole_lines text)
      → IsBadSession plant text (length (whole_lines text) + 1)
  bad_unlogged text none =
      let at : lines_before_log text ≡ None =
      position-none (whole_lines text) (no_log (whole_lines text) none) in
      record {
        refused = λ told. session-log text told at;
        first = subst (λ (before : Option ℕ).
            IsFirstBadFrom before plant text (length (whole_lines text) + 1)) (sym at) refl;
      }

  module _ (front : List (List ℕ)) (good : AreLines front) (none : NoneBegins front)
      (part : List ℕ) (begins : BeginsLog part) where
    abbrev text : List ℕ
    text = text_of front ++ part

    refused-by : (Tells log_part plant part → ⊥) → Tells session_text plant text → ⊥
    refused-by bad told =
        bad (record {
          history = told.history;
          logged = told.logged;
          is = sym (behind-front front good none part)
              ∙ session-part text told (length front) (finds_log front good none part begins);
        })

    -- a text that is bad in the part from the log on
    pub bad_part : (own : ℕ) → (Tells log_part plant part → ⊥)
        → IsFirstBad (Tells log_part plant) part own → IsBadSession plant text (length front + own)
    bad_part own bad first = record {
      refused = refused-by bad;
      first = subst (λ (before : Option ℕ). IsFirstBadFrom before plant text (length front + own))
          (sym (finds_log front good none part begins))
          (subst (λ (t : List ℕ). ((¬ Tells log_part plant t)
          × (n : ℕ) × (length front + own ≡ length front + n)
          × IsFirstBad (Tells log_part plant) t n)
          ⊎ ((log : Tells log_part plant t)
          × IsFirstOther text (commands_text plant log.history ++ t) (length front + own)))
          (sym (behind-front front good none part)) (inl (bad, own, refl, first)));
    }

    -- a text of which a line before the log is bad
    pub bad_frames : (log : Tells log_part plant part) (number : ℕ)
        → (Tells session_text plant text → ⊥)
        → IsFirstOther text (commands_text plant log.history ++ part) number
        → IsBadSession plant text number
    bad_frames log number bad first = record {
      refused = bad;
      first = subst (λ (before : Option ℕ). IsFirstBadFrom before plant text number)
          (sym (finds_log front good none part begins))
          (subst (λ (t : List ℕ). ((¬ Tells log_part plant t)
          × (n : ℕ) × (number ≡ length front + n)
          × IsFirstBad (Tells log_part plant) t n)
          ⊎ ((told : Tells log_part plant t)
          × IsFirstOther text (commands_text plant told.history ++ t) number))
          (sym (behind-front front good none part)) (inr (log, first)));
    }

-- ---- the first line at which frames differ

-- the lists of lines are the same up to this place, and not with the line behind
record PartAt (xs ys : List (List ℕ)) (n : ℕ) : Type 0 where
  same : take n xs ≡ take n ys
  apart : ¬ (take (suc n) xs ≡ take (suc n) ys)

part_at-first : (x y : List ℕ) (xs ys : List (List ℕ)) → (x ≡ y → ⊥) → PartAt (x ∷ xs) (y ∷ ys) 0
part_at-first x y xs ys other =
    record { same = refl; apart = λ same. other (cc (same)) }

part_at-next : (x y : List ℕ) (xs ys : List (List ℕ)) (n : ℕ) → x ≡ y → PartAt xs ys n
    → PartAt (x ∷ xs) (y ∷ ys) (suc n)
part_at-next x y xs ys n one behind_it = record {
  same = ap₂ (λ (l : List ℕ) (ls : List (List ℕ)). l ∷ ls) one behind_it.same;
  apart = λ same. behind_it.apart (cc (same));
}

part_at-test : (x y : List ℕ) (xs ys : List (List ℕ)) (n : ℕ) (test : Bool)
    → bytes_eq x y ≡ test → (x ≡ y → PartAt xs ys n)
    → PartAt (x ∷ xs) (y ∷ ys) (cond test (1 + n) 0)
part_at-test x y xs ys n true is behind_it =
    let one : x ≡ y = (bytes_eq-Decides x y).0 is in
    let up : suc n ≡ 1 + n = omega arith in
    subst (PartAt (x ∷ xs) (y ∷ ys)) up (part_at-next x y xs ys n one (behind_it one))
part_at-test x y xs ys n false is behind_it =
    part_at-first x y xs ys (λ same. let equal = (bytes_eq-Decides x y).1 same in absurd (cc (equal, is)))

-- a line that begins a log is none of the others
apart_from : (own other : List ℕ) → begins_log own ≡ true → begins_log other ≡ false
    → own ≡ other → ⊥
apart_from own other here there same =
    let both : true ≡ false = sym here ∙ ap begins_log same ∙ there in absurd (cc (both))

module _ (own : List ℕ) (more : List (List ℕ)) (begins : begins_log own ≡ true) where
  first_apart : (xs ys : List (List ℕ)) → NoneBegins xs → NoneBegins ys → (xs ≡ ys → ⊥)
      → PartAt (xs ++ own ∷ more) (ys ++ own ∷ more) (common_prefix_len bytes_eq xs ys)
  first_apart [] [] first second other = absurd (other refl)
  first_apart [] (y ∷ ys) first second other =
      part_at-first own y more (ys ++ own ∷ more) (apart_from own y begins second.0)
  first_apart (x ∷ xs) [] first second other =
      part_at-first x own (xs ++ own ∷ more) more
      (λ same. apart_from own x begins first.0 (sym same))
  first_apart (x ∷ xs) (y ∷ ys) first second other =
      part_at-test x y (xs ++ own ∷ more) (ys ++ own ∷ more) (common_prefix_len bytes_eq xs ys)
      (bytes_eq x y) refl
      (λ one. first_apart xs ys first.1 second.1
      (λ same. other (ap₂ (λ (l : List ℕ) (ls : List (List ℕ)). l ∷ ls) one same)))

-- the first line at which a text is another
pub other-at : (front frames : List (List ℕ)) (part : List ℕ) → AreLines front → AreLines frames
    → NoneBegins front → NoneBegins frames → BeginsLog part → (front ≡ frames → ⊥)
    → IsFirstOther (text_of front ++ part) (text_of frames ++ part)
    (common_prefix_len bytes_eq front frames + 1)
other-at front frames part good frames_good none frames_none begins other =
    let n = common_prefix_len bytes_eq front frames in
    let one : whole_lines (text_of front ++ part) ≡ front ++ begins.own ∷ begins.more =
    whole-lines front part good ∙ ap (λ (all : List (List ℕ)). front ++ all) begins.is in
    let two : whole_lines (text_of frames ++ part) ≡ frames ++ begins.own ∷ begins.more =
    whole-lines frames part frames_good ∙ ap (λ (all : List (List ℕ)). frames ++ all) begins.is in
    let at = first_apart begins.own begins.more begins.begins front frames none frames_none other in
    let before : n + 1 - 1 ≡ n = omega arith in
    let next : n + 1 ≡ suc n = omega arith in
    record {
      from_1 = omega arith;
      same = ap (λ (k : ℕ). first_lines k (text_of front ++ part)) before
          ∙ ap (λ (all : List (List ℕ)). text_of (take n all)) one
          ∙ ap text_of at.same
          ∙ ap (λ (all : List (List ℕ)). text_of (take n all)) (sym two)
          ∙ ap (λ (k : ℕ). first_lines k (text_of frames ++ part)) (sym before);
      differs = λ same.
          let lines : take (n + 1) (whole_lines (text_of front ++ part))
          ≡ take (n + 1) (whole_lines (text_of frames ++ part)) =
          text-same (take (n + 1) (whole_lines (text_of front ++ part)))
          (take (n + 1) (whole_lines (text_of frames ++ part)))
          (lines-taken (n + 1) (whole_lines (text_of front ++ part))
          (lines-have_none (text_of front ++ part)))
          (lines-taken (n + 1) (whole_lines (text_of frames ++ part))
          (lines-have_none (text_of frames ++ part))) same in
          at.apart (ap (λ (k : ℕ). take k (front ++ begins.own ∷ begins.more)) (sym next)
          ∙ ap (take (n + 1)) (sym one) ∙ lines ∙ ap (take (n + 1)) two
          ∙ ap (λ (k : ℕ). take k (frames ++ begins.own ∷ begins.more)) next);
    }
