-- What lines make of an auditor of all that a session writes.
use Rattle.std.proofs.Common.{◌≡◌, ◌∙◌, ℕ, suc, ◌+◌, ◌-◌, ◌<◌, ◌≤◌, List, [], ◌∷◌, ◌++◌, length, refl, ap, sym, subst}
use Rattle.std.proofs.Common.{drop, map, min, codes, ◌==◌, arith, append_assoc, append-nil, Bool, true, false, cond, IsTrue, length-append}
use Rattle.std.proofs.lemmas.List.{append_cancel_left, drop_all, length-drop}
use Rattle.std.proofs.lemmas.List.Elements.{All-append, All-nil, recursion_from_All}
use Rattle.std.proofs.lemmas.Slice.Eq.{bytes_eq-Decides}
use Rattle.std.specs.List.{AllByRecursion, common_prefix_len, flat_map, zip}
use Rattle.std.specs.Str.{bytes_eq}
use Rattle.frame.specs.Frames.{line_feed, open_line, whole_lines}
use Rattle.plant_model.specs.Names.{is_name}
use Rattle.plant_model.specs.declared.parts.Thruster.{Thruster}
use Rattle.plant_model.specs.declared.plant.Parts.{Parts}
use Rattle.plant_core.specs.Board.{cells_of}
use Rattle.plant_core.specs.Machine.{CoreView, Stand}
use Rattle.plant_core.specs.declared.call.Entry.{Entry}
use Rattle.log_text.specs.Commands.{command_text, commands_text}
use Rattle.log_text.specs.Fits.{FitsEntry}
use Rattle.log_text.specs.Lines.{line}
use Rattle.log_text.specs.Texts.{alarms_text, group_text, report_head, report_text}
use Rattle.log_reading.specs.Lines.{IsLineOf}
use Rattle.log_audit.specs.Accepted.{IsLogged, Tells, log_part, session_text}
use Rattle.log_audit.specs.Audits.{CanRead}
use Rattle.log_audit.specs.Differences.{DifferAt}
use Rattle.log_audit.specs.FirstBad.{first_lines, text_of}
use Rattle.log_audit.specs.Lines.{AreLines, HasNames, HasNoFeed, entry_line, head_line, log_lines}
use Rattle.log_audit.specs.SessionAudits.{IsAt, IsBadSessionOn, IsCut, IsFront}
use Rattle.log_audit.specs.SessionAudits.{IsLogBehind, IsReportBehind, Keeps}
use Rattle.log_audit.specs.declared.part.Part.{Part}
use Rattle.log_audit.specs.Sessions.{IsBadSession, IsFirstOther, NoneBegins, begins_log, is_framed}
use Rattle.log_audit.specs.Sessions.{report_lines}
use Rattle.log_audit.specs.Steps.{HasTaken, MayStand, NoneMayFollow}
use Rattle.log_audit.specs.Twins.{AreTwins, Twins}
use Rattle.log_audit.proofs.Frames.{IsFramed, framed-commands}
use Rattle.log_audit.proofs.Logs.{NoneFollows, log-good, log-of_lines}
use Rattle.log_audit.proofs.Parts.{no_entry, no_piece-part, not_next, not_told, not_whole, one_part, open_part}
use Rattle.log_audit.proofs.Parts.{part-lines, report-begins}
use Rattle.log_audit.proofs.Readings.{head-good, length-log, named, read_more, spells, stands_back}
use Rattle.log_audit.proofs.Sessions.{BeginsLog, bad_end, bad_frames, bad_next, bad_part, bad_unlogged}
use Rattle.log_audit.proofs.Sessions.{behind-front, finds_log, none-framed, other-at}
use Rattle.log_audit.proofs.Sessions.{part-begins_log, session-part}
use Rattle.log_audit.proofs.Streams.{lines-append, lines-and_rest, lines-have_none, open-has_none}
use Rattle.log_audit.proofs.Streams.{open-lines, open-piece, text-append, whole-all, whole-line, whole-lines}
use Rattle.log_audit.proofs.Streams.{whole-piece}
use Rattle.log_audit.proofs.Twins.{twins_alike}

-- ---- lines one behind another

text-push : (lines : List (List ℕ)) (own : List ℕ)
    → text_of (lines ++ own ∷ []) ≡ text_of lines ++ line own
text-push lines own =
    text-append lines (own ∷ []) ∙ ap (λ (t : List ℕ). text_of lines ++ t) (append-nil (line own))

text-behind : (front back : List (List ℕ)) (more : List ℕ)
    → text_of front ++ (text_of back ++ more) ≡ text_of (front ++ back) ++ more
text-behind front back more =
    sym (append_assoc (text_of front) (text_of back) more)
    ∙ ap (λ (t : List ℕ). t ++ more) (sym (text-append front back))

length-push : (lines : List (List ℕ)) (own : List ℕ) → length (lines ++ own ∷ []) ≡ length lines + 1
length-push lines own = length-append lines (own ∷ [])

-- a text that begins with a line
lines-of_first : (lines : List (List ℕ)) (own rest : List ℕ) → AreLines lines → HasNoFeed own
    → text_of lines ≡ line own ++ rest → lines ≡ own ∷ whole_lines rest
lines-of_first lines own rest good other is =
    sym (whole-all lines good) ∙ ap whole_lines is ∙ whole-line own rest other

rest-of_first : (lines : List (List ℕ)) (own rest : List ℕ) → AreLines lines → HasNoFeed own
    → text_of lines ≡ line own ++ rest → rest ≡ text_of (whole_lines rest)
rest-of_first lines own rest good other is =
    append_cancel_left (line own) rest (text_of (whole_lines rest))
    (sym is ∙ ap text_of (lines-of_first lines own rest good other is))

-- ---- the lines before a log

none-append : (xs ys : List (List ℕ)) → NoneBegins xs → NoneBegins ys → NoneBegins (xs ++ ys)
none-append [] ys first second = second
none-append (x ∷ xs) ys first second = (first.0, none-append xs ys first.1 second)

pub front_more : (core : CoreView) (is_cut still : Bool) (kept more frames : List ℕ)
    (lines : List (List ℕ)) (own : List ℕ) → begins_log own ≡ false
    → IsFront core is_cut kept frames lines → Keeps still more (lines ++ own ∷ [])
    → IsFront core still more frames (lines ++ own ∷ [])
front_more core is_cut still kept more frames lines own other front keeps = record {
  none = none-append lines (own ∷ []) front.none (other, tt);
  keeps = keeps;
  fresh = front.fresh;
  unframed = front.unframed;
}

pub keeps-framed : (kept more : List ℕ) (lines : List (List ℕ)) (own : List ℕ)
    → kept ≡ text_of lines → more ≡ kept ++ line own → more ≡ text_of (lines ++ own ∷ [])
keeps-framed kept more lines own is pushed =
    pushed ∙ ap (λ (t : List ℕ). t ++ line own) is ∙ sym (text-push lines own)

pub keeps-cut : (kept more : List ℕ) (lines : List (List ℕ)) (own : List ℕ)
    → kept ≡ text_of lines → is_framed own ≡ false → more ≡ kept ++ line []
    → IsCut more (lines ++ own ∷ [])
keeps-cut kept more lines own is other pushed = record {
  front = lines;
  own = own;
  back = [];
  is = refl;
  other = other;
  text = keeps-framed kept more lines [] is pushed;
}

pub keeps-still : (kept : List ℕ) (lines : List (List ℕ)) (own : List ℕ) → IsCut kept lines
    → IsCut kept (lines ++ own ∷ [])
keeps-still kept lines own cut = record {
  front = cut.front;
  own = cut.own;
  back = cut.back ++ own ∷ [];
  is = ap (λ (all : List (List ℕ)). all ++ own ∷ []) cut.is
      ∙ append_assoc cut.front (cut.own ∷ cut.back) (own ∷ []);
  other = cut.other;
  text = cut.text;
}

-- the whole lines of a text with a line behind it are one more
pub whole-more : (text own : List ℕ) → HasNoFeed own
    → length (whole_lines (text ++ line own)) ≤ length (whole_lines text) + 1
whole-more text own good =
    let lines = whole_lines text in
    let rest = open_line text in
    let is : text ++ line own ≡ text_of lines ++ (rest ++ line own) =
    ap (λ (t : List ℕ). t ++ line own) (lines-and_rest text)
    ∙ append_assoc (text_of lines) rest (line own) in
    let all : whole_lines (text ++ line own) ≡ lines ++ whole_lines (rest ++ line own) =
    ap whole_lines is ∙ whole-lines lines (rest ++ line own) (lines-have_none text) in
    let one : whole_lines (rest ++ line own) ≡ (rest ++ own) ∷ [] =
    ap whole_lines (sym (append_assoc rest own (line_feed ∷ [])) ∙ sym (append-nil (line (rest ++ own))))
    ∙ whole-line (rest ++ own) []
    (All-append (λ b. (b == line_feed) ≡ false) rest own (open-has_none text) good) in
    let size : length (whole_lines (text ++ line own)) ≡ length lines + 1 =
    ap length all ∙ length-append lines (whole_lines (rest ++ line own))
    ∙ ap (λ (ls : List (List ℕ)). length lines + length ls) one in
    omega (arith, size)

-- ---- the first line of a log

pub opens : (core : CoreView) (is_cut : Bool) (kept frames : List ℕ) (lines : List (List ℕ))
    (own : List ℕ) → own ≡ head_line core.plant → IsFront core is_cut kept frames lines
    → IsLogBehind core kept frames (lines ++ own ∷ [])
opens core is_cut kept frames lines own same front = record {
  front = lines;
  none = front.none;
  is_cut = is_cut;
  keeps = front.keeps;
  log = own ∷ [];
  is = refl;
  entries = 0;
  read = record {
    history = [];
    logged = record { legal = tt; held = All-nil FitsEntry };
    is = ap (λ (first : List ℕ). first ∷ []) same;
    count = refl;
    twins = subst (λ (history : List Entry). Twins history []) (sym front.fresh) tt;
  };
  framed = front.unframed;
}

module _ (plant : Parts) (names : HasNames plant) where
  head : HasNoFeed (head_line plant)
  head = head-good plant names

  -- what begins with the first line of a log begins one
  starts : (rest : List (List ℕ)) (more : List ℕ) → AreLines (head_line plant ∷ rest)
      → BeginsLog (text_of (head_line plant ∷ rest) ++ more)
  starts rest more good = record {
    own = head_line plant;
    more = rest ++ whole_lines more;
    is = whole-lines (head_line plant ∷ rest) more good;
    begins = refl;
  }

  -- another line that begins a log is bad for good
  pub opens_bad : (front : List (List ℕ)) → AreLines front → NoneBegins front → (own : List ℕ)
      → HasNoFeed own → begins_log own ≡ true → (own ≡ head_line plant → ⊥) → (more : List ℕ)
      → IsBadSession plant (text_of (front ++ own ∷ []) ++ more) (length front + 1)
  opens_bad front good none own own_good begins other more =
      let part = text_of (own ∷ []) ++ more in
      let refuse : (rest : List ℕ) → Tells log_part plant (text_of (own ∷ []) ++ rest) → ⊥ =
      λ rest told.
      let seen : own ∷ whole_lines rest
      ≡ log_lines plant told.history ++ report_lines plant told.history =
      sym (whole-lines (own ∷ []) rest (own_good, tt)) ∙ ap whole_lines told.is
      ∙ part-lines plant (named plant names) names.distinct head told.history told.logged in
      let first : own ≡ head_line plant = cc (seen) in
      other first in
      let begun : BeginsLog part = record {
        own = own;
        more = whole_lines more;
        is = whole-lines (own ∷ []) more (own_good, tt);
        begins = begins;
      } in
      let some : Tells log_part plant (log_part plant []) = record {
        history = [];
        logged = record { legal = tt; held = All-nil FitsEntry };
        is = refl;
      } in
      subst (λ (t : List ℕ). IsBadSession plant t (length front + 1)) (text-behind front (own ∷ []) more)
      (bad_part plant names front good none part begun 1 (refuse more)
      (bad_next (Tells log_part plant) [] tt (log_part plant []) some own more own_good refuse))

  -- ---- bad lines behind the first of a log

  module _ (front : List (List ℕ)) (good : AreLines front) (none : NoneBegins front)
      (rest : List (List ℕ)) (back_good : AreLines (head_line plant ∷ rest)) (left : List ℕ)
      (is : Tells log_part plant (text_of (head_line plant ∷ rest) ++ left)) where
    abbrev back : List (List ℕ)
    back = head_line plant ∷ rest

    number : length front + (length back + 1) ≡ length (front ++ back) + 1
    number = omega (arith, length-append front back)

    pub bad_behind : (own : List ℕ) → HasNoFeed own
        → ((others : List ℕ) → Tells log_part plant (text_of (back ++ own ∷ []) ++ others) → ⊥)
        → (more : List ℕ)
        → IsBadSession plant (text_of ((front ++ back) ++ own ∷ []) ++ more) (length (front ++ back) + 1)
    bad_behind own own_good refuse more =
        let lines = back ++ own ∷ [] in
        let joined : text_of front ++ (text_of lines ++ more)
        ≡ text_of ((front ++ back) ++ own ∷ []) ++ more =
        text-behind front lines more
        ∙ ap (λ (all : List (List ℕ)). text_of all ++ more) (sym (append_assoc front back (own ∷ []))) in
        subst (λ (n : ℕ). IsBadSession plant (text_of ((front ++ back) ++ own ∷ []) ++ more) n) number
        (subst (λ (t : List ℕ). IsBadSession plant t (length front + (length back + 1))) joined
        (bad_part plant names front good none (text_of lines ++ more)
        (starts (rest ++ own ∷ []) more (lines-append back (own ∷ []) back_good (own_good, tt)))
        (length back + 1) (refuse more)
        (bad_next (Tells log_part plant) back back_good left is own more own_good refuse)))

    pub bad_there : (piece : List ℕ) → HasNoFeed piece
        → (Tells log_part plant (text_of back ++ piece) → ⊥)
        → IsBadSession plant (text_of (front ++ back) ++ piece) (length (front ++ back) + 1)
    bad_there piece piece_good refuse =
        subst (λ (n : ℕ). IsBadSession plant (text_of (front ++ back) ++ piece) n) number
        (subst (λ (t : List ℕ). IsBadSession plant t (length front + (length back + 1)))
        (text-behind front back piece)
        (bad_part plant names front good none (text_of back ++ piece) (starts rest piece back_good)
        (length back + 1) refuse
        (bad_end (Tells log_part plant) back back_good left is piece piece_good)))

  -- ---- reports line by line

  open_report : (history : List Entry) → IsLogged plant history
      → open_line (report_text plant history) ≡ []
  open_report history logged =
      sym (ap (λ (log : List ℕ). open_line (log ++ report_text plant history))
      (log-of_lines plant history)
      ∙ open-lines (log_lines plant history) (report_text plant history)
      (log-good plant (named plant names) names.distinct head history logged))
      ∙ open_part plant (named plant names) names.distinct head history

  report-of_lines : (history : List Entry) → IsLogged plant history
      → report_text plant history ≡ text_of (report_lines plant history)
  report-of_lines history logged =
      lines-and_rest (report_text plant history)
      ∙ ap (λ (t : List ℕ). text_of (report_lines plant history) ++ t) (open_report history logged)
      ∙ append-nil (text_of (report_lines plant history))

  -- the lines of a log with the first of the report begin what tells its history
  part_told : (history : List Entry) (told left : List (List ℕ)) → IsLogged plant history
      → report_lines plant history ≡ told ++ left
      → text_of (log_lines plant history ++ told) ++ text_of left ≡ log_part plant history
  part_told history told left logged split =
      sym (text-behind (log_lines plant history) told (text_of left))
      ∙ ap (λ (t : List ℕ). text_of (log_lines plant history) ++ t)
      (sym (text-append told left) ∙ ap text_of (sym split) ∙ sym (report-of_lines history logged))
      ∙ ap (λ (t : List ℕ). t ++ report_text plant history) (sym (log-of_lines plant history))

  -- lines before a log, the log, and lines of its report
  module _ (front : List (List ℕ)) (good : AreLines front) (none : NoneBegins front)
      (history : List Entry) (logged : IsLogged plant history) (told left : List (List ℕ))
      (told_good : AreLines told) (split : report_lines plant history ≡ told ++ left) where
    rest : List (List ℕ)
    rest = map (entry_line plant) history ++ told

    back_good : AreLines (head_line plant ∷ (map (entry_line plant) history ++ told))
    back_good = lines-append (log_lines plant history) told
        (log-good plant (named plant names) names.distinct head history logged) told_good

    tells : Tells log_part plant (text_of (log_lines plant history ++ told) ++ text_of left)
    tells = record { history = history; logged = logged; is = part_told history told left logged split }

    pub part_bad : (own : List ℕ) → HasNoFeed own
        → ((others : List ℕ)
        → Tells log_part plant (text_of ((log_lines plant history ++ told) ++ own ∷ []) ++ others) → ⊥)
        → (more : List ℕ)
        → IsBadSession plant (text_of ((front ++ (log_lines plant history ++ told)) ++ own ∷ []) ++ more)
        (length (front ++ (log_lines plant history ++ told)) + 1)
    part_bad own own_good refuse more =
        bad_behind front good none (map (entry_line plant) history ++ told) back_good (text_of left)
        tells own own_good refuse more

    pub part_there : (piece : List ℕ) → HasNoFeed piece
        → (Tells log_part plant (text_of (log_lines plant history ++ told) ++ piece) → ⊥)
        → IsBadSession plant (text_of (front ++ (log_lines plant history ++ told)) ++ piece)
        (length (front ++ (log_lines plant history ++ told)) + 1)
    part_there piece piece_good refuse =
        bad_there front good none (map (entry_line plant) history ++ told) back_good (text_of left)
        tells piece piece_good refuse

    -- where the text ends before the report does
    pub part_ends : (left ≡ [] → ⊥)
        → IsBadSession plant (text_of (front ++ (log_lines plant history ++ told)))
        (length (front ++ (log_lines plant history ++ told)) + 1)
    part_ends some =
        let back = log_lines plant history ++ told in
        subst (λ (t : List ℕ). IsBadSession plant t (length (front ++ back) + 1))
        (append-nil (text_of (front ++ back)))
        (part_there [] (All-nil (λ b. (b == line_feed) ≡ false))
        (λ whole. not_whole plant (named plant names) names.distinct head history told left logged
        told_good split some
        (subst (Tells log_part plant) (append-nil (text_of back)) whole)))

    -- or within a line
    pub part_cut : (piece : List ℕ) → HasNoFeed piece → 0 < length piece
        → IsBadSession plant (text_of (front ++ (log_lines plant history ++ told)) ++ piece)
        (length (front ++ (log_lines plant history ++ told)) + 1)
    part_cut piece piece_good some =
        let back = log_lines plant history ++ told in
        let left_open : open_line (text_of back ++ piece) ≡ piece =
        open-lines back piece back_good ∙ open-piece piece piece_good in
        part_there piece piece_good
        (no_piece-part plant (named plant names) names.distinct head (text_of back ++ piece)
        (subst (λ (t : List ℕ). 0 < length t) (sym left_open) some))

  -- ---- whole texts

  framed : (history : List Entry) → IsFramed (commands_text plant history)
  framed history =
      framed-commands plant history
      (recursion_from_All (λ (t : Thruster). IsTrue (is_name t.name)) plant.thrusters.items
      names.thrusters)

  module _ (front : List (List ℕ)) (good : AreLines front) (none : NoneBegins front)
      (history : List Entry) (logged : IsLogged plant history) (told : List (List ℕ))
      (told_good : AreLines told) (split : report_lines plant history ≡ told ++ []) where
    abbrev lines : List (List ℕ)
    lines = front ++ (log_lines plant history ++ told)

    part : List ℕ
    part = log_part plant history

    whole : text_of (log_lines plant history ++ told) ≡ log_part plant history
    whole =
        sym (append-nil (text_of (log_lines plant history ++ told)))
        ∙ part_told history told [] logged split

    text-whole : text_of lines ≡ text_of front ++ log_part plant history
    text-whole =
        text-append front (log_lines plant history ++ told)
        ∙ ap (λ (t : List ℕ). text_of front ++ t) whole

    -- it is all that a session writes of the history
    pub whole_told : front ≡ whole_lines (commands_text plant history)
        → text_of lines ≡ session_text plant history
    whole_told same =
        let frames = framed history in
        let all : whole_lines (commands_text plant history) ≡ frames.lines =
        ap whole_lines frames.is ∙ whole-all frames.lines frames.good in
        text-whole
        ∙ ap (λ (ls : List (List ℕ)). text_of ls ++ log_part plant history) (same ∙ all)
        ∙ ap (λ (t : List ℕ). t ++ log_part plant history) (sym frames.is)

    -- or it is bad where the lines before the log first differ from the frames
    pub whole_other : (front ≡ whole_lines (commands_text plant history) → ⊥)
        → IsBadSession plant (text_of lines)
        (common_prefix_len bytes_eq front (whole_lines (commands_text plant history)) + 1)
    whole_other other =
        let frames = framed history in
        let all : whole_lines (commands_text plant history) ≡ frames.lines =
        ap whole_lines frames.is ∙ whole-all frames.lines frames.good in
        let begun : BeginsLog (log_part plant history) = part-begins_log plant names history logged in
        let text = text_of front ++ log_part plant history in
        let log : Tells log_part plant (log_part plant history) =
        record { history = history; logged = logged; is = refl } in
        let n = common_prefix_len bytes_eq front (whole_lines (commands_text plant history)) + 1 in
        let first : IsFirstOther text (commands_text plant history ++ log_part plant history) n =
        subst (λ (t : List ℕ). IsFirstOther text (t ++ log_part plant history) n) (sym frames.is)
        (subst (λ (ls : List (List ℕ)). IsFirstOther text (text_of frames.lines ++ log_part plant history)
        (common_prefix_len bytes_eq front ls + 1)) (sym all)
        (other-at front frames.lines (log_part plant history) good frames.good none
        (none-framed frames.lines frames.each) begun (λ same. other (same ∙ sym all)))) in
        let refuse : Tells session_text plant text → ⊥ = λ session.
        let at : log_part plant history ≡ log_part plant session.history =
        sym (behind-front front good none (log_part plant history))
        ∙ session-part plant names text session (length front)
        (finds_log front good none (log_part plant history) begun) in
        let one : history ≡ session.history =
        one_part plant (named plant names) names.distinct head history session.history logged
        session.logged at in
        first.differs (ap (first_lines n)
        (session.is ∙ ap (session_text plant) (sym one))) in
        subst (λ (t : List ℕ). IsBadSession plant t n) (sym text-whole)
        (bad_frames plant names front good none (log_part plant history) begun log n refuse first)

-- ---- what is kept of the lines before a log

AreFramed : List (List ℕ) → Type 0
AreFramed lines = AllByRecursion (λ own. (is_framed own ≡ true) × (begins_log own ≡ false)) lines

-- a line that can't be a frame's is none of these
no_frame : (own other : List ℕ) → is_framed own ≡ false → is_framed other ≡ true
    → bytes_eq own other ≡ false
no_frame own other none framed = by (bytes_eq own other) refl
  where
    by : (test : Bool) → bytes_eq own other ≡ test → bytes_eq own other ≡ false
    by false is = is
    by true is =
        let same : own ≡ other = (bytes_eq-Decides own other).0 is in
        let both : true ≡ false = sym framed ∙ ap is_framed (sym same) ∙ none in
        absurd (cc (both))

prefix-cut : (front : List (List ℕ)) (own other : List ℕ) (back more frames : List (List ℕ))
    → is_framed own ≡ false → is_framed other ≡ false
    → AllByRecursion (λ l. (is_framed l ≡ true) × (begins_log l ≡ false)) frames
    → common_prefix_len bytes_eq (front ++ own ∷ back) frames
    ≡ common_prefix_len bytes_eq (front ++ other ∷ more) frames
prefix-cut [] own other back more [] first second framed = refl
prefix-cut [] own other back more (f ∷ frames) first second framed =
    ap (λ (test : Bool). cond test (1 + common_prefix_len bytes_eq back frames) 0)
    (no_frame own f first framed.0.0)
    ∙ sym (ap (λ (test : Bool). cond test (1 + common_prefix_len bytes_eq more frames) 0)
    (no_frame other f second framed.0.0))
prefix-cut (l ∷ front) own other back more [] first second framed = refl
prefix-cut (l ∷ front) own other back more (f ∷ frames) first second framed =
    ap (λ (n : ℕ). cond (bytes_eq l f) (1 + n) 0)
    (prefix-cut front own other back more frames first second framed.1)

-- lines of which one can't be a frame's are no frames
cut_apart : (front : List (List ℕ)) (own : List ℕ) (back frames : List (List ℕ))
    → is_framed own ≡ false
    → AllByRecursion (λ l. (is_framed l ≡ true) × (begins_log l ≡ false)) frames
    → front ++ own ∷ back ≡ frames → ⊥
cut_apart [] own back [] none framed same = absurd (cc (same))
cut_apart [] own back (f ∷ frames) none framed same =
    let one : own ≡ f = cc (same) in
    let both : true ≡ false = sym framed.0.0 ∙ ap is_framed (sym one) ∙ none in
    absurd (cc (both))
cut_apart (l ∷ front) own back [] none framed same = absurd (cc (same))
cut_apart (l ∷ front) own back (f ∷ frames) none framed same =
    let rest : front ++ own ∷ back ≡ frames = cc (same) in
    cut_apart front own back frames none framed.1 rest

-- what is kept differs from frames where the lines do
pub record DiffersAlike (kept : List ℕ) (lines frames : List (List ℕ)) : Type 0 where
  pub at : common_prefix_len bytes_eq (whole_lines kept) frames
      ≡ common_prefix_len bytes_eq lines frames
  pub there : whole_lines kept ≡ frames → lines ≡ frames
  pub back : lines ≡ frames → whole_lines kept ≡ frames

good-front : (xs ys : List (List ℕ)) → AreLines (xs ++ ys) → AreLines xs
good-front [] ys good = tt
good-front (x ∷ xs) ys good = (good.0, good-front xs ys good.1)

good-back : (xs ys : List (List ℕ)) → AreLines (xs ++ ys) → AreLines ys
good-back [] ys good = good
good-back (x ∷ xs) ys good = good-back xs ys good.1

pub differs-alike : (is_cut : Bool) (kept : List ℕ) (lines frames : List (List ℕ))
    → Keeps is_cut kept lines → AreLines lines
    → AllByRecursion (λ l. (is_framed l ≡ true) × (begins_log l ≡ false)) frames
    → DiffersAlike kept lines frames
differs-alike false kept lines frames keeps good framed =
    let same : whole_lines kept ≡ lines = ap whole_lines keeps ∙ whole-all lines good in
    record {
      at = ap (λ (ls : List (List ℕ)). common_prefix_len bytes_eq ls frames) same;
      there = λ is. sym same ∙ is;
      back = λ is. same ∙ is;
    }
differs-alike true kept lines frames cut good framed =
    let kept_good : AreLines (cut.front ++ [] ∷ []) =
    lines-append cut.front ([] ∷ [])
    (good-front cut.front (cut.own ∷ cut.back) (subst AreLines cut.is good))
    (All-nil (λ b. (b == line_feed) ≡ false), tt) in
    let same : whole_lines kept ≡ cut.front ++ [] ∷ [] =
    ap whole_lines cut.text ∙ whole-all (cut.front ++ [] ∷ []) kept_good in
    record {
      at = ap (λ (ls : List (List ℕ)). common_prefix_len bytes_eq ls frames) same
          ∙ prefix-cut cut.front [] cut.own [] cut.back frames refl cut.other framed
          ∙ ap (λ (ls : List (List ℕ)). common_prefix_len bytes_eq ls frames) (sym cut.is);
      there = λ is. absurd (cut_apart cut.front [] [] frames refl framed (sym same ∙ is));
      back = λ is. absurd (cut_apart cut.front cut.own cut.back frames cut.other framed
          (sym cut.is ∙ is));
    }

-- ---- what lines make of an auditor

same_length : (lines front back : List (List ℕ)) → lines ≡ front ++ back → AreLines lines → AreLines front
same_length lines front back is good = good-front front back (subst AreLines is good)

commands-push : (plant : Parts) (history : List Entry) (entry : Entry)
    → commands_text plant (history ++ entry ∷ [])
    ≡ commands_text plant history ++ command_text plant entry
commands-push plant [] entry = append-nil (command_text plant entry)
commands-push plant (first ∷ more) entry =
    ap (λ (t : List ℕ). command_text plant first ++ t) (commands-push plant more entry)
    ∙ sym (append_assoc (command_text plant first) (commands_text plant more)
    (command_text plant entry))

twins-length : (history other : List Entry) → Twins history other → length history ≡ length other
twins-length [] [] twins = refl
twins-length [] (f ∷ fs) twins = absurd twins
twins-length (e ∷ es) [] twins = absurd twins
twins-length (e ∷ es) (f ∷ fs) twins = ap suc (twins-length es fs twins.1)

-- the report doesn't depend on the thrusts of commands
report-same : (plant : Parts) (history other : List Entry) → Twins history other
    → report_text plant history ≡ report_text plant other
report-same plant history other twins =
    ap (λ (stand : Stand). report_head stand.state
    ++ flat_map group_text (zip plant.groups.items (cells_of plant stand.state).list.items)
    ++ alarms_text plant stand.alarms.ring ++ line (codes "END"))
    (twins_alike plant history other twins)

module _ (core : CoreView) (can : CanRead core) (kept frames : List ℕ) (lines : List (List ℕ))
    (good : AreLines lines) where
  abbrev plant : Parts
  plant = core.plant

  -- a text that ends before its log
  pub front_there : (is_cut : Bool) → IsFront core is_cut kept frames lines → (piece : List ℕ)
      → HasNoFeed piece → IsBadSession plant (text_of lines ++ piece) (length lines + 1)
  front_there is_cut front piece piece_good =
      let whole : whole_lines (text_of lines ++ piece) ≡ lines =
      whole-lines lines piece good
      ∙ ap (λ (ls : List (List ℕ)). lines ++ ls) (whole-piece piece piece_good) ∙ append-nil lines in
      subst (λ (n : ℕ). IsBadSession plant (text_of lines ++ piece) (n + 1)) (ap length whole)
      (bad_unlogged plant can.names (text_of lines ++ piece) (subst NoneBegins (sym whole) front.none))

  module _ (at : IsLogBehind core kept frames lines) where
    abbrev history : List Entry
    history = at.read.history

    is-log : lines ≡ at.front ++ log_lines plant history
    is-log = at.is ∙ ap (λ (log : List (List ℕ)). at.front ++ log) at.read.is

    is-told : lines ≡ at.front ++ (log_lines plant history ++ [])
    is-told = is-log ∙ ap (λ (log : List (List ℕ)). at.front ++ log)
        (sym (append-nil (log_lines plant history)))

    front-good : AreLines at.front
    front-good = same_length lines at.front at.log at.is good

    none_next : (own : List ℕ) → NoneMayFollow core own
        → NoneFollows plant (named plant can.names) can.names.distinct (head-good plant can.names)
        history own
    none_next own none entry told stands =
        none entry told (stands_back core at.log at.entries at.read can entry stands)

    -- with a line that is neither an entry's that may stand next nor the report's first it is bad
    pub log_bad : (own : List ℕ) → HasNoFeed own → NoneMayFollow core own
        → ((more : List (List ℕ)) → report_lines plant history ≡ own ∷ more → ⊥)
        → IsBadSessionOn core (lines ++ own ∷ []) (length lines + 1)
    log_bad own own_good none apart more =
        let back = log_lines plant history ++ [] in
        let nil : log_lines plant history ++ [] ≡ log_lines plant history =
        append-nil (log_lines plant history) in
        subst (λ (ls : List (List ℕ)). IsBadSession plant (text_of (ls ++ own ∷ []) ++ more) (length ls + 1))
        (sym is-told)
        (part_bad plant can.names at.front front-good at.none history at.read.logged []
        (report_lines plant history) tt refl own own_good
        (λ others told. not_next plant (named plant can.names) can.names.distinct
        (head-good plant can.names) history own others at.read.logged own_good
        (none_next own none) apart
        (subst (λ (ls : List (List ℕ)). Tells log_part plant (text_of (ls ++ own ∷ []) ++ others)) nil
        told)) more)

    -- an entry's line is no report's
    pub entry_apart : (own : List ℕ) (entry : Entry) → IsLineOf plant own entry
        → (more : List (List ℕ)) → report_lines plant history ≡ own ∷ more → ⊥
    entry_apart own entry told more is =
        no_entry plant entry (report_lines plant history) more (report-begins plant history)
        (is ∙ ap (λ (l : List ℕ). l ∷ more) (spells plant own entry told))

    log_grows : (own : List ℕ) (entry twin : Entry) (grown : List ℕ) → IsLineOf plant own entry
        → MayStand core entry → AreTwins twin entry → grown ≡ frames ++ command_text plant entry
        → IsLogBehind (record core { history = core.history ++ twin ∷ [] }) kept grown
        (lines ++ own ∷ [])
    log_grows own entry twin grown told stands twins is = record {
      front = at.front;
      none = at.none;
      is_cut = at.is_cut;
      keeps = at.keeps;
      log = at.log ++ own ∷ [];
      is = ap (λ (ls : List (List ℕ)). ls ++ own ∷ []) at.is
          ∙ append_assoc at.front at.log (own ∷ []);
      entries = length at.log;
      read = read_more core can own at.log at.entries at.read (length at.log) refl entry twin told stands
          twins;
      framed = is ∙ ap (λ (t : List ℕ). t ++ command_text plant entry) at.framed
          ∙ sym (commands-push plant history entry);
    }

    -- with the line of an entry that may stand next it is a log again
    pub log_more : (own : List ℕ) (entry : Entry) (after : CoreView) (grown : List ℕ)
        → IsLineOf plant own entry → HasTaken core after entry
        → grown ≡ frames ++ command_text plant entry
        → IsLogBehind after kept grown (lines ++ own ∷ [])
    log_more own entry after grown told taken is =
        subst (λ (c : CoreView). IsLogBehind c kept grown (lines ++ own ∷ [])) (sym taken.history)
        (log_grows own entry taken.twin grown told taken.stands taken.twins is)

    pub log_there : IsBadSession plant (text_of lines) (length lines + 1)
    log_there =
        subst (λ (ls : List (List ℕ)). IsBadSession plant (text_of ls) (length ls + 1)) (sym is-told)
        (part_ends plant can.names at.front front-good at.none history at.read.logged []
        (report_lines plant history) tt refl (λ none.
        let begins = report-begins plant history in
        let both : begins.own ∷ begins.more ≡ [] = sym begins.is ∙ none in absurd (cc (both))))

    pub log_cut : (piece : List ℕ) → HasNoFeed piece → 0 < length piece
        → IsBadSession plant (text_of lines ++ piece) (length lines + 1)
    log_cut piece piece_good some =
        subst (λ (ls : List (List ℕ)). IsBadSession plant (text_of ls ++ piece) (length ls + 1)) (sym is-told)
        (part_cut plant can.names at.front front-good at.none history at.read.logged []
        (report_lines plant history) tt refl piece piece_good some)

    module _ (report : List ℕ) (is-report : report ≡ report_text plant core.history) where
      report-text : report ≡ text_of (report_lines plant history)
      report-text =
          is-report ∙ report-same plant core.history history at.read.twins
          ∙ report-of_lines plant can.names history at.read.logged

      -- the report's first line
      pub report_begins : (own : List ℕ) → HasNoFeed own → (to : ℕ) → to ≤ length report
          → report ≡ line own ++ drop to report
          → IsReportBehind core kept frames report to (lines ++ own ∷ [])
      report_begins own own_good to within first =
          let all : text_of (report_lines plant history) ≡ line own ++ drop to report =
          sym report-text ∙ first in
          let all_good = lines-have_none (report_text plant history) in
          record {
            before = lines;
            logged = at;
            first = own;
            told = [];
            is = refl;
            left = whole_lines (drop to report);
            split = lines-of_first (report_lines plant history) own (drop to report) all_good own_good all;
            within = within;
            rest = rest-of_first (report_lines plant history) own (drop to report) all_good own_good all;
          }

      -- another line
      pub report_apart : (own : List ℕ)
          → ((more : List ℕ) → report ≡ line own ++ more → ⊥)
          → (more : List (List ℕ)) → report_lines plant history ≡ own ∷ more → ⊥
      report_apart own other more is = other (text_of more) (report-text ∙ ap text_of is)

  module _ (report : List ℕ) (taken : ℕ) (at : IsReportBehind core kept frames report taken lines) where
    abbrev told_history : List Entry
    told_history = at.logged.read.history

    before-good : AreLines at.before
    before-good = same_length lines at.before (at.first ∷ at.told) at.is good

    told-good : AreLines (at.first ∷ at.told)
    told-good = good-back at.before (at.first ∷ at.told) (subst AreLines at.is good)

    left-good : AreLines at.left
    left-good = good-back (at.first ∷ at.told) at.left
        (subst AreLines at.split (lines-have_none (report_text plant told_history)))

    front_good : AreLines at.logged.front
    front_good = same_length at.before at.logged.front at.logged.log at.logged.is before-good

    is-all : lines ≡ at.logged.front ++ (log_lines plant told_history ++ (at.first ∷ at.told))
    is-all =
        at.is
        ∙ ap (λ (ls : List (List ℕ)). ls ++ at.first ∷ at.told)
        (at.logged.is ∙ ap (λ (log : List (List ℕ)). at.logged.front ++ log) at.logged.read.is)
        ∙ append_assoc at.logged.front (log_lines plant told_history) (at.first ∷ at.told)

    -- the next line of the report
    pub report_more : (own : List ℕ) → HasNoFeed own → (to : ℕ) → to ≤ length report
        → drop taken report ≡ line own ++ drop to report
        → IsReportBehind core kept frames report to (lines ++ own ∷ [])
    report_more own own_good to within next =
        let all : text_of at.left ≡ line own ++ drop to report = sym at.rest ∙ next in
        record {
          before = at.before;
          logged = at.logged;
          first = at.first;
          told = at.told ++ own ∷ [];
          is = ap (λ (ls : List (List ℕ)). ls ++ own ∷ []) at.is
              ∙ append_assoc at.before (at.first ∷ at.told) (own ∷ []);
          left = whole_lines (drop to report);
          split = at.split
              ∙ ap (λ (ls : List (List ℕ)). (at.first ∷ at.told) ++ ls)
              (lines-of_first at.left own (drop to report) left-good own_good all)
              ∙ sym (append_assoc (at.first ∷ at.told) (own ∷ []) (whole_lines (drop to report)));
          within = within;
          rest = rest-of_first at.left own (drop to report) left-good own_good all;
        }

    -- with another line it is bad
    pub report_bad : (own : List ℕ) → HasNoFeed own
        → ((more : List ℕ) → drop taken report ≡ line own ++ more → ⊥)
        → IsBadSessionOn core (lines ++ own ∷ []) (length lines + 1)
    report_bad own own_good other more =
        subst (λ (ls : List (List ℕ)). IsBadSession plant (text_of (ls ++ own ∷ []) ++ more) (length ls + 1))
        (sym is-all)
        (part_bad plant can.names at.logged.front front_good at.logged.none told_history
        at.logged.read.logged (at.first ∷ at.told) at.left told-good at.split own own_good
        (λ others told. not_told plant (named plant can.names) can.names.distinct
        (head-good plant can.names) told_history at.first at.told at.left own others
        at.logged.read.logged told-good own_good at.split
        (λ rest is. other (text_of rest) (at.rest ∙ ap text_of is)) told) more)

    pub report_cut : (piece : List ℕ) → HasNoFeed piece → 0 < length piece
        → IsBadSession plant (text_of lines ++ piece) (length lines + 1)
    report_cut piece piece_good some =
        subst (λ (ls : List (List ℕ)). IsBadSession plant (text_of ls ++ piece) (length ls + 1)) (sym is-all)
        (part_cut plant can.names at.logged.front front_good at.logged.none told_history
        at.logged.read.logged (at.first ∷ at.told) at.left told-good at.split piece piece_good some)

    -- a text that ends before its report does
    pub report_there : taken < length report → IsBadSession plant (text_of lines) (length lines + 1)
    report_there unread =
        subst (λ (ls : List (List ℕ)). IsBadSession plant (text_of ls) (length ls + 1)) (sym is-all)
        (part_ends plant can.names at.logged.front front_good at.logged.none told_history
        at.logged.read.logged (at.first ∷ at.told) at.left told-good at.split
        (λ none.
        let size : length report - taken ≡ 0 =
        sym (length-drop taken report) ∙ ap length (at.rest ∙ ap text_of none) in
        absurd (omega (arith, size, unread))))

    -- ---- all of the report was read
    module _ (all : taken ≡ length report) where
      nothing : at.left ≡ []
      nothing =
          let none : text_of at.left ≡ [] =
          sym at.rest ∙ ap (λ (n : ℕ). drop n report) all ∙ drop_all (length report) report (omega arith) in
          sym (whole-all at.left left-good) ∙ ap whole_lines none

      split-whole : report_lines plant told_history ≡ (at.first ∷ at.told) ++ []
      split-whole = at.split ∙ ap (λ (ls : List (List ℕ)). (at.first ∷ at.told) ++ ls) nothing

      alike : DiffersAlike kept at.logged.front (whole_lines (commands_text plant told_history))
      alike =
          let frames_told = framed plant can.names told_history in
          let same : whole_lines (commands_text plant told_history) ≡ frames_told.lines =
          ap whole_lines frames_told.is ∙ whole-all frames_told.lines frames_told.good in
          subst (DiffersAlike kept at.logged.front) (sym same)
          (differs-alike at.logged.is_cut kept at.logged.front frames_told.lines at.logged.keeps
          front_good frames_told.each)

      pub session_told : whole_lines kept ≡ whole_lines frames
          → text_of lines ≡ session_text plant told_history
      session_told same =
          ap text_of is-all
          ∙ whole_told plant can.names at.logged.front front_good at.logged.none told_history
          at.logged.read.logged (at.first ∷ at.told) told-good split-whole
          (alike.there (same ∙ ap whole_lines at.logged.framed))

      pub session_other : (number : ℕ) → DifferAt (whole_lines kept) (whole_lines frames) number
          → IsBadSession plant (text_of lines) number
      session_other number differ =
          let told_frames = whole_lines (commands_text plant told_history) in
          let is : whole_lines frames ≡ told_frames = ap whole_lines at.logged.framed in
          let place : number ≡ common_prefix_len bytes_eq at.logged.front told_frames + 1 =
          differ.at
          ∙ ap (λ (ls : List (List ℕ)). common_prefix_len bytes_eq (whole_lines kept) ls + 1) is
          ∙ ap (λ (n : ℕ). n + 1) alike.at in
          subst (λ (n : ℕ). IsBadSession plant (text_of lines) n) (sym place)
          (subst (λ (ls : List (List ℕ)). IsBadSession plant (text_of ls)
          (common_prefix_len bytes_eq at.logged.front told_frames + 1)) (sym is-all)
          (whole_other plant can.names at.logged.front front_good at.logged.none told_history
          at.logged.read.logged (at.first ∷ at.told) told-good split-whole
          (λ same. differ.other (alike.back same ∙ sym is))))

      -- how many entries the machine has taken
      pub entries-taken : length core.history ≡ length told_history
      entries-taken = twins-length core.history told_history at.logged.read.twins

      pub entries-few : length core.history < length lines
      entries-few =
          let size : length (log_lines plant told_history) ≡ length told_history + 1 =
          length-log plant told_history in
          omega (
            arith,
            entries-taken,
            size,
            ap length is-all,
            length-append at.logged.front (log_lines plant told_history ++ (at.first ∷ at.told)),
            length-append (log_lines plant told_history) (at.first ∷ at.told),
          )

-- a text that is bad stays so
pub stays_bad : (before after : CoreView) (own : List ℕ) (lines : List (List ℕ)) (number : ℕ)
    → before ≡ after → IsBadSessionOn before lines number
    → IsBadSessionOn after (lines ++ own ∷ []) number
stays_bad before after own lines number same bad more =
    subst (λ (core : CoreView). IsBadSession core.plant (text_of (lines ++ own ∷ []) ++ more) number)
    same
    (subst (λ (text : List ℕ). IsBadSession before.plant text number) (text-behind lines (own ∷ []) more)
    (bad (text_of (own ∷ []) ++ more)))

pub stays_there : (core : CoreView) (lines : List (List ℕ)) (number : ℕ)
    → IsBadSessionOn core lines number → IsBadSession core.plant (text_of lines) number
stays_there core lines number bad =
    subst (λ (text : List ℕ). IsBadSession core.plant text number) (append-nil (text_of lines)) (bad [])

pub part_at : {part own : Part} → part ≡ own → (core : CoreView) (kept frames report : List ℕ)
    (lines : List (List ℕ)) → IsAt part core kept frames report lines
    → IsAt own core kept frames report lines
part_at is core kept frames report lines at =
    subst (λ (p : Part). IsAt p core kept frames report lines) is at

-- the verdict on all of a text
pub ends_told : (core : CoreView) (can : CanRead core) (kept frames : List ℕ)
    (lines : List (List ℕ)) (good : AreLines lines) (report : List ℕ) (taken : ℕ)
    (at : IsReportBehind core kept frames report taken lines) (all : taken ≡ length report)
    (entries most : ℕ) → length lines ≤ most → entries ≡ min (length core.history) most
    → whole_lines kept ≡ whole_lines frames
    → (told : Tells session_text core.plant (text_of lines)) × (entries ≡ length told.history)
ends_told core can kept frames lines good report taken at all entries most few count same =
    let less = entries-few core can kept frames lines good report taken at all in
    let told = entries-taken core can kept frames lines good report taken at all in (
      record {
        history = at.logged.read.history;
        logged = at.logged.read.logged;
        is = session_told core can kept frames lines good report taken at all same;
      },
      count ∙ omega (arith, less, few) ∙ told,
    )
