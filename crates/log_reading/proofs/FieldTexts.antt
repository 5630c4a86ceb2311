-- A text made of fields, and the fields of a text.
use Rattle.std.proofs.Common.{◌≡◌, ◌∙◌, ℕ, List, [], ◌∷◌, ◌++◌, true, false, ◌==◌, refl, ap, sym}
use Rattle.std.proofs.Common.{arith, append-nil}
use Rattle.std.proofs.lemmas.Bool.Decides.{nat_tests}
use Rattle.std.proofs.lemmas.List.Elements.{All-cons, All-nil}
use Rattle.std.proofs.lemmas.List.Splits.{join_with_byte-slice_split, slice_split_at}
use Rattle.std.proofs.lemmas.List.Splits.{slice_split_none}
use Rattle.std.specs.List.{All, join_with_byte, list_all}
use Rattle.telegram.specs.Telegrams.{comma, fields}
use Rattle.log_text.proofs.ToldFields.{IsTold, all_good-head, all_good-tail, both_true, is_field}
use Rattle.log_text.proofs.ToldFields.{is_field_byte, join-told, led}
use Rattle.log_reading.proofs.Inverses.{Fields}

no_comma_byte : (b : ℕ) → is_field_byte b ≡ true → (b == comma) ≡ false
no_comma_byte b good = grind (arith, nat_tests)

no_comma : (field : List ℕ) → is_field field ≡ true → All (λ b. (b == comma) ≡ false) field
no_comma [] good = All-nil (λ b. (b == comma) ≡ false)
no_comma (b ∷ bs) good =
    All-cons (λ b. (b == comma) ≡ false) b bs
    (no_comma_byte b (all_good-head is_field_byte b bs good))
    (no_comma bs (all_good-tail is_field_byte b bs good))

fields-led : (field : List ℕ) (more : Fields) → is_field field ≡ true
    → list_all is_field more ≡ true → fields (field ++ led more) ≡ field ∷ more
fields-led field [] good others =
    ap fields (append-nil field) ∙ slice_split_none (λ b. b == comma) field (no_comma field good)
fields-led field (next ∷ more) good others =
    let both = both_true (is_field next) (list_all is_field more) others in
    slice_split_at (λ b. b == comma) field comma (next ++ led more) (no_comma field good) refl
    ∙ ap (λ (parts : Fields). field ∷ parts) (fields-led next more both.0 both.1)

-- a text of these fields has these fields
pub fields_from_told : (text : List ℕ) (parts : Fields) → IsTold text parts → fields text ≡ parts
fields_from_told text [] told = let spelled = told.spelled in absurd (cc)
fields_from_told text (field ∷ more) told =
    let spelled = told.spelled in
    let behind : text ≡ field ++ led more = cc in
    let both = both_true (is_field field) (list_all is_field more) told.good in
    ap fields behind ∙ fields-led field more both.0 both.1

-- a text that has these fields is that text
pub text_from_fields : (text own : List ℕ) (parts : Fields) → fields text ≡ parts → IsTold own parts
    → text ≡ own
text_from_fields text own [] is told = let spelled = told.spelled in absurd (cc)
text_from_fields text own (field ∷ more) is told =
    let spelled = told.spelled in
    let behind : own ≡ field ++ led more = cc in
    sym (join_with_byte-slice_split comma text) ∙ ap (join_with_byte comma) is
    ∙ join-told field more ∙ sym behind
