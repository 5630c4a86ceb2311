use Rattle.std.proofs.Common.{◌≡◌, ◌∙◌, List, length, Some, None, refl, ap, sym}
use Rattle.std.proofs.lemmas.Bool.{ltb-false, ltb-true}
use Rattle.std.proofs.lemmas.Option.{slice_get_past, slice_get_read}
use Rattle.std.specs.Prelude.{option_map, slice_get}
use Rattle.toml.specs.Data.{Data}
use Rattle.toml.specs.View.{view}
use Rattle.plant_file.specs.Documents.{text_in}
use Rattle.plant_file.specs.Described.{list_at}
use Rattle.plant_file.proofs.NumberLemmas.{slice_get-map}
use Rattle.plant_file.proofs.document.text_at_place.Goals as goal

pub returns-in-Some : goal.returns-in-Some
returns-in-Some c =
    let place = c.args.place in
    let ds = list_at c.args.key (view c.args.value.now) in
    let elements = c.list_at.result.now in
    let found : slice_get elements place ≡ Some c.in-Some.element.now =
    slice_get_read elements (length elements) place c.in-Some.element.now refl
    (ltb-true place (length elements) (sym c.in-Some.ensures.lookup.0))
    c.in-Some.ensures.lookup.1 in
    let one : slice_get ds place ≡ Some (view c.in-Some.element.now) =
    ap (λ (es : List Data). slice_get es place) (sym c.list_at.ensures)
    ∙ slice_get-map view elements place ∙ ap (option_map view) found in
    ap Some c.text.ensures ∙ sym (slice_get-map text_in ds place ∙ ap (option_map text_in) one)

pub returns-in-None : goal.returns-in-None
returns-in-None c =
    let place = c.args.place in
    let ds = list_at c.args.key (view c.args.value.now) in
    let elements = c.list_at.result.now in
    let missing : slice_get elements place ≡ None =
    slice_get_past elements place
    (ltb-false place (length elements) (sym c.in-None.ensures.lookup.0)) in
    let none : slice_get ds place ≡ None =
    ap (λ (es : List Data). slice_get es place) (sym c.list_at.ensures)
    ∙ slice_get-map view elements place ∙ ap (option_map view) missing in
    sym (slice_get-map text_in ds place ∙ ap (option_map text_in) none)
