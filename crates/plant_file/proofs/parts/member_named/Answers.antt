use Rattle.std.proofs.Common.{◌≡◌, ◌∙◌, ◌<◌, ◌^◌, length, map, ap, sym, rules, arith}
use Rattle.std.proofs.lemmas.List.{length-map}
use Rattle.toml.specs.View.{table_view, view}
use Rattle.plant_model.specs.declared.parts.Member.TheVariants as member
use Rattle.plant_file.specs.declared.fault.Key.TheVariants.{Name}
use Rattle.plant_file.specs.declared.fault.Part.TheVariants as part
use Rattle.plant_file.specs.Described.{names_of, number_of, text_at}
use Rattle.plant_file.specs.Faults.{elements_at}
use Rattle.plant_file.proofs.NumberLemmas.{in_first, in_second, in_third, in_last}
use Rattle.plant_file.proofs.parts.member_named.Goals as goal

pub overflow_cast-result : goal.overflow_cast-result
overflow_cast-result c =
    let doc = table_view c.args.document.now in
    let name = c.args.name.now in
    let long : length (elements_at part.Section doc) ≡ length c.elements-sections.result.now =
    ap length c.elements-sections.ensures ∙ length-map c.elements-sections.result.now view in
    let small : c.number_of-section.result < 2 ^ 32 =
    omega (arith, c.requires.short part.Section, c.number_of-section.ensures.within) in
    search rules

pub overflow_cast-result-then-tie-ties : goal.overflow_cast-result-then-tie-ties
overflow_cast-result-then-tie-ties c =
    let doc = table_view c.args.document.now in
    let name = c.args.name.now in
    let long : length (elements_at part.Tie doc) ≡ length c.elements-ties.result.now =
    ap length c.elements-ties.ensures ∙ length-map c.elements-ties.result.now view in
    let small : c.number_of-tie.result < 2 ^ 32 =
    omega (arith, c.requires.short part.Tie, c.number_of-tie.ensures.within) in
    search rules

pub overflow_cast-result-then-generator-generators :
    goal.overflow_cast-result-then-generator-generators
overflow_cast-result-then-generator-generators c =
    let doc = table_view c.args.document.now in
    let name = c.args.name.now in
    let long : length (elements_at part.Generator doc) ≡ length c.elements-generators.result.now =
    ap length c.elements-generators.ensures
    ∙ length-map c.elements-generators.result.now view in
    let small : c.number_of-generator.result < 2 ^ 32 =
    omega (arith, c.requires.short part.Generator, c.number_of-generator.ensures.within) in
    search rules

pub overflow_cast-result-2 : goal.overflow_cast-result-2
overflow_cast-result-2 c =
    let doc = table_view c.args.document.now in
    let name = c.args.name.now in
    let long : length (elements_at part.Thruster doc) ≡ length c.elements.result.now =
    ap length c.elements.ensures ∙ length-map c.elements.result.now view in
    let small : c.number_of.result < 2 ^ 32 =
    omega (arith, c.requires.short part.Thruster, c.number_of.ensures.within) in
    search rules

pub returns-then-section-sections : goal.returns-then-section-sections
returns-then-section-sections c =
    let doc = table_view c.args.document.now in
    let name = c.args.name.now in
    let s = names_of part.Section doc in
    let t = names_of part.Tie doc in
    let g = names_of part.Generator doc in
    let h = names_of part.Thruster doc in
    let s-is : c.number_of-section.result ≡ number_of name (names_of part.Section doc) =
    c.number_of-section.ensures.place
    ∙ ap (λ ds. number_of c.args.name.now (map (text_at Name) ds))
    (sym c.elements-sections.ensures) in
    let s-long : length (names_of part.Section doc) ≡ length c.elements-sections.result.now =
    length-map (elements_at part.Section doc) (text_at Name)
    ∙ ap length c.elements-sections.ensures
    ∙ length-map c.elements-sections.result.now view in
    ap member.Section s-is ∙ sym (in_first name s t g h (omega (arith, s-is, s-long)))

pub returns-then-tie-ties : goal.returns-then-tie-ties
returns-then-tie-ties c =
    let doc = table_view c.args.document.now in
    let name = c.args.name.now in
    let s = names_of part.Section doc in
    let t = names_of part.Tie doc in
    let g = names_of part.Generator doc in
    let h = names_of part.Thruster doc in
    let s-is : c.number_of-section.result ≡ number_of name (names_of part.Section doc) =
    c.number_of-section.ensures.place
    ∙ ap (λ ds. number_of c.args.name.now (map (text_at Name) ds))
    (sym c.elements-sections.ensures) in
    let s-long : length (names_of part.Section doc) ≡ length c.elements-sections.result.now =
    length-map (elements_at part.Section doc) (text_at Name)
    ∙ ap length c.elements-sections.ensures
    ∙ length-map c.elements-sections.result.now view in
    let t-is : c.number_of-tie.result ≡ number_of name (names_of part.Tie doc) =
    c.number_of-tie.ensures.place
    ∙ ap (λ ds. number_of c.args.name.now (map (text_at Name) ds))
    (sym c.elements-ties.ensures) in
    let t-long : length (names_of part.Tie doc) ≡ length c.elements-ties.result.now =
    length-map (elements_at part.Tie doc) (text_at Name) ∙ ap length c.elements-ties.ensures
    ∙ length-map c.elements-ties.result.now view in
    ap member.Tie t-is
    ∙ sym (in_second name s t g h (omega (arith, s-is, s-long)) (omega (arith, t-is, t-long)))

pub returns-then-generator-generators : goal.returns-then-generator-generators
returns-then-generator-generators c =
    let doc = table_view c.args.document.now in
    let name = c.args.name.now in
    let s = names_of part.Section doc in
    let t = names_of part.Tie doc in
    let g = names_of part.Generator doc in
    let h = names_of part.Thruster doc in
    let s-is : c.number_of-section.result ≡ number_of name (names_of part.Section doc) =
    c.number_of-section.ensures.place
    ∙ ap (λ ds. number_of c.args.name.now (map (text_at Name) ds))
    (sym c.elements-sections.ensures) in
    let s-long : length (names_of part.Section doc) ≡ length c.elements-sections.result.now =
    length-map (elements_at part.Section doc) (text_at Name)
    ∙ ap length c.elements-sections.ensures
    ∙ length-map c.elements-sections.result.now view in
    let t-is : c.number_of-tie.result ≡ number_of name (names_of part.Tie doc) =
    c.number_of-tie.ensures.place
    ∙ ap (λ ds. number_of c.args.name.now (map (text_at Name) ds))
    (sym c.elements-ties.ensures) in
    let t-long : length (names_of part.Tie doc) ≡ length c.elements-ties.result.now =
    length-map (elements_at part.Tie doc) (text_at Name) ∙ ap length c.elements-ties.ensures
    ∙ length-map c.elements-ties.result.now view in
    let g-is : c.number_of-generator.result ≡ number_of name (names_of part.Generator doc) =
    c.number_of-generator.ensures.place
    ∙ ap (λ ds. number_of c.args.name.now (map (text_at Name) ds))
    (sym c.elements-generators.ensures) in
    let g-long : length (names_of part.Generator doc) ≡ length c.elements-generators.result.now =
    length-map (elements_at part.Generator doc) (text_at Name)
    ∙ ap length c.elements-generators.ensures
    ∙ length-map c.elements-generators.result.now view in
    ap member.Generator g-is
    ∙ sym (in_third name s t g h (omega (arith, s-is, s-long)) (omega (arith, t-is, t-long))
    (omega (arith, g-is, g-long)))

pub returns : goal.returns
returns c =
    let doc = table_view c.args.document.now in
    let name = c.args.name.now in
    let s = names_of part.Section doc in
    let t = names_of part.Tie doc in
    let g = names_of part.Generator doc in
    let h = names_of part.Thruster doc in
    let s-is : c.number_of-section.result ≡ number_of name (names_of part.Section doc) =
    c.number_of-section.ensures.place
    ∙ ap (λ ds. number_of c.args.name.now (map (text_at Name) ds))
    (sym c.elements-sections.ensures) in
    let s-long : length (names_of part.Section doc) ≡ length c.elements-sections.result.now =
    length-map (elements_at part.Section doc) (text_at Name)
    ∙ ap length c.elements-sections.ensures
    ∙ length-map c.elements-sections.result.now view in
    let t-is : c.number_of-tie.result ≡ number_of name (names_of part.Tie doc) =
    c.number_of-tie.ensures.place
    ∙ ap (λ ds. number_of c.args.name.now (map (text_at Name) ds))
    (sym c.elements-ties.ensures) in
    let t-long : length (names_of part.Tie doc) ≡ length c.elements-ties.result.now =
    length-map (elements_at part.Tie doc) (text_at Name) ∙ ap length c.elements-ties.ensures
    ∙ length-map c.elements-ties.result.now view in
    let g-is : c.number_of-generator.result ≡ number_of name (names_of part.Generator doc) =
    c.number_of-generator.ensures.place
    ∙ ap (λ ds. number_of c.args.name.now (map (text_at Name) ds))
    (sym c.elements-generators.ensures) in
    let g-long : length (names_of part.Generator doc) ≡ length c.elements-generators.result.now =
    length-map (elements_at part.Generator doc) (text_at Name)
    ∙ ap length c.elements-generators.ensures
    ∙ length-map c.elements-generators.result.now view in
    let h-is : c.number_of.result ≡ number_of name (names_of part.Thruster doc) =
    c.number_of.ensures.place
    ∙ ap (λ ds. number_of c.args.name.now (map (text_at Name) ds))
    (sym c.elements.ensures) in
    let h-long : length (names_of part.Thruster doc) ≡ length c.elements.result.now =
    length-map (elements_at part.Thruster doc) (text_at Name) ∙ ap length c.elements.ensures
    ∙ length-map c.elements.result.now view in
    ap member.Thruster h-is
    ∙ sym (in_last name s t g h (omega (arith, s-is, s-long)) (omega (arith, t-is, t-long))
    (omega (arith, g-is, g-long)))
